-- The series of a container folded by an aggregate list, in the order of their keys.
use Rattle.std.specs.Prelude.{◌≡◌, ℕ, ◌==◌, ℤ, if◌then◌else◌, Option, Some, None, List, [], ◌∷◌, ◌++◌, length}
use Rattle.std.specs.List.{flat_map}
use Rattle.std.specs.FinMap.{values}
use Rattle.ts_row.specs.Row.{Row}
use Rattle.ts_expr.specs.Aggregates.{Binding}
use Rattle.ts_model.specs.declared.kind.Kind.TheVariants as kinds
use Rattle.ts_model.specs.Definitions.{SeriesDef, at_slot, slots, slots_by_name}
use Rattle.ts_layout.specs.Meaning.{Layout, elements_at}
use Rattle.ts_answer.specs.Answer.{scales_of, folded_range}
use Rattle.ts_answer.specs.Reply.{series_folded_line}

-- what a list makes of the series in a slot, with its key, if it stands in the container in a slot
abbrev pub folded_if : Binding → ℤ → ℤ → Layout → ℕ → ℕ → Option SeriesDef → List (List ℕ × Row)
folded_if b from to l container slot None = []
folded_if b from to l container slot (Some s) =
    if s.container == container then (s.key, folded_range b from to (elements_at slot l.element_pages)) ∷ [] else []

abbrev pub folded_at : Binding → ℤ → ℤ → Layout → ℕ → ℕ → List (List ℕ × Row)
folded_at b from to l container slot = folded_if b from to l container slot (at_slot slot l.definitions.series)

-- of all series of the container in a slot, in the order of their keys
abbrev pub folded_in : Binding → ℤ → ℤ → Layout → ℕ → List (List ℕ × Row)
folded_in b from to l container = flat_map (folded_at b from to l container)
    (values (slots_by_name (slots kinds.Series l.definitions)))

-- so many series are said in lines, behind what was said before
pub record AreSaid (b : Binding) (rows : List (List ℕ × Row)) (out said : List ℕ) (count : ℕ) : Type 0 where
  pub lines : said ≡ out ++ flat_map (series_folded_line (scales_of b)) rows
  pub number : count ≡ length rows
