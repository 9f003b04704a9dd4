-- Two series as one, a part of the range after the other: what is said of each part behind what was said before.
use Rattle.std.specs.Prelude.{◌≡◌, ℕ, ◌+◌, ◌<◌, ◌≤◌, ◌^◌, ℤ, Bool, Result, List, ◌++◌, length}
use Rattle.std.specs.List.{flat_map}
use Rattle.ts_base.specs.declared.refusal.Refusal.{Refusal}
use Rattle.ts_page.specs.Pages.{Contents}
use Rattle.ts_row.specs.declared.kind.Column.{Column}
use Rattle.ts_row.specs.Row.{Element, seen}
use Rattle.ts_space.specs.Directory.{places_of}
use Rattle.ts_base.specs.Answer.{most_rows, within_rows}
use Rattle.ts_clip.specs.Series.{IsTold}
use Rattle.ts_combine.specs.Combine.{joined}
use Rattle.ts_answer.specs.Reply.{element_line}
use Rattle.ts_combined_rows.specs.Combining.{IsReadable, HaveGrid, side_with}
use Rattle.ts_combined_rows.specs.declared.pairs.Pair.{Pair}

-- the pages of both can be read, and they have a grid in common or one of them lies on none
pub record CanBeJoined (pair : Pair) (c : Contents) : Type 0 where
  pub first : IsReadable pair.first.now.1 pair.first.now.0.series pair.first.now.0.kind.now.columns
      pair.defs.now.definitions (places_of pair.first.now.0.series pair.space.now) c
  pub second : IsReadable pair.second.now.1 pair.second.now.0.series pair.second.now.0.kind.now.columns
      pair.defs.now.definitions (places_of pair.second.now.0.series pair.space.now) c
  pub grid : HaveGrid pair.first.now.1 pair.second.now.1

-- Where the pages are told, this holds of the elements of both that aren't hidden.
abbrev pub AreTold : Bool → Pair → Contents → (List Element → List Element → Type 0) → Type 0
AreTold tells pair v Holds =
    IsTold tells pair.first.now.1 pair.first.now.0.series pair.first.now.0.kind.now.columns
    (places_of pair.first.now.0.series pair.space.now) v
    (λ es. IsTold tells pair.second.now.1 pair.second.now.0.series pair.second.now.0.kind.now.columns
    (places_of pair.second.now.0.series pair.space.now) v (λ fs. Holds (seen es) (seen fs)))

-- the columns of both
abbrev pub columns_in : Pair → List Column
columns_in pair = pair.first.now.0.kind.now.columns ++ pair.second.now.0.kind.now.columns

-- what these elements of each come to as one
abbrev pub joined_by : Pair → List Element → List Element → ℤ → ℤ → Result (List Element) Refusal
joined_by pair es fs from to =
    joined pair.junction (side_with pair.first.now.1 pair.first.now.0.kind.now.columns es)
    (side_with pair.second.now.1 pair.second.now.0.kind.now.columns fs) from to

-- rows are counted behind so many others, and said behind what was said unless they are too many together
pub record AreAdded (columns : List Column) (rows : List Element) (count : ℕ) (out : List ℕ) (all : ℕ)
    (said : List ℕ) : Type 0 where
  pub more : count ≤ all
  pub number : count + length rows < 2 ^ 64 → all ≡ count + length rows
  pub lines : all ≤ most_rows → said ≡ out ++ flat_map (element_line columns) rows

-- the rows that these elements of each come to from one stamp to another are added
abbrev pub IsPartSaid : Pair → List Element → List Element → ℤ → ℤ → ℕ → List ℕ → ℕ → List ℕ → Type 0
IsPartSaid pair es fs from to count out all said =
    (rows : List Element) → joined_by pair es fs from to ≡ within_rows rows
    → AreAdded (columns_in pair) rows count out all said
