-- What two series come to that are seen, by what was said of them.
use Rattle.std.proofs.Common.{◌≡◌, ℕ, ◌+◌, ◌<◌, ◌≤◌, ℤ, Bool, IsTrue, Result, Ok, Err, Some, List, [], ◌++◌, length, refl, ap, sym, subst, ◌∙◌, arith}
use Rattle.std.specs.List.{flat_map}
use Rattle.ts_base.specs.declared.fault.Trouble.{Trouble}
use Rattle.ts_base.specs.declared.refusal.Refusal.{Refusal}
use Rattle.ts_base.specs.declared.refusal.Refusal.TheVariants.{TooLarge}
use Rattle.ts_page.specs.Pages.{Contents}
use Rattle.ts_row.specs.declared.kind.Column.{Column}
use Rattle.ts_row.specs.Row.{Heading, Element, seen}
use Rattle.ts_space.specs.Directory.{places_of}
use Rattle.ts_pattern.specs.declared.junction.Junction.{Junction}
use Rattle.ts_pattern.specs.declared.junction.Junction.TheVariants.{And, Or}
use Rattle.ts_offset.specs.declared.shape.Shape.{Shape}
use Rattle.ts_offset.specs.declared.shape.Shape.TheVariants.{Irregular, Regular}
use Rattle.ts_base.specs.Answer.{most_rows, within_rows}
use Rattle.ts_clip.specs.Series.{HaveElements}
use Rattle.ts_combine.specs.Combine.{Side, joined, joined_of, joined_on}
use Rattle.ts_combine.specs.Call.{HaveNoGrid}
use Rattle.ts_model.specs.Catalogue.{Series, Catalogue, columns_of, shape_of}
use Rattle.ts_layout.specs.Meaning.{Layout, catalogue_of}
use Rattle.ts_answer.specs.Answer.{Answered, ◌>>=◌, known, wanted, outcome, carried_out, join_series, seen_elements}
use Rattle.ts_answer.specs.Reply.{element_line, elements_text, count_line}
use Rattle.ts_answer.specs.Tried.{IsRefusedAs}
use Rattle.ts_answer.specs.View.{View, view, Shows}
use Rattle.ts_answer.proofs.CallerLemmas.{on_ok, on_err, refused_as}
use Rattle.ts_shelf.specs.Shelf.{IsShelf}
use Rattle.ts_combined_rows.specs.Combining.{join_of, side_with}
use Rattle.ts_combined_rows.specs.Pairs.{AreAdded, AreTold, CanBeJoined, IsPartSaid, columns_in, joined_by}
use Rattle.ts_combined_rows.specs.declared.pairs.Pair.{Pair}
use Rattle.ts_combined_rows.proofs.PairLemmas.{few_are, many_are, cut_told, few_rows}
use Rattle.ts_combined_rows.proofs.SeenSideLemmas.{IsSide, seen_es, seen_told, side_seen}

-- what two come to
joins : (junction : Junction) (key key' : List ℕ) (from to : ℤ) (cat : Catalogue) → outcome (Ok (join_of junction key key' from to)) cat ≡ join_series junction key key' from to cat
unfolding outcome carried_out
joins And key key' from to cat = refl
joins Or key key' from to cat = refl

-- a key that no series has
pub first_unknown : (junction : Junction) (key key' : List ℕ) (from to : ℤ) (cat : Catalogue) (trouble : Trouble) → IsRefusedAs trouble (wanted key cat.series) → IsRefusedAs trouble (outcome (Ok (join_of junction key key' from to)) cat)
unfolding join_series
first_unknown junction key key' from to cat trouble is = subst (IsRefusedAs trouble) (sym (joins junction key key' from to cat)) (refused_as trouble _ _ is)

pub second_unknown : (junction : Junction) (key key' : List ℕ) (from to : ℤ) (cat : Catalogue) (trouble : Trouble) (series : Series) → wanted key cat.series ≡ Ok series → IsRefusedAs trouble (wanted key' cat.series)
    → IsRefusedAs trouble (outcome (Ok (join_of junction key key' from to)) cat)
unfolding join_series
second_unknown junction key key' from to cat trouble series there is = subst (IsRefusedAs trouble) (sym (joins junction key key' from to cat ∙ on_ok _ series _ there)) (refused_as trouble _ _ is)

-- two series on grids that don't meet, whatever their elements are
no_grid : (junction : Junction) (a b : Side) (shape shape' : Shape) (from to : ℤ) (why : Refusal) → HaveNoGrid shape shape' why → joined_of junction a b shape shape' from to ≡ Err why
no_grid junction a b (Regular g) (Regular h) from to why none = ap (joined_on junction a g b h from to) none
no_grid junction a b (Regular g) Irregular from to why none = absurd none
no_grid junction a b Irregular (Regular h) from to why none = absurd none
no_grid junction a b Irregular Irregular from to why none = absurd none

abbrev side_in : Catalogue → Shape → Series → Side
side_in cat shape series = record { shape = shape; columns = length (columns_of cat series); elements = seen_elements series.elements }

pub joins_nowhere : (junction : Junction) (key key' : List ℕ) (from to : ℤ) (cat : Catalogue) (shape shape' : Shape) (why : Refusal) (one other : Series) → wanted key cat.series ≡ Ok one → wanted key' cat.series ≡ Ok other
    → shape_of cat one.kind ≡ Some shape → shape_of cat other.kind ≡ Some shape' → HaveNoGrid shape shape' why → outcome (Ok (join_of junction key key' from to)) cat ≡ Err why
unfolding join_series
joins_nowhere junction key key' from to cat shape shape' why one other there there' lies lies' none =
    joins junction key key' from to cat ∙ on_ok _ one _ there ∙ on_ok _ other _ there' ∙ on_ok (known (shape_of cat one.kind)) shape _ (ap known lies) ∙ on_ok (known (shape_of cat other.kind)) shape' _ (ap known lies')
    ∙ on_err _ why _ (no_grid junction (side_in cat shape one) (side_in cat shape' other) shape shape' from to why none)

module _ (cat : Catalogue) (key key' : List ℕ) (shape shape' : Shape) (columns columns' : List Column) (es fs : List Element) (one : IsSide cat key shape columns es) (other : IsSide cat key' shape' columns' fs) (junction : Junction) (from to : ℤ) where
  join_comes : outcome (Ok (join_of junction key key' from to)) cat
      ≡ (joined junction (side_with shape columns es) (side_with shape' columns' fs) from to >>= (λ rows. let a : Answered = (elements_text (columns ++ columns') rows, cat) in Ok a))
  unfolding join_series
  join_comes =
      joins junction key key' from to cat ∙ on_ok _ one.series _ one.there ∙ on_ok _ other.series _ other.there
      ∙ on_ok (known (shape_of cat one.series.kind)) shape _ (ap known one.lies) ∙ on_ok (known (shape_of cat other.series.kind)) shape' _ (ap known other.lies)
      ∙ (λ i. joined junction (side_with shape (one.columns_are i) (one.elements i)) (side_with shape' (other.columns_are i) (other.elements i)) from to
      >>= (λ rows. let a : Answered = (elements_text (one.columns_are i ++ other.columns_are i) rows, cat) in Ok a))

-- two series that were read, a part of the range after the other
module _ (tells : Bool) (pair : Pair) (c : Contents) (can : CanBeJoined pair c) (key key' : List ℕ)
    (found : IsShelf pair.first.now.1 pair.first.now.0.series pair.first.now.0.kind.now key pair.defs.now.definitions)
    (found' : IsShelf pair.second.now.1 pair.second.now.0.series pair.second.now.0.kind.now key' pair.defs.now.definitions) (from to : ℤ) where
  abbrev x : View
  x = view pair.defs.now.definitions pair.space.now c

  module _ (told : IsTrue tells) (l : Layout) (shows : Shows tells x l) where
    abbrev cat : Catalogue
    cat = catalogue_of l

    abbrev answer : Result Answered Refusal
    answer = outcome (Ok (join_of pair.junction key key' from to)) cat

    abbrev first : Heading
    first = pair.first.now.0.kind.now

    abbrev second : Heading
    second = pair.second.now.0.kind.now

    one : (es : List Element) × HaveElements pair.first.now.1 pair.first.now.0.series first.columns c.page (places_of pair.first.now.0.series pair.space.now) es
        × (seen_es tells x l told shows pair.first.now.1 can.first.laid pair.first.now.0.series first key found ≡ seen es)
    one = seen_told tells x l told shows pair.first.now.1 can.first.laid pair.first.now.0.series first key found

    other : (es : List Element) × HaveElements pair.second.now.1 pair.second.now.0.series second.columns c.page (places_of pair.second.now.0.series pair.space.now) es
        × (seen_es tells x l told shows pair.second.now.1 can.second.laid pair.second.now.0.series second key' found' ≡ seen es)
    other = seen_told tells x l told shows pair.second.now.1 can.second.laid pair.second.now.0.series second key' found'

    rows : List Element
    rows = (cut_told pair c can one.0 other.0 one.1 other.1).rows from to

    abbrev say : List Element → Result Answered Refusal
    say es = let a : Answered = (elements_text (columns_in pair) es, cat) in Ok a

    come : answer ≡ (within_rows rows >>= say)
    unfolding rows
    come =
        join_comes cat key key' pair.first.now.1 pair.second.now.1 first.columns second.columns _ _
        (side_seen tells x l told shows pair.first.now.1 can.first.laid pair.first.now.0.series first key found)
        (side_seen tells x l told shows pair.second.now.1 can.second.laid pair.second.now.0.series second key' found') pair.junction from to
        ∙ (λ i. joined_by pair (one.2 i) (other.2 i) from to >>= say)
        ∙ ap (λ (t : Result (List Element) Refusal). t >>= say) ((cut_told pair c can one.0 other.0 one.1 other.1).are from to)

    -- what was said of them, behind nothing
    module _ (count : ℕ) (out said : List ℕ) (read : AreTold tells pair c (λ es fs. IsPartSaid pair es fs from to 0 out count said)) where
      added : AreAdded (columns_in pair) rows 0 out count said
      unfolding rows
      added = read told one.0 one.1 told other.0 other.1 rows ((cut_told pair c can one.0 other.0 one.1 other.1).are from to)

      number : count ≡ length rows
      unfolding rows
      number = let is = added.number (few_rows pair c can one.0 other.0 one.1 other.1 from to) in omega (arith, is)

      pub join_many : most_rows < count → answer ≡ Err (TooLarge count)
      join_many many =
          let is = number in
          come ∙ on_err (within_rows rows) (TooLarge (length rows)) say (many_are rows (omega (arith, many, is))) ∙ ap (λ (n : ℕ). Err (TooLarge n)) (sym number)

      pub join_said : (all : List ℕ) → count ≤ most_rows → out ≡ [] → all ≡ said ++ count_line count → answer ≡ Ok (all, cat)
      unfolding elements_text
      join_said all few none counted =
          let is = number in
          let lines : said ≡ flat_map (element_line (columns_in pair)) rows = added.lines few ∙ ap (λ (l : List ℕ). l ++ flat_map (element_line (columns_in pair)) rows) none in
          let text : elements_text (columns_in pair) rows ≡ all = sym (counted ∙ (λ i. lines i ++ count_line (number i))) in
          come ∙ on_ok (within_rows rows) rows say (few_are rows (omega (arith, few, is))) ∙ ap (λ (text : List ℕ). let a : Answered = (text, cat) in Ok a) text
