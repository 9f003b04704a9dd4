-- What Intersect lists is part of what Union lists.
use Rattle.std.specs.Prelude.{Contains}
use Rattle.std.proofs.Common.{◌≡◌, ◌≤◌, Bool, cond, Option, Some, None, Result, Ok, Err, List, ◌++◌, length, filter_map, inl, inr, refl, sym, ap, subst, ◌∙◌, arith, ℤ}
use Rattle.std.proofs.lemmas.Bool.{le-ltb, lt-ltb, cases_lt}
use Rattle.ts_base.specs.declared.refusal.Refusal.{Refusal}
use Rattle.ts_base.specs.declared.refusal.Refusal.TheVariants as refusals
use Rattle.ts_row.specs.Row.{Row, Element}
use Rattle.ts_pattern.specs.declared.junction.Junction.TheVariants.{And, Or}
use Rattle.ts_calendar.specs.Calendars.{common_grid}
use Rattle.ts_calendar.specs.declared.grid.CommonGrid.{CommonGrid}
use Rattle.ts_irregular.specs.Edit.{element_at}
use Rattle.ts_offset.specs.Grid.{starts_between, GridPlan}
use Rattle.ts_offset.specs.declared.shape.Shape.{Shape}
use Rattle.ts_offset.specs.declared.shape.Shape.TheVariants as shapes
use Rattle.ts_base.specs.Answer.{within_rows}
use Rattle.ts_combine.specs.Combine.{Side, every_start, row_around, joined_at, joined_on, joined_there, joined_of, joined, merged_stamps, stamps_between}
use Rattle.ts_model.specs.Catalogue.{columns_of, shape_of}
use Rattle.ts_answer.specs.Answer.{Answered, outcome, carried_out, wanted, known, join_series}
use Rattle.ts_answer.specs.Elements.{a_side}
use Rattle.ts_answer.specs.Reply.{elements_text}
use Rattle.ts_answer.proofs.CallerLemmas.{on_ok}
use Rattle.ts_answer_laws.specs.ReadingLaws.{IntersectionsArePartOfUnions}
use Rattle.ts_answer_laws.proofs.RowLemmas.{Among, among_from, among_contains, among_more, fewer_taken}
use Rattle.ts_answer_laws.proofs.ClipLemmas.{few_rows}
use Rattle.ts_answer_laws.proofs.CameLemmas.{came, same_answer}

-- what comes to some elements, all of them among others
record Fewer (tried : Result (List Element) Refusal) (all : List Element) : Type 0 where
  rows : List Element
  is : tried ≡ Ok rows
  among : (e : Element) → Contains rows e → Contains all e

-- rows that aren't too many
within_is : {A : Type 0} (rows all : List A) → within_rows rows ≡ Ok all → length rows ≤ 1_000_000
within_is {A} rows all is = elim (cases_lt 1_000_000 (length rows)) [
  | inl many ↦ absurd (let no = sym (ap (λ (b : Bool). cond b (Err (refusals.TooLarge (length rows))) (let r : Result (List A) Refusal = Ok rows in r)) (lt-ltb 1_000_000 (length rows) many)) ∙ is in cc)
  | inr few ↦ few
]

within_few : {A : Type 0} (rows : List A) → length rows ≤ 1_000_000 → within_rows rows ≡ Ok rows
within_few rows few = ap (λ (b : Bool). cond b (Err (refusals.TooLarge (length rows))) (Ok rows)) (le-ltb 1_000_000 (length rows) few)

fewer_rows : {A : Type 0} (f g : A → Option Element) (xs : List A) (all : List Element) → ((x : A) (e : Element) → g x ≡ Some e → f x ≡ Some e)
    → within_rows (filter_map f xs) ≡ Ok all → Fewer (within_rows (filter_map g xs)) all
fewer_rows f g xs all takes is =
    let few = within_is (filter_map f xs) all is in
    let same = few_rows (filter_map f xs) all is in
    record {
      rows = filter_map g xs;
      is = within_few (filter_map g xs) (omega (arith, few, fewer_taken f g xs takes));
      among = λ e there. among_contains all e (subst (λ (l : List Element). Among e l) same (among_more f g xs takes e (among_from (filter_map g xs) e there)));
    }

-- where both have a row, one at least has
one_at_least : (a b : Side) (stamp : ℤ) (x y : Option Row) (e : Element) → joined_at And a b stamp x y ≡ Some e → joined_at Or a b stamp x y ≡ Some e
one_at_least a b stamp None y e is = absurd (cc)
one_at_least a b stamp (Some row) None e is = absurd (cc)
one_at_least a b stamp (Some row) (Some other) e is = is

module _ (a b : Side) (from to : ℤ) (all : List Element) where
  fewer_on : (g h : GridPlan) (grid : Result CommonGrid Refusal) → joined_on Or a g b h from to grid ≡ Ok all → Fewer (joined_on And a g b h from to grid) all
  fewer_on g h (Err why) is = absurd (cc)
  fewer_on g h (Ok grid) is = fewer_rows _ _ (starts_between (every_start g.calendar h.calendar grid) from to) all (λ s e. one_at_least a b s (row_around g a.elements s) (row_around h b.elements s) e) is

  fewer_there : joined_there Or a b from to ≡ Ok all → Fewer (joined_there And a b from to) all
  fewer_there is = fewer_rows _ _ (stamps_between from to (merged_stamps a.elements b.elements)) all (λ s e. one_at_least a b s (element_at s a.elements) (element_at s b.elements) e) is

  fewer_of : (x y : Shape) → joined_of Or a b x y from to ≡ Ok all → Fewer (joined_of And a b x y from to) all
  fewer_of (shapes.Regular g) (shapes.Regular h) is = fewer_on g h (common_grid g.calendar h.calendar) is
  fewer_of (shapes.Regular g) shapes.Irregular is = fewer_there is
  fewer_of shapes.Irregular (shapes.Regular h) is = fewer_there is
  fewer_of shapes.Irregular shapes.Irregular is = fewer_there is

pub intersection_part : IntersectionsArePartOfUnions
unfolding outcome carried_out join_series
intersection_part cat whole first second from to is =
    let a = came (wanted first cat.series) _ whole is in
    let b = came (wanted second cat.series) _ whole a.2 in
    let shape = came (known (shape_of cat a.0.kind)) _ whole b.2 in
    let other = came (known (shape_of cat b.0.kind)) _ whole shape.2 in
    let one = a_side a.0 shape.0 cat in
    let two = a_side b.0 other.0 cat in
    let rows = came (joined Or one two from to) _ whole other.2 in
    let columns = columns_of cat a.0 ++ columns_of cat b.0 in
    let fewer = fewer_of one two from to rows.0 shape.0 other.0 rows.1 in
    let part : Answered = (elements_text columns fewer.rows, cat) in (
      part,
      on_ok (wanted first cat.series) a.0 _ a.1 ∙ on_ok (wanted second cat.series) b.0 _ b.1 ∙ on_ok (known (shape_of cat a.0.kind)) shape.0 _ shape.1
          ∙ on_ok (known (shape_of cat b.0.kind)) other.0 _ other.1 ∙ on_ok (joined And one two from to) fewer.rows _ fewer.is,
      record {
        columns = columns;
        rows = rows.0;
        fewer = fewer.rows;
        among = fewer.among;
        lines = same_answer (elements_text columns rows.0, cat) whole rows.2;
        part_lines = refl;
      },
    )
