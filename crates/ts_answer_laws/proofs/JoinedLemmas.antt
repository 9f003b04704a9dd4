-- What Union and Intersect list by the stamps of elements.
use Rattle.std.specs.Prelude.{Contains, int_lt}
use Rattle.std.proofs.Common.{◌≡◌, ◌⊎◌, Bool, true, false, cond, ◌&&◌, ◌||◌, not, ℕ, Option, Some, None, is_some, Ok, List, [], ◌∷◌, ◌++◌, filter_map, refl, sym, ap, subst, ◌∙◌, inl, inr, ℤ, ◌≤ℤ◌}
use Rattle.std.proofs.lemmas.Option.{some_pair_parts}
use Rattle.std.specs.FinMap.{entries, find, get, get-entries, get-from_entries}
use Rattle.std.specs.Cmp.{int_cmp_total}
use Rattle.std.specs.Ordering.{eq_by_cmp, int_cmp}
use Rattle.ts_row.specs.Row.{Row, visible, Element, seen}
use Rattle.ts_pattern.specs.declared.junction.Junction.{Junction}
use Rattle.ts_pattern.specs.declared.junction.Junction.TheVariants.{And, Or}
use Rattle.ts_irregular.specs.Edit.{element_at}
use Rattle.ts_offset.specs.declared.shape.Shape.{Shape}
use Rattle.ts_offset.specs.declared.shape.Shape.TheVariants as shapes
use Rattle.ts_combine.specs.Combine.{Side, by_stamp, is_kept, joined_at, values_or_nulls, joined_there, joined_of, joined, merged_stamps, stamps_between}
use Rattle.ts_model.specs.Catalogue.{Irregular, Regular, SeriesKind, Catalogue, Series, columns_of, shape_of}
use Rattle.ts_answer.specs.Answer.{Answered, outcome, carried_out, wanted, known, join_series}
use Rattle.ts_answer.specs.Elements.{a_side}
use Rattle.ts_answer.specs.Reply.{elements_text}
use Rattle.ts_answer.proofs.CallerLemmas.{on_ok, wanted-there}
use Rattle.ts_answer_laws.specs.ReadingLaws.{HasSeen, HaveSeen, OneIsIrregular, ListsJoined, JoinsAreByStamps}
use Rattle.ts_answer_laws.proofs.RowLemmas.{Among, among_from, among_contains, among_filter, among_filtered, among_map, among_taken, among_came, between_true, between_yes}
use Rattle.ts_answer_laws.proofs.SeenLemmas.{among_found, found_among, seen_later, seen_there, there_seen}
use Rattle.ts_answer_laws.proofs.ClipLemmas.{few_rows}
use Rattle.ts_answer_laws.proofs.CameLemmas.{came, same_answer}

-- what is found in one of two lists is found in both together
front_found : (stamp : ℤ) (row : Row) (es fs : List Element) → find int_cmp stamp es ≡ Some row → find int_cmp stamp (es ++ fs) ≡ Some row
front_found stamp row [] fs there = absurd (cc)
front_found stamp row (e ∷ es) fs there = elim (eq_by_cmp int_cmp stamp e.0) as (λ (b : Bool). cond b (Some e.1) (find int_cmp stamp es) ≡ Some row → cond b (Some e.1) (find int_cmp stamp (es ++ fs)) ≡ Some row) [
  | true ↦ λ is. is
  | false ↦ λ is. front_found stamp row es fs is
] there

back_found : (stamp : ℤ) (row : Row) (es fs : List Element) → find int_cmp stamp fs ≡ Some row → (other : Row) × (find int_cmp stamp (es ++ fs) ≡ Some other)
back_found stamp row [] fs there = (row, there)
back_found stamp row (e ∷ es) fs there = elim (eq_by_cmp int_cmp stamp e.0) as (λ (b : Bool). (other : Row) × (cond b (Some e.1) (find int_cmp stamp (es ++ fs)) ≡ Some other)) [
  | true ↦ (e.1, refl)
  | false ↦ back_found stamp row es fs there
]

found_merged : (stamp : ℤ) (row : Row) (es fs : List Element) → find int_cmp stamp (es ++ fs) ≡ Some row → Among stamp (merged_stamps es fs)
found_merged stamp row es fs there =
    let m = by_stamp (es ++ fs) in
    let listed = found_among stamp row (entries m) (sym (get-entries m stamp) ∙ get-from_entries int_cmp_total (es ++ fs) stamp ∙ there) in
    among_map (λ (e : Element). e.0) (entries m) (stamp, row) listed

-- a series at a stamp
row_seen : (s : Series) (stamp : ℤ) (o : Option Row) → element_at stamp (seen (entries s.elements)) ≡ o → is_some o ≡ true → HasSeen s stamp
row_seen s stamp None is some = absurd (cc)
row_seen s stamp (Some row) is some = (row, seen_there s stamp row (found_among stamp row (seen (entries s.elements)) is))

seen_row : (s : Series) (stamp : ℤ) → (seen_at : HasSeen s stamp) → element_at stamp (seen (entries s.elements)) ≡ Some seen_at.0
seen_row s stamp seen_at = among_found stamp seen_at.0 (seen (entries s.elements)) (seen_later s.elements) (there_seen s stamp seen_at.0 seen_at.1)

both_true : (a b : Bool) → (a && b) ≡ true → (a ≡ true) × (b ≡ true)
both_true true true is = (refl, refl)
both_true true false is = absurd (cc)
both_true false b is = absurd (cc)

one_true : (a b : Bool) → (a || b) ≡ true → (a ≡ true) ⊎ (b ≡ true)
one_true true b is = inl refl
one_true false true is = inr refl
one_true false false is = absurd (cc)

-- what is kept, and what keeps
module _ (a b : Series) where
  kept_seen : (junction : Junction) (stamp : ℤ) → is_kept junction (element_at stamp (seen (entries a.elements))) (element_at stamp (seen (entries b.elements))) ≡ true → HaveSeen junction a b stamp
  kept_seen And stamp kept = let both = both_true _ _ kept in (row_seen a stamp _ refl both.0, row_seen b stamp _ refl both.1)
  kept_seen Or stamp kept = elim (one_true (is_some (element_at stamp (seen (entries a.elements)))) (is_some (element_at stamp (seen (entries b.elements)))) kept) [
    | inl one ↦ inl (row_seen a stamp _ refl one)
    | inr other ↦ inr (row_seen b stamp _ refl other)
  ]

  record Kept (junction : Junction) (stamp : ℤ) : Type 0 where
    kept : is_kept junction (element_at stamp (seen (entries a.elements))) (element_at stamp (seen (entries b.elements))) ≡ true
    listed : Among stamp (merged_stamps (seen (entries a.elements)) (seen (entries b.elements)))

  first_listed : (stamp : ℤ) → HasSeen a stamp → Among stamp (merged_stamps (seen (entries a.elements)) (seen (entries b.elements)))
  first_listed stamp at =
      found_merged stamp at.0 (seen (entries a.elements)) (seen (entries b.elements))
      (front_found stamp at.0 (seen (entries a.elements)) (seen (entries b.elements)) (seen_row a stamp at))

  second_listed : (stamp : ℤ) → HasSeen b stamp → Among stamp (merged_stamps (seen (entries a.elements)) (seen (entries b.elements)))
  second_listed stamp at =
      let found = back_found stamp at.0 (seen (entries a.elements)) (seen (entries b.elements)) (seen_row b stamp at) in
      found_merged stamp found.0 (seen (entries a.elements)) (seen (entries b.elements)) found.1

  some_or : (t : Bool) → (t || true) ≡ true
  some_or true = refl
  some_or false = refl

  seen_kept : (junction : Junction) (stamp : ℤ) → HaveSeen junction a b stamp → Kept junction stamp
  seen_kept And stamp (one, other) = record {
    kept = ap (λ (o : Option Row). is_some o && is_some (element_at stamp (seen (entries b.elements)))) (seen_row a stamp one) ∙ ap (λ (o : Option Row). is_some o) (seen_row b stamp other);
    listed = first_listed stamp one;
  }
  seen_kept Or stamp (inl one) = record {
    kept = ap (λ (o : Option Row). is_some o || is_some (element_at stamp (seen (entries b.elements)))) (seen_row a stamp one);
    listed = first_listed stamp one;
  }
  seen_kept Or stamp (inr other) = record {
    kept = ap (λ (o : Option Row). is_some (element_at stamp (seen (entries a.elements))) || is_some o) (seen_row b stamp other) ∙ some_or (is_some (element_at stamp (seen (entries a.elements))));
    listed = second_listed stamp other;
  }

-- the row with the columns of both
abbrev both_columns : Side → Side → Option Row → Option Row → Row
both_columns a b x y = visible (values_or_nulls a.columns x ++ values_or_nulls b.columns y)

-- a row where it is kept
kept_row : (junction : Junction) (a b : Side) (stamp : ℤ) (x y : Option Row) → is_kept junction x y ≡ true → joined_at junction a b stamp x y ≡ Some (stamp, both_columns a b x y)
kept_row junction a b stamp x y kept = ap (λ (t : Bool). cond t (Some (stamp, both_columns a b x y)) (let none : Option Element = None in none)) kept

row_kept : (junction : Junction) (a b : Side) (stamp : ℤ) (x y : Option Row) (e : Element) → joined_at junction a b stamp x y ≡ Some e → (e.0 ≡ stamp) × (is_kept junction x y ≡ true)
row_kept junction a b stamp x y e is = by (is_kept junction x y) is
  where
    by : (t : Bool) → cond t (Some (stamp, both_columns a b x y)) (let none : Option Element = None in none) ≡ Some e → (e.0 ≡ stamp) × (t ≡ true)
    by true is = let same = some_pair_parts stamp e.0 (both_columns a b x y) e.1 is in (sym same.0, refl)
    by false is = absurd (cc)

-- where not both lie on grids, rows stand at the stamps of elements
off_grid : (cat : Catalogue) (kind : SeriesKind) (shape : Shape) → kind ≡ Irregular → known (shape_of cat kind) ≡ Ok shape → shape ≡ shapes.Irregular
off_grid cat Irregular shape irregular is = let same : shapes.Irregular ≡ shape = cc in sym same
off_grid cat (Regular calendar origin) shape irregular is = absurd (cc)

there_of : (junction : Junction) (a b : Side) (x y : Shape) (from to : ℤ) → (x ≡ shapes.Irregular) ⊎ (y ≡ shapes.Irregular) → joined_of junction a b x y from to ≡ joined_there junction a b from to
there_of junction a b (shapes.Regular g) (shapes.Regular h) from to (inl one) = absurd (cc)
there_of junction a b (shapes.Regular g) (shapes.Regular h) from to (inr other) = absurd (cc)
there_of junction a b (shapes.Regular g) shapes.Irregular from to one = refl
there_of junction a b shapes.Irregular (shapes.Regular h) from to one = refl
there_of junction a b shapes.Irregular shapes.Irregular from to one = refl

-- the rows of both at the stamps between two
module _ (junction : Junction) (cat : Catalogue) (a b : Series) (shape other : Shape) (from to : ℤ) where
  abbrev row_of_both : ℤ → Row
  row_of_both s = both_columns (a_side a shape cat) (a_side b other cat) (element_at s (seen (entries a.elements))) (element_at s (seen (entries b.elements)))

  abbrev row_there : ℤ → Option Element
  row_there s = joined_at junction (a_side a shape cat) (a_side b other cat) s (element_at s (seen (entries a.elements))) (element_at s (seen (entries b.elements)))

  abbrev all_stamps : List ℤ
  all_stamps = merged_stamps (seen (entries a.elements)) (seen (entries b.elements))

  rows_have : (stamp : ℤ) (row : Row) → Contains (filter_map row_there (stamps_between from to all_stamps)) (stamp, row) → HaveSeen junction a b stamp × (from ≤ℤ stamp) × (stamp ≤ℤ to)
  rows_have stamp row there =
      let at = among_came row_there (stamps_between from to all_stamps) (stamp, row) (among_from _ (stamp, row) there) in
      let kept = row_kept junction (a_side a shape cat) (a_side b other cat) at.0 (element_at at.0 (seen (entries a.elements))) (element_at at.0 (seen (entries b.elements))) (stamp, row) at.2 in
      let stood = among_filtered (λ s. not (int_lt s from) && not (int_lt to s)) all_stamps at.0 at.1 in
      let within = between_true from to at.0 stood.1 in
      subst (λ (t : ℤ). HaveSeen junction a b t × (from ≤ℤ t) × (t ≤ℤ to)) (sym kept.0) (kept_seen a b junction at.0 kept.1, within.0, within.1)

  have_rows : (stamp : ℤ) → HaveSeen junction a b stamp → from ≤ℤ stamp → stamp ≤ℤ to → (row : Row) × Contains (filter_map row_there (stamps_between from to all_stamps)) (stamp, row)
  have_rows stamp have low high =
      let kept = seen_kept a b junction stamp have in
      let there = among_filter (λ s. not (int_lt s from) && not (int_lt to s)) all_stamps stamp kept.listed (between_yes from to stamp low high) in
      let row = kept_row junction (a_side a shape cat) (a_side b other cat) stamp (element_at stamp (seen (entries a.elements))) (element_at stamp (seen (entries b.elements))) kept.kept in
      (row_of_both stamp, among_contains _ (stamp, row_of_both stamp) (among_taken row_there (stamps_between from to all_stamps) stamp (stamp, row_of_both stamp) there row))

joined_lists : (junction : Junction) (cat : Catalogue) (answered : Answered) (first second : List ℕ) (from to : ℤ) (a b : Series) → get cat.series first ≡ Some a → get cat.series second ≡ Some b
    → OneIsIrregular a b → join_series junction first second from to cat ≡ Ok answered → ListsJoined junction a b from to cat answered
unfolding join_series
joined_lists junction cat answered first second from to a b one two irregular is =
    let named = sym (on_ok (wanted first cat.series) a _ (wanted-there first cat.series a one)) ∙ is in
    let both = sym (on_ok (wanted second cat.series) b _ (wanted-there second cat.series b two)) ∙ named in
    let shape = came (known (shape_of cat a.kind)) _ answered both in
    let other = came (known (shape_of cat b.kind)) _ answered shape.2 in
    let rows = came (joined junction (a_side a shape.0 cat) (a_side b other.0 cat) from to) _ answered other.2 in
    let off : (shape.0 ≡ shapes.Irregular) ⊎ (other.0 ≡ shapes.Irregular) = elim irregular [ inl i ↦ inl (off_grid cat a.kind shape.0 i shape.1) | inr i ↦ inr (off_grid cat b.kind other.0 i other.1) ] in
    let there = sym (there_of junction (a_side a shape.0 cat) (a_side b other.0 cat) shape.0 other.0 from to off) ∙ rows.1 in
    let same = few_rows (filter_map (row_there junction cat a b shape.0 other.0 from to) (stamps_between from to (all_stamps junction cat a b shape.0 other.0 from to))) rows.0 there in
    record {
      rows = rows.0;
      theirs = λ stamp row at.
          rows_have junction cat a b shape.0 other.0 from to stamp row (subst (λ (l : List Element). Contains l (stamp, row)) (sym same) at);
      each = λ stamp have low high.
          let row = have_rows junction cat a b shape.0 other.0 from to stamp have low high in
          (row.0, subst (λ (l : List Element). Contains l (stamp, row.0)) same row.1);
      lines = same_answer (elements_text (columns_of cat a ++ columns_of cat b) rows.0, cat) answered rows.2;
    }

pub joins_by_stamps : JoinsAreByStamps
unfolding outcome carried_out
joins_by_stamps = record {
  either = λ cat answered first second from to a b one two irregular is. joined_lists Or cat answered first second from to a b one two irregular is;
  both = λ cat answered first second from to a b one two irregular is. joined_lists And cat answered first second from to a b one two irregular is;
}
