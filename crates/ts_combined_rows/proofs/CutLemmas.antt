-- Two series as one, cut into pieces: the rows from one stamp to another are those up to a stamp between them, and those behind it.
use Rattle.std.proofs.Common.{◌≡◌, ◌∙◌, ℕ, zero, suc, ◌+◌, ◌<◌, ◌≤◌, ◌^◌, Bool, true, false, ◌&&◌, cond, ℤ, pos, neg_ℤ, ◌+ℤ◌, ◌<ℤ◌, ◌≤ℤ◌, Option, Some, None, Result, Ok, Err, List, [], ◌∷◌, ◌++◌, map, filter, filter_map, length, refl, sym, ap, subst, arith}
use Rattle.std.specs.Prelude.{int_lt, not}
use Rattle.std.specs.List.{cons_option}
use Rattle.std.specs.Ordering.{int_cmp, is_lt}
use Rattle.std.specs.declared.cmp.Ordering.{Ordering}
use Rattle.std.specs.declared.cmp.Ordering.TheVariants.{Less, Equal, Greater}
use Rattle.std.specs.Cmp.{int_cmp_total, int_ranks}
use Rattle.std.specs.Ordering.{MatchOrdering}
use Rattle.std.specs.FinMap.{entries, len, len-entries, len-empty, len-insert, entries_sorted}
use Rattle.std.specs.FinMap.Entries.{is_sorted, below_all}
use Rattle.std.specs.Prelude.{T}
use Rattle.std.proofs.lemmas.Int.{by_lt_z, ints}
use Rattle.std.proofs.lemmas.List.{length-append, length-map}
use Rattle.std.proofs.lemmas.List.Elements.{filter_map-append}
use Rattle.ts_base.specs.declared.refusal.Refusal.{Refusal}
use Rattle.ts_row.specs.Row.{Row, Element}
use Rattle.ts_base.specs.Answer.{within_rows}
use Rattle.ts_calendar.specs.Calendars.{CalendarPlan, IsEarly, IsLaid, reach, near_count}
use Rattle.ts_calendar.specs.declared.grid.CommonGrid.{CommonGrid}
use Rattle.ts_calendar.proofs.StampLemmas.{int_lt_yes, int_lt_no}
use Rattle.ts_offset.specs.Grid.{GridPlan, numbers_from, on_start, on_starts}
use Rattle.ts_offset.proofs.ListLemmas.{taken-zero, taken-suc}
use Rattle.ts_offset.specs.declared.shape.Shape.{Shape}
use Rattle.ts_offset.specs.declared.shape.Shape.TheVariants.{Irregular, Regular}
use Rattle.ts_pattern.specs.declared.junction.Junction.{Junction}
use Rattle.ts_offset.specs.Shape.{IsLaidOut}
use Rattle.ts_combine.specs.Combine.{Side, by_stamp, merged_stamps, every_start, row_around, joined_at, joined_of, joined_on, joined_there, joined}
use Rattle.ts_base.specs.Moment.{is_between}
use Rattle.ts_irregular.specs.Edit.{element_at}
use Rattle.ts_combined_rows.specs.Combining.{HaveGrid}
use Rattle.ts_combine.proofs.RisingLemmas.{AreAbove, AreRisenBy, AreRisen, starts-risen}

-- whether a stamp stands in a range
and_none : (b : Bool) → b && false ≡ false
and_none true = refl
and_none false = refl

too_early : (from to s : ℤ) → s <ℤ from → is_between from to s ≡ false
too_early from to s lt = ap (λ (b : Bool). not b && not (int_lt to s)) (int_lt_yes s from lt)

too_late : (from to s : ℤ) → to <ℤ s → is_between from to s ≡ false
too_late from to s lt = ap (λ (b : Bool). not (int_lt s from) && not b) (int_lt_yes to s lt) ∙ and_none (not (int_lt s from))

-- none does in one that ends before it begins
pub none_between : (from to : ℤ) → to <ℤ from → (ts : List ℤ) → filter (is_between from to) ts ≡ []
none_between from to less [] = refl
none_between from to less (t ∷ ts) =
    let out : is_between from to t ≡ false = by_lt_z t from (λ lt. too_early from to t lt) (λ ge. too_late from to t (omega (arith, ints, less, ge))) in
    ap (λ (b : Bool). cond b (t ∷ filter (is_between from to) ts) (filter (is_between from to) ts)) out ∙ none_between from to less ts

-- of stamps that rise, those in a range are those up to one in it and those behind it
module _ (from mid to : ℤ) (low : from ≤ℤ (mid +ℤ pos 1)) (high : mid ≤ℤ to) where
  abbrev next : ℤ
  next = mid +ℤ pos 1

  above_more : (s : ℤ) (ts : List ℤ) → mid <ℤ s → AreAbove (λ t. t) s ts → AreAbove (λ t. t) mid ts
  above_more s [] lt above = tt
  above_more s (t ∷ ts) lt above = let up = above.0 in (omega (arith, ints, lt, up), above_more s ts lt above.1)

  none_up_to : (ts : List ℤ) → AreAbove (λ t. t) mid ts → filter (is_between from mid) ts ≡ []
  none_up_to [] above = refl
  none_up_to (t ∷ ts) above =
      ap (λ (b : Bool). cond b (t ∷ filter (is_between from mid) ts) (filter (is_between from mid) ts)) (too_late from mid t above.0) ∙ none_up_to ts above.1

  alike : (t : ℤ) → mid <ℤ t → is_between from to t ≡ is_between next to t
  alike t lt = ap (λ (b : Bool). not b && not (int_lt to t)) (int_lt_no t from (omega (arith, ints, lt, low)) ∙ sym (int_lt_no t next (omega (arith, ints, lt))))

  all_behind : (ts : List ℤ) → AreAbove (λ t. t) mid ts → filter (is_between from to) ts ≡ filter (is_between next to) ts
  all_behind [] above = refl
  all_behind (t ∷ ts) above =
      ap (λ (b : Bool). cond b (t ∷ filter (is_between from to) ts) (filter (is_between from to) ts)) (alike t above.0)
      ∙ ap (λ (l : List ℤ). cond (is_between next to t) (t ∷ l) l) (all_behind ts above.1)

  pull : (b : Bool) (t : ℤ) (xs ys : List ℤ) → cond b (t ∷ xs ++ ys) (xs ++ ys) ≡ cond b (t ∷ xs) xs ++ ys
  pull true t xs ys = refl
  pull false t xs ys = refl

  one_before : (t : ℤ) (ts : List ℤ) → t ≤ℤ mid → filter (is_between from to) ts ≡ filter (is_between from mid) ts ++ filter (is_between next to) ts
      → filter (is_between from to) (t ∷ ts) ≡ filter (is_between from mid) (t ∷ ts) ++ filter (is_between next to) (t ∷ ts)
  one_before t ts le rest =
      let here : is_between from to t ≡ is_between from mid t =
      ap (λ (b : Bool). not (int_lt t from) && not b) (int_lt_no to t (omega (arith, ints, le, high)) ∙ sym (int_lt_no mid t le)) in
      let out = too_early next to t (omega (arith, ints, le)) in
      ap (λ (b : Bool). cond b (t ∷ filter (is_between from to) ts) (filter (is_between from to) ts)) here
      ∙ ap (λ (l : List ℤ). cond (is_between from mid t) (t ∷ l) l) rest
      ∙ pull (is_between from mid t) t (filter (is_between from mid) ts) (filter (is_between next to) ts)
      ∙ ap (λ (l : List ℤ). cond (is_between from mid t) (t ∷ filter (is_between from mid) ts) (filter (is_between from mid) ts) ++ l)
      (sym (ap (λ (b : Bool). cond b (t ∷ filter (is_between next to) ts) (filter (is_between next to) ts)) out))

  pub cut_stamps : (ts : List ℤ) → AreRisen ts → filter (is_between from to) ts ≡ filter (is_between from mid) ts ++ filter (is_between next to) ts
  cut_stamps [] risen = refl
  cut_stamps (t ∷ ts) risen =
      by_lt_z mid t
      (λ lt.
      let above : AreAbove (λ t. t) mid (t ∷ ts) = (lt, above_more t ts lt risen.0) in
      all_behind (t ∷ ts) above ∙ ap (λ (l : List ℤ). l ++ filter (is_between next to) (t ∷ ts)) (sym (none_up_to (t ∷ ts) above)))
      (λ ge. one_before t ts ge (cut_stamps ts risen.1))

-- the stamps of the elements of two lists rise, and are no more than these
less : (o : Ordering) (x y : ℤ) → MatchOrdering o (x <ℤ y) (x ≡ y) (y <ℤ x) → T (is_lt o) → x <ℤ y
less Less x y is lt = is
less Equal x y is lt = absurd lt
less Greater x y is lt = absurd lt

first : (a b : Bool) → T (a && b) → T a
first true b p = tt
first false b p = p

second : (a b : Bool) → T (a && b) → T b
second true b p = p
second false b p = absurd p

stamps_above : (s : ℤ) (es : List Element) → T (below_all int_cmp s es) → AreAbove (λ t. t) s (map (λ e. e.0) es)
stamps_above s [] below = tt
stamps_above s (e ∷ es) below = (less (int_cmp s e.0) s e.0 (int_ranks s e.0) (first _ _ below), stamps_above s es (second (is_lt (int_cmp s e.0)) _ below))

stamps_risen : (es : List Element) → T (is_sorted int_cmp es) → AreRisen (map (λ e. e.0) es)
stamps_risen [] sorted = tt
stamps_risen (e ∷ es) sorted = (stamps_above e.0 es (first _ _ sorted), stamps_risen es (second (below_all int_cmp e.0 es) _ sorted))

pub merged_risen : (es fs : List Element) → AreRisen (merged_stamps es fs)
merged_risen es fs = stamps_risen (entries (by_stamp (es ++ fs))) (entries_sorted (by_stamp (es ++ fs)))

one_more : (b : Bool) (n m k : ℕ) → k ≡ cond b n (n + 1) → n ≤ m → k ≤ m + 1
one_more true n m k is le = omega (arith, is, le)
one_more false n m k is le = omega (arith, is, le)

few_entries : (es : List Element) → len (by_stamp es) ≤ length es
few_entries [] = omega (arith, len-empty int_cmp Row)
few_entries (e ∷ es) =
    let few : len (by_stamp (e ∷ es)) ≤ length es + 1 = one_more _ (len (by_stamp es)) (length es) (len (by_stamp (e ∷ es))) (len-insert int_cmp_total (by_stamp es) e.0 e.1) (few_entries es) in
    omega (arith, few)

pub few_merged : (es fs : List Element) → length (merged_stamps es fs) ≤ length es + length fs
few_merged es fs =
    let few = few_entries (es ++ fs) in
    let size = len-entries (by_stamp (es ++ fs)) in
    let both = length-append es fs in
    let same = length-map (entries (by_stamp (es ++ fs))) (λ (e : Element). e.0) in
    omega (arith, few, size, both, same)

-- no more come of a list than it has
one_given : {B : Type 0} (o : Option B) (ys : List B) (n : ℕ) → length ys ≤ n → length (cons_option o ys) ≤ n + 1
one_given None ys n few = omega (arith, few)
one_given (Some y) ys n few = omega (arith, few)

few_given : {A B : Type 0} (f : A → Option B) (xs : List A) → length (filter_map f xs) ≤ length xs
few_given f [] = omega arith
few_given f (x ∷ xs) = omega (arith, one_given (f x) (filter_map f xs) (length xs) (few_given f xs))

few_passed : {A : Type 0} (p : A → Bool) (xs : List A) → length (filter p xs) ≤ length xs
few_passed p [] = omega arith
few_passed p (x ∷ xs) = by (p x) (few_passed p xs) where
  by : (b : Bool) → length (filter p xs) ≤ length xs → length (cond b (x ∷ filter p xs) (filter p xs)) ≤ length (x ∷ xs)
  by true few = omega (arith, few)
  by false few = omega (arith, few)

count_numbers : (n : ℕ) (k : ℤ) → length (numbers_from k n) ≡ n
unfolding numbers_from
count_numbers zero k = refl
count_numbers (suc n) k = omega (arith, count_numbers n (k +ℤ pos 1))

few_starts : (c : CalendarPlan) → length (on_starts c) ≤ near_count
unfolding on_starts
few_starts c =
    let few = few_given (on_start c) (numbers_from (neg_ℤ (pos reach)) near_count) in
    let count = count_numbers near_count (neg_ℤ (pos reach)) in
    omega (arith, few, count)

-- the rows that two series have as one in each range, cut as the ranges are
pub record AreCut (junction : Junction) (a b : Side) : Type 0 where
  pub rows : ℤ → ℤ → List Element
  pub are : (from to : ℤ) → joined junction a b from to ≡ within_rows (rows from to)
  pub cut : (from mid to : ℤ) → from ≤ℤ (mid +ℤ pos 1) → mid ≤ℤ to → rows from to ≡ rows from mid ++ rows (mid +ℤ pos 1) to
  pub none : (from to : ℤ) → to <ℤ from → rows from to ≡ []
  pub few : (from to : ℤ) → length (rows from to) ≤ length a.elements + length b.elements + near_count

-- those of stamps that rise
by_stamps : (junction : Junction) (a b : Side) (f : ℤ → Option Element) (ts : List ℤ) → AreRisen ts → length ts ≤ length a.elements + length b.elements + near_count
    → ((from to : ℤ) → joined junction a b from to ≡ within_rows (filter_map f (filter (is_between from to) ts))) → AreCut junction a b
by_stamps junction a b f ts risen few are = record {
  rows = λ from to. filter_map f (filter (is_between from to) ts);
  are = are;
  cut = λ from mid to low high. ap (filter_map f) (cut_stamps from mid to low high ts risen) ∙ filter_map-append f (filter (is_between from mid) ts) (filter (is_between (mid +ℤ pos 1) to) ts);
  none = λ from to less. ap (filter_map f) (none_between from to less ts);
  few = λ from to.
      let given = few_given f (filter (is_between from to) ts) in
      let passed = few_passed (is_between from to) ts in
      omega (arith, few, given, passed);
}

-- at the stamps of elements
there : (junction : Junction) (a b : Side) → ((from to : ℤ) → joined junction a b from to ≡ joined_there junction a b from to) → AreCut junction a b
there junction a b are =
    let few = few_merged a.elements b.elements in
    by_stamps junction a b (λ s. joined_at junction a b s (element_at s a.elements) (element_at s b.elements)) (merged_stamps a.elements b.elements) (merged_risen a.elements b.elements) (omega (arith, few)) are

-- and at the starts of a common grid
on_grid : (junction : Junction) (a b : Side) (g h : GridPlan) → IsLaid g.calendar → (grid : CommonGrid) → IsEarly grid.unit g.calendar.patt_start
    → ((from to : ℤ) → joined junction a b from to ≡ joined_on junction a g b h from to (Ok grid)) → AreCut junction a b
on_grid junction a b g h laid grid early are =
    let c = every_start g.calendar h.calendar grid in
    let few = few_starts c in
    let every : IsLaid c = record { stamp = laid.stamp; early = early } in
    by_stamps junction a b (λ s. joined_at junction a b s (row_around g a.elements s) (row_around h b.elements s)) (on_starts c) (starts-risen c every) (omega (arith, few)) are

cut_of : (junction : Junction) (a b : Side) (s t : Shape) → a.shape ≡ s → b.shape ≡ t → IsLaidOut s → HaveGrid s t → AreCut junction a b
cut_of junction a b Irregular Irregular p q laid grid = there junction a b (λ from to i. joined_of junction a b (p i) (q i) from to)
cut_of junction a b Irregular (Regular h) p q laid grid = there junction a b (λ from to i. joined_of junction a b (p i) (q i) from to)
cut_of junction a b (Regular g) Irregular p q laid grid = there junction a b (λ from to i. joined_of junction a b (p i) (q i) from to)
cut_of junction a b (Regular g) (Regular h) p q laid grid =
    on_grid junction a b g h laid grid.0 grid.2 (λ from to. (λ i. joined_of junction a b (p i) (q i) from to) ∙ ap (joined_on junction a g b h from to) grid.1)

pub cut_rows : (junction : Junction) (a b : Side) → IsLaidOut a.shape → HaveGrid a.shape b.shape → AreCut junction a b
cut_rows junction a b laid grid = cut_of junction a b a.shape b.shape refl refl laid grid
