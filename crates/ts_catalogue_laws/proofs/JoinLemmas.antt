-- What Union and Intersect list.
use Rattle.std.specs.Prelude.{All, AllPairs, Contains, int_lt}
use Rattle.std.proofs.Common.{◌≡◌, ℕ, zero, suc, ℤ, ◌≤ℤ◌, ◌<ℤ◌, ◌<◌, nat_lt, Bool, true, false, cond, not, ◌&&◌, Option, Some, None, option_and_then, Ok, Err, List, [], ◌∷◌, ◌++◌, length, filter_map, slice_get, get_or, refl, sym, ap, subst, ◌∙◌, arith, inl, inr}
use Rattle.std.specs.List.{filter, cons_option}
use Rattle.std.proofs.lemmas.Int.{ints}
use Rattle.std.proofs.lemmas.Bool.{and_parts}
use Rattle.std.proofs.lemmas.List.Kept.{AllPairs-cons, AllPairs-filter}
use Rattle.std.specs.Cmp.{int_cmp_total, tied_itself}
use Rattle.std.specs.declared.cmp.Ordering.{Ordering}
use Rattle.std.specs.Ordering.{eq_by_cmp, int_cmp, is_eq}
use Rattle.std.specs.FinMap.{entries, find, int_cmp-IsAntisymmetric}
use Rattle.ts_base.specs.Moment.{IsStamp}
use Rattle.ts_base.specs.declared.refusal.Refusal.TheVariants as refusals
use Rattle.ts_row.specs.Row.{Row, visible, Element}
use Rattle.ts_pattern.specs.declared.junction.Junction.{Junction}
use Rattle.ts_calendar.specs.Calendars.{IsLaid}
use Rattle.ts_calendar.proofs.StampLemmas.{int_lt_no, int_lt-false}
use Rattle.ts_offset.specs.Grid.{GridPlan, held_start}
use Rattle.ts_offset.specs.declared.shape.Shape.{Shape}
use Rattle.ts_offset.proofs.OwnLemmas.{held-from, from-held}
use Rattle.ts_irregular.specs.Edit.{element_at}
use Rattle.ts_base.specs.Answer.{most_rows, within_rows}
use Rattle.ts_combine.specs.Combine.{Side, row_around, values_or_nulls, is_kept, joined_at}
use Rattle.ts_model.specs.Catalogue.{Series, Catalogue, columns_of}
use Rattle.ts_answer.specs.Answer.{Answered, Tried}
use Rattle.ts_answer.specs.Elements.{a_side, seen_elements}
use Rattle.ts_answer.specs.Reply.{elements_text}
use Rattle.ts_answer_laws.specs.ReadingLaws.{IsSeenAt, HasSeen}
use Rattle.ts_catalogue_laws.specs.JoinLaws.{SeenAt, SeenAround, row_of_both, ListsBoth}
use Rattle.ts_catalogue_laws.proofs.MapLemmas.{tied}
use Rattle.ts_catalogue_laws.proofs.OnceLemmas.{rising}
use Rattle.ts_catalogue_laws.proofs.ListLemmas.{Among, entry_found, found_listed, found_among, among_filter, among_filtered, among_mapped, among_place, place_among, at_place, place_filtered}

pub same_answer : (a b : Answered) → let left : Tried Answered = Ok a in left ≡ Ok b → b ≡ a
same_answer a b is = cc

-- lists by their elements
module _ {X : Type 0} where
  pub contains_from : (xs : List X) (x : X) → Contains xs x → Among x xs
  contains_from [] x (k, below, is) = absurd (omega (arith, below))
  contains_from (y ∷ ys) x (zero, below, is) = inl (sym is)
  contains_from (y ∷ ys) x (suc k, below, is) = inr (contains_from ys x (k, omega (arith, below), is))

  pub contains_to : (xs : List X) (x : X) → Among x xs → Contains xs x
  contains_to [] x there = absurd there
  contains_to (y ∷ ys) x (inl is) = (0, omega arith, sym is)
  contains_to (y ∷ ys) x (inr there) = let rest = contains_to ys x there in let low = rest.1 in (suc rest.0, omega (arith, low), rest.2)

  pub passes : (p : X → Bool) (xs : List X) (x : X) → Among x (filter p xs) → p x ≡ true
  passes p xs x there = let at = place_among (filter p xs) x there in (place_filtered p xs at.0 x at.1).2

  pub placed : (xs : List X) (n : ℕ) (d : X) → n < length xs → slice_get xs n ≡ Some (get_or xs n d)
  placed [] n d low = absurd (omega (arith, low))
  placed (y ∷ ys) zero d low = refl
  placed (y ∷ ys) (suc n) d low = placed ys n d (omega (arith, low))

pub taken : {X Y : Type 0} (f : X → Option Y) (xs : List X) (x : X) (y : Y) → Among x xs → f x ≡ Some y → Among y (filter_map f xs)
taken f [] x y there is = absurd there
taken {X} {Y} f (z ∷ xs) x y there is = by (f z) refl there (λ rest. taken f xs x y rest is)
  where
    by : (o : Option Y) → f z ≡ o → Among x (z ∷ xs) → (Among x xs → Among y (filter_map f xs)) → Among y (cons_option o (filter_map f xs))
    by None at (inl same) more = absurd (let no = sym is ∙ ap f same ∙ at in let never : ⊥ = cc in never)
    by None at (inr rest) more = more rest
    by (Some w) at (inl same) more = inl (let both = sym is ∙ ap f same ∙ at in let value : y ≡ w = cc in value)
    by (Some w) at (inr rest) more = inr (more rest)

-- what is made of a list whose elements rise, rises where what is made of two of them does
module _ {X Y : Type 0} (R : X → X → Type 0) (S : Y → Y → Type 0) (f : X → Option Y) (keeps : (x z : X) (a b : Y) → R x z → f x ≡ Some a → f z ≡ Some b → S a b) where
  later : (x : X) (xs : List X) (a : Y) → ((z : X) → Among z xs → R x z) → f x ≡ Some a → (b : Y) → Among b (filter_map f xs) → S a b
  later x xs a behind is b there = let from = among_mapped f xs b there in keeps x from.0 a b (behind from.0 from.1) is from.2

  all_of : {Z : Type 0} (P : Z → Type 0) (zs : List Z) → ((z : Z) → Among z zs → P z) → All P zs
  all_of P zs each = λ k d low. each (get_or zs k d) (among_place zs k (get_or zs k d) (placed zs k d low))

  pub pairs_made : (xs : List X) → AllPairs R xs → AllPairs S (filter_map f xs)
  pairs_made [] pairs = λ i j d low within. absurd (omega (arith, within))
  pairs_made (x ∷ xs) pairs =
      let behind : (z : X) → Among z xs → R x z = λ z there.
      let at = place_among xs z there in
      let here = at_place xs at.0 z z at.1 in
      let low = here.0 in
      subst (λ (w : X). R x w) here.1 (pairs 0 (suc at.0) z (omega arith) (omega (arith, low))) in
      by (f x) refl (pairs_made xs (λ i j d low within. pairs (suc i) (suc j) d (omega (arith, low)) (omega (arith, within)))) behind
    where
      by : (o : Option Y) → f x ≡ o → AllPairs S (filter_map f xs) → ((z : X) → Among z xs → R x z) → AllPairs S (cons_option o (filter_map f xs))
      by None is rest behind = rest
      by (Some a) is rest behind = AllPairs-cons S a (filter_map f xs) (all_of (S a) (filter_map f xs) (later x xs a behind is)) rest

-- rows that aren't too many are all rows
pub few_rows : (all rows : List Element) → within_rows all ≡ Ok rows → all ≡ rows
few_rows all rows is = by (nat_lt most_rows (length all)) is where
  by : (b : Bool) → cond b (Err (refusals.TooLarge (length all))) (Ok all) ≡ Ok rows → all ≡ rows
  by true is = absurd (let never : ⊥ = cc in never)
  by false is = cc

-- what is seen of a series
seen_sorted : (es : List Element) (e : Element) → AllPairs (λ (a b : Element). a.0 <ℤ b.0) es → Among e es → find int_cmp e.0 es ≡ Some e.1
seen_sorted es e rise there =
    let at = place_among es e there in
    by es at.0 rise at.1 where
      apart : (a b : ℤ) → a <ℤ b → eq_by_cmp int_cmp b a ≡ false
      apart a b less = not_tied (eq_by_cmp int_cmp b a) refl where
        not_tied : (t : Bool) → eq_by_cmp int_cmp b a ≡ t → t ≡ false
        not_tied true tie = let same : b ≡ a = int_cmp-IsAntisymmetric b a (tied (int_cmp b a) tie) in absurd (omega (arith, ints, less, same))
        not_tied false other = refl

      by : (xs : List Element) (n : ℕ) → AllPairs (λ (a b : Element). a.0 <ℤ b.0) xs → slice_get xs n ≡ Some e → find int_cmp e.0 xs ≡ Some e.1
      by [] n rise is = absurd (let never : ⊥ = cc in never)
      by (x ∷ xs) zero rise is =
          let same : x ≡ e = cc in
          subst (λ (z : Element). cond (eq_by_cmp int_cmp z.0 x.0) (Some x.1) (find int_cmp z.0 xs) ≡ Some z.1) same
          (ap (λ (r : Ordering). cond (is_eq r) (Some x.1) (find int_cmp x.0 xs)) (tied_itself int_cmp_total x.0))
      by (x ∷ xs) (suc n) rise is =
          let here = at_place xs n e e is in
          let low = here.0 in
          let less : x.0 <ℤ e.0 = subst (λ (z : Element). x.0 <ℤ z.0) here.1 (rise 0 (suc n) e (omega arith) (omega (arith, low))) in
          ap (λ (t : Bool). cond t (Some x.1) (find int_cmp e.0 xs)) (apart x.0 e.0 less)
          ∙ by xs n (λ i j d a b. rise (suc i) (suc j) d (omega (arith, a)) (omega (arith, b))) is

module _ (s : Series) where
  abbrev visible_test : Element → Bool
  visible_test e = not e.1.hidden

  seen_rises : AllPairs (λ (a b : Element). a.0 <ℤ b.0) (seen_elements s.elements)
  seen_rises = AllPairs-filter (λ (a b : Element). a.0 <ℤ b.0) visible_test (entries s.elements) (rising s.elements)

  turned : (b : Bool) → not b ≡ true → b ≡ false
  turned true is = absurd (let never : ⊥ = cc in never)
  turned false is = refl

  is_seen : (stamp : ℤ) (row : Row) → element_at stamp (seen_elements s.elements) ≡ Some row → IsSeenAt s stamp row
  is_seen stamp row there =
      let among = found_among int_cmp int_cmp-IsAntisymmetric stamp row (seen_elements s.elements) there in
      record {
        there = entry_found int_cmp_total s.elements (stamp, row) (among_filtered visible_test (entries s.elements) (stamp, row) among);
        seen = turned row.hidden (passes visible_test (entries s.elements) (stamp, row) among);
      }

  seen_is : (stamp : ℤ) (row : Row) → IsSeenAt s stamp row → element_at stamp (seen_elements s.elements) ≡ Some row
  seen_is stamp row at =
      seen_sorted (seen_elements s.elements) (stamp, row) seen_rises
      (among_filter visible_test (entries s.elements) (stamp, row) (found_listed int_cmp-IsAntisymmetric s.elements stamp row at.there) (ap not at.seen))

  none_seen : (stamp : ℤ) → element_at stamp (seen_elements s.elements) ≡ None → ¬ HasSeen s stamp
  none_seen stamp none at = let no = sym none ∙ seen_is stamp at.0 at.1 in let never : ⊥ = cc in never

  -- at a stamp
  pub at_stamp : (stamp : ℤ) (x : Option Row) → element_at stamp (seen_elements s.elements) ≡ x → SeenAt s stamp x
  at_stamp stamp None is = none_seen stamp is
  at_stamp stamp (Some row) is = is_seen stamp row is

  pub stamp_at_is : (stamp : ℤ) (x : Option Row) → SeenAt s stamp x → element_at stamp (seen_elements s.elements) ≡ x
  stamp_at_is stamp (Some row) at = seen_is stamp row at
  stamp_at_is stamp None none = by (element_at stamp (seen_elements s.elements)) refl where
    by : (o : Option Row) → element_at stamp (seen_elements s.elements) ≡ o → o ≡ None
    by None is = refl
    by (Some row) is = absurd (none (row, is_seen stamp row is))

  -- around a stamp
  module _ (grid : GridPlan) (laid : IsLaid grid.calendar) where
    pub around : (stamp : ℤ) (o : Option ℤ) (x : Option Row) → IsStamp stamp → held_start grid.calendar stamp ≡ o → option_and_then (λ (start : ℤ). element_at start (seen_elements s.elements)) o ≡ x → SeenAround grid.calendar s stamp x
    around stamp None None stamp_is held is = λ start from. absurd (let no = sym held ∙ held-from grid.calendar stamp start laid stamp_is from in let never : ⊥ = cc in never)
    around stamp None (Some row) stamp_is held is = absurd (let never : ⊥ = cc in never)
    around stamp (Some start) None stamp_is held is = λ other from.
        let same : other ≡ start = (let both = sym (held-from grid.calendar stamp other laid stamp_is from) ∙ held in cc) in
        subst (λ (z : ℤ). ¬ HasSeen s z) (sym same) (none_seen start is)
    around stamp (Some start) (Some row) stamp_is held is = (start, from-held grid.calendar stamp start held, is_seen start row is)

    pub around_is : (stamp : ℤ) (x : Option Row) → IsStamp stamp → SeenAround grid.calendar s stamp x → row_around grid (seen_elements s.elements) stamp ≡ x
    around_is stamp (Some row) stamp_is (start, from, at) =
        ap (option_and_then (λ (z : ℤ). element_at z (seen_elements s.elements))) (held-from grid.calendar stamp start laid stamp_is from) ∙ seen_is start row at
    around_is stamp None stamp_is none = by (held_start grid.calendar stamp) refl where
      by : (o : Option ℤ) → held_start grid.calendar stamp ≡ o → option_and_then (λ (z : ℤ). element_at z (seen_elements s.elements)) o ≡ None
      by None held = refl
      by (Some start) held = stamp_at_is start None (none start (from-held grid.calendar stamp start held))

-- one row
kept_row : (junction : Junction) (a b : Side) (stamp : ℤ) (x y : Option Row) → is_kept junction x y ≡ true → joined_at junction a b stamp x y ≡ Some (stamp, visible (values_or_nulls a.columns x ++ values_or_nulls b.columns y))
kept_row junction a b stamp x y kept = ap (λ (t : Bool). cond t (Some (stamp, visible (values_or_nulls a.columns x ++ values_or_nulls b.columns y))) (let none : Option Element = None in none)) kept

row_kept : (junction : Junction) (a b : Side) (stamp : ℤ) (x y : Option Row) (e : Element) → joined_at junction a b stamp x y ≡ Some e → ((stamp, visible (values_or_nulls a.columns x ++ values_or_nulls b.columns y)) ≡ e) × (is_kept junction x y ≡ true)
row_kept junction a b stamp x y e is = by (is_kept junction x y) is
  where
    by : (t : Bool) → cond t (Some (stamp, visible (values_or_nulls a.columns x ++ values_or_nulls b.columns y))) (let none : Option Element = None in none) ≡ Some e
        → ((stamp, visible (values_or_nulls a.columns x ++ values_or_nulls b.columns y)) ≡ e) × (t ≡ true)
    by true is = (cc, refl)
    by false is = absurd (let never : ⊥ = cc in never)

pub tests_within : (from to stamp : ℤ) → (not (int_lt stamp from) && not (int_lt to stamp)) ≡ true → (from ≤ℤ stamp) × (stamp ≤ℤ to)
tests_within from to stamp is =
    let both = and_parts (not (int_lt stamp from)) (not (int_lt to stamp)) is in
    (int_lt-false stamp from (off (int_lt stamp from) both.0), int_lt-false to stamp (off (int_lt to stamp) both.1)) where
      off : (b : Bool) → not b ≡ true → b ≡ false
      off true is = absurd (let never : ⊥ = cc in never)
      off false is = refl

pub within_tests : (from to stamp : ℤ) → from ≤ℤ stamp → stamp ≤ℤ to → (not (int_lt stamp from) && not (int_lt to stamp)) ≡ true
within_tests from to stamp low high = ap (λ (b : Bool). not b && not (int_lt to stamp)) (int_lt_no stamp from low) ∙ ap not (int_lt_no to stamp high)

-- rows at candidates of which it is known where they lie, each with what is found there
module _ (junction : Junction) (cat : Catalogue) (a b : Series) (shape other : Shape) (from to : ℤ) (stamps : List ℤ) (At : ℤ → Type 0) (First Second : ℤ → Option Row → Type 0)
    (first_of second_of : ℤ → Option Row)
    (rise : AllPairs (λ (x y : ℤ). x <ℤ y) stamps)
    (at_of : (stamp : ℤ) → Among stamp stamps → At stamp × (from ≤ℤ stamp) × (stamp ≤ℤ to))
    (first_so : (stamp : ℤ) → At stamp → First stamp (first_of stamp))
    (second_so : (stamp : ℤ) → At stamp → Second stamp (second_of stamp))
    (first_only : (stamp : ℤ) (x : Option Row) → At stamp → First stamp x → first_of stamp ≡ x)
    (second_only : (stamp : ℤ) (x : Option Row) → At stamp → Second stamp x → second_of stamp ≡ x)
    (of_at : (stamp : ℤ) → At stamp → from ≤ℤ stamp → stamp ≤ℤ to → is_kept junction (first_of stamp) (second_of stamp) ≡ true → Among stamp stamps) where
  abbrev one_at : ℤ → Option Element
  one_at stamp = joined_at junction (a_side a shape cat) (a_side b other cat) stamp (first_of stamp) (second_of stamp)

  abbrev all_rows : List Element
  all_rows = filter_map one_at stamps

  rows_rise : AllPairs (λ (x y : Element). x.0 <ℤ y.0) all_rows
  rows_rise = pairs_made (λ (x y : ℤ). x <ℤ y) (λ (x y : Element). x.0 <ℤ y.0) one_at (λ x z e f low is at.
      let one = ap (λ (g : Element). g.0) (row_kept junction (a_side a shape cat) (a_side b other cat) x (first_of x) (second_of x) e is).0 in
      let two = ap (λ (g : Element). g.0) (row_kept junction (a_side a shape cat) (a_side b other cat) z (first_of z) (second_of z) f at).0 in
      subst (λ (t : ℤ). t <ℤ f.0) one (subst (λ (t : ℤ). x <ℤ t) two low)) stamps rise

  record IsRow (stamp : ℤ) (row : Row) : Type 0 where
    at : At stamp
    low : from ≤ℤ stamp
    high : stamp ≤ℤ to
    kept : is_kept junction (first_of stamp) (second_of stamp) ≡ true
    row_is : row ≡ row_of_both cat a b (first_of stamp) (second_of stamp)

  row_of : (stamp : ℤ) (row : Row) → Among (stamp, row) all_rows → IsRow stamp row
  row_of stamp row there =
      let from_ = among_mapped one_at stamps (stamp, row) there in
      let kept = row_kept junction (a_side a shape cat) (a_side b other cat) from_.0 (first_of from_.0) (second_of from_.0) (stamp, row) from_.2 in
      let same : from_.0 ≡ stamp = ap (λ (e : Element). e.0) kept.0 in
      let where_ = at_of stamp (subst (λ (z : ℤ). Among z stamps) same from_.1) in
      record {
        at = where_.0;
        low = where_.1;
        high = where_.2;
        kept = subst (λ (z : ℤ). is_kept junction (first_of z) (second_of z) ≡ true) same kept.1;
        row_is = subst (λ (z : ℤ). row ≡ row_of_both cat a b (first_of z) (second_of z)) same (sym (ap (λ (e : Element). e.1) kept.0));
      }

  pub lists : (answered : Answered) → answered ≡ (elements_text (columns_of cat a ++ columns_of cat b) all_rows, cat) → ListsBoth junction At First Second from to a b cat answered
  lists answered is = record {
    rows = all_rows;
    rising = rows_rise;
    within = λ stamp row there. let r = row_of stamp row (contains_from all_rows (stamp, row) there) in (r.at, r.low, r.high);
    theirs = λ stamp row there.
        let r = row_of stamp row (contains_from all_rows (stamp, row) there) in
        record { first = first_of stamp; second = second_of stamp; first_is = first_so stamp r.at; second_is = second_so stamp r.at; kept = r.kept; row_is = r.row_is };
    each = λ stamp x y at low high first_is second_is kept.
        let one = first_only stamp x at first_is in
        let two = second_only stamp y at second_is in
        let own : is_kept junction (first_of stamp) (second_of stamp) ≡ true = ap (λ (o : Option Row). is_kept junction o (second_of stamp)) one ∙ ap (is_kept junction x) two ∙ kept in
        let e : Element = (stamp, row_of_both cat a b (first_of stamp) (second_of stamp)) in
        let here : Among e all_rows = taken one_at stamps stamp e (of_at stamp at low high own) (kept_row junction (a_side a shape cat) (a_side b other cat) stamp (first_of stamp) (second_of stamp) own) in
        contains_to all_rows (stamp, row_of_both cat a b x y)
        (subst (λ (o : Option Row). Among (stamp, row_of_both cat a b x o) all_rows) two
        (subst (λ (o : Option Row). Among (stamp, row_of_both cat a b o (second_of stamp)) all_rows) one here));
    lines = is;
  }
