-- Offsets in a range and the stamps of their on starts.
use Rattle.std.proofs.Common.{◌≡◌, ℕ, zero, suc, ◌+◌, ◌^◌, ◌<◌, ◌≤◌, Bool, true, false, cond, not, ◌&&◌, nat_le, nat_lt, Option, Some, IsSome, AllPairs, List, [], ◌∷◌, length, filter, get_or, refl, sym, ap, ◌∙◌, arith, inl, inr, ℤ, ◌<ℤ◌, ◌≤ℤ◌}
use Rattle.std.specs.Prelude.{int_lt, slice_get}
use Rattle.std.proofs.lemmas.Bool.{cases_lt}
use Rattle.std.proofs.lemmas.Bool.Decides.{nat_tests}
use Rattle.std.proofs.lemmas.Int.{by_lt_z, ints}
use Rattle.std.proofs.lemmas.List.Elements.{All-filter, All-head, All-tail}
use Rattle.std.proofs.lemmas.Option.{slice_get_within, slice_get-get_or, get_or_from_slice_get}
use Rattle.ts_calendar.specs.Calendars.{IsLaid}
use Rattle.ts_space.proofs.PlaceLemmas.{int_lt_yes, int_lt_no}
use Rattle.ts_offset.specs.Grid.{on_starts, GridPlan, starts_before, starts_of, stamp_of}
use Rattle.ts_row.specs.Row.{Element}
use Rattle.ts_sheets.specs.Stamped.{is_within, within_range, without_range, stamped, HaveStarts}
use Rattle.ts_regular.specs.RegularPage.{OffsetElement}
use Rattle.ts_regular.specs.Range.{is_between, within, outside}
use Rattle.ts_regular_edits.specs.Range.{AreOffsetsOf, AreUpTo}
use Rattle.ts_regular_edits.proofs.StampLemmas.{some_start, stamped_cons}
use Rattle.ts_sheets.proofs.StartLemmas.{all_few, filtered_fewer, starts_rise, stamps_rise}

-- how many of some stamps that rise lie before another
before_low : (s x : ℤ) (xs : List ℤ) → x <ℤ s → length (filter (λ x. int_lt x s) (x ∷ xs)) ≡ suc (length (filter (λ x. int_lt x s) xs))
before_low s x xs low = rw (int_lt_yes x s low) refl

before_high : (s x : ℤ) (xs : List ℤ) → s ≤ℤ x → length (filter (λ x. int_lt x s) (x ∷ xs)) ≡ length (filter (λ x. int_lt x s) xs)
before_high s x xs high = rw (int_lt_no x s high) refl

none_before : (s : ℤ) (xs : List ℤ) → ((j : ℕ) (d : ℤ) → j < length xs → s ≤ℤ get_or xs j d) → length (filter (λ x. int_lt x s) xs) ≡ 0
none_before s [] above = refl
none_before s (x ∷ xs) above = before_high s x xs (above 0 s (omega arith)) ∙ none_before s xs (λ j d within. above (suc j) d (omega (arith, within)))

tail_pairs : (x : ℤ) (xs : List ℤ) → AllPairs (λ a b. a <ℤ b) (x ∷ xs) → AllPairs (λ a b. a <ℤ b) xs
tail_pairs x xs pairs i j d first within = pairs (suc i) (suc j) d (omega (arith, first)) (omega (arith, within))

counted_less : (s t : ℤ) (xs : List ℤ) (n : ℕ) → AllPairs (λ a b. a <ℤ b) xs → slice_get xs n ≡ Some t → t <ℤ s → n < length (filter (λ x. int_lt x s) xs)
counted_less s t [] n rise is low = absurd (cc)
counted_less s t (x ∷ xs) zero rise is low = let first : x ≡ t = cc in let long = before_low s x xs (omega (arith, ints, first, low)) in omega (arith, long)
counted_less s t (x ∷ xs) (suc n) rise is low =
    let within = slice_get_within xs n t is in
    let up = rise 0 (suc n) t (omega arith) (omega (arith, within)) in
    let at = get_or_from_slice_get xs n t t is in
    let long = before_low s x xs (omega (arith, ints, up, at, low)) in
    let rest = counted_less s t xs n (tail_pairs x xs rise) is low in
    omega (arith, long, rest)

counted_more : (s t : ℤ) (xs : List ℤ) (n : ℕ) → AllPairs (λ a b. a <ℤ b) xs → slice_get xs n ≡ Some t → s ≤ℤ t → length (filter (λ x. int_lt x s) xs) ≤ n
counted_more s t [] n rise is high = absurd (cc)
counted_more s t (x ∷ xs) zero rise is high =
    let first : x ≡ t = cc in
    let none = before_high s x xs (omega (arith, ints, first, high)) ∙ none_before s xs (λ j d within. let up = rise 0 (suc j) d (omega arith) (omega (arith, within)) in omega (arith, ints, up, first, high)) in
    omega (arith, none)
counted_more s t (x ∷ xs) (suc n) rise is high =
    let rest = counted_more s t xs n (tail_pairs x xs rise) is high in
    by_lt_z x s (λ low. let long = before_low s x xs low in omega (arith, long, rest)) (λ above. let long = before_high s x xs above in omega (arith, long, rest))

-- the on starts before a stamp, of those from the origin on
kept_twice : (p q : ℤ → Bool) (xs : List ℤ) → filter p (filter q xs) ≡ filter (λ x. q x && p x) xs
kept_twice p q [] = refl
kept_twice p q (x ∷ xs) = one (q x) (p x) refl (kept_twice p q xs)
  where
    one : (b c : Bool) → c ≡ p x → filter p (filter q xs) ≡ filter (λ x. q x && p x) xs → filter p (cond b (x ∷ filter q xs) (filter q xs)) ≡ cond (b && c) (x ∷ filter (λ x. q x && p x) xs) (filter (λ x. q x && p x) xs)
    one true c same rest = ap (λ (k : Bool). cond k (x ∷ filter p (filter q xs)) (filter p (filter q xs))) (sym same) ∙ ap (λ (l : List ℤ). cond c (x ∷ l) l) rest
    one false c same rest = rest

before_is : (g : GridPlan) (s : ℤ) → starts_before g s ≡ length (filter (λ x. int_lt x s) (starts_of g))
before_is g s = ap length (sym (kept_twice (λ x. int_lt x s) (λ x. not (int_lt x g.origin)) (on_starts g.calendar)))

module _ (g : GridPlan) (laid : IsLaid g.calendar) (n : ℕ) (t s : ℤ) (is : stamp_of g n ≡ Some t) where
  before_less : t <ℤ s → n < starts_before g s
  before_less low = let less = counted_less s t (starts_of g) n (starts_rise g laid) is low in omega (arith, less, before_is g s)

  before_more : s ≤ℤ t → starts_before g s ≤ n
  before_more high = let more = counted_more s t (starts_of g) n (starts_rise g laid) is high in omega (arith, more, before_is g s)

pub one_start : (s t : ℤ) → ◌≡◌ {A = Option ℤ} (Some s) (Some t) → s ≡ t
one_start s t same = cc

-- those up to it: with one at it, and without
pub up_to_one : (g : GridPlan) (s : ℤ) (b : ℕ) → b ≡ starts_before g s → stamp_of g b ≡ Some s → AreUpTo g s (b + 1)
up_to_one g s b number there laid n t is = (
  (λ less. by_lt_z s t
      (λ above.
      let more = before_more g laid n t s is (omega (arith, ints, above)) in
      let same : n ≡ b = omega (arith, less, more, number) in
      let one = one_start t s (sym is ∙ ap (stamp_of g) same ∙ there) in
      absurd (omega (arith, ints, one, above)))
      (λ below. below)),
  (λ low. by_lt_z t s
      (λ less. let few = before_less g laid n t s is less in omega (arith, few, number))
      (λ high. elim (cases_lt b n) [
        | inl more ↦ absurd (let up = stamps_rise g laid b n s t more there is in omega (arith, ints, up, low))
        | inr few ↦ omega (arith, few)
      ])),
)

pub up_to_none : (g : GridPlan) (s : ℤ) (b : ℕ) → b ≡ starts_before g s → (stamp_of g b ≡ Some s → ⊥) → AreUpTo g s b
up_to_none g s b number none laid n t is = (
  (λ less. by_lt_z s t (λ above. absurd (let more = before_more g laid n t s is (omega (arith, ints, above)) in omega (arith, less, more, number))) (λ below. below)),
  (λ low. by_lt_z t s
      (λ less. let few = before_less g laid n t s is less in omega (arith, few, number))
      (λ high.
      let same : t ≡ s = omega (arith, ints, low, high) in
      elim (cases_lt b n) [
        | inl more ↦
            let within = slice_get_within (starts_of g) n t is in
            let at = slice_get-get_or (starts_of g) b s (omega (arith, more, within)) in
            let up = stamps_rise g laid b n (get_or (starts_of g) b s) t more at is in
            let few = before_less g laid b (get_or (starts_of g) b s) s at (omega (arith, ints, up, same)) in
            absurd (omega (arith, few, number))
        | inr few ↦
            let many = before_more g laid n t s is (omega (arith, ints, same)) in
            let here : n ≡ b = omega (arith, few, many, number) in
            absurd (none (ap (stamp_of g) (sym here) ∙ is ∙ ap Some same))
      ])),
)

-- there are few
pub few_before : (g : GridPlan) (s : ℤ) → starts_before g s < 2 ^ 62
few_before g s =
    let some = filtered_fewer (λ x. not (int_lt x g.origin) && int_lt x s) (on_starts g.calendar) in
    let all = all_few g.calendar in
    omega (arith, some, all)

-- the offsets of a range
le_yes : (a b : ℕ) → a ≤ b → nat_le a b ≡ true
le_yes a b h = grind (arith, nat_tests)

le_no : (a b : ℕ) → b < a → nat_le a b ≡ false
le_no a b h = grind (arith, nat_tests)

lt_yes : (a b : ℕ) → a < b → nat_lt a b ≡ true
lt_yes a b h = grind (arith, nat_tests)

lt_no : (a b : ℕ) → b ≤ a → nat_lt a b ≡ false
lt_no a b h = grind (arith, nat_tests)

pub offsets_of : (g : GridPlan) (from to : ℤ) (lower upper : ℕ) → lower ≡ starts_before g from → AreUpTo g to upper → AreOffsetsOf g from to lower upper
offsets_of g from to lower upper number up_to laid n e is =
    let first : nat_le lower n ≡ not (int_lt e.0 from) = by_lt_z e.0 from
    (λ low. let less = before_less g laid n e.0 from is low in le_no lower n (omega (arith, less, number)) ∙ sym (ap not (int_lt_yes e.0 from low)))
    (λ high. let more = before_more g laid n e.0 from is high in le_yes lower n (omega (arith, more, number)) ∙ sym (ap not (int_lt_no e.0 from high))) in
    let last : nat_lt n upper ≡ not (int_lt to e.0) = by_lt_z to e.0
    (λ above. elim (cases_lt n upper) [
      | inl less ↦ absurd (let low = (up_to laid n e.0 is).0 less in omega (arith, ints, low, above))
      | inr more ↦ lt_no n upper more ∙ sym (ap not (int_lt_yes to e.0 above))
    ])
    (λ low. lt_yes n upper ((up_to laid n e.0 is).1 low) ∙ sym (ap not (int_lt_no to e.0 low))) in
    λ j. first j && last j

-- elements that a test of offsets keeps, and one of stamps
module _ (g : GridPlan) (p : ℕ → Bool) (q : Element → Bool) (agree : (n : ℕ) (e : Element) → stamp_of g n ≡ Some e.0 → p n ≡ q e) where
  kept_or_not : (b : Bool) (e : OffsetElement) (t : ℤ) (es : List OffsetElement) (rest : List Element) → stamp_of g e.0 ≡ Some t → stamped g es ≡ rest → stamped g (cond b (e ∷ es) es) ≡ cond b ((t, e.1) ∷ rest) rest
  kept_or_not true e t es rest at same = stamped_cons g e.0 e.1 t es at ∙ ap (λ (l : List Element). (t, e.1) ∷ l) same
  kept_or_not false e t es rest at same = same

  kept_stamped : (es : List OffsetElement) → HaveStarts g es → stamped g (filter (λ e. p e.0) es) ≡ filter q (stamped g es)
  kept_stamped [] starts = refl
  kept_stamped (e ∷ es) starts =
      let t = some_start (stamp_of g e.0) (All-head (λ (e : OffsetElement). IsSome (stamp_of g e.0)) e es starts) in
      let rest = kept_stamped es (All-tail (λ (e : OffsetElement). IsSome (stamp_of g e.0)) e es starts) in
      let same : p e.0 ≡ q (t.0, e.1) = agree e.0 (t.0, e.1) t.1 in
      let left = filter q (stamped g es) in
      kept_or_not (p e.0) e t.0 (filter (λ e. p e.0) es) left t.1 rest
      ∙ ap (λ (b : Bool). cond b ((t.0, e.1) ∷ left) left) same
      ∙ ap (filter q) (sym (stamped_cons g e.0 e.1 t.0 es t.1))

-- as many elements as stamps
stamped_long : (g : GridPlan) (es : List OffsetElement) → HaveStarts g es → length (stamped g es) ≡ length es
stamped_long g [] starts = refl
stamped_long g (e ∷ es) starts =
    let t = some_start (stamp_of g e.0) (All-head (λ (e : OffsetElement). IsSome (stamp_of g e.0)) e es starts) in
    let rest = stamped_long g es (All-tail (λ (e : OffsetElement). IsSome (stamp_of g e.0)) e es starts) in
    ap length (stamped_cons g e.0 e.1 t.0 es t.1) ∙ ap suc rest

pub kept_starts : (g : GridPlan) (p : OffsetElement → Bool) (es : List OffsetElement) → HaveStarts g es → HaveStarts g (filter p es)
kept_starts g p es starts = All-filter p (λ (e : OffsetElement). IsSome (stamp_of g e.0)) es starts

module _ (g : GridPlan) (laid : IsLaid g.calendar) (from to : ℤ) (lower upper : ℕ) (offsets : AreOffsetsOf g from to lower upper) (es : List OffsetElement) (starts : HaveStarts g es) where
  pub within_stamped : stamped g (within lower upper es) ≡ within_range from to (stamped g es)
  within_stamped = kept_stamped g (is_between lower upper) (is_within from to) (offsets laid) es starts

  pub outside_stamped : stamped g (outside lower upper es) ≡ without_range from to (stamped g es)
  outside_stamped = kept_stamped g (λ n. not (is_between lower upper n)) (λ e. not (is_within from to e)) (λ n e is. ap not (offsets laid n e is)) es starts

  pub within_number : length (within lower upper es) ≡ length (within_range from to (stamped g es))
  within_number = sym (stamped_long g (within lower upper es) (kept_starts g (λ e. is_between lower upper e.0) es starts)) ∙ ap length within_stamped
