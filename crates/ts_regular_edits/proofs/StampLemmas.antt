-- Edits of elements at offsets, as edits at the stamps of these.
use Rattle.std.proofs.Common.{◌≡◌, ℕ, Ordering, Less, Equal, Greater, ◌<◌, ◌==◌, Bool, true, false, cond, not, Option, Some, None, IsSome, List, [], ◌∷◌, refl, sym, ap, ◌∙◌, arith, inl, inr, ℤ, ◌<ℤ◌}
use Rattle.std.specs.Option.{option_map}
use Rattle.std.specs.List.{cons_option}
use Rattle.std.specs.Ordering.{is_eq, nat_cmp, int_cmp, int_eq}
use Rattle.std.specs.FinMap.Entries.{by_order}
use Rattle.std.proofs.lemmas.Bool.{cases_lt}
use Rattle.std.proofs.lemmas.Int.{ints}
use Rattle.std.proofs.lemmas.List.Elements.{All-head, All-tail}
use Rattle.ts_calendar.specs.Calendars.{IsLaid}
use Rattle.ts_space.proofs.PlaceLemmas.{int_lt_yes, int_lt_no}
use Rattle.ts_offset.specs.Grid.{GridPlan, stamp_of}
use Rattle.ts_row.specs.Row.{Row, Element}
use Rattle.ts_irregular.specs.Edit as stamps
use Rattle.ts_row.specs.Row as elements
use Rattle.ts_regular.specs.RegularPage.{OffsetElement, element_at, with_element, without_element}
use Rattle.ts_regular.proofs.OffsetLemmas.{lt_yes, lt_no, eq_yes, eq_no}
use Rattle.ts_sheets.specs.Stamped.{stamped, HaveStarts}
use Rattle.ts_sheets.proofs.StartLemmas.{stamps_rise}

one_start : (s t : ℤ) → ◌≡◌ {A = Option ℤ} (Some s) (Some t) → s ≡ t
one_start s t same = cc

-- offsets compare as their stamps do
cmp_less : (n m : ℕ) (s t : ℤ) → n < m → s <ℤ t → nat_cmp n m ≡ int_cmp s t
cmp_less n m s t low up = rw (lt_yes n m low, int_lt_yes s t up) refl

cmp_greater : (n m : ℕ) (s t : ℤ) → m < n → t <ℤ s → nat_cmp n m ≡ int_cmp s t
cmp_greater n m s t low up = rw (lt_no n m (omega (arith, low)), eq_no n m (λ same. omega (arith, same, low)), int_lt_no s t (omega (arith, ints, up)), int_lt_yes t s up) refl

cmp_equal : (n m : ℕ) (s t : ℤ) → n ≡ m → s ≡ t → nat_cmp n m ≡ int_cmp s t
cmp_equal n m s t same is = rw (lt_no n m (omega (arith, same)), eq_yes n m same, int_lt_no s t (omega (arith, ints, is)), int_lt_no t s (omega (arith, ints, is))) refl

pub cmp_agree : (g : GridPlan) → IsLaid g.calendar → (n m : ℕ) (s t : ℤ) → stamp_of g n ≡ Some s → stamp_of g m ≡ Some t → nat_cmp n m ≡ int_cmp s t
cmp_agree g laid n m s t first second = elim (cases_lt n m) [
  | inl low ↦ cmp_less n m s t low (stamps_rise g laid n m s t low first second)
  | inr high ↦ elim (cases_lt m n) [
    | inl above ↦ cmp_greater n m s t above (stamps_rise g laid m n t s above second first)
    | inr below ↦
        let same : n ≡ m = omega (arith, high, below) in
        cmp_equal n m s t same (one_start s t (sym first ∙ ap (stamp_of g) same ∙ second))
  ]
]

-- of one number and another, equal by the comparison or by the test
eq_tested : (n m : ℕ) → (n == m) ≡ is_eq (nat_cmp n m)
eq_tested n m = elim (cases_lt n m) [
  | inl low ↦ rw (lt_yes n m low, eq_no n m (λ same. omega (arith, same, low))) refl
  | inr high ↦ elim (cases_lt m n) [
    | inl above ↦ rw (lt_no n m high, eq_no n m (λ same. omega (arith, same, above))) refl
    | inr below ↦ rw (lt_no n m high, eq_yes n m (omega (arith, high, below))) refl
  ]
]

pub some_start : (o : Option ℤ) → IsSome o → (t : ℤ) × (o ≡ Some t)
some_start (Some t) some = (t, refl)
some_start None some = absurd (cc)

-- one element more
pub stamped_cons : (g : GridPlan) (n : ℕ) (row : Row) (s : ℤ) (es : List OffsetElement) → stamp_of g n ≡ Some s → stamped g ((n, row) ∷ es) ≡ (s, row) ∷ stamped g es
stamped_cons g n row s es is = ap (λ (o : Option ℤ). cons_option (option_map (λ start. (start, row)) o) (stamped g es)) is

module _ (g : GridPlan) (laid : IsLaid g.calendar) (n : ℕ) (s : ℤ) (is : stamp_of g n ≡ Some s) where
  pub found_stamped : (es : List OffsetElement) → HaveStarts g es → elements.element_at s (stamped g es) ≡ element_at n es
  found_stamped [] starts = refl
  found_stamped (e ∷ es) starts =
      let t = some_start (stamp_of g e.0) (All-head (λ e. IsSome (stamp_of g e.0)) e es starts) in
      let rest = found_stamped es (All-tail (λ e. IsSome (stamp_of g e.0)) e es starts) in
      let same = cmp_agree g laid n e.0 s t.0 is t.1 in
      ap (elements.element_at s) (stamped_cons g e.0 e.1 t.0 es t.1)
      ∙ ap (λ (o : Ordering). cond (is_eq o) (Some e.1) (elements.element_at s (stamped g es))) (sym same)
      ∙ ap (λ (o : Option Row). cond (is_eq (nat_cmp n e.0)) (Some e.1) o) rest

  by_each : (r : Ordering) (row : Row) (e : OffsetElement) (t : ℤ) (es : List OffsetElement) → stamp_of g e.0 ≡ Some t → stamped g (with_element n row es) ≡ stamps.with_element s row (stamped g es)
      → stamped g (by_order r ((n, row) ∷ e ∷ es) ((e.0, row) ∷ es) (e ∷ with_element n row es))
      ≡ by_order r ((s, row) ∷ (t, e.1) ∷ stamped g es) ((t, row) ∷ stamped g es) ((t, e.1) ∷ stamps.with_element s row (stamped g es))
  by_each Less row e t es at rest = stamped_cons g n row s (e ∷ es) is ∙ ap (λ (l : List Element). (s, row) ∷ l) (stamped_cons g e.0 e.1 t es at)
  by_each Equal row e t es at rest = stamped_cons g e.0 row t es at
  by_each Greater row e t es at rest = stamped_cons g e.0 e.1 t (with_element n row es) at ∙ ap (λ (l : List Element). (t, e.1) ∷ l) rest

  pub put_stamped : (row : Row) (es : List OffsetElement) → HaveStarts g es → stamped g (with_element n row es) ≡ stamps.with_element s row (stamped g es)
  put_stamped row [] starts = stamped_cons g n row s [] is
  put_stamped row (e ∷ es) starts =
      let t = some_start (stamp_of g e.0) (All-head (λ e. IsSome (stamp_of g e.0)) e es starts) in
      let rest = put_stamped row es (All-tail (λ e. IsSome (stamp_of g e.0)) e es starts) in
      let same = cmp_agree g laid n e.0 s t.0 is t.1 in
      by_each (nat_cmp n e.0) row e t.0 es t.1 rest
      ∙ ap (λ (o : Ordering). by_order o ((s, row) ∷ (t.0, e.1) ∷ stamped g es) ((t.0, row) ∷ stamped g es) ((t.0, e.1) ∷ stamps.with_element s row (stamped g es))) same
      ∙ ap (stamps.with_element s row) (sym (stamped_cons g e.0 e.1 t.0 es t.1))

  kept_or_not : (b : Bool) (e : OffsetElement) (t : ℤ) (es : List OffsetElement) (rest : List Element) → stamp_of g e.0 ≡ Some t → stamped g es ≡ rest
      → stamped g (cond b (e ∷ es) es) ≡ cond b ((t, e.1) ∷ rest) rest
  kept_or_not true e t es rest at same = stamped_cons g e.0 e.1 t es at ∙ ap (λ (l : List Element). (t, e.1) ∷ l) same
  kept_or_not false e t es rest at same = same

  pub taken_stamped : (es : List OffsetElement) → HaveStarts g es → stamped g (without_element n es) ≡ stamps.without_element s (stamped g es)
  taken_stamped [] starts = refl
  taken_stamped (e ∷ es) starts =
      let t = some_start (stamp_of g e.0) (All-head (λ e. IsSome (stamp_of g e.0)) e es starts) in
      let rest = taken_stamped es (All-tail (λ e. IsSome (stamp_of g e.0)) e es starts) in
      let same : (n == e.0) ≡ int_eq s t.0 = eq_tested n e.0 ∙ ap is_eq (cmp_agree g laid n e.0 s t.0 is t.1) in
      let left = stamps.without_element s (stamped g es) in
      kept_or_not (not (n == e.0)) e t.0 (without_element n es) left t.1 rest
      ∙ ap (λ (b : Bool). cond (not b) ((t.0, e.1) ∷ left) left) same
      ∙ ap (stamps.without_element s) (sym (stamped_cons g e.0 e.1 t.0 es t.1))
