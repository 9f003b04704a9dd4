-- Elements at on starts so many behind their own are what stands there so many on starts earlier.
use Rattle.std.proofs.Common.{◌≡◌, ◌∙◌, ℕ, zero, suc, ◌-◌, ◌<◌, ◌≤◌, Bool, true, false, ◌&&◌, not, cond, inl, inr, ℤ, pos, ◌+ℤ◌, ◌-ℤ◌, ◌<ℤ◌, ◌≤ℤ◌, unsigned_abs, nat_le, Option, Some, None, option_map, option_and_then, unwrap_or, List, [], ◌∷◌, length, filter, filter_map, slice_get, refl, sym, ap, subst, arith}
use Rattle.std.specs.Prelude.{int_lt}
use Rattle.std.proofs.lemmas.Bool.{cases_lt}
use Rattle.std.proofs.lemmas.Bool.Decides.{nat_tests}
use Rattle.std.proofs.lemmas.Int.{by_lt_z, ints}
use Rattle.std.proofs.lemmas.Option.{same_Some}
use Rattle.ts_row.specs.Row.{Row, Element}
use Rattle.ts_cells.specs.IrregularPage.{AreRising}
use Rattle.ts_irregular.specs.Edit.{element_at, last_of}
use Rattle.ts_entry.specs.Entry.{is_reached, starts_to_last}
use Rattle.ts_calendar.specs.Calendars.{IsLaid}
use Rattle.ts_calendar.proofs.StampLemmas.{int_lt_yes, int_lt_no, int_lt-false}
use Rattle.ts_offset.specs.Grid.{on_starts, GridPlan, starts_before, starts_of, stamp_of}
use Rattle.ts_combine.specs.Combine.{from_origin, lagged_at}
use Rattle.ts_combine.specs.Series.{IsStartOf}
use Rattle.ts_combine.specs.Moved.{up_to, moved, last_offset}
use Rattle.ts_combine.proofs.RisingLemmas.{IsOneOf, AreRisen, same-risen, risen-kept, risen-given, kept-one, one-kept, one-given, given-one, one-at, at-one, risen-at, count-below, starts-risen}
use Rattle.ts_combine.proofs.OrderLemmas.{rising-risen}
use Rattle.ts_combine.proofs.ElementLemmas.{found-there, there-found}

-- a number from the origin on
origin-some : (z : ℤ) (n : ℕ) → from_origin z ≡ Some n → z ≡ pos n
origin-some z n e = by_lt_z z (pos 0)
    (λ lt. absurd (let none = sym e ∙ ap (λ b. cond b None (Some (unsigned_abs z))) (int_lt_yes z (pos 0) lt) in cc))
    (λ ge. let same = same_Some (unsigned_abs z) n (sym (ap (λ b. cond b None (Some (unsigned_abs z))) (int_lt_no z (pos 0) ge)) ∙ e) in omega (arith, ints, same, ge))

some-origin : (z : ℤ) (n : ℕ) → z ≡ pos n → from_origin z ≡ Some n
some-origin z n e = ap from_origin e ∙ ap (λ b. cond b None (Some n)) (int_lt_no (pos n) (pos 0) (omega (arith, ints)))

-- a number up to another
up-to-some : (last n m : ℕ) → up_to last n ≡ Some m → (n ≡ m) × (n ≤ last)
up-to-some last n m e = by (nat_le n last) refl e where
  by : (b : Bool) → nat_le n last ≡ b → cond b (Some n) None ≡ Some m → (n ≡ m) × (n ≤ last)
  by true le e = (same_Some n m e, grind (arith, nat_tests))
  by false le e = absurd (cc)

some-up-to : (last n : ℕ) → n ≤ last → up_to last n ≡ Some n
some-up-to last n le = let yes_ : nat_le n last ≡ true = grind (arith, nat_tests) in ap (λ b. cond b (Some n) None) yes_

-- what is kept twice
kept-twice : (p q : ℤ → Bool) (xs : List ℤ) → filter p (filter q xs) ≡ filter (λ x. q x && p x) xs
kept-twice p q [] = refl
kept-twice p q (x ∷ xs) = one (q x) (p x) refl (kept-twice p q xs) where
  one : (b c : Bool) → p x ≡ c → filter p (filter q xs) ≡ filter (λ x. q x && p x) xs → filter p (cond b (x ∷ filter q xs) (filter q xs)) ≡ cond (b && c) (x ∷ filter (λ x. q x && p x) xs) (filter (λ x. q x && p x) xs)
  one true c same rest = ap (λ k. cond k (x ∷ filter p (filter q xs)) (filter p (filter q xs))) same ∙ ap (λ l. cond c (x ∷ l) l) rest
  one false c same rest = rest

module _ (grid : GridPlan) (laid : IsLaid grid.calendar) where
  risen : AreRisen (starts_of grid)
  risen = risen-kept (λ t. t) (λ x. not (int_lt x grid.origin)) (on_starts grid.calendar) (starts-risen grid.calendar laid)

  -- as many on starts come before that of an offset
  before-start : (n : ℕ) (s : ℤ) → stamp_of grid n ≡ Some s → starts_before grid s ≡ n
  before-start n s at =
      ap length (sym (kept-twice (λ x. int_lt x s) (λ x. not (int_lt x grid.origin)) (on_starts grid.calendar)))
      ∙ count-below (starts_of grid) n s risen at

  -- offsets are in order as their stamps are
  not-later : (m n : ℕ) (s t : ℤ) → stamp_of grid m ≡ Some s → stamp_of grid n ≡ Some t → m ≤ n → s ≤ℤ t
  not-later m n s t a b le = elim (cases_lt m n) [
    | inl lt ↦ let up = risen-at (starts_of grid) m n s t risen lt a b in omega (arith, ints, up)
    | inr ge ↦
        let same : m ≡ n = omega (arith, le, ge) in
        let one = same_Some s t (sym a ∙ ap (stamp_of grid) same ∙ b) in
        omega (arith, ints, one)
  ]

  not-more : (m n : ℕ) (s t : ℤ) → stamp_of grid m ≡ Some s → stamp_of grid n ≡ Some t → s ≤ℤ t → m ≤ n
  not-more m n s t a b le = elim (cases_lt n m) [
    | inl lt ↦ absurd (let up = risen-at (starts_of grid) n m t s risen lt b a in omega (arith, ints, up, le))
    | inr ge ↦ ge
  ]

  module _ (es : List Element) (rising : AreRising es) (starts : (stamp : ℤ) (row : Row) → element_at stamp es ≡ Some row → IsStartOf grid stamp) (by : ℤ) where
    abbrev last : ℕ
    last = last_offset grid es

    start-of : (e : Element) → IsOneOf e es → IsStartOf grid e.0
    start-of e one = let w = at-one es e one in starts e.0 e.1 (found-there es w.0 e rising w.1)

    -- there is a last element, where there is one
    last-there : (e : Element) → IsOneOf e es → (l : Element) × (last_of es ≡ Some l)
    last-there e one = go es (at-one es e one).0 (at-one es e one).1 where
      at-place : (xs : List Element) (n : ℕ) → n < length xs → (l : Element) × (slice_get xs n ≡ Some l)
      at-place [] n lt = absurd (omega arith)
      at-place (x ∷ xs) zero lt = (x, refl)
      at-place (x ∷ xs) (suc n) lt = at-place xs n (omega (arith, lt))

      go : (xs : List Element) (n : ℕ) → slice_get xs n ≡ Some e → (l : Element) × (last_of xs ≡ Some l)
      go [] n at = absurd (cc)
      go (x ∷ xs) n at = at-place (x ∷ xs) (length (x ∷ xs) - 1) (omega arith)

    last-is : (l : Element) → last_of es ≡ Some l → (last ≡ starts_before grid l.0) × (stamp_of grid last ≡ Some l.0)
    last-is l at =
        let number : last ≡ starts_before grid l.0 = ap (λ o. unwrap_or (option_map (λ e. starts_before grid e.0) o) 0) at in
        let w = start-of l (one-at es (length es - 1) l at) in
        (number, ap (stamp_of grid) (number ∙ before-start w.0 l.0 w.1) ∙ w.1)

    -- what it is to move
    record IsMoved (e x : Element) : Type 0 where
      offset : ℕ
      stamp_is : stamp_of grid offset ≡ Some x.0
      behind : pos (starts_before grid e.0) +ℤ by ≡ pos offset
      within : offset ≤ last
      row : e.1 ≡ x.1

    moved-is : (e x : Element) → moved grid by last e ≡ Some x → IsMoved e x
    moved-is e x is = placed (from_origin (pos (starts_before grid e.0) +ℤ by)) refl is where
      at : (n : ℕ) → pos (starts_before grid e.0) +ℤ by ≡ pos n → n ≤ last → (o : Option ℤ) → stamp_of grid n ≡ o → option_map (λ s. (s, e.1)) o ≡ Some x → IsMoved e x
      at n behind within (Some s) stamp is =
          let same = same_Some (s, e.1) x is in
          record { offset = n; stamp_is = stamp ∙ ap (λ (y : Element). Some y.0) same; behind = behind; within = within; row = ap (λ (y : Element). y.1) same }
      at n behind within None stamp is = absurd (cc)

      up : (n : ℕ) → pos (starts_before grid e.0) +ℤ by ≡ pos n → (o : Option ℕ) → up_to last n ≡ o → option_map (λ s. (s, e.1)) (option_and_then (stamp_of grid) o) ≡ Some x → IsMoved e x
      up n behind (Some m) kept is = let w = up-to-some last n m kept in at m (behind ∙ ap pos w.0) (subst (λ k. k ≤ last) w.0 w.1) (stamp_of grid m) refl is
      up n behind None kept is = absurd (cc)

      placed : (o : Option ℕ) → from_origin (pos (starts_before grid e.0) +ℤ by) ≡ o → option_map (λ s. (s, e.1)) (option_and_then (stamp_of grid) (option_and_then (up_to last) o)) ≡ Some x → IsMoved e x
      placed (Some n) origin is = up n (origin-some (pos (starts_before grid e.0) +ℤ by) n origin) (up_to last n) refl is
      placed None origin is = absurd (cc)

    is-moved : (e x : Element) → IsMoved e x → moved grid by last e ≡ Some x
    is-moved e x w =
        ap (λ o. option_map (λ s. (s, e.1)) (option_and_then (stamp_of grid) (option_and_then (up_to last) o))) (some-origin (pos (starts_before grid e.0) +ℤ by) w.offset w.behind)
        ∙ ap (λ o. option_map (λ s. (s, e.1)) (option_and_then (stamp_of grid) o)) (some-up-to last w.offset w.within)
        ∙ ap (option_map (λ s. (s, e.1))) w.stamp_is ∙ ap (λ (r : Row). Some (x.0, r)) w.row

    -- what stands at a start so many behind it
    record IsLagged (s : ℤ) (x : Element) : Type 0 where
      offset : ℕ
      source : ℤ
      source_is : stamp_of grid offset ≡ Some source
      before : pos (starts_before grid s) -ℤ by ≡ pos offset
      there : element_at source es ≡ Some x.1
      stamp_is : s ≡ x.0

    lagged-is : (s : ℤ) (x : Element) → lagged_at grid by es s ≡ Some x → IsLagged s x
    lagged-is s x is = placed (from_origin (pos (starts_before grid s) -ℤ by)) refl is where
      there : (n : ℕ) (u : ℤ) → pos (starts_before grid s) -ℤ by ≡ pos n → stamp_of grid n ≡ Some u → (o : Option Row) → element_at u es ≡ o → option_map (λ row. (s, row)) o ≡ Some x → IsLagged s x
      there n u before source (Some row) found is =
          let same = same_Some (s, row) x is in
          record { offset = n; source = u; source_is = source; before = before; there = found ∙ ap (λ (y : Element). Some y.1) same; stamp_is = ap (λ (y : Element). y.0) same }
      there n u before source None found is = absurd (cc)

      at : (n : ℕ) → pos (starts_before grid s) -ℤ by ≡ pos n → (o : Option ℤ) → stamp_of grid n ≡ o → option_map (λ row. (s, row)) (option_and_then (λ u. element_at u es) o) ≡ Some x → IsLagged s x
      at n before (Some u) source is = there n u before source (element_at u es) refl is
      at n before None source is = absurd (cc)

      placed : (o : Option ℕ) → from_origin (pos (starts_before grid s) -ℤ by) ≡ o → option_map (λ row. (s, row)) (option_and_then (λ u. element_at u es) (option_and_then (stamp_of grid) o)) ≡ Some x → IsLagged s x
      placed (Some n) origin is = at n (origin-some (pos (starts_before grid s) -ℤ by) n origin) (stamp_of grid n) refl is
      placed None origin is = absurd (cc)

    is-lagged : (s : ℤ) (x : Element) → IsLagged s x → lagged_at grid by es s ≡ Some x
    is-lagged s x w =
        ap (λ o. option_map (λ row. (s, row)) (option_and_then (λ u. element_at u es) (option_and_then (stamp_of grid) o))) (some-origin (pos (starts_before grid s) -ℤ by) w.offset w.before)
        ∙ ap (λ o. option_map (λ row. (s, row)) (option_and_then (λ u. element_at u es) o)) w.source_is
        ∙ ap (option_map (λ row. (s, row))) w.there ∙ ap (λ (t : ℤ). Some (t, x.1)) w.stamp_is

    -- an element that moves is one that stands earlier
    to-lagged : (x : Element) → IsOneOf x (filter_map (moved grid by last) es) → IsOneOf x (filter_map (lagged_at grid by es) (starts_to_last grid es))
    to-lagged x one =
        let given = given-one (moved grid by last) x es one in
        let e : Element = given.0 in
        let move = moved-is e x given.2 in
        let start = start-of e given.1 in
        let own = before-start start.0 e.0 start.1 in
        let behind = move.behind in
        let l = last-there e given.1 in
        let end = last-is l.0 l.1 in
        let reached : is_reached (last_of es) x.0 ≡ true =
        ap (λ o. is_reached o x.0) l.1 ∙ ap not (int_lt_no (l.0).0 x.0 (not-later move.offset last x.0 (l.0).0 move.stamp_is end.1 move.within)) in
        let place = before-start move.offset x.0 move.stamp_is in
        let w = at-one es e given.1 in
        one-given (lagged_at grid by es) x.0 x (starts_to_last grid es) (one-kept (is_reached (last_of es)) x.0 (starts_of grid) (one-at (starts_of grid) move.offset x.0 move.stamp_is) reached)
        (is-lagged x.0 x (record {
          offset = start.0;
          source = e.0;
          source_is = start.1;
          before = omega (arith, ints, place, own, behind);
          there = found-there es w.0 e rising w.1 ∙ ap Some move.row;
          stamp_is = refl;
        }))

    reached-last : (o : Option Element) (s : ℤ) → is_reached o s ≡ true → (l : Element) × (o ≡ Some l) × (s ≤ℤ l.0)
    reached-last (Some l) s is = (l, refl, int_lt-false l.0 s (not-true (int_lt l.0 s) is)) where
      not-true : (b : Bool) → not b ≡ true → b ≡ false
      not-true true h = sym h
      not-true false h = refl
    reached-last None s is = absurd (cc)

    -- and the other way round
    from-lagged : (x : Element) → IsOneOf x (filter_map (lagged_at grid by es) (starts_to_last grid es)) → IsOneOf x (filter_map (moved grid by last) es)
    from-lagged x one =
        let given = given-one (lagged_at grid by es) x (starts_to_last grid es) one in
        let s : ℤ = given.0 in
        let kept = kept-one (is_reached (last_of es)) s (starts_of grid) given.1 in
        let place = at-one (starts_of grid) s kept.0 in
        let number = before-start place.0 s place.1 in
        let lag = lagged-is s x given.2 in
        let before = lag.before in
        let own = before-start lag.offset lag.source lag.source_is in
        let found = there-found es lag.source x.1 lag.there in
        let l = reached-last (last_of es) s kept.1 in
        let end = last-is l.0 l.1 in
        one-given (moved grid by last) (lag.source, x.1) x es (one-at es found.0 (lag.source, x.1) found.1)
        (is-moved (lag.source, x.1) x (record {
          offset = place.0;
          stamp_is = place.1 ∙ ap Some lag.stamp_is;
          behind = omega (arith, ints, number, own, before);
          within = not-more place.0 last s (l.0).0 place.1 end.1 l.2;
          row = refl;
        }))

    moves-rise : (e f x y : Element) → IsOneOf e es → IsOneOf f es → e.0 <ℤ f.0 → moved grid by last e ≡ Some x → moved grid by last f ≡ Some y → x.0 <ℤ y.0
    moves-rise e f x y e_one f_one lt a b =
        let from = start-of e e_one in
        let to = start-of f f_one in
        let e_is = before-start from.0 e.0 from.1 in
        let f_is = before-start to.0 f.0 to.1 in
        let m = moved-is e x a in
        let n = moved-is f y b in
        let m_is = m.behind in
        let n_is = n.behind in
        let less : from.0 < to.0 = elim (cases_lt from.0 to.0) [
          | inl below ↦ below
          | inr above ↦ absurd (let down = not-later to.0 from.0 f.0 e.0 to.1 from.1 above in omega (arith, ints, down, lt))
        ] in
        risen-at (starts_of grid) m.offset n.offset x.0 y.0 risen (omega (arith, ints, less, e_is, f_is, m_is, n_is)) m.stamp_is n.stamp_is

    lags-rise : (s t : ℤ) (x y : Element) → Unit {0} → Unit {0} → s <ℤ t → lagged_at grid by es s ≡ Some x → lagged_at grid by es t ≡ Some y → x.0 <ℤ y.0
    lags-rise s t x y _ _ lt a b =
        let from = (lagged-is s x a).stamp_is in
        let to = (lagged-is t y b).stamp_is in
        omega (arith, ints, from, to, lt)

    pub lagged-moved : filter_map (moved grid by last) es ≡ filter_map (lagged_at grid by es) (starts_to_last grid es)
    lagged-moved = same-risen (λ e. e.0) (filter_map (moved grid by last) es) (filter_map (lagged_at grid by es) (starts_to_last grid es))
        (risen-given (λ e. e.0) (λ e. e.0) (moved grid by last) (λ e. IsOneOf e es) moves-rise es (λ e one. one) (rising-risen es rising))
        (risen-given (λ s. s) (λ e. e.0) (lagged_at grid by es) (λ _. Unit {0}) lags-rise (starts_to_last grid es) (λ s one. tt) (risen-kept (λ t. t) (is_reached (last_of es)) (starts_of grid) risen))
        to-lagged from-lagged
