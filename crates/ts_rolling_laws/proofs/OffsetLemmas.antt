-- Windows of stamps: there are few, and they rise with the stamps.
use Rattle.std.specs.Prelude.{int_lt}
use Rattle.std.proofs.Common.{◌≡◌, ℕ, zero, suc, ◌<◌, ◌≤◌, Bool, true, false, ◌&&◌, not, cond, Option, Some, None, Ok, Err, List, [], ◌∷◌, length, filter, filter_map, refl, sym, ap, subst, ◌∙◌, arith, ℤ, pos, neg_ℤ, ◌+ℤ◌, ◌≤ℤ◌, ◌<ℤ◌}
use Rattle.std.specs.List.{cons_option}
use Rattle.std.proofs.lemmas.Option.{same_Some}
use Rattle.std.proofs.lemmas.Int.{by_lt_z, ints}
use Rattle.ts_base.specs.Moment.{IsStamp, stamp_if_any}
use Rattle.ts_base.specs.declared.refusal.Refusal.TheVariants.{BeforeOrigin}
use Rattle.ts_calendar.specs.Calendars.{CalendarPlan, start_at, IsLaid, IsBefore}
use Rattle.ts_calendar.proofs.StampLemmas.{int_lt_yes, int_lt-true, stamp-is, stamp-not}
use Rattle.ts_calendar.proofs.LineLemmas.{line-start}
use Rattle.ts_offset.specs.Grid.{numbers_from, on_start, on_starts, GridPlan, held_start, starts_before, offset_at, offset_of}
use Rattle.ts_offset.proofs.StartLemmas.{line, on-line, rise}
use Rattle.ts_offset.proofs.OwnLemmas.{from-held}
use Rattle.ts_rolling.specs.Sets.{most_windows}

-- the start that holds a stamp with an offset
offset_is : (g : GridPlan) (t : ℤ) (j : ℕ) → offset_of g t ≡ Ok j → (s : ℤ) × (held_start g.calendar t ≡ Some s) × (starts_before g s ≡ j)
offset_is g t j e = by (held_start g.calendar t) refl e
  where
    chosen : (b : Bool) (n : ℕ) → cond b (Err BeforeOrigin) (Ok n) ≡ Ok j → n ≡ j
    chosen true n is = absurd (cc)
    chosen false n is = cc

    by : (o : Option ℤ) → held_start g.calendar t ≡ o → offset_at g o ≡ Ok j → (s : ℤ) × (held_start g.calendar t ≡ Some s) × (starts_before g s ≡ j)
    by None held is = absurd (cc)
    by (Some s) held is = (s, held, chosen (int_lt s g.origin) (starts_before g s) is)

few_numbers : (n : ℕ) (k : ℤ) → length (numbers_from k n) ≡ n
unfolding numbers_from
few_numbers zero k = refl
few_numbers (suc n) k = ap suc (few_numbers n (k +ℤ pos 1))

few_mapped : {X Y : Type 0} (f : X → Option Y) (xs : List X) → length (filter_map f xs) ≤ length xs
few_mapped f [] = omega arith
few_mapped {X} {Y} f (x ∷ xs) = by (f x) (few_mapped f xs)
  where
    by : (o : Option Y) → length (filter_map f xs) ≤ length xs → length (cons_option o (filter_map f xs)) ≤ suc (length xs)
    by None h = omega (arith, h)
    by (Some y) h = omega (arith, h)

few_filtered : {X : Type 0} (p : X → Bool) (xs : List X) → length (filter p xs) ≤ length xs
few_filtered p [] = omega arith
few_filtered p (x ∷ xs) = by (p x) (few_filtered p xs)
  where
    by : (b : Bool) → length (filter p xs) ≤ length xs → length (cond b (x ∷ filter p xs) (filter p xs)) ≤ suc (length xs)
    by true h = omega (arith, h)
    by false h = omega (arith, h)

few_starts : (c : CalendarPlan) → length (on_starts c) ≤ 800_000_000_001
unfolding on_starts
few_starts c =
    let k = neg_ℤ (pos 400_000_000_000) in
    subst (λ m. length (on_starts c) ≤ m) (few_numbers 800_000_000_001 k) (few_mapped (on_start c) (numbers_from k 800_000_000_001))

-- an offset is the number of a window
pub offset_few : (g : GridPlan) (t : ℤ) (j : ℕ) → offset_of g t ≡ Ok j → j < most_windows
offset_few g t j e =
    let o = offset_is g t j e in
    let some = few_filtered (λ x. not (int_lt x g.origin) && int_lt x o.0) (on_starts g.calendar) in
    let all = few_starts g.calendar in
    omega (arith, some, all, o.2)

-- what passes a narrower test is less
filter_less : (p q : ℤ → Bool) → ((x : ℤ) → p x ≡ true → q x ≡ true) → (xs : List ℤ) → length (filter p xs) ≤ length (filter q xs)
filter_less p q wider [] = omega arith
filter_less p q wider (x ∷ xs) = by (p x) (q x) refl refl (filter_less p q wider xs)
  where
    by : (a b : Bool) → p x ≡ a → q x ≡ b → length (filter p xs) ≤ length (filter q xs) → length (cond a (x ∷ filter p xs) (filter p xs)) ≤ length (cond b (x ∷ filter q xs) (filter q xs))
    by true true f h rest = omega (arith, rest)
    by true false f h rest = absurd (let yes_ = wider x f in cc)
    by false true f h rest = omega (arith, rest)
    by false false f h rest = rest

-- the end of an interval that holds a stamp comes after it, or beyond all stamps
ends : (c : CalendarPlan) (k t : ℤ) → IsLaid c → (s : ℤ) → start_at c k ≡ Some s → IsBefore t (start_at c (k +ℤ pos 1))
    → (u : ℤ) → IsStamp u → line c (k +ℤ pos 1) ≤ℤ u → t <ℤ u
ends c k t laid s here before u stamp over = by (start_at c (k +ℤ pos 1)) refl before
  where
    next : start_at c (k +ℤ pos 1) ≡ stamp_if_any (line c (k +ℤ pos 1))
    next = line-start c.pattern.unit c.patt_start (k +ℤ pos 1) laid.stamp laid.early

    by : (o : Option ℤ) → start_at c (k +ℤ pos 1) ≡ o → IsBefore t o → t <ℤ u
    by (Some e) is lt = let at = (stamp-is (line c (k +ℤ pos 1)) e (sym next ∙ is)).0 in omega (arith, ints, at, lt, over)
    by None is lt =
        let own = on-line c k s laid here in
        let up = rise c k (k +ℤ pos 1) laid (omega (arith, ints)) in
        let high = stamp-not (line c (k +ℤ pos 1)) (sym next ∙ is) (omega (arith, ints, own.0, own.1.0, up)) in
        absurd (omega (arith, ints, high, over, stamp.1))

-- starts that hold stamps rise with the stamps
held_rises : (c : CalendarPlan) (t u s r : ℤ) → IsLaid c → held_start c t ≡ Some s → held_start c u ≡ Some r → u ≤ℤ t → r ≤ℤ s
held_rises c t u s r laid of_t of_u le =
    let h = from-held c t s of_t in
    let k = from-held c u r of_u in
    let at_s = on-line c h.interval s laid h.start in
    let at_r = on-line c k.interval r laid k.start in
    let from : k.held.from ≡ r = same_Some k.held.from r (sym k.held.exists_from ∙ k.start) in
    by_lt_z h.interval k.interval
    (λ lt.
    let over = line_order h.interval k.interval lt in
    let after = ends c h.interval t laid s h.start h.held.before r at_r.1 (omega (arith, ints, over, at_r.0)) in
    absurd (omega (arith, ints, after, le, from, k.held.after)))
    (λ ge. by_lt_z k.interval h.interval
    (λ lt. let up = rise c k.interval h.interval laid lt in omega (arith, ints, up, at_s.0, at_r.0))
    (λ same. let e = ap (line c) (one k.interval h.interval ge same) in omega (arith, ints, e, at_s.0, at_r.0)))
  where
    one : (a b : ℤ) → a ≤ℤ b → b ≤ℤ a → a ≡ b
    one a b h g = omega (arith, ints, h, g)

    line_order : (i j : ℤ) → i <ℤ j → line c (i +ℤ pos 1) ≤ℤ line c j
    line_order i j lt = by_lt_z (i +ℤ pos 1) j
        (λ less. let up = rise c (i +ℤ pos 1) j laid less in omega (arith, ints, up))
        (λ ge. let e = ap (line c) (one (i +ℤ pos 1) j (omega (arith, ints, lt)) ge) in omega (arith, ints, e))

-- windows rise with stamps
pub offset_rises : (g : GridPlan) (t u : ℤ) (j k : ℕ) → IsLaid g.calendar → offset_of g t ≡ Ok j → offset_of g u ≡ Ok k → u ≤ℤ t → k ≤ j
offset_rises g t u j k laid of_t of_u le =
    let a = offset_is g t j of_t in
    let b = offset_is g u k of_u in
    let up = held_rises g.calendar t u a.0 b.0 laid a.1 b.1 le in
    let less = filter_less (λ x. not (int_lt x g.origin) && int_lt x b.0) (λ x. not (int_lt x g.origin) && int_lt x a.0) (λ x h. wider x a.0 b.0 up (int_lt x g.origin) h) (on_starts g.calendar) in
    omega (arith, less, a.2, b.2)
  where
    wider : (x s r : ℤ) → r ≤ℤ s → (b : Bool) → (not b && int_lt x r) ≡ true → (not b && int_lt x s) ≡ true
    wider x s r up true h = absurd (cc)
    wider x s r up false h = int_lt_yes x s (let lt = int_lt-true x r h in omega (arith, ints, lt, up))
