-- The on starts of a span are those of the intervals from its first one on.
use Rattle.std.proofs.Common.{◌≡◌, ◌+◌, Bool, true, false, cond, filter, Option, Some, None, refl, sym, ap, ◌∙◌, arith, ℤ, pos, neg_ℤ, ◌+ℤ◌, ◌-ℤ◌, ◌≤ℤ◌, ◌<ℤ◌, unsigned_abs}
use Rattle.std.proofs.lemmas.Int.{by_lt_z, ints}
use Rattle.ts_calendar.specs.Calendars.{CalendarPlan, start_at, is_on}
use Rattle.ts_calendar.proofs.StampLemmas.{int_lt_yes, int_lt_no}
use Rattle.ts_offset.specs.Grid.{gap, on_start, starts_among, on_starts, IsFirstFrom, IsEnd}
use Rattle.ts_offset.proofs.ListLemmas.{taken-window}

picked : (b : Bool) (o : Option ℤ) (s : ℤ) → cond b o None ≡ Some s → (b ≡ true) × (o ≡ Some s)
picked true o s e = (refl, e)
picked false o s e = absurd (cc)

-- an on start is the start of an interval that is on
pub on-start : (c : CalendarPlan) (k s : ℤ) → on_start c k ≡ Some s → (is_on c k ≡ true) × (start_at c k ≡ Some s)
on-start c k s e = picked (is_on c k) (start_at c k) s e

pub gap-up : (i j : ℤ) → i <ℤ j → gap i j ≡ unsigned_abs (j -ℤ i)
gap-up i j lt = ap (λ b. cond b (unsigned_abs (j -ℤ i)) 0) (int_lt_yes i j lt)

pub gap-none : (i j : ℤ) → j ≤ℤ i → gap i j ≡ 0
gap-none i j le = ap (λ b. cond b (unsigned_abs (j -ℤ i)) 0) (int_lt_no i j le)

abbrev low : ℤ
low = neg_ℤ (pos 400_000_000_000)

abbrev high : ℤ
high = pos 400_000_000_001

-- the on starts that pass, where those of the intervals from i up to j do and all others don't
pub window : (c : CalendarPlan) (p : ℤ → Bool) (i j : ℤ) → low ≤ℤ i → i ≤ℤ high → low ≤ℤ j → j ≤ℤ high
    → ((k s : ℤ) → k <ℤ i → start_at c k ≡ Some s → p s ≡ false)
    → ((k s : ℤ) → i ≤ℤ k → k <ℤ j → start_at c k ≡ Some s → p s ≡ true)
    → ((k s : ℤ) → j ≤ℤ k → k <ℤ high → start_at c k ≡ Some s → p s ≡ false)
    → filter p (on_starts c) ≡ starts_among c i (gap i j)
unfolding on_starts
window c p i j above below over under early within late =
    let f = on_start c in
    let before = unsigned_abs (i -ℤ low) in
    let here : low +ℤ pos before ≡ i = omega (arith, ints) in
    by_lt_z i j
    (λ lt.
    let n = unsigned_abs (j -ℤ i) in
    let after = unsigned_abs (high -ℤ j) in
    let whole : 800_000_000_001 ≡ before + n + after = omega (arith, ints) in
    let there : low +ℤ pos (before + n) ≡ j = omega (arith, ints) in
    ap (λ m. filter p (starts_among c low m)) whole
    ∙ taken-window f p low before n after
    (λ x s less e. early (low +ℤ pos x) s (omega (arith, ints, here)) (on-start c (low +ℤ pos x) s e).1)
    (λ x s less e. within (low +ℤ pos before +ℤ pos x) s (omega (arith, ints, here)) (omega (arith, ints, here)) (on-start c (low +ℤ pos before +ℤ pos x) s e).1)
    (λ x s less e. late (low +ℤ pos (before + n) +ℤ pos x) s (omega (arith, ints, there)) (omega (arith, ints, there)) (on-start c (low +ℤ pos (before + n) +ℤ pos x) s e).1)
    ∙ ap (λ k. starts_among c k n) here ∙ ap (starts_among c i) (sym (gap-up i j lt)))
    (λ ge.
    let after = unsigned_abs (high -ℤ i) in
    let whole : 800_000_000_001 ≡ before + 0 + after = omega (arith, ints) in
    let there : low +ℤ pos (before + 0) ≡ i = omega (arith, ints) in
    ap (λ m. filter p (starts_among c low m)) whole
    ∙ taken-window f p low before 0 after
    (λ x s less e. early (low +ℤ pos x) s (omega (arith, ints, here)) (on-start c (low +ℤ pos x) s e).1)
    (λ x s less e. absurd (omega arith))
    (λ x s less e. late (low +ℤ pos (before + 0) +ℤ pos x) s (omega (arith, ints, there)) (omega (arith, ints, there)) (on-start c (low +ℤ pos (before + 0) +ℤ pos x) s e).1)
    ∙ ap (λ k. starts_among c k 0) here ∙ ap (starts_among c i) (sym (gap-none i j ge)))

-- the on starts from one stamp up to another, which isn't counted
pub span : (c : CalendarPlan) (p : ℤ → Bool) (lo hi i j : ℤ) → IsFirstFrom c lo i → IsFirstFrom c hi j
    → ((s : ℤ) → s <ℤ lo → p s ≡ false) → ((s : ℤ) → lo ≤ℤ s → s <ℤ hi → p s ≡ true) → ((s : ℤ) → hi ≤ℤ s → p s ≡ false)
    → filter p (on_starts c) ≡ starts_among c i (gap i j)
span c p lo hi i j from to under within over =
    window c p i j (omega (arith, ints, from.near.0)) (omega (arith, ints, from.near.1)) (omega (arith, ints, to.near.0)) (omega (arith, ints, to.near.1))
    (λ k s lt e. under s (from.earlier k s lt e))
    (λ k s le lt e. within s (from.later k s le e) (to.earlier k s lt e))
    (λ k s le _ e. over s (to.later k s le e))

-- all on starts from a stamp on
pub rest : (c : CalendarPlan) (p : ℤ → Bool) (lo i j : ℤ) → IsFirstFrom c lo i → IsEnd c j
    → ((s : ℤ) → s <ℤ lo → p s ≡ false) → ((s : ℤ) → lo ≤ℤ s → p s ≡ true)
    → filter p (on_starts c) ≡ starts_among c i (gap i j)
rest c p lo i j from to under within =
    window c p i j (omega (arith, ints, from.near.0)) (omega (arith, ints, from.near.1)) (omega (arith, ints, to.near.0)) (omega (arith, ints, to.near.1))
    (λ k s lt e. under s (from.earlier k s lt e))
    (λ k s le lt e. within s (from.later k s le e))
    (λ k s le _ e. absurd (to.over k s le e))

-- the same up to the last interval of all
pub far : (c : CalendarPlan) (p : ℤ → Bool) (lo i : ℤ) → IsFirstFrom c lo i
    → ((s : ℤ) → s <ℤ lo → p s ≡ false) → ((s : ℤ) → lo ≤ℤ s → p s ≡ true)
    → filter p (on_starts c) ≡ starts_among c i (gap i (pos 400_000_000_001))
far c p lo i from under within =
    window c p i (pos 400_000_000_001) (omega (arith, ints, from.near.0)) (omega (arith, ints, from.near.1)) (omega (arith, ints)) (omega (arith, ints))
    (λ k s lt e. under s (from.earlier k s lt e))
    (λ k s le lt e. within s (from.later k s le e))
    (λ k s le lt e. absurd (omega (arith, ints)))
