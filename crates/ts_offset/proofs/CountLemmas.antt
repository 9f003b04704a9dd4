-- What is counted, as the starts of intervals in a row.
use Rattle.std.proofs.Common.{◌≡◌, ℕ, zero, suc, ◌<◌, Bool, true, false, ◌&&◌, not, cond, List, [], ◌∷◌, length, filter, filter_map, slice_get, Some, None, Ok, Err, ◌≤◌, refl, sym, ap, ◌∙◌, arith, ℤ, pos, ◌+ℤ◌, ◌-ℤ◌, ◌≤ℤ◌, ◌<ℤ◌, unsigned_abs}
use Rattle.std.specs.Prelude.{int_lt}
use Rattle.std.specs.List.{cons_option}
use Rattle.std.proofs.lemmas.Int.{by_lt_z, ints}
use Rattle.ts_calendar.specs.Calendars.{CalendarPlan, start_at, is_on}
use Rattle.ts_calendar.proofs.StampLemmas.{int_lt_yes, int_lt_no}
use Rattle.ts_offset.specs.Grid.{numbers_from, gap, count, on_start, starts_among, on_starts, IsOnStart, IsFirstFrom, IsEnd, starts_after, starts_between, GridPlan, starts_before, starts_of}
use Rattle.ts_base.specs.Answer.{within_rows}
use Rattle.ts_base.specs.declared.refusal.Refusal.TheVariants.{TooLarge}
use Rattle.ts_pattern.proofs.RunLemmas.{lt_yes, lt_no}
use Rattle.ts_offset.proofs.ListLemmas.{taken-at}
use Rattle.ts_offset.proofs.WindowLemmas.{span, rest, far, gap-up, gap-none}
use Rattle.ts_offset.proofs.HeldLemmas.{on-exists}

and-no : (b : Bool) → (b && false) ≡ false
and-no true = refl
and-no false = refl

-- after b, up to e
pub after-span : (c : CalendarPlan) (b e i j : ℤ) → IsFirstFrom c (b +ℤ pos 1) i → IsFirstFrom c (e +ℤ pos 1) j → starts_after c b e ≡ starts_among c i (gap i j)
after-span c b e i j from to =
    span c (λ s. int_lt b s && not (int_lt e s)) (b +ℤ pos 1) (e +ℤ pos 1) i j from to
    (λ s lt. ap (λ x. x && not (int_lt e s)) (int_lt_no b s (omega (arith, ints))))
    (λ s le lt. ap (λ x. x && not (int_lt e s)) (int_lt_yes b s (omega (arith, ints))) ∙ ap not (int_lt_no e s (omega (arith, ints))))
    (λ s le. ap (λ x. int_lt b s && not x) (int_lt_yes e s (omega (arith, ints))) ∙ and-no (int_lt b s))

-- from b to e
pub between-span : (c : CalendarPlan) (b e i j : ℤ) → IsFirstFrom c b i → IsFirstFrom c (e +ℤ pos 1) j → starts_between c b e ≡ starts_among c i (gap i j)
between-span c b e i j from to =
    span c (λ s. not (int_lt s b) && not (int_lt e s)) b (e +ℤ pos 1) i j from to
    (λ s lt. ap (λ x. not x && not (int_lt e s)) (int_lt_yes s b lt))
    (λ s le lt. ap (λ x. not x && not (int_lt e s)) (int_lt_no s b le) ∙ ap not (int_lt_no e s (omega (arith, ints))))
    (λ s le. ap (λ x. not (int_lt s b) && not x) (int_lt_yes e s (omega (arith, ints))) ∙ and-no (not (int_lt s b)))

-- after t
pub later-rest : (c : CalendarPlan) (t i j : ℤ) → IsFirstFrom c (t +ℤ pos 1) i → IsEnd c j → filter (λ s. int_lt t s) (on_starts c) ≡ starts_among c i (gap i j)
later-rest c t i j from to =
    rest c (λ s. int_lt t s) (t +ℤ pos 1) i j from to
    (λ s lt. int_lt_no t s (omega (arith, ints)))
    (λ s le. int_lt_yes t s (omega (arith, ints)))

-- from the origin up to a stamp
pub before-span : (g : GridPlan) (s i j : ℤ) → IsFirstFrom g.calendar g.origin i → IsFirstFrom g.calendar s j → starts_before g s ≡ length (starts_among g.calendar i (gap i j))
before-span g s i j from to = ap length
    (span g.calendar (λ x. not (int_lt x g.origin) && int_lt x s) g.origin s i j from to
    (λ x lt. ap (λ y. not y && int_lt x s) (int_lt_yes x g.origin lt))
    (λ x le lt. ap (λ y. not y && int_lt x s) (int_lt_no x g.origin le) ∙ int_lt_yes x s lt)
    (λ x le. ap (λ y. not (int_lt x g.origin) && y) (int_lt_no x s le) ∙ and-no (not (int_lt x g.origin))))

-- from the origin on
pub from-rest : (g : GridPlan) (i j : ℤ) → IsFirstFrom g.calendar g.origin i → IsEnd g.calendar j → starts_of g ≡ starts_among g.calendar i (gap i j)
from-rest g i j from to =
    rest g.calendar (λ x. not (int_lt x g.origin)) g.origin i j from to
    (λ x lt. ap not (int_lt_yes x g.origin lt))
    (λ x le. ap not (int_lt_no x g.origin le))

pub from-far : (g : GridPlan) (i : ℤ) → IsFirstFrom g.calendar g.origin i → starts_of g ≡ starts_among g.calendar i (gap i (pos 400_000_000_001))
from-far g i from =
    far g.calendar (λ x. not (int_lt x g.origin)) g.origin i from
    (λ x lt. ap not (int_lt_yes x g.origin lt))
    (λ x le. ap not (int_lt_no x g.origin le))

-- as many starts as intervals that are on
count-starts : (c : CalendarPlan) (ks : List ℤ) → length (filter (is_on c) ks) ≡ length (filter_map (on_start c) ks)
count-starts c [] = refl
count-starts c (k ∷ ks) = step c k (filter (is_on c) ks) (filter_map (on_start c) ks) (count-starts c ks) (is_on c k) refl
  where
    step : (c : CalendarPlan) (k : ℤ) (us vs : List ℤ) → length us ≡ length vs → (b : Bool) → is_on c k ≡ b
        → length (cond (is_on c k) (k ∷ us) us) ≡ length (cons_option (on_start c k) vs)
    step c k us vs same true e =
        let f = on-exists c k e in
        ap (λ b. length (cond b (k ∷ us) us)) e ∙ ap suc same
        ∙ sym (ap (λ b. length (cons_option (cond b (start_at c k) None) vs)) e ∙ ap (λ o. length (cons_option o vs)) f.1)
    step c k us vs same false e =
        ap (λ b. length (cond b (k ∷ us) us)) e ∙ same ∙ sym (ap (λ b. length (cons_option (cond b (start_at c k) None) vs)) e)

pub count-walk : (c : CalendarPlan) (i j : ℤ) → count c i j ≡ length (starts_among c i (gap i j))
count-walk c i j = count-starts c (numbers_from i (gap i j))

pub gap-le : (i j : ℤ) → i ≤ℤ j → gap i j ≡ unsigned_abs (j -ℤ i)
gap-le i j le = by_lt_z i j (λ lt. gap-up i j lt) (λ ge. gap-none i j ge ∙ omega (arith, ints))

-- a list that is too long, and one that isn't
pub long-list : (l : List ℤ) (n : ℕ) → length l ≡ n → 1_000_000 < n → within_rows l ≡ Err (TooLarge n)
long-list l n e lt =
    ap (λ b. cond b (Err (TooLarge (length l))) (Ok l)) (lt_yes 1_000_000 (length l) (omega (arith, e))) ∙ ap (λ m. Err (TooLarge m)) e

pub short-list : (l : List ℤ) (n : ℕ) → length l ≡ n → n ≤ 1_000_000 → within_rows l ≡ Ok l
short-list l n e le = ap (λ b. cond b (Err (TooLarge (length l))) (Ok l)) (lt_no 1_000_000 (length l) (omega (arith, e)))

-- there is no element at a place past the end
pub get-none : (l : List ℤ) (n : ℕ) → slice_get l n ≡ None → length l ≤ n
get-none [] n e = omega arith
get-none (x ∷ l) zero e = absurd (cc)
get-none (x ∷ l) (suc n) e = omega (arith, get-none l n e)

pub none-past : (l : List ℤ) (n : ℕ) → length l ≤ n → slice_get l n ≡ None
none-past [] n h = refl
none-past (x ∷ l) zero h = absurd (omega arith)
none-past (x ∷ l) (suc n) h = none-past l n (omega arith)

-- where no interval after a stamp is on, no on start comes later
pub none-later : (c : CalendarPlan) (t i j : ℤ) → IsFirstFrom c (t +ℤ pos 1) i → IsEnd c j → slice_get (starts_among c i (gap i j)) 0 ≡ None
    → (s : ℤ) → IsOnStart c s → s ≤ℤ t
none-later c t i j from to none s w =
    by_lt_z t s
    (λ lt.
    let k = w.interval in
    let start : on_start c k ≡ Some s = ap (λ b. cond b (start_at c k) None) w.on ∙ w.start in
    let low : i ≤ℤ k = by_lt_z k i (λ less. let early = from.earlier k s less w.start in absurd (omega (arith, ints))) (λ ge. ge) in
    let high : k <ℤ j = by_lt_z k j (λ less. less) (λ ge. absurd (to.over k s ge w.start)) in
    let d = unsigned_abs (k -ℤ i) in
    let there : i +ℤ pos d ≡ k = omega (arith, ints) in
    let gap_is : gap i j ≡ unsigned_abs (j -ℤ i) = gap-up i j (omega (arith, ints)) in
    let found = taken-at (on_start c) i (length (starts_among c i d)) (gap i j) d s (omega (arith, ints, gap_is)) (ap (on_start c) there ∙ start) refl in
    let few = get-none (starts_among c i (gap i j)) 0 none in
    let past = none-past (starts_among c i (gap i j)) (length (starts_among c i d)) (omega (arith, few)) in
    absurd (let no_ = sym found ∙ past in cc))
    (λ ge. ge)
