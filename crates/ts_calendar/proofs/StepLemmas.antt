-- Steps between stamps, and the first one not before a stamp.
use Rattle.std.proofs.Common.{◌≡◌, Bool, true, false, not, refl, sym, ap, ◌∙◌, arith, ℤ, pos, negsuc, ◌+ℤ◌, ◌-ℤ◌, ◌≤ℤ◌, ◌<ℤ◌, unsigned_abs, Some, None, Option}
use Rattle.std.specs.Prelude.{int_lt, is_some}
use Rattle.std.proofs.lemmas.Bool.{and_parts}
use Rattle.std.proofs.lemmas.Int.{by_lt_z, ints}
use Rattle.ts_base.specs.declared.unit.Unit as unit
use Rattle.ts_base.specs.Moment.{IsStamp}
use Rattle.ts_calendar.specs.Calendars.{IsEarly, start_in, starts_from, HoldsIn, IsNear, first_interval, starts_at, steps_between, first_step}
use Rattle.ts_calendar.specs.Line.{line_at, IsLineAround}
use Rattle.ts_calendar.proofs.StampLemmas.{int_lt_no, int_lt-false, stamp-some, stamp-not}
use Rattle.ts_calendar.proofs.LineLemmas.{line-start, line-rises}
use Rattle.ts_calendar.proofs.HeldLemmas.{line-order, start-is, holds-around, holds-only}
use Rattle.ts_calendar.proofs.FirstLemmas.{first_from-found, first_from-none}

-- what is there or not
pub some-is : (o : Option ℤ) → is_some o ≡ true → (f : ℤ) × (o ≡ Some f)
some-is (Some f) h = (f, refl)
some-is None h = absurd (cc)

none-is : (o : Option ℤ) → is_some o ≡ false → o ≡ None
none-is (Some f) h = absurd (cc)
none-is None h = refl

not-true : (b : Bool) → not b ≡ true → b ≡ false
not-true true h = sym h
not-true false h = refl

pub from-some : (s : ℤ) (o : Option ℤ) → starts_from s o ≡ true → (f : ℤ) × (o ≡ Some f) × (s ≤ℤ f)
from-some s (Some f) h = (f, refl, int_lt-false f s (not-true (int_lt f s) h))
from-some s None h = absurd (cc)

-- a start that is there and not before the stamp
from-line : (u : unit.Unit) (first s j : ℤ) → IsStamp first → IsEarly u first → starts_from s (start_in u first j) ≡ true → IsStamp (line_at u first j) × (s ≤ℤ line_at u first j)
from-line u first s j stamp early h =
    let x = from-some s (start_in u first j) h in
    let here = start-is u first j x.0 stamp early x.1 in
    (here.1, rw here.0 at x.2)

line-from : (u : unit.Unit) (first s j : ℤ) → IsStamp first → IsEarly u first → IsStamp (line_at u first j) → s ≤ℤ line_at u first j → starts_from s (start_in u first j) ≡ true
line-from u first s j stamp early there le =
    let start = line-start u first j stamp early ∙ stamp-some (line_at u first j) there in
    ap (starts_from s) start ∙ ap not (int_lt_no (line_at u first j) s le)

pub at-some : (s : ℤ) (o : Option ℤ) → starts_at s o ≡ true → o ≡ Some s
at-some s (Some f) h =
    let parts = and_parts (not (int_lt f s)) (not (int_lt s f)) h in
    let low = int_lt-false f s (not-true (int_lt f s) parts.0) in
    let high = int_lt-false s f (not-true (int_lt s f) parts.1) in
    ap Some (omega (arith, ints))
at-some s None h = absurd (cc)

pub some-at : (s : ℤ) (o : Option ℤ) → o ≡ Some s → starts_at s o ≡ true
some-at s o e = ap (starts_at s) e ∙ rw (int_lt_no s s (omega (arith, ints))) refl

-- an interval that starts at the stamp is the one around it
at-only : (u : unit.Unit) (first s k j : ℤ) → IsStamp first → IsEarly u first → IsLineAround u first s k → starts_at s (start_in u first j) ≡ true → j ≡ k
at-only u first s k j stamp early around h =
    let here = start-is u first j s stamp early (at-some s (start_in u first j) h) in
    by_lt_z j k
    (λ lt.
    let rise = line-rises u first j k stamp early lt in
    absurd (omega (arith, ints, around.after, here.0)))
    (λ ge. by_lt_z k j
    (λ lt. let up = line-order u first (k +ℤ pos 1) j stamp early (omega (arith, ints)) in absurd (omega (arith, ints, around.before, up, here.0)))
    (λ le. omega (arith, ints)))

-- the search begins here
abbrev low : ℤ
low = negsuc 399_999_999_999

-- a number and its neighbour, both near
pub near-next : (k : ℤ) → negsuc 399_999_999_999 ≤ℤ k → k ≤ℤ pos 399_999_999_999 → IsNear k × IsNear (k +ℤ pos 1)
near-next k low_k high_k = ((low_k, omega (arith, ints)), (omega (arith, ints), omega (arith, ints)))

-- it goes to the first number that passes
pub found-at : (test : ℤ → Bool) (k : ℤ) → IsNear k → test k ≡ true → ((j : ℤ) → j <ℤ k → test j ≡ false)
    → first_interval test ≡ Some k
found-at test k near found before =
    let d = unsigned_abs (k -ℤ low) in
    let same : low +ℤ pos d ≡ k = omega (arith, ints, near.0) in
    first_from-found test low 800_000_000_001 d (omega (arith, ints, near.0, near.1)) (ap test same ∙ found)
    (λ i lt. before (low +ℤ pos i) (omega (arith, ints, same)))
    ∙ ap Some same

pub false-unless : (b : Bool) → (b ≡ true → ⊥) → b ≡ false
false-unless true h = absurd (h refl)
false-unless false h = refl

pub steps-some : (u : unit.Unit) (from to k : ℤ) → IsStamp from → IsEarly u from → IsLineAround u from to k → IsNear k
    → starts_at to (start_in u from k) ≡ true → steps_between u from to ≡ Some k
steps-some u from to k stamp early around near h =
    found-at (λ j. starts_at to (start_in u from j)) k near h
    (λ j lt. false-unless (starts_at to (start_in u from j)) (λ yes_. let same = at-only u from to k j stamp early around yes_ in omega (arith, ints)))

pub steps-none : (u : unit.Unit) (from to k : ℤ) → IsStamp from → IsEarly u from → IsLineAround u from to k
    → starts_at to (start_in u from k) ≡ false → steps_between u from to ≡ None
steps-none u from to k stamp early around h =
    first_from-none (λ j. starts_at to (start_in u from j)) low 800_000_000_001
    (λ i lt. false-unless (starts_at to (start_in u from (low +ℤ pos i)))
    (λ yes_. let same = at-only u from to k (low +ℤ pos i) stamp early around yes_ in let there = sym (ap (λ j. starts_at to (start_in u from j)) same) ∙ yes_ in cc))

-- no interval up to the one around the stamp starts at or after it, but where that one starts at the stamp
earlier-no : (u : unit.Unit) (from s k j : ℤ) → IsStamp from → IsEarly u from → IsLineAround u from s k → starts_at s (start_in u from k) ≡ false → j ≤ℤ k
    → starts_from s (start_in u from j) ≡ true → ⊥
earlier-no u from s k j stamp early around h le yes_ =
    let line = from-line u from s j stamp early yes_ in
    let up = line-order u from j k stamp early le in
    let same : line_at u from k ≡ s = omega (arith, ints, around.after) in
    let there : IsStamp (line_at u from k) = (omega (arith, ints, line.0.0), omega (arith, ints, line.0.0, line.0.1)) in
    let start = line-start u from k stamp early ∙ stamp-some (line_at u from k) there ∙ ap Some same in
    let found = some-at s (start_in u from k) start in
    cc

pub first-here : (u : unit.Unit) (from s k : ℤ) → IsStamp from → IsEarly u from → IsLineAround u from s k → IsNear k
    → starts_at s (start_in u from k) ≡ true → first_step u from s ≡ Some k
first-here u from s k stamp early around near h =
    let here = start-is u from k s stamp early (at-some s (start_in u from k) h) in
    found-at (λ j. starts_from s (start_in u from j)) k near
    (line-from u from s k stamp early here.1 (omega (arith, ints, here.0)))
    (λ j lt. false-unless (starts_from s (start_in u from j)) (λ yes_.
    let line = from-line u from s j stamp early yes_ in
    let rise = line-rises u from j k stamp early lt in
    omega (arith, ints, here.0)))

pub first-next : (u : unit.Unit) (from s k : ℤ) → IsStamp from → IsEarly u from → IsLineAround u from s k → IsNear (k +ℤ pos 1)
    → starts_at s (start_in u from k) ≡ false → is_some (start_in u from (k +ℤ pos 1)) ≡ true → first_step u from s ≡ Some (k +ℤ pos 1)
first-next u from s k stamp early around near h there =
    let x = some-is (start_in u from (k +ℤ pos 1)) there in
    let next = start-is u from (k +ℤ pos 1) x.0 stamp early x.1 in
    found-at (λ j. starts_from s (start_in u from j)) (k +ℤ pos 1) near
    (line-from u from s (k +ℤ pos 1) stamp early next.1 (omega (arith, ints, around.before)))
    (λ j lt. false-unless (starts_from s (start_in u from j)) (earlier-no u from s k j stamp early around h (omega (arith, ints))))

pub first-none : (u : unit.Unit) (from s k : ℤ) → IsStamp from → IsStamp s → IsEarly u from → IsLineAround u from s k
    → starts_at s (start_in u from k) ≡ false → is_some (start_in u from (k +ℤ pos 1)) ≡ false → first_step u from s ≡ None
first-none u from s k stamp within early around h there =
    let gone = sym (line-start u from (k +ℤ pos 1) stamp early) ∙ none-is (start_in u from (k +ℤ pos 1)) there in
    let over = stamp-not (line_at u from (k +ℤ pos 1)) gone (omega (arith, ints, around.before, within.0)) in
    first_from-none (λ j. starts_from s (start_in u from j)) low 800_000_000_001
    (λ i lt. false-unless (starts_from s (start_in u from (low +ℤ pos i))) (λ yes_.
    by_lt_z k (low +ℤ pos i)
    (λ later.
    let line = from-line u from s (low +ℤ pos i) stamp early yes_ in
    let up = line-order u from (k +ℤ pos 1) (low +ℤ pos i) stamp early (omega (arith, ints)) in
    omega (arith, ints, line.0.1, over, up))
    (λ le. earlier-no u from s k (low +ℤ pos i) stamp early around h le yes_)))

-- the interval around a stamp, where it exists
pub held-some : (u : unit.Unit) (first s k : ℤ) → IsStamp first → IsEarly u first → IsLineAround u first s k → is_some (start_in u first k) ≡ true → HoldsIn u first k s
held-some u first s k stamp early around h =
    let x = some-is (start_in u first k) h in
    holds-around u first s k x.0 stamp early around x.1

-- no interval holds it where that one doesn't
pub held-none : (u : unit.Unit) (first s k n : ℤ) → IsStamp first → IsEarly u first → IsStamp s → IsLineAround u first s k → is_some (start_in u first k) ≡ false → HoldsIn u first n s → ⊥
held-none u first s k n stamp early within around h held =
    let same = holds-only u first s k n stamp early within around held in
    let gone = none-is (start_in u first k) h in
    let there = sym (ap (start_in u first) same) ∙ held.exists_from in
    cc
