-- Which interval holds a stamp.
use Rattle.std.proofs.Common.{◌≡◌, sym, ◌∙◌, arith, ℤ, pos, negsuc, ◌+ℤ◌, ◌≤ℤ◌, ◌<ℤ◌, Some}
use Rattle.std.proofs.lemmas.Int.{by_lt_z, ints}
use Rattle.ts_base.specs.declared.unit.Unit as unit
use Rattle.ts_base.specs.Moment.{IsStamp, stamp_if_any}
use Rattle.ts_calendar.specs.Calendars.{IsEarly, start_in, IsBefore, HoldsIn}
use Rattle.ts_calendar.specs.Line.{line_at, IsLineAround}
use Rattle.ts_calendar.proofs.StampLemmas.{stamp-low, stamp-high, stamp-some, stamp-is}
use Rattle.ts_calendar.proofs.LineLemmas.{line-start, line-rises}

-- no later interval starts earlier
pub line-order : (u : unit.Unit) (first i j : ℤ) → IsStamp first → IsEarly u first → i ≤ℤ j → line_at u first i ≤ℤ line_at u first j
line-order u first i j stamp early le =
    by_lt_z i j
    (λ lt. let rise = line-rises u first i j stamp early lt in omega (arith, ints, rise))
    (λ ge. let same : i ≡ j = omega (arith, ints) in rw same (omega (arith, ints)))

-- a start that is there is the stamp on the line
pub start-is : (u : unit.Unit) (first k f : ℤ) → IsStamp first → IsEarly u first → start_in u first k ≡ Some f → (f ≡ line_at u first k) × IsStamp (line_at u first k)
start-is u first k f stamp early e = stamp-is (line_at u first k) f (sym (line-start u first k stamp early) ∙ e)

is_before : (s t : ℤ) → s <ℤ t → IsBefore s (stamp_if_any t)
is_before s t h =
    by_lt_z t (negsuc 6_213_559_679_999_999)
    (λ lt. rw (stamp-low t lt) tt)
    (λ low. by_lt_z (pos 25_340_230_079_999_999) t
    (λ lt. rw (stamp-high t low lt) tt)
    (λ high. rw (stamp-some t (low, high)) h))

before_is : (s t : ℤ) → IsStamp s → negsuc 6_213_559_679_999_999 ≤ℤ t → IsBefore s (stamp_if_any t) → s <ℤ t
before_is s t h low b =
    by_lt_z (pos 25_340_230_079_999_999) t
    (λ lt. omega (arith, ints, h.1))
    (λ high. rw (stamp-some t (low, high)) at b)

-- the interval around a stamp holds it, where it exists
pub holds-around : (u : unit.Unit) (first s k f : ℤ) → IsStamp first → IsEarly u first → IsLineAround u first s k → start_in u first k ≡ Some f → HoldsIn u first k s
holds-around u first s k f stamp early around e =
    let here = start-is u first k f stamp early e in
    record {
      from = f;
      exists_from = e;
      after = rw here.0 around.after;
      before = rw (line-start u first (k +ℤ pos 1) stamp early) (is_before s (line_at u first (k +ℤ pos 1)) around.before);
    }

-- and no other one does
pub holds-only : (u : unit.Unit) (first s k n : ℤ) → IsStamp first → IsEarly u first → IsStamp s → IsLineAround u first s k → HoldsIn u first n s → n ≡ k
holds-only u first s k n stamp early within around held =
    let here = start-is u first n held.from stamp early held.exists_from in
    let after : line_at u first n ≤ℤ s = rw here.0 at held.after in
    let rise = line-rises u first n (n +ℤ pos 1) stamp early (omega (arith, ints)) in
    let low : negsuc 6_213_559_679_999_999 ≤ℤ line_at u first (n +ℤ pos 1) = omega (arith, ints, here.1.0, rise) in
    let before = before_is s (line_at u first (n +ℤ pos 1)) within low (rw (line-start u first (n +ℤ pos 1) stamp early) at held.before) in
    only u first s k n stamp early around after before
  where
    only : (u : unit.Unit) (first s k n : ℤ) → IsStamp first → IsEarly u first → IsLineAround u first s k → line_at u first n ≤ℤ s → s <ℤ line_at u first (n +ℤ pos 1) → n ≡ k
    only u first s k n stamp early around after before =
        by_lt_z n k
        (λ lt. let up = line-order u first (n +ℤ pos 1) k stamp early (omega (arith, ints)) in absurd (omega (arith, ints, around.after, up)))
        (λ ge. by_lt_z k n
        (λ lt. let up = line-order u first (k +ℤ pos 1) n stamp early (omega (arith, ints)) in absurd (omega (arith, ints, around.before, up)))
        (λ le. omega (arith, ints)))
