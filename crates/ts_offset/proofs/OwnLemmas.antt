-- The start of the interval that holds a stamp, for any stamp.
use Rattle.std.proofs.Common.{◌≡◌, ℕ, zero, suc, Bool, true, false, cond, Option, Some, None, refl, sym, ap, ◌∙◌, arith, ℤ, pos, negsuc, neg_ℤ, ◌+ℤ◌, ◌≤ℤ◌, ◌<ℤ◌, option_and_then}
use Rattle.std.proofs.lemmas.Int.{by_lt_z, ints}
use Rattle.ts_base.specs.Moment.{IsStamp, stamp_if_any}
use Rattle.ts_calendar.specs.Calendars.{CalendarPlan, start_at, IsBefore, Holds, first_from, first_interval, IsLaid, IsNear}
use Rattle.ts_calendar.proofs.StampLemmas.{stamp-some}
use Rattle.ts_calendar.proofs.LineLemmas.{line-start, line-rises}
use Rattle.ts_offset.specs.Grid.{IsOnStart, holds_on, held_start, IsHeldFrom}
use Rattle.ts_offset.proofs.StartLemmas.{IsAt, line, on-line}
use Rattle.ts_offset.proofs.HeldLemmas.{holds-test, held-on}
use Rattle.ts_calendar.proofs.LawLemmas.{line-near}
use Rattle.ts_offset.proofs.GridLemmas.{around-start}

before-line : (t l : ℤ) → IsStamp t → negsuc 6_213_559_679_999_999 ≤ℤ l → IsBefore t (stamp_if_any l) → t <ℤ l
before-line t l stamp low b =
    by_lt_z (pos 25_340_230_079_999_999) l
    (λ lt. omega (arith, ints, stamp.1))
    (λ high. rw (stamp-some l (low, high)) at b)

-- an interval that holds a stamp is around it
holds-at : (c : CalendarPlan) (t k : ℤ) → IsLaid c → IsStamp t → Holds c k t → IsAt c t k
holds-at c t k laid stamp held =
    let here = on-line c k held.from laid held.exists_from in
    let up = line-rises c.pattern.unit c.patt_start k (k +ℤ pos 1) laid.stamp laid.early (omega (arith, ints)) in
    record {
      after = omega (arith, ints, here.0, held.after);
      before = before-line t (line c (k +ℤ pos 1)) stamp (omega (arith, ints, here.0, here.1.0, up))
          (rw (line-start c.pattern.unit c.patt_start (k +ℤ pos 1) laid.stamp laid.early) at held.before);
    }

start-near : (c : CalendarPlan) (k s : ℤ) → IsLaid c → start_at c k ≡ Some s → IsNear k
start-near c k s laid e =
    let here = on-line c k s laid e in
    line-near c.pattern.unit c.patt_start k laid.stamp (omega (arith, ints, here.0, here.1.0), omega (arith, ints, here.0, here.1.1))

pub held-from : (c : CalendarPlan) (t s : ℤ) → IsLaid c → IsStamp t → IsHeldFrom c t s → held_start c t ≡ Some s
held-from c t s laid stamp w =
    held-on c t w.interval laid stamp (start-near c w.interval s laid w.start) (holds-at c t w.interval laid stamp w.held) w.on ∙ w.start

-- what a search found passes its test
found-test : (test : ℤ → Bool) (k : ℤ) (n : ℕ) (j : ℤ) → first_from test k n ≡ Some j → test j ≡ true
unfolding first_from
found-test test k zero j e = absurd (cc)
found-test test k (suc n) j e = by (test k) refl e (found-test test (k +ℤ pos 1) n j)
  where
    by : (b : Bool) → test k ≡ b → cond b (Some k) (first_from test (k +ℤ pos 1) n) ≡ Some j
        → (first_from test (k +ℤ pos 1) n ≡ Some j → test j ≡ true) → test j ≡ true
    by true t found more = let same : k ≡ j = cc in sym (ap test same) ∙ t
    by false t found more = more found

started-at : (c : CalendarPlan) (o : Option ℤ) (s : ℤ) → option_and_then (start_at c) o ≡ Some s → (k : ℤ) × (o ≡ Some k) × (start_at c k ≡ Some s)
started-at c (Some k) s e = (k, refl, e)
started-at c None s e = absurd (cc)

pub from-held : (c : CalendarPlan) (t s : ℤ) → held_start c t ≡ Some s → IsHeldFrom c t s
from-held c t s e =
    let w = started-at c (first_interval (holds_on c t)) s e in
    let h = holds-test c t w.0 (found-test (holds_on c t) (neg_ℤ (pos 400_000_000_000)) 800_000_000_001 w.0 w.1) in
    record { interval = w.0; on = h.0; start = w.2; held = h.1 }

-- an on start is held by its own interval
pub own-start : (c : CalendarPlan) (s : ℤ) → IsLaid c → IsOnStart c s → held_start c s ≡ Some s
own-start c s laid w =
    held-on c s w.interval laid (on-line c w.interval s laid w.start).1 (start-near c w.interval s laid w.start) (around-start c w.interval s laid w.start) w.on ∙ w.start
