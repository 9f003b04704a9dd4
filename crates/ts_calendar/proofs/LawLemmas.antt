-- Intervals that exist lie near 0, one after the other; steps lead where that interval starts.
use Rattle.std.proofs.Common.{◌≡◌, ℕ, true, not, ap, ◌∙◌, arith, ℤ, pos, negsuc, ◌+ℤ◌, ◌*ℤ◌, ◌≤ℤ◌, ◌<ℤ◌, Some, None, Option}
use Rattle.std.specs.Prelude.{is_some, IsSome}
use Rattle.std.proofs.lemmas.Int.{by_lt_z, ints}
use Rattle.jiff_core.proofs.SignedLemmas.{signed_arith}
use Rattle.ts_base.specs.declared.unit.Unit as unit
use Rattle.ts_base.specs.declared.unit.Unit.TheVariants.{Second, Minute, Hour, Day, Week, Month, Year}
use Rattle.ts_base.specs.Moment.{IsStamp, clock_of, day_of_month}
use Rattle.ts_calendar.specs.Calendars.{CalendarPlan, IsEarly, IsLaid, IsAround, start_in, start_at, starts_from, IsNear, starts_at, steps_between, first_step, IsFirstStep}
use Rattle.ts_calendar.specs.Line.{line_at, month_line, IsLineAround}
use Rattle.ts_calendar.proofs.StampLemmas.{int_lt_yes, int_lt_no, stamp-some, dated}
use Rattle.ts_calendar.proofs.LineLemmas.{line-start, line-rises, line-zero, year_in, month_at}
use Rattle.ts_calendar.proofs.HeldLemmas.{line-order, start-is}
use Rattle.ts_calendar.proofs.FirstLemmas.{first_from-is, first_from-no, first_from-none}
use Rattle.ts_calendar.proofs.StepLemmas.{some-is, found-at, false-unless, from-some, at-some, some-at}

-- a month that starts with a stamp
within-months : (day clock : ℕ) (n : ℤ) → IsStamp (month_line day clock n) → (pos 12 ≤ℤ n) × (n ≤ℤ pos 119_999)
within-months day clock n there =
    by_lt_z (year_in n) (pos 1)
    (λ before. let low = rw (int_lt_no (pos 0) (year_in n) (omega (arith, signed_arith))) at there in absurd (omega (arith, signed_arith, low.0)))
    (λ from. by_lt_z (year_in n) (pos 10_000)
    (λ to. (omega (arith, signed_arith), omega (arith, signed_arith)))
    (λ over.
    let high = rw (int_lt_yes (pos 0) (year_in n) (omega (arith, signed_arith)), int_lt_no (year_in n) (pos 10_000) over) at there in
    absurd (omega (arith, signed_arith, high.1))))

month-bounds : (s : ℤ) → IsStamp s → (pos 12 ≤ℤ month_at s) × (month_at s ≤ℤ pos 119_999)
month-bounds s stamp =
    let d = dated s stamp in
    let year = d.valid.0 in
    (omega (arith, signed_arith, d.year_low), omega (arith, signed_arith, year.1, d.valid.1.0, d.valid.1.1))

-- an interval that starts with a stamp isn't far away
pub line-near : (u : unit.Unit) (first k : ℤ) → IsStamp first → IsStamp (line_at u first k) → IsNear k
unfolding line_at
line-near Second first k stamp there = (omega (arith, signed_arith, stamp.1, there.0), omega (arith, signed_arith, stamp.0, there.1))
line-near Minute first k stamp there = (omega (arith, signed_arith, stamp.1, there.0), omega (arith, signed_arith, stamp.0, there.1))
line-near Hour first k stamp there = (omega (arith, signed_arith, stamp.1, there.0), omega (arith, signed_arith, stamp.0, there.1))
line-near Day first k stamp there = (omega (arith, signed_arith, stamp.1, there.0), omega (arith, signed_arith, stamp.0, there.1))
line-near Week first k stamp there = (omega (arith, signed_arith, stamp.1, there.0), omega (arith, signed_arith, stamp.0, there.1))
line-near Month first k stamp there =
    let n = within-months (day_of_month first) (clock_of first) (month_at first +ℤ k *ℤ pos 1) there in
    let m = month-bounds first stamp in
    (omega (arith, signed_arith, n.0, m.1), omega (arith, signed_arith, n.1, m.0))
line-near Year first k stamp there =
    let n = within-months (day_of_month first) (clock_of first) (month_at first +ℤ k *ℤ pos 12) there in
    let m = month-bounds first stamp in
    (omega (arith, signed_arith, n.0, m.1), omega (arith, signed_arith, n.1, m.0))

pub start-near : (u : unit.Unit) (first k f : ℤ) → IsStamp first → IsEarly u first → start_in u first k ≡ Some f → IsNear k
start-near u first k f stamp early e = line-near u first k stamp (start-is u first k f stamp early e).1

-- two intervals with one start are one
pub same-start : (u : unit.Unit) (first i j f : ℤ) → IsStamp first → IsEarly u first → start_in u first i ≡ Some f → start_in u first j ≡ Some f → i ≡ j
same-start u first i j f stamp early a b =
    let x = start-is u first i f stamp early a in
    let y = start-is u first j f stamp early b in
    by_lt_z i j
    (λ lt. let up = line-rises u first i j stamp early lt in absurd (omega (arith, ints, x.0, y.0)))
    (λ ge. by_lt_z j i
    (λ lt. let up = line-rises u first j i stamp early lt in absurd (omega (arith, ints, x.0, y.0)))
    (λ le. omega (arith, ints)))

-- interval 0 starts at the first stamp
pub start-zero : (u : unit.Unit) (first : ℤ) → IsStamp first → IsEarly u first → start_in u first (pos 0) ≡ Some first
start-zero u first stamp early =
    let zero_is = line-zero u first stamp early in
    line-start u first (pos 0) stamp early ∙ stamp-some (line_at u first (pos 0)) (rw zero_is stamp) ∙ ap Some zero_is

-- the steps that are found lead there
pub steps-lead : (u : unit.Unit) (from to k : ℤ) → steps_between u from to ≡ Some k → start_in u from k ≡ Some to
steps-lead u from to k h =
    let is = first_from-is (λ j. starts_at to (start_in u from j)) (negsuc 399_999_999_999) k 800_000_000_001 h in
    at-some to (start_in u from k) is.0

-- those that lead there are found
pub steps-found : (u : unit.Unit) (from to k : ℤ) → IsStamp from → IsEarly u from → start_in u from k ≡ Some to → steps_between u from to ≡ Some k
steps-found u from to k stamp early e =
    found-at (λ j. starts_at to (start_in u from j)) k (start-near u from k to stamp early e) (some-at to (start_in u from k) e)
    (λ j lt. false-unless (starts_at to (start_in u from j)) (λ yes_.
    let same = same-start u from j k to stamp early (at-some to (start_in u from j) yes_) e in omega (arith, ints)))

pub steps-apart : (u : unit.Unit) (from to : ℤ) → ((k : ℤ) → start_in u from k ≡ Some to → ⊥) → steps_between u from to ≡ None
steps-apart u from to none =
    first_from-none (λ j. starts_at to (start_in u from j)) (negsuc 399_999_999_999) 800_000_000_001
    (λ i lt. false-unless (starts_at to (start_in u from (negsuc 399_999_999_999 +ℤ pos i)))
    (λ yes_. none (negsuc 399_999_999_999 +ℤ pos i) (at-some to (start_in u from (negsuc 399_999_999_999 +ℤ pos i)) yes_)))

pub apart-none : (u : unit.Unit) (from to : ℤ) → IsStamp from → IsEarly u from → steps_between u from to ≡ None → (k : ℤ) → start_in u from k ≡ Some to → ⊥
apart-none u from to stamp early h k e = let some = steps-found u from to k stamp early e in cc

-- a start from the stamp on is told as such
late-yes : (s f : ℤ) (o : Option ℤ) → o ≡ Some f → s ≤ℤ f → starts_from s o ≡ true
late-yes s f o e le = ap (starts_from s) e ∙ ap not (int_lt_no f s le)

-- the first step that is found is the first
pub first-is : (u : unit.Unit) (from s k : ℤ) → IsStamp from → IsEarly u from → first_step u from s ≡ Some k → IsFirstStep u from s k
first-is u from s k stamp early h =
    let is = first_from-is (λ j. starts_from s (start_in u from j)) (negsuc 399_999_999_999) k 800_000_000_001 h in
    let x = from-some s (start_in u from k) is.0 in
    record {
      at = x.0;
      exists_at = x.1;
      after = x.2;
      earlier = λ j t lt e. by_lt_z t s (λ less. less) (λ ge.
          let near = start-near u from j t stamp early e in
          let no_ = is.1 j near.0 lt in
          let yes_ = late-yes s t (start_in u from j) e ge in
          absurd (cc));
    }

-- and the first is found
pub first-found : (u : unit.Unit) (from s k : ℤ) → IsStamp from → IsEarly u from → IsFirstStep u from s k → first_step u from s ≡ Some k
first-found u from s k stamp early w =
    found-at (λ j. starts_from s (start_in u from j)) k (start-near u from k w.at stamp early w.exists_at) (late-yes s w.at (start_in u from k) w.exists_at w.after)
    (λ j lt. false-unless (starts_from s (start_in u from j)) (λ yes_.
    let x = from-some s (start_in u from j) yes_ in
    let less = w.earlier j x.0 lt x.1 in
    omega (arith, ints, x.2)))

-- where there is none, all starts come before the stamp
pub late-all : (u : unit.Unit) (from s : ℤ) → IsStamp from → IsEarly u from → first_step u from s ≡ None → (k t : ℤ) → start_in u from k ≡ Some t → t <ℤ s
late-all u from s stamp early h k t e =
    by_lt_z t s (λ less. less) (λ ge.
    let near = start-near u from k t stamp early e in
    let no_ = first_from-no (λ j. starts_from s (start_in u from j)) (negsuc 399_999_999_999) 800_000_000_001 h k near.0 (omega (arith, ints, near.1)) in
    let yes_ = late-yes s t (start_in u from k) e ge in
    absurd (cc))

pub all-late : (u : unit.Unit) (from s : ℤ) → ((k t : ℤ) → start_in u from k ≡ Some t → t <ℤ s) → first_step u from s ≡ None
all-late u from s all =
    first_from-none (λ j. starts_from s (start_in u from j)) (negsuc 399_999_999_999) 800_000_000_001
    (λ i lt. false-unless (starts_from s (start_in u from (negsuc 399_999_999_999 +ℤ pos i))) (λ yes_.
    let x = from-some s (start_in u from (negsuc 399_999_999_999 +ℤ pos i)) yes_ in
    let less = all (negsuc 399_999_999_999 +ℤ pos i) x.0 x.1 in
    omega (arith, ints, x.2)))

-- starts rise
pub starts-rise : (c : CalendarPlan) (i j s t : ℤ) → IsLaid c → i <ℤ j → start_at c i ≡ Some s → start_at c j ≡ Some t → s <ℤ t
starts-rise c i j s t laid lt a b =
    let x = start-is c.pattern.unit c.patt_start i s laid.stamp laid.early a in
    let y = start-is c.pattern.unit c.patt_start j t laid.stamp laid.early b in
    let up = line-rises c.pattern.unit c.patt_start i j laid.stamp laid.early lt in
    omega (arith, ints, x.0, y.0)

-- a number on the line that is a stamp is a start
line-there : (c : CalendarPlan) (k : ℤ) → IsLaid c → IsStamp (line_at c.pattern.unit c.patt_start k) → start_at c k ≡ Some (line_at c.pattern.unit c.patt_start k)
line-there c k laid there = line-start c.pattern.unit c.patt_start k laid.stamp laid.early ∙ stamp-some (line_at c.pattern.unit c.patt_start k) there

there-some : (c : CalendarPlan) (k : ℤ) → IsLaid c → IsStamp (line_at c.pattern.unit c.patt_start k) → IsSome (start_at c k)
there-some c k laid there = ap is_some (line-there c k laid there)

-- an interval that exists starts with a stamp on the line
some-there : (c : CalendarPlan) (k : ℤ) → IsLaid c → IsSome (start_at c k) → IsStamp (line_at c.pattern.unit c.patt_start k)
some-there c k laid some =
    let x = some-is (start_at c k) some in
    (start-is c.pattern.unit c.patt_start k x.0 laid.stamp laid.early x.1).1

-- between two intervals that exist each one does
pub starts-whole : (c : CalendarPlan) (i j k : ℤ) → IsLaid c → i ≤ℤ k → k ≤ℤ j → IsSome (start_at c i) → IsSome (start_at c j) → IsSome (start_at c k)
starts-whole c i j k laid low high a b =
    let x = some-there c i laid a in
    let y = some-there c j laid b in
    let up = line-order c.pattern.unit c.patt_start i k laid.stamp laid.early low in
    let down = line-order c.pattern.unit c.patt_start k j laid.stamp laid.early high in
    there-some c k laid (omega (arith, ints, x.0), omega (arith, ints, y.1))

-- around on the line is around
pub around-starts : (c : CalendarPlan) (s k : ℤ) → IsLaid c → IsStamp s → IsLineAround c.pattern.unit c.patt_start s k → IsAround c s k
around-starts c s k laid stamp around = record {
  early = λ j from le e.
      let x = start-is c.pattern.unit c.patt_start j from laid.stamp laid.early e in
      let up = line-order c.pattern.unit c.patt_start j k laid.stamp laid.early le in
      omega (arith, ints, x.0, around.after);
  late = λ j from lt e.
      let x = start-is c.pattern.unit c.patt_start j from laid.stamp laid.early e in
      let up = line-order c.pattern.unit c.patt_start (k +ℤ pos 1) j laid.stamp laid.early (omega (arith, ints)) in
      omega (arith, ints, x.0, around.before);
  here = λ j le some.
      let x = some-there c j laid some in
      let up = line-order c.pattern.unit c.patt_start j k laid.stamp laid.early le in
      there-some c k laid (omega (arith, ints, x.0), omega (arith, ints, around.after, stamp.1));
  next = λ j lt some.
      let x = some-there c j laid some in
      let up = line-order c.pattern.unit c.patt_start (k +ℤ pos 1) j laid.stamp laid.early (omega (arith, ints)) in
      there-some c (k +ℤ pos 1) laid (omega (arith, ints, around.before, stamp.0), omega (arith, ints, x.1));
}

-- and the other way round
pub starts-around : (c : CalendarPlan) (s k : ℤ) → IsLaid c → IsStamp s → IsAround c s k → IsLineAround c.pattern.unit c.patt_start s k
starts-around c s k laid stamp around =
    let first = c.patt_start in
    let own : IsSome (start_at c (pos 0)) = ap is_some (start-zero c.pattern.unit first laid.stamp laid.early) in
    let at_zero = line-zero c.pattern.unit first laid.stamp laid.early in
    record {
      after = by_lt_z s (line_at c.pattern.unit c.patt_start k)
          (λ lt.
          let there : IsStamp (line_at c.pattern.unit c.patt_start k) =
          by_lt_z (pos 25_340_230_079_999_999) (line_at c.pattern.unit c.patt_start k)
          (λ over. some-there c k laid (around.here (pos 0) (by_lt_z k (pos 0)
          (λ less. let up = line-order c.pattern.unit c.patt_start k (pos 0) laid.stamp laid.early (omega (arith, ints)) in absurd (omega (arith, ints, at_zero, laid.stamp.1)))
          (λ le. le)) own))
          (λ fits. (omega (arith, ints, stamp.0), fits)) in
          let le = around.early k (line_at c.pattern.unit c.patt_start k) (omega (arith, ints)) (line-there c k laid there) in
          absurd (omega (arith, ints)))
          (λ le. le);
      before = by_lt_z s (line_at c.pattern.unit c.patt_start (k +ℤ pos 1))
          (λ lt. lt)
          (λ ge.
          let there : IsStamp (line_at c.pattern.unit c.patt_start (k +ℤ pos 1)) =
          by_lt_z (line_at c.pattern.unit c.patt_start (k +ℤ pos 1)) (negsuc 6_213_559_679_999_999)
          (λ under. some-there c (k +ℤ pos 1) laid (around.next (pos 0) (by_lt_z k (pos 0)
          (λ less. less)
          (λ le. let up = line-order c.pattern.unit c.patt_start (pos 0) (k +ℤ pos 1) laid.stamp laid.early (omega (arith, ints)) in absurd (omega (arith, ints, at_zero, laid.stamp.0)))) own))
          (λ fits. (fits, omega (arith, ints, stamp.1))) in
          let lt = around.late (k +ℤ pos 1) (line_at c.pattern.unit c.patt_start (k +ℤ pos 1)) (omega (arith, ints)) (line-there c (k +ℤ pos 1) laid there) in
          absurd (omega (arith, ints)));
    }
