-- Starts of intervals rise.
use Rattle.std.proofs.Common.{◌≡◌, sym, ap, ◌∙◌, arith, ℤ, pos, ◌+ℤ◌, ◌≤ℤ◌, ◌<ℤ◌, Some}
use Rattle.std.proofs.lemmas.Int.{by_lt_z, ints}
use Rattle.ts_base.specs.Moment.{IsStamp}
use Rattle.ts_calendar.specs.Calendars.{CalendarPlan, start_at, IsLaid, IsNear}
use Rattle.ts_calendar.specs.Line.{line_at, IsLineAround}
use Rattle.ts_calendar.proofs.LineLemmas.{line-rises}
use Rattle.ts_calendar.proofs.HeldLemmas.{line-order, start-is}
use Rattle.ts_offset.specs.Grid.{IsFirstFrom, IsEnd}

abbrev pub line : CalendarPlan → ℤ → ℤ
line c k = line_at c.pattern.unit c.patt_start k

abbrev pub IsAt : CalendarPlan → ℤ → ℤ → Type 0
IsAt c t k = IsLineAround c.pattern.unit c.patt_start t k

-- a start that is there lies on the line
pub on-line : (c : CalendarPlan) (k s : ℤ) → IsLaid c → start_at c k ≡ Some s → (s ≡ line c k) × IsStamp s
on-line c k s laid e =
    let here = start-is c.pattern.unit c.patt_start k s laid.stamp laid.early e in
    (here.0, (omega (arith, ints, here.0, here.1.0), omega (arith, ints, here.0, here.1.1)))

order : (c : CalendarPlan) (i j : ℤ) → IsLaid c → i ≤ℤ j → line c i ≤ℤ line c j
order c i j laid le = line-order c.pattern.unit c.patt_start i j laid.stamp laid.early le

pub rise : (c : CalendarPlan) (i j : ℤ) → IsLaid c → i <ℤ j → line c i <ℤ line c j
rise c i j laid lt = line-rises c.pattern.unit c.patt_start i j laid.stamp laid.early lt

-- two intervals with one start are one
pub start-one : (c : CalendarPlan) (i j s : ℤ) → IsLaid c → start_at c i ≡ Some s → start_at c j ≡ Some s → i ≡ j
start-one c i j s laid a b =
    let x = on-line c i s laid a in
    let y = on-line c j s laid b in
    by_lt_z i j
    (λ lt. let up = rise c i j laid lt in absurd (omega (arith, ints, x.0, y.0)))
    (λ ge. by_lt_z j i
    (λ lt. let up = rise c j i laid lt in absurd (omega (arith, ints, x.0, y.0)))
    (λ le. omega (arith, ints)))

-- the interval that starts at a stamp is the first from there on
pub first-at : (c : CalendarPlan) (k s : ℤ) → IsLaid c → IsNear k → start_at c k ≡ Some s → IsFirstFrom c s k
first-at c k s laid near e =
    let here = on-line c k s laid e in
    record {
      near = near;
      earlier = λ j t lt f. let there = on-line c j t laid f in let up = rise c j k laid lt in omega (arith, ints, here.0, there.0);
      later = λ j t le f. let there = on-line c j t laid f in let up = order c k j laid le in omega (arith, ints, here.0, there.0);
    }

-- the interval after the one around a stamp is the first that starts after it
pub first-next : (c : CalendarPlan) (k t : ℤ) → IsLaid c → IsAt c t k → IsNear (k +ℤ pos 1) → IsFirstFrom c (t +ℤ pos 1) (k +ℤ pos 1)
first-next c k t laid around near = record {
  near = near;
  earlier = λ j s lt e. let there = on-line c j s laid e in let up = order c j k laid (omega (arith, ints)) in omega (arith, ints, around.after, there.0);
  later = λ j s le e. let there = on-line c j s laid e in let up = order c (k +ℤ pos 1) j laid le in omega (arith, ints, around.before, there.0);
}

-- an interval that starts at the stamp is the one around it
pub at-around : (c : CalendarPlan) (k j t : ℤ) → IsLaid c → IsAt c t k → start_at c j ≡ Some t → j ≡ k
at-around c k j t laid around e =
    let here = on-line c j t laid e in
    by_lt_z j k
    (λ lt. let up = rise c j k laid lt in absurd (omega (arith, ints, around.after, here.0)))
    (λ ge. by_lt_z k j
    (λ lt. let up = order c (k +ℤ pos 1) j laid (omega (arith, ints)) in absurd (omega (arith, ints, around.before, here.0)))
    (λ le. omega (arith, ints)))

-- where no interval starts at the stamp, the next one is the first from there on
pub first-from-next : (c : CalendarPlan) (k t : ℤ) → IsLaid c → IsAt c t k → IsNear (k +ℤ pos 1) → (start_at c k ≡ Some t → ⊥) → IsFirstFrom c t (k +ℤ pos 1)
first-from-next c k t laid around near none = record {
  near = near;
  earlier = λ j s lt e.
      let there = on-line c j s laid e in
      let up = order c j k laid (omega (arith, ints)) in
      by_lt_z s t (λ less. less) (λ ge.
      let same : s ≡ t = omega (arith, ints, around.after, there.0) in
      let at = at-around c k j t laid around (e ∙ ap Some same) in
      absurd (none (sym (ap (start_at c) at) ∙ e ∙ ap Some same)));
  later = λ j s le e. let there = on-line c j s laid e in let up = order c (k +ℤ pos 1) j laid le in omega (arith, ints, around.before, there.0);
}

-- nothing starts after the greatest stamp
pub end-after : (c : CalendarPlan) (k : ℤ) → IsLaid c → IsFirstFrom c (pos 25_340_230_079_999_999 +ℤ pos 1) k → IsEnd c k
end-after c k laid first = record {
  near = first.near;
  over = λ j s le e. let there = on-line c j s laid e in let late = first.later j s le e in omega (arith, ints, there.1.1);
}
