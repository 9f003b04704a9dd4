-- How long the intervals of a calendar last.
use Rattle.std.proofs.Common.{◌≡◌, false, Option, None, Some, ap, arith, ◌*◌, ℤ, pos, ◌+ℤ◌, ◌-ℤ◌, ◌*ℤ◌, ◌≤ℤ◌}
use Rattle.std.specs.Prelude.{IfSome}
use Rattle.std.proofs.lemmas.Int.{ints}
use Rattle.ts_base.specs.declared.unit.Unit as unit
use Rattle.ts_base.specs.declared.unit.Unit.TheVariants.{Second, Minute, Hour, Day, Week, Month, Year}
use Rattle.ts_base.specs.Moment.{IsStamp, stamp_if_any}
use Rattle.ts_pattern.specs.Patterns.{is_monthly, size}
use Rattle.ts_calendar.specs.Calendars.{CalendarPlan, IsLaid, start_in, start_at}
use Rattle.ts_calendar.proofs.StampLemmas.{stamp-is}
use Rattle.ts_aggregate.specs.Groups.{Lasts}

-- the next start, as many units behind one as the start of interval 1 is behind that of interval 0
next_start : (u : unit.Unit) (first n k s : ℤ) → is_monthly u ≡ false → start_in u first (pos 1) ≡ Some n → start_in u first k ≡ Some s
    → (pos 0 ≤ℤ (n -ℤ first)) × (start_in u first (k +ℤ pos 1) ≡ stamp_if_any (s +ℤ (n -ℤ first)))
next_start Second first n k s clock one at =
    let a = stamp-is (first +ℤ pos 1 *ℤ pos (size Second * 100_000)) n one in
    let b = stamp-is (first +ℤ k *ℤ pos (size Second * 100_000)) s at in
    let next : first +ℤ (k +ℤ pos 1) *ℤ pos (size Second * 100_000) ≡ s +ℤ (n -ℤ first) = omega (arith, ints, a.0, b.0) in
    (omega (arith, ints, a.0), ap stamp_if_any next)
next_start Minute first n k s clock one at =
    let a = stamp-is (first +ℤ pos 1 *ℤ pos (size Minute * 100_000)) n one in
    let b = stamp-is (first +ℤ k *ℤ pos (size Minute * 100_000)) s at in
    let next : first +ℤ (k +ℤ pos 1) *ℤ pos (size Minute * 100_000) ≡ s +ℤ (n -ℤ first) = omega (arith, ints, a.0, b.0) in
    (omega (arith, ints, a.0), ap stamp_if_any next)
next_start Hour first n k s clock one at =
    let a = stamp-is (first +ℤ pos 1 *ℤ pos (size Hour * 100_000)) n one in
    let b = stamp-is (first +ℤ k *ℤ pos (size Hour * 100_000)) s at in
    let next : first +ℤ (k +ℤ pos 1) *ℤ pos (size Hour * 100_000) ≡ s +ℤ (n -ℤ first) = omega (arith, ints, a.0, b.0) in
    (omega (arith, ints, a.0), ap stamp_if_any next)
next_start Day first n k s clock one at =
    let a = stamp-is (first +ℤ pos 1 *ℤ pos (size Day * 100_000)) n one in
    let b = stamp-is (first +ℤ k *ℤ pos (size Day * 100_000)) s at in
    let next : first +ℤ (k +ℤ pos 1) *ℤ pos (size Day * 100_000) ≡ s +ℤ (n -ℤ first) = omega (arith, ints, a.0, b.0) in
    (omega (arith, ints, a.0), ap stamp_if_any next)
next_start Week first n k s clock one at =
    let a = stamp-is (first +ℤ pos 1 *ℤ pos (size Week * 100_000)) n one in
    let b = stamp-is (first +ℤ k *ℤ pos (size Week * 100_000)) s at in
    let next : first +ℤ (k +ℤ pos 1) *ℤ pos (size Week * 100_000) ≡ s +ℤ (n -ℤ first) = omega (arith, ints, a.0, b.0) in
    (omega (arith, ints, a.0), ap stamp_if_any next)
next_start Month first n k s clock one at = absurd (cc)
next_start Year first n k s clock one at = absurd (cc)

pub lasts : (c : CalendarPlan) (n : ℤ) → IsLaid c → is_monthly c.pattern.unit ≡ false → start_at c (pos 1) ≡ Some n → IsStamp n → Lasts c (n -ℤ c.patt_start)
lasts c n laid clock one stamp = record {
  low = (next_start c.pattern.unit c.patt_start n (pos 1) n clock one one).0;
  high = omega (arith, ints, stamp, laid.stamp);
  next = λ k s at. (next_start c.pattern.unit c.patt_start n k s clock one at).1;
}

-- what holds of a number, if there is one
pub if_there : (P Q : ℤ → Type 0) → ((k : ℤ) → P k → Q k) → (o : Option ℤ) → IfSome o P → IfSome o Q
if_there P Q all None h = tt
if_there P Q all (Some k) h = all k h
