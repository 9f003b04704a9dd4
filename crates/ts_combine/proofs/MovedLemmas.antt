-- Intervals counted from the start of another one.
use Rattle.std.proofs.Common.{◌≡◌, ◌∙◌, ℤ, pos, ◌+ℤ◌, ◌*ℤ◌, Some, refl, sym, ap, arith}
use Rattle.std.proofs.lemmas.Int.{ints}
use Rattle.ts_base.specs.declared.unit.Unit as unit
use Rattle.ts_base.specs.declared.unit.Unit.TheVariants.{Second, Minute, Hour, Day, Week, Month, Year}
use Rattle.ts_base.specs.Moment.{IsStamp, stamp_if_any, clock_of, day_of_month}
use Rattle.ts_calendar.specs.Calendars.{IsEarly, start_in}
use Rattle.ts_calendar.specs.Line.{line_at, month_line}
use Rattle.ts_calendar.proofs.StampLemmas.{stamp-is}
use Rattle.ts_calendar.proofs.LineLemmas.{line-start, month_at, date-moved}
use Rattle.ts_calendar.proofs.HeldLemmas.{start-is}
use Rattle.ts_calendar.proofs.ValidLemmas.{early-kept}

line-moved : (u : unit.Unit) (first a b f : ℤ) → IsStamp first → IsEarly u first → start_in u first a ≡ Some f → line_at u f b ≡ line_at u first (a +ℤ b)
unfolding line_at
line-moved Second first a b f stamp early e = let is = stamp-is (first +ℤ a *ℤ pos 100_000) f e in omega (arith, ints, is.0)
line-moved Minute first a b f stamp early e = let is = stamp-is (first +ℤ a *ℤ pos 6_000_000) f e in omega (arith, ints, is.0)
line-moved Hour first a b f stamp early e = let is = stamp-is (first +ℤ a *ℤ pos 360_000_000) f e in omega (arith, ints, is.0)
line-moved Day first a b f stamp early e = let is = stamp-is (first +ℤ a *ℤ pos 8_640_000_000) f e in omega (arith, ints, is.0)
line-moved Week first a b f stamp early e = let is = stamp-is (first +ℤ a *ℤ pos 60_480_000_000) f e in omega (arith, ints, is.0)
line-moved Month first a b f stamp early e =
    let is = date-moved Month first a f stamp early refl e in
    let number : month_at f +ℤ b *ℤ pos 1 ≡ month_at first +ℤ (a +ℤ b) *ℤ pos 1 = omega (arith, ints, is.2) in
    ap (λ d. month_line d (clock_of f) (month_at f +ℤ b *ℤ pos 1)) is.0
    ∙ ap (λ t. month_line (day_of_month first) t (month_at f +ℤ b *ℤ pos 1)) is.1
    ∙ ap (month_line (day_of_month first) (clock_of first)) number
line-moved Year first a b f stamp early e =
    let is = date-moved Year first a f stamp early refl e in
    let number : month_at f +ℤ b *ℤ pos 12 ≡ month_at first +ℤ (a +ℤ b) *ℤ pos 12 = omega (arith, ints, is.2) in
    ap (λ d. month_line d (clock_of f) (month_at f +ℤ b *ℤ pos 12)) is.0
    ∙ ap (λ t. month_line (day_of_month first) t (month_at f +ℤ b *ℤ pos 12)) is.1
    ∙ ap (month_line (day_of_month first) (clock_of first)) number

pub start-moved : (u : unit.Unit) (first a b f : ℤ) → IsStamp first → IsEarly u first → start_in u first a ≡ Some f → start_in u f b ≡ start_in u first (a +ℤ b)
start-moved u first a b f stamp early e =
    let here = start-is u first a f stamp early e in
    let there : IsStamp f = rw (← here.0) at here.1 in
    line-start u f b there (early-kept u first a f stamp early e)
    ∙ ap stamp_if_any (line-moved u first a b f stamp early e) ∙ sym (line-start u first (a +ℤ b) stamp early)
