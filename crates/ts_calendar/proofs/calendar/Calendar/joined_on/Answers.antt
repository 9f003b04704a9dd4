use Rattle.std.proofs.Common.{◌≡◌, ◌∙◌, ◌-ℤ◌, sym, ap, arith, Some, Ok, rules, FitsSigned, to_z, of_z, to_z-of_z, w64, subst}
use Rattle.std.specs.Int.{int_max}
use Rattle.jiff_core.proofs.SignedLemmas.{signed_casts}
use Rattle.ts_base.specs.Answer.{Answers}
use Rattle.ts_pattern.specs.Patterns.{joined_plan}
use Rattle.ts_calendar.specs.Calendars.{CalendarPlan, IsEarly, start_in, first_step, with_pattern, joined_calendar}
use Rattle.ts_calendar.proofs.HeldLemmas.{start-is}
use Rattle.ts_calendar.proofs.LawLemmas.{first-is}
use Rattle.ts_calendar.proofs.JoinedLemmas.{grid-parts, joined-reaches, with-on}
use Rattle.ts_calendar.proofs.ValidLemmas.{early-kept, grid-reaches, joined-valid, joined-in-time, answers-ok, answers-in-time, join-ok}
use Rattle.ts_calendar.proofs.calendar.Calendar.joined_on.Goals as goal

pub unreachable-requires : goal.unreachable-requires
unreachable-requires c =
    let a = c.args.self.now in
    let b = c.args.other.now in
    let g = c.args.grid in
    let parts = grid-parts a b g c.requires.grid in
    let start_is : c.later-start.result ≡ int_max a.start b.start =
    c.later-start.ensures ∙ ap (λ x. int_max x c.start-2.result) c.start.ensures.value ∙ ap (int_max a.start) c.start-2.ensures.value in
    let first = ap (λ x. first_step g.unit x (int_max a.start b.start)) (sym c.first-first.ensures.value)
    ∙ ap (first_step g.unit c.first-first.result.now) (sym start_is) ∙ sym c.first_step.ensures.value in
    grid-reaches a b g.unit g.steps c.first-first.ensures.laid c.requires.early c.start.ensures.valid c.start-2.ensures.valid parts.1 (first ∙ c.in_default.is)

pub unreachable-requires-in_default-start_in : goal.unreachable-requires-in_default-start_in
unreachable-requires-in_default-start_in c =
    let a = c.args.self.now in
    let b = c.args.other.now in
    let g = c.args.grid in
    let parts = grid-parts a b g c.requires.grid in
    let start_is : c.later-start.result ≡ int_max a.start b.start =
    c.later-start.ensures ∙ ap (λ x. int_max x c.start-2.result) c.start.ensures.value ∙ ap (int_max a.start) c.start-2.ensures.value in
    let first = ap (λ x. first_step g.unit x (int_max a.start b.start)) (sym c.first-first.ensures.value)
    ∙ ap (first_step g.unit c.first-first.result.now) (sym start_is) ∙ sym c.first_step.ensures.value in
    let shift = c.in-Some.shift in
    let fits : FitsSigned w64 shift = search rules in
    let moved = to_z-of_z fits in
    let there = to_z w64 (of_z w64 shift) in
    let is = first-is g.unit a.patt_start (int_max a.start b.start) shift c.first-first.ensures.laid.stamp c.requires.early (first ∙ c.in-Some.is) in
    let some = is.exists_at in
    let none = ap (start_in g.unit a.patt_start) (sym moved) ∙ ap (λ x. start_in g.unit x there) (sym c.first-first.ensures.value) ∙ sym c.start_in.ensures ∙ c.in_default-start_in.is in
    cc

pub joined_at-requires-clause-stamp : goal.joined_at-requires-clause-stamp
joined_at-requires-clause-stamp c =
    let a = c.args.self.now in
    let b = c.args.other.now in
    let g = c.args.grid in
    let parts = grid-parts a b g c.requires.grid in
    let start_is : c.later-start.result ≡ int_max a.start b.start =
    c.later-start.ensures ∙ ap (λ x. int_max x c.start-2.result) c.start.ensures.value ∙ ap (int_max a.start) c.start-2.ensures.value in
    let first = ap (λ x. first_step g.unit x (int_max a.start b.start)) (sym c.first-first.ensures.value)
    ∙ ap (first_step g.unit c.first-first.result.now) (sym start_is) ∙ sym c.first_step.ensures.value in
    let shift = c.in-Some.shift in
    let fits : FitsSigned w64 shift = search rules in
    let moved = to_z-of_z fits in
    let there = to_z w64 (of_z w64 shift) in
    let patt_start = c.in-Some-start_in.patt_start in
    let start : start_in g.unit a.patt_start there ≡ Some patt_start =
    ap (λ x. start_in g.unit x there) (sym c.first-first.ensures.value) ∙ sym c.start_in.ensures ∙ c.in-Some-start_in.is in
    let here = start-is g.unit a.patt_start there patt_start c.first-first.ensures.laid.stamp c.requires.early start in
    rw here.0 here.1

pub joined_at-requires-clause-early : goal.joined_at-requires-clause-early
joined_at-requires-clause-early c = λ u e.
    let a = c.args.self.now in
    let b = c.args.other.now in
    let g = c.args.grid in
    let parts = grid-parts a b g c.requires.grid in
    let start_is : c.later-start.result ≡ int_max a.start b.start =
    c.later-start.ensures ∙ ap (λ x. int_max x c.start-2.result) c.start.ensures.value ∙ ap (int_max a.start) c.start-2.ensures.value in
    let first = ap (λ x. first_step g.unit x (int_max a.start b.start)) (sym c.first-first.ensures.value)
    ∙ ap (first_step g.unit c.first-first.result.now) (sym start_is) ∙ sym c.first_step.ensures.value in
    let shift = c.in-Some.shift in
    let fits : FitsSigned w64 shift = search rules in
    let moved = to_z-of_z fits in
    let there = to_z w64 (of_z w64 shift) in
    let patt_start = c.in-Some-start_in.patt_start in
    let start : start_in g.unit a.patt_start there ≡ Some patt_start =
    ap (λ x. start_in g.unit x there) (sym c.first-first.ensures.value) ∙ sym c.start_in.ensures ∙ c.in-Some-start_in.is in
    let both : Some g.unit ≡ Some u = sym parts.0 ∙ e in
    let same : g.unit ≡ u = cc in
    subst (λ v. IsEarly v patt_start) same (early-kept g.unit a.patt_start there patt_start c.first-first.ensures.laid.stamp c.requires.early start)

pub joined_at-requires-clause-valid : goal.joined_at-requires-clause-valid
joined_at-requires-clause-valid c = λ p e on.
    let a = c.args.self.now in
    let b = c.args.other.now in
    let g = c.args.grid in
    let parts = grid-parts a b g c.requires.grid in
    let start_is : c.later-start.result ≡ int_max a.start b.start =
    c.later-start.ensures ∙ ap (λ x. int_max x c.start-2.result) c.start.ensures.value ∙ ap (int_max a.start) c.start-2.ensures.value in
    let first = ap (λ x. first_step g.unit x (int_max a.start b.start)) (sym c.first-first.ensures.value)
    ∙ ap (first_step g.unit c.first-first.result.now) (sym start_is) ∙ sym c.first_step.ensures.value in
    let shift = c.in-Some.shift in
    let fits : FitsSigned w64 shift = search rules in
    let moved = to_z-of_z fits in
    let there = to_z w64 (of_z w64 shift) in
    let patt_start = c.in-Some-start_in.patt_start in
    let start : start_in g.unit a.patt_start there ≡ Some patt_start =
    ap (λ x. start_in g.unit x there) (sym c.first-first.ensures.value) ∙ sym c.start_in.ensures ∙ c.in-Some-start_in.is in
    let other = to_z w64 (of_z w64 (to_z w64 (of_z w64 shift) -ℤ to_z w64 (of_z w64 g.steps))) in
    let other_is : shift -ℤ g.steps ≡ other = omega (arith, signed_casts, c.in-Some.ensures.near, c.requires.near) in
    let reached = joined-reaches c.args.junction a b g.unit g.steps shift patt_start parts.0 parts.1 (first ∙ c.in-Some.is)
    (ap (start_in g.unit a.patt_start) (sym moved) ∙ start) in
    let j = c.args.junction in
    let plan : joined_plan j a.pattern shift b.pattern (shift -ℤ g.steps) ≡ Ok p =
    ap (λ k. joined_plan j a.pattern k b.pattern (shift -ℤ g.steps)) (sym moved)
    ∙ ap (λ k. joined_plan j a.pattern there b.pattern k) other_is ∙ e in
    let x : CalendarPlan = record { start = c.later-start.result; patt_start = patt_start; pattern = p } in
    joined-valid j a b x c.first-first.ensures.laid.stamp c.first-first.ensures.laid.early
    (reached ∙ ap (λ s. with_pattern s patt_start (joined_plan j a.pattern shift b.pattern (shift -ℤ g.steps))) (sym start_is)
    ∙ with-on c.later-start.result patt_start (joined_plan j a.pattern shift b.pattern (shift -ℤ g.steps)) p plan on)

answer : goal.returns-clause-answer
answer c =
    let a = c.args.self.now in
    let b = c.args.other.now in
    let g = c.args.grid in
    let parts = grid-parts a b g c.requires.grid in
    let start_is : c.later-start.result ≡ int_max a.start b.start =
    c.later-start.ensures ∙ ap (λ x. int_max x c.start-2.result) c.start.ensures.value ∙ ap (int_max a.start) c.start-2.ensures.value in
    let first = ap (λ x. first_step g.unit x (int_max a.start b.start)) (sym c.first-first.ensures.value)
    ∙ ap (first_step g.unit c.first-first.result.now) (sym start_is) ∙ sym c.first_step.ensures.value in
    let shift = c.in-Some.shift in
    let fits : FitsSigned w64 shift = search rules in
    let moved = to_z-of_z fits in
    let there = to_z w64 (of_z w64 shift) in
    let patt_start = c.in-Some-start_in.patt_start in
    let start : start_in g.unit a.patt_start there ≡ Some patt_start =
    ap (λ x. start_in g.unit x there) (sym c.first-first.ensures.value) ∙ sym c.start_in.ensures ∙ c.in-Some-start_in.is in
    let other = to_z w64 (of_z w64 (to_z w64 (of_z w64 shift) -ℤ to_z w64 (of_z w64 g.steps))) in
    let other_is : shift -ℤ g.steps ≡ other = omega (arith, signed_casts, c.in-Some.ensures.near, c.requires.near) in
    let reached = joined-reaches c.args.junction a b g.unit g.steps shift patt_start parts.0 parts.1 (first ∙ c.in-Some.is)
    (ap (start_in g.unit a.patt_start) (sym moved) ∙ start) in
    let j = c.args.junction in
    let whole = reached ∙ ap (λ s. with_pattern s patt_start (joined_plan j a.pattern shift b.pattern (shift -ℤ g.steps))) (sym start_is)
    ∙ ap (λ k. with_pattern c.later-start.result patt_start (joined_plan j a.pattern k b.pattern (shift -ℤ g.steps))) (sym moved)
    ∙ ap (λ k. with_pattern c.later-start.result patt_start (joined_plan j a.pattern there b.pattern k)) other_is in
    subst (λ x. Answers {A = CalendarPlan} x c.joined_at.result) (sym whole) c.joined_at.ensures.answer

pub returns-clause-answer : goal.returns-clause-answer
returns-clause-answer c = answer c

pub returns-clause-join : goal.returns-clause-join
returns-clause-join c =
    let a = c.args.self.now in
    let b = c.args.other.now in
    let g = c.args.grid in
    let parts = grid-parts a b g c.requires.grid in
    let start_is : c.later-start.result ≡ int_max a.start b.start =
    c.later-start.ensures ∙ ap (λ x. int_max x c.start-2.result) c.start.ensures.value ∙ ap (int_max a.start) c.start-2.ensures.value in
    let first = ap (λ x. first_step g.unit x (int_max a.start b.start)) (sym c.first-first.ensures.value)
    ∙ ap (first_step g.unit c.first-first.result.now) (sym start_is) ∙ sym c.first_step.ensures.value in
    let shift = c.in-Some.shift in
    let fits : FitsSigned w64 shift = search rules in
    let moved = to_z-of_z fits in
    let there = to_z w64 (of_z w64 shift) in
    let patt_start = c.in-Some-start_in.patt_start in
    let start : start_in g.unit a.patt_start there ≡ Some patt_start =
    ap (λ x. start_in g.unit x there) (sym c.first-first.ensures.value) ∙ sym c.start_in.ensures ∙ c.in-Some-start_in.is in
    let other = to_z w64 (of_z w64 (to_z w64 (of_z w64 shift) -ℤ to_z w64 (of_z w64 g.steps))) in
    let other_is : other ≡ there -ℤ g.steps = omega (arith, signed_casts, c.in-Some.ensures.near, c.requires.near) in
    let e = c.joined_at.ensures in
    join-ok c.args.junction a b g.unit g.steps there other patt_start c.later-start.result c.first-first.ensures.laid c.requires.early parts.0 parts.1 start start_is other_is
    c.joined_at.result e.parts e.unit e.flags e.length

pub returns-clause-valid : goal.returns-clause-valid
returns-clause-valid c =
    let a = c.args.self.now in
    let b = c.args.other.now in
    answers-ok (joined_calendar c.args.junction a b) c.joined_at.result (answer c)
    (λ x e. joined-valid c.args.junction a b x c.first-first.ensures.laid.stamp c.first-first.ensures.laid.early e)

pub returns-clause-in_time : goal.returns-clause-in_time
returns-clause-in_time c =
    let a = c.args.self.now in
    let b = c.args.other.now in
    answers-in-time (joined_calendar c.args.junction a b) c.joined_at.result (answer c)
    (joined-in-time c.args.junction a b c.first-first.ensures.laid c.start.ensures.valid c.start-2.ensures.valid)
