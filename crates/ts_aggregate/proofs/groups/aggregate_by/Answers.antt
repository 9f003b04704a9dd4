use Rattle.std.proofs.Common.{◌≡◌, ℤ, ◌<ℤ◌, Some, subst, ◌∙◌, arith}
use Rattle.ts_base.specs.Moment.{IsStamp}
use Rattle.ts_space.specs.Place.{IsRising}
use Rattle.ts_offset.specs.Grid.{held_start}
use Rattle.ts_aggregate.specs.Groups.{WantedPlan, grouping}
use Rattle.ts_aggregate.proofs.ToldLemmas.{given_told}
use Rattle.ts_aggregate.proofs.HandedLemmas.{few_handed, many_handed}
use Rattle.ts_aggregate.proofs.groups.aggregate_by.Goals as goal

pub returns-then-count-gt-MOST_ROWS-clause-read : goal.returns-then-count-gt-MOST_ROWS-clause-read
returns-then-count-gt-MOST_ROWS-clause-read g c = λ told es have own empty.
    let v = c.new-groups.result in
    let w = c.rows.new.visitor in
    let u = c.end.new.self in
    let wanted : WantedPlan = record { calendar = c.args.calendar.now; from = c.args.from; to = c.args.to } in
    let last : ℤ = c.last-last.result in
    let made : c.new-wanted.result ≡ wanted = c.new-wanted.ensures in
    let given = given_told c.args.shape.now _ _ _ _ es c.requires.laid
    (subst IsRising c.places-places.ensures.ok c.places-places.ensures.rising) c.requires.countable have in
    many_handed g.V.ElementVisitor.took g.met.V.ElementVisitor.then c.args.shelf.now.kind.now.columns wanted
    c.args.folding.now c.args.visitor.now _
    _ v.out.ghost_name w.out.ghost_name u.out.ghost_name last
    (subst (λ (a : WantedPlan). (t s : ℤ) → IsStamp t → last <ℤ t → held_start a.calendar t ≡ Some s → a.to <ℤ s) made c.last-last.ensures)
    (grouping v.wanted.now v.reached.span v.folding.now v.count) (grouping w.wanted.now w.reached.span w.folding.now w.count)
    (grouping u.wanted.now u.reached.span u.folding.now u.count)
    v.out.now w.out.now u.out.now es c.new-groups.ensures.same c.new-groups.ensures.none
    (c.new-groups.ensures.wanted ∙ made) c.new-groups.ensures.fold c.new-groups.ensures.start
    (c.new-groups.ensures.stands empty) (c.in_ok-rows.ensures.read told es have) c.in_ok-count.ensures.same
    c.in_ok-count.ensures.closed (assumption) given own
    c.in_ok-count.count c.in_ok-count.ensures.count (omega (arith, c.if-count-gt-MOST_ROWS.true))

pub returns-clause-read : goal.returns-clause-read
returns-clause-read g c = λ told es have own empty.
    let v = c.new-groups.result in
    let w = c.rows.new.visitor in
    let u = c.end.new.self in
    let wanted : WantedPlan = record { calendar = c.args.calendar.now; from = c.args.from; to = c.args.to } in
    let last : ℤ = c.last-last.result in
    let made : c.new-wanted.result ≡ wanted = c.new-wanted.ensures in
    let given = given_told c.args.shape.now _ _ _ _ es c.requires.laid
    (subst IsRising c.places-places.ensures.ok c.places-places.ensures.rising) c.requires.countable have in
    few_handed g.V.ElementVisitor.took g.met.V.ElementVisitor.then c.args.shelf.now.kind.now.columns wanted
    c.args.folding.now c.args.visitor.now _
    _ v.out.ghost_name w.out.ghost_name u.out.ghost_name last
    (subst (λ (a : WantedPlan). (t s : ℤ) → IsStamp t → last <ℤ t → held_start a.calendar t ≡ Some s → a.to <ℤ s) made c.last-last.ensures)
    (grouping v.wanted.now v.reached.span v.folding.now v.count) (grouping w.wanted.now w.reached.span w.folding.now w.count)
    (grouping u.wanted.now u.reached.span u.folding.now u.count)
    v.out.now w.out.now u.out.now es c.new-groups.ensures.same c.new-groups.ensures.none
    (c.new-groups.ensures.wanted ∙ made) c.new-groups.ensures.fold c.new-groups.ensures.start
    (c.new-groups.ensures.stands empty) (c.in_ok-rows.ensures.read told es have) c.in_ok-count.ensures.same
    c.in_ok-count.ensures.closed (assumption) given own
    c.in_ok-count.count c.in_ok-count.ensures.count (omega (arith, c.if-count-gt-MOST_ROWS.false))
