use Rattle.std.proofs.Common.{subst, refl, arith}
use Rattle.ts_space.specs.Place.{IsRising}
use Rattle.ts_aggregate.proofs.ToldLemmas.{given_told}
use Rattle.ts_running_rows.specs.Application.{applier}
use Rattle.ts_running_rows.proofs.HandLemmas.{few_applied, overflow_applied, many_applied}
use Rattle.ts_running_rows.proofs.applied.applied_rows.Goals as goal

pub returns-then-count-gt-MOST_ROWS-clause-read : goal.returns-then-count-gt-MOST_ROWS-clause-read
returns-then-count-gt-MOST_ROWS-clause-read g c = λ told es have.
    let v = c.new-rows.result in
    let w = c.elements.new.visitor in
    let given = given_told c.args.shape.now _ _ _ _ es c.requires.laid
    (subst IsRising c.places-places.ensures.ok c.places-places.ensures.rising) c.requires.countable have in
    many_applied g.V.NumbersVisitor.took c.args.exprs.now c.args.visitor.now _ _ v.out.ghost_name w.out.ghost_name
    (applier v.exprs.now v.count v.overflowed) (applier w.exprs.now w.count w.overflowed) v.out.now w.out.now c.args.from c.args.to es
    c.new-rows.ensures.same c.new-rows.ensures.none c.new-rows.ensures.state (c.in_ok-elements.ensures.read told es have) (assumption)
    given.few w.count refl (omega (arith, c.if-count-gt-MOST_ROWS.true))

pub returns-then-rows-clause-read : goal.returns-then-rows-clause-read
returns-then-rows-clause-read g c = λ told es have.
    let v = c.new-rows.result in
    let w = c.elements.new.visitor in
    let given = given_told c.args.shape.now _ _ _ _ es c.requires.laid
    (subst IsRising c.places-places.ensures.ok c.places-places.ensures.rising) c.requires.countable have in
    overflow_applied g.V.NumbersVisitor.took c.args.exprs.now c.args.visitor.now _ _ v.out.ghost_name w.out.ghost_name
    (applier v.exprs.now v.count v.overflowed) (applier w.exprs.now w.count w.overflowed) v.out.now w.out.now c.args.from c.args.to es
    c.new-rows.ensures.same c.new-rows.ensures.none c.new-rows.ensures.state (c.in_ok-elements.ensures.read told es have) (assumption)
    given.few (omega (arith, c.if-count-gt-MOST_ROWS.false)) c.if-rows.true

pub returns-clause-read : goal.returns-clause-read
returns-clause-read g c = λ told es have.
    let v = c.new-rows.result in
    let w = c.elements.new.visitor in
    let given = given_told c.args.shape.now _ _ _ _ es c.requires.laid
    (subst IsRising c.places-places.ensures.ok c.places-places.ensures.rising) c.requires.countable have in
    few_applied g.V.NumbersVisitor.took c.args.exprs.now c.args.visitor.now _ _ v.out.ghost_name w.out.ghost_name
    (applier v.exprs.now v.count v.overflowed) (applier w.exprs.now w.count w.overflowed) v.out.now w.out.now c.args.from c.args.to es
    c.new-rows.ensures.same c.new-rows.ensures.none c.new-rows.ensures.state (c.in_ok-elements.ensures.read told es have) (assumption)
    given.few w.count refl (omega (arith, c.if-count-gt-MOST_ROWS.false)) c.if-rows.false
