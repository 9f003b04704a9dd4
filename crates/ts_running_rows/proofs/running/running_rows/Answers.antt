use Rattle.std.proofs.Common.{subst, refl, arith}
use Rattle.ts_space.specs.Place.{IsRising}
use Rattle.ts_aggregate.proofs.ToldLemmas.{given_told}
use Rattle.ts_running_rows.specs.Run.{runner}
use Rattle.ts_running_rows.proofs.HandLemmas.{few_running, many_running}
use Rattle.ts_running_rows.proofs.running.running_rows.Goals as goal

pub returns-then-count-gt-MOST_ROWS-clause-read : goal.returns-then-count-gt-MOST_ROWS-clause-read
returns-then-count-gt-MOST_ROWS-clause-read g c = λ told es have.
    let v = c.new-rows.result in
    let w = c.elements.new.visitor in
    let given = given_told c.args.shape.now _ _ _ _ es c.requires.laid
    (subst IsRising c.places-places.ensures.ok c.places-places.ensures.rising) c.requires.countable have in
    many_running g.V.NumbersVisitor.took c.args.window c.args.item c.requires.begins c.args.visitor.now _ _ v.out.ghost_name w.out.ghost_name
    (runner v.window.now v.item v.count) (runner w.window.now w.item w.count) v.out.now w.out.now c.args.from c.args.to es
    c.new-rows.ensures.same c.new-rows.ensures.none c.new-rows.ensures.state (c.in_ok-elements.ensures.read told es have) (assumption)
    given.few w.count refl (omega (arith, c.if-count-gt-MOST_ROWS.true))

pub returns-clause-read : goal.returns-clause-read
returns-clause-read g c = λ told es have.
    let v = c.new-rows.result in
    let w = c.elements.new.visitor in
    let given = given_told c.args.shape.now _ _ _ _ es c.requires.laid
    (subst IsRising c.places-places.ensures.ok c.places-places.ensures.rising) c.requires.countable have in
    few_running g.V.NumbersVisitor.took c.args.window c.args.item c.requires.begins c.args.visitor.now _ _ v.out.ghost_name w.out.ghost_name
    (runner v.window.now v.item v.count) (runner w.window.now w.item w.count) v.out.now w.out.now c.args.from c.args.to es
    c.new-rows.ensures.same c.new-rows.ensures.none c.new-rows.ensures.state (c.in_ok-elements.ensures.read told es have) (assumption)
    given.few w.count refl (omega (arith, c.if-count-gt-MOST_ROWS.false))
