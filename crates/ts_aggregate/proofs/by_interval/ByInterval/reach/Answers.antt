use Rattle.std.proofs.Common.{subst}
use Rattle.ts_base.specs.Moment.{IsStamp}
use Rattle.ts_aggregate.specs.Groups.{grouping}
use Rattle.ts_aggregate.proofs.StepLemmas.{ready_on, ready_turned}
use Rattle.ts_aggregate.proofs.by_interval.ByInterval.reach.Goals as goal

pub returns-then-is_before-clause-ready : goal.returns-then-is_before-clause-ready
returns-then-is_before-clause-ready g c =
    let v = c.args.self.now in
    ready_on g.V.ElementVisitor.took g.met.V.ElementVisitor.none (grouping v.wanted.now v.reached.span v.folding.now v.count) v.out.now c.args.stamp
    (c.is_before.ensures.0 c.if-is_before.true)

pub returns-clause-ready : goal.returns-clause-ready
returns-clause-ready g c =
    let v = c.args.self.now in
    let u = c.close.new.self in
    ready_turned g.V.ElementVisitor.took (grouping v.wanted.now v.reached.span v.folding.now v.count)
    (grouping u.wanted.now u.reached.span u.folding.now u.count) c.reach-self.result.span
    v.out.now u.out.now c.args.stamp (subst IsStamp c.units-stamp.ensures.value c.units-stamp.ensures.within)
    (λ before. let yes_ = c.is_before.ensures.1 before in let no_ = c.if-is_before.false in absurd (cc))
    c.in_ok-close.ensures.closed c.reach-self.ensures.span
