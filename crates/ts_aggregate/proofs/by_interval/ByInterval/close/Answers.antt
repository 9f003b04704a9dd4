use Rattle.std.proofs.Common.{[], Vec, Global, arith, sym, ap, subst, ◌∙◌}
use Rattle.ts_row.specs.declared.value.Value.{Value}
use Rattle.ts_row.specs.Row.{visible}
use Rattle.ts_aggregate.specs.Fold.{Fold, HasTaken}
use Rattle.ts_aggregate.specs.Groups.{grouping}
use Rattle.ts_aggregate.proofs.StepLemmas.{closed_none, closed_some}
use Rattle.ts_aggregate.proofs.by_interval.ByInterval.close.Goals as goal

pub returns-in_default-clause-closed : goal.returns-in_default-clause-closed
returns-in_default-clause-closed g c =
    let v = c.args.self.now in
    closed_none g.V.ElementVisitor.took g.met.V.ElementVisitor.none
    (grouping v.wanted.now v.reached.span v.folding.now v.count) v.out.now c.in_default.is

pub returns-clause-closed : goal.returns-clause-closed
returns-clause-closed g c =
    let v = c.args.self.now in
    let w = c.hand_on.new.self in
    let fold = c.in_ok-finish_in.ensures in
    let on = c.hand_on.ensures in
    closed_some g.V.ElementVisitor.took (grouping v.wanted.now v.reached.span v.folding.now v.count)
    (grouping w.wanted.now w.reached.span w.folding.now w.count) v.out.now w.out.now
    c.in-Some.start c.of-row.result c.in-Some.is on.wanted (ap (λ (f : Fold). f.binding) on.fold ∙ fold.same)
    (λ rows taken few. c.of-row.ensures ∙ ap visible (ap (λ (l : Vec Value Global). l.items) c.replace.ensures.value) ∙ fold.made rows taken few)
    (subst (λ (f : Fold). HasTaken f []) (sym on.fold) fold.none)
    (λ few. omega (arith, few, on.count)) on.more c.in_ok-hand_on.ensures.taken
