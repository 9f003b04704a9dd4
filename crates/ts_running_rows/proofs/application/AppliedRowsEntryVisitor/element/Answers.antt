-- One more element was taken.
use Rattle.std.proofs.Common.{arith}
use Rattle.std.proofs.lemmas.Result.{on_ok_weaker}
use Rattle.ts_running_rows.specs.Application.{applier}
use Rattle.ts_running_rows.proofs.MadeLemmas.{applies_one}
use Rattle.ts_running_rows.proofs.application.AppliedRowsEntryVisitor.element.Goals as goal

pub returns : goal.returns
returns g c =
    let v = c.args.self.now in
    let w = c.apply.new.self in
    record {
      took = on_ok_weaker c.apply.result
          (λ taken r seen. (
            c.apply.ensures.same,
            applies_one g.V.NumbersVisitor.took (applier v.exprs.now v.count v.overflowed) (applier w.exprs.now w.count w.overflowed)
                v.out.now w.out.now (c.args.stamp, r) c.apply.ensures.exprs
                (omega (arith, c.apply.ensures.count, c.saturating_add-self.ensures))
                (λ few. omega (arith, few, c.apply.ensures.count, c.saturating_add-self.ensures))
                c.if-self.false (taken r (c.in_ok-numbers_in.ensures r seen)),
          )) c.apply.ensures.taken;
    }
