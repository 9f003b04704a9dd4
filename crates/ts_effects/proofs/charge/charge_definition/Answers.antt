-- No charge depends on the definition.
use Rattle.std.proofs.Common.{sym, subst}
use Rattle.ts_model.specs.Definitions.{Definitions}
use Rattle.ts_container.specs.KeptCharges.{AreCharges}
use Rattle.ts_effects.proofs.RedefinedLemmas.{charges_stay_with}
use Rattle.ts_effects.proofs.charge.charge_definition.Goals as goal

pub returns-then-is_never_charged : goal.returns-then-is_never_charged
returns-then-is_never_charged c d def is are =
    let never = c.is_never_charged.ensures c.if-is_never_charged.true in
    subst (λ (x : Definitions). AreCharges c.args.charges.now x c.args.space.now) (sym is)
    (charges_stay_with c.args.kind d c.args.space.now c.args.slot def c.args.charges.now never are)
