use Rattle.std.proofs.Common.{◌^◌, List, refl, sym, ◌∙◌, ap, subst}
use Rattle.ts_journal.specs.Journal.{Entry, over, put_all}
use Rattle.ts_journal.proofs.OverLemmas.{over_all}
use Rattle.ts_model.specs.Definitions.{Definitions}
use Rattle.ts_answer.specs.CarriedOut.{CanApply, definitions_after, lists_after}
use Rattle.ts_effects.proofs.CallerLemmas.{can_charge_then}
use Rattle.ts_session_engine.proofs.view.keep_effect.Goals as goal

pub apply-requires-clause-can : goal.apply-requires-clause-can
apply-requires-clause-can c = subst (λ (d : Definitions). CanApply c.args.effect d) (sym c.in_ok-reserve_for.ensures.definitions) c.requires.can

pub apply-requires-clause-charge : goal.apply-requires-clause-charge
apply-requires-clause-charge c =
    let x = c.args.view.now in
    let room = c.in_ok-reserve_for.ensures in
    can_charge_then c.args.effect c.args.charges c.args.charges x.defs.definitions c.reserve_for.new.defs.definitions x.space c.reserve_for.new.space c.requires.charge room.definitions room.lists refl

pub returns-clause-ok : goal.returns-clause-ok
returns-clause-ok c =
    let x = c.args.view.now in
    let room = c.in_ok-reserve_for.ensures in
    record {
      definitions = c.apply.ensures.definitions ∙ ap (definitions_after c.args.effect) room.definitions;
      lists = c.apply.ensures.lists ∙ ap (lists_after c.args.effect) room.lists;
      own = λ pages number.
          ap (λ (es : List Entry). over es pages number) (c.absorb.ensures.ok ∙ ap (λ (es : List Entry). put_all es c.args.changes.entries) c.in_ok-reserve.ensures.others)
          ∙ over_all x.own.entries c.args.changes.entries 0 (2 ^ 32) pages number c.rules.ensures.rising;
      old = refl;
      free = refl;
    }
