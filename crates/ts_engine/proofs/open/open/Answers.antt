use Rattle.std.proofs.Common.{refl, ◌∙◌}
use Rattle.ts_store.proofs.CallerLemmas.{reads_none, reads_then}
use Rattle.ts_container.specs.declared.fault.SurveyFault.TheVariants.{Memory}
use Rattle.ts_engine.proofs.OpenLemmas.{refused, opened_after, fault_after, opened_err}
use Rattle.ts_engine.proofs.open.open.Goals as goal

pub returns-in_err-charges : goal.returns-in_err-charges
returns-in_err-charges g c =
    let tells = g.V.Volume.tells in
    let v = g.V.Volume.device c.args.vol.now in
    record {
      opened = opened_err tells c.from_residual.result (Memory c.in_err-charges.field-0.0) v v c.from_residual.ensures.1
          (refused tells (Memory c.in_err-charges.field-0.0) v v c.requires.settled (reads_none tells v (g.met.V.Volume.lawful c.args.vol.now)) refl);
    }

pub returns-in_err-store : goal.returns-in_err-store
returns-in_err-store g c =
    let tells = g.V.Volume.tells in
    let v = g.V.Volume.device c.args.vol.now in
    let w = g.V.Volume.device c.read_journal.new.vol in
    record {
      opened = opened_err tells c.from_residual-in_err-store.result c.in_err-store.field-0.0 v w c.from_residual-in_err-store.ensures.1
          (refused tells c.in_err-store.field-0.0 v w c.requires.settled c.read_journal.ensures.others c.in_err-store.ensures.fault);
    }

pub returns-in_err-surveyed : goal.returns-in_err-surveyed
returns-in_err-surveyed g c =
    let tells = g.V.Volume.tells in
    let v = g.V.Volume.device c.args.vol.now in
    let x = g.V.Volume.device c.read_journal.new.vol in
    let w = g.V.Volume.device c.survey_over.new.vol in
    record {
      opened = opened_err tells c.from_residual-in_err-surveyed.result c.in_err-surveyed.field-0.0 v w c.from_residual-in_err-surveyed.ensures.1
          (refused tells c.in_err-surveyed.field-0.0 v w c.requires.settled (reads_then tells v x w c.read_journal.ensures.others c.survey_over.ensures.others)
          (fault_after tells c.in_err-surveyed.field-0.0 v x w c.read_journal.ensures.others c.in_ok-store.ensures.no_fault c.in_err-surveyed.ensures.fault));
    }

pub returns-in_err-hidden : goal.returns-in_err-hidden
returns-in_err-hidden g c =
    let tells = g.V.Volume.tells in
    let v = g.V.Volume.device c.args.vol.now in
    let x = g.V.Volume.device c.read_journal.new.vol in
    let w = g.V.Volume.device c.survey_over.new.vol in
    record {
      opened = opened_err tells c.from_residual-in_err-hidden.result (Memory c.in_err-hidden.field-0.0) v w c.from_residual-in_err-hidden.ensures.1
          (refused tells (Memory c.in_err-hidden.field-0.0) v w c.requires.settled (reads_then tells v x w c.read_journal.ensures.others c.survey_over.ensures.others)
          (c.in_ok-surveyed.ensures.no_fault ∙ c.in_ok-store.ensures.no_fault));
    }

pub returns : goal.returns
returns g c =
    let tells = g.V.Volume.tells in
    let v = g.V.Volume.device c.args.vol.now in
    let x = g.V.Volume.device c.read_journal.new.vol in
    let y = g.V.Volume.device c.survey_over.new.vol in
    let w = g.V.Volume.device c.settle.new.vol in
    record {
      opened = opened_after tells c.settle.result v y w c.requires.settled (reads_then tells v x y c.read_journal.ensures.others c.survey_over.ensures.others) (c.in_ok-surveyed.ensures.no_fault ∙ c.in_ok-store.ensures.no_fault) c.settle.ensures.opened;
    }
