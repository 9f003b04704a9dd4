use Rattle.ts_rolling_sets.proofs.ControlLemmas.{row_fits, row_misfits}
use Rattle.ts_rolling_sets.proofs.plan.fit.Goals as goal

pub returns-in_err-row_of : goal.returns-in_err-row_of
returns-in_err-row_of c =
    row_misfits c.args.kind.now.columns c.as_slice.result.now c.args.values.now c.as_slice.ensures c.from_residual.result c.in_err-row_of.field-0.0 c.from_residual.ensures.1 c.in_err-row_of.ensures.cause

pub returns : goal.returns
returns c = row_fits c.args.kind.now.columns c.as_slice.result.now c.args.values.now c.as_slice.ensures c.in_ok-row_of.field-0 c.in_ok-row_of.ensures.ok
