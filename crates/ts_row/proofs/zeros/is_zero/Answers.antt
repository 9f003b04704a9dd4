use Rattle.ts_row.proofs.ValueBytesLemmas.{zeros_told}
use Rattle.ts_row.proofs.zeros.is_zero.Goals as goal

pub returns-clause-zeros : goal.returns-clause-zeros
returns-clause-zeros c = zeros_told c.args.bytes.now _ c.greatest.ensures
