use Rattle.ts_sheets.proofs.StartLemmas.{stamps_rise}
use Rattle.ts_sheets.proofs.laws.starts_rise.Goals as goal

pub returns : goal.returns
returns c g m n s t laid = stamps_rise g laid m n s t
