use Rattle.std.proofs.Common.{refl}
use Rattle.ts_row.proofs.AgainLemmas.{value-again, row-again}
use Rattle.ts_row.proofs.laws.printed_values_fit_again.Goals as goal

pub returns-clause-value : goal.returns-clause-value
returns-clause-value c = value-again

pub returns-clause-row : goal.returns-clause-row
returns-clause-row c = row-again

pub returns-clause-mark : goal.returns-clause-mark
returns-clause-mark c = λ columns row hidden. refl
