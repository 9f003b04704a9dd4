use Rattle.ts_offset.proofs.ListedLemmas.{listed-start, start-listed, listed-rise}
use Rattle.ts_offset.proofs.starts.on_starts_are_listed.Goals as goal

pub returns-clause-whole : goal.returns-clause-whole
returns-clause-whole c = λ plan laid s. (listed-start plan s laid, λ w. start-listed plan s w.0 w.1)

pub returns-clause-rising : goal.returns-clause-rising
returns-clause-rising c = λ plan laid m n s t. listed-rise plan m n s t laid
