use Rattle.ts_offset.proofs.OwnLemmas.{held-from, from-held, own-start}
use Rattle.ts_offset.proofs.starts.held_starts_are_starts.Goals as goal

pub returns-clause-held : goal.returns-clause-held
returns-clause-held c = λ plan laid t s stamp. (from-held plan t s, held-from plan t s laid stamp)

pub returns-clause-own : goal.returns-clause-own
returns-clause-own c = λ plan laid s. own-start plan s laid
