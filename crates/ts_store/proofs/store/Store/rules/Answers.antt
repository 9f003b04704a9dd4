use Rattle.std.proofs.Common.{subst}
use Rattle.ts_journal.specs.Journal.{IsBatch}
use Rattle.ts_store.specs.OpenBatch.{State}
use Rattle.ts_store.proofs.store.Store.rules.Goals as goal

pub returns : goal.returns
returns c = subst (λ (s : State). IsBatch s.batch) c.self.view_is c.rules.ensures
