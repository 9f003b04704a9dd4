use Rattle.std.proofs.Common.{subst}
use Rattle.ts_journal.specs.Journal.{Entries, IsBatch}
use Rattle.ts_journal.proofs.JoinedLemmas.{joined_batch}
use Rattle.ts_journal.proofs.batch.Batch.rules.Goals as goal

pub returns : goal.returns
returns c =
    subst (λ (b : Entries). IsBatch b.entries) c.self.view_is (joined_batch c.self.inside.images.entries c.self.inside.numbers.entries c.rules-2.ensures c.rules.ensures)
