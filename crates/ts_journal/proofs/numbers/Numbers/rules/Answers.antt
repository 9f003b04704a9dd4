use Rattle.std.proofs.Common.{subst}
use Rattle.ts_journal.specs.Journal.{IsBatch}
use Rattle.ts_journal.specs.Stored.{Listed}
use Rattle.ts_journal.proofs.StoredLemmas.{numbers_batch}
use Rattle.ts_journal.proofs.numbers.Numbers.rules.Goals as goal

pub returns : goal.returns
returns c = subst (λ (b : Listed). IsBatch b.entries) c.self.view_is (numbers_batch c.self.inside.items.items c.self.invariant)
