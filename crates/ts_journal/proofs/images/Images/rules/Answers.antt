use Rattle.std.proofs.Common.{subst}
use Rattle.ts_journal.specs.Journal.{IsBatch}
use Rattle.ts_journal.specs.Stored.{Listed}
use Rattle.ts_journal.proofs.images.Images.rules.Goals as goal

pub returns : goal.returns
returns c = subst (λ (b : Listed). IsBatch b.entries) c.self.view_is c.self.invariant
