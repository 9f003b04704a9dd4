use Rattle.std.proofs.Common.{◌+◌, ◌≤◌, ◌^◌, length, arith}
use Rattle.ts_journal.proofs.BatchLemmas.{length_rising}
use Rattle.ts_store.proofs.store.Store.changes.Goals as goal

pub overflow_add-result : goal.overflow_add-result
overflow_add-result c =
    let t = length_rising c.self.inside.transaction.entries 0 (2 ^ 32) c.self.invariant.transaction_sound.rising in
    let b = length_rising c.self.inside.batch.entries 0 (2 ^ 32) c.self.invariant.batch_sound.rising in
    omega (arith, t, b)
