use Rattle.std.proofs.Common.{◌≢◌, ◌<◌, []}
use Rattle.ts_journal.specs.Journal.{AreAllowed}
use Rattle.ts_journal_vectors.proofs.long_record.many.Given as goal

abbrev pub invariant-loop-no : goal.invariant-loop-no
invariant-loop-no l = record {
  allowed : AreAllowed l.end l.batch.entries;
  some : 930 < l.no → l.batch.entries ≢ [];
}
