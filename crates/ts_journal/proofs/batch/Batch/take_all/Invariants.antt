use Rattle.std.proofs.Common.{◌≡◌, ◌+◌, ◌≤◌, take}
use Rattle.ts_journal.specs.Journal.{put_all}
use Rattle.ts_journal.proofs.JoinedLemmas.{IsLeft}
use Rattle.ts_journal.proofs.batch.Batch.take_all.Given as goal

abbrev pub invariant-loop-place : goal.invariant-loop-place
invariant-loop-place l = record {
  numbers : l.other-inside.numbers ≡ l.initial.other-inside.numbers;
  left : IsLeft l.place l.other-inside.images.entries l.other-inside.numbers.entries l.fn.other.entries;
  taken : l.self.entries ≡ put_all l.fn.self.entries (take l.place l.fn.other.entries);
  spare : l.fn.self.spare ≤ l.self.spare + l.place;
  image_spare : l.fn.self.image_spare ≤ l.self.image_spare + l.place;
  kept_images : l.fn.other.image_spare ≤ l.other-inside.images.spare;
}
