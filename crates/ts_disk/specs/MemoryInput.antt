-- What a source in memory shows.
use Rattle.std.specs.Prelude.{ℕ, List, [], Bool, false, drop, ◌==◌}
use Rattle.std.specs.List.{list_any}
use Rattle.ts_disk.specs.Device.{Input}
use Rattle.ts_disk.specs.declared.memory_source.MemorySource.{MemorySource}
use Rattle.ts_disk.specs.declared.memory_source.BlankSource.{BlankSource}

-- the bytes that were not moved out yet
abbrev pub source_input : MemorySource → Input
source_input s = record {
  left = drop s.at s.bytes.items;
  pulls = s.pulls;
  pull_faults = s.faults;
  ended = s.ended;
  past_end = s.past_end;
}

-- the most bytes of a pull
abbrev pub piece_of : MemorySource → ℕ
piece_of s = s.piece

-- the next pull is to fail
abbrev pub pull_fails : MemorySource → Bool
pull_fails s = list_any (λ n. n == s.pulls) s.failing.items

-- the numbers of the pulls that are to fail
abbrev pub failing_pulls : MemorySource → List ℕ
failing_pulls s = s.failing.items

-- a source that tells nothing and has no end
abbrev pub blank_input : BlankSource → Input
blank_input s = record { left = []; pulls = s.pulls; pull_faults = 0; ended = false; past_end = false }
