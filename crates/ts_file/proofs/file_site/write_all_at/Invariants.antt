use Rattle.std.proofs.Common.{length, ◌-◌, ◌≤◌}
use Rattle.ts_file.proofs.file_site.write_all_at.Given as goal

abbrev pub invariant-loop-done : goal.invariant-loop-done
invariant-loop-done l = l.done ≤ length l.from

abbrev pub decreases-loop-done : goal.decreases-loop-done
decreases-loop-done l = length l.from - l.done
