use Rattle.std.proofs.Common.{◌≡◌, ◌≤◌, length}
use Rattle.ts_session_scripts.proofs.ScheduleLemmas.{waiting_in}
use Rattle.ts_session_scripts.proofs.schedule.waiting_at.Given as goal

abbrev pub invariant-loop-who : goal.invariant-loop-who
invariant-loop-who l = (l.passed ≡ length (waiting_in l.who l.scripts)) × (l.passed ≤ l.place)
