use Rattle.ts_session_turns.specs.Hand.{hand}
use Rattle.ts_session_runs.specs.Hall.{IsBehindTurns}
use Rattle.ts_session_runs.proofs.hall.Hall.carry_out_picks.Given as goal

abbrev pub invariant-loop-pick : goal.invariant-loop-pick
invariant-loop-pick g l =
    IsBehindTurns g.S.Volume.tells l.fn.self.scripts.items l.picks l.pick-index l.self.scripts.items (hand l.fn.engine l.fn.self.views l.fn.self.log) (hand l.engine l.self.views l.self.log) (g.S.Volume.device l.fn.site) (g.S.Volume.device l.site)
