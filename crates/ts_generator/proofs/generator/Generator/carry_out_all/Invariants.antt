use Rattle.std.proofs.Common.{◌+◌, ◌-◌, ◌<◌}
use Rattle.ts_generator.proofs.ReachedLemmas.{HasReached}
use Rattle.ts_generator.proofs.generator.Generator.carry_out_all.Given as goal

abbrev pub invariant-loop-number : goal.invariant-loop-number
invariant-loop-number g l = record {
  bound : l.random < 2147483648;
  reached : HasReached g.S.Volume.tells l.count l.seed l.number l.random l.fn.self.engine (g.S.Volume.device l.fn.site) l.self
      (g.S.Volume.device l.site);
}

abbrev pub decreases-loop-number : goal.decreases-loop-number
decreases-loop-number g l = l.count + 8 - l.number
