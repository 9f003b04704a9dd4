use Rattle.ts_running.proofs.WindowLemmas.{kept_small}
use Rattle.ts_running.proofs.running.Running.sum.Goals as goal

pub returns-else-self-eq0-clause-small : goal.returns-else-self-eq0-clause-small
returns-else-self-eq0-clause-small c =
    let old = c.self.inside in
    rw (← c.self.view_is) (kept_small old.values.capacity old.values.items old.total c.self.invariant.0 c.self.invariant.1)
