use Rattle.ts_running.proofs.PlaceLemmas.{running_made}
use Rattle.ts_running.proofs.laws.a_window_makes_the_running_value.Goals as goal

pub returns : goal.returns
returns c = running_made
