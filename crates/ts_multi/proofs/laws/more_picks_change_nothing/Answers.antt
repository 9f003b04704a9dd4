use Rattle.ts_multi.proofs.ScheduleLemmas.{order-append}
use Rattle.ts_multi.proofs.laws.more_picks_change_nothing.Goals as goal

pub returns : goal.returns
returns g c = λ left picks more enough. order-append left picks more enough
