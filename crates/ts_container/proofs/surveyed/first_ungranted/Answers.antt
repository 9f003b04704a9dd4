use Rattle.std.proofs.Common.{arith}
use Rattle.ts_container.proofs.EarlyLemmas.{granted}
use Rattle.ts_container.proofs.surveyed.first_ungranted.Goals as goal

pub returns : goal.returns
returns c = granted c.args.count c.args.defs.now.definitions c.first_astray.result (omega (arith, c.sum_of_quotas.ensures, c.if-sum_of_quotas-count.false)) c.first_astray.ensures
