use Rattle.std.proofs.Common.{arith}
use Rattle.ts_say.proofs.PowersLemmas.{power_at}
use Rattle.ts_say.proofs.say_numbers.short_power.Goals as goal

pub returns : goal.returns
returns c = power_at c.args.scale (omega arith)
