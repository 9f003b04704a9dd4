use Rattle.std.proofs.Common.{sym}
use Rattle.ts_answer.proofs.CallerLemmas.{name_wanted, name_unknown}
use Rattle.ts_define.proofs.slots.filled_slot.Goals as goal

pub returns-in-Some-clause-tried : goal.returns-in-Some-clause-tried
returns-in-Some-clause-tried c count l by =
    name_wanted c.args.kind c.args.defs.now.definitions count l by c.args.name.now c.in-Some.slot (record { within = c.in-Some.ensures.within; is = sym c.in-Some.ensures.value })

pub returns-in-None-clause-tried : goal.returns-in-None-clause-tried
returns-in-None-clause-tried c count l by = name_unknown c.args.kind c.args.defs.now.definitions count l by c.args.name.now (sym c.in-None.ensures.value)
