use Rattle.std.proofs.Common.{arith}
use Rattle.ts_dump.proofs.ListedLemmas.{none_past}
use Rattle.ts_dump.proofs.definitions.def_in.Goals as goal

pub returns-then-slot-limit : goal.returns-then-slot-limit
returns-then-slot-limit c =
    none_past c.args.kind c.args.slot c.args.defs.now.definitions c.requires.rules (omega (arith, c.if-slot-limit.true, c.limit.ensures))
