use Rattle.std.proofs.Common.{arith}
use Rattle.std.proofs.lemmas.Grind.{common_steps}
use Rattle.ts_multi.proofs.ObjectLemmas.{meets-written}
use Rattle.ts_multi.proofs.commit.Commit.meets.Goals as goal

pub returns-in-Transaction : goal.returns-in-Transaction
returns-in-Transaction c =
    let flat = meets-written c.in-Transaction.commands.items c.args.noted.now in
    grind (arith, common_steps)
