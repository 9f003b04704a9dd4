use Rattle.std.proofs.Common.{refl}
use Rattle.ts_chain.proofs.InsertLemmas.{holder_target, first_target}
use Rattle.ts_chain.proofs.insert.target.Goals as goal

pub returns-in-Some : goal.returns-in-Some
returns-in-Some c = holder_target c.args.stamp c.args.places.now c.in-Some.index (c.in-Some.ensures.some)

pub returns-in-None : goal.returns-in-None
returns-in-None c = first_target c.args.stamp c.args.places.now c.requires.some (c.in-None.ensures.none refl)
