use Rattle.std.proofs.Common.{◌<◌, length, sym, arith, subst}
use Rattle.ts_space.specs.Place.{IsRising}
use Rattle.ts_space.proofs.DirectoryLemmas.{old_rising}
use Rattle.ts_space.proofs.space.Space.places.Goals as goal

pub returns-then-slot-len-clause-rising : goal.returns-then-slot-len-clause-rising
returns-then-slot-len-clause-rising c =
    let vs = c.self.inside.lists.items in
    let within : c.args.series < length vs = omega (arith, c.if-slot-len.true, c.len.ensures, c.self.inside.lists.ok.0) in
    subst IsRising (sym c.deref.ensures.value) (old_rising vs c.args.series c.self.inside.used c.index.result.now c.self.invariant.directory within c.index.ensures)
