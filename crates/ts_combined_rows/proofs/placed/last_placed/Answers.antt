use Rattle.std.proofs.Common.{◌≡◌, pos, ◌+ℤ◌, sym, ◌∙◌, arith}
use Rattle.std.proofs.lemmas.Int.{ints}
use Rattle.ts_combined_rows.proofs.PlacedLemmas.{none_latest, none_after}
use Rattle.ts_combined_rows.proofs.placed.last_placed.Goals as goal

pub returns-then-by-le0-clause-some : goal.returns-then-by-le0-clause-some
returns-then-by-le0-clause-some c = none_latest c.args.grid.now c.requires c.args.by c.args.last c.greatest.result c.greatest.ensures

pub returns-in-Some-clause-some : goal.returns-in-Some-clause-some
returns-in-Some-clause-some c =
    let sum : pos c.in_ok-offset.offset +ℤ c.args.by ≡ pos c.args.last = omega (arith, ints, c.unsigned_abs.ensures.value, c.if-by-le0.false, c.in_ok-offset.ensures) in
    none_after c.args.grid.now c.requires c.args.by c.args.last c.in_ok-offset.offset c.in-Some.stamp (sym c.stamp_of.ensures.value ∙ c.in-Some.is) sum

pub returns-in-None-clause-some : goal.returns-in-None-clause-some
returns-in-None-clause-some c = none_latest c.args.grid.now c.requires c.args.by c.args.last c.greatest-in-None.result c.greatest-in-None.ensures
