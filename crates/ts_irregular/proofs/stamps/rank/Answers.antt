use Rattle.std.proofs.Common.{◌<ℤ◌, ◌≤ℤ◌, List, length, arith}
use Rattle.std.proofs.lemmas.Int.{ints}
use Rattle.ts_row.specs.declared.kind.Column.{Column}
use Rattle.ts_irregular.proofs.BytesLemmas.{cell_within, part, units_in}
use Rattle.ts_irregular.proofs.EditLemmas.{rank_within}
use Rattle.ts_irregular.proofs.SearchLemmas.{rank_more, rank_less}
use Rattle.ts_irregular.proofs.stamps.rank.Goals as goal

pub loop-low-init : goal.loop-low-init
loop-low-init c = record {
  within = omega arith;
  below = omega arith;
  rank = λ es order count same. (omega arith, let most = rank_within c.args.stamp es in omega (arith, most, count));
}

pub units_at-requires-clause-within : goal.units_at-requires-clause-within
units_at-requires-clause-within c =
    let i = c.loop-low.invariant in
    cell_within c.args.kind.now.columns c.cell_size-size.result _ (length c.args.behind.now) c.cell_size-size.ensures.value (omega (arith, i.within, i.below)) c.requires.size

pub loop-low-preserved-then-units_at-at : goal.loop-low-preserved-then-units_at-at
loop-low-preserved-then-units_at-at c =
    let i = c.loop-low.invariant in
    let columns : List Column = c.args.kind.now.columns in
    record {
      within = i.within;
      below = omega (arith, i.within, i.below);
      rank = λ es order count same.
          let p = part columns _ es c.args.behind.now order.each (omega (arith, i.within, i.below, count)) same in
          let stamps = units_in columns c.cell_size-size.result _ es c.args.behind.now p c.cell_size-size.ensures.value in
          let low : p.element.0 <ℤ c.args.stamp = omega (arith, ints, stamps, c.units_at.ensures, c.if-units_at-at.true, c.units-at.ensures.value) in
          (rank_more columns c.args.stamp _ es c.args.behind.now p order.rising low, (i.rank es order count same).1);
    }

pub loop-low-preserved : goal.loop-low-preserved
loop-low-preserved c =
    let i = c.loop-low.invariant in
    let columns : List Column = c.args.kind.now.columns in
    record {
      within = omega (arith, i.within, i.below);
      below = omega (arith, i.within, i.below);
      rank = λ es order count same.
          let p = part columns _ es c.args.behind.now order.each (omega (arith, i.within, i.below, count)) same in
          let stamps = units_in columns c.cell_size-size.result _ es c.args.behind.now p c.cell_size-size.ensures.value in
          let high : c.args.stamp ≤ℤ p.element.0 = omega (arith, ints, stamps, c.units_at.ensures, c.if-units_at-at.false, c.units-at.ensures.value) in
          ((i.rank es order count same).0, rank_less columns c.args.stamp _ es c.args.behind.now p high);
    }

pub returns-clause-ok : goal.returns-clause-ok
returns-clause-ok c = λ es order count same.
    let i = c.loop-low.invariant in
    let r = i.rank es order count same in
    omega (arith, r.0, r.1, c.loop-low-test.false, i.below)
