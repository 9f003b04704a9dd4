use Rattle.std.proofs.Common.{◌≡◌, ◌+◌, ◌*◌, ◌/◌, ◌<◌, ℕ, List, length, refl, sym, ap, subst, ◌∙◌, arith}
use Rattle.std.proofs.lemmas.Bool.Decides.{nat_tests}
use Rattle.ts_row.specs.declared.kind.Column.{Column}
use Rattle.ts_row.specs.Row.{width_of}
use Rattle.ts_entry.specs.Rows.{AreStamped}
use Rattle.ts_aggregate.specs.Groups.{grouping}
use Rattle.ts_aggregate.proofs.FoldingLemmas.{one_there, row_cells_of}
use Rattle.ts_aggregate.proofs.TurnLemmas.{few_cells, less_cells, none_left, turn_first, turn_next, turn_last}
use Rattle.ts_aggregate.proofs.by_interval.ByIntervalRowVisitor.rows.Goals as goal

pub returns-then-is_empty : goal.returns-then-is_empty
returns-then-is_empty g c =
    let v = c.args.self.now in
    let is = c.is_empty.ensures in
    let test = c.if-is_empty.true in
    let none : length c.args.cells.now ≡ 0 = grind (arith, nat_tests) in
    record {
      took = λ found are. (
        refl,
        turn_last g.V.ElementVisitor.took g.met.V.ElementVisitor.none g.met.V.ElementVisitor.«then» c.args.kind.now.columns c.args.front
            c.args.stamps.now found (grouping v.wanted.now v.reached.span v.folding.now v.count) v.out.now 0 c.args.cells.now
            (grouping v.wanted.now v.reached.span v.folding.now v.count) v.out.now none
            (turn_first g.V.ElementVisitor.took g.met.V.ElementVisitor.none g.met.V.ElementVisitor.«then» c.args.kind.now.columns c.args.front
            c.args.stamps.now found (grouping v.wanted.now v.reached.span v.folding.now v.count) v.out.now c.args.cells.now are),
      );
    }

pub loop-left-init : goal.loop-left-init
loop-left-init g c =
    let v = c.args.self.now in
    let is = c.is_empty.ensures in
    let test = c.if-is_empty.false in
    let n : ℕ = c.requires.whole.0 in
    let len : ℕ = length c.args.cells.now in
    let size : ℕ = c.args.front + c.width.result in
    let some : 0 < size = omega (arith, c.requires.front) in
    let whole : len ≡ n * size = c.requires.whole.1 ∙ ap (λ (w : ℕ). n * (c.args.front + w)) (sym c.width.ensures.value) in
    let all = row_cells_of n size len some whole in
    record {
      whole = all;
      bound = omega (arith, few_cells (len / size) size len some all, c.requires.few);
      few = c.requires.few;
      same = refl;
      ahead = tt;
      taken = λ found are. turn_first g.V.ElementVisitor.took g.met.V.ElementVisitor.none g.met.V.ElementVisitor.«then»
          c.args.kind.now.columns c.args.front c.args.stamps.now found (grouping v.wanted.now v.reached.span v.folding.now v.count) v.out.now
          c.args.cells.now are;
    }

pub take_group-requires-clause-whole : goal.take_group-requires-clause-whole
take_group-requires-clause-whole g c =
    let n : ℕ = c.requires.whole.0 in
    let len : ℕ = length c.args.cells.now in
    let size : ℕ = c.args.front + c.width.result in
    let is = c.is_empty.ensures in
    let test = c.if-is_empty.false in
    let some : 0 < len = grind (arith, nat_tests) in
    let whole : len ≡ n * size = c.requires.whole.1 ∙ ap (λ (w : ℕ). n * (c.args.front + w)) (sym c.width.ensures.value) in
    record {
      some = c.requires.front;
      size = ap (λ (w : ℕ). c.args.front + w) c.width.ensures.value;
      whole = c.loop-left.invariant.whole;
      narrow = omega (arith, c.width.ensures.value, c.width.ensures.bound);
      small = omega (arith, one_there n size len some whole, c.requires.few);
      few = c.loop-left.invariant.few;
    }

pub loop-left-preserved : goal.loop-left-preserved
loop-left-preserved g c =
    let i = c.loop-left.invariant in
    let v = c.args.self.now in
    let w = c.loop-left.self in
    let u = c.take_group.new.self in
    let columns : List Column = c.args.kind.now.columns in
    let size : ℕ = c.args.front + c.width.result in
    let count = c.in_ok-piece.piece.count in
    let done = c.in_ok-piece.ensures in
    let same : size ≡ c.args.front + width_of columns = ap (λ (w : ℕ). c.args.front + w) c.width.ensures.value in
    record {
      whole = less_cells count c.loop-left.left size (length c.loop-left.rest.now) _ done.count.1 i.whole (omega (arith, c.split_at.ensures.back_len));
      bound = omega (arith, i.bound, done.count.1);
      few = omega (arith, i.few, c.split_at.ensures.back_len);
      same = done.same ∙ i.same;
      ahead = done.next;
      taken = λ found are. turn_next g.V.ElementVisitor.took g.met.V.ElementVisitor.none g.met.V.ElementVisitor.«then» columns c.args.front
          c.args.stamps.now found (grouping v.wanted.now v.reached.span v.folding.now v.count) v.out.now c.loop-left.number count (count * size)
          c.loop-left.rest.now c.split_at.result.1.now (grouping w.wanted.now w.reached.span w.folding.now w.count)
          (grouping u.wanted.now u.reached.span u.folding.now u.count) w.out.now u.out.now (ap (λ (k : ℕ). count * k) same) c.split_at.ensures.back
          (i.taken found are)
          (λ others rows stamped. done.took others rows
          (subst (λ (k : ℕ). AreStamped c.args.stamps.now k c.loop-left.number c.loop-left.rest.now others) (sym same) stamped));
    }

pub returns : goal.returns
returns g c =
    let i = c.loop-left.invariant in
    let v = c.args.self.now in
    let w = c.loop-left.self in
    let size : ℕ = c.args.front + c.width.result in
    record {
      took = λ found are. (
        i.same,
        turn_last g.V.ElementVisitor.took g.met.V.ElementVisitor.none g.met.V.ElementVisitor.«then» c.args.kind.now.columns c.args.front
            c.args.stamps.now found (grouping v.wanted.now v.reached.span v.folding.now v.count) v.out.now c.loop-left.number c.loop-left.rest.now
            (grouping w.wanted.now w.reached.span w.folding.now w.count) w.out.now
            (none_left c.loop-left.left size (length c.loop-left.rest.now) (omega (arith, c.loop-left-test.false)) i.whole)
            (i.taken found are),
      );
    }
