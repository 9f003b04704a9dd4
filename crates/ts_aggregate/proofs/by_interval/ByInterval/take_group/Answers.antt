use Rattle.std.proofs.Common.{◌≡◌, ◌*◌, ℕ, List, length, map, take, sym, ap, subst, ◌∙◌, arith, length-take-le}
use Rattle.ts_row.specs.declared.kind.Column.{Column}
use Rattle.ts_entry.specs.Stamps.{HasStamp}
use Rattle.ts_entry.specs.Rows.{AreCellsWith, IsCellWith, row_if_any}
use Rattle.ts_aggregate.specs.Groups.{grouping}
use Rattle.ts_aggregate.proofs.CellsLemmas.{one_fits}
use Rattle.ts_aggregate.proofs.PieceLemmas.{cells_front, some_fit}
use Rattle.ts_aggregate.proofs.TurnLemmas.{none_taken, none_stamped, piece_taken}
use Rattle.ts_aggregate.proofs.by_interval.ByInterval.take_group.Goals as goal

pub split_at-requires : goal.split_at-requires
split_at-requires g c =
    let r = c.args.cells in
    one_fits r.left r.size (length r.bytes.now) c.requires.some c.requires.whole.whole

pub split_at-requires-2 : goal.split_at-requires-2
split_at-requires-2 g c =
    let r = c.args.cells in
    some_fit c.cells_before-piece.result.count r.left r.size (length r.bytes.now) c.cells_before-piece.ensures.high c.requires.whole.whole

pub fold-requires : goal.fold-requires
fold-requires g c =
    let r = c.args.cells in
    let all = c.requires.whole in
    let count = c.cells_before-piece.result.count in
    let fit = some_fit count r.left r.size (length r.bytes.now) c.cells_before-piece.ensures.high all.whole in
    let size : length c.split_at-2.result.0.now ≡ count * r.size =
    ap length c.split_at-2.ensures.front ∙ length-take-le (count * r.size) r.bytes.now fit in
    record {
      some = all.some;
      size = all.size;
      whole = size;
      narrow = all.narrow;
      small = all.small;
      few = omega (arith, size, fit, all.few);
    }

pub returns-then-not-is_shown-clause-took : goal.returns-then-not-is_shown-clause-took
returns-then-not-is_shown-clause-took g c = λ found are stamped.
    let v = c.args.self.now in
    let r = c.args.cells in
    none_taken g.V.ElementVisitor.took g.met.V.ElementVisitor.none c.args.kind.now.columns r.front r.size r.bytes.now found
    (grouping v.wanted.now v.reached.span v.folding.now v.count) v.out.now c.requires.whole.size
    (λ f is. sym (c.is_shown.ensures f (subst (λ (l : List ℕ). IsCellWith c.args.kind.now.columns r.front l f) (sym c.split_at.ensures.front) is))
    ∙ c.if-not-is_shown.true)
    are

pub returns-in_default-clause-took : goal.returns-in_default-clause-took
returns-in_default-clause-took g c = λ found are stamped.
    let v = c.args.self.now in
    let r = c.args.cells in
    none_stamped g.V.ElementVisitor.took g.met.V.ElementVisitor.none c.args.kind.now.columns r.front r.size c.args.number c.args.stamps.now
    r.bytes.now found (grouping v.wanted.now v.reached.span v.folding.now v.count) v.out.now c.stamp_at.result c.in_default.is
    (λ s has. c.stamp_at.ensures s (subst (λ (l : List ℕ). HasStamp c.args.stamps.now c.args.number l s) (sym c.split_at.ensures.front) has)) stamped

pub returns-clause-took : goal.returns-clause-took
returns-clause-took g c = λ found are stamped.
    let columns : List Column = c.args.kind.now.columns in
    let v = c.args.self.now in
    let u = c.reach.new.self in
    let w = c.fold.new.self in
    let on = c.in_ok-fold.ensures in
    let r = c.args.cells in
    let count = c.cells_before-piece.result.count in
    piece_taken g.V.ElementVisitor.took columns r.front r.size c.args.number c.args.stamps.now r.bytes.now
    (grouping v.wanted.now v.reached.span v.folding.now v.count) (grouping u.wanted.now u.reached.span u.folding.now u.count)
    (grouping w.wanted.now w.reached.span w.folding.now w.count) v.out.now u.out.now w.out.now c.in-Some.stamp c.stamp_at.result
    (omega (arith, one_fits r.left r.size (length r.bytes.now) c.requires.some c.requires.whole.whole, c.requires.whole.size, c.requires.whole.some))
    c.requires.whole.size
    (λ f is. sym (c.is_shown.ensures f (subst (λ (l : List ℕ). IsCellWith columns r.front l f) (sym c.split_at.ensures.front) is))
    ∙ c.if-not-is_shown.false)
    (λ s has. c.stamp_at.ensures s (subst (λ (l : List ℕ). HasStamp c.args.stamps.now c.args.number l s) (sym c.split_at.ensures.front) has)) c.in-Some.is c.in_ok-reach.ensures.ready c.in_ok-reach.ensures.here
    on.wanted on.span on.count on.out count found c.cells_before-piece.ensures.low
    (λ first ordered. c.cells_before-piece.ensures.before columns found c.requires.whole.size are stamped first ordered)
    (on.takes (map row_if_any (take count found))
    (subst (λ (l : List ℕ). AreCellsWith columns r.front l (map row_if_any (take count found))) (sym c.split_at-2.ensures.front)
    (cells_front columns r.front count (count * r.size) r.bytes.now found (ap (λ (n : ℕ). count * n) c.requires.whole.size) are)))
    are stamped
