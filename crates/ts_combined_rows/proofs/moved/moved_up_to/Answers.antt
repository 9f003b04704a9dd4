use Rattle.std.proofs.Common.{◌≡◌, subst, refl, arith, to_z, of_z, w64}
use Rattle.std.proofs.lemmas.Int.{to_z-of_z}
use Rattle.ts_space.specs.Place.{IsRising}
use Rattle.ts_combined_rows.specs.Moves.{mover}
use Rattle.ts_combined_rows.proofs.MovedLemmas.{none_moved, few_moved, many_moved}
use Rattle.ts_combined_rows.proofs.moved.moved_up_to.Goals as goal

pub returns-in_default-clause-read : goal.returns-in_default-clause-read
returns-in_default-clause-read g c = λ told es have last.
    let by : to_z w64 (of_z w64 c.args.by) ≡ c.args.by = to_z-of_z w64 c.args.by c.ranges.by in
    none_moved c.args.shape.now c.args.grid.now c.requires.regular c.requires.laid _ _ _ _ es
    (subst IsRising c.places-places.ensures.ok c.places-places.ensures.rising) have c.args.by c.args.last last
    (λ stamp start. (rw by at c.in_default.ensures.none) stamp start c.args.last) _
    (g.met.V.EntryVisitor.none c.args.shelf.now.kind.now.columns c.args.visitor.now)

pub returns-in_default-last_placed-clause-read : goal.returns-in_default-last_placed-clause-read
returns-in_default-last_placed-clause-read g c = λ told es have last.
    let by : to_z w64 (of_z w64 c.args.by) ≡ c.args.by = to_z-of_z w64 c.args.by c.ranges.by in
    none_moved c.args.shape.now c.args.grid.now c.requires.regular c.requires.laid _ _ _ _ es
    (subst IsRising c.places-places.ensures.ok c.places-places.ensures.rising) have c.args.by c.args.last last
    (rw by at c.in_default-last_placed.ensures.none) _
    (g.met.V.EntryVisitor.none c.args.shelf.now.kind.now.columns c.args.visitor.now)

pub returns-then-count-gt-MOST_ROWS-clause-read : goal.returns-then-count-gt-MOST_ROWS-clause-read
returns-then-count-gt-MOST_ROWS-clause-read g c = λ told es have last.
    let by : to_z w64 (of_z w64 c.args.by) ≡ c.args.by = to_z-of_z w64 c.args.by c.ranges.by in
    let v = c.new-rows.result in
    let w = c.elements.new.visitor in
    many_moved c.args.shape.now c.args.grid.now c.requires.regular c.requires.laid _ _ _ _ es
    (subst IsRising c.places-places.ensures.ok c.places-places.ensures.rising) have c.args.by c.args.last last
    (g.V.EntryVisitor.took c.args.shelf.now.kind.now.columns) c.requires.countable _ _ (rw by at c.in-Some.ensures.some) (rw by at c.in-Some-last_placed.ensures.some)
    c.args.visitor.now _ _ v.out.ghost_name w.out.ghost_name
    (mover v.grid.now v.by v.last v.count) (mover w.grid.now w.by w.last w.count) v.out.now w.out.now
    c.new-rows.ensures.same c.new-rows.ensures.none (rw by at c.new-rows.ensures.state) (c.in_ok-elements.ensures.read told es have) (assumption)
    w.count refl (omega (arith, c.if-count-gt-MOST_ROWS.true))

pub returns-clause-read : goal.returns-clause-read
returns-clause-read g c = λ told es have last.
    let by : to_z w64 (of_z w64 c.args.by) ≡ c.args.by = to_z-of_z w64 c.args.by c.ranges.by in
    let v = c.new-rows.result in
    let w = c.elements.new.visitor in
    few_moved c.args.shape.now c.args.grid.now c.requires.regular c.requires.laid _ _ _ _ es
    (subst IsRising c.places-places.ensures.ok c.places-places.ensures.rising) have c.args.by c.args.last last
    (g.V.EntryVisitor.took c.args.shelf.now.kind.now.columns) c.requires.countable _ _ (rw by at c.in-Some.ensures.some) (rw by at c.in-Some-last_placed.ensures.some)
    c.args.visitor.now _ _ v.out.ghost_name w.out.ghost_name
    (mover v.grid.now v.by v.last v.count) (mover w.grid.now w.by w.last w.count) v.out.now w.out.now
    c.new-rows.ensures.same c.new-rows.ensures.none (rw by at c.new-rows.ensures.state) (c.in_ok-elements.ensures.read told es have) (assumption)
    w.count refl (omega (arith, c.if-count-gt-MOST_ROWS.false))
