-- One more element was taken.
use Rattle.std.proofs.Common.{◌≡◌, Some, ap, sym, ◌∙◌, to_z, of_z, w64, arith}
use Rattle.std.proofs.lemmas.Int.{ints}
use Rattle.std.proofs.lemmas.Result.{on_ok_weaker}
use Rattle.ts_combine.specs.Moved.{start_behind}
use Rattle.ts_combined_rows.specs.Moves.{mover}
use Rattle.ts_combined_rows.proofs.MovedLemmas.{moves_on}
use Rattle.ts_combined_rows.proofs.moved.MovedRowsEntryVisitor.element.Goals as goal

pub returns-in-Some : goal.returns-in-Some
returns-in-Some g c =
    let v = c.args.self.now in
    let w = c.hand_on.new.self in
    let by : to_z w64 (of_z w64 v.by) ≡ v.by = omega (arith, ints) in
    let on : start_behind v.grid.now v.by v.last c.args.stamp ≡ Some c.in-Some.start =
    ap (λ n. start_behind v.grid.now n v.last c.args.stamp) (sym by) ∙ sym c.start_behind.ensures ∙ c.in-Some.is in
    record {
      took = on_ok_weaker c.hand_on.result
          (λ handed r seen. (
            c.hand_on.ensures.same,
            moves_on (g.V.EntryVisitor.took c.args.kind.now.columns) (mover v.grid.now v.by v.last v.count) v.out.now
                (c.args.stamp, r) (mover w.grid.now w.by w.last w.count) w.out.now c.in-Some.start on (handed r seen),
          )) c.hand_on.ensures.handed;
    }
