-- An element holds what its interval holds; behind the last one nothing is held.
use Rattle.std.proofs.Common.{◌≡◌, ◌∙◌, sym, arith, ℤ, to_z, of_z, w64, subst, get_or}
use Rattle.std.proofs.lemmas.Int.{ints}
use Rattle.std.proofs.lemmas.Option.{slice_get_past, slice_get-get_or, same_Some}
use Rattle.ts_row.specs.declared.row.Elem.{Elem}
use Rattle.ts_offset.specs.Grid.{IsOnStart}
use Rattle.ts_combine.specs.Line.{AreHeldFrom}
use Rattle.ts_combine.proofs.reach.reach_of.Goals as goal

pub returns-then-index-elems-clause-reach : goal.returns-then-index-elems-clause-reach
returns-then-index-elems-clause-reach c =
    let limit = c.args.line.now.limit in
    let near = c.args.line.now.near in
    let same : to_z w64 (of_z w64 limit) ≡ limit = omega (arith, ints, near.1.0, near.1.1) in
    record {
      within = c.requires;
      here = λ e there own. absurd (let none = slice_get_past c.args.elems.now c.args.index c.if-index-elems.true in cc);
      over = λ _. (same, same);
    }

pub returns-clause-reach : goal.returns-clause-reach
returns-clause-reach c =
    let elems = c.args.elems.now in
    let plan = c.args.calendar.now in
    let line = c.args.line.now in
    let limit = line.limit in
    let near = line.near in
    let x = get_or elems c.args.index c.index-elems-index.result in
    let low = c.held_from-low.result.0 in
    let high = c.held_from-low.result.1 in
    let limit_is : to_z w64 (of_z w64 limit) ≡ limit = omega (arith, ints, near.1.0, near.1.1) in
    let low_is : low ≡ to_z w64 (of_z w64 low) = omega (arith, ints) in
    let high_is : high ≡ to_z w64 (of_z w64 high) = omega (arith, ints) in
    record {
      within = c.requires;
      here = λ e there own.
          let at : x ≡ e = same_Some x e (sym (slice_get-get_or elems c.args.index c.index-elems-index.result (omega arith)) ∙ there) in
          subst (λ (y : Elem). AreHeldFrom plan line.calendar.now limit y.stamp (to_z w64 (of_z w64 low)) (to_z w64 (of_z w64 high))) at
          (subst (λ (i : ℤ). AreHeldFrom plan line.calendar.now limit x.stamp i (to_z w64 (of_z w64 high))) low_is
          (subst (λ (i : ℤ). AreHeldFrom plan line.calendar.now limit x.stamp low i) high_is
          (subst (λ (i : ℤ). AreHeldFrom plan line.calendar.now i x.stamp low high) limit_is
          (c.held_from-low.ensures (subst (λ (y : Elem). IsOnStart plan y.stamp) (sym at) own)))));
      over = λ past. absurd (omega arith);
    }
