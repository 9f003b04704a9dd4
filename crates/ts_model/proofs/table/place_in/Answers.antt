use Rattle.std.proofs.Common.{◌≡◌, [], get_or, inl, inr, length, ap, sym, ◌∙◌, arith, false}
use Rattle.std.specs.Ordering.{is_gt}
use Rattle.ts_model.specs.Catalogue.{name_cmp}
use Rattle.ts_model.proofs.OrderLemmas.{place_above, place_below, place_within}
use Rattle.ts_model.proofs.IndexLemmas.{index, index-sorted, index-length, index-filled, index-name}
use Rattle.ts_model.proofs.table.place_in.Goals as goal

pub loop-low-init : goal.loop-low-init
loop-low-init c =
    let size : length c.args.order.now ≡ length (index c.args.slots.now) = ap length c.requires.index ∙ index-length c.args.slots.now in
    let within = place_within (index c.args.slots.now) c.args.name.now in
    record { from = omega arith; to = omega (arith, size, within); within = omega arith }

pub name_in-requires : goal.name_in-requires
name_in-requires c = let inside = c.loop-low.invariant.within in index-filled c.args.slots.now c.args.order.now _ c.requires.index (omega arith)

pub loop-low-preserved-in-Greater : goal.loop-low-preserved-in-Greater
loop-low-preserved-in-Greater c =
    let size : length c.args.order.now ≡ length (index c.args.slots.now) = ap length c.requires.index ∙ index-length c.args.slots.now in
    let inside = c.loop-low.invariant.within in
    let name = index-name c.args.slots.now c.args.order.now _ c.name_in.result.now c.requires.index (omega arith) c.name_in.ensures in
    let above = place_above (index c.args.slots.now) c.args.name.now _ ([], 0) (index-sorted c.args.slots.now) (omega (arith, size)) (ap (name_cmp c.args.name.now) (sym name) ∙ sym c.cmp.ensures ∙ c.in-Greater.is) in
    record { from = omega (arith, above); to = c.loop-low.invariant.to; within = c.loop-low.invariant.within }

pub loop-low-preserved : goal.loop-low-preserved
loop-low-preserved c =
    let inside = c.loop-low.invariant.within in
    let size : length c.args.order.now ≡ length (index c.args.slots.now) = ap length c.requires.index ∙ index-length c.args.slots.now in
    let name = index-name c.args.slots.now c.args.order.now _ c.name_in.result.now c.requires.index (omega arith) c.name_in.ensures in
    let compared : name_cmp c.args.name.now (get_or (index c.args.slots.now) _ ([], 0)).0 ≡ c.cmp.result = ap (name_cmp c.args.name.now) (sym name) ∙ sym c.cmp.ensures in
    let low : is_gt c.cmp.result ≡ false = elim c.in-Less.is [ inl is ↦ ap is_gt is | inr is ↦ ap is_gt is ] in
    let below = place_below (index c.args.slots.now) c.args.name.now _ ([], 0) (omega (arith, size)) (ap is_gt compared ∙ low) in
    record { from = c.loop-low.invariant.from; to = below; within = omega arith }
