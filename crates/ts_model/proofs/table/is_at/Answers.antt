use Rattle.std.proofs.Common.{◌≡◌, [], length, sym, ap, ◌∙◌, arith}
use Rattle.std.specs.Str.{bytes_eq}
use Rattle.std.proofs.lemmas.Bool.{le-ltb}
use Rattle.ts_model.proofs.OrderLemmas.{stands_at-is, stands_at-past}
use Rattle.ts_model.proofs.IndexLemmas.{index, index-length, index-filled, index-name}
use Rattle.ts_model.proofs.table.is_at.Goals as goal

pub name_in-requires : goal.name_in-requires
name_in-requires c = index-filled c.args.slots.now c.args.order.now _ c.requires.index c.if-place-order.true

pub returns-then-place-order : goal.returns-then-place-order
returns-then-place-order c =
    let size : length c.args.order.now ≡ length (index c.args.slots.now) = ap length c.requires.index ∙ index-length c.args.slots.now in
    let name = index-name c.args.slots.now c.args.order.now _ c.name_in.result.now c.requires.index c.if-place-order.true c.name_in.ensures in
    let within = c.if-place-order.true in
    c.eq.ensures ∙ ap (bytes_eq c.args.name.now) name
    ∙ sym (stands_at-is (index c.args.slots.now) c.args.place c.args.name.now ([], 0) (omega (arith, size, within)))

pub returns-else-place-order : goal.returns-else-place-order
returns-else-place-order c =
    let size : length c.args.order.now ≡ length (index c.args.slots.now) = ap length c.requires.index ∙ index-length c.args.slots.now in
    let past = c.if-place-order.false in
    le-ltb _ _ past ∙ sym (stands_at-past (index c.args.slots.now) c.args.place c.args.name.now (omega (arith, size, past)))
