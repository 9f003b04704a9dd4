use Rattle.std.proofs.Common.{arith, ap, ◌∙◌, ◌∷◌, length, List}
use Rattle.ts_row.specs.declared.kind.Column.{Column}
use Rattle.ts_layout.specs.Slot.{padded, name_bytes, columns_bytes}
use Rattle.ts_slots.proofs.PartLemmas.{parts, front}
use Rattle.ts_slots.proofs.row_type_slot.write_heading.Goals as goal

pub slice_bounds-write_name-end-2 : goal.slice_bounds-write_name-end-2
slice_bounds-write_name-end-2 c = front 33 c.args.into.now (omega arith)

pub returns : goal.returns
returns c =
    parts 33 c.args.into.now c.write_name.new.into c.write_counted.new.into
    (name_bytes c.args.kind.now.stamp) (length c.args.kind.now.columns ∷ padded 4028 (columns_bytes c.args.kind.now.columns))
    (c.write_name.ensures.bytes ∙ ap name_bytes c.stamp.ensures)
    (c.write_counted.ensures ∙ ap (λ (l : List Column). length l ∷ padded 4028 (columns_bytes l)) c.columns.ensures.value)
    c.write_name.auto.into c.write_counted.auto.into (omega arith)
