use Rattle.std.proofs.Common.{ℕ, arith, sym, ap, ◌≤◌, ◌*◌, ◌≡◌, List, ◌∷◌, length}
use Rattle.ts_row.specs.declared.kind.Column.{Column}
use Rattle.ts_layout.specs.Slot.{column_bytes}
use Rattle.ts_slots.proofs.PartLemmas.{front, one_more, no_more}
use Rattle.ts_slots.proofs.row_type_slot.+write_columns.Goals as goal

-- there is room for the first
room : (columns cs : List Column) (c : Column) (n : ℕ) → columns ≡ c ∷ cs → 36 * length columns ≤ n → 36 ≤ n
room columns cs c n split all = omega (arith, ap length split)

pub slice_bounds-write_column-end-2 : goal.slice_bounds-write_column-end-2
slice_bounds-write_column-end-2 t c = front 36 c.args.into.now (room c.args.columns.now c.in-Some.columns.now c.in-Some.column.now (length c.args.into.now) c.in-Some.ensures.cases.0 c.requires.room)

pub write_column-requires-clause-room : goal.write_column-requires-clause-room
write_column-requires-clause-room t c = sym (front 36 c.args.into.now (room c.args.columns.now c.in-Some.columns.now c.in-Some.column.now (length c.args.into.now) c.in-Some.ensures.cases.0 c.requires.room))

pub returns-in_default : goal.returns-in_default
returns-in_default t c = no_more column_bytes c.args.columns.now (length c.args.into.now) c.pad.new.into c.in_default.ensures.cases c.pad.ensures

pub returns : goal.returns
returns t c =
    one_more column_bytes 36 c.in-Some.column.now c.args.columns.now c.in-Some.columns.now c.args.into.now c.write_column.new.into c.write_columns.new.into
    c.in-Some.ensures.cases.0 c.write_column.ensures c.write_column.auto.into c.write_columns.ensures c.write_columns.auto.into
    (room c.args.columns.now c.in-Some.columns.now c.in-Some.column.now (length c.args.into.now) c.in-Some.ensures.cases.0 c.requires.room)
