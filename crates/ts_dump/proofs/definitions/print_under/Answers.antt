use Rattle.std.proofs.Common.{◌++◌, Option, ℕ, subst}
use Rattle.std.proofs.lemmas.Result.{on_ok_weaker}
use Rattle.ts_model.specs.declared.kind.Kind.TheVariants as kinds
use Rattle.ts_dump.specs.Listed.{text_in, text_at, row_type_slot, pattern_slot, calendar_slot, container_slot}
use Rattle.ts_dump.specs.Placed.{ArePut, both_put}
use Rattle.ts_dump.proofs.definitions.print_under.Goals as goal

pub returns : goal.returns
returns c = on_ok_weaker c.print_slot.result (λ last.
    let d = c.args.defs.now.definitions in
    let slot = c.args.series in
    let o = c.print_slot.new.out in
    let k = c.print_slot.new.grouping in
    let series = text_at kinds.Series d slot in
    let containers = text_in kinds.Container d (container_slot d slot) ++ series in
    let calendars = text_in kinds.Calendar d (calendar_slot d slot) ++ containers in
    let patterns = text_in kinds.Pattern d (pattern_slot d slot) ++ calendars in
    both_put c.args.grouping.now c.print_in.new.grouping k (text_in kinds.RowType d (row_type_slot d slot)) patterns c.args.out.now c.print_in.new.out o
    (subst (λ (at : Option ℕ). ArePut c.args.grouping.now (text_in kinds.RowType d at) c.print_in.new.grouping c.args.out.now c.print_in.new.out) c.row_type_slot.ensures c.in_ok-print_in.ensures)
    (both_put c.print_in.new.grouping c.print_in-2.new.grouping k (text_in kinds.Pattern d (pattern_slot d slot)) calendars c.print_in.new.out c.print_in-2.new.out o
    (subst (λ (at : Option ℕ). ArePut c.print_in.new.grouping (text_in kinds.Pattern d at) c.print_in-2.new.grouping c.print_in.new.out c.print_in-2.new.out) c.pattern_slot.ensures c.in_ok-print_in-2.ensures)
    (both_put c.print_in-2.new.grouping c.print_in-3.new.grouping k (text_in kinds.Calendar d (calendar_slot d slot)) containers c.print_in-2.new.out c.print_in-3.new.out o
    (subst (λ (at : Option ℕ). ArePut c.print_in-2.new.grouping (text_in kinds.Calendar d at) c.print_in-3.new.grouping c.print_in-2.new.out c.print_in-3.new.out) c.calendar_slot.ensures c.in_ok-print_in-3.ensures)
    (both_put c.print_in-3.new.grouping c.print_in-4.new.grouping k (text_in kinds.Container d (container_slot d slot)) series c.print_in-3.new.out c.print_in-4.new.out o
    (subst (λ (at : Option ℕ). ArePut c.print_in-3.new.grouping (text_in kinds.Container d at) c.print_in-4.new.grouping c.print_in-3.new.out c.print_in-4.new.out) c.container_slot.ensures c.in_ok-print_in-4.ensures) last))))
    c.print_slot.ensures
