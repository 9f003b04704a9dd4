use Rattle.std.proofs.Common.{◌++◌, List, ℕ}
use Rattle.std.proofs.lemmas.Result.{on_ok_weaker}
use Rattle.ts_model.specs.declared.kind.Kind.TheVariants as kinds
use Rattle.ts_dump.specs.Listed.{texts_of_kind}
use Rattle.ts_dump.specs.Placed.{both_put}
use Rattle.ts_dump.proofs.definitions.print_definitions.Goals as goal

pub returns : goal.returns
returns c = on_ok_weaker c.print_all-5.result (λ last.
    let d = c.args.defs.now.definitions in
    let o = c.print_all-5.new.out in
    let k = c.print_all-5.new.grouping in
    let series = texts_of_kind kinds.Series d in
    let containers = texts_of_kind kinds.Container d ++ series in
    let calendars = texts_of_kind kinds.Calendar d ++ containers in
    let patterns = texts_of_kind kinds.Pattern d ++ calendars in
    both_put c.args.grouping.now c.print_all.new.grouping k (texts_of_kind kinds.RowType d) patterns c.args.out.now c.print_all.new.out o c.in_ok-print_all.ensures
    (both_put c.print_all.new.grouping c.print_all-2.new.grouping k (texts_of_kind kinds.Pattern d) calendars c.print_all.new.out c.print_all-2.new.out o c.in_ok-print_all-2.ensures
    (both_put c.print_all-2.new.grouping c.print_all-3.new.grouping k (texts_of_kind kinds.Calendar d) containers c.print_all-2.new.out c.print_all-3.new.out o c.in_ok-print_all-3.ensures
    (both_put c.print_all-3.new.grouping c.print_all-4.new.grouping k (texts_of_kind kinds.Container d) series c.print_all-3.new.out c.print_all-4.new.out o c.in_ok-print_all-4.ensures last))))
    c.print_all-5.ensures
