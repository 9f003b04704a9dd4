use Rattle.std.proofs.Common.{ℕ, ◌-◌, List, [], ℤ, take, drop, sym, subst, ◌∙◌}
use Rattle.ts_row.specs.declared.kind.Column.{Column}
use Rattle.ts_offset.specs.Grid.{starts_of}
use Rattle.ts_regular.specs.OnePage.{cell_at}
use Rattle.ts_clip.specs.Numbered.{numbered, seen_in}
use Rattle.ts_clip.proofs.GridElementLemmas.{page_none, page_taken}
use Rattle.ts_clip.proofs.GridPageLemmas.{behind_on, one_base}
use Rattle.ts_clip.proofs.grid_page_visit.elements_on_page.Goals as goal

pub returns-then-stop-first-clause-taken : goal.returns-then-stop-first-clause-taken
returns-then-stop-first-clause-taken g c = λ t p on.
    let columns : List Column = c.args.shelf.now.kind.now.columns in
    let read = c.in_ok-base.ensures.read t p on in
    let fill = read.1.bytes.fill in
    let o = c.args.offsets in
    record {
      entries = [];
      taken = g.met.V.EntryVisitor.none columns c.args.visitor.now;
      are = sym (page_none c.args.grid.now o.lower o.upper c.in-Some.base p.0 c.regular_room.result c.max-first.result c.min-stop.result p.1 (fill.room ∙ sym c.regular_room.ensures.value) (one_base c.in-Some.base p.0 c.in_ok-base.field-0 c.in-Some.is read.0) c.max-first.ensures c.min-stop.ensures
          c.if-stop-first.true);
    }

pub returns-clause-taken : goal.returns-clause-taken
returns-clause-taken g c = λ t p on.
    let slot : ℕ = c.args.shelf.now.series in
    let columns : List Column = c.args.shelf.now.kind.now.columns in
    let bytes : List ℕ = c.read_base.new.page.bytes in
    let read = c.in_ok-base.ensures.read t p on in
    let fill = read.1.bytes.fill in
    let behind = behind_on slot columns bytes c.args.place.now p read.1 in
    let o = c.args.offsets in
    let from = c.max-first.result - c.in-Some.base in
    let own = c.min-stop.result - c.in-Some.base - from in
    let row_of = λ (i : ℕ). seen_in (cell_at p.1 i) in
    record {
      entries = numbered row_of from (take own (drop c.max-first.result (starts_of c.args.grid.now)));
      taken = subst (λ (l : List ℤ). g.V.EntryVisitor.took columns c.args.visitor.now (numbered row_of from (take own l)) c.visit_cells.new.visitor) c.starts_from-starts.ensures
          (c.in_ok-visit_cells.ensures.took p.1 fill.each fill.room behind);
      are = page_taken c.args.grid.now o.lower o.upper c.in-Some.base p.0 c.regular_room.result c.max-first.result c.min-stop.result p.1 (fill.room ∙ sym c.regular_room.ensures.value) (one_base c.in-Some.base p.0 c.in_ok-base.field-0 c.in-Some.is read.0) c.max-first.ensures c.min-stop.ensures
          c.if-stop-first.false;
    }
