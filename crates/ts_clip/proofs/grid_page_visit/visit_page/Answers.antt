use Rattle.std.proofs.Common.{◌≡◌, ℕ, ◌+◌, ◌-◌, ℤ, None, List, map, take, drop, sym, ap, subst, ◌∙◌, arith}
use Rattle.std.proofs.lemmas.List.{drop-drop}
use Rattle.ts_row.specs.declared.kind.Column.{Column}
use Rattle.ts_regular.specs.OnePage.{cell_at}
use Rattle.ts_entry.specs.Entry.{Entry}
use Rattle.ts_clip.specs.Numbered.{numbered, seen_in}
use Rattle.ts_clip.proofs.GridPageLemmas.{behind_on, none_left, none_there, one_base, page_entries}
use Rattle.ts_clip.proofs.grid_page_visit.visit_page.Goals as goal

pub returns-then-stop-first-clause-rest : goal.returns-then-stop-first-clause-rest
returns-then-stop-first-clause-rest g c = λ t p on.
    let read = c.in_ok-base.ensures.read t p on in
    let room = c.regular_room.result in
    none_there c.args.at c.args.upper c.in-Some.base p.0 room c.max-first.result c.min-stop.result p.1 (read.1.bytes.fill.room ∙ sym c.regular_room.ensures.value) (one_base c.in-Some.base p.0 c.in_ok-base.field-0 c.in-Some.is read.0) c.max-first.ensures c.min-stop.ensures
    c.regular_room.ensures.some c.if-stop-first.true

pub returns-clause-rest : goal.returns-clause-rest
returns-clause-rest g c = λ t p on.
    let read = c.in_ok-base.ensures.read t p on in
    let room = c.regular_room.result in
    none_left c.args.at c.args.upper c.in-Some.base p.0 room c.max-first.result c.min-stop.result p.1 (read.1.bytes.fill.room ∙ sym c.regular_room.ensures.value) (one_base c.in-Some.base p.0 c.in_ok-base.field-0 c.in-Some.is read.0) c.max-first.ensures c.min-stop.ensures
    c.if-stop-first.false

pub returns-clause-left : goal.returns-clause-left
returns-clause-left g c =
    let starts = c.args.starts.now in
    let before = c.max-first.result - c.args.at in
    let own = c.min-stop.result - c.in-Some.base - (c.max-first.result - c.in-Some.base) in
    let sum : before + own ≡ c.min-stop.result - c.args.at = omega (arith, c.max-first.ensures, c.min-stop.ensures, c.if-stop-first.false) in
    c.in_ok-visit_cells.ensures.left ∙ ap (drop own) c.in_ok-visit_blanks.ensures.left ∙ drop-drop own before starts ∙ ap (λ (n : ℕ). drop n starts) sum

pub returns-clause-took : goal.returns-clause-took
returns-clause-took g c = λ t p on.
    let slot : ℕ = c.args.shelf.now.series in
    let columns : List Column = c.args.shelf.now.kind.now.columns in
    let starts : List ℤ = c.args.starts.now in
    let bytes : List ℕ = c.read_base.new.page.bytes in
    let read = c.in_ok-base.ensures.read t p on in
    let fill = read.1.bytes.fill in
    let behind = behind_on slot columns bytes c.args.place.now p read.1 in
    let before = c.max-first.result - c.args.at in
    let from = c.max-first.result - c.in-Some.base in
    let own = c.min-stop.result - c.in-Some.base - from in
    let row_of = λ (i : ℕ). seen_in (cell_at p.1 i) in
    let entry = λ (start : ℤ). let e : Entry = (start, None) in e in
    let cells = subst (λ (l : List ℤ). g.V.EntryVisitor.took columns c.visit_blanks.new.visitor (numbered row_of from (take own l)) c.visit_cells.new.visitor) c.in_ok-visit_blanks.ensures.left
    (c.in_ok-visit_cells.ensures.took p.1 fill.each fill.room behind) in
    subst (λ (l : List Entry). g.V.EntryVisitor.took columns c.args.visitor.now l c.visit_cells.new.visitor)
    (page_entries c.args.at c.args.upper c.in-Some.base p.0 c.regular_room.result c.max-first.result c.min-stop.result p.1 (fill.room ∙ sym c.regular_room.ensures.value) (one_base c.in-Some.base p.0 c.in_ok-base.field-0 c.in-Some.is read.0) c.max-first.ensures c.min-stop.ensures
    starts c.if-stop-first.false)
    (g.met.V.EntryVisitor.«then» columns c.args.visitor.now c.visit_blanks.new.visitor c.visit_cells.new.visitor (map entry (take before starts)) (numbered row_of from (take own (drop before starts)))
    c.in_ok-visit_blanks.ensures.took cells)
