use Rattle.std.proofs.Common.{List, sym, subst, ◌∙◌}
use Rattle.std.proofs.lemmas.Result.{on_ok_weaker}
use Rattle.ts_row.specs.declared.kind.Column.{Column}
use Rattle.ts_row.specs.Row.{Element}
use Rattle.ts_clip.proofs.GridPageLemmas.{behind_on, one_base}
use Rattle.ts_clip.proofs.GridRowLemmas.{page_none, page_run, run_starts}
use Rattle.ts_clip.proofs.grid_page_rows.rows_of_page.Goals as goal

pub returns-then-stop-first : goal.returns-then-stop-first
returns-then-stop-first g c =
    let columns : List Column = c.args.shelf.now.kind.now.columns in
    let o = c.args.offsets in
    record {
      took = λ p on laid starts.
          subst (λ (l : List Element). g.V.RowVisitor.took columns c.args.visitor.now l c.args.visitor.now)
          (page_none c.args.grid.now o.lower o.upper c.in-Some.base p.0 c.regular_room.result c.max-first.result c.min-stop.result p.1 (on.bytes.fill.room ∙ sym c.regular_room.ensures.value) (one_base c.in-Some.base p.0 c.base_on.result c.in-Some.is (c.base_on.ensures.base p on)) c.max-first.ensures c.min-stop.ensures
          c.if-stop-first.true)
          (g.met.V.RowVisitor.none columns c.args.visitor.now);
    }

pub returns : goal.returns
returns g c =
    let columns : List Column = c.args.shelf.now.kind.now.columns in
    let grid = c.args.grid.now in
    let o = c.args.offsets in
    let room = c.regular_room.result in
    let first = c.max-first.result in
    let stop = c.min-stop.result in
    let order = c.if-stop-first.false in
    record {
      took = on_ok_weaker c.rows_between.result
          (λ took p on laid starts.
          let fill = on.bytes.fill in
          let behind = behind_on c.args.shelf.now.series columns c.args.page.now.bytes c.args.place.now p on in
          let long = fill.room ∙ sym c.regular_room.ensures.value in
          let same = one_base c.in-Some.base p.0 c.base_on.result c.in-Some.is (c.base_on.ensures.base p on) in
          subst (λ (l : List Element). g.V.RowVisitor.took columns c.args.visitor.now l c.rows_between.new.visitor)
          (page_run grid o.lower o.upper c.in-Some.base p.0 room first stop p.1 long same c.max-first.ensures c.min-stop.ensures order)
          (took p.1 fill.each fill.room behind laid (run_starts grid o.lower o.upper c.in-Some.base p.0 room first stop p.1 long same c.max-first.ensures c.min-stop.ensures order starts)))
          c.rows_between.ensures;
    }
