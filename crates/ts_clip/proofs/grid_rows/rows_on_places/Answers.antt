use Rattle.std.proofs.Common.{◌≡◌, ℕ, ◌<◌, Ok, List, length, take, get_or, sym, subst, arith}
use Rattle.std.proofs.lemmas.List.{take_all}
use Rattle.ts_space.specs.declared.place.Place.{Place}
use Rattle.ts_row.specs.declared.kind.Column.{Column}
use Rattle.ts_row.specs.Row.{Element}
use Rattle.ts_regular.specs.RegularPage.{elements_from}
use Rattle.ts_regular.specs.Places.{OffsetPage, IsOn, all_in}
use Rattle.ts_page.proofs.ReadsLemmas.{reads_more}
use Rattle.ts_clip.proofs.GridPlaceLemmas.{page_of, pages_count}
use Rattle.ts_regular.specs.Range.{within}
use Rattle.ts_sheets.specs.Stamped.{stamped}
use Rattle.ts_offset.specs.Grid.{GridPlan}
use Rattle.ts_clip.proofs.GridRowLemmas.{stamped_next, page_starts}
use Rattle.ts_clip.proofs.grid_rows.rows_on_places.Goals as goal

pub loop-place-preserved : goal.loop-place-preserved
loop-place-preserved g c =
    let tells = g.P.Pages.tells in
    let slot : ℕ = c.args.shelf.now.series in
    let columns : List Column = c.args.shelf.now.kind.now.columns in
    let places : List Place = c.args.places.now in
    let grid : GridPlan = c.args.grid.now in
    let o = c.args.offsets in
    let u = g.P.Pages.contents c.args.pages.now in
    let v = g.P.Pages.contents c.loop-place.pages in
    let w = g.P.Pages.contents c.rows_on_page.new.pages in
    let i = c.loop-place.invariant in
    let index : ℕ = c.loop-place.place-index in
    let inside : index < length places = c.loop-place-test.true in
    let place : Place = get_or places index _ in
    let done = c.in_ok-rows_on_page.ensures in
    record {
      call = reads_more tells tt (Ok tt) u v w i.call done.call;
      undisturbed = g.met.P.Pages.«then» c.args.pages.now c.loop-place.pages c.rows_on_page.new.pages i.undisturbed done.undisturbed;
      taken = λ t ps on laid starts.
          let here = page_of slot columns u.page places index _ ps on inside in
          let own = subst (λ (b : List ℕ). IsOn slot columns b place here.0) (sym (i.call.pages t place.page)) here.2 in
          subst (λ (l : List Element). g.V.RowVisitor.took columns c.args.visitor.now l c.rows_on_page.new.visitor) (stamped_next grid o.lower o.upper index here.0 ps here.1)
          (g.met.V.RowVisitor.«then» columns c.args.visitor.now c.loop-place.visitor c.rows_on_page.new.visitor (stamped grid (within o.lower o.upper (all_in (take index ps)))) (stamped grid (within o.lower o.upper (elements_from here.0.0 here.0.1)))
          (i.taken t ps on laid starts) (done.took t here.0 own laid (page_starts grid index here.0 ps here.1 starts)));
    }

pub returns-clause-took : goal.returns-clause-took
returns-clause-took g c = λ t ps on laid starts.
    let columns : List Column = c.args.shelf.now.kind.now.columns in
    let grid : GridPlan = c.args.grid.now in
    let o = c.args.offsets in
    let count = pages_count c.args.shelf.now.series columns (g.P.Pages.contents c.args.pages.now).page c.args.places.now ps on in
    let all : take c.loop-place.place-index ps ≡ ps = take_all c.loop-place.place-index ps (omega (arith, count, c.loop-place-test.false)) in
    subst (λ (l : List OffsetPage). g.V.RowVisitor.took columns c.args.visitor.now (stamped grid (within o.lower o.upper (all_in l))) c.loop-place.visitor) all (c.loop-place.invariant.taken t ps on laid starts)
