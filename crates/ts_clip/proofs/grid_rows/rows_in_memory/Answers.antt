use Rattle.std.proofs.Common.{◌≡◌, ℕ, List, length, take, sym, ap, subst, ◌∙◌, arith}
use Rattle.std.proofs.lemmas.List.{length_push, take_all}
use Rattle.std.proofs.lemmas.Slice.Zip.{AllZip-long, zip_turn, zip_end}
use Rattle.ts_page.specs.declared.page.Page.{Page}
use Rattle.ts_space.specs.declared.place.Place.{Place}
use Rattle.ts_row.specs.declared.kind.Column.{Column}
use Rattle.ts_row.specs.Row.{Element}
use Rattle.ts_regular.specs.RegularPage.{elements_from}
use Rattle.ts_regular.specs.Places.{OffsetPage, IsOn, all_in}
use Rattle.ts_clip.proofs.GridPlaceLemmas.{page_of, pages_count}
use Rattle.ts_regular.specs.Range.{within}
use Rattle.ts_sheets.specs.Stamped.{stamped}
use Rattle.ts_offset.specs.Grid.{GridPlan}
use Rattle.ts_clip.proofs.GridRowLemmas.{stamped_next, page_starts}
use Rattle.ts_clip.proofs.PageListLemmas.{read_there}
use Rattle.ts_clip.proofs.grid_rows.rows_in_memory.Goals as goal

pub loop-place-preserved : goal.loop-place-preserved
loop-place-preserved g c =
    let slot : ℕ = c.args.shelf.now.series in
    let columns : List Column = c.args.shelf.now.kind.now.columns in
    let places : List Place = c.args.places.now in
    let read : List Page = c.args.read.now in
    let grid : GridPlan = c.args.grid.now in
    let o = c.args.offsets in
    let i : ℕ = length c.loop-place.yielded in
    let place : Place = c.in-Some.place.now in
    let page : Page = c.in-Some.page.now in
    let turn = zip_turn places read c.loop-place.yielded c.into_iter-place-iterator.result c.loop-place.place-iterator c.next.new.self c.next.result (cc) (cc) c.loop-place.yielded_by (c.in-Some.place, c.in-Some.page) c.in-Some.is c.next.ensures.steps in
    λ pages ps are on laid starts.
    let here = page_of slot columns pages places i place ps on turn.0 in
    let there = read_there pages places read i place page are turn.0 (turn.2 place) (turn.3 page) (λ b q. IsOn slot columns b q here.0) here.2 in
    subst (λ (l : List Element). g.V.RowVisitor.took columns c.args.visitor.now l c.rows_of_page.new.visitor)
    (stamped_next grid o.lower o.upper i here.0 ps here.1 ∙ ap (λ (n : ℕ). stamped grid (within o.lower o.upper (all_in (take n ps)))) (sym (length_push c.loop-place.yielded (c.in-Some.place, c.in-Some.page))))
    (g.met.V.RowVisitor.«then» columns c.args.visitor.now c.loop-place.visitor c.rows_of_page.new.visitor (stamped grid (within o.lower o.upper (all_in (take i ps)))) (stamped grid (within o.lower o.upper (elements_from here.0.0 here.0.1)))
    (c.loop-place.invariant pages ps are on laid starts) (c.in_ok-rows_of_page.ensures.took here.0 there laid (page_starts grid i here.0 ps here.1 starts)))

pub returns : goal.returns
returns g c =
    let slot : ℕ = c.args.shelf.now.series in
    let columns : List Column = c.args.shelf.now.kind.now.columns in
    let places : List Place = c.args.places.now in
    let read : List Page = c.args.read.now in
    let grid : GridPlan = c.args.grid.now in
    let o = c.args.offsets in
    let i : ℕ = length c.loop-place.yielded in
    let all = zip_end places read c.loop-place.yielded c.into_iter-place-iterator.result c.loop-place.place-iterator c.next.new.self c.next.result (cc) (cc) c.loop-place.yielded_by c.in-None.is c.next.ensures.steps in
    record {
      took = λ pages ps are on laid starts.
          let long = AllZip-long (λ (place : Place) (page : Page). page.bytes ≡ pages place.page) places read are in
          let count = pages_count slot columns pages places ps on in
          subst (λ (l : List OffsetPage). g.V.RowVisitor.took columns c.args.visitor.now (stamped grid (within o.lower o.upper (all_in l))) c.loop-place.visitor)
          (take_all i ps (omega (arith, all, long, count)))
          (c.loop-place.invariant pages ps are on laid starts);
    }
