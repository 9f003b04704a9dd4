use Rattle.std.proofs.Common.{◌≡◌, ℕ, List, length, take, get_or, sym, ap, subst, ◌∙◌, arith}
use Rattle.std.proofs.lemmas.List.{length_push}
use Rattle.std.proofs.lemmas.Slice.Zip.{AllZip-long, zip_turn, zip_end}
use Rattle.ts_page.specs.declared.page.Page.{Page}
use Rattle.ts_space.specs.declared.place.Place.{Place}
use Rattle.ts_row.specs.declared.kind.Column.{Column}
use Rattle.ts_row.specs.Row.{Element}
use Rattle.ts_irregular.specs.OnePage.{IsOn}
use Rattle.ts_sheets.specs.Stamped.{all_in, within_range}
use Rattle.ts_clip.proofs.ChainPageLemmas.{page_in, pages_all}
use Rattle.ts_clip.proofs.ChainRowLemmas.{range_next}
use Rattle.ts_clip.proofs.PageListLemmas.{read_there}
use Rattle.ts_clip.proofs.chain_rows.chain_rows_of_pages.Goals as goal

pub loop-place-preserved : goal.loop-place-preserved
loop-place-preserved g c =
    let slot : ℕ = c.args.shelf.now.series in
    let columns : List Column = c.args.shelf.now.kind.now.columns in
    let places : List Place = c.args.places.now in
    let read : List Page = c.args.read.now in
    let from = c.args.from in
    let to = c.args.to in
    let i : ℕ = length c.loop-place.yielded in
    let place : Place = c.in-Some.place.now in
    let turn = zip_turn places read c.loop-place.yielded c.into_iter-place-iterator.result c.loop-place.place-iterator c.next.new.self c.next.result (cc) (cc) c.loop-place.yielded_by (c.in-Some.place, c.in-Some.page) c.in-Some.is c.next.ensures.steps in
    λ pages chain are on.
    let p = page_in slot columns pages places i place chain on turn.0 in
    let there = read_there pages places read i place c.in-Some.page.now are turn.0 (turn.2 place) (turn.3 c.in-Some.page.now) (λ b q. IsOn slot columns b q p.elements) p.on in
    subst (λ (l : List Element). g.V.RowVisitor.took columns c.args.visitor.now l c.rows_of_page.new.visitor)
    (range_next from to slot columns pages (get_or places i place) i chain p ∙ ap (λ (n : ℕ). within_range from to (all_in (take n chain))) (sym (length_push c.loop-place.yielded (c.in-Some.place, c.in-Some.page))))
    (g.met.V.RowVisitor.«then» columns c.args.visitor.now c.loop-place.visitor c.rows_of_page.new.visitor (within_range from to (all_in (take i chain))) (within_range from to p.elements)
    (c.loop-place.invariant pages chain are on) (c.in_ok-rows_of_page.ensures.took p.elements there))

pub returns : goal.returns
returns g c =
    let slot : ℕ = c.args.shelf.now.series in
    let columns : List Column = c.args.shelf.now.kind.now.columns in
    let places : List Place = c.args.places.now in
    let read : List Page = c.args.read.now in
    let i : ℕ = length c.loop-place.yielded in
    let all = zip_end places read c.loop-place.yielded c.into_iter-place-iterator.result c.loop-place.place-iterator c.next.new.self c.next.result (cc) (cc) c.loop-place.yielded_by c.in-None.is c.next.ensures.steps in
    record {
      took = λ pages es are have.
          let long = AllZip-long (λ (place : Place) (page : Page). page.bytes ≡ pages place.page) places read are in
          subst (λ (l : List Element). g.V.RowVisitor.took columns c.args.visitor.now l c.loop-place.visitor)
          (ap (λ (l : List (List Element)). within_range c.args.from c.args.to (all_in l)) (pages_all slot columns pages i places have.0 have.1 (omega (arith, all, long)))
          ∙ ap (within_range c.args.from c.args.to) have.2)
          (c.loop-place.invariant pages have.0 are have.1);
    }
