use Rattle.std.proofs.Common.{Ok, List, get_or, ap, subst, ◌∙◌, take}
use Rattle.ts_space.specs.declared.place.Place.{Place}
use Rattle.ts_row.specs.declared.kind.Column.{Column}
use Rattle.ts_row.specs.Row.{Element}
use Rattle.ts_sheets.specs.Stamped.{all_in, within_range}
use Rattle.ts_page.proofs.ReadsLemmas.{reads_none, reads_more}
use Rattle.ts_clip.proofs.ChainPageLemmas.{readable_since, page_in, pages_all, on_since}
use Rattle.ts_clip.proofs.ChainRowLemmas.{range_next}
use Rattle.ts_clip.proofs.chain_rows.chain_rows.Goals as goal

pub rows_on_page-requires : goal.rows_on_page-requires
rows_on_page-requires g c = record {
  readable = readable_since g.P.Pages.tells (g.P.Pages.contents c.args.pages.now) (g.P.Pages.contents c.loop-place.pages) _ c.loop-place.invariant.call (c.requires.readable c.loop-place.place-index _ c.loop-place-test.true);
}

pub loop-place-init : goal.loop-place-init
loop-place-init g c = record {
  call = reads_none g.P.Pages.tells (g.P.Pages.contents c.args.pages.now);
  undisturbed = g.met.P.Pages.stays c.args.pages.now;
  taken = λ told chain on. g.met.V.RowVisitor.none c.args.shelf.now.kind.now.columns c.args.visitor.now;
}

pub loop-place-preserved : goal.loop-place-preserved
loop-place-preserved g c =
    let u = g.P.Pages.contents c.args.pages.now in
    let v = g.P.Pages.contents c.loop-place.pages in
    let w = g.P.Pages.contents c.rows_on_page.new.pages in
    let columns : List Column = c.args.shelf.now.kind.now.columns in
    let i = c.loop-place.invariant in
    let places : List Place = c.args.places.now in
    let place : Place = get_or places c.loop-place.place-index _ in
    let e = c.in_ok-rows_on_page.ensures in
    record {
      call = reads_more g.P.Pages.tells tt (Ok tt) u v w i.call e.call;
      undisturbed = g.met.P.Pages.«then» c.args.pages.now c.loop-place.pages c.rows_on_page.new.pages i.undisturbed e.undisturbed;
      taken = λ told chain on.
          let p = page_in c.args.shelf.now.series columns u.page places c.loop-place.place-index _ chain on c.loop-place-test.true in
          subst (λ (l : List Element). g.V.RowVisitor.took columns c.args.visitor.now l c.rows_on_page.new.visitor) (range_next c.args.from c.args.to c.args.shelf.now.series columns u.page place c.loop-place.place-index chain p)
          (g.met.V.RowVisitor.«then» columns c.args.visitor.now c.loop-place.visitor c.rows_on_page.new.visitor (within_range c.args.from c.args.to (all_in (take c.loop-place.place-index chain))) (within_range c.args.from c.args.to p.elements)
          (i.taken told chain on) (e.read told p.elements (on_since g.P.Pages.tells c.args.shelf.now.series columns u v place p.elements i.call told p.on)));
    }

pub returns-clause-read : goal.returns-clause-read
returns-clause-read g c = λ told es have.
    let columns : List Column = c.args.shelf.now.kind.now.columns in
    let all = pages_all c.args.shelf.now.series columns (g.P.Pages.contents c.args.pages.now).page c.loop-place.place-index c.args.places.now have.0 have.1 c.loop-place-test.false in
    subst (λ (l : List Element). g.V.RowVisitor.took columns c.args.visitor.now l c.loop-place.visitor)
    (ap (λ (l : List (List Element)). within_range c.args.from c.args.to (all_in l)) all ∙ ap (within_range c.args.from c.args.to) have.2)
    (c.loop-place.invariant.taken told have.0 have.1)
