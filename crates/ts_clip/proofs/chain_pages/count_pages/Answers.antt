use Rattle.std.proofs.Common.{◌-◌, ◌^◌, min, Ok, List, length, take, get_or, refl, ap, ◌∙◌, arith, length-append}
use Rattle.ts_space.specs.declared.place.Place.{Place}
use Rattle.ts_row.specs.declared.kind.Column.{Column}
use Rattle.ts_row.specs.Row.{Element, seen}
use Rattle.ts_sheets.specs.Stamped.{all_in, within_range}
use Rattle.ts_page.proofs.ReadsLemmas.{reads_none, reads_more, reads_ok}
use Rattle.ts_clip.proofs.ChainPageLemmas.{readable_since, page_in, within_next, pages_all, on_since}
use Rattle.ts_clip.proofs.chain_pages.count_pages.Goals as goal

pub count_page-requires : goal.count_page-requires
count_page-requires g c = record {
  readable = readable_since g.P.Pages.tells (g.P.Pages.contents c.args.pages.now) (g.P.Pages.contents c.loop-place.pages) _ c.loop-place.invariant.call (c.requires.readable c.loop-place.place-index _ c.loop-place-test.true);
}

pub loop-place-init : goal.loop-place-init
loop-place-init g c = record {
  call = reads_none g.P.Pages.tells (g.P.Pages.contents c.args.pages.now);
  undisturbed = g.met.P.Pages.stays c.args.pages.now;
  counted = λ told chain on. refl;
}

pub loop-place-preserved : goal.loop-place-preserved
loop-place-preserved g c =
    let u = g.P.Pages.contents c.args.pages.now in
    let v = g.P.Pages.contents c.loop-place.pages in
    let w = g.P.Pages.contents c.count_page.new.pages in
    let columns : List Column = c.args.shelf.now.kind.now.columns in
    let i = c.loop-place.invariant in
    let places : List Place = c.args.places.now in
    let place : Place = get_or places c.loop-place.place-index _ in
    let e = c.in_ok-count_page.ensures in
    record {
      call = reads_ok g.P.Pages.tells c.in_ok-count_page.field-0 tt u w (reads_more g.P.Pages.tells tt (Ok c.in_ok-count_page.field-0) u v w i.call e.call);
      undisturbed = g.met.P.Pages.«then» c.args.pages.now c.loop-place.pages c.count_page.new.pages i.undisturbed e.undisturbed;
      counted = λ told chain on.
          let p = page_in c.args.shelf.now.series columns u.page places c.loop-place.place-index _ chain on c.loop-place-test.true in
          let before = i.counted told chain on in
          let own = e.count told p.elements (on_since g.P.Pages.tells c.args.shelf.now.series columns u v place p.elements i.call told p.on) in
          let both = within_next c.args.from c.args.to c.args.shelf.now.series columns u.page place c.loop-place.place-index chain p in
          omega (arith, c.saturating_add-count.ensures, before, own, ap length both, length-append (seen (within_range c.args.from c.args.to (all_in (take c.loop-place.place-index chain)))) (seen (within_range c.args.from c.args.to p.elements)));
    }

pub returns-clause-count : goal.returns-clause-count
returns-clause-count g c = λ told chain on.
    c.loop-place.invariant.counted told chain on
    ∙ ap (λ (l : List (List Element)). min (length (seen (within_range c.args.from c.args.to (all_in l)))) (2 ^ 64 - 1))
    (pages_all c.args.shelf.now.series c.args.shelf.now.kind.now.columns (g.P.Pages.contents c.args.pages.now).page c.loop-place.place-index c.args.places.now chain on c.loop-place-test.false)
