use Rattle.std.proofs.Common.{◌≡◌, ℕ, suc, ◌-◌, ◌<◌, Ok, List, length, drop, get_or, sym, ap, arith, length-append}
use Rattle.std.proofs.lemmas.List.{drop_all}
use Rattle.ts_space.specs.declared.place.Place.{Place}
use Rattle.ts_row.specs.declared.kind.Column.{Column}
use Rattle.ts_row.specs.Row.{Element, seen}
use Rattle.ts_sheets.specs.Stamped.{all_in, within_range}
use Rattle.ts_page.proofs.ReadsLemmas.{reads_none, reads_more, reads_ok}
use Rattle.ts_chain.proofs.LastLemmas.{chained_count}
use Rattle.ts_clip.proofs.ChainPageLemmas.{readable_since, page_in, within_before, on_since}
use Rattle.ts_clip.proofs.chain_pages.count_back.Goals as goal

pub count_page-requires : goal.count_page-requires
count_page-requires g c = record {
  readable = readable_since g.P.Pages.tells (g.P.Pages.contents c.args.pages.now) (g.P.Pages.contents c.loop-index.pages) _ c.loop-index.invariant.call (c.requires.readable (c.loop-index.index - 1) _ (omega (arith, c.loop-index-test.true, c.loop-index.invariant.within)));
}

pub loop-index-init : goal.loop-index-init
loop-index-init g c = record {
  within = omega arith;
  few = omega arith;
  call = reads_none g.P.Pages.tells (g.P.Pages.contents c.args.pages.now);
  undisturbed = g.met.P.Pages.stays c.args.pages.now;
  counted = λ told chain on.
      sym (ap (λ (l : List (List Element)). length (seen (within_range c.args.from c.args.to (all_in l))))
      (drop_all (length c.args.places.now) chain (omega (arith, chained_count c.args.shelf.now.series c.args.shelf.now.kind.now.columns (g.P.Pages.contents c.args.pages.now).page c.args.places.now chain on))));
}

pub loop-index-preserved : goal.loop-index-preserved
loop-index-preserved g c =
    let u = g.P.Pages.contents c.args.pages.now in
    let v = g.P.Pages.contents c.loop-index.pages in
    let w = g.P.Pages.contents c.count_page.new.pages in
    let columns : List Column = c.args.shelf.now.kind.now.columns in
    let i = c.loop-index.invariant in
    let places : List Place = c.args.places.now in
    let some = c.loop-index-test.true in
    let within : c.loop-index.index - 1 < length places = omega (arith, some, i.within) in
    let place : Place = get_or places (c.loop-index.index - 1) _ in
    let e = c.in_ok-count.ensures in
    let below = c.if-count-enough.true in
    let enough = c.requires.enough in
    record {
      within = omega (arith, i.within);
      few = omega (arith, below, enough, e.few);
      call = reads_ok g.P.Pages.tells c.in_ok-count.field-0 tt u w (reads_more g.P.Pages.tells tt (Ok c.in_ok-count.field-0) u v w i.call e.call);
      undisturbed = g.met.P.Pages.«then» c.args.pages.now c.loop-index.pages c.count_page.new.pages i.undisturbed e.undisturbed;
      counted = λ told chain on.
          let p = page_in c.args.shelf.now.series columns u.page places (c.loop-index.index - 1) _ chain on within in
          let before = i.counted told chain on in
          let own = e.count told p.elements (on_since g.P.Pages.tells c.args.shelf.now.series columns u v place p.elements i.call told p.on) in
          let both = within_before c.args.from c.args.to c.args.shelf.now.series columns u.page place (c.loop-index.index - 1) chain p in
          let next : suc (c.loop-index.index - 1) ≡ c.loop-index.index = omega (arith, some) in
          omega (
            arith,
            before,
            own,
            ap length both,
            ap (λ (n : ℕ). length (seen (within_range c.args.from c.args.to (all_in (drop n chain))))) next,
            length-append (seen (within_range c.args.from c.args.to p.elements)) (seen (within_range c.args.from c.args.to (all_in (drop (suc (c.loop-index.index - 1)) chain)))),
          );
    }
