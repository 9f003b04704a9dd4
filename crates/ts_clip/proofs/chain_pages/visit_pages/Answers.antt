use Rattle.std.proofs.Common.{Ok, List, drop, get_or, ap, arith}
use Rattle.ts_space.specs.declared.place.Place.{Place}
use Rattle.ts_row.specs.declared.kind.Column.{Column}
use Rattle.ts_row.specs.Row.{Element, seen}
use Rattle.ts_sheets.specs.Stamped.{all_in, within_range}
use Rattle.ts_page.proofs.ReadsLemmas.{reads_none, reads_more, reads_ok}
use Rattle.ts_clip.proofs.ChainPassedLemmas.{passed_none, passed_full, passed_both, passed_same}
use Rattle.ts_clip.proofs.ChainPageLemmas.{readable_since, page_in, within_next, within_parts, pages_all, on_since}
use Rattle.ts_clip.proofs.chain_pages.visit_pages.Goals as goal

pub visit_page-requires : goal.visit_page-requires
visit_page-requires g c = record {
  readable = readable_since g.P.Pages.tells (g.P.Pages.contents c.args.pages.now) (g.P.Pages.contents c.loop-place.pages) _ c.loop-place.invariant.call (c.requires.readable c.loop-place.place-index _ c.loop-place-test.true);
}

pub loop-place-init : goal.loop-place-init
loop-place-init g c = record {
  call = reads_none g.P.Pages.tells (g.P.Pages.contents c.args.pages.now);
  undisturbed = g.met.P.Pages.stays c.args.pages.now;
  fewer = omega arith;
  passed = λ told chain on. passed_none _ c.args.want (g.met.V.EntryVisitor.none c.args.shelf.now.kind.now.columns c.args.visitor.now);
}

pub loop-place-preserved : goal.loop-place-preserved
loop-place-preserved g c =
    let u = g.P.Pages.contents c.args.pages.now in
    let v = g.P.Pages.contents c.loop-place.pages in
    let w = g.P.Pages.contents c.visit_page.new.pages in
    let columns : List Column = c.args.shelf.now.kind.now.columns in
    let i = c.loop-place.invariant in
    let places : List Place = c.args.places.now in
    let place : Place = get_or places c.loop-place.place-index _ in
    let e = c.in_ok-left.ensures in
    record {
      call = reads_ok g.P.Pages.tells c.in_ok-left.left tt u w (reads_more g.P.Pages.tells tt (Ok c.in_ok-left.left) u v w i.call e.call);
      undisturbed = g.met.P.Pages.«then» c.args.pages.now c.loop-place.pages c.visit_page.new.pages i.undisturbed e.undisturbed;
      fewer = omega (arith, i.fewer, e.fewer);
      passed = λ told chain on.
          let p = page_in c.args.shelf.now.series columns u.page places c.loop-place.place-index _ chain on c.loop-place-test.true in
          passed_same _ _ _ _ _ (within_next c.args.from c.args.to c.args.shelf.now.series columns u.page place c.loop-place.place-index chain p)
          (passed_both _ _ _ _ _ _ _ _ (g.met.V.EntryVisitor.«then» columns c.args.visitor.now c.loop-place.visitor c.visit_page.new.visitor)
          (i.passed told chain on) (e.passed told p.elements (on_since g.P.Pages.tells c.args.shelf.now.series columns u v place p.elements i.call told p.on)));
    }

pub returns-then-left-eq0-clause-passed : goal.returns-then-left-eq0-clause-passed
returns-then-left-eq0-clause-passed g c = λ told chain on.
    let columns : List Column = c.args.shelf.now.kind.now.columns in
    let rest : List Element = seen (within_range c.args.from c.args.to (all_in (drop c.loop-place.place-index chain))) in
    passed_same _ _ _ _ _ (within_parts c.args.from c.args.to c.loop-place.place-index chain)
    (passed_both _ _ _ _ _ _ _ rest (g.met.V.EntryVisitor.«then» columns c.args.visitor.now c.loop-place.visitor c.loop-place.visitor)
    (c.loop-place.invariant.passed told chain on)
    (passed_full _ c.loop-place.left rest (g.met.V.EntryVisitor.none columns c.loop-place.visitor) c.if-left-eq0.true))

pub returns-clause-passed : goal.returns-clause-passed
returns-clause-passed g c = λ told chain on.
    passed_same _ _ _ _ _
    (ap (λ (l : List (List Element)). seen (within_range c.args.from c.args.to (all_in l))) (pages_all c.args.shelf.now.series c.args.shelf.now.kind.now.columns (g.P.Pages.contents c.args.pages.now).page c.loop-place.place-index c.args.places.now chain on c.loop-place-test.false))
    (c.loop-place.invariant.passed told chain on)
