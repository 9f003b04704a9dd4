use Rattle.std.proofs.Common.{◌≡◌, ℕ, ◌+◌, ◌-◌, ◌<◌, IsTrue, Ok, List, [], ℤ, length, take, drop, get_or, sym, ap, subst, ◌∙◌, arith}
use Rattle.std.proofs.lemmas.List.{drop-drop, drop_all}
use Rattle.ts_space.specs.declared.place.Place.{Place}
use Rattle.ts_row.specs.declared.kind.Column.{Column}
use Rattle.ts_regular.specs.RegularPage.{elements_from}
use Rattle.ts_regular.specs.Places.{OffsetPage, IsOn, all_in}
use Rattle.ts_page.proofs.ReadsLemmas.{reads_more, reads_ok}
use Rattle.ts_entry.specs.Entry.{Entry}
use Rattle.ts_clip.specs.Numbered.{numbered, seen_at}
use Rattle.ts_clip.proofs.GridPlaceLemmas.{next_ahead, next_entries, page_at, pages_count}
use Rattle.ts_clip.proofs.grid_visit.visit_places.Goals as goal

pub loop-place-preserved : goal.loop-place-preserved
loop-place-preserved g c =
    let tells = g.P.Pages.tells in
    let slot : ℕ = c.args.shelf.now.series in
    let columns : List Column = c.args.shelf.now.kind.now.columns in
    let places : List Place = c.args.places.now in
    let u = g.P.Pages.contents c.args.pages.now in
    let v = g.P.Pages.contents c.loop-place.pages in
    let w = g.P.Pages.contents c.visit_page.new.pages in
    let i = c.loop-place.invariant in
    let at : ℕ = c.loop-place.at in
    let end : ℕ = c.in_ok-at.at in
    let lower : ℕ = c.args.lower in
    let index : ℕ = c.loop-place.place-index in
    let starts : List ℤ = c.args.starts.now in
    let done = c.in_ok-at.ensures in
    let within : index < length places = c.loop-place-test.true in
    let place : Place = get_or places index _ in
    let moved = λ (t : IsTrue tells) (p : OffsetPage) (on : IsOn slot columns (u.page place.page) place p). subst (λ (b : List ℕ). IsOn slot columns b place p) (sym (i.call.pages t place.page)) on in
    record {
      low = omega (arith, i.low, done.low);
      high = done.high;
      left = done.left ∙ ap (drop (end - at)) i.left ∙ drop-drop (end - at) (at - lower) starts
          ∙ ap (λ (n : ℕ). drop n starts) (let sum : at - lower + (end - at) ≡ end - lower = omega (arith, i.low, done.low) in sum);
      call = reads_ok tells end tt u w (reads_more tells tt (Ok end) u v w i.call done.call);
      undisturbed = g.met.P.Pages.«then» c.args.pages.now c.loop-place.pages c.visit_page.new.pages i.undisturbed done.undisturbed;
      took = λ t ps on.
          let here = page_at slot columns u.page places index _ ps c.requires.rising on within in
          let own = moved t here.page here.on in
          let page = subst (λ (l : List ℤ). g.V.EntryVisitor.took columns c.loop-place.visitor (numbered (seen_at (elements_from here.page.0 here.page.1)) at (take (end - at) l)) c.visit_page.new.visitor) i.left (done.took t here.page own) in
          subst (λ (l : List Entry). g.V.EntryVisitor.took columns c.args.visitor.now l c.visit_page.new.visitor)
          (next_entries slot columns u.page place index ps here at end c.args.upper done.low done.high (i.ahead t ps on) lower starts i.low (done.own t here.page own))
          (g.met.V.EntryVisitor.«then» columns c.args.visitor.now c.loop-place.visitor c.visit_page.new.visitor (numbered (seen_at (all_in ps)) lower (take (at - lower) starts)) _ (i.took t ps on) page);
      ahead = λ t ps on.
          let here = page_at slot columns u.page places index _ ps c.requires.rising on within in
          next_ahead slot columns u.page place index ps here at end c.args.upper done.low done.high (i.ahead t ps on) (done.rest t here.page (moved t here.page here.on));
    }

pub returns-clause-rest : goal.returns-clause-rest
returns-clause-rest g c = λ t ps on n above below.
    let places : List Place = c.args.places.now in
    let count = pages_count c.args.shelf.now.series c.args.shelf.now.kind.now.columns (g.P.Pages.contents c.args.pages.now).page places ps on in
    let over : drop c.loop-place.place-index ps ≡ [] = drop_all c.loop-place.place-index ps (omega (arith, count, c.loop-place-test.false)) in
    c.loop-place.invariant.ahead t ps on n above below ∙ ap (λ (l : List OffsetPage). seen_at (all_in l) n) over
