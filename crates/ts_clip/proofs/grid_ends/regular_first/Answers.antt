use Rattle.std.proofs.Common.{◌≡◌, ℕ, Option, Some, None, Ok, List, [], drop, get_or, sym, ap, subst, ◌∙◌, arith}
use Rattle.std.proofs.lemmas.List.{drop_all}
use Rattle.ts_space.specs.declared.place.Place.{Place}
use Rattle.ts_row.specs.declared.kind.Column.{Column}
use Rattle.ts_regular.specs.RegularPage.{OffsetElement, elements_from}
use Rattle.ts_regular.specs.Places.{OffsetPage, AreOn, IsOn, all_in}
use Rattle.ts_regular.specs.OnePage.{IsToldOn}
use Rattle.ts_page.proofs.ReadsLemmas.{reads_more, reads_ok}
use Rattle.ts_clip.specs.Grid.{first_of}
use Rattle.ts_clip.proofs.GridFirstLemmas.{first_ahead, first_here}
use Rattle.ts_clip.proofs.GridPlaceLemmas.{page_at, pages_count}
use Rattle.ts_clip.proofs.grid_ends.regular_first.Goals as goal

pub returns-in-Some-clause-first : goal.returns-in-Some-clause-first
returns-in-Some-clause-first g c = λ t ps on.
    let slot : ℕ = c.args.shelf.now.series in
    let columns : List Column = c.args.shelf.now.kind.now.columns in
    let places : List Place = c.places-places.result.now in
    let u = g.P.Pages.contents c.args.pages.now in
    let v = g.P.Pages.contents c.loop-place.pages in
    let i = c.loop-place.invariant in
    let index : ℕ = c.loop-place.place-index in
    let place : Place = get_or places index _ in
    let all = subst (λ (l : List Place). AreOn slot columns u.page l ps) (sym c.places-places.ensures.ok) on in
    let here = page_at slot columns u.page places index _ ps c.places-places.ensures.rising all c.loop-place-test.true in
    let own = subst (λ (b : List ℕ). IsOn slot columns b place here.page) (sym (i.call.pages t place.page)) here.on in
    let found : IsToldOn g.P.Pages.tells slot columns place v (λ p. Some c.in-Some.first ≡ first_of (elements_from p.0 p.1)) =
    subst (λ (o : Option OffsetElement). IsToldOn g.P.Pages.tells slot columns place v (λ p. o ≡ first_of (elements_from p.0 p.1))) c.in-Some.is c.in_ok-first.ensures.first in
    first_here slot columns u.page place index ps here (i.ahead t ps all) c.in-Some.first (found t here.page own)

pub loop-place-preserved : goal.loop-place-preserved
loop-place-preserved g c =
    let tells = g.P.Pages.tells in
    let slot : ℕ = c.args.shelf.now.series in
    let columns : List Column = c.args.shelf.now.kind.now.columns in
    let places : List Place = c.places-places.result.now in
    let u = g.P.Pages.contents c.args.pages.now in
    let v = g.P.Pages.contents c.loop-place.pages in
    let w = g.P.Pages.contents c.first_on.new.pages in
    let i = c.loop-place.invariant in
    let index : ℕ = c.loop-place.place-index in
    let place : Place = get_or places index _ in
    let done = c.in_ok-first.ensures in
    let found : IsToldOn tells slot columns place v (λ p. None ≡ first_of (elements_from p.0 p.1)) =
    subst (λ (o : Option OffsetElement). IsToldOn tells slot columns place v (λ p. o ≡ first_of (elements_from p.0 p.1))) c.in_default.is done.first in
    record {
      call = reads_ok tells c.in_ok-first.field-0 tt u w (reads_more tells tt (Ok c.in_ok-first.field-0) u v w i.call done.call);
      undisturbed = g.met.P.Pages.«then» c.args.pages.now c.loop-place.pages c.first_on.new.pages i.undisturbed done.undisturbed;
      ahead = λ t ps on.
          let here = page_at slot columns u.page places index _ ps c.places-places.ensures.rising on c.loop-place-test.true in
          first_ahead slot columns u.page place index ps here (i.ahead t ps on) (found t here.page (subst (λ (b : List ℕ). IsOn slot columns b place here.page) (sym (i.call.pages t place.page)) here.on));
    }

pub returns-clause-first : goal.returns-clause-first
returns-clause-first g c = λ t ps on.
    let slot : ℕ = c.args.shelf.now.series in
    let columns : List Column = c.args.shelf.now.kind.now.columns in
    let places : List Place = c.places-places.result.now in
    let u = g.P.Pages.contents c.args.pages.now in
    let all = subst (λ (l : List Place). AreOn slot columns u.page l ps) (sym c.places-places.ensures.ok) on in
    let count = pages_count slot columns u.page places ps all in
    let over : drop c.loop-place.place-index ps ≡ [] = drop_all c.loop-place.place-index ps (omega (arith, count, c.loop-place-test.false)) in
    sym (c.loop-place.invariant.ahead t ps all ∙ ap (λ (l : List OffsetPage). first_of (all_in l)) over)
