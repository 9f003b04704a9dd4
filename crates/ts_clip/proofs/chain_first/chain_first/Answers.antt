use Rattle.std.proofs.Common.{◌≡◌, ℕ, Option, Ok, List, [], ◌∷◌, get_or, sym, ap, subst, ◌∙◌}
use Rattle.std.specs.Prelude.{slice_get}
use Rattle.ts_space.specs.declared.place.Place.{Place}
use Rattle.ts_row.specs.declared.kind.Column.{Column}
use Rattle.ts_row.specs.Row.{Element, seen}
use Rattle.ts_irregular.specs.Call.{IsTold}
use Rattle.ts_sheets.specs.Stamped.{all_in}
use Rattle.ts_sheets.specs.Places.{AreChained}
use Rattle.ts_page.proofs.ReadsLemmas.{reads_more, reads_ok}
use Rattle.ts_entry.specs.Entry.{first_seen}
use Rattle.ts_clip.proofs.ChainPageLemmas.{page_in, pages_all, on_since}
use Rattle.ts_clip.proofs.ChainFirstLemmas.{page_hidden, page_first}
use Rattle.ts_clip.proofs.chain_first.chain_first.Goals as goal

pub returns-in-Some-clause-first : goal.returns-in-Some-clause-first
returns-in-Some-clause-first g c = λ told es have.
    let u = g.P.Pages.contents c.args.pages.now in
    let v = g.P.Pages.contents c.loop-place.pages in
    let slot : ℕ = c.args.shelf.now.series in
    let columns : List Column = c.args.shelf.now.kind.now.columns in
    let places : List Place = c.places-places.result.now in
    let place : Place = get_or places c.loop-place.place-index _ in
    let on : AreChained slot columns u.page places have.chain = subst (λ ps. AreChained slot columns u.page ps have.chain) (sym c.places-places.ensures.ok) have.on in
    let p = page_in slot columns u.page places c.loop-place.place-index _ have.chain on c.loop-place-test.true in
    let own = subst (λ (o : Option Element). IsTold g.P.Pages.tells slot columns (place ∷ []) v (λ (fs : List Element). o ≡ first_seen fs)) c.in-Some.is c.in_ok-first.ensures.first in
    page_first slot columns u.page place c.loop-place.place-index have.chain p (c.loop-place.invariant.none told have.chain on) c.in-Some.first
    (own told p.elements (on_since g.P.Pages.tells slot columns u v place p.elements c.loop-place.invariant.call told p.on))
    ∙ ap first_seen have.all

pub loop-place-preserved : goal.loop-place-preserved
loop-place-preserved g c =
    let u = g.P.Pages.contents c.args.pages.now in
    let v = g.P.Pages.contents c.loop-place.pages in
    let w = g.P.Pages.contents c.first_on.new.pages in
    let slot : ℕ = c.args.shelf.now.series in
    let columns : List Column = c.args.shelf.now.kind.now.columns in
    let places : List Place = c.places-places.result.now in
    let place : Place = get_or places c.loop-place.place-index _ in
    let i = c.loop-place.invariant in
    let e = c.in_ok-first.ensures in
    record {
      call = reads_ok g.P.Pages.tells c.in_ok-first.field-0 tt u w (reads_more g.P.Pages.tells tt (Ok c.in_ok-first.field-0) u v w i.call e.call);
      undisturbed = g.met.P.Pages.«then» c.args.pages.now c.loop-place.pages c.first_on.new.pages i.undisturbed e.undisturbed;
      none = λ told chain on.
          let p = page_in slot columns u.page places c.loop-place.place-index _ chain on c.loop-place-test.true in
          page_hidden slot columns u.page place c.loop-place.place-index chain p (i.none told chain on)
          (sym c.in_default.is ∙ e.first told p.elements (on_since g.P.Pages.tells slot columns u v place p.elements i.call told p.on));
    }

pub returns-clause-first : goal.returns-clause-first
returns-clause-first g c = λ told es have.
    let slot : ℕ = c.args.shelf.now.series in
    let columns : List Column = c.args.shelf.now.kind.now.columns in
    let pages = (g.P.Pages.contents c.args.pages.now).page in
    let places : List Place = c.places-places.result.now in
    let on : AreChained slot columns pages places have.chain = subst (λ ps. AreChained slot columns pages ps have.chain) (sym c.places-places.ensures.ok) have.on in
    let all = pages_all slot columns pages c.loop-place.place-index places have.chain on c.loop-place-test.false in
    sym (ap first_seen (sym have.all) ∙ ap (λ (l : List Element). slice_get l 0) (sym (ap (λ (l : List (List Element)). seen (all_in l)) all) ∙ c.loop-place.invariant.none told have.chain on))
