-- A row is put on the page of the place that the search finds, or on one that is taken.
use Rattle.std.proofs.Common.{◌≡◌, ◌+◌, ◌-◌, ◌%◌, ◌≤◌, ℤ, pos, None, List, ℕ, sym, ap, subst, ◌∙◌, arith, get_or}
use Rattle.ts_space.specs.declared.place.Place.{Place}
use Rattle.ts_space.specs.declared.moved.Come.TheVariants.{One}
use Rattle.ts_space.specs.Moved.{moved_to}
use Rattle.ts_space.specs.Place.{place_at, search_of}
use Rattle.ts_row.specs.declared.kind.Column.{Column}
use Rattle.ts_regular.specs.RegularPage.{base_of, regular_room}
use Rattle.ts_regular.specs.Places.{ArePlaces}
use Rattle.ts_regular.specs.OnePage.{IsEditedOn, IsPutAlone, with_row}
use Rattle.ts_regular.specs.Call.{IsPut}
use Rattle.ts_regular.proofs.PlaceLemmas.{found_ok, gap_err, none_err}
use Rattle.ts_regular.proofs.EditLemmas.{found_get, put_first, put_there, whole_base}
use Rattle.ts_regular.proofs.put.regular_put.Goals as goal

pub put_on-requires-clause-at : goal.put_on-requires-clause-at
put_on-requires-clause-at g c =
    let columns : List Column = c.args.shelf.now.kind.now.columns in
    let places : List Place = c.places-places.result.now in
    let base : c.base_of-base.result ≡ base_of columns c.args.offset = c.base_of-base.ensures.value in
    let f = found_ok (pos (base_of columns c.args.offset)) places c.in-Ok.index c.places-places.ensures.rising (sym c.in-Ok.is ∙ c.holder.ensures.ok ∙ ap (λ (z : ℤ). search_of z places) (ap pos base)) in
    ap (λ (p : Place). p.at) (found_get (pos (base_of columns c.args.offset)) places c.in-Ok.index _ f) ∙ f.begins ∙ ap pos (sym base)

pub put_alone-requires-clause-whole : goal.put_alone-requires-clause-whole
put_alone-requires-clause-whole g c =
    let columns : List Column = c.args.shelf.now.kind.now.columns in
    ap (λ (b : ℕ). b % regular_room columns) c.base_of-base.ensures.value ∙ whole_base columns c.args.offset

pub put_alone-requires-clause-spare : goal.put_alone-requires-clause-spare
put_alone-requires-clause-spare g c =
    let columns : List Column = c.args.shelf.now.kind.now.columns in
    let places : List Place = c.places-places.result.now in
    let base : c.base_of-base.result ≡ base_of columns c.args.offset = c.base_of-base.ensures.value in
    c.requires.spare (subst (λ (ps : List Place). place_at (pos (base_of columns c.args.offset)) ps ≡ None) c.places-places.ensures.ok
    (none_err (pos (base_of columns c.args.offset)) places c.in-Err.index (sym c.in-Err.is ∙ c.holder.ensures.ok ∙ ap (λ (z : ℤ). search_of z places) (ap pos base))))

pub returns-in_ok-place-in-Ok-clause-ok : goal.returns-in_ok-place-in-Ok-clause-ok
returns-in_ok-place-in-Ok-clause-ok g c =
    let tells = g.P.Pages.tells in
    let slot : ℕ = c.args.shelf.now.series in
    let columns : List Column = c.args.shelf.now.kind.now.columns in
    let n : ℕ = c.args.offset in
    let places : List Place = c.places-places.result.now in
    let v = g.P.Pages.contents c.args.pages.now in
    let w = g.P.Pages.contents c.put_on.new.pages in
    let base : c.base_of-base.result ≡ base_of columns n = c.base_of-base.ensures.value in
    let f = found_ok (pos (base_of columns n)) places c.in-Ok.index c.places-places.ensures.rising (sym c.in-Ok.is ∙ c.holder.ensures.ok ∙ ap (λ (z : ℤ). search_of z places) (ap pos base)) in
    let same : get_or places c.in-Ok.index _ ≡ f.place = found_get (pos (base_of columns n)) places c.in-Ok.index _ f in
    let i : ℕ = n - c.base_of-base.result in
    let made = put_there tells slot columns n places c.in-Ok.index v w f i (omega (arith, base, c.base_of-base.ensures.low)) (omega (arith, base, c.base_of-base.ensures.low, c.base_of-base.ensures.high))
    c.places-places.ensures.rising (subst (λ (ps : List Place). ArePlaces columns v ps) (sym c.places-places.ensures.ok) c.requires.places) c.in_ok-place-in-Ok.place c.args.row.now
    (subst (λ (p : Place). IsEditedOn tells slot columns (with_row i c.args.row.now) p c.in_ok-place-in-Ok.place v w) same c.in_ok-place-in-Ok.ensures.ok)
    (subst (λ (p : Place). c.in_ok-place-in-Ok.place.count ≤ p.count + 1) same c.in_ok-place-in-Ok.ensures.more) in
    subst (λ (ps : List Place). IsPut tells slot columns n c.args.row.now ps (moved_to (record { index = c.in-Ok.index; gone = 1; come = One c.in_ok-place-in-Ok.place }) ps) v w) c.places-places.ensures.ok made

pub returns-in_ok-place-in-Err-clause-ok : goal.returns-in_ok-place-in-Err-clause-ok
returns-in_ok-place-in-Err-clause-ok g c =
    let tells = g.P.Pages.tells in
    let slot : ℕ = c.args.shelf.now.series in
    let columns : List Column = c.args.shelf.now.kind.now.columns in
    let n : ℕ = c.args.offset in
    let places : List Place = c.places-places.result.now in
    let v = g.P.Pages.contents c.args.pages.now in
    let w = g.P.Pages.contents c.put_alone.new.pages in
    let base : c.base_of-base.result ≡ base_of columns n = c.base_of-base.ensures.value in
    let f = gap_err (pos (base_of columns n)) places c.in-Err.index c.places-places.ensures.rising (sym c.in-Err.is ∙ c.holder.ensures.ok ∙ ap (λ (z : ℤ). search_of z places) (ap pos base)) in
    let i : ℕ = n - c.base_of-base.result in
    let made = put_first tells slot columns n places c.in-Err.index v w f i (omega (arith, base, c.base_of-base.ensures.low)) (omega (arith, base, c.base_of-base.ensures.low, c.base_of-base.ensures.high))
    c.places-places.ensures.rising (subst (λ (ps : List Place). ArePlaces columns v ps) (sym c.places-places.ensures.ok) c.requires.places) c.in_ok-place-in-Err.place c.args.row.now
    (subst (λ (b : ℕ). IsPutAlone tells slot columns b i c.args.row.now c.in_ok-place-in-Err.place v w) base c.in_ok-place-in-Err.ensures.ok) in
    subst (λ (ps : List Place). IsPut tells slot columns n c.args.row.now ps (moved_to (record { index = c.in-Err.index; gone = 0; come = One c.in_ok-place-in-Err.place }) ps) v w) c.places-places.ensures.ok made
