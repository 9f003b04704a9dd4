-- The element is taken from the page of the place that the search finds.
use Rattle.std.proofs.Common.{◌≡◌, ◌-◌, All, ℤ, pos, Option, Some, None, List, ℕ, sym, ap, subst, ◌∙◌, arith, get_or}
use Rattle.ts_space.specs.declared.place.Place.{Place}
use Rattle.ts_space.specs.declared.moved.Come.{Come}
use Rattle.ts_space.specs.Place.{search_of}
use Rattle.ts_row.specs.declared.kind.Column.{Column}
use Rattle.ts_regular.specs.RegularPage.{base_of}
use Rattle.ts_regular.specs.Places.{ArePlaces, IsPlace}
use Rattle.ts_regular.specs.OnePage.{IsTakenOn}
use Rattle.ts_regular.specs.Call.{IsMissing, IsRemoved}
use Rattle.ts_regular.proofs.PlaceLemmas.{found_ok}
use Rattle.ts_regular.proofs.EditLemmas.{found_get, found_within, gap_not, missing, removed, none_missing}
use Rattle.ts_regular.proofs.remove.regular_remove.Goals as goal

pub returns-in_default-clause-ok : goal.returns-in_default-clause-ok
returns-in_default-clause-ok g c =
    let tells = g.P.Pages.tells in
    let slot : ℕ = c.args.shelf.now.series in
    let columns : List Column = c.args.shelf.now.kind.now.columns in
    let n : ℕ = c.args.offset in
    let places : List Place = c.places-places.result.now in
    let v = g.P.Pages.contents c.args.pages.now in
    let base : c.base_of-base.result ≡ base_of columns n = c.base_of-base.ensures.value in
    let gap = gap_not (pos (base_of columns n)) places c.holder.result c.places-places.ensures.rising
    (c.holder.ensures.ok ∙ ap (λ (z : ℤ). search_of z places) (ap pos base)) (λ i same. c.in_default.not-Ok i same) in
    subst (λ (ps : List Place). IsMissing tells slot columns n ps v v) c.places-places.ensures.ok
    (none_missing tells slot columns n places gap.0 v gap.1 (n - c.base_of-base.result) (omega (arith, base, c.base_of-base.ensures.low)) (omega (arith, base, c.base_of-base.ensures.low, c.base_of-base.ensures.high)))

pub take_on-requires-clause-place : goal.take_on-requires-clause-place
take_on-requires-clause-place g c =
    let columns : List Column = c.args.shelf.now.kind.now.columns in
    let places : List Place = c.places-places.result.now in
    let v = g.P.Pages.contents c.args.pages.now in
    let base : c.base_of-base.result ≡ base_of columns c.args.offset = c.base_of-base.ensures.value in
    let f = found_ok (pos (base_of columns c.args.offset)) places c.in-Ok.index c.places-places.ensures.rising (sym c.in-Ok.is ∙ c.holder.ensures.ok ∙ ap (λ (z : ℤ). search_of z places) (ap pos base)) in
    let each : All (IsPlace columns v) places = subst (All (IsPlace columns v)) (sym c.places-places.ensures.ok) c.requires.places.each in
    each c.in-Ok.index _ (found_within (pos (base_of columns c.args.offset)) places c.in-Ok.index f)

pub take_on-requires-clause-at : goal.take_on-requires-clause-at
take_on-requires-clause-at g c =
    let columns : List Column = c.args.shelf.now.kind.now.columns in
    let places : List Place = c.places-places.result.now in
    let base : c.base_of-base.result ≡ base_of columns c.args.offset = c.base_of-base.ensures.value in
    let f = found_ok (pos (base_of columns c.args.offset)) places c.in-Ok.index c.places-places.ensures.rising (sym c.in-Ok.is ∙ c.holder.ensures.ok ∙ ap (λ (z : ℤ). search_of z places) (ap pos base)) in
    ap (λ (p : Place). p.at) (found_get (pos (base_of columns c.args.offset)) places c.in-Ok.index _ f) ∙ f.begins ∙ ap pos (sym base)

pub returns-in-None-clause-ok : goal.returns-in-None-clause-ok
returns-in-None-clause-ok g c =
    let tells = g.P.Pages.tells in
    let slot : ℕ = c.args.shelf.now.series in
    let columns : List Column = c.args.shelf.now.kind.now.columns in
    let n : ℕ = c.args.offset in
    let places : List Place = c.places-places.result.now in
    let v = g.P.Pages.contents c.args.pages.now in
    let w = g.P.Pages.contents c.take_on.new.pages in
    let base : c.base_of-base.result ≡ base_of columns n = c.base_of-base.ensures.value in
    let f = found_ok (pos (base_of columns n)) places c.in-Ok.index c.places-places.ensures.rising (sym c.in-Ok.is ∙ c.holder.ensures.ok ∙ ap (λ (z : ℤ). search_of z places) (ap pos base)) in
    let same : get_or places c.in-Ok.index _ ≡ f.place = found_get (pos (base_of columns n)) places c.in-Ok.index _ f in
    let Q : Option Come → Type 0 = λ o. IsTakenOn tells slot columns (n - c.base_of-base.result) f.place v w o in
    let taken = subst (λ (p : Place). IsTakenOn tells slot columns (n - c.base_of-base.result) p v w c.in_ok-take_on.field-0) same c.in_ok-take_on.ensures.ok in
    subst (λ (ps : List Place). IsRemoved tells slot columns n ps v w None) c.places-places.ensures.ok
    (missing tells slot columns n places c.in-Ok.index v w f (n - c.base_of-base.result) (omega (arith, base, c.base_of-base.ensures.low)) (omega (arith, base, c.base_of-base.ensures.low, c.base_of-base.ensures.high)) (subst Q c.in-None.is taken))

pub returns-in-Some-clause-ok : goal.returns-in-Some-clause-ok
returns-in-Some-clause-ok g c =
    let tells = g.P.Pages.tells in
    let slot : ℕ = c.args.shelf.now.series in
    let columns : List Column = c.args.shelf.now.kind.now.columns in
    let n : ℕ = c.args.offset in
    let places : List Place = c.places-places.result.now in
    let v = g.P.Pages.contents c.args.pages.now in
    let w = g.P.Pages.contents c.take_on.new.pages in
    let base : c.base_of-base.result ≡ base_of columns n = c.base_of-base.ensures.value in
    let f = found_ok (pos (base_of columns n)) places c.in-Ok.index c.places-places.ensures.rising (sym c.in-Ok.is ∙ c.holder.ensures.ok ∙ ap (λ (z : ℤ). search_of z places) (ap pos base)) in
    let same : get_or places c.in-Ok.index _ ≡ f.place = found_get (pos (base_of columns n)) places c.in-Ok.index _ f in
    let Q : Option Come → Type 0 = λ o. IsTakenOn tells slot columns (n - c.base_of-base.result) f.place v w o in
    let taken = subst (λ (p : Place). IsTakenOn tells slot columns (n - c.base_of-base.result) p v w c.in_ok-take_on.field-0) same c.in_ok-take_on.ensures.ok in
    subst (λ (ps : List Place). IsRemoved tells slot columns n ps v w (Some (record { index = c.in-Ok.index; gone = 1; come = c.in-Some.come }))) c.places-places.ensures.ok
    (removed tells slot columns n places c.in-Ok.index v w f (n - c.base_of-base.result) (omega (arith, base, c.base_of-base.ensures.low)) (omega (arith, base, c.base_of-base.ensures.low, c.base_of-base.ensures.high))
    c.places-places.ensures.rising (subst (λ (ps : List Place). ArePlaces columns v ps) (sym c.places-places.ensures.ok) c.requires.places) c.in-Some.come (subst Q c.in-Some.is taken))
