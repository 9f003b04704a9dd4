-- The mark is set on the page of the place that the search finds.
use Rattle.std.proofs.Common.{◌≡◌, ◌-◌, All, ℤ, pos, List, ℕ, sym, ap, subst, ◌∙◌, arith, get_or}
use Rattle.std.proofs.lemmas.Result.{IfOk-weaker}
use Rattle.ts_space.specs.declared.place.Place.{Place}
use Rattle.ts_space.specs.Place.{search_of}
use Rattle.ts_row.specs.declared.kind.Column.{Column}
use Rattle.ts_regular.specs.RegularPage.{base_of}
use Rattle.ts_regular.specs.Places.{ArePlaces, IsPlace}
use Rattle.ts_regular.specs.OnePage.{IsMarkedOn}
use Rattle.ts_regular.specs.Call.{IsMissing, IsMarked}
use Rattle.ts_regular.proofs.PlaceLemmas.{found_ok}
use Rattle.ts_regular.proofs.EditLemmas.{found_get, found_within, gap_not, marked_there, none_missing}
use Rattle.ts_regular.proofs.mark.regular_mark.Goals as goal

pub returns-in_default-clause-ok : goal.returns-in_default-clause-ok
returns-in_default-clause-ok g c =
    let tells = g.P.Pages.tells in
    let slot : ℕ = c.args.shelf.now.series in
    let columns : List Column = c.args.shelf.now.kind.now.columns in
    let n : ℕ = c.args.offset in
    let places : List Place = c.places-places.result.now in
    let v = g.P.Pages.contents c.args.pages.now in
    let base : c.base_of-base.result ≡ base_of columns n = c.base_of-base.ensures.value in
    let gap = gap_not (pos (base_of columns n)) places c.holder.result c.places-places.ensures.rising
    (c.holder.ensures.ok ∙ ap (λ (z : ℤ). search_of z places) (ap pos base)) (λ i same. c.in_default.not-Ok i same) in
    subst (λ (ps : List Place). IsMissing tells slot columns n ps v v) c.places-places.ensures.ok
    (none_missing tells slot columns n places gap.0 v gap.1 (n - c.base_of-base.result) (omega (arith, base, c.base_of-base.ensures.low)) (omega (arith, base, c.base_of-base.ensures.low, c.base_of-base.ensures.high)))

pub mark_on-requires-clause-place : goal.mark_on-requires-clause-place
mark_on-requires-clause-place g c =
    let columns : List Column = c.args.shelf.now.kind.now.columns in
    let places : List Place = c.places-places.result.now in
    let v = g.P.Pages.contents c.args.pages.now in
    let base : c.base_of-base.result ≡ base_of columns c.args.offset = c.base_of-base.ensures.value in
    let f = found_ok (pos (base_of columns c.args.offset)) places c.in-Ok.index c.places-places.ensures.rising (sym c.in-Ok.is ∙ c.holder.ensures.ok ∙ ap (λ (z : ℤ). search_of z places) (ap pos base)) in
    let each : All (IsPlace columns v) places = subst (All (IsPlace columns v)) (sym c.places-places.ensures.ok) c.requires.places.each in
    each c.in-Ok.index _ (found_within (pos (base_of columns c.args.offset)) places c.in-Ok.index f)

pub mark_on-requires-clause-at : goal.mark_on-requires-clause-at
mark_on-requires-clause-at g c =
    let columns : List Column = c.args.shelf.now.kind.now.columns in
    let places : List Place = c.places-places.result.now in
    let base : c.base_of-base.result ≡ base_of columns c.args.offset = c.base_of-base.ensures.value in
    let f = found_ok (pos (base_of columns c.args.offset)) places c.in-Ok.index c.places-places.ensures.rising (sym c.in-Ok.is ∙ c.holder.ensures.ok ∙ ap (λ (z : ℤ). search_of z places) (ap pos base)) in
    ap (λ (p : Place). p.at) (found_get (pos (base_of columns c.args.offset)) places c.in-Ok.index _ f) ∙ f.begins ∙ ap pos (sym base)

pub returns-clause-ok : goal.returns-clause-ok
returns-clause-ok g c =
    let tells = g.P.Pages.tells in
    let slot : ℕ = c.args.shelf.now.series in
    let columns : List Column = c.args.shelf.now.kind.now.columns in
    let n : ℕ = c.args.offset in
    let places : List Place = c.places-places.result.now in
    let v = g.P.Pages.contents c.args.pages.now in
    let w = g.P.Pages.contents c.mark_on.new.pages in
    let base : c.base_of-base.result ≡ base_of columns n = c.base_of-base.ensures.value in
    let f = found_ok (pos (base_of columns n)) places c.in-Ok.index c.places-places.ensures.rising (sym c.in-Ok.is ∙ c.holder.ensures.ok ∙ ap (λ (z : ℤ). search_of z places) (ap pos base)) in
    let same : get_or places c.in-Ok.index _ ≡ f.place = found_get (pos (base_of columns n)) places c.in-Ok.index _ f in
    let i : ℕ = n - c.base_of-base.result in
    IfOk-weaker c.mark_on.result _ _
    (λ done e. subst (λ (ps : List Place). IsMarked tells slot columns n c.args.hidden ps v w done) c.places-places.ensures.ok
    (marked_there tells slot columns n places c.in-Ok.index v w f i (omega (arith, base, c.base_of-base.ensures.low)) (omega (arith, base, c.base_of-base.ensures.low, c.base_of-base.ensures.high))
    c.places-places.ensures.rising (subst (λ (ps : List Place). ArePlaces columns v ps) (sym c.places-places.ensures.ok) c.requires.places) c.args.hidden done
    (subst (λ (p : Place). IsMarkedOn tells slot columns i c.args.hidden p v w done) same e))) c.mark_on.ensures.ok
