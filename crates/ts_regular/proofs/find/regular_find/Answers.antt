-- The page of the place that the search finds is read.
use Rattle.std.proofs.Common.{◌≡◌, ◌-◌, ◌<◌, All, ℤ, pos, Some, None, List, ℕ, length, sym, ap, subst, ◌∙◌, arith, get_or}
use Rattle.ts_space.specs.declared.place.Place.{Place}
use Rattle.ts_space.specs.Place.{search_of}
use Rattle.ts_page.specs.Pages.{head_of}
use Rattle.ts_page.specs.declared.page.Head.TheVariants.{Regular}
use Rattle.ts_row.specs.declared.kind.Column.{Column}
use Rattle.ts_regular.specs.RegularPage.{base_of, regular_room}
use Rattle.ts_regular.specs.Places.{CanBeRead}
use Rattle.ts_regular.specs.OnePage.{IsToldOn, cell_at}
use Rattle.ts_regular.specs.Call.{IsRowIn}
use Rattle.ts_regular.proofs.HeadLemmas.{behind_told, head_told, length-page, part_behind}
use Rattle.ts_regular.proofs.KeptLemmas.{page_from, read_on}
use Rattle.ts_regular.proofs.PlaceLemmas.{found_ok}
use Rattle.ts_regular.proofs.EditLemmas.{found_get, found_within, gap_not, none_there, row_there}
use Rattle.ts_regular.proofs.find.regular_find.Goals as goal

pub returns-in_default-clause-found : goal.returns-in_default-clause-found
returns-in_default-clause-found g c =
    let tells = g.P.Pages.tells in
    let slot : ℕ = c.args.shelf.now.series in
    let columns : List Column = c.args.shelf.now.kind.now.columns in
    let places : List Place = c.places-places.result.now in
    let v = g.P.Pages.contents c.args.pages.now in
    let base : c.base_of-base.result ≡ base_of columns c.args.offset = c.base_of-base.ensures.value in
    let gap = gap_not (pos (base_of columns c.args.offset)) places c.holder.result c.places-places.ensures.rising
    (c.holder.ensures.ok ∙ ap (λ (z : ℤ). search_of z places) (ap pos base)) (λ i same. c.in_default.not-Ok i same) in
    subst (λ (ps : List Place). IsRowIn tells slot columns c.args.offset ps v None) c.places-places.ensures.ok
    (λ t ps on. sym (none_there tells slot columns c.args.offset places gap.0 v v gap.1 (c.args.offset - c.base_of-base.result) (omega (arith, base, c.base_of-base.ensures.low)) (omega (arith, base, c.base_of-base.ensures.low, c.base_of-base.ensures.high)) ps on))

pub returns-then-not-agrees-clause-found : goal.returns-then-not-agrees-clause-found
returns-then-not-agrees-clause-found g c =
    let tells = g.P.Pages.tells in
    let slot : ℕ = c.args.shelf.now.series in
    let columns : List Column = c.args.shelf.now.kind.now.columns in
    let n : ℕ = c.args.offset in
    let places : List Place = c.places-places.result.now in
    let v = g.P.Pages.contents c.args.pages.now in
    let bytes : List ℕ = c.get.new.into.bytes in
    let base : c.base_of-base.result ≡ base_of columns n = c.base_of-base.ensures.value in
    let f = found_ok (pos (base_of columns n)) places c.in-Ok.index c.places-places.ensures.rising (sym c.in-Ok.is ∙ c.holder.ensures.ok ∙ ap (λ (z : ℤ). search_of z places) (ap pos base)) in
    let readable : All (CanBeRead v) places = subst (All (CanBeRead v)) (sym c.places-places.ensures.ok) c.requires.readable in
    let within : c.in-Ok.index < length places = found_within (pos (base_of columns n)) places c.in-Ok.index f in
    let place : Place = get_or places c.in-Ok.index _ in
    let same : place ≡ f.place = found_get (pos (base_of columns n)) places c.in-Ok.index _ f in
    let element = (readable c.in-Ok.index _ within).element in
    let begins : place.at ≡ pos c.base_of-base.result = ap (λ (p : Place). p.at) same ∙ f.begins ∙ ap pos (sym base) in
    subst (λ (ps : List Place). IsRowIn tells slot columns n ps v None) c.places-places.ensures.ok
    (row_there tells slot columns n places c.in-Ok.index v v f (n - c.base_of-base.result) (omega (arith, base, c.base_of-base.ensures.low)) (omega (arith, base, c.base_of-base.ensures.low, c.base_of-base.ensures.high)) None
    (subst (λ (p : Place). IsToldOn tells slot columns p v (λ q. None ≡ cell_at q.1 (n - c.base_of-base.result))) same (λ t p on.
    let read = read_on tells slot columns place bytes v (g.P.Pages.contents c.get.new.self) element c.in_ok-get.ensures.got t p on in
    let is = page_from slot columns c.base_of-base.result bytes place p begins read in
    let told : head_of bytes ≡ Some (Regular slot place.count c.base_of-base.result) = head_told slot columns c.base_of-base.result p.1 bytes is ∙ (λ j. Some (Regular slot (read.count j) c.base_of-base.result)) in
    let yes = c.agrees.ensures.1 told in
    absurd (cc))))

pub returns-clause-found : goal.returns-clause-found
returns-clause-found g c =
    let tells = g.P.Pages.tells in
    let slot : ℕ = c.args.shelf.now.series in
    let columns : List Column = c.args.shelf.now.kind.now.columns in
    let n : ℕ = c.args.offset in
    let places : List Place = c.places-places.result.now in
    let v = g.P.Pages.contents c.args.pages.now in
    let bytes : List ℕ = c.get.new.into.bytes in
    let base : c.base_of-base.result ≡ base_of columns n = c.base_of-base.ensures.value in
    let f = found_ok (pos (base_of columns n)) places c.in-Ok.index c.places-places.ensures.rising (sym c.in-Ok.is ∙ c.holder.ensures.ok ∙ ap (λ (z : ℤ). search_of z places) (ap pos base)) in
    let readable : All (CanBeRead v) places = subst (All (CanBeRead v)) (sym c.places-places.ensures.ok) c.requires.readable in
    let within : c.in-Ok.index < length places = found_within (pos (base_of columns n)) places c.in-Ok.index f in
    let place : Place = get_or places c.in-Ok.index _ in
    let same : place ≡ f.place = found_get (pos (base_of columns n)) places c.in-Ok.index _ f in
    let element = (readable c.in-Ok.index _ within).element in
    let small : n - c.base_of-base.result < regular_room columns = omega (arith, base, c.base_of-base.ensures.low, c.base_of-base.ensures.high) in
    subst (λ (ps : List Place). IsRowIn tells slot columns n ps v c.in_ok-row_at.field-0) c.places-places.ensures.ok
    (row_there tells slot columns n places c.in-Ok.index v v f (n - c.base_of-base.result) (omega (arith, base, c.base_of-base.ensures.low)) small c.in_ok-row_at.field-0
    (subst (λ (p : Place). IsToldOn tells slot columns p v (λ q. c.in_ok-row_at.field-0 ≡ cell_at q.1 (n - c.base_of-base.result))) same (λ t p on.
    let read = read_on tells slot columns place bytes v (g.P.Pages.contents c.get.new.self) element c.in_ok-get.ensures.got t p on in
    let behind = behind_told slot columns p.0 p.1 bytes read.bytes in
    let long = length-page columns p.1 bytes read.bytes.fill.each read.bytes.fill.room behind in
    c.in_ok-row_at.ensures.found p.1 read.bytes.fill.each (omega (arith, small, read.bytes.fill.room)) (part_behind 4064 bytes long ∙ behind))))
