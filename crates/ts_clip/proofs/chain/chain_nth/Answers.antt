use Rattle.std.proofs.Common.{◌≡◌, ◌-◌, ℕ, List, length, map, take, drop, sym, ap, subst, ◌∙◌}
use Rattle.std.proofs.lemmas.List.{take_rest}
use Rattle.ts_space.specs.declared.place.Place.{Place}
use Rattle.ts_row.specs.declared.kind.Column.{Column}
use Rattle.ts_row.specs.Row.{Element, seen, has_hidden}
use Rattle.ts_cells.specs.IrregularPage.{AreElements}
use Rattle.ts_sheets.specs.Stamped.{all_in, within_range}
use Rattle.ts_sheets.specs.Places.{AreChained}
use Rattle.ts_sheets.proofs.OrderLemmas.{elements_back, pages_in_order}
use Rattle.ts_entry.specs.Entry.{Entry, filled, AreTaken}
use Rattle.ts_clip.proofs.ChainPassedLemmas.{passed_same}
use Rattle.ts_clip.proofs.ChainRangeLemmas.{chained_others}
use Rattle.ts_clip.proofs.ChainReadingLemmas.{taken_of, within_all, number_filled}
use Rattle.ts_clip.proofs.ChainShownLemmas.{number_from, parts_in, shown_front}
use Rattle.ts_clip.proofs.chain.chain_nth.Goals as goal

pub returns-clause-read : goal.returns-clause-read
returns-clause-read g c = λ told es have shown.
    let slot : ℕ = c.args.shelf.now.series in
    let columns : List Column = c.args.shelf.now.kind.now.columns in
    let pages = (g.P.Pages.contents c.args.pages.now).page in
    let places : List Place = c.places-places.result.now in
    let index : ℕ = c.page_of_number-index.result.0 in
    let skip : ℕ = c.page_of_number-index.result.1 in
    let told_of = c.page_of_number-index.ensures in
    let back : List Element = all_in (drop index have.chain) in
    let on : AreChained slot columns pages places have.chain = subst (λ (ps : List Place). AreChained slot columns pages ps have.chain) (sym c.places-places.ensures.ok) have.on in
    let behind : AreChained slot columns pages (take (length places - index) (drop index places)) (drop index have.chain) =
    subst (λ (ps : List Place). AreChained slot columns pages ps (drop index have.chain)) (sym (take_rest places index)) (chained_others slot columns pages index places have.chain on) in
    let each : AreElements columns back =
    elements_back columns (all_in (take index have.chain)) back (subst (AreElements columns) (sym (parts_in index have.chain)) (pages_in_order columns have.chain have.is.pages).each) in
    let all : seen (within_range c.least-from.result c.greatest-to.result back) ≡ seen back =
    ap seen ((λ j. within_range (c.least-from.ensures j) (c.greatest-to.ensures j) back) ∙ within_all columns back each) in
    let front = shown_front c.args.shown index have.chain told_of.first (λ yes. ap has_hidden have.all ∙ shown yes) in
    let start = number_from slot columns pages places index skip c.args.n have.chain on told_of.number front in
    let took = λ (entries : List Entry). g.V.EntryVisitor.took columns c.args.visitor.now entries c.visit_pages.new.visitor in
    subst (λ (l : List Entry). AreTaken took l (1 - c.in_ok-left.left.most))
    (ap (λ (l : List Element). map filled (take 1 l)) (sym start ∙ ap (λ (l : List Element). drop c.args.n (seen l)) have.all) ∙ sym (number_filled c.args.n (seen es)))
    (taken_of _ (record { skip = skip; most = 1 }) c.in_ok-left.left _ (passed_same _ _ _ _ _ all (c.in_ok-left.ensures.passed told (drop index have.chain) behind)))
