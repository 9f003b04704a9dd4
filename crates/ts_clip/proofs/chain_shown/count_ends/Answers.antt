use Rattle.std.proofs.Common.{◌≡◌, List, [], ◌∷◌, ◌++◌, ap, subst, ◌∙◌, arith}
use Rattle.std.proofs.lemmas.Result.{IfOk-weaker}
use Rattle.ts_space.specs.declared.place.Place.{Place}
use Rattle.ts_row.specs.declared.kind.Column.{Column}
use Rattle.ts_sheets.specs.Places.{AreChained, CanBeRead}
use Rattle.ts_clip.specs.Chain.{AreBounded}
use Rattle.ts_clip.proofs.ChainShownLemmas.{all_counted, both_ends, ends_counted, two_ends}
use Rattle.ts_clip.proofs.chain_shown.count_ends.Goals as goal

pub returns-in_default-split_last-clause-count : goal.returns-in_default-split_last-clause-count
returns-in_default-split_last-clause-count g c =
    IfOk-weaker c.count_pages-in_default-split_last.result _ _ (λ n counted told chain on are none. all_counted c.args.from c.args.to n chain (counted told chain on) none) c.count_pages-in_default-split_last.ensures.count

pub count_pages-requires-2 : goal.count_pages-requires-2
count_pages-requires-2 g c =
    let first : Place = c.in-Some.first.now in
    let parts : c.args.places.now ≡ first ∷ (c.in-Some-split_last.middle.now ++ c.in-Some-split_last.last.now ∷ []) = c.in-Some.ensures.cases.0 ∙ ap (λ (l : List Place). first ∷ l) c.in-Some-split_last.ensures.cases.0 in
    record { readable = both_ends (CanBeRead (g.P.Pages.contents c.args.pages.now)) c.args.places.now first c.in-Some-split_last.middle.now c.in-Some-split_last.last.now parts c.requires.readable }

pub returns-clause-count : goal.returns-clause-count
returns-clause-count g c = λ told chain on are none.
    let slot = c.args.shelf.now.series in
    let columns : List Column = c.args.shelf.now.kind.now.columns in
    let pages = (g.P.Pages.contents c.args.pages.now).page in
    let first : Place = c.in-Some.first.now in
    let middle : List Place = c.in-Some-split_last.middle.now in
    let last : Place = c.in-Some-split_last.last.now in
    let parts : c.args.places.now ≡ first ∷ (middle ++ last ∷ []) = c.in-Some.ensures.cases.0 ∙ ap (λ (l : List Place). first ∷ l) c.in-Some-split_last.ensures.cases.0 in
    let e =
    ends_counted c.args.from c.args.to slot columns pages first middle last chain (subst (λ (ps : List Place). AreChained slot columns pages ps chain) parts on) are
    (subst (AreBounded c.args.from c.args.to) parts c.requires.bounded) none in
    let own = c.in_ok-ends.ensures.count told (e.front ∷ e.back ∷ []) (e.front_on, (e.back_on, tt)) in
    omega (arith, own, two_ends c.args.from c.args.to e.front e.back, e.number, c.saturating_add.ensures, c.count_places.ensures)
