use Rattle.std.proofs.Common.{◌-◌, ℕ, ℤ, List, map, length, take, drop, sym, subst}
use Rattle.std.proofs.lemmas.List.{take_rest}
use Rattle.ts_space.specs.declared.place.Place.{Place}
use Rattle.ts_space.specs.Directory.{places_of}
use Rattle.ts_row.specs.declared.kind.Column.{Column}
use Rattle.ts_row.specs.Row.{Element, seen}
use Rattle.ts_sheets.specs.Places.{AreChained}
use Rattle.ts_sheets.specs.Stamped.{within_range}
use Rattle.ts_series.proofs.KeepLemmas.{chained_since}
use Rattle.ts_entry.specs.Entry.{Entry, filled, AreTaken, last_ones}
use Rattle.ts_clip.proofs.ChainRangeLemmas.{chained_others}
use Rattle.ts_clip.proofs.ChainToldLemmas.{range_told, last_part}
use Rattle.ts_clip.proofs.chain_visit.visit_last.Goals as goal

pub returns-clause-taken : goal.returns-clause-taken
returns-clause-taken g c = λ told es have.
    let slot : ℕ = c.args.shelf.now.series in
    let columns : List Column = c.args.shelf.now.kind.now.columns in
    let v = (g.P.Pages.contents c.args.pages.now).page in
    let w = (g.P.Pages.contents c.count_back.new.pages).page in
    let first : ℕ = c.places_between-first.result.0 in
    let stop : ℕ = c.places_between-first.result.1 in
    let among : List Place = take (stop - first) (drop first c.places-places.result.now) in
    let index : ℕ = c.in_ok-index.index in
    let from : ℤ = c.least-from.result in
    let took = λ (entries : List Entry). g.V.EntryVisitor.took columns c.args.visitor.now entries c.visit_pages.new.visitor in
    subst (λ (z : ℤ). AreTaken took (map filled (last_ones c.args.most (within_range z c.args.to (seen es)))) (c.args.most - c.in_ok-left.left.most)) c.least-from.ensures
    (range_told slot columns v (places_of slot c.args.space.now) c.places-places.result.now first stop from c.args.to es c.places-places.ensures.ok c.places_between-first.ensures.range have
    (λ (l : List Element). AreTaken took (map filled (last_ones c.args.most l)) (c.args.most - c.in_ok-left.left.most))
    (λ part on.
    let behind : AreChained slot columns w (take (length among - index) (drop index among)) (drop index part) =
    subst (λ (ps : List Place). AreChained slot columns w ps (drop index part)) (sym (take_rest among index))
    (chained_others slot columns w index among part (chained_since slot columns v w among part (c.in_ok-index.ensures.call.pages told) on)) in
    last_part took c.args.most c.saturating_sub-skip.result c.in_ok-index.count index c.in_ok-left.left from c.args.to part c.saturating_sub-skip.ensures (c.in_ok-index.ensures.count told part on) c.in_ok-index.ensures.reached
    (c.in_ok-left.ensures.passed told (drop index part) behind)))
