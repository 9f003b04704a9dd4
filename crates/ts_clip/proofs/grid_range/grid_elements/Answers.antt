use Rattle.std.proofs.Common.{ℕ, All, List, [], sym, ap, subst, ◌∙◌, arith}
use Rattle.std.proofs.lemmas.Result.{IfOk-weaker}
use Rattle.ts_space.specs.declared.place.Place.{Place}
use Rattle.ts_row.specs.declared.kind.Column.{Column}
use Rattle.ts_row.specs.Row.{Element, seen}
use Rattle.ts_sheets.specs.Stamped.{within_range, stamped}
use Rattle.ts_regular.specs.Places.{AreOn, CanBeRead, all_in}
use Rattle.ts_regular.specs.RegularPage as offsets
use Rattle.ts_regular.specs.RegularPage.{OffsetElement}
use Rattle.ts_clip.proofs.GridAmongLemmas.{among_each, among_rising, among_told, among_within}
use Rattle.ts_clip.proofs.GridElementLemmas.{range_stamped}
use Rattle.ts_clip.proofs.GridWithinLemmas.{within_none}
use Rattle.ts_clip.proofs.GridReadLemmas.{readable}
use Rattle.ts_clip.proofs.grid_range.grid_elements.Goals as goal

pub elements_on_places-requires-clause-readable : goal.elements_on_places-requires-clause-readable
elements_on_places-requires-clause-readable g c =
    let v = g.P.Pages.contents c.args.pages.now in
    let columns : List Column = c.args.shelf.now.kind.now.columns in
    let places : List Place = c.places-all.result.now in
    let o = c.offsets_of-offsets.result in
    among_each columns o.lower o.upper places c.places_between-places.result.now c.places_between-places.ensures.between (CanBeRead v)
    (subst (All (CanBeRead v)) (sym c.places-all.ensures.ok) (readable columns v _ c.requires.places))

pub elements_on_places-requires-clause-rising : goal.elements_on_places-requires-clause-rising
elements_on_places-requires-clause-rising g c =
    let o = c.offsets_of-offsets.result in
    among_rising c.args.shelf.now.kind.now.columns o.lower o.upper c.places-all.result.now c.places_between-places.result.now c.places_between-places.ensures.between c.places-all.ensures.rising

-- from a later stamp to an earlier one there are none
pub returns-then-offsets-clause-read : goal.returns-then-offsets-clause-read
returns-then-offsets-clause-read g c = λ t es have.
    let columns : List Column = c.args.shelf.now.kind.now.columns in
    let grid = c.args.grid.now in
    let o = c.offsets_of-offsets.result in
    record {
      entries = [];
      taken = g.met.V.EntryVisitor.none columns c.args.visitor.now;
      are = sym (ap (λ (l : List OffsetElement). stamped grid (offsets.seen l)) (within_none o.lower o.upper (all_in have.cells) (omega (arith, c.if-offsets.true))))
          ∙ range_stamped grid c.requires.laid c.args.from c.args.to o.lower o.upper c.offsets_of-offsets.ensures.offsets (all_in have.cells) have.starts
          ∙ ap (λ (l : List Element). within_range c.args.from c.args.to (seen l)) have.all;
    }

pub returns-clause-read : goal.returns-clause-read
returns-clause-read g c =
    let slot : ℕ = c.args.shelf.now.series in
    let columns : List Column = c.args.shelf.now.kind.now.columns in
    let v = g.P.Pages.contents c.args.pages.now in
    let places : List Place = c.places-all.result.now in
    let among : List Place = c.places_between-places.result.now in
    let between = c.places_between-places.ensures.between in
    let grid = c.args.grid.now in
    let o = c.offsets_of-offsets.result in
    IfOk-weaker c.elements_on_places.result _ _
    (λ done taken t es have.
    let told = among_told columns o.lower o.upper places among between slot v.page have.cells (subst (λ (l : List Place). AreOn slot columns v.page l have.cells) (sym c.places-all.ensures.ok) have.on) in
    let own = taken t told.own told.on in
    record {
      entries = own.entries;
      taken = own.taken;
      are = own.are ∙ ap (λ (l : List OffsetElement). stamped grid (offsets.seen l)) (sym (among_within columns o.lower o.upper places among between slot v.page have.cells o.order told))
          ∙ range_stamped grid c.requires.laid c.args.from c.args.to o.lower o.upper c.offsets_of-offsets.ensures.offsets (all_in have.cells) have.starts
          ∙ ap (λ (l : List Element). within_range c.args.from c.args.to (seen l)) have.all;
    }) c.elements_on_places.ensures.taken
