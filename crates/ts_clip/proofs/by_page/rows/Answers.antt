use Rattle.std.proofs.Common.{List, sym, subst}
use Rattle.ts_space.specs.declared.place.Place.{Place}
use Rattle.ts_row.specs.declared.kind.Column.{Column}
use Rattle.ts_offset.specs.declared.shape.Shape.{Shape}
use Rattle.ts_sheets.specs.Places as chain
use Rattle.ts_chain.proofs.MovedLemmas.{places_readable}
use Rattle.ts_regular.specs.Places as regular
use Rattle.ts_clip.specs.Series.{ArePlaces}
use Rattle.ts_clip.proofs.GridReadLemmas.{readable}
use Rattle.ts_clip.proofs.RangePlaceLemmas.{held_each}
use Rattle.ts_clip.proofs.by_page.rows.Goals as goal

pub chain_rows-requires : goal.chain_rows-requires
chain_rows-requires g c =
    let v = g.P.Pages.contents c.args.pages.now in
    let columns : List Column = c.args.shelf.now.kind.now.columns in
    let all : List Place = c.places-all.result.now in
    let are = subst (λ (s : Shape). ArePlaces s columns v all) c.in-Irregular.is (subst (ArePlaces c.args.shape.now columns v) (sym c.places-all.ensures.ok) c.requires.places) in
    record {
      readable = held_each c.args.shape.now columns c.args.from c.args.to all c.places_of_range-places.result.now c.places_of_range-places.ensures.holds (chain.CanBeRead v) (places_readable columns v all are);
    }

pub grid_rows-requires-clause-readable : goal.grid_rows-requires-clause-readable
grid_rows-requires-clause-readable g c =
    let v = g.P.Pages.contents c.args.pages.now in
    let columns : List Column = c.args.shelf.now.kind.now.columns in
    let all : List Place = c.places-all.result.now in
    let are = subst (λ (s : Shape). ArePlaces s columns v all) c.in-Regular.is (subst (ArePlaces c.args.shape.now columns v) (sym c.places-all.ensures.ok) c.requires.places) in
    held_each c.args.shape.now columns c.args.from c.args.to all c.places_of_range-places.result.now c.places_of_range-places.ensures.holds (regular.CanBeRead v) (readable columns v all are)
