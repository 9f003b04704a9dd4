use Rattle.std.proofs.Common.{◌≡◌, ℕ, ◌-◌, All, None, List, ℤ, map, take, drop, sym, ap, subst, ◌∙◌}
use Rattle.ts_space.specs.declared.place.Place.{Place}
use Rattle.ts_row.specs.declared.kind.Column.{Column}
use Rattle.ts_row.specs.Row.{Element, seen}
use Rattle.ts_offset.specs.Grid.{starts_of}
use Rattle.ts_regular.specs.Places.{AreOn, CanBeRead, all_in}
use Rattle.ts_entry.specs.Entry.{Entry, entry_at}
use Rattle.ts_clip.specs.Numbered.{numbered, seen_at}
use Rattle.ts_clip.proofs.GridAmongLemmas.{among_each, among_rising, among_same, among_told, whole_entries}
use Rattle.ts_clip.proofs.GridStampLemmas.{entries_stamped}
use Rattle.ts_clip.proofs.grid_visit.visit_offsets.Goals as goal

pub visit_places-requires-clause-readable : goal.visit_places-requires-clause-readable
visit_places-requires-clause-readable g c =
    let v = g.P.Pages.contents c.args.pages.now in
    let columns : List Column = c.args.shelf.now.kind.now.columns in
    let places : List Place = c.places.result.now in
    among_each columns c.args.lower c.args.upper places c.places_between-places.result.now c.places_between-places.ensures.between (CanBeRead v) (subst (All (CanBeRead v)) (sym c.places.ensures.ok) c.requires.readable)

pub visit_places-requires-clause-rising : goal.visit_places-requires-clause-rising
visit_places-requires-clause-rising g c =
    among_rising c.args.shelf.now.kind.now.columns c.args.lower c.args.upper c.places.result.now c.places_between-places.result.now c.places_between-places.ensures.between c.places.ensures.rising

pub returns-clause-took : goal.returns-clause-took
returns-clause-took g c = λ t es have.
    let slot : ℕ = c.args.shelf.now.series in
    let columns : List Column = c.args.shelf.now.kind.now.columns in
    let v = g.P.Pages.contents c.args.pages.now in
    let places : List Place = c.places.result.now in
    let grid = c.args.grid.now in
    let lower : ℕ = c.args.lower in
    let upper : ℕ = c.args.upper in
    let end : ℕ = c.in_ok-at.at in
    let all = all_in have.cells in
    let among = among_told columns lower upper places c.places_between-places.result.now c.places_between-places.ensures.between slot v.page have.cells (subst (λ (l : List Place). AreOn slot columns v.page l have.cells) (sym c.places.ensures.ok) have.on) in
    let done = c.in_ok-at.ensures in
    let starts : List ℤ = drop lower (starts_of grid) in
    let from : c.starts_from-starts.result ≡ starts = c.starts_from-starts.ensures in
    let entry = λ (start : ℤ). let e : Entry = (start, None) in e in
    let own = numbered (seen_at (all_in among.own)) lower (take (end - lower) starts) in
    let rest = map entry (take (upper - end) (drop (end - lower) starts)) in
    let first = subst (λ (l : List ℤ). g.V.EntryVisitor.took columns c.args.visitor.now (numbered (seen_at (all_in among.own)) lower (take (end - lower) l)) c.visit_places.new.visitor) from (done.took t among.own among.on) in
    let second = subst (λ (l : List ℤ). g.V.EntryVisitor.took columns c.visit_places.new.visitor (map entry (take (upper - end) l)) c.visit_blanks.new.visitor)
    (done.left ∙ ap (drop (end - lower)) from) c.in_ok-visit_blanks.ensures.took in
    subst (λ (l : List Entry). g.V.EntryVisitor.took columns c.args.visitor.now l c.visit_blanks.new.visitor)
    (whole_entries (all_in among.own) all lower end upper starts done.low done.high (among_same columns lower upper places c.places_between-places.result.now c.places_between-places.ensures.between slot v.page have.cells among) (done.rest t among.own among.on)
    ∙ entries_stamped grid c.requires.laid all have.starts lower (upper - lower)
    ∙ ap (λ (l : List Element). map (entry_at (seen l)) (take (upper - lower) starts)) have.all)
    (g.met.V.EntryVisitor.«then» columns c.args.visitor.now c.visit_places.new.visitor c.visit_blanks.new.visitor own rest first second)
