use Rattle.std.proofs.Common.{List, sym}
use Rattle.std.specs.List.{flat_map}
use Rattle.ts_row.specs.declared.kind.Column.{Column}
use Rattle.ts_dump.specs.Elements.{texts_of_elements, series_texts}
use Rattle.ts_dump.proofs.SayingLemmas.{texts_same}
use Rattle.ts_dump.proofs.SeriesLemmas.{no_heading, no_shape, series_parts}
use Rattle.ts_dump.proofs.series.say_series.Goals as goal

pub returns-in_default-clause-said : goal.returns-in_default-clause-said
returns-in_default-clause-said g c = λ told l lay.
    let v = g.S.Volume.device c.args.site.now in
    let found = c.args.opened.now.found in
    let there = c.requires.there in
    absurd (no_heading found.defs.definitions found.space v.held l lay c.args.slot there.0 there.1 c.in_default.ensures.value)

pub returns-in_default-shape_of-clause-said : goal.returns-in_default-shape_of-clause-said
returns-in_default-shape_of-clause-said g c = λ told l lay.
    let v = g.S.Volume.device c.args.site.now in
    let found = c.args.opened.now.found in
    let there = c.requires.there in
    absurd (no_shape found.defs.definitions found.space v.held l lay c.args.slot there.0 there.1 c.in_default-shape_of.ensures)

pub returns-clause-said : goal.returns-clause-said
returns-clause-said g c = λ told l lay.
    let v = g.S.Volume.device c.args.site.now in
    let w = g.S.Volume.device c.say_places.new.site in
    let found = c.args.opened.now.found in
    let there = c.requires.there in
    let key = c.args.key.now in
    let h = c.in-Some.kind.now in
    let columns : List Column = h.columns in
    let p = series_parts found.defs.definitions found.space v.held l lay c.args.slot there.0 there.1 key h c.in-Some-shape_of.shape there.2 c.requires.slot
    (sym c.in-Some.ensures.value) (sym c.in-Some-shape_of.ensures) c.say_places.ensures.laid in
    texts_same c.args.grouping.now c.say_places.new.grouping (flat_map (texts_of_elements key columns) p.0) (series_texts l c.args.slot) c.say_places.result v w p.2 (c.say_places.ensures.said told p.0 p.1)
