use Rattle.std.proofs.Common.{sym}
use Rattle.ts_answer.specs.View.{view}
use Rattle.ts_shelf.proofs.MemoryLemmas.{defined_kept, shaped_kept, places_seen, room_in}
use Rattle.ts_shelf.proofs.SeenLemmas.{not_some}
use Rattle.ts_shelf.proofs.shelf.shelf_at.Goals as goal

pub row_type_of-requires : goal.row_type_of-requires
row_type_of-requires g c =
    record { limits = c.requires.seen.kept.sound.limits; rules = c.requires.seen.kept.sound.tables }

pub unreachable-requires : goal.unreachable-requires
unreachable-requires g c =
    let x = view c.args.defs.now.definitions c.args._space.now (g.P.Pages.contents c.args._pages.now) in
    let named = c.requires.named in
    not_some _ c.in_default.ensures.value (defined_kept x c.requires.seen.kept c.args.slot named.1.within named.0 named.1)

pub unreachable-requires-in_default-shape_of : goal.unreachable-requires-in_default-shape_of
unreachable-requires-in_default-shape_of g c =
    let x = view c.args.defs.now.definitions c.args._space.now (g.P.Pages.contents c.args._pages.now) in
    let named = c.requires.named in
    not_some _ c.in_default-shape_of.ensures (shaped_kept x c.requires.seen.kept c.args.slot named.1.within named.0 named.1)

pub returns-clause-some : goal.returns-clause-some
returns-clause-some g c =
    let x = view c.args.defs.now.definitions c.args._space.now (g.P.Pages.contents c.args._pages.now) in
    let named = c.requires.named in
    room_in x c.requires.seen.kept c.args.slot named.1.within c.in-Some.kind.now (sym c.in-Some.ensures.value) named.0 named.1

pub returns-clause-places : goal.returns-clause-places
returns-clause-places g c =
    let x = view c.args.defs.now.definitions c.args._space.now (g.P.Pages.contents c.args._pages.now) in
    places_seen x c.requires.seen.kept c.args.slot c.requires.named.1.within c.in-Some.kind.now (sym c.in-Some.ensures.value) c.in-Some-shape_of.shape (sym c.in-Some-shape_of.ensures)
