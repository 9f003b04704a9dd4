use Rattle.std.proofs.Common.{◌+◌, ◌-◌, arith}
use Rattle.ts_cells.specs.IrregularPage.{page_room}
use Rattle.ts_series.proofs.ClearLemmas.{parts_of, room_each, room_both}
use Rattle.ts_series.proofs.WrittenLemmas.{joined_at, many_slice, none_removed, cleared}
use Rattle.ts_series.proofs.clip.clear.Goals as goal

pub returns-then-removed-eq0-clause-ok : goal.returns-then-removed-eq0-clause-ok
returns-then-removed-eq0-clause-ok g c =
    let l = c.in_ok-left.ensures in
    let few = l.few in
    none_removed g.P.Pages.tells c.args.shelf.now.series c.args.shelf.now.kind.now.columns c.args.from c.args.to c.requires.order c.args.places.now c.args.first c.args.stop (g.P.Pages.contents c.args.pages.now) c.requires.rising
    c.in_ok-left.left.front c.in_ok-left.left.back (c.count_among.result - (c.in_ok-left.left.front + c.in_ok-left.left.back)) c.ends_of.new.page.bytes c.ends_of.new.behind.bytes (g.P.Pages.contents c.ends_of.new.pages)
    c.requires.range l.told (λ fits. omega (arith, c.count_among.ensures, fits, few)) c.if-removed-eq0.true l.call.free l.call.pages

pub keep-requires-clause-parts : goal.keep-requires-clause-parts
keep-requires-clause-parts g c =
    let jo =
    joined_at c.page_room-room.result (page_room c.args.shelf.now.kind.now.columns) _ _ c.in_ok-left.left.front c.in_ok-left.left.back _ _ c.joins_of-joins.result c.page_room-room.ensures.value c.count_before.ensures.count c.count_from.ensures.count c.joins_of-joins.ensures in
    (parts_of c.args.from c.args.to c.args.places.now c.args.first c.args.stop c.joins_of-joins.result c.requires.range jo.one_before jo.one_behind jo.there_before jo.there_behind).p

pub keep-requires-clause-room : goal.keep-requires-clause-room
keep-requires-clause-room g c = λ p.
    let jo =
    joined_at c.page_room-room.result (page_room c.args.shelf.now.kind.now.columns) _ _ c.in_ok-left.left.front c.in_ok-left.left.back _ _ c.joins_of-joins.result c.page_room-room.ensures.value c.count_before.ensures.count c.count_from.ensures.count c.joins_of-joins.ensures in
    room_each c.args.places.now c.args.first c.args.stop c.joins_of-joins.result (page_room c.args.shelf.now.kind.now.columns) c.in_ok-left.left.front c.in_ok-left.left.back jo p

pub keep-requires-clause-apart : goal.keep-requires-clause-apart
keep-requires-clause-apart g c = λ apart p.
    let jo =
    joined_at c.page_room-room.result (page_room c.args.shelf.now.kind.now.columns) _ _ c.in_ok-left.left.front c.in_ok-left.left.back _ _ c.joins_of-joins.result c.page_room-room.ensures.value c.count_before.ensures.count c.count_from.ensures.count c.joins_of-joins.ensures in
    let l = c.in_ok-left.ensures in
    many_slice c.args.shelf.now.kind.now.columns (g.P.Pages.contents c.args.pages.now) c.args.places.now c.args.first c.args.stop c.joins_of-joins.result p c.in_ok-left.left.front c.in_ok-left.left.back c.requires.places jo l.front l.back l.few apart

pub keep-requires-clause-together : goal.keep-requires-clause-together
keep-requires-clause-together g c = λ off p.
    let jo =
    joined_at c.page_room-room.result (page_room c.args.shelf.now.kind.now.columns) _ _ c.in_ok-left.left.front c.in_ok-left.left.back _ _ c.joins_of-joins.result c.page_room-room.ensures.value c.count_before.ensures.count c.count_from.ensures.count c.joins_of-joins.ensures in
    room_both c.args.places.now c.args.first c.args.stop c.joins_of-joins.result (page_room c.args.shelf.now.kind.now.columns) c.in_ok-left.left.front c.in_ok-left.left.back jo p off

pub returns-clause-ok : goal.returns-clause-ok
returns-clause-ok g c =
    let jo =
    joined_at c.page_room-room.result (page_room c.args.shelf.now.kind.now.columns) _ _ c.in_ok-left.left.front c.in_ok-left.left.back _ _ c.joins_of-joins.result c.page_room-room.ensures.value c.count_before.ensures.count c.count_from.ensures.count c.joins_of-joins.ensures in
    let l = c.in_ok-left.ensures in
    let few = l.few in
    let k = c.in_ok-moved.ensures in
    let rp = parts_of c.args.from c.args.to c.args.places.now c.args.first c.args.stop c.joins_of-joins.result c.requires.range jo.one_before jo.one_behind jo.there_before jo.there_behind in
    cleared g.P.Pages.tells c.args.shelf.now.series c.args.shelf.now.kind.now.columns c.args.from c.args.to c.requires.order c.args.places.now c.args.first c.args.stop (g.P.Pages.contents c.args.pages.now) c.requires.rising
    c.in_ok-left.left.front c.in_ok-left.left.back (c.count_among.result - (c.in_ok-left.left.front + c.in_ok-left.left.back)) c.ends_of.new.page.bytes c.ends_of.new.behind.bytes
    (g.P.Pages.contents c.ends_of.new.pages) (g.P.Pages.contents c.keep.new.pages) c.joins_of-joins.result rp c.requires.places jo l.told (λ fits. omega (arith, c.count_among.ensures, fits, few)) l.call.free l.call.pages
    l.front l.back few c.in_ok-moved.moved (k.index rp.p) (k.kept rp.p) k.shape (k.count rp.p) (λ told number. k.told told number rp.p) (λ told. k.number told rp.p)
