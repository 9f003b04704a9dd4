-- Where no place has a cell in the range, or none of its elements is there, nothing changed; else the places that have none left go.
use Rattle.std.proofs.Common.{◌-◌, ◌++◌, length, take, drop, refl, ap, arith, length-append}
use Rattle.std.proofs.lemmas.List.Sorted.{length_permutation}
use Rattle.ts_space.specs.Place.{pages_of}
use Rattle.ts_regular.proofs.ClearLemmas.{cleared, goes_each, goes_different, goes_few, length_pages, none_range, none_removed, range_are, range_few, range_none, range_rising, range_some}
use Rattle.ts_regular.proofs.clear.clear.Goals as goal

pub returns-then-is_empty-clause-ok : goal.returns-then-is_empty-clause-ok
returns-then-is_empty-clause-ok g c =
    none_range c.args.shelf.now.series c.args.shelf.now.kind.now.columns c.args.from c.args.to c.args.first c.args.stop c.args.places.now (g.P.Pages.contents c.args.pages.now) c.requires.order c.requires.range g.P.Pages.tells
    (range_none c.args.shelf.now.series c.args.shelf.now.kind.now.columns c.args.from c.args.to c.args.first c.args.stop c.args.places.now (g.P.Pages.contents c.args.pages.now) c.requires.order c.requires.range (c.if-is_empty.ensures {u = tt}))

pub cut_ends-requires-clause-rising : goal.cut_ends-requires-clause-rising
cut_ends-requires-clause-rising g c =
    range_rising c.args.shelf.now.series c.args.shelf.now.kind.now.columns c.args.from c.args.to c.args.first c.args.stop c.args.places.now (g.P.Pages.contents c.args.pages.now) c.requires.order c.requires.range c.requires.rising c.requires.places

pub cut_ends-requires-clause-places : goal.cut_ends-requires-clause-places
cut_ends-requires-clause-places g c =
    range_are c.args.shelf.now.series c.args.shelf.now.kind.now.columns c.args.from c.args.to c.args.first c.args.stop c.args.places.now (g.P.Pages.contents c.args.pages.now) c.requires.order c.requires.range c.requires.rising c.requires.places

pub overflow_sub-removed : goal.overflow_sub-removed
overflow_sub-removed g c =
    let few =
    range_few c.args.shelf.now.series c.args.shelf.now.kind.now.columns c.args.from c.args.to c.args.first c.args.stop c.args.places.now (g.P.Pages.contents c.args.pages.now) c.requires.order c.requires.range c.requires.rising c.requires.places
    g.P.Pages.tells c.in_ok-left.left.front c.in_ok-left.left.back (g.P.Pages.contents c.cut_ends.new.pages)
    (range_some c.args.shelf.now.series c.args.shelf.now.kind.now.columns c.args.from c.args.to c.args.first c.args.stop c.args.places.now (g.P.Pages.contents c.args.pages.now) c.requires.order c.requires.range (c.if-is_empty.ensures {u = tt})) c.in_ok-left.ensures.alone c.in_ok-left.ensures.cut in
    omega (arith, few, c.count_left.ensures.value, c.count_left.ensures.few, c.count_among.ensures)

pub returns-then-removed-eq0-clause-ok : goal.returns-then-removed-eq0-clause-ok
returns-then-removed-eq0-clause-ok g c =
    none_removed c.args.shelf.now.series c.args.shelf.now.kind.now.columns c.args.from c.args.to c.args.first c.args.stop c.args.places.now (g.P.Pages.contents c.args.pages.now) c.requires.order c.requires.range c.requires.rising c.requires.places
    g.P.Pages.tells c.in_ok-left.left.front c.in_ok-left.left.back (g.P.Pages.contents c.cut_ends.new.pages)
    (range_some c.args.shelf.now.series c.args.shelf.now.kind.now.columns c.args.from c.args.to c.args.first c.args.stop c.args.places.now (g.P.Pages.contents c.args.pages.now) c.requires.order c.requires.range (c.if-is_empty.ensures {u = tt})) c.in_ok-left.ensures.alone c.in_ok-left.ensures.cut
    (omega (arith, c.if-removed-eq0.true, c.count_left.ensures.value, c.count_left.ensures.few, c.count_among.ensures))

pub free_pages-requires-clause-each : goal.free_pages-requires-clause-each
free_pages-requires-clause-each g c =
    goes_each c.args.shelf.now.series c.args.shelf.now.kind.now.columns c.args.from c.args.to c.args.first c.args.stop c.args.places.now (g.P.Pages.contents c.args.pages.now) c.requires.order c.requires.range c.requires.rising c.requires.places
    g.P.Pages.tells c.in_ok-left.left.front c.in_ok-left.left.back (g.P.Pages.contents c.cut_ends.new.pages)
    (range_some c.args.shelf.now.series c.args.shelf.now.kind.now.columns c.args.from c.args.to c.args.first c.args.stop c.args.places.now (g.P.Pages.contents c.args.pages.now) c.requires.order c.requires.range (c.if-is_empty.ensures {u = tt})) c.in_ok-left.ensures.alone c.in_ok-left.ensures.cut
    c.gone.result.now c.gone.ensures c.in_ok-left.ensures.call.count

pub free_pages-requires-clause-different : goal.free_pages-requires-clause-different
free_pages-requires-clause-different g c =
    goes_different c.args.shelf.now.series c.args.shelf.now.kind.now.columns c.args.from c.args.to c.args.first c.args.stop c.args.places.now (g.P.Pages.contents c.args.pages.now) c.requires.order c.requires.range c.requires.rising c.requires.places
    g.P.Pages.tells c.in_ok-left.left.front c.in_ok-left.left.back (g.P.Pages.contents c.cut_ends.new.pages)
    (range_some c.args.shelf.now.series c.args.shelf.now.kind.now.columns c.args.from c.args.to c.args.first c.args.stop c.args.places.now (g.P.Pages.contents c.args.pages.now) c.requires.order c.requires.range (c.if-is_empty.ensures {u = tt})) c.in_ok-left.ensures.alone c.in_ok-left.ensures.cut
    c.gone.result.now c.gone.ensures

pub returns-in_err-free_pages-clause-change : goal.returns-in_err-free_pages-clause-change
returns-in_err-free_pages-clause-change g c =
    let few =
    goes_few c.args.shelf.now.series c.args.shelf.now.kind.now.columns c.args.from c.args.to c.args.first c.args.stop c.args.places.now (g.P.Pages.contents c.args.pages.now) c.requires.order c.requires.range c.requires.rising c.requires.places
    g.P.Pages.tells c.in_ok-left.left.front c.in_ok-left.left.back (g.P.Pages.contents c.cut_ends.new.pages)
    (range_some c.args.shelf.now.series c.args.shelf.now.kind.now.columns c.args.from c.args.to c.args.first c.args.stop c.args.places.now (g.P.Pages.contents c.args.pages.now) c.requires.order c.requires.range (c.if-is_empty.ensures {u = tt})) c.in_ok-left.ensures.alone c.in_ok-left.ensures.cut
    c.gone.result.now c.gone.ensures in
    let one = c.in_ok-left.ensures.change in
    let two = c.free_pages.ensures.change in
    omega (arith, few, one, two)

pub returns-clause-ok : goal.returns-clause-ok
returns-clause-ok g c =
    cleared c.args.shelf.now.series c.args.shelf.now.kind.now.columns c.args.from c.args.to c.args.first c.args.stop c.args.places.now (g.P.Pages.contents c.args.pages.now) c.requires.order c.requires.range c.requires.rising c.requires.places
    g.P.Pages.tells c.in_ok-left.left.front c.in_ok-left.left.back (g.P.Pages.contents c.cut_ends.new.pages)
    (range_some c.args.shelf.now.series c.args.shelf.now.kind.now.columns c.args.from c.args.to c.args.first c.args.stop c.args.places.now (g.P.Pages.contents c.args.pages.now) c.requires.order c.requires.range (c.if-is_empty.ensures {u = tt})) c.in_ok-left.ensures.alone c.in_ok-left.ensures.cut
    c.gone.result.now c.gone.ensures (g.P.Pages.contents c.free_pages.new.pages) c.in_ok-free_pages.ensures.freed c.requires.limit (c.count_among.result - c.count_left.result)
    (λ fits. omega (arith, fits, c.if-removed-eq0.false, c.count_left.ensures.value, c.count_left.ensures.few, c.count_among.ensures))
    (record { index = c.args.first; gone = length (take (c.args.stop - c.args.first) (drop c.args.first c.args.places.now)); come = c.kept.result }) refl refl c.kept.ensures

pub returns-clause-change : goal.returns-clause-change
returns-clause-change g c =
    let few =
    goes_few c.args.shelf.now.series c.args.shelf.now.kind.now.columns c.args.from c.args.to c.args.first c.args.stop c.args.places.now (g.P.Pages.contents c.args.pages.now) c.requires.order c.requires.range c.requires.rising c.requires.places
    g.P.Pages.tells c.in_ok-left.left.front c.in_ok-left.left.back (g.P.Pages.contents c.cut_ends.new.pages)
    (range_some c.args.shelf.now.series c.args.shelf.now.kind.now.columns c.args.from c.args.to c.args.first c.args.stop c.args.places.now (g.P.Pages.contents c.args.pages.now) c.requires.order c.requires.range (c.if-is_empty.ensures {u = tt})) c.in_ok-left.ensures.alone c.in_ok-left.ensures.cut
    c.gone.result.now c.gone.ensures in
    let one = c.in_ok-left.ensures.change in
    let two = c.free_pages.ensures.change in
    omega (arith, few, one, two)

pub returns-clause-grows : goal.returns-clause-grows
returns-clause-grows g c =
    let v = g.P.Pages.contents c.args.pages.now in
    let u = g.P.Pages.contents c.cut_ends.new.pages in
    let w = g.P.Pages.contents c.free_pages.new.pages in
    let goes = pages_of c.gone.result.now in
    let one = c.in_ok-left.ensures.change in
    let two = c.free_pages.ensures.change in
    let long = length_permutation (u.free ++ goes) w.free c.in_ok-free_pages.ensures.freed.free in
    omega (arith, one, two, long, length-append u.free goes, length_pages c.gone.result.now, ap length c.in_ok-left.ensures.cut.free)

pub returns-clause-taken : goal.returns-clause-taken
returns-clause-taken g c =
    let u = g.P.Pages.contents c.cut_ends.new.pages in
    let w = g.P.Pages.contents c.free_pages.new.pages in
    let goes = pages_of c.gone.result.now in
    let long = length_permutation (u.free ++ goes) w.free c.in_ok-free_pages.ensures.freed.free in
    omega (arith, long, length-append u.free goes, ap length c.in_ok-left.ensures.cut.free)
