use Rattle.std.proofs.Common.{◌+◌, ◌≤◌, ◌++◌, List, ap, subst, sym, ◌∙◌, arith, length-append}
use Rattle.ts_space.specs.declared.place.Place.{Place}
use Rattle.ts_space.specs.Place.{count_of}
use Rattle.ts_space.specs.Moved.{list_of}
use Rattle.ts_cells.specs.IrregularPage.{page_room}
use Rattle.ts_sheets.specs.Stamped.{all_in}
use Rattle.ts_sheets.specs.Places.{AreChained}
use Rattle.ts_series.proofs.LayLemmas.{order_front, order_back}
use Rattle.ts_series.proofs.KeepLemmas.{gone, before_slice, behind_slice, slices_rising, kept_slices, begin_slices, two_slices, part_since, kept_since, chained_since}
use Rattle.ts_series.proofs.keep.keep.Goals as goal

pub with_behind-requires-clause-room : goal.with_behind-requires-clause-room
with_behind-requires-clause-room g c =
    let p = c.requires.parts in
    subst (λ (l : List Place). c.args.left.back + count_of l ≤ page_room c.args.shelf.now.kind.now.columns) (sym (behind_slice c.args.places.now c.args.first c.args.stop c.args.joins p)) (c.requires.room p).1

pub lay-requires-clause-rising : goal.lay-requires-clause-rising
lay-requires-clause-rising g c = slices_rising c.args.places.now c.args.first c.args.stop c.args.joins c.requires.parts c.requires.rising

pub lay-requires-clause-places : goal.lay-requires-clause-places
lay-requires-clause-places g c =
    part_since c.args.shelf.now.kind.now.columns (g.P.Pages.contents c.args.pages.now) (g.P.Pages.contents c.with_behind.new.pages) _ _ c.args.places.now
    (c.in_ok-back.ensures.call.call.count ∙ c.in_ok-front.ensures.call.call.count) (c.in_ok-back.ensures.call.free ∙ c.in_ok-front.ensures.call.free) c.requires.places

pub lay-requires-clause-apart : goal.lay-requires-clause-apart
lay-requires-clause-apart g c = λ yes.
    let p = c.requires.parts in
    let a = c.requires.apart yes p in
    let room = c.requires.room p in
    let some1 = a.1 in
    let some2 = a.2 in
    let room1 = room.0 in
    let room2 = room.1 in
    let least1 = c.in_ok-front.ensures.least in
    let least2 = c.in_ok-back.ensures.least in
    let most1 = c.in_ok-front.ensures.most in
    let most2 = c.in_ok-back.ensures.most in
    let same1 = ap count_of (before_slice c.args.places.now c.args.first c.args.stop c.args.joins p) in
    let same2 = ap count_of (behind_slice c.args.places.now c.args.first c.args.stop c.args.joins p) in (
      two_slices c.args.places.now c.args.first c.args.stop c.args.joins p a.0,
      omega (arith, some1, least1),
      omega (arith, some2, least2),
      omega (arith, most1, same1, room1),
      omega (arith, most2, same2, room2),
    )

pub lay-requires-clause-together : goal.lay-requires-clause-together
lay-requires-clause-together g c = λ no.
    let p = c.requires.parts in
    let fit = c.requires.together no p in
    let most1 = c.in_ok-front.ensures.most in
    let most2 = c.in_ok-back.ensures.most in
    let same1 = ap count_of (before_slice c.args.places.now c.args.first c.args.stop c.args.joins p) in
    let same2 = ap count_of (behind_slice c.args.places.now c.args.first c.args.stop c.args.joins p) in
    omega (arith, most1, most2, same1, same2, fit)

pub returns-in_err-come-clause-undisturbed : goal.returns-in_err-come-clause-undisturbed
returns-in_err-come-clause-undisturbed g c =
    g.met.P.Pages.«then» c.args.pages.now c.with_behind.new.pages c.lay.new.pages
    (g.met.P.Pages.«then» c.args.pages.now c.with_before.new.pages c.with_behind.new.pages c.in_ok-front.ensures.undisturbed c.in_ok-back.ensures.undisturbed) c.in_err-come.ensures.undisturbed

pub returns-clause-undisturbed : goal.returns-clause-undisturbed
returns-clause-undisturbed g c =
    g.met.P.Pages.«then» c.args.pages.now c.with_behind.new.pages c.lay.new.pages
    (g.met.P.Pages.«then» c.args.pages.now c.with_before.new.pages c.with_behind.new.pages c.in_ok-front.ensures.undisturbed c.in_ok-back.ensures.undisturbed) c.in_ok-come.ensures.undisturbed

pub returns-clause-kept : goal.returns-clause-kept
returns-clause-kept g c = λ p.
    kept_since g.P.Pages.tells c.args.shelf.now.kind.now.columns (gone c.args.places.now c.args.first c.args.stop c.args.joins p) (list_of c.in_ok-come.come) p.back
    (g.P.Pages.contents c.args.pages.now) (g.P.Pages.contents c.with_behind.new.pages) (g.P.Pages.contents c.lay.new.pages) (c.in_ok-back.ensures.call.free ∙ c.in_ok-front.ensures.call.free)
    (λ told n. c.in_ok-back.ensures.call.pages told n ∙ c.in_ok-front.ensures.call.pages told n)
    (kept_slices c.args.places.now c.args.first c.args.stop c.args.joins p g.P.Pages.tells c.args.shelf.now.kind.now.columns (list_of c.in_ok-come.come) (g.P.Pages.contents c.with_behind.new.pages) (g.P.Pages.contents c.lay.new.pages) c.in_ok-come.ensures.kept)

pub returns-clause-count : goal.returns-clause-count
returns-clause-count g c = λ p.
    let all = c.in_ok-come.ensures.count in
    let most1 = c.in_ok-front.ensures.most in
    let most2 = c.in_ok-back.ensures.most in
    let same1 = ap count_of (before_slice c.args.places.now c.args.first c.args.stop c.args.joins p) in
    let same2 = ap count_of (behind_slice c.args.places.now c.args.first c.args.stop c.args.joins p) in
    omega (arith, all, most1, most2, same1, same2)

pub returns-clause-told : goal.returns-clause-told
returns-clause-told g c = λ told number p cl cr es fs on1 on2 has1 has2 order can.
    let slot = c.args.shelf.now.series in
    let columns = c.args.shelf.now.kind.now.columns in
    let v = (g.P.Pages.contents c.args.pages.now).page in
    let u = (g.P.Pages.contents c.with_before.new.pages).page in
    let here1 = subst (λ (l : List Place). AreChained slot columns v l cl) (sym (before_slice c.args.places.now c.args.first c.args.stop c.args.joins p)) on1 in
    let here2 = chained_since slot columns v u _ cr (c.in_ok-front.ensures.call.pages told) (subst (λ (l : List Place). AreChained slot columns v l cr) (sym (behind_slice c.args.places.now c.args.first c.args.stop c.args.joins p)) on2) in
    let front = order_front columns (all_in cl ++ es) (fs ++ all_in cr) order in
    let back = order_back columns (all_in cl ++ es) (fs ++ all_in cr) order in
    c.in_ok-come.ensures.told told number (all_in cl ++ es) (fs ++ all_in cr)
    (c.in_ok-front.ensures.told told cl es here1 (order_back columns (all_in cl) es front).each has1)
    (c.in_ok-back.ensures.told told cr fs here2 (order_front columns fs (all_in cr) back).each has2)
    order (begin_slices c.args.places.now c.args.first c.args.stop c.args.joins p c.args.joins.apart (all_in cl ++ es) (fs ++ all_in cr) can)

pub returns-clause-number : goal.returns-clause-number
returns-clause-number g c = λ told p cl cr es fs on1 on2 each1 each2 has1 has2.
    let slot = c.args.shelf.now.series in
    let columns = c.args.shelf.now.kind.now.columns in
    let v = (g.P.Pages.contents c.args.pages.now).page in
    let u = (g.P.Pages.contents c.with_before.new.pages).page in
    let here1 = subst (λ (l : List Place). AreChained slot columns v l cl) (sym (before_slice c.args.places.now c.args.first c.args.stop c.args.joins p)) on1 in
    let here2 = chained_since slot columns v u _ cr (c.in_ok-front.ensures.call.pages told) (subst (λ (l : List Place). AreChained slot columns v l cr) (sym (behind_slice c.args.places.now c.args.first c.args.stop c.args.joins p)) on2) in
    let number1 = (c.in_ok-front.ensures.told told cl es here1 each1 has1).number in
    let number2 = (c.in_ok-back.ensures.told told cr fs here2 each2 has2).number in
    let all = c.in_ok-come.ensures.count in
    omega (arith, length-append (all_in cl ++ es) (fs ++ all_in cr), number1, number2, all)
