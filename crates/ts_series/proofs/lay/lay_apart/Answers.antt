use Rattle.std.proofs.Common.{◌∙◌, arith}
use Rattle.ts_series.proofs.LayLemmas.{kept_two, freed_length, rising_second, begin_at, begin_second, is_on, piece_on, put_both_at, order_front, order_back, used_of}
use Rattle.ts_series.proofs.lay.lay_apart.Goals as goal

pub begun-second-requires : goal.begun-second-requires
begun-second-requires g c = rising_second c.args.gone.now c.args.back.now _ c.requires.two c.requires.rising

pub returns-clause-kept : goal.returns-clause-kept
returns-clause-kept g c =
    let b = c.begun-second.ensures in
    let f = c.recounted-first.ensures in
    let some = c.requires.some in
    let room = c.requires.room in
    let counted = b.count ∙ c.place_in-read.ensures.count in
    kept_two g.P.Pages.tells c.args.shelf.now.kind.now.columns c.args.gone.now c.args.back.now c.requires.rising (g.P.Pages.contents c.args.pages.now) (g.P.Pages.contents c.put_two.new.pages) c.in_ok-put_two.ensures.others
    _ _ c.recounted-first.result c.begun-second.result c.requires.two f.page (b.page ∙ c.place_in-read.ensures.number) f.at b.begins.low b.begins.above
    (let one = some.0 in let fit = room.0 in record { some = omega (arith, f.count, one); room = omega (arith, f.count, fit) }) (let one = some.1 in let fit = room.1 in record { some = omega (arith, counted, one); room = omega (arith, counted, fit) }) c.in_ok-put_two.ensures.free

pub returns-clause-told : goal.returns-clause-told
returns-clause-told g c = λ told number xs ys has1 has2 order can.
    let b = c.begun-second.ensures in
    let f = c.recounted-first.ensures in
    let columns = c.args.shelf.now.kind.now.columns in
    let some = c.requires.some in
    let room = c.requires.room in
    let at = put_both_at (g.P.Pages.contents c.put_two.new.pages).page c.args.page.now.bytes c.args.behind.now.bytes c.args.gone.now _ _ c.recounted-first.result.page c.begun-second.result.page c.requires.two f.page (b.page ∙ c.place_in-read.ensures.number) (c.in_ok-put_two.ensures.put told) in (
      is_on c.args.shelf.now.series columns number _ c.recounted-first.result xs c.args.left.front c.args.page.now.bytes some.0 room.0 has1 (order_front columns xs ys order) at.0 f.count (begin_at c.args.gone.now c.args.back.now _ xs ys c.recounted-first.result.at c.requires.two f.at can),
      (
        piece_on c.args.shelf.now.series columns number _ c.begun-second.result c.place_in-read.result _ c.args.back.now _ c.args.left.back c.args.behind.now.bytes ys some.1 room.1 (b.count ∙ c.place_in-read.ensures.count) at.1
            b.begins c.place_in-read.ensures.listed has2 (order_back columns xs ys order) (begin_second c.args.gone.now c.args.back.now _ xs ys c.requires.two can),
        tt,
      ),
    )

pub returns-clause-grows : goal.returns-clause-grows
returns-clause-grows g c =
    let change = c.in_ok-put_two.ensures.change in
    let long = freed_length (g.P.Pages.contents c.args.pages.now).free (g.P.Pages.contents c.put_two.new.pages).free _ c.in_ok-put_two.ensures.free in
    omega (arith, change, long)

pub put_two-requires-clause-places : goal.put_two-requires-clause-places
put_two-requires-clause-places g c = used_of c.args.shelf.now.kind.now.columns (g.P.Pages.contents c.args.pages.now) c.args.gone.now c.requires.places
