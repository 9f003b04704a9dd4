use Rattle.std.proofs.Common.{◌∙◌, ◌++◌, arith}
use Rattle.ts_series.proofs.LayLemmas.{kept_none, kept_one, freed_length, rising_first, begin_first, piece_on, put_at, used_of}
use Rattle.ts_series.proofs.lay.lay_together.Goals as goal

pub returns-then-all-eq0-clause-kept : goal.returns-then-all-eq0-clause-kept
returns-then-all-eq0-clause-kept g c =
    kept_none g.P.Pages.tells c.args.shelf.now.kind.now.columns c.args.gone.now c.args.back.now c.requires.rising (g.P.Pages.contents c.args.pages.now) (g.P.Pages.contents c.free_pages.new.pages) c.in_ok-free_pages.ensures.freed

pub returns-then-all-eq0-clause-grows : goal.returns-then-all-eq0-clause-grows
returns-then-all-eq0-clause-grows g c =
    let change = c.in_ok-free_pages.ensures.change in
    let long = freed_length (g.P.Pages.contents c.args.pages.now).free (g.P.Pages.contents c.free_pages.new.pages).free c.args.gone.now c.in_ok-free_pages.ensures.freed.free in
    omega (arith, change, long)

pub begun-one-requires : goal.begun-one-requires
begun-one-requires g c = rising_first c.args.gone.now c.args.back.now _ c.requires.some c.requires.rising

pub returns-clause-kept : goal.returns-clause-kept
returns-clause-kept g c =
    let b = c.begun-one.ensures in
    let some = c.if-all-eq0.false in
    let room = c.requires.room in
    let counted = b.count ∙ c.place_in-read.ensures.count in
    kept_one g.P.Pages.tells c.args.shelf.now.kind.now.columns c.args.gone.now c.args.back.now c.requires.rising (g.P.Pages.contents c.args.pages.now) (g.P.Pages.contents c.put_one.new.pages) c.in_ok-put_one.ensures.others
    _ c.begun-one.result c.requires.some (b.page ∙ c.place_in-read.ensures.number) b.begins.low b.begins.above
    (record { some = omega (arith, counted, some); room = omega (arith, counted, room) }) c.in_ok-put_one.ensures.free

pub returns-clause-told : goal.returns-clause-told
returns-clause-told g c = λ told number xs ys has order can.
    let b = c.begun-one.ensures in
    let some = c.if-all-eq0.false in (
      piece_on c.args.shelf.now.series c.args.shelf.now.kind.now.columns number _ c.begun-one.result c.place_in-read.result _ c.args.back.now _ c.args.all c.args.page.now.bytes (xs ++ ys) (omega (arith, some)) c.requires.room
          (b.count ∙ c.place_in-read.ensures.count)
          (put_at (g.P.Pages.contents c.put_one.new.pages).page c.args.page.now.bytes c.args.gone.now _ c.begun-one.result.page c.requires.some (b.page ∙ c.place_in-read.ensures.number) (c.in_ok-put_one.ensures.put told))
          b.begins c.place_in-read.ensures.listed has order (begin_first c.args.gone.now c.args.back.now _ (xs ++ ys) c.requires.some can),
      tt,
    )

pub returns-clause-grows : goal.returns-clause-grows
returns-clause-grows g c =
    let change = c.in_ok-put_one.ensures.change in
    let long = freed_length (g.P.Pages.contents c.args.pages.now).free (g.P.Pages.contents c.put_one.new.pages).free _ c.in_ok-put_one.ensures.free in
    omega (arith, change, long)

pub free_pages-requires-clause-each : goal.free_pages-requires-clause-each
free_pages-requires-clause-each g c = (used_of c.args.shelf.now.kind.now.columns (g.P.Pages.contents c.args.pages.now) c.args.gone.now c.requires.places).each

pub put_one-requires-clause-places : goal.put_one-requires-clause-places
put_one-requires-clause-places g c = used_of c.args.shelf.now.kind.now.columns (g.P.Pages.contents c.args.pages.now) c.args.gone.now c.requires.places
