-- A first element stands on a page that `take` gave.
use Rattle.std.proofs.Common.{rules, None, List, drop, ap, ◌∙◌, inr, arith}
use Rattle.std.proofs.lemmas.List.{length-replicate}
use Rattle.ts_row.specs.declared.kind.Column.{Column}
use Rattle.ts_regular.specs.RegularPage.{regular_room}
use Rattle.ts_regular.specs.OnePage.{no_cells}
use Rattle.ts_regular.proofs.KeptLemmas.{alone_on, behind_zeros, no_count, no_room, taken_element}
use Rattle.ts_regular.proofs.put.put_alone.Goals as goal

pub put-requires-clause-within : goal.put-requires-clause-within
put-requires-clause-within g c =
    (taken_element g.P.Pages.tells c.take-number.result (g.P.Pages.contents c.args.pages.now) (g.P.Pages.contents c.take-number.new.self) (g.met.P.Pages.lawful c.args.pages.now) c.take-number.ensures.taken).1

pub put-requires-clause-outside : goal.put-requires-clause-outside
put-requires-clause-outside g c =
    let t = taken_element g.P.Pages.tells c.take-number.result (g.P.Pages.contents c.args.pages.now) (g.P.Pages.contents c.take-number.new.self) (g.met.P.Pages.lawful c.args.pages.now) c.take-number.ensures.taken in
    inr (omega (arith, t.0))

pub put-requires-clause-used : goal.put-requires-clause-used
put-requires-clause-used g c =
    (taken_element g.P.Pages.tells c.take-number.result (g.P.Pages.contents c.args.pages.now) (g.P.Pages.contents c.take-number.new.self) (g.met.P.Pages.lawful c.args.pages.now) c.take-number.ensures.taken).2

pub returns-clause-ok : goal.returns-clause-ok
returns-clause-ok g c =
    let columns : List Column = c.args.shelf.now.kind.now.columns in
    let made = c.put_into-count.ensures.put (no_cells columns) (no_room columns (regular_room columns)) (length-replicate (regular_room columns) None) (no_count (regular_room columns)) (ap (drop 32) c.zero.ensures ∙ behind_zeros columns) in
    alone_on g.P.Pages.tells c.args.shelf.now.series columns c.args.base c.args.index c.take-number.result c.put_into-count.result c.args.row.now _ c.put_into-count.new.page.bytes
    (g.P.Pages.contents c.args.pages.now) (g.P.Pages.contents c.take-number.new.self) (g.P.Pages.contents c.put.new.self)
    (omega (arith, c.requires.slot)) (omega (arith, c.requires.limit)) c.requires.whole c.requires.fits (search rules) c.put_into-count.ensures.some c.put_into-count.ensures.more c.take-number.ensures.taken c.in_ok-put.ensures.put made
