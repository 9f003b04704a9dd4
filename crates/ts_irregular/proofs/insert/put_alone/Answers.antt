-- The first element of a series: its page is one that `take` gave.
use Rattle.std.proofs.Common.{◌≤◌, List, [], ◌∷◌, drop, refl, ap, subst, ◌∙◌, inr, arith}
use Rattle.ts_base.specs.Moment.{IsStamp}
use Rattle.ts_row.specs.declared.kind.Column.{Column}
use Rattle.ts_cells.specs.IrregularPage.{IsElement, page_room}
use Rattle.ts_irregular.proofs.BytesLemmas.{room_some}
use Rattle.ts_irregular.proofs.SeeLemmas.{behind_zeros}
use Rattle.ts_irregular.proofs.KeptLemmas.{taken_element}
use Rattle.ts_irregular.proofs.InsertLemmas.{put_alone}
use Rattle.ts_irregular.proofs.insert.put_alone.Goals as goal

pub put-requires-clause-within : goal.put-requires-clause-within
put-requires-clause-within g c =
    (taken_element g.P.Pages.tells c.take-number.result (g.P.Pages.contents c.args.pages.now) (g.P.Pages.contents c.take-number.new.self) (g.met.P.Pages.lawful c.args.pages.now) c.take-number.ensures.taken).1

pub put-requires-clause-outside : goal.put-requires-clause-outside
put-requires-clause-outside g c =
    let t = taken_element g.P.Pages.tells c.take-number.result (g.P.Pages.contents c.args.pages.now) (g.P.Pages.contents c.take-number.new.self) (g.met.P.Pages.lawful c.args.pages.now) c.take-number.ensures.taken in
    inr (omega (arith, t.0))

pub put-requires-clause-used : goal.put-requires-clause-used
put-requires-clause-used g c =
    (taken_element g.P.Pages.tells c.take-number.result (g.P.Pages.contents c.args.pages.now) (g.P.Pages.contents c.take-number.new.self) (g.met.P.Pages.lawful c.args.pages.now) c.take-number.ensures.taken).2

pub returns-clause-put : goal.returns-clause-put
returns-clause-put g c =
    let columns : List Column = c.args.shelf.now.kind.now.columns in
    let is : IsElement columns (c.args.stamp, c.args.row.now) = record { stamp = subst IsStamp c.units-units.ensures.value c.units-units.ensures.within; row = c.requires.fits } in
    let made = c.insert_into.ensures [] (record { each = tt; rising = tt }) refl refl (ap (drop 32) c.zero.ensures ∙ behind_zeros columns) in
    let room : 1 ≤ page_room columns =
    room_some columns (omega (arith, c.width-width.ensures.value, c.width-width.ensures.bound)) in
    put_alone g.P.Pages.tells c.args.shelf.now.series c.take-number.result columns (c.args.stamp, c.args.row.now) c.place_in.result c.insert_into.new.page.bytes (g.P.Pages.contents c.args.pages.now) (g.P.Pages.contents c.take-number.new.self)
    (g.P.Pages.contents c.put.new.self) c.take-number.ensures.taken is made room c.in_ok-put.ensures.put (c.place_in.ensures.listed ((c.args.stamp, c.args.row.now) ∷ []) (is, tt) refl made)
