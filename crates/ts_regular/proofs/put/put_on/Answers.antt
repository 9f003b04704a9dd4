-- The page is read once, and has a row more or another one.
use Rattle.std.proofs.Common.{rules, w64, Some, ℕ, List, drop, refl, sym, ap, ◌∙◌}
use Rattle.std.proofs.Math.ListN.{length-set}
use Rattle.std.proofs.lemmas.Int.{to_z-of_z}
use Rattle.ts_row.specs.declared.kind.Column.{Column}
use Rattle.ts_regular.specs.RegularPage.{regular_page}
use Rattle.ts_regular.specs.OnePage.{with_row}
use Rattle.ts_regular.proofs.HeadLemmas.{behind_told}
use Rattle.ts_regular.proofs.KeptLemmas.{cells_set, edited_on, page_from, pos_one, read_on}
use Rattle.ts_regular.proofs.put.put_on.Goals as goal

pub returns-clause-ok : goal.returns-clause-ok
returns-clause-ok g c =
    let tells = g.P.Pages.tells in
    let slot : ℕ = c.args.shelf.now.series in
    let columns : List Column = c.args.shelf.now.kind.now.columns in
    let place = c.args.place.now in
    let v = g.P.Pages.contents c.args.pages.now in
    let u = g.P.Pages.contents c.get.new.self in
    let bytes : List ℕ = c.get.new.into.bytes in
    let got = c.in_ok-get.ensures.got in
    edited_on tells slot columns place bytes c.put_into-count.new.page.bytes v u (g.P.Pages.contents c.put.new.self) c.requires.place.readable.element got.pages got.free c.in_ok-put.ensures.put
    _ (with_row c.args.index c.args.row.now) refl (to_z-of_z w64 place.at (search rules)) (record { some = c.put_into-count.ensures.some; room = c.put_into-count.ensures.most })
    (λ t p on.
    let read = read_on tells slot columns place bytes v u c.requires.place.readable.element got t p on in
    let is = page_from slot columns c.args.base bytes place p c.requires.at read in
    let had = c.count_taken-had.ensures.told p.1 is read.count in
    let made = c.put_into-count.ensures.put p.1 is.fill.each is.fill.room (read.count ∙ sym had.0) (ap (drop 32) had.1 ∙ behind_told slot columns c.args.base p.1 bytes is) in (
      cells_set columns c.args.index (Some c.args.row.now) p.1 c.requires.fits is.fill.each,
      length-set p.1 c.args.index (Some c.args.row.now) ∙ is.fill.room,
      made.0,
      made.1 ∙ ap (λ (b : ℕ). regular_page slot columns b (with_row c.args.index c.args.row.now p.1)) (pos_one c.args.base p.0 place.at c.requires.at on.at),
    ))
