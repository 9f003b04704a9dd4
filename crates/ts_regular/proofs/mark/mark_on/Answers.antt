-- The page is read once: it stays where the cell has no element, and has another mark where it has one.
use Rattle.std.proofs.Common.{◌<◌, IsTrue, IsSome, ℕ, List, length, sym, refl, ◌∙◌, arith}
use Rattle.std.specs.Option.{option_map}
use Rattle.std.proofs.Math.ListN.{length-set}
use Rattle.ts_row.specs.declared.kind.Column.{Column}
use Rattle.ts_row.specs.Row.{marked}
use Rattle.ts_regular.specs.Places.{OffsetPage, IsOn}
use Rattle.ts_regular.specs.OnePage.{cell_at, with_mark}
use Rattle.ts_regular.proofs.BytesLemmas.{around}
use Rattle.ts_regular.proofs.CellsLemmas.{none_there}
use Rattle.ts_regular.proofs.HeadLemmas.{behind_told, cells_put, length-page, part_behind}
use Rattle.ts_regular.proofs.KeptLemmas.{cells_set, edited_on, mark_count, mark_fits}
use Rattle.ts_regular.proofs.mark.mark_on.Goals as goal

pub returns-then-not-branch-clause-ok : goal.returns-then-not-branch-clause-ok
returns-then-not-branch-clause-ok g c =
    record {
      absent = λ t p on. let told = c.in_ok-is_there.ensures.there t p on in none_there (cell_at p.1 c.args.index) _ c.if-not-branch.true told.1;
      same = record { free = c.in_ok-is_there.ensures.call.free; pages = c.in_ok-is_there.ensures.call.pages };
    }

pub returns-clause-ok : goal.returns-clause-ok
returns-clause-ok g c =
    let tells = g.P.Pages.tells in
    let slot : ℕ = c.args.shelf.now.series in
    let columns : List Column = c.args.shelf.now.kind.now.columns in
    let place = c.args.place.now in
    let v = g.P.Pages.contents c.args.pages.now in
    let u = g.P.Pages.contents c.is_there.new.pages in
    let bytes : List ℕ = c.is_there.new.page.bytes in
    let call = c.in_ok-is_there.ensures.call in
    let some = λ (t : IsTrue tells) (p : OffsetPage) (on : IsOn slot columns (v.page place.page) place p).
    (let told = c.in_ok-is_there.ensures.there t p on in
    let there : IsSome (cell_at p.1 c.args.index) = sym told.1 ∙ c.if-not-branch.false in there) in
    record {
      there = some;
      edited = edited_on tells slot columns place bytes _ v u (g.P.Pages.contents c.put.new.self) c.requires.place.readable.element call.pages call.free c.in_ok-put.ensures.put
          place (with_mark c.args.index c.args.hidden) refl refl c.requires.place.counted
          (λ t p on.
          let read = (c.in_ok-is_there.ensures.there t p on).0 in
          let is = read.bytes in
          let behind = behind_told slot columns p.0 p.1 bytes is in
          let long = length-page columns p.1 bytes is.fill.each is.fill.room behind in
          let within : c.args.index < length p.1 = omega (arith, is.fill.room, c.requires.index) in
          let a = around columns c.args.index p.1 is.fill.each within in
          let count = mark_count c.args.index c.args.hidden p.1 within (some t p on) in (
            cells_set columns c.args.index (option_map (marked c.args.hidden) (cell_at p.1 c.args.index)) p.1 (mark_fits columns c.args.hidden (cell_at p.1 c.args.index) a.fit) is.fill.each,
            length-set p.1 c.args.index (option_map (marked c.args.hidden) (cell_at p.1 c.args.index)) ∙ is.fill.room,
            count ∙ read.count,
            cells_put slot columns p.0 p.1 (with_mark c.args.index c.args.hidden p.1) bytes c.mark_at.new.behind is.bytes long count
                (c.mark_at.ensures p.1 is.fill.each within (some t p on) (part_behind 4064 bytes long ∙ behind)),
          ));
    }
