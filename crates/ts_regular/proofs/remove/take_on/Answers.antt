-- The page is read once: it stays where the cell has no element, is freed where that was the last one, and else has one less.
use Rattle.std.proofs.Common.{rules, ◌<◌, IsTrue, w64, None, ℕ, List, ◌∷◌, drop, refl, sym, ap, ◌∙◌, arith}
use Rattle.std.proofs.Math.ListN.{length-set}
use Rattle.std.proofs.lemmas.Int.{to_z-of_z}
use Rattle.ts_page.specs.Pages.{zero_page}
use Rattle.ts_row.specs.declared.kind.Column.{Column}
use Rattle.ts_regular.specs.RegularPage.{regular_page}
use Rattle.ts_regular.specs.Places.{OffsetPage, IsOn}
use Rattle.ts_regular.specs.OnePage.{without_row}
use Rattle.ts_regular.proofs.HeadLemmas.{behind_told}
use Rattle.ts_regular.proofs.KeptLemmas.{cells_set, edited_on, other_page, page_from, pos_one, read_on, same_pages}
use Rattle.ts_regular.proofs.remove.take_on.Goals as goal

pub returns-then-count-had-clause-ok : goal.returns-then-count-had-clause-ok
returns-then-count-had-clause-ok g c =
    let tells = g.P.Pages.tells in
    let slot : ℕ = c.args.shelf.now.series in
    let columns : List Column = c.args.shelf.now.kind.now.columns in
    let place = c.args.place.now in
    let v = g.P.Pages.contents c.args.pages.now in
    let u = g.P.Pages.contents c.get.new.self in
    let bytes : List ℕ = c.get.new.into.bytes in
    let got = c.in_ok-get.ensures.got in
    record {
      absent = λ t p on.
          let read = read_on tells slot columns place bytes v u c.requires.place.readable.element got t p on in
          let is = page_from slot columns c.args.base bytes place p c.requires.at read in
          let had = c.count_taken-had.ensures.told p.1 is read.count in
          c.take_out-count.ensures.empty c.if-count-had.true p.1 is.fill.each is.fill.room (read.count ∙ sym had.0) (ap (drop 32) had.1 ∙ behind_told slot columns c.args.base p.1 bytes is);
      same = same_pages tells place.page bytes v u got;
    }

pub returns-then-count-eq0-clause-ok : goal.returns-then-count-eq0-clause-ok
returns-then-count-eq0-clause-ok g c =
    let tells = g.P.Pages.tells in
    let slot : ℕ = c.args.shelf.now.series in
    let columns : List Column = c.args.shelf.now.kind.now.columns in
    let place = c.args.place.now in
    let v = g.P.Pages.contents c.args.pages.now in
    let u = g.P.Pages.contents c.get.new.self in
    let bytes : List ℕ = c.get.new.into.bytes in
    let got = c.in_ok-get.ensures.got in
    let freed = c.in_ok-free.ensures.freed in
    let less : c.take_out-count.result < c.count_taken-had.result = omega (arith, c.if-count-had.false, c.take_out-count.ensures.fewer) in
    let told = λ (t : IsTrue tells) (p : OffsetPage) (on : IsOn slot columns (v.page place.page) place p).
    let read = read_on tells slot columns place bytes v u c.requires.place.readable.element got t p on in
    let is = page_from slot columns c.args.base bytes place p c.requires.at read in
    let had = c.count_taken-had.ensures.told p.1 is read.count in
    c.take_out-count.ensures.taken less p.1 is.fill.each is.fill.room (read.count ∙ sym had.0) (ap (drop 32) had.1 ∙ behind_told slot columns c.args.base p.1 bytes is) in
    record {
      there = λ t p on. (told t p on).0;
      left = λ t p on. (told t p on).1 ∙ c.if-count-eq0.true;
      free = freed.listed ∙ ap (λ (l : List ℕ). place.page ∷ l) got.free;
      others = λ t other not. freed.freed t other ∙ other_page place.page other zero_page u.page not ∙ got.pages t other;
    }

pub returns-clause-ok : goal.returns-clause-ok
returns-clause-ok g c =
    let tells = g.P.Pages.tells in
    let slot : ℕ = c.args.shelf.now.series in
    let columns : List Column = c.args.shelf.now.kind.now.columns in
    let place = c.args.place.now in
    let v = g.P.Pages.contents c.args.pages.now in
    let u = g.P.Pages.contents c.get.new.self in
    let bytes : List ℕ = c.get.new.into.bytes in
    let got = c.in_ok-get.ensures.got in
    let less : c.take_out-count.result < c.count_taken-had.result = omega (arith, c.if-count-had.false, c.take_out-count.ensures.fewer) in
    let few = c.count_taken-had.ensures.few in
    let told = λ (t : IsTrue tells) (p : OffsetPage) (on : IsOn slot columns (v.page place.page) place p).
    let read = read_on tells slot columns place bytes v u c.requires.place.readable.element got t p on in
    let is = page_from slot columns c.args.base bytes place p c.requires.at read in
    let had = c.count_taken-had.ensures.told p.1 is read.count in
    c.take_out-count.ensures.taken less p.1 is.fill.each is.fill.room (read.count ∙ sym had.0) (ap (drop 32) had.1 ∙ behind_told slot columns c.args.base p.1 bytes is) in
    record {
      there = λ t p on. (told t p on).0;
      fewer = omega (arith, less, few);
      edited = edited_on tells slot columns place bytes c.take_out-count.new.page.bytes v u (g.P.Pages.contents c.put.new.self) c.requires.place.readable.element got.pages got.free c.in_ok-put.ensures.put
          _ (without_row c.args.index) refl (to_z-of_z w64 place.at (search rules)) (record { some = omega (arith, c.if-count-eq0.false); room = omega (arith, less, few, c.requires.place.counted.room) })
          (λ t p on. (
            cells_set columns c.args.index None p.1 tt on.bytes.fill.each,
            length-set p.1 c.args.index None ∙ on.bytes.fill.room,
            (told t p on).1,
            (told t p on).2 ∙ ap (λ (b : ℕ). regular_page slot columns b (without_row c.args.index p.1)) (pos_one c.args.base p.0 place.at c.requires.at on.at),
          ));
    }
