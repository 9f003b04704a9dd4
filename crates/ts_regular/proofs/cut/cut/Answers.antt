-- The page is read once: it stays where no element went or none is left, and else has those that are left.
use Rattle.std.proofs.Common.{◌≡◌, ⊎_elim, IsTrue, ℕ, List, drop, refl, sym, ap, subst, ◌∙◌, arith}
use Rattle.ts_row.specs.declared.kind.Column.{Column}
use Rattle.ts_regular.specs.RegularPage.{Cell, filled_count, regular_page}
use Rattle.ts_regular.specs.Places.{OffsetPage, IsOn}
use Rattle.ts_regular.specs.Cut.{cells_outside, recounted}
use Rattle.ts_regular.proofs.HeadLemmas.{behind_told}
use Rattle.ts_regular.proofs.KeptLemmas.{edited_on, page_from, pos_one, read_on}
use Rattle.ts_regular.proofs.RangeLemmas.{outside_fit, outside_long}
use Rattle.ts_regular.proofs.CutLemmas.{whole_on}
use Rattle.ts_regular.proofs.cut.cut.Goals as goal

pub returns-then-left-place-clause-cut : goal.returns-then-left-place-clause-cut
returns-then-left-place-clause-cut g c =
    let tells = g.P.Pages.tells in
    let slot : ℕ = c.args.shelf.now.series in
    let columns : List Column = c.args.shelf.now.kind.now.columns in
    let place = c.args.place.now in
    let v = g.P.Pages.contents c.args.pages.now in
    let u = g.P.Pages.contents c.get.new.self in
    let bytes : List ℕ = c.get.new.into.bytes in
    let got = c.in_ok-get.ensures.got in
    let told = λ (t : IsTrue tells) (p : OffsetPage) (on : IsOn slot columns (v.page place.page) place p).
    (let read = read_on tells slot columns place bytes v u c.requires.place.readable.element got t p on in
    let is = page_from slot columns c.begin_of-base.result bytes place p c.begin_of-base.ensures read in
    let had = c.count_taken-had.ensures.told p.1 is read.count in
    let left = c.clear_page-left.ensures.cleared p.1 is.fill.each is.fill.room (read.count ∙ sym had.0) (ap (drop 32) had.1 ∙ behind_told slot columns c.begin_of-base.result p.1 bytes is) in
    subst (λ (b : ℕ). filled_count (cells_outside c.args.from c.args.to b p.1) ≡ c.clear_page-left.result) (pos_one c.begin_of-base.result p.0 place.at c.begin_of-base.ensures on.at) left.0) in
    let few = c.clear_page-left.ensures.fewer in
    let had = c.count_taken-had.ensures.few in
    record {
      fewer = omega (arith, few, had);
      number = told;
      on = ⊎_elim (λ all some. whole_on tells slot columns c.args.from c.args.to c.clear_page-left.result place v u got.pages all told) (λ none some. absurd (let zero_is = none.1 in omega (arith, zero_is, some))) c.then-left-place.either;
    }

pub returns-clause-cut : goal.returns-clause-cut
returns-clause-cut g c =
    let tells = g.P.Pages.tells in
    let slot : ℕ = c.args.shelf.now.series in
    let columns : List Column = c.args.shelf.now.kind.now.columns in
    let place = c.args.place.now in
    let v = g.P.Pages.contents c.args.pages.now in
    let u = g.P.Pages.contents c.get.new.self in
    let w = g.P.Pages.contents c.put.new.self in
    let bytes : List ℕ = c.get.new.into.bytes in
    let got = c.in_ok-get.ensures.got in
    let base : ℕ = c.begin_of-base.result in
    let edit : List Cell → List Cell = cells_outside c.args.from c.args.to base in
    let told = λ (t : IsTrue tells) (p : OffsetPage) (on : IsOn slot columns (v.page place.page) place p).
    (let read = read_on tells slot columns place bytes v u c.requires.place.readable.element got t p on in
    let is = page_from slot columns base bytes place p c.begin_of-base.ensures read in
    let had = c.count_taken-had.ensures.told p.1 is read.count in
    c.clear_page-left.ensures.cleared p.1 is.fill.each is.fill.room (read.count ∙ sym had.0) (ap (drop 32) had.1 ∙ behind_told slot columns base p.1 bytes is)) in
    let begins = λ (p : OffsetPage) (on : IsOn slot columns (v.page place.page) place p). pos_one base p.0 place.at c.begin_of-base.ensures on.at in
    let few = c.clear_page-left.ensures.fewer in
    let had = c.count_taken-had.ensures.few in
    let room = c.requires.place.counted.room in
    let edited = edited_on tells slot columns place bytes c.clear_page-left.new.page.bytes v u w c.requires.place.readable.element got.pages got.free c.in_ok-put.ensures.put
    (record { at = place.at; page = place.page; count = c.clear_page-left.result }) edit refl refl (record { some = omega (arith, c.if-left-eq0.false); room = omega (arith, few, had, room) })
    (λ t p on. (
      outside_fit columns c.args.from c.args.to base p.1 on.bytes.fill.each,
      outside_long c.args.from c.args.to base p.1 ∙ on.bytes.fill.room,
      (told t p on).0,
      (told t p on).1 ∙ ap (λ (b : ℕ). regular_page slot columns b (edit p.1)) (begins p on),
    )) in
    record {
      fewer = omega (arith, few, had);
      number = λ t p on. subst (λ (b : ℕ). filled_count (cells_outside c.args.from c.args.to b p.1) ≡ c.clear_page-left.result) (begins p on) (told t p on).0;
      on = λ some t p on. subst (λ (b : ℕ). IsOn slot columns (w.page place.page) (recounted place c.clear_page-left.result) (p.0, cells_outside c.args.from c.args.to b p.1)) (begins p on) (edited.on t p on);
    }
