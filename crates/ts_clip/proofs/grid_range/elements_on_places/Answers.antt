use Rattle.std.proofs.Common.{◌≡◌, ℕ, ◌<◌, Ok, List, ◌++◌, length, take, get_or, sym, subst, ◌∙◌, arith}
use Rattle.std.proofs.lemmas.List.{take_all}
use Rattle.ts_space.specs.declared.place.Place.{Place}
use Rattle.ts_row.specs.declared.kind.Column.{Column}
use Rattle.ts_regular.specs.RegularPage.{seen}
use Rattle.ts_regular.specs.Places.{OffsetPage, IsOn, all_in}
use Rattle.ts_regular.specs.Range.{within}
use Rattle.ts_sheets.specs.Stamped.{stamped}
use Rattle.ts_page.proofs.ReadsLemmas.{reads_more}
use Rattle.ts_entry.specs.Entry.{Entry}
use Rattle.ts_clip.specs.Grid.{HaveTaken}
use Rattle.ts_clip.proofs.GridElementLemmas.{elements_both, next_taken}
use Rattle.ts_clip.proofs.GridPlaceLemmas.{page_at, pages_count}
use Rattle.ts_clip.proofs.grid_range.elements_on_places.Goals as goal

pub loop-place-preserved : goal.loop-place-preserved
loop-place-preserved g c =
    let tells = g.P.Pages.tells in
    let slot : ℕ = c.args.shelf.now.series in
    let columns : List Column = c.args.shelf.now.kind.now.columns in
    let places : List Place = c.args.places.now in
    let grid = c.args.grid.now in
    let o = c.args.offsets in
    let u = g.P.Pages.contents c.args.pages.now in
    let v = g.P.Pages.contents c.loop-place.pages in
    let w = g.P.Pages.contents c.elements_on_page.new.pages in
    let i = c.loop-place.invariant in
    let index : ℕ = c.loop-place.place-index in
    let within : index < length places = c.loop-place-test.true in
    let place : Place = get_or places index _ in
    let done = c.in_ok-elements_on_page.ensures in
    record {
      call = reads_more tells tt (Ok tt) u v w i.call done.call;
      undisturbed = g.met.P.Pages.«then» c.args.pages.now c.loop-place.pages c.elements_on_page.new.pages i.undisturbed done.undisturbed;
      taken = λ t ps on.
          let here = page_at slot columns u.page places index _ ps c.requires.rising on within in
          let own = subst (λ (b : List ℕ). IsOn slot columns b place here.page) (sym (i.call.pages t place.page)) here.on in
          let before = i.taken t ps on in
          let more = done.taken t here.page own in
          record {
            entries = before.entries ++ more.entries;
            taken = g.met.V.EntryVisitor.«then» columns c.args.visitor.now c.loop-place.visitor c.elements_on_page.new.visitor before.entries more.entries before.taken more.taken;
            are = elements_both before.entries more.entries ∙ (λ j. before.are j ++ more.are j) ∙ sym (next_taken grid slot columns u.page place o.lower o.upper index ps here);
          };
    }

pub returns-clause-taken : goal.returns-clause-taken
returns-clause-taken g c = λ t ps on.
    let columns : List Column = c.args.shelf.now.kind.now.columns in
    let o = c.args.offsets in
    let count = pages_count c.args.shelf.now.series columns (g.P.Pages.contents c.args.pages.now).page c.args.places.now ps on in
    let all : take c.loop-place.place-index ps ≡ ps = take_all c.loop-place.place-index ps (omega (arith, count, c.loop-place-test.false)) in
    subst (λ (l : List OffsetPage). HaveTaken (λ (entries : List Entry). g.V.EntryVisitor.took columns c.args.visitor.now entries c.loop-place.visitor) (stamped c.args.grid.now (seen (within o.lower o.upper (all_in l))))) all
    (c.loop-place.invariant.taken t ps on)
