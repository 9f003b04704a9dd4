use Rattle.std.proofs.Common.{List, get_or, take, arith}
use Rattle.std.proofs.lemmas.List.{length-take-le}
use Rattle.ts_space.specs.declared.place.Place.{Place}
use Rattle.ts_page.proofs.ReadsLemmas.{reads_none}
use Rattle.ts_shelf.proofs.ReadingLemmas.{then_reads}
use Rattle.ts_combined_rows.proofs.GatheredLemmas.{readable_still, page_got, none_read, read_more, read_within}
use Rattle.ts_combined_rows.proofs.gathered.read_pages.Goals as goal

pub read-requires-clause-number : goal.read-requires-clause-number
read-requires-clause-number g c = (readable_still g.P.Pages.tells tt (g.P.Pages.contents c.args.pages.now) (g.P.Pages.contents c.loop-place.pages) _ c.loop-place.invariant.call (c.requires.readable c.loop-place.place-index _ c.loop-place-test.true)).below

pub read-requires-clause-room : goal.read-requires-clause-room
read-requires-clause-room g c =
    let tells = g.P.Pages.tells in
    let places : List Place = c.args.places.now in
    let index = c.loop-place.place-index in
    let long = read_within tells (g.P.Pages.contents c.args.pages.now).page (take index places) c.args.held.now c.loop-place.held c.loop-place.invariant.read in
    let within = c.loop-place-test.true in
    let short = length-take-le index places (omega (arith, within)) in
    let room = c.requires.room in
    omega (arith, long, short, within, room)

pub loop-place-init : goal.loop-place-init
loop-place-init g c = record {
  call = reads_none g.P.Pages.tells (g.P.Pages.contents c.args.pages.now);
  undisturbed = g.met.P.Pages.stays c.args.pages.now;
  read = none_read g.P.Pages.tells (g.P.Pages.contents c.args.pages.now).page c.args.held.now;
}

pub loop-place-preserved : goal.loop-place-preserved
loop-place-preserved g c =
    let tells = g.P.Pages.tells in
    let u = g.P.Pages.contents c.args.pages.now in
    let v = g.P.Pages.contents c.loop-place.pages in
    let w = g.P.Pages.contents c.read.new.pages in
    let so_far = c.loop-place.invariant in
    let places : List Place = c.args.places.now in
    let index = c.loop-place.place-index in
    let got = c.in_ok-read.ensures in
    let page = got.read.0 in
    let can = readable_still tells tt u v (get_or places index _) so_far.call (c.requires.readable index _ c.loop-place-test.true) in
    record {
      call = then_reads tells tt tt u v w so_far.call got.call;
      undisturbed = g.met.P.Pages.«then» c.args.pages.now c.loop-place.pages c.read.new.pages so_far.undisturbed got.undisturbed;
      read = read_more tells u.page places index _ c.args.held.now c.loop-place.held c.read.new.self page c.loop-place-test.true so_far.read (page_got tells tt _ _ u v so_far.call can got.read.2) got.read.1;
    }
