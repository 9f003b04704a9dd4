use Rattle.std.proofs.Common.{None, IsTrue, refl, inr}
use Rattle.ts_space.specs.Directory.{places_of}
use Rattle.ts_row.specs.Row.{Row, fits}
use Rattle.ts_page.proofs.ReadsLemmas.{reads_ok}
use Rattle.ts_regular_edits.proofs.AddressLemmas.{found_addressed, held_stamped, reads_same}
use Rattle.ts_regular_edits.proofs.element.find_at.Goals as goal

pub returns-in_ok-found-in-Ok : goal.returns-in_ok-found-in-Ok
returns-in_ok-found-in-Ok g c =
    let tells = g.P.Pages.tells in
    let shelf = c.args.shelf.now in
    let columns = shelf.kind.now.columns in
    let v = g.P.Pages.contents c.args.pages.now in
    let found = c.in_ok-found-in-Ok.found in
    let told = c.in_ok-found-in-Ok.ensures in
    let at = c.in-Ok.at in
    record {
      found = found_addressed tells shelf.series columns c.args.grid.now c.args.stamp at.offset at.start (places_of shelf.series c.args.space.now) v found c.stamped.result c.in-Ok.ensures.ok told.found c.stamped.ensures;
      fits = held_stamped (λ (row : Row). IsTrue (fits columns row)) at.start found c.stamped.result c.stamped.ensures told.fits;
      call = reads_ok tells found c.stamped.result v (g.P.Pages.contents c.regular_find.new.pages) told.call;
      undisturbed = told.undisturbed;
    }

pub returns-in-Err : goal.returns-in-Err
returns-in-Err g c = record {
  found = inr (record { why = c.in-Err.field-0; is = c.in-Err.ensures.err; holds = refl });
  fits = tt;
  call = reads_same g.P.Pages.tells None (g.P.Pages.contents c.args.pages.now);
  undisturbed = g.met.P.Pages.stays c.args.pages.now;
}
