use Rattle.std.proofs.Common.{Err, refl, arith, inr}
use Rattle.ts_space.specs.Directory.{places_of}
use Rattle.ts_regular_edits.proofs.AddressLemmas.{answered_as, answered_same, marked_addressed, same}
use Rattle.ts_regular_edits.proofs.element.mark_at.Goals as goal

pub returns-in_ok-there-in-Ok : goal.returns-in_ok-there-in-Ok
returns-in_ok-there-in-Ok g c =
    let tells = g.P.Pages.tells in
    let shelf = c.args.shelf.now in
    let v = g.P.Pages.contents c.args.pages.now in
    let w = g.P.Pages.contents c.regular_mark.new.pages in
    let there = c.in_ok-there-in-Ok.there in
    let told = c.in_ok-there-in-Ok.ensures in
    let at = c.in-Ok.at in
    record {
      ok = marked_addressed tells shelf.series shelf.kind.now.columns c.args.grid.now c.args.stamp at.offset at.start c.args.hidden (places_of shelf.series c.args.space.now) v w there c.start_if.result
          c.in-Ok.ensures.ok told.ok c.start_if.ensures.there c.start_if.ensures.none;
      err = tt;
      call = answered_as there c.start_if.result v w told.call;
      change = told.change;
      undisturbed = told.undisturbed;
    }

pub returns-in-Err : goal.returns-in-Err
returns-in-Err g c =
    let v = g.P.Pages.contents c.args.pages.now in
    record {
      ok = inr (record { why = c.in-Err.why; is = c.in-Err.ensures.err; holds = (refl, same g.P.Pages.tells v) });
      err = tt;
      call = answered_same (Err c.in-Err.why) v;
      change = omega arith;
      undisturbed = g.met.P.Pages.stays c.args.pages.now;
    }
