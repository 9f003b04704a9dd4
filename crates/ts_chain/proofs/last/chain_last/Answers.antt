use Rattle.std.proofs.Common.{◌-◌, Ok, List, [], ◌∷◌, sym, subst, arith, get_or}
use Rattle.ts_space.specs.declared.place.Place.{Place}
use Rattle.ts_row.specs.declared.kind.Column.{Column}
use Rattle.ts_irregular.specs.Call.{IsLast}
use Rattle.ts_sheets.specs.Places.{AreChained}
use Rattle.ts_page.proofs.ReadsLemmas.{reads_none, reads_more, reads_ok}
use Rattle.ts_chain.proofs.LastLemmas.{among_all, among_before, last_here}
use Rattle.ts_chain.proofs.last.chain_last.Goals as goal

pub loop-left-init : goal.loop-left-init
loop-left-init g c =
    let v = g.P.Pages.contents c.args.pages.now in
    record {
      within = omega arith;
      call = reads_none g.P.Pages.tells v;
      undisturbed = g.met.P.Pages.stays c.args.pages.now;
      among = among_all g.P.Pages.tells c.args.shelf.now.series c.args.shelf.now.kind.now.columns c.places-places.result.now v;
    }

pub returns-in-Some-clause-last : goal.returns-in-Some-clause-last
returns-in-Some-clause-last g c =
    let u = g.P.Pages.contents c.args.pages.now in
    let v = g.P.Pages.contents c.loop-left.pages in
    let columns : List Column = c.args.shelf.now.kind.now.columns in
    let i = c.loop-left.invariant in
    let places : List Place = c.places-places.result.now in
    let place : Place = get_or places (c.loop-left.left - 1) _ in
    let last : IsLast g.P.Pages.tells c.args.shelf.now.series columns (place ∷ []) v c.in_ok-last.field-0 = c.in_ok-last.ensures.last in
    λ told chain on is.
    last_here g.P.Pages.tells c.args.shelf.now.series columns places (c.loop-left.left - 1) c.loop-left.left _ u v (omega (arith, c.loop-left-test.true)) (omega (arith, c.loop-left-test.true, i.within)) i.call i.among c.in-Some.last
    (subst (IsLast g.P.Pages.tells c.args.shelf.now.series columns (place ∷ []) v) c.in-Some.is last) told chain
    (subst (λ (ps : List Place). AreChained c.args.shelf.now.series columns u.page ps chain) (sym c.places-places.ensures.ok) on)

pub loop-left-preserved : goal.loop-left-preserved
loop-left-preserved g c =
    let u = g.P.Pages.contents c.args.pages.now in
    let v = g.P.Pages.contents c.loop-left.pages in
    let w = g.P.Pages.contents c.last_on.new.pages in
    let columns : List Column = c.args.shelf.now.kind.now.columns in
    let i = c.loop-left.invariant in
    let places : List Place = c.places-places.result.now in
    let place : Place = get_or places (c.loop-left.left - 1) _ in
    let last : IsLast g.P.Pages.tells c.args.shelf.now.series columns (place ∷ []) v c.in_ok-last.field-0 = c.in_ok-last.ensures.last in
    record {
      within = omega (arith, i.within);
      call = reads_ok g.P.Pages.tells c.in_ok-last.field-0 tt u w (reads_more g.P.Pages.tells tt (Ok c.in_ok-last.field-0) u v w i.call c.in_ok-last.ensures.call);
      undisturbed = g.met.P.Pages.«then» c.args.pages.now c.loop-left.pages c.last_on.new.pages i.undisturbed c.in_ok-last.ensures.undisturbed;
      among = among_before g.P.Pages.tells c.args.shelf.now.series columns places (c.loop-left.left - 1) c.loop-left.left _ u v (omega (arith, c.loop-left-test.true)) (omega (arith, c.loop-left-test.true, i.within)) i.call i.among
          (subst (IsLast g.P.Pages.tells c.args.shelf.now.series columns (place ∷ []) v) c.in_default.is last);
    }
