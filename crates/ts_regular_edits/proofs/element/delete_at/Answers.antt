use Rattle.std.proofs.Common.{◌≡◌, ℕ, ℤ, Option, None, refl, arith, inr}
use Rattle.ts_base.specs.declared.refusal.Refusal.{Refusal}
use Rattle.ts_space.specs.declared.moved.Moved.{Moved}
use Rattle.ts_space.specs.Directory.{places_of}
use Rattle.ts_regular.specs.Call.{Stays, IsRemoved}
use Rattle.ts_regular_edits.proofs.AddressLemmas.{any_addressed, answered_same, same}
use Rattle.ts_regular_edits.proofs.element.delete_at.Goals as goal

pub returns-in-Ok : goal.returns-in-Ok
returns-in-Ok g c =
    let tells = g.P.Pages.tells in
    let shelf = c.args.shelf.now in
    let v = g.P.Pages.contents c.args.pages.now in
    let w = g.P.Pages.contents c.regular_remove.new.pages in
    let removed = c.regular_remove.ensures in
    record {
      ok = any_addressed c.args.grid.now c.args.stamp c.in-Ok.at.offset c.in-Ok.at.start
          (λ (moved : Option Moved) (offset : ℕ) (start : ℤ). IsRemoved tells shelf.series shelf.kind.now.columns offset (places_of shelf.series c.args.space.now) v w moved)
          (λ (moved : Option Moved) (why : Refusal). (moved ≡ None) × Stays tells v w) c.regular_remove.result c.in-Ok.ensures.ok removed.ok;
      err = removed.err;
      call = removed.call;
      change = removed.change;
      taken = removed.taken;
      undisturbed = removed.undisturbed;
    }

pub returns-in-Err : goal.returns-in-Err
returns-in-Err g c =
    let v = g.P.Pages.contents c.args.pages.now in
    record {
      ok = inr (record { why = c.in-Err.field-0; is = c.in-Err.ensures.err; holds = (refl, same g.P.Pages.tells v) });
      err = tt;
      call = answered_same None v;
      change = omega arith;
      taken = omega arith;
      undisturbed = g.met.P.Pages.stays c.args.pages.now;
    }
