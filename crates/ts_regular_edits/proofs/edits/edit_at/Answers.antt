use Rattle.std.proofs.Common.{◌≡◌, ℕ, ℤ, refl, arith, inr}
use Rattle.ts_base.specs.declared.refusal.Refusal.{Refusal}
use Rattle.ts_space.specs.Directory.{places_of}
use Rattle.ts_regular.specs.Call.{Stays}
use Rattle.ts_series.specs.declared.edits.Edited.{Edited}
use Rattle.ts_series.specs.declared.edits.Edited.TheVariants.{Refused}
use Rattle.ts_regular_edits.specs.Edit.{IsEditedAt}
use Rattle.ts_regular_edits.proofs.AddressLemmas.{any_addressed, answered_same, same}
use Rattle.ts_regular_edits.proofs.edits.edit_at.Goals as goal

pub returns-in-Ok : goal.returns-in-Ok
returns-in-Ok g c =
    let tells = g.P.Pages.tells in
    let shelf = c.args.shelf.now in
    let v = g.P.Pages.contents c.args.pages.now in
    let w = g.P.Pages.contents c.edit_offset.new.pages in
    let done = c.edit_offset.ensures.done in
    record {
      ok = any_addressed c.args.grid.now c.args.stamp c.in-Ok.at.offset c.in-Ok.at.start
          (λ (e : Edited) (offset : ℕ) (start : ℤ). IsEditedAt tells shelf.series shelf.kind.now.columns c.args.how offset start c.args.row.now c.args.room (places_of shelf.series c.args.space.now) v w e)
          (λ (e : Edited) (why : Refusal). (e ≡ Refused why) × Stays tells v w) c.edit_offset.result c.in-Ok.ensures.ok done.ok;
      err = done.err;
      call = done.call;
      grows = done.grows;
      change = done.change;
      undisturbed = c.edit_offset.ensures.undisturbed;
    }

pub returns-in-Err : goal.returns-in-Err
returns-in-Err g c =
    let v = g.P.Pages.contents c.args.pages.now in
    record {
      ok = inr (record { why = c.in-Err.why; is = c.in-Err.ensures.err; holds = (refl, same g.P.Pages.tells v) });
      err = tt;
      call = answered_same (Refused c.in-Err.why) v;
      grows = omega arith;
      change = omega arith;
      undisturbed = g.met.P.Pages.stays c.args.pages.now;
    }
