-- What an edit did, seen from pages that were read before; and what it did where there is no room.
use Rattle.std.proofs.Common.{◌≡◌, ℕ, ◌+◌, ◌-◌, ◌^◌, min, ◌≤◌, ℤ, Bool, IsTrue, Option, Some, None, is_some, Result, Ok, Err, IfOk, OnErr, Contains, IsPermutation, List, ◌++◌, length, refl, sym, ap, ◌∙◌, subst, arith, inl, inr}
use Rattle.ts_base.specs.declared.refusal.Refusal.{Refusal}
use Rattle.ts_base.specs.declared.fault.StoreFault.{StoreFault}
use Rattle.ts_offset.specs.Grid.{GridPlan}
use Rattle.ts_space.specs.declared.place.Place.{Place}
use Rattle.ts_space.specs.Place.{IsRising, pages_of}
use Rattle.ts_space.specs.declared.moved.Moved.{Moved}
use Rattle.ts_space.specs.Moved.{moved_to}
use Rattle.ts_page.specs.Pages.{Contents}
use Rattle.ts_row.specs.declared.kind.Column.{Column}
use Rattle.ts_row.specs.Row.{Row}
use Rattle.ts_regular.specs.RegularPage.{element_at, with_element}
use Rattle.ts_regular.specs.Places.{OffsetPage, all_in, AreOn, AreMoved}
use Rattle.ts_regular.specs.Call.{Stays, AreLeft, AreWritten, IsPut, IsTold, IsRowIn, Reads}
use Rattle.ts_series.specs.declared.edits.EditKind.{EditKind}
use Rattle.ts_series.specs.declared.edits.Edited.{Edited}
use Rattle.ts_series.specs.declared.edits.Edited.TheVariants as edited
use Rattle.ts_series.specs.Edit.{GrowsWithin}
use Rattle.ts_regular_edits.specs.Edit.{refusal_if, IsRefusedFor, NeedsPage, IsEditedAt, IsEdited, IsDone, most_edit}
use Rattle.ts_regular_edits.proofs.AbsentLemmas.{absent}

-- what holds of the elements that are told on pages that stay
module _ (tells : Bool) (slot : ℕ) (columns : List Column) (places : List Place) (u v : Contents) (same : Stays tells u v) where
  pages_same : IsTrue tells → u.page ≡ v.page
  pages_same told i number = sym (same.pages told number) i

  told_before : (P : List OffsetPage → Type 0) → IsTold tells slot columns places v P → IsTold tells slot columns places u P
  told_before P holds told ps on = holds told ps (subst (λ (pages : ℕ → List ℕ). AreOn slot columns pages places ps) (pages_same told) on)

  pub told_after : (P : List OffsetPage → Type 0) → IsTold tells slot columns places u P → IsTold tells slot columns places v P
  told_after P holds told ps on = holds told ps (subst (λ (pages : ℕ → List ℕ). AreOn slot columns pages places ps) (sym (pages_same told)) on)

  same_before : (w : Contents) → Stays tells v w → Stays tells u w
  same_before w after = record { free = after.free ∙ same.free; pages = λ told number. after.pages told number ∙ same.pages told number }

  left_before : (w : Contents) → AreLeft tells v w → AreLeft tells u w
  left_before w left = record {
    pages = λ told number. left.pages told number ∙ same.pages told number;
    free = elim left.free [
      | inl kept ↦ inl (kept ∙ same.free)
      | inr taken ↦ inr (taken.0, sym same.free ∙ taken.1)
    ];
  }

  put_before : (offset : ℕ) (row : Row) (new : List Place) (w : Contents) → IsPut tells slot columns offset row places new v w → IsPut tells slot columns offset row places new u w
  put_before offset row new w is = record {
    places = record {
      pages = subst (λ (ns : List ℕ). IsPermutation (ns ++ pages_of places) (w.free ++ pages_of new)) same.free is.places.pages;
      rising = is.places.rising;
      counts = is.places.counts;
    };
    count = is.count;
    pages = is.pages;
    put = λ told ps on.
        let after = told_before (λ ps. AreWritten slot columns (with_element offset row (all_in ps)) places new v w) is.put told ps on in
        record {
          cells = after.cells;
          all = after.all;
          on = after.on;
          others = λ number other kept. after.others number other (λ there. kept (subst (λ (ns : List ℕ). Contains ns number) same.free there)) ∙ same.pages told number;
        };
  }

  module _ (how : EditKind) (offset : ℕ) (start : ℤ) (row : Row) (room : ℕ) (w : Contents) where
    refused_before : (why : Option Refusal) → IsRefusedFor tells slot columns how offset places v why → IsRefusedFor tells slot columns how offset places u why
    refused_before why is = told_before (λ ps. refusal_if how (is_some (element_at offset (all_in ps))) ≡ why) is

    -- what was done there was done here
    edited_before : (e : Edited) → IsEditedAt tells slot columns how offset start row room places v w e → IsEditedAt tells slot columns how offset start row room places u w e
    edited_before (edited.Put at moved) is = (
      is.0,
      record {
        allowed = refused_before None is.1.allowed;
        put = put_before offset row (moved_to moved places) w is.1.put;
        fits = is.1.fits;
      },
    )
    edited_before edited.Replaced is = is
    edited_before (edited.Refused refusal) is = record {
      why = refused_before (Some refusal) is.why;
      same = same_before w is.same;
    }
    edited_before edited.Full is = record {
      allowed = refused_before None is.allowed;
      new = told_before (λ ps. element_at offset (all_in ps) ≡ None) is.new;
      needs = is.needs;
      over = is.over;
      same = same_before w is.same;
    }

    any_before : (r : Result Edited StoreFault) → IfOk r (IsEditedAt tells slot columns how offset start row room places v w) → IfOk r (IsEditedAt tells slot columns how offset start row room places u w)
    any_before (Ok e) is = edited_before e is
    any_before (Err fault) is = tt

    error_before : (r : Result Edited StoreFault) → OnErr r (AreLeft tells v w) → OnErr r (AreLeft tells u w)
    error_before (Ok e) left = tt
    error_before (Err fault) left = left_before w left

    grown_before : (r : Result Edited StoreFault) → v.change_bytes ≡ u.change_bytes → IfOk r (λ done. GrowsWithin most_edit v w) → IfOk r (λ done. GrowsWithin most_edit u w)
    grown_before (Ok e) bytes grown = let free = ap (λ (ns : List ℕ). length ns) same.free in let most = grown in omega (arith, most, bytes, free)
    grown_before (Err fault) bytes grown = tt

    done_before : (r : Result Edited StoreFault) → v.count ≡ u.count → v.faults ≡ u.faults → v.change_bytes ≡ u.change_bytes → IsDone tells slot columns how offset start row room places v w r → IsDone tells slot columns how offset start row room places u w r
    done_before r count faults bytes done = record {
      ok = any_before r done.ok;
      err = error_before r done.err;
      call = record {
        count = done.call.count ∙ count;
        faults = subst (λ (n : ℕ). n ≤ w.faults) faults done.call.faults;
        cause = λ failed. subst (λ (n : ℕ). min (n + 1) (2 ^ 64 - 1) ≤ w.faults) faults (done.call.cause failed);
        no_fault = λ fine. done.call.no_fault fine ∙ faults;
      };
      grows = grown_before r bytes done.grows;
      change = let most = done.change in omega (arith, most, bytes);
    }

-- a row was sought, and then one put, where what was found allows it
module _ (tells : Bool) (slot : ℕ) (columns : List Column) (how : EditKind) (offset : ℕ) (start : ℤ) (row : Row) (room : ℕ) (places : List Place) (v u w : Contents) (found : Option Row) (r : Result Edited StoreFault) where
  pub put_after : IsRowIn tells slot columns offset places v found → refusal_if how (is_some found) ≡ None → Reads tells (Ok found) v u
      → (IsRefusedFor tells slot columns how offset places u None → IsDone tells slot columns how offset start row room places u w r)
      → IsDone tells slot columns how offset start row room places v w r
  put_after is allowed reads done =
      let same : Stays tells v u = record { free = reads.free; pages = reads.pages } in
      let here : IsRefusedFor tells slot columns how offset places v None = λ told ps on. ap (λ (o : Option Row). refusal_if how (is_some o)) (sym (is told ps on)) ∙ allowed in
      done_before tells slot columns places v u same how offset start row room w r reads.call.count (reads.call.no_fault (λ failed. cc)) reads.change_bytes
      (done (told_after tells slot columns places v u same (λ ps. refusal_if how (is_some (element_at offset (all_in ps))) ≡ None) here))

-- there is no room for one
pub full_done : (tells : Bool) (slot : ℕ) (columns : List Column) (how : EditKind) (offset : ℕ) (start : ℤ) (row : Row) (room : ℕ) (places : List Place) (v : Contents)
    → IsRising places → NeedsPage columns offset places → room ≤ length places → IsRefusedFor tells slot columns how offset places v None
    → IsDone tells slot columns how offset start row room places v v (Ok edited.Full)
full_done tells slot columns how offset start row room places v rising needs over allowed = record {
  ok = record {
    allowed = allowed;
    new = absent tells slot columns offset places v rising needs;
    needs = needs;
    over = over;
    same = record { free = refl; pages = λ told number. refl };
  };
  err = tt;
  call = record { count = refl; faults = omega arith; cause = λ failed. absurd (cc); no_fault = λ fine. refl };
  grows = omega arith;
  change = omega arith;
}

-- the places that a row that is put comes to
pub put_moved : (tells : Bool) (slot : ℕ) (columns : List Column) (grid : GridPlan) (how : EditKind) (stamp : ℤ) (row : Row) (room : ℕ) (places : List Place) (v w : Contents) (at : ℤ) (moved : Moved)
    → IsEdited tells slot columns grid how stamp row room places v w (edited.Put at moved) → AreMoved columns places (moved_to moved places) v w
put_moved tells slot columns grid how stamp row room places v w at moved (inl there) = there.holds.1.put.places
put_moved tells slot columns grid how stamp row room places v w at moved (inr none) = absurd (let is = none.holds.0 in cc)
