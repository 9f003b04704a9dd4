-- What an edit did, seen from pages that were the same before, and told by another kind of edit.
use Rattle.std.proofs.Common.{◌≡◌, ℕ, ◌+◌, ◌-◌, ◌^◌, min, ◌≤◌, ℤ, Bool, IsTrue, None, IsSome, Result, Ok, Err, IfOk, Contains, IsPermutation, List, ◌++◌, length, sym, ap, ◌∙◌, subst, arith}
use Rattle.ts_base.specs.declared.fault.StoreFault.{StoreFault}
use Rattle.ts_space.specs.declared.place.Place.{Place}
use Rattle.ts_space.specs.Place.{pages_of}
use Rattle.ts_space.specs.Moved.{moved_to}
use Rattle.ts_page.specs.Pages.{Contents}
use Rattle.ts_row.specs.declared.kind.Column.{Column}
use Rattle.ts_row.specs.Row.{Row, Element}
use Rattle.ts_irregular.specs.Edit.{element_at, with_element}
use Rattle.ts_irregular.specs.Call.{Stays}
use Rattle.ts_sheets.specs.Stamped.{all_in}
use Rattle.ts_sheets.specs.Places.{AreChained, AreMoved}
use Rattle.ts_chain.specs.Call.{IsTold, AreWritten}
use Rattle.ts_series.specs.declared.edits.EditKind.{EditKind}
use Rattle.ts_series.specs.declared.edits.Edited.{Edited}
use Rattle.ts_series.specs.declared.edits.Edited.TheVariants as edited
use Rattle.ts_series.specs.Edit.{target, IsEdited, GrowsWithin, IsDone, most_edit}

-- what holds of the elements that are told on pages that stay
module _ (tells : Bool) (slot : ℕ) (columns : List Column) (places : List Place) (u v : Contents) (same : Stays tells u v) where
  pages_same : IsTrue tells → u.page ≡ v.page
  pages_same told i number = sym (same.pages told number) i

  pub told_before : (P : List (List Element) → Type 0) → IsTold tells slot columns places v P → IsTold tells slot columns places u P
  told_before P holds told chain on is = holds told chain (subst (λ (pages : ℕ → List ℕ). AreChained slot columns pages places chain) (pages_same told) on) is

  pub told_after : (P : List (List Element) → Type 0) → IsTold tells slot columns places u P → IsTold tells slot columns places v P
  told_after P holds told chain on is = holds told chain (subst (λ (pages : ℕ → List ℕ). AreChained slot columns pages places chain) (sym (pages_same told)) on) is

  moved_before : (new : List Place) (w : Contents) → AreMoved columns places new v w → AreMoved columns places new u w
  moved_before new w moved = record {
    pages = subst (λ (ns : List ℕ). IsPermutation (ns ++ pages_of places) (w.free ++ pages_of new)) same.free moved.pages;
    rising = moved.rising;
    counts = moved.counts;
  }

  written_before : (es : List (List Element) → List Element) (new : List Place) (w : Contents) → IsTold tells slot columns places v (λ chain. AreWritten slot columns (es chain) places new v w)
      → IsTold tells slot columns places u (λ chain. AreWritten slot columns (es chain) places new u w)
  written_before es new w written told chain on is =
      let after = told_before (λ chain. AreWritten slot columns (es chain) places new v w) written told chain on is in
      record {
        chain = after.chain;
        is = after.is;
        all = after.all;
        on = after.on;
        others = λ number other kept. after.others number other (λ there. kept (subst (λ (ns : List ℕ). Contains ns number) same.free there)) ∙ same.pages told number;
      }

  same_before : (w : Contents) → Stays tells v w → Stays tells u w
  same_before w after = record { free = after.free ∙ same.free; pages = λ told number. after.pages told number ∙ same.pages told number }

  module _ (how : EditKind) (stamp : ℤ) (row : Row) (room : ℕ) (w : Contents) where
    -- what was done there was done here
    pub edited_before : (e : Edited) → IsEdited tells slot columns how stamp row room places v w e → IsEdited tells slot columns how stamp row room places u w e
    edited_before (edited.Put at moved) is = record {
      places = moved_before (moved_to moved places) w is.places;
      count = is.count;
      fits = is.fits;
      target_is = told_before (λ chain. target how stamp (all_in chain) ≡ Ok at) is.target_is;
      absent = told_before (λ chain. element_at at (all_in chain) ≡ None) is.absent;
      put = written_before (λ chain. with_element at row (all_in chain)) (moved_to moved places) w is.put;
    }
    edited_before edited.Replaced is = record {
      free = is.free ∙ same.free;
      target_is = told_before (λ chain. target how stamp (all_in chain) ≡ Ok stamp) is.target_is;
      there = told_before (λ chain. IsSome (element_at stamp (all_in chain))) is.there;
      put = written_before (λ chain. with_element stamp row (all_in chain)) places w is.put;
    }
    edited_before (edited.Refused refusal) is = record {
      same = same_before w is.same;
      why = told_before (λ chain. target how stamp (all_in chain) ≡ Err refusal) is.why;
    }
    edited_before edited.Full is = record {
      same = same_before w is.same;
      over = is.over;
      new = told_before (λ chain. (at : ℤ) × (target how stamp (all_in chain) ≡ Ok at) × (element_at at (all_in chain) ≡ None)) is.new;
    }

    any_before : (r : Result Edited StoreFault) → IfOk r (IsEdited tells slot columns how stamp row room places v w) → IfOk r (IsEdited tells slot columns how stamp row room places u w)
    any_before (Ok e) is = edited_before e is
    any_before (Err fault) is = tt

    grown_before : (r : Result Edited StoreFault) → v.change_bytes ≡ u.change_bytes → IfOk r (λ done. GrowsWithin most_edit v w) → IfOk r (λ done. GrowsWithin most_edit u w)
    grown_before (Ok e) bytes grows = let free = ap (λ (ns : List ℕ). length ns) same.free in omega (arith, grows, bytes, free)
    grown_before (Err fault) bytes grows = tt

    pub done_before : (r : Result Edited StoreFault) → v.count ≡ u.count → v.faults ≡ u.faults → v.change_bytes ≡ u.change_bytes → IsDone tells slot columns how stamp row room places v w r → IsDone tells slot columns how stamp row room places u w r
    done_before r count faults bytes done = record {
      ok = any_before r done.ok;
      call = record {
        count = done.call.count ∙ count;
        faults = subst (λ (n : ℕ). n ≤ w.faults) faults done.call.faults;
        cause = λ failed. subst (λ (n : ℕ). min (n + 1) (2 ^ 64 - 1) ≤ w.faults) faults (done.call.cause failed);
        no_fault = λ fine. done.call.no_fault fine ∙ faults;
      };
      grows = grown_before r bytes done.grows;
      change = let most = done.change in omega (arith, most, bytes);
    }

-- where two kinds of edits put the row at the same stamp, they did the same
module _ (tells : Bool) (slot : ℕ) (columns : List Column) (how other : EditKind) (stamp : ℤ) (row : Row) (room : ℕ) (places : List Place) (v w : Contents)
    (alike : IsTold tells slot columns places v (λ chain. target other stamp (all_in chain) ≡ target how stamp (all_in chain))) where
  pub edited_as : (e : Edited) → IsEdited tells slot columns how stamp row room places v w e → IsEdited tells slot columns other stamp row room places v w e
  edited_as (edited.Put at moved) is = record {
    places = is.places;
    count = is.count;
    fits = is.fits;
    target_is = λ told chain on chained. alike told chain on chained ∙ is.target_is told chain on chained;
    absent = is.absent;
    put = is.put;
  }
  edited_as edited.Replaced is = record {
    free = is.free;
    target_is = λ told chain on chained. alike told chain on chained ∙ is.target_is told chain on chained;
    there = is.there;
    put = is.put;
  }
  edited_as (edited.Refused refusal) is = record { same = is.same; why = λ told chain on chained. alike told chain on chained ∙ is.why told chain on chained }
  edited_as edited.Full is = record {
    same = is.same;
    over = is.over;
    new = λ told chain on chained. let at = is.new told chain on chained in (at.0, alike told chain on chained ∙ at.1, at.2);
  }

  any_as : (r : Result Edited StoreFault) → IfOk r (IsEdited tells slot columns how stamp row room places v w) → IfOk r (IsEdited tells slot columns other stamp row room places v w)
  any_as (Ok e) is = edited_as e is
  any_as (Err fault) is = tt

  pub done_as : (r : Result Edited StoreFault) → IsDone tells slot columns how stamp row room places v w r → IsDone tells slot columns other stamp row room places v w r
  done_as r done = record { ok = any_as r done.ok; call = done.call; grows = done.grows; change = done.change }
