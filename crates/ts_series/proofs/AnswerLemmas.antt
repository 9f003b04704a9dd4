-- What each kind of edit answers, by what the calls on the chain tell.
use Rattle.std.proofs.Common.{◌≡◌, ℕ, ◌+◌, ◌<◌, ◌≤◌, ℤ, Bool, true, false, Option, Some, None, IsSome, is_some, Result, Ok, Err, List, length, refl, sym, ap, ◌∙◌, subst, arith}
use Rattle.std.specs.Prelude.{if◌then◌else◌}
use Rattle.ts_base.specs.declared.refusal.Refusal.TheVariants as refusals
use Rattle.ts_base.specs.declared.fault.StoreFault.{StoreFault}
use Rattle.ts_space.specs.declared.place.Place.{Place}
use Rattle.ts_space.specs.declared.moved.Moved.{Moved}
use Rattle.ts_space.specs.Moved.{moved_to}
use Rattle.ts_page.specs.Pages.{Contents, Answered}
use Rattle.ts_row.specs.declared.kind.Column.{Column}
use Rattle.ts_row.specs.Row.{Row, Element}
use Rattle.ts_irregular.specs.Edit.{element_at}
use Rattle.ts_irregular.specs.Call.{Stays, Reads}
use Rattle.ts_sheets.specs.Stamped.{all_in, place_for}
use Rattle.ts_chain.specs.Call.{IsTold, IsReplaced, IsPutNew, IsThereAlready, IsPlaceIn}
use Rattle.ts_sheets.proofs.OrderLemmas.{pages_in_order}
use Rattle.ts_series.specs.declared.edits.EditKind.TheVariants.{Put, PutNoDups, Update}
use Rattle.ts_series.specs.declared.edits.Edited.{Edited}
use Rattle.ts_series.specs.declared.edits.Edited.TheVariants as edited
use Rattle.ts_series.specs.Edit.{placed, target, charge_with_one, IsDone, GrowsWithin, most_edit}
use Rattle.ts_series.proofs.EditLemmas.{told_after, done_before, done_as}
use Rattle.ts_series.proofs.FreePlaceLemmas.{place_is_free}

-- a call that answers, whatever it gives
answered_ok : {A B : Type 0} (a : A) (b : B) (v w : Contents) → Answered (Ok a) v w → Answered (Ok b) v w
answered_ok a b v w call = record { count = call.count; faults = call.faults; cause = λ failed. absurd (cc); no_fault = λ fine. call.no_fault (λ failed. cc) }

-- where one stands at the stamp, an update goes there
some_true : (o : Option Row) → IsSome o → is_some o ≡ true
some_true (Some row) some = refl
some_true None some = absurd (cc)

update_there : (stamp : ℤ) (es : List Element) → IsSome (element_at stamp es) → target Update stamp es ≡ Ok stamp
update_there stamp es there = ap (λ (b : Bool). if b then Ok stamp else Err refusals.Missing) (some_true (element_at stamp es) there)

none_some : (o : Option Row) → o ≡ None → IsSome o → ⊥
none_some (Some row) none some = cc
none_some None none some = cc

module _ (tells : Bool) (slot : ℕ) (columns : List Column) (stamp : ℤ) (row : Row) (room : ℕ) (places : List Place) (v : Contents) where
  -- the place that the stamp gets is free
  free_place : (at : ℤ) → IsPlaceIn tells slot columns stamp places v (Some at) → IsTold tells slot columns places v (λ chain. (target Put stamp (all_in chain) ≡ Ok at) × (element_at at (all_in chain) ≡ None))
  free_place at place told chain on is =
      let found = place told chain on is in
      (ap placed (sym found), place_is_free stamp at (all_in chain) (pages_in_order columns chain is.pages).rising (sym found))

  -- pages were read, and there is no room
  module _ (u : Contents) (put : Option ℤ) (reads : Reads tells (Ok put) v u) where
    still : Stays tells v u
    still = record { free = reads.free; pages = reads.pages }

    grown : GrowsWithin most_edit v u
    grown = let free = ap (λ (ns : List ℕ). length ns) reads.free in let bytes = reads.change_bytes in omega (arith, bytes, free)

    pub place_full : (at : ℤ) → put ≡ Some at → IsPlaceIn tells slot columns stamp places v put → room < charge_with_one columns places → IsDone tells slot columns Put stamp row room places v u (Ok edited.Full)
    place_full at is place over = record {
      ok = record {
        same = still;
        over = over;
        new = λ told chain on chained. let free = free_place at (subst (IsPlaceIn tells slot columns stamp places v) is place) told chain on chained in (at, free.0, free.1);
      };
      call = answered_ok put edited.Full v u reads.call;
      grows = grown;
      change = let bytes = reads.change_bytes in omega (arith, bytes);
    }

    pub place_none : put ≡ None → IsPlaceIn tells slot columns stamp places v put → IsDone tells slot columns Put stamp row room places v u (Ok (edited.Refused refusals.SecondFull))
    place_none is place = record {
      ok = record {
        same = still;
        why = λ told chain on chained. ap placed (sym (place told chain on chained) ∙ is);
      };
      call = answered_ok put (edited.Refused refusals.SecondFull) v u reads.call;
      grows = grown;
      change = let bytes = reads.change_bytes in omega (arith, bytes);
    }

    -- and then an element is put at the place
    module _ (w : Contents) (at : ℤ) (is : put ≡ Some at) (place : IsPlaceIn tells slot columns stamp places v put) where
      place_after : IsTold tells slot columns places u (λ chain. Some at ≡ place_for stamp (all_in chain))
      place_after = told_after tells slot columns places v u still (λ chain. Some at ≡ place_for stamp (all_in chain)) (subst (IsPlaceIn tells slot columns stamp places v) is place)

      no_fault : u.faults ≡ v.faults
      no_fault = reads.call.no_fault (λ failed. cc)

      pub behind_put : (moved : Moved) (given : Option Moved) → charge_with_one columns places ≤ room → IsPutNew tells slot columns at row places (moved_to moved places) u w → Answered (Ok given) u w
          → GrowsWithin most_edit u w → w.change_bytes ≤ u.change_bytes + most_edit → IsDone tells slot columns Put stamp row room places v w (Ok (edited.Put at moved))
      behind_put moved given within new call grows change =
          done_before tells slot columns places v u still Put stamp row room w (Ok (edited.Put at moved)) reads.call.count no_fault reads.change_bytes
          (record {
            ok = record {
              places = new.places;
              count = new.count;
              fits = within;
              target_is = λ told chain on chained. ap placed (sym (place_after told chain on chained));
              absent = new.absent;
              put = new.put;
            };
            call = answered_ok given (edited.Put at moved) u w call;
            grows = grows;
            change = change;
          })

      -- none stands there
      pub behind_taken : (given : Option Moved) → IsThereAlready tells slot columns at places u w → Answered (Ok given) u w
          → GrowsWithin most_edit u w → w.change_bytes ≤ u.change_bytes + most_edit → IsDone tells slot columns Put stamp row room places v w (Ok (edited.Refused refusals.SecondFull))
      behind_taken given taken call grows change =
          done_before tells slot columns places v u still Put stamp row room w (Ok (edited.Refused refusals.SecondFull)) reads.call.count no_fault reads.change_bytes
          (record {
            ok = record {
              same = taken.same;
              why = λ told chain on chained.
                  absurd (none_some (element_at at (all_in chain))
                  (place_is_free stamp at (all_in chain) (pages_in_order columns chain chained.pages).rising (sym (place_after told chain on chained)))
                  (taken.there told chain on chained));
            };
            call = answered_ok given (edited.Refused refusals.SecondFull) u w call;
            grows = grows;
            change = change;
          })

  -- an element stands at the stamp already, and the edit goes on
  module _ (u w : Contents) (given : Option Moved) (taken : IsThereAlready tells slot columns stamp places v u) (call : Answered (Ok given) v u) (r : Result Edited StoreFault) where
    pub put_on : IsDone tells slot columns Put stamp row room places u w r → IsDone tells slot columns Put stamp row room places v w r
    put_on done = done_before tells slot columns places v u taken.same Put stamp row room w r call.count (call.no_fault (λ failed. cc)) taken.bytes done

    pub update_on : IsDone tells slot columns Update stamp row room places u w r → IsDone tells slot columns PutNoDups stamp row room places v w r
    update_on done =
        done_before tells slot columns places v u taken.same PutNoDups stamp row room w r call.count (call.no_fault (λ failed. cc)) taken.bytes
        (done_as tells slot columns Update PutNoDups stamp row room places u w
        (told_after tells slot columns places v u taken.same (λ chain. Ok stamp ≡ target Update stamp (all_in chain)) (λ told chain on is. sym (update_there stamp (all_in chain) (taken.there told chain on is)))) r done)

  -- a row is put in place of one, or none is there and there is no room
  module _ (w : Contents) (replaced : Bool) (call : Answered (Ok replaced) v w) (bytes : w.change_bytes ≤ v.change_bytes + 4101) where
    pub row_given : IsReplaced tells slot columns stamp row places v w true → IsDone tells slot columns PutNoDups stamp row room places v w (Ok edited.Replaced)
    row_given put = record {
      ok = record {
        free = put.free;
        target_is = λ told chain on is. refl;
        there = put.there;
        put = λ told chain on is. let old = some_of (element_at stamp (all_in chain)) (put.there told chain on is) in put.put told chain on is old.0 old.1;
      };
      call = answered_ok replaced edited.Replaced v w call;
      grows = let free = ap (λ (ns : List ℕ). length ns) put.free in omega (arith, bytes, free);
      change = omega (arith, bytes);
    }
      where
        some_of : (o : Option Row) → IsSome o → (r : Row) × (o ≡ Some r)
        some_of (Some r) some = (r, refl)
        some_of None some = absurd (cc)

    pub no_row_given : IsReplaced tells slot columns stamp row places v w false → room < charge_with_one columns places → IsDone tells slot columns PutNoDups stamp row room places v w (Ok edited.Full)
    no_row_given none over = record {
      ok = record { same = none.same; over = over; new = λ told chain on is. (stamp, refl, none.absent told chain on is) };
      call = answered_ok replaced edited.Full v w call;
      grows = let free = ap (λ (ns : List ℕ). length ns) none.same.free in omega (arith, bytes, free);
      change = omega (arith, bytes);
    }
