-- What the calls on the pages of a regular series do, as those of its shape: what holds at offsets, at the on starts of these.
use Rattle.std.proofs.Common.{◌≡◌, ℕ, ◌+◌, ◌≤◌, ◌⊎◌, inl, inr, ℤ, pos, Bool, cond, not, ◌==◌, All, IsPermutation, Option, Some, None, IsSome, is_some, Result, Ok, Err, List, ◌++◌, length, length-append, refl, sym, ap, subst, ◌∙◌, arith}
use Rattle.std.proofs.lemmas.List.{length-map}
use Rattle.std.proofs.lemmas.List.Sorted.{length_permutation}
use Rattle.std.specs.Prelude.{if◌then◌else◌}
use Rattle.std.specs.Option.{option_map}
use Rattle.ts_base.specs.declared.refusal.Refusal.{Refusal}
use Rattle.ts_page.specs.Pages.{Contents}
use Rattle.ts_row.specs.declared.kind.Column.{Column}
use Rattle.ts_row.specs.Row.{Row, marked, Element}
use Rattle.ts_space.specs.declared.place.Place.{Place}
use Rattle.ts_space.specs.declared.moved.Moved.{Moved}
use Rattle.ts_space.specs.Moved.{moved_to}
use Rattle.ts_space.specs.Place.{IsRising, pages_of, place_at}
use Rattle.ts_irregular.specs.Edit.{element_at, with_element, without_element}
use Rattle.ts_regular.specs.RegularPage.{regular_room, base_of, OffsetElement}
use Rattle.ts_regular.specs.RegularPage as offsets
use Rattle.ts_regular.specs.Places as cells
use Rattle.ts_regular.specs.Places.{all_in as all_at}
use Rattle.ts_regular.specs.Call as call
use Rattle.ts_regular.specs.Range.{is_between, outside}
use Rattle.ts_regular.proofs.PlaceLemmas.{pages_rise}
use Rattle.ts_sheets.specs.Stamped.{within_range, without_range, stamped, HaveStarts}
use Rattle.ts_regular_edits.specs.Address.{IsAddressed}
use Rattle.ts_regular_edits.specs.Edit as edit
use Rattle.ts_regular_edits.specs.Element as element
use Rattle.ts_regular_edits.proofs.StampLemmas.{found_stamped, put_stamped, taken_stamped}
use Rattle.ts_regular_edits.specs.Range.{IsClearedAt}
use Rattle.ts_regular_edits.proofs.RangeLemmas.{within_stamped, within_number, outside_stamped}
use Rattle.ts_sheets.proofs.ChargeLemmas.{charged_with}
use Rattle.ts_series.specs.declared.edits.EditKind.{EditKind}
use Rattle.ts_series.specs.declared.edits.Edited.{Edited}
use Rattle.ts_series.specs.declared.edits.Edited.TheVariants as edited
use Rattle.ts_calendar.specs.Calendars.{IsLaid}
use Rattle.ts_offset.specs.Grid.{GridPlan, stamp_of}
use Rattle.ts_offset.specs.declared.shape.Shape.TheVariants.{Regular}
use Rattle.ts_model.specs.Charge.{elements_charge}
use Rattle.ts_layout.specs.Placed.{AreMoved}
use Rattle.ts_layout.specs.Chains.{by_stamp}
use Rattle.ts_answer.specs.Answer.{addressed}
use Rattle.ts_shelf.proofs.LawLemmas.{charges}
use Rattle.ts_elements.specs.Stamps.{IsTold, AreWritten, HaveElements, charge_with_one, target_in, unless}
use Rattle.ts_elements.specs.Calls.{IsEdited, IsFound, IsMarked, IsRemoved, IsCleared, WouldCost, IsPut}
use Rattle.ts_elements.proofs.AddressLemmas.{on_address, no_address, one_address, not_both, aims_at, aims_at_none}
use Rattle.ts_elements.proofs.RisingLemmas.{rising_put}
use Rattle.ts_elements.proofs.StartLemmas.{starts_put, starts_left}

-- its places can be read
pub readable : (columns : List Column) (c : Contents) (places : List Place) → cells.ArePlaces columns c places → All (cells.CanBeRead c) places
readable columns c places are k d within = let one : cells.IsPlace columns c _ = are.each k d within in one.readable

pub moved : (columns : List Column) (old new : List Place) (v w : Contents) → cells.AreMoved columns old new v w → AreMoved (regular_room columns) old new v w
moved columns old new v w is = record {
  pages = is.pages;
  rising = is.rising;
  counts = λ k d within. let one : cells.IsCounted columns _ = is.counts k d within in record { some = one.some; most = one.room };
}

-- where no page more is used, there are no more places
pub no_more : (old new : List Place) (v w : Contents) → IsPermutation (v.free ++ pages_of old) (w.free ++ pages_of new) → length v.free ≤ length w.free → length new ≤ length old
no_more old new v w pages free =
    let all = length_permutation (v.free ++ pages_of old) (w.free ++ pages_of new) pages in
    let before = length-append v.free (pages_of old) ∙ ap (λ (n : ℕ). length v.free + n) (length-map old (λ place. place.page)) in
    let after = length-append w.free (pages_of new) ∙ ap (λ (n : ℕ). length w.free + n) (length-map new (λ place. place.page)) in
    omega (arith, all, before, after, free)

some_start : (grid : GridPlan) (n : ℕ) (s : ℤ) → stamp_of grid n ≡ Some s → IsSome (stamp_of grid n)
some_start grid n s is = subst IsSome (sym is) refl

module _ (tells : Bool) (grid : GridPlan) (laid : IsLaid grid.calendar) (slot : ℕ) (columns : List Column) (places : List Place) (v w : Contents) where
  written : (es : List OffsetElement) (new : List Place) → call.AreWritten slot columns es places new v w → HaveStarts grid es → AreWritten (Regular grid) slot columns (stamped grid es) places new v w
  written es new is starts = record {
    have = record { cells = is.cells; on = is.on; starts = subst (HaveStarts grid) (sym is.all) starts; all = ap (stamped grid) is.all };
    others = is.others;
  }

  module _ (stamp : ℤ) (offset : ℕ) (start : ℤ) (is : IsAddressed grid stamp offset start) where
    address : addressed (Regular grid) stamp ≡ Ok start
    address = on_address grid stamp offset start is

    found_here : (es : List Element) (have : HaveElements (Regular grid) slot columns v.page places es) → element_at start es ≡ offsets.element_at offset (all_at have.cells)
    found_here es have = ap (element_at start) (sym have.all) ∙ found_stamped grid laid offset start is.again (all_at have.cells) have.starts

    put_here : (row : Row) (new : List Place) (es : List Element) (have : HaveElements (Regular grid) slot columns v.page places es) → call.AreWritten slot columns (offsets.with_element offset row (all_at have.cells)) places new v w
        → AreWritten (Regular grid) slot columns (with_element start row es) places new v w
    put_here row new es have made =
        subst (λ (l : List Element). AreWritten (Regular grid) slot columns l places new v w)
        (put_stamped grid laid offset start is.again row (all_at have.cells) have.starts ∙ ap (with_element start row) have.all)
        (written (offsets.with_element offset row (all_at have.cells)) new made (starts_put grid offset row (all_at have.cells) (some_start grid offset start is.again) have.starts))

    -- what an edit comes to there
    module _ (how : EditKind) (row : Row) (room : ℕ) where
      aims : (why : Option Refusal) → edit.IsRefusedFor tells slot columns how offset places v why → IsTold tells (Regular grid) slot columns places v (λ es. target_in (Regular grid) how stamp es ≡ unless start why)
      aims why allowed tell es have = aims_at grid how stamp start es (offsets.element_at offset (all_at have.cells)) address (found_here es have) why (allowed tell have.cells have.on)

      pays : (new : List Place) → edit.IsSet tells slot columns how offset row room places new v w → (length new ≤ room) ⊎ (length new ≤ length places)
      pays new set = elim set.put.pages [
        | inl kept ↦ inr kept
        | inr more ↦ let fits = set.fits more.0 in let most = more.1 in inl (omega (arith, fits, most))
      ]

      pub put_at : (new : List Place) → edit.IsSet tells slot columns how offset row room places new v w → IsPut tells (Regular grid) slot columns how stamp row room start places new v w
      put_at new set = record {
        places = moved columns places new v w set.put.places;
        pays = pays new set;
        target_is = aims None set.allowed;
        put = λ tell es have. put_here row new es have (set.put.put tell have.cells have.on);
      }

      -- a page more
      page_more : (o : Option Place) → o ≡ None → (if is_some o then length places else length places + 1) ≡ length places + 1
      page_more o none = ap (λ (p : Option Place). cond (is_some p) (length places) (length places + 1)) none

      would_cost : IsRising places → (es : List Element) (have : HaveElements (Regular grid) slot columns v.page places es) → target_in (Regular grid) how stamp es ≡ Ok start → offsets.element_at offset (all_at have.cells) ≡ None
          → edit.NeedsPage columns offset places → WouldCost (Regular grid) columns how stamp row es (charge_with_one (Regular grid) columns places)
      would_cost rising es have target absent needs =
          let all = all_at have.cells in
          let risen = rising_put offset row all (pages_rise slot columns v.page places have.cells have.on rising) in
          let starts = starts_put grid offset row all (some_start grid offset start is.again) have.starts in
          record {
            at = start;
            target_is = target;
            absent = found_here es have ∙ absent;
            costs = ap (λ (l : List Element). elements_charge columns (Regular grid) (by_stamp l))
                (ap (with_element start row) (sym have.all) ∙ sym (put_stamped grid laid offset start is.again row all have.starts))
                ∙ charges.offsets grid columns (offsets.with_element offset row all) laid starts risen
                ∙ charged_with slot columns v.page places have.cells have.on rising offset row
                ∙ page_more (place_at (pos (base_of columns offset)) places) needs;
          }

      pub edited_at : IsRising places → (done : Edited) → edit.IsEditedAt tells slot columns how offset start row room places v w done → IsEdited tells (Regular grid) slot columns how stamp row room places v w done
      edited_at rising (edited.Put at m) done = subst (λ (s : ℤ). IsPut tells (Regular grid) slot columns how stamp row room s places (moved_to m places) v w) (sym done.0) (put_at (moved_to m places) done.1)
      edited_at rising edited.Replaced done = absurd done
      edited_at rising (edited.Refused refusal) done = record { same = done.same; why = aims (Some refusal) done.why }
      edited_at rising edited.Full done =
          let over = done.over in
          record {
            same = done.same;
            over = omega (arith, over);
            new = λ tell es have. would_cost rising es have (aims None done.allowed tell es have) (done.new tell have.cells have.on) done.needs;
          }

    -- a mark
    pub marked_at : (hidden : Bool) (answer : Result ℤ Refusal) → element.IsMarkedFrom tells slot columns offset start hidden places v w answer → IsMarked tells (Regular grid) slot columns stamp hidden places v w answer
    marked_at hidden (Ok at) done = subst (λ (s : ℤ). IsMarked tells (Regular grid) slot columns stamp hidden places v w (Ok s)) (sym done.0) (record {
      free = done.1.free;
      address = address;
      there = λ tell es have. subst IsSome (sym (found_here es have)) (done.1.there tell have.cells have.on);
      put = λ tell es have row at. put_here (marked hidden row) places es have (done.1.put tell have.cells have.on row (sym (found_here es have) ∙ at));
    })
    marked_at hidden (Err refusal) done = (
      done.1.same,
      λ tell es have. inr (done.0, start, address, found_here es have ∙ done.1.absent tell have.cells have.on),
    )

    -- an element that is taken away
    pub removed_at : length v.free ≤ length w.free → (o : Option Moved) → call.IsRemoved tells slot columns offset places v w o → IsRemoved tells (Regular grid) slot columns stamp places v w o
    removed_at free (Some m) done = record {
      at = start;
      address = address;
      places = moved columns places (moved_to m places) v w done.places;
      pays = no_more places (moved_to m places) v w done.places.pages free;
      there = λ tell es have. subst IsSome (sym (found_here es have)) (done.there tell have.cells have.on);
      left = λ tell es have.
          let all = all_at have.cells in
          subst (λ (l : List Element). AreWritten (Regular grid) slot columns l places (moved_to m places) v w)
          (taken_stamped grid laid offset start is.again all have.starts ∙ ap (without_element start) have.all)
          (written (offsets.without_element offset all) (moved_to m places) (done.left tell have.cells have.on) (starts_left grid (λ e. not (offset == e.0)) all have.starts));
    }
    removed_at free None done = (
      done.same,
      λ tell es have at other.
          ap (λ (s : ℤ). element_at s es) (one_address (Regular grid) stamp at start address other) ∙ found_here es have ∙ done.absent tell have.cells have.on,
    )

    -- what is found there
    pub found_from : (found : Option Element) → call.IsTold tells slot columns places v (λ ps. found ≡ option_map (λ row. (start, row)) (offsets.element_at offset (all_at ps))) → IsFound tells (Regular grid) slot columns stamp places v found
    found_from found done tell es have = (
      λ at other.
          done tell have.cells have.on ∙ ap (option_map (λ (row : Row). (start, row))) (sym (found_here es have))
          ∙ ap (λ (s : ℤ). option_map (λ (row : Row). (s, row)) (element_at s es)) (sym (one_address (Regular grid) stamp at start address other)),
      λ why none. absurd (not_both (Regular grid) stamp start why none address),
    )

  -- by an address, or without one
  pub edited_cells : IsRising places → (how : EditKind) (stamp : ℤ) (row : Row) (room : ℕ) (done : Edited) → edit.IsEdited tells slot columns grid how stamp row room places v w done → IsEdited tells (Regular grid) slot columns how stamp row room places v w done
  edited_cells rising how stamp row room done (inl on) = edited_at stamp on.offset on.start on.is how row room rising done on.holds
  edited_cells rising how stamp row room done (inr off) = subst (λ (e : Edited). IsEdited tells (Regular grid) slot columns how stamp row room places v w e) (sym off.holds.0) (record {
    same = off.holds.1;
    why = λ tell es have. aims_at_none grid how stamp es off.why (no_address grid stamp off.why off.is);
  })

  pub found_cells : (stamp : ℤ) (found : Option Element) → element.IsFoundAt tells slot columns grid stamp places v found → IsFound tells (Regular grid) slot columns stamp places v found
  found_cells stamp found (inl on) = found_from stamp on.offset on.start on.is found on.holds
  found_cells stamp found (inr off) = λ tell es have. (
    λ at address. absurd (not_both (Regular grid) stamp at off.why (no_address grid stamp off.why off.is) address),
    λ why none. off.holds,
  )

  pub marked_cells : (stamp : ℤ) (hidden : Bool) (answer : Result ℤ Refusal) → element.IsMarkedAt tells slot columns grid stamp hidden places v w answer → IsMarked tells (Regular grid) slot columns stamp hidden places v w answer
  marked_cells stamp hidden answer (inl on) = marked_at stamp on.offset on.start on.is hidden answer on.holds
  marked_cells stamp hidden answer (inr off) = subst (λ (r : Result ℤ Refusal). IsMarked tells (Regular grid) slot columns stamp hidden places v w r) (sym off.holds.0) (
    off.holds.1,
    λ tell es have. inl (no_address grid stamp off.why off.is),
  )

  pub removed_cells : length v.free ≤ length w.free → (stamp : ℤ) (o : Option Moved) → element.IsRemovedAt tells slot columns grid stamp places v w o → IsRemoved tells (Regular grid) slot columns stamp places v w o
  removed_cells free stamp o (inl on) = removed_at stamp on.offset on.start on.is free o on.holds
  removed_cells free stamp o (inr off) = subst (λ (o : Option Moved). IsRemoved tells (Regular grid) slot columns stamp places v w o) (sym off.holds.0) (
    off.holds.1,
    λ tell es have at address. absurd (not_both (Regular grid) stamp at off.why (no_address grid stamp off.why off.is) address),
  )

  -- all elements from one stamp to another
  pub cleared_cells : length v.free ≤ length w.free → (from to : ℤ) (removed : ℕ) (o : Option Moved) → IsClearedAt tells slot columns grid from to places v w removed o → IsCleared tells (Regular grid) slot columns from to places v w removed o
  cleared_cells free from to removed (Some m) at =
      let lower = at.lower in
      let upper = at.upper in
      let is = at.cleared in
      record {
        places = moved columns places (moved_to m places) v w is.places;
        pays = no_more places (moved_to m places) v w is.places.pages free;
        number = λ tell es have.
            is.number tell have.cells have.on ∙ within_number grid laid from to lower upper at.offsets (all_at have.cells) have.starts
            ∙ ap (λ (l : List Element). length (within_range from to l)) have.all;
        left = λ tell es have.
            let all = all_at have.cells in
            subst (λ (l : List Element). AreWritten (Regular grid) slot columns l places (moved_to m places) v w)
            (outside_stamped grid laid from to lower upper at.offsets all have.starts ∙ ap (without_range from to) have.all)
            (written (outside lower upper all) (moved_to m places) (is.left tell have.cells have.on) (starts_left grid (λ e. not (is_between lower upper e.0)) all have.starts));
      }
  cleared_cells free from to removed None at = (
    at.cleared.same,
    at.cleared.number,
    λ tell es have.
        ap (within_range from to) (sym have.all) ∙ sym (within_stamped grid laid from to at.lower at.upper at.offsets (all_at have.cells) have.starts)
        ∙ ap (stamped grid) (at.cleared.none tell have.cells have.on),
  )
