-- What the calls on the chain of an irregular series do, as those of its shape.
use Rattle.std.proofs.Common.{◌≡◌, ℕ, ◌+◌, ◌<◌, ◌≤◌, inl, inr, ℤ, Bool, true, false, IsTrue, cond, All, Option, Some, None, IsSome, is_some, Result, Ok, Err, IfOk, OnOk, List, refl, sym, ap, subst, ◌∙◌, arith}
use Rattle.std.specs.Option.{option_map}
use Rattle.std.specs.Cmp.{int_cmp_total}
use Rattle.std.specs.FinMap.{get, insert, len, len-insert}
use Rattle.ts_base.specs.declared.refusal.Refusal.{Refusal}
use Rattle.ts_base.specs.declared.refusal.Refusal.TheVariants.{Missing}
use Rattle.ts_page.specs.Pages.{Contents}
use Rattle.ts_row.specs.declared.kind.Column.{Column}
use Rattle.ts_row.specs.Row.{Row, marked, Element}
use Rattle.ts_space.specs.declared.place.Place.{Place}
use Rattle.ts_space.specs.declared.moved.Moved.{Moved}
use Rattle.ts_space.specs.Place.{count_of}
use Rattle.ts_space.specs.Charge.{irregular_charge}
use Rattle.ts_space.proofs.ChargeLemmas.{charge_grows}
use Rattle.ts_cells.specs.IrregularPage.{page_room}
use Rattle.ts_irregular.specs.Edit.{element_at, with_element, without_element}
use Rattle.ts_irregular.specs.OnePage.{IsPlace}
use Rattle.ts_sheets.specs.Stamped.{IsChain, all_in}
use Rattle.ts_sheets.specs.Places as chain
use Rattle.ts_chain.specs.Call as call
use Rattle.ts_sheets.proofs.OrderLemmas.{pages_in_order}
use Rattle.ts_chain.proofs.PutLemmas.{chained_count}
use Rattle.ts_series.specs.declared.edits.EditKind.{EditKind}
use Rattle.ts_series.specs.declared.edits.Edited.{Edited}
use Rattle.ts_series.specs.declared.edits.Edited.TheVariants as edited
use Rattle.ts_series.specs.Edit as edit
use Rattle.ts_series.specs.Clip as clip
use Rattle.ts_offset.specs.declared.shape.Shape.TheVariants.{Irregular}
use Rattle.ts_layout.specs.Placed.{AreMoved}
use Rattle.ts_layout.specs.Chains.{by_stamp}
use Rattle.ts_model.specs.Catalogue.{Elements}
use Rattle.ts_elements.specs.Stamps.{IsTold, AreWritten, charge_with_one, target_in}
use Rattle.ts_elements.specs.Calls.{IsEdited, IsFound, IsMarked, IsRemoved, IsCleared, WouldCost}
use Rattle.ts_elements.proofs.LawLemmas.{as_maps}
use Rattle.ts_elements.proofs.AddressLemmas.{aims_at_any, one_address}
use Rattle.ts_elements.proofs.SeriesLemmas.{many}

-- its places can be read
pub readable : (columns : List Column) (c : Contents) (places : List Place) → chain.ArePlaces columns c places → All (chain.CanBeRead c) places
readable columns c places are k d within = let one : IsPlace columns c _ = are.each k d within in record { element = one.element; below = one.below }

pub moved : (columns : List Column) (old new : List Place) (v w : Contents) → chain.AreMoved columns old new v w → AreMoved (page_room columns) old new v w
moved columns old new v w is = record {
  pages = is.pages;
  rising = is.rising;
  counts = λ k d within. let one : chain.IsCounted columns _ = is.counts k d within in record { some = one.some; most = one.room };
}

-- what came has what follows from what it was said to have
pub ok_as : {T E : Type 0} (r : Result T E) (P Q : T → Type 0) → ((t : T) → P t → Q t) → IfOk r P → IfOk r Q
ok_as (Ok t) P Q follows is = follows t is
ok_as (Err e) P Q follows is = tt

pub both_ok : {T E : Type 0} (r : Result T E) (A : Type 0) (P Q : T → Type 0) → ((t : T) → A → P t → Q t) → OnOk r A → IfOk r P → IfOk r Q
both_ok (Ok t) A P Q follows also is = follows t also is
both_ok (Err e) A P Q follows also is = tt

-- an element more
one_more : (m : Elements) (stamp : ℤ) (row : Row) → get m stamp ≡ None → len (insert m stamp row) ≡ len m + 1
one_more m stamp row none = len-insert int_cmp_total m stamp row ∙ ap (λ (o : Option Row). cond (is_some o) (len m) (len m + 1)) none

module _ (tells : Bool) (slot : ℕ) (columns : List Column) (places : List Place) (v w : Contents) where
  told : (P : List Element → Type 0) → call.IsTold tells slot columns places v (λ chain. P (all_in chain)) → IsTold tells Irregular slot columns places v P
  told P is tell es have = subst P have.all (is tell have.chain have.on have.is)

  written : (es : List Element) (new : List Place) → call.AreWritten slot columns es places new v w → AreWritten Irregular slot columns es places new v w
  written es new is = record {
    have = record { chain = is.chain; is = is.is; on = is.on; all = is.all };
    others = is.others;
  }

  -- the row at a stamp, with it, and the last element
  pub found_chain : (stamp : ℤ) (row : Option Row) (answer : Option Element) → call.IsRowIn tells slot columns stamp places v row → answer ≡ option_map (λ r. (stamp, r)) row → IsFound tells Irregular slot columns stamp places v answer
  found_chain stamp row answer is same tell es have = (
    λ at address.
        let here = one_address Irregular stamp at stamp refl address in
        same ∙ ap (option_map (λ (r : Row). (stamp, r))) (is tell have.chain have.on have.is ∙ ap (element_at stamp) have.all)
        ∙ ap (λ (s : ℤ). option_map (λ (r : Row). (s, r)) (element_at s es)) (sym here),
    λ why none. absurd (cc),
  )

  -- a mark
  pub marked_chain : (stamp : ℤ) (hidden there : Bool) (answer : Result ℤ Refusal) → call.IsMarked tells slot columns stamp hidden places v w there → (IsTrue there → answer ≡ Ok stamp) → (there ≡ false → answer ≡ Err Missing)
      → IsMarked tells Irregular slot columns stamp hidden places v w answer
  marked_chain stamp hidden true answer is there missing = subst (λ (r : Result ℤ Refusal). IsMarked tells Irregular slot columns stamp hidden places v w r) (sym (there refl)) (record {
    free = is.free;
    address = refl;
    there = told (λ es. IsSome (element_at stamp es)) is.there;
    put = λ tell es have row at. written (with_element stamp (marked hidden row) es) places
        (subst (λ (l : List Element). call.AreWritten slot columns (with_element stamp (marked hidden row) l) places places v w) have.all
        (is.put tell have.chain have.on have.is row (ap (element_at stamp) have.all ∙ at)));
  })
  marked_chain stamp hidden false answer is there missing = subst (λ (r : Result ℤ Refusal). IsMarked tells Irregular slot columns stamp hidden places v w r) (sym (missing refl)) (
    is.same,
    λ tell es have. inr (refl, stamp, refl, ap (element_at stamp) (sym have.all) ∙ is.absent tell have.chain have.on have.is),
  )

  module _ (room : 0 < page_room columns) where
    fewer : (n m : ℕ) → n ≤ m → irregular_charge (page_room columns) n ≤ irregular_charge (page_room columns) m
    fewer n m less = charge_grows (page_room columns) n m room less

    -- an element that is taken away
    pub removed_chain : (stamp : ℤ) (o : Option Moved) → call.IsRemoved tells slot columns stamp places v w o → IsRemoved tells Irregular slot columns stamp places v w o
    removed_chain stamp (Some m) is = record {
      at = stamp;
      address = refl;
      places = moved columns places _ v w is.places;
      pays = fewer _ (count_of places) is.count;
      there = told (λ es. IsSome (element_at stamp es)) is.there;
      left = told (λ es. AreWritten Irregular slot columns (without_element stamp es) places _ v w) (λ tell chain on of. written _ _ (is.left tell chain on of));
    }
    removed_chain stamp None is = (
      is.same,
      λ tell es have at address.
          ap (λ (s : ℤ). element_at s es) (one_address Irregular stamp at stamp refl address) ∙ ap (element_at stamp) (sym have.all) ∙ is.absent tell have.chain have.on have.is,
    )

    -- all elements in a range
    pub cleared_chain : (from to : ℤ) (removed : ℕ) (o : Option Moved) → clip.IsCleared tells slot columns from to places v w removed o → IsCleared tells Irregular slot columns from to places v w removed o
    cleared_chain from to removed (Some m) is = record {
      places = moved columns places _ v w is.places;
      pays = fewer _ (count_of places) is.count;
      number = told _ is.number;
      left = told (λ es. AreWritten Irregular slot columns _ places _ v w) (λ tell chain on of. written _ _ (is.left tell chain on of));
    }
    cleared_chain from to removed None is = (is.same, is.number, told _ is.none)

    -- an edit
    module _ (how : EditKind) (stamp : ℤ) (row : Row) (pages : ℕ) where
      aims : (r : Result ℤ Refusal) → call.IsTold tells slot columns places v (λ chain. edit.target how stamp (all_in chain) ≡ r) → IsTold tells Irregular slot columns places v (λ es. target_in Irregular how stamp es ≡ r)
      aims r is = told (λ es. target_in Irregular how stamp es ≡ r) (λ tell chain on of. aims_at_any how stamp (all_in chain) ∙ is tell chain on of)

      puts : (at : ℤ) (new : List Place) → call.IsTold tells slot columns places v (λ chain. call.AreWritten slot columns (with_element at row (all_in chain)) places new v w)
          → IsTold tells Irregular slot columns places v (λ es. AreWritten Irregular slot columns (with_element at row es) places new v w)
      puts at new is = told (λ es. AreWritten Irregular slot columns (with_element at row es) places new v w) (λ tell chain on of. written _ _ (is tell chain on of))

      would_cost : (at : ℤ) (lists : List (List Element)) → chain.AreChained slot columns v.page places lists → IsChain columns lists → edit.target how stamp (all_in lists) ≡ Ok at → element_at at (all_in lists) ≡ None
          → WouldCost Irregular columns how stamp row (all_in lists) (charge_with_one Irregular columns places)
      would_cost at lists on of target absent =
          let es = all_in lists in
          record {
            at = at;
            target_is = aims_at_any how stamp es ∙ target;
            absent = absent;
            costs = ap (irregular_charge (page_room columns))
                (ap len (as_maps.put at row es) ∙ one_more (by_stamp es) at row (as_maps.found at es ∙ absent)
                ∙ ap (λ (n : ℕ). n + 1) (many es (pages_in_order columns lists of.pages).rising ∙ chained_count slot columns v.page places lists on));
          }

      pub edited_chain : (done : Edited) → edit.IsEdited tells slot columns how stamp row pages places v w done → IsEdited tells Irregular slot columns how stamp row pages places v w done
      edited_chain (edited.Put at m) is =
          let more = fewer _ (count_of places + 1) is.count in
          let fits = is.fits in
          record {
            places = moved columns places _ v w is.places;
            pays = inl (omega (arith, more, fits));
            target_is = aims (Ok at) is.target_is;
            put = puts at _ is.put;
          }
      edited_chain edited.Replaced is = record { free = is.free; target_is = aims (Ok stamp) is.target_is; put = puts stamp places is.put }
      edited_chain (edited.Refused refusal) is = record { same = is.same; why = aims (Err refusal) is.why }
      edited_chain edited.Full is = record {
        same = is.same;
        over = is.over;
        new = told (λ es. WouldCost Irregular columns how stamp row es (charge_with_one Irregular columns places)) (λ tell chain on of.
            let at = is.new tell chain on of in would_cost at.0 chain on of at.1 at.2);
      }
