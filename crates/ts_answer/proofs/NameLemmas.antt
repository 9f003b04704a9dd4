-- Names of a kind: in the slots, and in the catalogue.
use Rattle.std.proofs.Common.{◌≡◌, ℕ, Some, None, Result, Ok, Err, List, ap, sym, ◌∙◌, subst, refl, arith}
use Rattle.std.specs.FinMap.{get}
use Rattle.ts_base.specs.declared.refusal.Refusal.TheVariants as refusals
use Rattle.ts_base.specs.declared.fault.Trouble.{Trouble}
use Rattle.ts_base.specs.declared.fault.Trouble.TheVariants.{Refused}
use Rattle.ts_calendar.specs.declared.text.CalendarText.{CalendarText}
use Rattle.ts_model.specs.declared.kind.Kind.{Kind}
use Rattle.ts_model.specs.declared.kind.Kind.TheVariants as kinds
use Rattle.ts_model.specs.Catalogue.{calendar_of, In, named}
use Rattle.ts_model.specs.Definitions.{Definitions, limit, slots, slot_of, vacant_slot}
use Rattle.ts_layout.specs.Meaning.{Layout, IsSound, value_of, catalogue_of}
use Rattle.ts_layout.proofs.CallerLemmas.{name_found, no_name_found, kind_full, kind_vacant, calendar_stands}
use Rattle.ts_answer.specs.Answer.{known, wanted, a_new_name, a_calendar}
use Rattle.ts_answer.specs.Slots.{IsFreeSlot, IsSlotNamed, IsValue, Stands, IsCalendarIn}
use Rattle.ts_answer.specs.Tried.{IsTried}
use Rattle.ts_answer.specs.View.{IsHeldOf, IsDefinedBy}
use Rattle.ts_answer.proofs.TriedLemmas.{wanted-there, wanted-missing, unused-free, unused-taken, room-left, no-room, on_ok, on_err, goes, stops, tried_ok}

-- a name that is found stands for what is in its slot
named_value : (kind : Kind) (l : Layout) (name : List ℕ) (slot : ℕ) → IsSound l → slot_of name (slots kind l.definitions) ≡ Some slot
    → (value : In kind) × (get (named kind (catalogue_of l)) name ≡ Some value) × IsValue kind l slot value
named_value kind l name slot rules is = let found = name_found kind l name slot rules is in (value_of kind l slot found.0, found.1.listed, (found.0, found.1.there, refl))

-- what is in memory is definitions of a layout
pub defined_by : {d : Definitions} {count : ℕ} {space : _} {free : List ℕ} {l : Layout} → IsHeldOf d space count free l → IsDefinedBy d count l
defined_by held = record { definitions = held.definitions; size = held.size; rules = held.rules; filled = held.filled }

-- by definitions of a layout: a name is tried
module _ (kind : Kind) (d : Definitions) (count : ℕ) (l : Layout) (by : IsDefinedBy d count l) (name : List ℕ) where
  pub name_wanted : (slot : ℕ) → IsSlotNamed kind slot name d → IsTried (Ok slot) (wanted name (named kind (catalogue_of l))) (Stands kind name l)
  name_wanted slot is =
      let at = subst (λ (x : Definitions). IsSlotNamed kind slot name x) by.definitions is in
      let found = named_value kind l name slot by.rules at.is in
      record { ok = (found.0, wanted-there name (named kind (catalogue_of l)) found.0 found.1, record { at = at; listed = found.1; is = found.2 }); err = tt }

  pub name_unknown : slot_of name (slots kind d) ≡ None → IsTried (Err (Refused refusals.UnknownName)) (wanted name (named kind (catalogue_of l))) (Stands kind name l)
  name_unknown none =
      let missing = ap (λ (x : Definitions). slot_of name (slots kind x)) (sym by.definitions) ∙ none in
      record { ok = tt; err = wanted-missing name (named kind (catalogue_of l)) (no_name_found kind l name missing) }

  -- a new name
  abbrev New : ℕ → Unit {0} → Type 0
  New slot room = IsFreeSlot kind slot name l.definitions

  pub name_new : (slot : ℕ) → IsFreeSlot kind slot name d → IsTried (Ok slot) (a_new_name kind name (catalogue_of l)) New
  unfolding a_new_name
  name_new slot is =
      let free = subst (λ (x : Definitions). IsFreeSlot kind slot name x) by.definitions is in
      record {
        ok = (tt, on_ok _ tt _ (unused-free name (named kind (catalogue_of l)) (no_name_found kind l name free.new)) ∙ room-left (limit kind) (named kind (catalogue_of l)) (kind_vacant kind l slot by.rules free.lowest), free);
        err = tt;
      }

  pub name_taken : (slot : ℕ) → slot_of name (slots kind d) ≡ Some slot → IsTried (Err (Refused refusals.NameTaken)) (a_new_name kind name (catalogue_of l)) New
  unfolding a_new_name
  name_taken slot is =
      let there = named_value kind l name slot by.rules (ap (λ (x : Definitions). slot_of name (slots kind x)) (sym by.definitions) ∙ is) in
      record { ok = tt; err = on_err _ refusals.NameTaken _ (unused-taken name (named kind (catalogue_of l)) there.0 there.1) }

  pub name_beyond : slot_of name (slots kind d) ≡ None → vacant_slot (slots kind d) ≡ None → IsTried (Err (Refused refusals.TooMany)) (a_new_name kind name (catalogue_of l)) New
  unfolding a_new_name
  name_beyond none full =
      let missing = ap (λ (x : Definitions). slot_of name (slots kind x)) (sym by.definitions) ∙ none in
      let filled = ap (λ (x : Definitions). vacant_slot (slots kind x)) (sym by.definitions) ∙ full in
      record {
        ok = tt;
        err = on_ok _ tt _ (unused-free name (named kind (catalogue_of l)) (no_name_found kind l name missing))
            ∙ no-room (limit kind) (named kind (catalogue_of l)) (let all = kind_full kind l by.rules filled in omega (arith, all));
      }

  -- the calendar of a name, by its text
  pub calendar_tried : (result : Result ℕ Trouble) → IsTried result (wanted name (catalogue_of l).calendars) (Stands kinds.Calendar name l) → IsTried result (a_calendar name (catalogue_of l)) (IsCalendarIn name l)
  unfolding a_calendar
  calendar_tried (Ok slot) found = goes _ slot found (λ text there.
      let def = there.is.0 in
      let stands = ap (λ (t : CalendarText). calendar_of (catalogue_of l) t) there.is.2 ∙ calendar_stands l slot def by.rules there.is.1 in
      tried_ok slot def.calendar (ap known stands) (record { at = there.at; def = def; there = there.is.1; is = refl }))
  calendar_tried (Err trouble) found = stops _ trouble refl found
