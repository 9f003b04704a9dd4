-- What is found in slots and on the pages where they stand.
use Rattle.std.specs.Prelude.{◌≡◌, ℕ, ◌+◌, ◌<◌, ◌≤◌, ◌⊎◌, Option, Some, None, IsSome, Result, Ok, Err, List, [], ◌∷◌}
use Rattle.std.specs.Prelude.{length, drop, replicate, All, Any, AllPairs, ◌-◌, ◌++◌}
use Rattle.ts_page.specs.Pages.{page_size}
use Rattle.ts_model.specs.declared.kind.Kind.{Kind}
use Rattle.ts_model.specs.declared.kind.Kind.TheVariants as kinds
use Rattle.ts_model.specs.declared.def.Def.{Def}
use Rattle.ts_model.specs.declared.def.Def.TheVariants as defs
use Rattle.ts_model.specs.Definitions.{Definitions, CalendarDef, limit, slots, at_slot, table_of, slot_of, with_slot}
use Rattle.ts_model.specs.Definitions.{references}
use Rattle.ts_container.specs.declared.found.Broken.{Broken}
use Rattle.ts_container.specs.declared.found.Found.{Found}
use Rattle.ts_container.specs.declared.found.Found.TheVariants as found
use Rattle.ts_slots.specs.declared.calendar_slot.Part.{Part}
use Rattle.ts_slots.specs.declared.calendar_slot.Part.TheVariants.{By, Own}
use Rattle.ts_slots.specs.declared.slot.Written.{Written}
use Rattle.ts_slots.specs.declared.slot.Written.TheVariants.{Whole, Form}
use Rattle.ts_layout.specs.Slot.{slot_bytes, slots_in_page, bytes_of_slots}
use Rattle.ts_layout.specs.Meaning.{IsDef, IsSlotOf, def_at, HoldsDefinitions, KeepLimits, Follows, AreFollowing}
use Rattle.ts_layout.specs.Meaning.{AreValid}
use Rattle.ts_layout.specs.Changed.{KeepsCalendarRules}
use Rattle.ts_calendar.specs.Calendars.{CalendarPlan, IsValid}
use Rattle.ts_layout.specs.Rank.{rank, rank_of_page}
use Rattle.ts_slots.specs.Written.{IsWritten, form_of, written_of, name_written}
use Rattle.ts_slots.specs.declared.calendar_slot.CalendarForm.{CalendarForm}
use Rattle.ts_volume.specs.FirstBad.{HavePatterns, HoldsSlots, Repeats, Dangles, IsUnresolved, IsLeast}

-- definitions of a format that were read as far as some rank: the slots from there on are empty
pub record AreReadTo (format : ℕ) (reached : ℕ) (d : Definitions) : Type 0 where
  pub of_format : d.format ≡ format
  pub sizes : (kind : Kind) → length (slots kind d) ≡ limit kind
  pub empty : (kind : Kind) (slot : ℕ) → reached ≤ rank kind slot → def_at kind slot d ≡ None
  pub limits : KeepLimits d
  pub follow : AreFollowing d
  pub valid : AreValid d

-- something stands in a slot, or a calendar that breaks a rule and so isn't among the definitions
abbrev pub IsFilledAmong : Definitions → List Broken → Kind × ℕ → Type 0
IsFilledAmong d broken target = IsSome (def_at target.0 target.1 d)
    ⊎ ((target.0 ≡ kinds.Calendar) × Any (λ b. b.slot ≡ target.1) broken)

-- so it is of each of some slots
abbrev pub AreFilledAmong : Definitions → List Broken → List (Kind × ℕ) → Type 0
AreFilledAmong d broken [] = Unit {0}
AreFilledAmong d broken (target ∷ rest) = IsFilledAmong d broken target × AreFilledAmong d broken rest

-- a definition of the kind has the name, or such a calendar
abbrev pub IsTakenAmong : Definitions → List Broken → Kind → List ℕ → Type 0
IsTakenAmong d broken kind name = IsSome (slot_of name (slots kind d))
    ⊎ ((kind ≡ kinds.Calendar) × Any (λ b. b.name ≡ name) broken)

-- what a calendar's form refers to
abbrev pub part_references : Part → List (Kind × ℕ)
part_references (By slot) = (kinds.Pattern, slot) ∷ []
part_references (Own pattern) = []

-- what that refers to which is written in a slot
abbrev pub references_written : Written → List (Kind × ℕ)
references_written (Whole def) = references def
references_written (Form form) = part_references form.part

-- calendars that break a rule, in the order of their slots, which are below some rank
pub record AreBroken (reached : ℕ) (broken : List Broken) : Type 0 where
  pub below : All (λ b. rank kinds.Calendar b.slot < reached) broken
  pub within : All (λ b. b.slot < limit kinds.Calendar) broken
  pub rising : AllPairs (λ a b. a.slot < b.slot) broken

-- definitions that were read as far as some rank, and the calendars that break a rule: each refers to filled slots
pub record IsReadTo (format : ℕ) (reached : ℕ) (d : Definitions) (broken : List Broken) : Type 0 where
  pub read : AreReadTo format reached d
  pub there : (kind : Kind) (slot : ℕ) (def : Def) → slot < limit kind → def_at kind slot d ≡ Some def
      → AreFilledAmong d broken (references def)
  pub listed : AreBroken reached broken

-- a calendar in its slot breaks a rule
pub record IsBrokenIn (s : Definitions) (b : Broken) : Type 0 where
  pub c : CalendarDef
  pub there : at_slot b.slot s.calendars ≡ Some c
  pub named : c.name ≡ b.name
  pub breaks : IsValid c.calendar → ⊥

-- a slot is that of one of these calendars, and empty in the definitions that were read
pub record IsLeftOut (d : Definitions) (broken : List Broken) (kind : Kind) (slot : ℕ) : Type 0 where
  pub calendar : kind ≡ kinds.Calendar
  pub listed : Any (λ b. b.slot ≡ slot) broken
  pub empty : def_at kind slot d ≡ None

-- in the slots below some rank definitions were read that are those of a volume, but for its calendars that break a
-- rule; none of them has the name of a lower one of its kind or refers to an empty slot
pub record AreOfVolume (reached : ℕ) (d : Definitions) (broken : List Broken) (s : Definitions) : Type 0 where
  pub same : (kind : Kind) (slot : ℕ) → slot < limit kind → rank kind slot < reached
      → (def_at kind slot d ≡ def_at kind slot s) ⊎ IsLeftOut d broken kind slot
  pub listed : All (IsBrokenIn s) broken
  pub resolved : (kind : Kind) (slot : ℕ) → slot < limit kind → rank kind slot < reached
      → (Repeats kind slot s ⊎ Dangles kind slot s) → ⊥

-- what pages say, whatever rules it breaks together, in a volume of a format
pub record AreWritten (format : ℕ) (pages : ℕ → List ℕ) (s : Definitions) : Type 0 where
  pub of_format : s.format ≡ format
  pub sizes : (kind : Kind) → length (table_of kind s) ≡ limit kind
  pub bytes : HoldsDefinitions pages s
  pub limits : KeepLimits s
  pub patterns : HavePatterns s

-- the bytes of a slot: what a volume of a format has in it
pub record IsWrittenAt (format : ℕ) (kind : Kind) (slot : ℕ) (bytes : List ℕ) (s : Definitions) : Type 0 where
  pub is : IsSlotOf format kind (def_at kind slot s)
  pub held : bytes ≡ slot_bytes kind (def_at kind slot s)
  pub patterns : HavePatterns s

-- the bytes of an empty slot, or of a definition of the format
abbrev pub IsSlot : ℕ → Kind → List ℕ → Type 0
IsSlot format kind bytes = (o : Option Def) × IsSlotOf format kind o × (bytes ≡ slot_bytes kind o)

-- what is written in a slot is so of a definition of the format
abbrev pub StandsFor : ℕ → Written → Type 0
StandsFor format w = IsWritten format w → (def : Def) × IsDef format def × (written_of def ≡ w)

-- the definitions with one more, or the same
abbrev pub filled : Kind → ℕ → Option Def → Definitions → Definitions
filled kind slot None d = d
filled kind slot (Some def) d = with_slot kind slot (Some def) d

-- the pattern stands in its slot, where a calendar says one
abbrev pub HasPart : Definitions → Part → Type 0
HasPart d (By slot) = IsSome (at_slot slot d.patterns)
HasPart d (Own pattern) = Unit {0}

-- so it is of a calendar that is written
abbrev pub HasPattern : Definitions → Written → Type 0
HasPattern d (Whole def) = Unit {0}
HasPattern d (Form form) = HasPart d form.part

-- the definition that is written, completed among those before it, or the name of the calendar, if each that is written
-- so and has its pattern breaks a rule
abbrev pub Completes : Definitions → Written → Result Def (List ℕ) → Type 0
Completes d w (Ok def) = IsDef d.format def × (written_of def ≡ w) × KeepsCalendarRules def d
Completes d w (Err name) = (form : CalendarForm) × (w ≡ Form form) × (name ≡ form.name)
    × ((c : CalendarDef) → form_of c ≡ form → Follows d.patterns c → IsValid c.calendar → ⊥)

-- a calendar made of its parts, which keeps its limits, or breaks a rule
abbrev pub Makes : List ℕ → CalendarPlan → Option ℕ → Result Def (List ℕ) → Type 0
Makes name c by (Ok def) = (def ≡ defs.Calendar name c by) × ((format : ℕ) → IsDef format def) × IsValid c
Makes name c by (Err given) = (given ≡ name) × (IsValid c → ⊥)

-- the names and the references of what is written are settled, or not
abbrev pub IsSettled : Kind → Written → Definitions × List Broken → Type 0
IsSettled kind w old = (IsTakenAmong old.0 old.1 kind (name_written w) → ⊥)
    × AreFilledAmong old.0 old.1 (references_written w)

abbrev pub IsUnsettled : Kind → Written → Definitions × List Broken → Type 0
IsUnsettled kind w old = IsTakenAmong old.0 old.1 kind (name_written w)
    ⊎ (AreFilledAmong old.0 old.1 (references_written w) → ⊥)

-- what is written is put into its slot among the definitions before it, or listed as a calendar that breaks a rule
abbrev pub IsPut : ℕ → Written → Kind → Result Def (List ℕ) → Definitions × List Broken → Definitions × List Broken
    → Type 0
IsPut slot w kind (Ok def) old new = (new.0 ≡ with_slot kind slot (Some def) old.0) × (new.1 ≡ old.1)
IsPut slot w kind (Err name) old new = (new.0 ≡ old.0) × (new.1 ≡ old.1 ++ record { slot = slot; name = name } ∷ [])

-- so it is, or its name is taken or something that it refers to isn't there
abbrev pub Admitted : Kind → ℕ → Written → Definitions × List Broken → Definitions × List Broken → Found → Type 0
Admitted kind slot w old new found.Good =
    IsSettled kind w old × ((r : Result Def (List ℕ)) × Completes old.0 w r × IsPut slot w kind r old new)
Admitted kind slot w old new found.Unresolved = IsUnsettled kind w old
Admitted kind slot w old new found.Bad = ⊥

-- The bytes of a slot, in a volume of a format, are read into it: it is filled, or empty, or listed as a calendar that
-- breaks a rule; or what stands there has the name of a lower slot or refers to an empty one; or they are no slot's.
abbrev pub SlotRead : ℕ → Kind → ℕ → List ℕ → Definitions × List Broken → Definitions × List Broken → Found → Type 0
SlotRead format kind slot bytes old new found.Good =
    IsSlot format kind bytes × IsReadTo format (rank kind slot + 1) new.0 new.1
    × ((s : Definitions) → IsWrittenAt format kind slot bytes s → AreOfVolume (rank kind slot) old.0 old.1 s
    → AreOfVolume (rank kind slot + 1) new.0 new.1 s)
SlotRead format kind slot bytes old new found.Unresolved =
    IsSlot format kind bytes
    × ((s : Definitions) → IsWrittenAt format kind slot bytes s → AreOfVolume (rank kind slot) old.0 old.1 s
    → Repeats kind slot s ⊎ Dangles kind slot s)
SlotRead format kind slot bytes old new found.Bad = IsSlot format kind bytes → ⊥

-- zeros behind the slots of a page
abbrev pub HasZerosBehind : ℕ → List ℕ → Type 0
HasZerosBehind number page = drop (bytes_of_slots (slots_in_page number)) page
    ≡ replicate (page_size - bytes_of_slots (slots_in_page number)) 0

-- the bytes of a definition page are those of slots and zeros
abbrev pub IsPageOf : ℕ → ℕ → List ℕ → Type 0
IsPageOf format number page = (pages : ℕ → List ℕ) → pages number ≡ page → HoldsSlots format pages number

-- they are of no page with this number
abbrev pub IsNoPageOf : ℕ → ℕ → List ℕ → Type 0
IsNoPageOf format number page = (pages : ℕ → List ℕ) → pages number ≡ page → HoldsSlots format pages number → ⊥

-- A definition page of a volume of a format is read: the definitions are those of the volume; or it is the first page
-- of one that has the name of a lower slot or refers to an empty one; or it is bad.
abbrev pub PageRead : ℕ → ℕ → List ℕ → Definitions × List Broken → Definitions × List Broken → Found → Type 0
PageRead format number page old new found.Good =
    IsPageOf format number page × IsReadTo format (rank_of_page (number + 1)) new.0 new.1
    × ((pages : ℕ → List ℕ) (s : Definitions) → pages number ≡ page → AreWritten format pages s
    → AreOfVolume (rank_of_page number) old.0 old.1 s
    → AreOfVolume (rank_of_page (number + 1)) new.0 new.1 s)
PageRead format number page old new found.Unresolved =
    (pages : ℕ → List ℕ) (s : Definitions) → pages number ≡ page → AreWritten format pages s
    → AreOfVolume (rank_of_page number) old.0 old.1 s → IsLeast (IsUnresolved s) number
PageRead format number page old new found.Bad = IsNoPageOf format number page
