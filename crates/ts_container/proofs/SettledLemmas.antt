-- One slot more is read: what stands there has the name of a lower one, refers to an empty one, or is settled.
use Rattle.std.specs.Prelude.{All, Any, Contains}
use Rattle.std.proofs.Common.{◌≡◌, ℕ, zero, suc, ◌<◌, Bool, true, false, cond, position, Option, Some, None, IfSome, IsSome, List, [], ◌∷◌, length, get_or, ℤ, refl, sym, ap, subst, ◌∙◌, arith, inl, inr}
use Rattle.std.specs.Option.{option_map}
use Rattle.std.proofs.lemmas.Bool.{cases_lt}
use Rattle.std.proofs.lemmas.List.{get_or_past}
use Rattle.std.proofs.lemmas.Slice.Eq.{bytes_eq-Decides}
use Rattle.std.proofs.lemmas.List.Quantifiers.{position-Some}
use Rattle.ts_model.proofs.IndexLemmas.{position-more}
use Rattle.ts_model.specs.declared.kind.Kind.{Kind}
use Rattle.ts_model.specs.declared.kind.Kind.TheVariants as kinds
use Rattle.ts_model.specs.declared.def.Def.{Def}
use Rattle.ts_model.specs.declared.def.Def.TheVariants as defs
use Rattle.ts_model.specs.Definitions.{Definitions, CalendarDef, kind_of, name_of, limit, slots, slot_of, has_name, of_calendar, at_slot, def_at, pattern_reference, calendar_reference, references}
use Rattle.ts_slots.specs.declared.slot.Written.{Written}
use Rattle.ts_slots.specs.Written.{written_of, name_written}
use Rattle.ts_slots.specs.Reading.{IsWrittenWith}
use Rattle.ts_slots.proofs.WrittenLemmas.{name_same}
use Rattle.ts_layout.specs.Slot.{slot_bytes}
use Rattle.ts_layout.specs.Meaning.{IsDef, IsSlotOf, IsRegularPart}
use Rattle.ts_layout.specs.Rank.{rank}
use Rattle.ts_layout.proofs.CallerLemmas.{slot_filled, at_slot-map}
use Rattle.ts_volume.specs.FirstBad.{Repeats, Dangles}
use Rattle.ts_container.specs.declared.found.Broken.{Broken}
use Rattle.ts_container.specs.Reading.{AreReadTo, IsFilledAmong, AreFilledAmong, IsTakenAmong, IsReadTo, IsBrokenIn, AreOfVolume, IsWrittenAt, references_written}

none_is : {A : Type 0} (o : Option A) (a : A) → o ≡ None → o ≡ Some a → ⊥
none_is o a none some = cc

pub there_is : {A : Type 0} (o : Option A) → IsSome o → (a : A) × (o ≡ Some a)
there_is None some = absurd (cc)
there_is (Some a) some = (a, refl)

some_is : {A : Type 0} (o : Option A) (a : A) → o ≡ Some a → IsSome o
some_is (Some x) a is = refl
some_is None a is = absurd (cc)

-- an element of a list, by any that may stand in its place
pub at_any : {A : Type 0} (xs : List A) (k : ℕ) (x : A) → k < length xs → get_or xs k x ≡ x → (d : A) → get_or xs k d ≡ x
at_any [] k x within is d = absurd (omega (arith, within))
at_any (y ∷ xs) zero x within is d = is
at_any (y ∷ xs) (suc k) x within is d = at_any xs k x (omega (arith, within)) is d

pub all_of : {A : Type 0} (P : A → Type 0) (xs : List A) (k : ℕ) (x : A) → All P xs → k < length xs → get_or xs k x ≡ x → P x
all_of P xs k x all within is = subst P is (all k x within)

-- a slot that has a name is found by it
pub found_from : (name : List ℕ) (table : List (Option Def)) (i : ℕ) (def : Def) → at_slot i table ≡ Some def → name_of def ≡ name → IsSome (slot_of name table)
found_from name [] i def there same = absurd (cc)
found_from name (o ∷ table) zero def there same =
    let named : has_name name o ≡ true = ap (has_name name) there ∙ (bytes_eq-Decides name (name_of def)).1 (sym same) in
    subst IsSome (sym (position-more (has_name name) o table ∙ ap (λ b. cond b (Some 0) (option_map suc (position (has_name name) table))) named)) refl
found_from name (o ∷ table) (suc i) def there same =
    subst IsSome (sym (position-more (has_name name) o table)) (of_test (has_name name o) (position (has_name name) table) (found_from name table i def there same)) where
      of_test : (b : Bool) (o : Option ℕ) → IsSome o → IsSome (cond b (Some 0) (option_map suc o))
      of_test true o some = refl
      of_test false (Some n) some = refl
      of_test false None some = absurd (cc)

-- what stands in a slot of a volume is what is written there
pub record StandsThere (format : ℕ) (kind : Kind) (slot : ℕ) (w : Written) (s : Definitions) : Type 0 where
  pub def : Def
  pub there : def_at kind slot s ≡ Some def
  pub kinded : kind_of def ≡ kind
  pub is : IsDef format def
  pub written : w ≡ written_of def

pub stands_there : (format : ℕ) (kind : Kind) (slot : ℕ) (bytes : List ℕ) (w : Written) (s : Definitions) → IsWrittenWith format kind bytes w → IsWrittenAt format kind slot bytes s → StandsThere format kind slot w s
stands_there format kind slot bytes w s read at = of_slot (def_at kind slot s) refl at.is at.held where
  of_slot : (o : Option Def) → def_at kind slot s ≡ o → IsSlotOf format kind o → bytes ≡ slot_bytes kind o → StandsThere format kind slot w s
  of_slot None here is same = absurd (read.some same)
  of_slot (Some def) here is same = record { def = def; there = here; kinded = is.0; is = is.1; written = read.only def is.0 is.1 (same ∙ slot_filled kind def) }

-- within a kind slots rise as their ranks do
slots_rise : (kind : Kind) (i j : ℕ) → rank kind i < rank kind j → i < j
slots_rise kinds.RowType i j below = omega (arith, below)
slots_rise kinds.Pattern i j below = omega (arith, below)
slots_rise kinds.Calendar i j below = omega (arith, below)
slots_rise kinds.Container i j below = omega (arith, below)
slots_rise kinds.Series i j below = omega (arith, below)

ranks_rise : (kind : Kind) (i j : ℕ) → i < j → rank kind i < rank kind j
ranks_rise kinds.RowType i j below = omega (arith, below)
ranks_rise kinds.Pattern i j below = omega (arith, below)
ranks_rise kinds.Calendar i j below = omega (arith, below)
ranks_rise kinds.Container i j below = omega (arith, below)
ranks_rise kinds.Series i j below = omega (arith, below)

-- a filled slot was read
read_below : (format reached : ℕ) (d : Definitions) (kind : Kind) (slot : ℕ) (def : Def) → AreReadTo format reached d → def_at kind slot d ≡ Some def → rank kind slot < reached
read_below format reached d kind slot def read is =
    elim (cases_lt (rank kind slot) reached) [ inl less ↦ less | inr above ↦ absurd (none_is (def_at kind slot d) def (read.empty kind slot above) is) ]

read_within : (format reached : ℕ) (d : Definitions) (kind : Kind) (slot : ℕ) (def : Def) → AreReadTo format reached d → def_at kind slot d ≡ Some def → slot < limit kind
read_within format reached d kind slot def read is =
    elim (cases_lt slot (limit kind)) [
      | inl less ↦ less
      | inr past ↦ absurd (none_is (def_at kind slot d) def (get_or_past (slots kind d) slot None (omega (arith, past, read.sizes kind))) is)
    ]

-- the definition of a name that was found
named : (o : Option Def) (name : List ℕ) → has_name name o ≡ true → (def : Def) × (o ≡ Some def) × (name_of def ≡ name)
named None name none = absurd (cc)
named (Some def) name is = (def, refl, sym ((bytes_eq-Decides name (name_of def)).0 is))

-- a calendar of a volume, as a definition
pub calendar_stands : (s : Definitions) (slot : ℕ) (c : CalendarDef) → at_slot slot s.calendars ≡ Some c → def_at kinds.Calendar slot s ≡ Some (of_calendar c)
calendar_stands s slot c there = at_slot-map of_calendar slot s.calendars ∙ ap (option_map of_calendar) there

-- what a definition refers to has a lower rank
one_reference : (t target : Kind × ℕ) → Contains (t ∷ []) target → t ≡ target
one_reference t target (zero, inside, is) = is
one_reference t target (suc k, inside, is) = absurd (omega (arith, inside))

abbrev IsLower : ℕ → Kind × ℕ → Type 0
IsLower reached target = (target.1 < limit target.0) × (rank target.0 target.1 < reached)

lower_by : (slot : ℕ) (by : Option ℕ) → IfSome by (λ n. n < 256) → (target : Kind × ℕ) → Contains (pattern_reference by) target → IsLower (rank kinds.Calendar slot) target
lower_by slot None low target (k, inside, is) = absurd (omega (arith, inside))
lower_by slot (Some n) low target contained = subst (IsLower (rank kinds.Calendar slot)) (one_reference (kinds.Pattern, n) target contained) (low, omega (arith, low))

lower_calendar : (slot : ℕ) (regular : Option (ℕ × ℤ)) → IfSome regular IsRegularPart → (target : Kind × ℕ) → Contains (calendar_reference regular) target → IsLower (rank kinds.Series slot) target
lower_calendar slot None is target (k, inside, at) = absurd (omega (arith, inside))
lower_calendar slot (Some regular) is target contained =
    let low = is.calendar in
    subst (IsLower (rank kinds.Series slot)) (one_reference (kinds.Calendar, regular.0) target contained) (low, omega (arith, low))

lower_of : (format slot : ℕ) (def : Def) → IsDef format def → (target : Kind × ℕ) → Contains (references def) target → IsLower (rank (kind_of def) slot) target
lower_of format slot (defs.RowType name kind) is target (k, inside, at) = absurd (omega (arith, inside))
lower_of format slot (defs.Pattern name pattern) is target (k, inside, at) = absurd (omega (arith, inside))
lower_of format slot (defs.Calendar name calendar by) is target contained = lower_by slot by is.by target contained
lower_of format slot (defs.Container name row_type quota) is target contained =
    let low = is.row_type in
    subst (IsLower (rank kinds.Container slot)) (one_reference (kinds.RowType, row_type) target contained) (low, omega (arith, low))
lower_of format slot (defs.Series key container regular) is target (zero, inside, at) =
    let low = is.container in
    let P : Kind × ℕ → Type 0 = IsLower (rank kinds.Series slot) in
    let first : P (kinds.Container, container) = (low, omega (arith, low)) in
    subst P at first
lower_of format slot (defs.Series key container regular) is target (suc k, inside, at) = lower_calendar slot regular is.regular target (k, omega (arith, inside), at)

lower_references : (format : ℕ) (kind : Kind) (slot : ℕ) (def : Def) → kind_of def ≡ kind → IsDef format def → (target : Kind × ℕ) → Contains (references def) target → IsLower (rank kind slot) target
lower_references format kind slot def same is target contained = subst (λ (k : Kind). IsLower (rank k slot) target) same (lower_of format slot def is target contained)

-- what is written refers to what the definition does
pub references_same : (def : Def) → references_written (written_of def) ≡ references def
references_same (defs.RowType name kind) = refl
references_same (defs.Pattern name pattern) = refl
references_same (defs.Calendar name calendar None) = refl
references_same (defs.Calendar name calendar (Some slot)) = refl
references_same (defs.Container name row_type quota) = refl
references_same (defs.Series key container regular) = refl

-- definitions that were read as far as some rank, in a volume
module _ (format reached : ℕ) (d : Definitions) (broken : List Broken) (s : Definitions) (read : IsReadTo format reached d broken) (of : AreOfVolume reached d broken s) where
  -- what was read stands in the volume
  there_too : (kind : Kind) (slot : ℕ) (def : Def) → def_at kind slot d ≡ Some def → def_at kind slot s ≡ Some def
  there_too kind slot def is =
      elim (of.same kind slot (read_within format reached d kind slot def read.read is) (read_below format reached d kind slot def read.read is)) [
        | inl same ↦ sym same ∙ is
        | inr out ↦ absurd (none_is (def_at kind slot d) def out.empty is)
      ]

  -- and so does each calendar that breaks a rule
  broken_there : (slot : ℕ) → Any (λ b. b.slot ≡ slot) broken → (def : Def) × (def_at kinds.Calendar slot s ≡ Some def)
  broken_there slot (k, b, within, is, same) =
      let one = all_of (IsBrokenIn s) broken k b of.listed within is in
      (of_calendar one.c, subst (λ (n : ℕ). def_at kinds.Calendar n s ≡ Some (of_calendar one.c)) same (calendar_stands s b.slot one.c one.there))

  filled_there : (target : Kind × ℕ) → IsFilledAmong d broken target → (def : Def) × (def_at target.0 target.1 s ≡ Some def)
  filled_there target (inl some) = let one = there_is (def_at target.0 target.1 d) some in (one.0, there_too target.0 target.1 one.0 one.1)
  filled_there target (inr (calendar, listed)) =
      let one = broken_there target.1 listed in
      (one.0, subst (λ (k : Kind). def_at k target.1 s ≡ Some one.0) (sym calendar) one.1)

  -- a slot below that is filled in the volume is filled here, or a calendar's that breaks a rule
  filled_here : (kind : Kind) (slot : ℕ) (def : Def) → slot < limit kind → rank kind slot < reached → def_at kind slot s ≡ Some def → IsFilledAmong d broken (kind, slot)
  filled_here kind slot def within below is =
      elim (of.same kind slot within below) [
        | inl same ↦ inl (some_is (def_at kind slot d) def (same ∙ is))
        | inr out ↦ inr (out.calendar, out.listed)
      ]

  -- of some slots below, where not all are filled here, one is empty in the volume
  first_empty : (targets : List (Kind × ℕ)) → ((target : Kind × ℕ) → Contains targets target → (target.1 < limit target.0) × (rank target.0 target.1 < reached)) → (AreFilledAmong d broken targets → ⊥)
      → (target : Kind × ℕ) × Contains targets target × (def_at target.0 target.1 s ≡ None)
  first_empty [] lower lacks = absurd (lacks tt)
  first_empty (t ∷ targets) lower lacks = of_slot (first_empty targets (λ target (k, inside, there). lower target (suc k, omega (arith, inside), there))) (def_at t.0 t.1 s) refl where
    of_slot : ((AreFilledAmong d broken targets → ⊥) → (target : Kind × ℕ) × Contains targets target × (def_at target.0 target.1 s ≡ None)) → (o : Option Def) → def_at t.0 t.1 s ≡ o
        → (target : Kind × ℕ) × Contains (t ∷ targets) target × (def_at target.0 target.1 s ≡ None)
    of_slot others None is = (t, (0, omega arith, refl), is)
    of_slot others (Some x) is =
        let low = lower t (0, omega arith, refl) in
        let rest = others (λ filled. lacks (filled_here t.0 t.1 x low.0 low.1 is, filled)) in
        (rest.0, (suc rest.1.0, (let inside = rest.1.1 in omega (arith, inside)), rest.1.2), rest.2)

  -- what is written in the next slot
  module _ (kind : Kind) (slot : ℕ) (w : Written) (within : slot < limit kind) (at : rank kind slot ≡ reached) (here : StandsThere format kind slot w s) where
    its_name : name_written w ≡ name_of here.def
    its_name = ap name_written here.written ∙ name_same here.def

    -- its name is taken
    pub repeats : IsTakenAmong d broken kind (name_written w) → Repeats kind slot s
    unfolding its_name
    repeats (inl some) =
        let found = there_is (slot_of (name_written w) (slots kind d)) some in
        let place = position-Some (has_name (name_written w)) (slots kind d) found.0 None found.1 in
        let other = named (def_at kind found.0 d) (name_written w) place.1 in
        let low = read_below format reached d kind found.0 other.0 read.read other.1 in
        record {
          lower = found.0;
          first = other.0;
          second = here.def;
          below = slots_rise kind found.0 slot (omega (arith, low, at));
          before = there_too kind found.0 other.0 other.1;
          there = here.there;
          names = other.2 ∙ its_name;
        }
    repeats (inr (calendar, (k, b, inside, is, same))) =
        let one = all_of (IsBrokenIn s) broken k b of.listed inside is in
        let low = all_of (λ (x : Broken). rank kinds.Calendar x.slot < reached) broken k b read.listed.below inside is in
        record {
          lower = b.slot;
          first = of_calendar one.c;
          second = here.def;
          below = slots_rise kind b.slot slot (let own : rank kind b.slot ≡ rank kinds.Calendar b.slot = ap (λ (x : Kind). rank x b.slot) calendar in omega (arith, low, at, own));
          before = subst (λ (x : Kind). def_at x b.slot s ≡ Some (of_calendar one.c)) (sym calendar) (calendar_stands s b.slot one.c one.there);
          there = here.there;
          names = one.named ∙ same ∙ its_name;
        }

    -- or it is new
    pub not_repeated : (IsTakenAmong d broken kind (name_written w) → ⊥) → Repeats kind slot s → ⊥
    unfolding its_name
    not_repeated new twice =
        let low : twice.lower < limit kind = let below = twice.below in omega (arith, below, within) in
        let rise : rank kind twice.lower < reached = let r = ranks_rise kind twice.lower slot twice.below in omega (arith, r, at) in
        let second : Some twice.second ≡ Some here.def = sym twice.there ∙ here.there in
        let same : name_of twice.first ≡ name_written w = twice.names ∙ (let e : twice.second ≡ here.def = cc in ap name_of e) ∙ sym its_name in
        elim (of.same kind twice.lower low rise) [
          | inl alike ↦ new (inl (found_from (name_written w) (slots kind d) twice.lower twice.first (alike ∙ twice.before) same))
          | inr out ↦ new (inr (out.calendar, listed_name out.calendar out.listed same))
        ] where
          listed_name : kind ≡ kinds.Calendar → Any (λ b. b.slot ≡ twice.lower) broken → name_of twice.first ≡ name_written w → Any (λ b. b.name ≡ name_written w) broken
          listed_name calendar (k, b, inside, is, at') same =
              let one = all_of (IsBrokenIn s) broken k b of.listed inside is in
              let first : Some (of_calendar one.c) ≡ Some twice.first = sym (calendar_stands s b.slot one.c one.there) ∙ (λ i. def_at (sym calendar i) (at' i) s) ∙ twice.before in
              let e : of_calendar one.c ≡ twice.first = cc in
              (k, b, inside, is, sym one.named ∙ ap name_of e ∙ same)

    its_references : references_written w ≡ references here.def
    its_references = ap references_written here.written ∙ references_same here.def

    -- all that it refers to is there
    pub not_dangling : AreFilledAmong d broken (references_written w) → Dangles kind slot s → ⊥
    unfolding its_references
    not_dangling filled dangles =
        let second : Some dangles.def ≡ Some here.def = sym dangles.there ∙ here.there in
        let own : dangles.def ≡ here.def = cc in
        let one = each_filled (references here.def) (subst (AreFilledAmong d broken) its_references filled) (dangles.target, dangles.at) (subst (λ (x : Def). Contains (references x) (dangles.target, dangles.at)) own dangles.refers) in
        let found = filled_there (dangles.target, dangles.at) one in
        none_is (def_at dangles.target dangles.at s) found.0 dangles.empty found.1 where
          each_filled : (targets : List (Kind × ℕ)) → AreFilledAmong d broken targets → (target : Kind × ℕ) → Contains targets target → IsFilledAmong d broken target
          each_filled [] filled target (k, inside, is) = absurd (omega (arith, inside))
          each_filled (t ∷ targets) filled target (zero, inside, is) = subst (IsFilledAmong d broken) is filled.0
          each_filled (t ∷ targets) filled target (suc k, inside, is) = each_filled targets filled.1 target (k, omega (arith, inside), is)

    -- or something isn't
    pub dangles : (AreFilledAmong d broken (references_written w) → ⊥) → Dangles kind slot s
    unfolding its_references first_empty
    dangles lacks =
        let found = first_empty (references here.def) (λ target contained.
        let low = lower_references format kind slot here.def here.kinded here.is target contained in
        (low.0, (let l = low.1 in omega (arith, l, at)))) (λ filled. lacks (subst (AreFilledAmong d broken) (sym its_references) filled)) in
        record { def = here.def; target = found.0.0; at = found.0.1; there = here.there; refers = found.1; empty = found.2 }
