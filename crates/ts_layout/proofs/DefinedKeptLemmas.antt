-- What is kept stays kept, whatever the pages hold, when a definition is made or dropped.
use Rattle.std.specs.Prelude.{All}
use Rattle.std.proofs.Common.{◌≡◌, ◌≢◌, ℕ, suc, ◌+◌, ◌-◌, ◌<◌, ◌≤◌, ◌==◌, Bool, true, false, if◌then◌else◌, Option, Some, None, List, [], ◌∷◌, length, set, length-set, get_or-set_other, refl, sym, ap, subst, ◌∙◌, arith, inl, inr, lit≤}
use Rattle.std.specs.Option.{option_and_then}
use Rattle.std.proofs.lemmas.Bool.{cases_eq}
use Rattle.std.proofs.lemmas.Bool.Decides.{nat_tests}
use Rattle.ts_space.specs.declared.place.Place.{Place}
use Rattle.ts_space.specs.Directory.{Directory, places_of}
use Rattle.ts_cells.specs.IrregularPage.{page_room}
use Rattle.ts_page.specs.Pages.{first_element_page}
use Rattle.ts_model.specs.declared.kind.Kind.{Kind}
use Rattle.ts_model.specs.declared.kind.Kind.TheVariants as kinds
use Rattle.ts_model.specs.declared.def.Def.{Def}
use Rattle.ts_model.specs.Definitions.{Definitions, SeriesDef, kind_of, from_def, limit, at_slot, with_slot, IsUsed, IsDefinitions}
use Rattle.ts_layout.specs.Meaning.{Layout, heading_in, heading_at, AreSound, IsSound}
use Rattle.ts_layout.specs.Changed.{layout_with, CanMake, CanDrop, HasNoPage}
use Rattle.ts_layout.specs.Charges.{places_charge, charge_listed, charges_listed, container_charge, KeepQuotas}
use Rattle.ts_layout.specs.Placed.{IsPlaceIn, AreKept}
use Rattle.ts_layout.proofs.OptionLemmas.{none≢some}
use Rattle.ts_layout.proofs.ChangedLemmas.{heading_stays, changed_columns, changed_shapes, filled_before, no_series_stands, made_unused, made_pageless, made_sound, dropped_within, dropped_pageless, dropped_sound}
use Rattle.ts_layout.proofs.PlacedLemmas.{kept_defined}
use Rattle.ts_layout.proofs.UsedLemmas.{nothing_charged}

-- no series costs more, so all together don't
pub charges_less : (space space' : Directory) (container room first : ℕ) (table' table : List (Option SeriesDef)) → length table' ≡ length table → ((j : ℕ) → j < length table → charge_listed space' container room (first + j) (at_slot j table') ≤ charge_listed space container room (first + j) (at_slot j table))
    → charges_listed space' container room first table' ≤ charges_listed space container room first table
charges_less space space' container room first [] [] size each = lit≤ tt
charges_less space space' container room first [] (o ∷ table) size each = absurd (omega (arith, size))
charges_less space space' container room first (o ∷ table') [] size each = absurd (omega (arith, size))
charges_less space space' container room first (o' ∷ table') (o ∷ table) size each =
    let at : first + 0 ≡ first = omega arith in
    let here : charge_listed space' container room first o' ≤ charge_listed space container room first o =
    subst (λ (n : ℕ). charge_listed space' container room n o' ≤ charge_listed space container room n o) at (each 0 (omega arith)) in
    let rest = charges_less space space' container room (suc first) table' table (omega (arith, size))
    (λ j low.
    let next : first + suc j ≡ suc first + j = omega arith in
    subst (λ (n : ℕ). charge_listed space' container room n (at_slot j table') ≤ charge_listed space container room n (at_slot j table)) next (each (suc j) (omega (arith, low)))) in
    omega (arith, here, rest)

-- a container in which no series stands is charged nothing
none_listed : (space : Directory) (container room first : ℕ) (table : List (Option SeriesDef)) → ((i : ℕ) (s : SeriesDef) → at_slot i table ≡ Some s → s.container ≡ container → ⊥) → charges_listed space container room first table ≡ 0
none_listed space container room first [] none = refl
none_listed space container room first (None ∷ table) none = let rest = none_listed space container room (suc first) table (λ i s here. none (suc i) s here) in omega (arith, rest)
none_listed space container room first (Some s ∷ table) none =
    let other : s.container ≢ container = none 0 s refl in
    let f : (s.container == container) ≡ false = grind (arith, nat_tests) in
    let here : charge_listed space container room first (Some s) ≡ 0 = rw f refl in
    let rest = none_listed space container room (suc first) table (λ i t there. none (suc i) t there) in
    omega (arith, here, rest)

-- a series without places costs nothing
placeless : (space : Directory) (container room slot : ℕ) (o : Option SeriesDef) → places_of slot space ≡ [] → charge_listed space container room slot o ≡ 0
placeless space container room slot None none = refl
placeless space container room slot (Some s) none = cost (s.container == container) where
  cost : (b : Bool) → (if b then places_charge room s.regular (places_of slot space) else 0) ≡ 0
  cost true = ap (places_charge room s.regular) none ∙ nothing_charged room s.regular
  cost false = refl

pub same_places : (space space' : Directory) (container room slot : ℕ) (o : Option SeriesDef) → places_of slot space' ≡ places_of slot space → charge_listed space' container room slot o ≡ charge_listed space container room slot o
same_places space space' container room slot None same = refl
same_places space space' container room slot (Some s) same = ap (λ (ps : List Place). if s.container == container then places_charge room s.regular ps else 0) same

-- one series that is made or dropped, and has no place then
series_charges : (d : Definitions) (space space' : Directory) (slot : ℕ) (o : Option SeriesDef) → IsDefinitions d → places_of slot space' ≡ [] → ((t : ℕ) → t < 4096 → t ≢ slot → places_of t space' ≡ places_of t space) → (k room : ℕ)
    → container_charge (record d { series = set d.series slot o }) space' k room ≤ container_charge d space k room
series_charges d space space' slot o rules none others k room =
    charges_less space space' k room 0 (set d.series slot o) d.series (length-set d.series slot o) (λ j low. elim (cases_eq j slot) [
      | inl same ↦
          let at : 0 + j ≡ slot = omega (arith, same) in
          let nothing = placeless space' k room (0 + j) (at_slot j (set d.series slot o)) (ap (λ (n : ℕ). places_of n space') at ∙ none) in
          omega (arith, nothing)
      | inr other ↦
          let at : 0 + j ≡ j = omega arith in
          let stays = same_places space space' k room (0 + j) (at_slot j (set d.series slot o)) (ap (λ (n : ℕ). places_of n space') at ∙ others j (omega (arith, low, rules.series.size)) other ∙ ap (λ (n : ℕ). places_of n space) (sym at)) in
          let def = ap (charge_listed space k room (0 + j)) (get_or-set_other d.series slot j o None other) in
          omega (arith, stays, def)
    ])

pub series_quotas : (d : Definitions) (space space' : Directory) (slot : ℕ) (o : Option SeriesDef) → IsDefinitions d → KeepQuotas d space → places_of slot space' ≡ [] → ((t : ℕ) → t < 4096 → t ≢ slot → places_of t space' ≡ places_of t space) → KeepQuotas (record d { series = set d.series slot o }) space'
series_quotas d space space' slot o rules kept none others k small c h there heading =
    let before = kept k small c h there heading in
    let less = series_charges d space space' slot o rules none others k (page_room h.columns) in
    omega (arith, before, less)

-- what containers are charged where a slot changes: no more, where a series that changes has no place
changed_less : (kind : Kind) (slot : ℕ) (o : Option Def) (d : Definitions) (space : Directory) (k room : ℕ) → IsDefinitions d → (kind ≡ kinds.Series → places_of slot space ≡ []) → container_charge (with_slot kind slot o d) space k room ≤ container_charge d space k room
changed_less kinds.RowType slot o d space k room rules none = omega arith
changed_less kinds.Pattern slot o d space k room rules none = omega arith
changed_less kinds.Calendar slot o d space k room rules none = omega arith
changed_less kinds.Container slot o d space k room rules none = omega arith
changed_less kinds.Series slot o d space k room rules none = series_charges d space space slot (option_and_then (from_def kinds.Series) o) rules (none refl) (λ t low other. refl) k room

-- how many pages a layout has
pages_are : (count : ℕ) (l : Layout) → count ≡ first_element_page + length l.element_pages → length l.element_pages ≡ count - first_element_page
pages_are count l size = omega (arith, size)

-- what is kept stays kept where a definition is made or dropped
module _ (l : Layout) (sound : IsSound l) (space : Directory) (free : List ℕ) (count : ℕ) (size : count ≡ first_element_page + length l.element_pages) (kept : AreKept l.definitions space free count) where
  rules_then : (d : Definitions) → AreSound (length l.element_pages) d → AreSound (count - first_element_page) d
  rules_then d rules = subst (λ (n : ℕ). AreSound n d) (pages_are count l size) rules

  -- an empty slot has no places
  empty_place : (slot : ℕ) → slot < 4096 → at_slot slot l.definitions.series ≡ None → places_of slot space ≡ []
  empty_place slot within empty = of_list (places_of slot space) (kept.placed.places slot within) where
    of_list : (ps : List Place) → All (IsPlaceIn l.definitions count slot) ps → ps ≡ []
    of_list [] each = refl
    of_list (p ∷ ps) each =
        let one = each 0 p (omega arith) in
        absurd (none≢some (heading_at l.definitions slot) one.heading (ap (option_and_then (λ (s : SeriesDef). heading_in l.definitions s.container)) empty) one.columns)

  changed_kept : (kind : Kind) (slot : ℕ) (o : Option Def) → slot < limit kind → (IsUsed kind slot l.definitions → ⊥) → (kind ≡ kinds.Series → (at_slot slot l.definitions.series ≡ None) × HasNoPage slot l.element_pages)
      → IsSound (layout_with kind slot o l) → AreKept (with_slot kind slot o l.definitions) space free count
  changed_kept kind slot o within unused pageless then_sound =
      let d' : Definitions = with_slot kind slot o l.definitions in
      let placeless : kind ≡ kinds.Series → places_of slot space ≡ [] = λ series. empty_place slot (subst (λ (k : Kind). slot < limit k) series within) (pageless series).0 in
      kept_defined l.definitions d' space free count kept (rules_then d' then_sound.definitions) (changed_columns kind slot o l sound unused pageless) (changed_shapes kind slot o l sound unused pageless)
      (λ k small c g there heading.
      let less = changed_less kind slot o l.definitions space k (page_room g.columns) sound.definitions.tables placeless in
      elim (filled_before kind slot o l sound unused pageless kinds.Container k c there) [
        | inl old ↦
            let before = kept.quotas k small c g old (sym (heading_stays kind slot o l sound unused pageless k c old) ∙ heading) in
            omega (arith, less, before)
        | inr new ↦
            let none = none_listed space k (page_room g.columns) 0 l.definitions.series (λ i s here same. no_series_stands kind slot o l sound unused pageless new.0 i s here (same ∙ new.1)) in
            omega (arith, less, none)
      ])

  pub made_kept : (slot : ℕ) (def : Def) → CanMake slot def l → AreKept (with_slot (kind_of def) slot (Some def) l.definitions) space free count
  made_kept slot def can = changed_kept (kind_of def) slot (Some def) can.fits.within (made_unused slot def l sound can) (made_pageless slot def l sound can) (made_sound slot def l sound can)

  pub dropped_kept : (kind : Kind) (slot : ℕ) (name : List ℕ) → CanDrop kind slot name l → AreKept (with_slot kind slot None l.definitions) space free count
  dropped_kept kind slot name can = changed_kept kind slot None (dropped_within kind slot name l sound can) can.unused (dropped_pageless kind slot name l sound can) (dropped_sound kind slot name l sound can)
