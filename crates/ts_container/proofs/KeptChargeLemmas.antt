-- The sums of charges, where the places of one series change.
use Rattle.std.proofs.Common.{◌≡◌, ◌≢◌, ℕ, ◌+◌, ◌-◌, ◌<◌, ◌≤◌, ℤ, Option, Some, None, List, [], length, get_or, set, refl, sym, ap, ◌∙◌, arith, inl, inr, length-set, get_or-set_same, get_or-set_other}
use Rattle.std.specs.Option.{option_map, unwrap_or}
use Rattle.std.proofs.lemmas.Bool.{cases_eq, cases_lt}
use Rattle.std.proofs.lemmas.List.{get_or_past}
use Rattle.ts_row.specs.Row.{Heading}
use Rattle.ts_space.specs.declared.place.Place.{Place}
use Rattle.ts_space.specs.Directory.{Directory, places_of}
use Rattle.ts_cells.specs.IrregularPage.{page_room}
use Rattle.ts_model.specs.Definitions.{Definitions, SeriesDef, at_slot, with_format, IsDefinitions}
use Rattle.ts_layout.specs.Meaning.{heading_in}
use Rattle.ts_layout.specs.Charges.{places_charge, container_charge, charge_in}
use Rattle.ts_layout.proofs.CallerLemmas.{charge_own, charge_others, nothing_charged}
use Rattle.ts_container.specs.KeptCharges.{AreCharges, IsCharged, with_charge}

-- what a container of these columns is charged
charge_is : (d : Definitions) (space : Directory) (k : ℕ) (h : Heading) → heading_in d k ≡ Some h → charge_in d space k ≡ container_charge d space k (page_room h.columns)
charge_is d space k h is = ap (λ (o : Option Heading). unwrap_or (option_map (λ x. container_charge d space k (page_room x.columns)) o) 0) is

-- the directory without the places of a series
abbrev without : ℕ → Directory → Directory
without slot space = record space { lists = set space.lists slot [] }

no_place : (lists : List (List Place)) (slot : ℕ) → get_or (set lists slot []) slot [] ≡ []
no_place lists slot =
    elim (cases_lt slot (length lists)) [
      | inl within ↦ get_or-set_same lists slot [] [] within
      | inr past ↦ get_or_past (set lists slot []) slot [] (omega (arith, past, length-set lists slot []))
    ]

emptied : (room slot : ℕ) (regular : Option (ℕ × ℤ)) (space : Directory) → places_charge room regular (places_of slot (without slot space)) ≡ 0
emptied room slot regular space = ap (places_charge room regular) (no_place space.lists slot) ∙ nothing_charged room regular

-- what a series costs is part of what its container is charged
pub charge_part : (d : Definitions) (space : Directory) (slot : ℕ) (s : SeriesDef) (h : Heading) (sums : List ℕ) → IsDefinitions d → at_slot slot d.series ≡ Some s → s.container < 64 → heading_in d s.container ≡ Some h → AreCharges sums d space
    → places_charge (page_room h.columns) s.regular (places_of slot space) ≤ get_or sums s.container 0
charge_part d space slot s h sums rules there within heading are =
    let room : ℕ = page_room h.columns in
    let own = charge_own d (without slot space) space slot s room rules there (λ t below other. sym (get_or-set_other space.lists slot t [] [] other)) in
    let none : places_charge room s.regular (places_of slot (without slot space)) ≡ 0 = emptied room slot s.regular space in
    let is = are s.container within ∙ charge_is d space s.container h heading in
    omega (arith, own, none, is)

-- what a container is charged by a directory, where these are its columns, if it is there
abbrev charged : Definitions → Directory → ℕ → Option Heading → ℕ
charged d space k o = unwrap_or (option_map (λ h. container_charge d space k (page_room h.columns)) o) 0

others_same : (d : Definitions) (space space' : Directory) (slot k : ℕ) (s : SeriesDef) → IsDefinitions d → at_slot slot d.series ≡ Some s → ((t : ℕ) → t < 4096 → t ≢ slot → places_of t space' ≡ places_of t space) → k ≢ s.container
    → (o : Option Heading) → charged d space' k o ≡ charged d space k o
others_same d space space' slot k s rules there same other None = refl
others_same d space space' slot k s rules there same other (Some h) = charge_others d space space' slot s k (page_room h.columns) rules there same other

-- after a change of the places of a series the sums are right with its container's changed alike
pub charge_changed : (d : Definitions) (space space' : Directory) (slot : ℕ) (s : SeriesDef) (h : Heading) (sums : List ℕ) → IsDefinitions d → at_slot slot d.series ≡ Some s → s.container < 64 → heading_in d s.container ≡ Some h → length sums ≡ 64
    → ((t : ℕ) → t < 4096 → t ≢ slot → places_of t space' ≡ places_of t space) → AreCharges sums d space
    → AreCharges (with_charge s.container (places_charge (page_room h.columns) s.regular (places_of slot space)) (places_charge (page_room h.columns) s.regular (places_of slot space')) sums) d space'
charge_changed d space space' slot s h sums rules there within heading size same are k below =
    let room : ℕ = page_room h.columns in
    let old : ℕ = places_charge room s.regular (places_of slot space) in
    let new : ℕ = places_charge room s.regular (places_of slot space') in
    let c : ℕ = s.container in
    let v : ℕ = get_or sums c 0 + new - old in
    elim (cases_eq k c) [
      | inl is ↦
          let read : get_or (set sums c v) k 0 ≡ v = ap (λ (i : ℕ). get_or (set sums c v) i 0) is ∙ get_or-set_same sums c v 0 (omega (arith, within, size)) in
          let own = charge_own d space space' slot s room rules there same in
          let before = are c within ∙ charge_is d space c h heading in
          let value : v ≡ container_charge d space' c room = omega (arith, own, before) in
          read ∙ value ∙ sym (charge_is d space' c h heading) ∙ ap (charge_in d space') (sym is)
      | inr other ↦ get_or-set_other sums c k v 0 other ∙ are k below ∙ sym (others_same d space space' slot k s rules there same other (heading_in d k))
    ]

-- by definitions in another format
pub charged_in : (format : ℕ) (d : Definitions) (space : Directory) (sums : List ℕ) → IsCharged sums d space → IsCharged sums (with_format format d) space
unfolding IsCharged
charged_in format d space sums charged = charged
