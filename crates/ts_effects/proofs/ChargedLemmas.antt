-- What containers are charged, by definitions and places that are the same, or of which one series changes.
use Rattle.std.proofs.Common.{◌≡◌, ◌≢◌, ℕ, ℤ, suc, ◌+◌, ◌<◌, ◌≤◌, ◌^◌, ◌==◌, if◌then◌else◌, Option, Some, None, List, [], ◌∷◌, length, set, get_or, slice_index_or, get_or-set_same, get_or-set_other, length-set, inl, inr, refl, sym, ap, ◌∙◌, subst, arith}
use Rattle.std.specs.Option.{option_map, unwrap_or}
use Rattle.std.proofs.lemmas.Bool.{cases_eq, cases_lt}
use Rattle.std.proofs.lemmas.List.{get_or_past}
use Rattle.ts_row.specs.Row.{Heading}
use Rattle.ts_space.specs.declared.place.Place.{Place}
use Rattle.ts_space.specs.declared.moved.Moved.{Moved}
use Rattle.ts_space.specs.Place.{IsRising}
use Rattle.ts_space.specs.Moved.{moved_to}
use Rattle.ts_space.specs.Directory.{Directory, places_of}
use Rattle.ts_cells.specs.IrregularPage.{page_room}
use Rattle.ts_model.specs.declared.kind.Kind.TheVariants as kinds
use Rattle.ts_model.specs.declared.def.Def.TheVariants as defs
use Rattle.ts_model.specs.Definitions.{Definitions, SeriesDef, at_slot, of_series}
use Rattle.ts_layout.specs.Meaning.{def_at, KeepLimits, heading_in}
use Rattle.ts_layout.specs.Charges.{IsCountable, AreCountable, places_charge, charges_listed, container_charge, charge_in}
use Rattle.ts_layout.specs.Placed.{AreKept}
use Rattle.ts_layout.proofs.CallerLemmas.{at_slot-map, quotas_countable}
use Rattle.ts_container.specs.KeptCharges.{AreCharges, AreFew, with_charge}
use Rattle.ts_container.proofs.RoomLemmas.{room_in}
use Rattle.ts_answer.specs.declared.effect.Effect.{Effect}
use Rattle.ts_answer.specs.declared.effect.Effect.TheVariants.{Places}
use Rattle.ts_answer.specs.CarriedOut.{definitions_after, lists_after}
use Rattle.ts_effects.specs.Charged.{CanCount, IsRateOf}
use Rattle.ts_effects.specs.declared.charge.Rate.{Rate}
use Rattle.ts_effects.specs.Applied.{CanCharge}

-- directories with the same places
module _ (space space' : Directory) (same : (t : ℕ) → places_of t space' ≡ places_of t space) where
  listed_alike : (container room first : ℕ) (table : List (Option SeriesDef)) → charges_listed space' container room first table ≡ charges_listed space container room first table
  listed_alike container room first [] = refl
  listed_alike container room first (None ∷ table) = ap (λ (n : ℕ). 0 + n) (listed_alike container room (suc first) table)
  listed_alike container room first (Some s ∷ table) =
      let rest = listed_alike container room (suc first) table in
      λ i. (if s.container == container then places_charge room s.regular (same first i) else 0) + rest i

  alike_in : (d : Definitions) (k : ℕ) (o : Option Heading) → unwrap_or (option_map (λ h. container_charge d space' k (page_room h.columns)) o) 0 ≡ unwrap_or (option_map (λ h. container_charge d space k (page_room h.columns)) o) 0
  alike_in d k None = refl
  alike_in d k (Some h) = listed_alike k (page_room h.columns) 0 d.series

-- charges stay right with the same lists and definitions
pub charges_same : (sums sums' : List ℕ) (d d' : Definitions) (space space' : Directory) → AreCharges sums d space → sums' ≡ sums → d' ≡ d → space'.lists ≡ space.lists → AreCharges sums' d' space'
charges_same sums sums' d d' space space' are same definitions lists slot below =
    ap (λ (xs : List ℕ). get_or xs slot 0) same ∙ are slot below
    ∙ sym (alike_in space space' (λ t. ap (λ (ls : List (List Place)). slice_index_or ls t []) lists) d slot (heading_in d slot)) ∙ ap (λ (x : Definitions). charge_in x space' slot) (sym definitions)

-- by what is kept in memory
pub can_count : (d : Definitions) (space : Directory) (free : List ℕ) (count : ℕ) → AreKept d space free count → CanCount d space.lists
can_count d space free count kept = record { limits = kept.sound.limits; rules = kept.sound.tables; countable = quotas_countable d space free count kept }

-- and stays so where nothing that counts changes
pub can_charge_then : (effect : Effect) (sums sums' : List ℕ) (d d' : Definitions) (space space' : Directory) → CanCharge effect sums d space → d' ≡ d → space'.lists ≡ space.lists → sums' ≡ sums → CanCharge effect sums' d' space'
can_charge_then effect sums sums' d d' space space' can definitions lists charges = record {
  charged = charges_same sums sums' d d' space space' can.charged charges definitions lists;
  few = λ slot below. subst (λ (n : ℕ). n ≤ 65536)
      (sym (ap (λ (x : Definitions). charge_in x space' slot) definitions
      ∙ alike_in space space' (λ t. ap (λ (ls : List (List Place)). slice_index_or ls t []) lists) d slot (heading_in d slot))) (can.few slot below);
  before = subst (λ (x : Definitions). CanCount x space'.lists) (sym definitions) (subst (λ (ls : List (List Place)). CanCount d ls) (sym lists) can.before);
  after = subst (λ (x : Definitions). CanCount (definitions_after effect x) (lists_after effect space'.lists)) (sym definitions)
      (subst (λ (ls : List (List Place)). CanCount (definitions_after effect d) (lists_after effect ls)) (sym lists) can.after);
  rising = subst (λ (ls : List (List Place)). (slot : ℕ) → slot < 4096 → IsRising (slice_index_or (lists_after effect ls) slot [])) (sym lists) can.rising;
}

-- the places of a series once an effect is applied that changes them
pub places_then : (effect : Effect) (slot : ℕ) (moved : Moved) (lists : List (List Place)) → effect ≡ Places slot moved → slot < 4096 → length lists ≡ 4096
    → slice_index_or (lists_after effect lists) slot [] ≡ moved_to moved (slice_index_or lists slot [])
places_then effect slot moved lists is within size =
    ap (λ (e : Effect). slice_index_or (lists_after e lists) slot []) is ∙ get_or-set_same lists slot (moved_to moved (slice_index_or lists slot [])) [] (omega (arith, within, size))

-- they are still few and rise
pub rising_then : (effect : Effect) (slot : ℕ) (moved : Moved) (sums : List ℕ) (d : Definitions) (space : Directory) → effect ≡ Places slot moved → slot < 4096 → length space.lists ≡ 4096 → CanCharge effect sums d space
    → IsRising (moved_to moved (places_of slot space))
rising_then effect slot moved sums d space is within size can = subst IsRising (places_then effect slot moved space.lists is within size) (can.rising slot within)

pub countable_then : (effect : Effect) (slot : ℕ) (moved : Moved) (sums : List ℕ) (d : Definitions) (space : Directory) → effect ≡ Places slot moved → slot < 4096 → length space.lists ≡ 4096 → CanCharge effect sums d space
    → IsCountable (moved_to moved (places_of slot space))
countable_then effect slot moved sums d space is within size can =
    subst IsCountable (places_then effect slot moved space.lists is within size) (can.after.countable slot within)

-- what holds of the places of each series holds once one has others of which it holds
each_after : (P : List Place → Type 0) (lists : List (List Place)) (slot : ℕ) (ps : List Place) → P [] → ((t : ℕ) → t < 4096 → P (slice_index_or lists t [])) → P ps → (t : ℕ) → t < 4096 → P (slice_index_or (set lists slot ps) t [])
each_after P lists slot ps none each one t within =
    elim (cases_eq t slot) [
      | inl is ↦
          elim (cases_lt slot (length lists)) [
            | inl inside ↦ subst P (sym (ap (λ (i : ℕ). get_or (set lists slot ps) i []) is ∙ get_or-set_same lists slot ps [] inside)) one
            | inr past ↦ subst P (sym (get_or_past (set lists slot ps) t [] (omega (arith, is, past, length-set lists slot ps)))) none
          ]
      | inr other ↦ subst P (sym (get_or-set_other lists slot t ps [] other)) (each t within)
    ]

-- no series has too many elements or places then
pub countable_after : (space space' : Directory) (slot : ℕ) (ps : List Place) → space'.lists ≡ set space.lists slot ps → AreCountable space → IsCountable ps → AreCountable space'
countable_after space space' slot ps is each one =
    subst (λ (ls : List (List Place)). (t : ℕ) → t < 4096 → IsCountable (slice_index_or ls t [])) (sym is)
    (each_after IsCountable space.lists slot ps (omega arith) each one)

-- the places of every other series stay
pub others_same : (lists lists' : List (List Place)) (slot : ℕ) (ps : List Place) → lists' ≡ set lists slot ps → (t : ℕ) → t < 4096 → t ≢ slot → slice_index_or lists' t [] ≡ slice_index_or lists t []
others_same lists lists' slot ps is t within other = ap (λ (ls : List (List Place)). get_or ls t []) is ∙ get_or-set_other lists slot t ps [] other

-- the series in a slot, as it is read
series_there : (o : Option SeriesDef) (key : List ℕ) (container : ℕ) (regular : Option (ℕ × ℤ)) → option_map of_series o ≡ Some (defs.Series key container regular) → o ≡ Some (record { key = key; container = container; regular = regular })
series_there None key container regular is = absurd (cc)
series_there (Some s) key container regular is =
    let keys : s.key ≡ key = cc in
    let containers : s.container ≡ container = cc in
    let lies : s.regular ≡ regular = cc in
    λ i. Some (record { key = keys i; container = containers i; regular = lies i })

pub rate_is : (d : Definitions) (slot : ℕ) (key : List ℕ) (rate : Rate) (h : Heading) → def_at kinds.Series slot d ≡ Some (defs.Series key rate.container rate.regular) → rate.container < 64 → Some h ≡ heading_in d rate.container → rate.room ≡ page_room h.columns → IsRateOf slot d rate
rate_is d slot key rate h there below heading size = record {
  series = record { key = key; container = rate.container; regular = rate.regular };
  heading = h;
  there = series_there (at_slot slot d.series) key rate.container rate.regular (sym (at_slot-map of_series slot d.series) ∙ there);
  container = refl;
  regular = refl;
  below = below;
  has = sym heading;
  room = sym size;
}

-- a page has room for one element at least
pub room_is : (d : Definitions) → KeepLimits d → (slot : ℕ) (rate : Rate) → IsRateOf slot d rate → 0 < rate.room
room_is d limits slot rate is = subst (λ (n : ℕ). 0 < n) is.room (room_in d limits rate.container is.heading is.below (sym is.has))

-- a sum and what one series costs fit their type
pub sum_fits : (d : Definitions) (space : Directory) (sums : List ℕ) (container more : ℕ) → container < 64 → AreCharges sums d space → AreFew d space → more < 2 ^ 33 → get_or sums container 0 + more < 2 ^ 64
sum_fits d space sums container more below are few small =
    let is = are container below in
    let little = few container below in
    omega (arith, is, little, small)

-- a series is charged anew where its container's sum changes by what it costs
module _ (d : Definitions) (space space' : Directory) (slot : ℕ) (rate : Rate) (is : IsRateOf slot d rate) (sums : List ℕ) where
  -- what it costs by its rate
  its_charge : (ps : List Place) → places_charge (page_room is.heading.columns) is.series.regular ps ≡ places_charge rate.room rate.regular ps
  its_charge ps i = places_charge (is.room i) (is.regular i) ps

  pub charged_then : (old new : ℕ) (sums' : List ℕ) → old ≡ places_charge rate.room rate.regular (places_of slot space) → new ≡ places_charge rate.room rate.regular (places_of slot space') → sums' ≡ with_charge rate.container old new sums
      → AreCharges (with_charge is.series.container (places_charge (page_room is.heading.columns) is.series.regular (places_of slot space)) (places_charge (page_room is.heading.columns) is.series.regular (places_of slot space')) sums) d space' → AreCharges sums' d space'
  charged_then old new sums' before after changed charged =
      let same = (λ i. with_charge (is.container i) ((its_charge (places_of slot space) ∙ sym before) i) ((its_charge (places_of slot space') ∙ sym after) i) sums) ∙ sym changed in
      subst (λ (ss : List ℕ). AreCharges ss d space') same charged
