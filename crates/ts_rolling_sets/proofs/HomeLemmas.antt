-- The container of a series that is kept in memory, and the windows in it.
use Rattle.std.proofs.Common.{◌≡◌, ℕ, ◌<◌, Option, Some, None, Result, Ok, Err, IsSome, IfSome, IfOk, IfErr, IsErrAnd, EachIndex, slice_index, List, [], ◌∷◌, zero, suc, length, refl, ap, sym, ◌∙◌, subst, arith}
use Rattle.std.specs.Option.{option_map}
use Rattle.std.specs.List.{AllByRecursion}
use Rattle.std.proofs.lemmas.List.{length-map}
use Rattle.ts_base.specs.declared.fault.Trouble.{Trouble}
use Rattle.ts_base.specs.declared.fault.Trouble.TheVariants.{Refused, Memory}
use Rattle.ts_base.specs.Answer.{Fails}
use Rattle.ts_offset.specs.Grid.{GridPlan}
use Rattle.ts_model.specs.declared.kind.Kind.TheVariants as kinds
use Rattle.ts_model.specs.declared.def.Def.{Def}
use Rattle.ts_model.specs.declared.def.Def.TheVariants as defs
use Rattle.ts_model.specs.Catalogue.{Series, Catalogue}
use Rattle.ts_model.specs.Definitions.{Definitions, SeriesDef, ContainerDef, IsDefinitions, of_series, of_container, at_slot, slots, slot_of}
use Rattle.ts_layout.specs.Meaning.{Layout, IsSound, AreThere, catalogue_of}
use Rattle.ts_layout.proofs.CallerLemmas.{one_of, own, at_slot-map, container_of_series}
use Rattle.ts_answer.specs.Answer.{Tried}
use Rattle.ts_answer.specs.Slots.{IsSlotNamed, Stands}
use Rattle.ts_answer.specs.Tried.{IsRefusedAs}
use Rattle.ts_answer.specs.View.{View, IsViewOf, KeepsRules}
use Rattle.ts_rolling.specs.Sets.{a_plan, planned, windows, live}
use Rattle.ts_rolling.proofs.PlanLemmas.{all_going}
use Rattle.ts_shelf.proofs.SeenLemmas.{SeriesIn}
use Rattle.ts_shelf.proofs.MemoryLemmas.{bare_of, bare_rules, series_kept}
use Rattle.ts_rolling_sets.specs.declared.live.KeptBy.{KeptBy}
use Rattle.ts_rolling_sets.specs.InMemory.{IsKeyIn, live_in}
use Rattle.ts_rolling_sets.proofs.OrderLemmas.{live_same, live_in_few, each_few}

-- an error says this, by another call's error
pub err_says : {A E : Type 0} (r : Result A E) (e : E) (Q : E → Type 0) → IsErrAnd r (λ x. x ≡ e) → Q e → IfErr r Q
err_says (Ok a) e Q is holds = absurd is
err_says (Err x) e Q is holds = subst Q (sym is) holds

-- a call that fails for an answer refuses as it
pub fails_as : {A : Type 0} (trouble : Trouble) (answer tried : Tried A) → answer ≡ tried → Fails answer trouble → IsRefusedAs trouble tried
fails_as (Refused refusal) answer tried same fails = sym same ∙ fails
fails_as (Memory error) answer tried same fails = tt

-- a container is found by its name in the slot to which a series refers
home_named : (l : Layout) (slot : ℕ) (s : SeriesDef) → IsSound l → at_slot slot l.definitions.series ≡ Some s → (c : ContainerDef) → at_slot s.container l.definitions.containers ≡ Some c
    → slot_of c.name (slots kinds.Container l.definitions) ≡ Some s.container
home_named l slot s rules here c there =
    let found = container_of_series l slot s rules here in
    let same : found.0 ≡ c = one_of (at_slot s.container l.definitions.containers) found.0 c found.1.there there in
    subst (λ (n : List ℕ). slot_of n (slots kinds.Container l.definitions) ≡ Some s.container) (sym found.1.its_name ∙ ap (λ (y : ContainerDef). y.name) same) found.1.named

-- what stands in a slot of a table
pub within_table : {A : Type 0} (table : List (Option A)) (n : ℕ) (a : A) → at_slot n table ≡ Some a → n < length table
within_table [] n a here = absurd (cc)
within_table (t ∷ table) zero a here = omega arith
within_table (t ∷ table) (suc n) a here = let rest = within_table table n a here in omega (arith, rest)

pub some_there : {A : Type 0} (o : Option A) → IsSome o → (a : A) × (o ≡ Some a)
some_there None some = absurd (cc)
some_there (Some a) some = (a, refl)

some_mapped : {A B : Type 0} (f : A → B) (o : Option A) → IsSome (option_map f o) → IsSome o
some_mapped f None some = absurd (cc)
some_mapped f (Some a) some = refl

-- a definition of a series, and of a container, by what stands in the slot
pub series_as : (d : Definitions) (slot : ℕ) → IsSome (at_slot slot d.series) → (s : SeriesDef) × (at_slot slot d.series ≡ Some s) × (at_slot slot (slots kinds.Series d) ≡ Some (of_series s))
series_as d slot some =
    let there = some_there (at_slot slot d.series) some in
    (there.0, there.1, at_slot-map of_series slot d.series ∙ ap (option_map of_series) there.1)

pub container_as : (d : Definitions) (slot : ℕ) → IsSome (at_slot slot d.containers) → (c : ContainerDef) × (at_slot slot d.containers ≡ Some c) × (at_slot slot (slots kinds.Container d) ≡ Some (of_container c))
container_as d slot some =
    let there = some_there (at_slot slot d.containers) some in
    (there.0, there.1, at_slot-map of_container slot d.containers ∙ ap (option_map of_container) there.1)

-- the container of a series that was read
pub container_is : (d : Definitions) (slot : ℕ) (key : List ℕ) (holder : ℕ) (regular : _) → at_slot slot (slots kinds.Series d) ≡ Some (defs.Series key holder regular) → IfSome (at_slot slot d.series) (λ s. s.container ≡ holder)
container_is d slot key holder regular is =
    let found = own of_series slot d.series (defs.Series key holder regular) is in
    let def = found.2 in
    let same : found.0.container ≡ holder = cc in
    subst (λ (o : Option SeriesDef). IfSome o (λ s. s.container ≡ holder)) (sym found.1) same

-- and its key
pub key_is : (d : Definitions) (slot : ℕ) (key : List ℕ) (holder : ℕ) (regular : _) → at_slot slot (slots kinds.Series d) ≡ Some (defs.Series key holder regular) → IsKeyIn d slot key
key_is d slot key holder regular is =
    let found = own of_series slot d.series (defs.Series key holder regular) is in
    let def = found.2 in
    let same : found.0.key ≡ key = cc in
    ap (option_map (λ (s : SeriesDef). s.key)) found.1 ∙ ap Some same

pub key_there : (d : Definitions) (slot : ℕ) (key : List ℕ) (found : Option KeptBy) → IfSome found (λ o. (o.slot ≡ slot) × (o.key.now ≡ key)) → IsKeyIn d slot key → IfSome found (λ o. IsKeyIn d o.slot o.key.now)
key_there d slot key None own is = tt
key_there d slot key (Some o) own is = ap (λ (n : ℕ). option_map (λ (s : SeriesDef). s.key) (at_slot n d.series)) own.0 ∙ is ∙ ap Some (sym own.1)

pub name_is : (d : Definitions) (slot : ℕ) (name : List ℕ) (row_type quota : ℕ) → at_slot slot (slots kinds.Container d) ≡ Some (defs.Container name row_type quota) → IfSome (at_slot slot d.containers) (λ c. c.name ≡ name)
name_is d slot name row_type quota is =
    let found = own of_container slot d.containers (defs.Container name row_type quota) is in
    let def = found.2 in
    let same : found.0.name ≡ name = cc in
    subst (λ (o : Option ContainerDef). IfSome o (λ c. c.name ≡ name)) (sym found.1) same

-- the container to which a series refers is there
pub holder_there : (d : Definitions) → IsDefinitions d → AreThere d → (slot : ℕ) → slot < 4096 → IsSome (at_slot slot d.series) → (holder : ℕ) → IfSome (at_slot slot d.series) (λ s. s.container ≡ holder)
    → (holder < 64) × IsSome (at_slot holder d.containers)
holder_there d tables rules slot within some holder owned =
    let found = series_as d slot some in
    let same : found.0.container ≡ holder = subst (λ (o : Option SeriesDef). IfSome o (λ s. s.container ≡ holder)) found.1 owned in
    let refers = rules kinds.Series slot (of_series found.0) within found.2 in
    let here : IsSome (at_slot holder d.containers) =
    some_mapped of_container (at_slot holder d.containers) (subst (λ (o : Option Def). IsSome o) (ap (λ (n : ℕ). at_slot n (slots kinds.Container d)) same ∙ at_slot-map of_container holder d.containers) refers.0) in
    let there = some_there (at_slot holder d.containers) here in
    let below = within_table d.containers holder there.0 there.1 in
    let size = tables.containers.size in
    (omega (arith, below, size), here)

-- a series of a key that is kept in memory
module _ (x : View) (kept : KeepsRules x) (slot : ℕ) (key : List ℕ) (named : IsSlotNamed kinds.Series slot key x.definitions) where
  abbrev on : SeriesIn (bare_of x) key slot
  on = series_kept x kept slot named.within key named

  pub series_filled : IsSome (at_slot slot x.definitions.series)
  series_filled = subst (λ (o : Option SeriesDef). IsSome o) (sym on.is.there) refl

  module _ (holder : ℕ) (own : IfSome (at_slot slot x.definitions.series) (λ s. s.container ≡ holder)) where
    pub home_slot : on.s.container ≡ holder
    home_slot = subst (λ (o : Option SeriesDef). IfSome o (λ s. s.container ≡ holder)) on.is.there own

    -- the container's name leads to its slot
    pub home_found : (name : List ℕ) → IfSome (at_slot holder x.definitions.containers) (λ c. c.name ≡ name) → slot_of name (slots kinds.Container x.definitions) ≡ Some holder
    home_found name its =
        let there : at_slot holder x.definitions.containers ≡ Some on.c = ap (λ (n : ℕ). at_slot n x.definitions.containers) (sym home_slot) ∙ on.is.container in
        let is : on.c.name ≡ name = subst (λ (o : Option ContainerDef). IfSome o (λ c. c.name ≡ name)) there its in
        subst (λ (n : List ℕ). slot_of n (slots kinds.Container x.definitions) ≡ Some holder) is (home_named (bare_of x) slot on.s (bare_rules x kept) on.is.there on.c on.is.container ∙ ap Some home_slot)

-- the windows of a container are live in each layout that is held
module _ (x : View) (l : Layout) (held : IsViewOf x l) where
  pub live_seen : (set name : List ℕ) (holder : ℕ) → slot_of name (slots kinds.Container x.definitions) ≡ Some holder → live set name (catalogue_of l) ≡ live_in x.definitions set holder
  live_seen set name holder is =
      live_same l set name holder held.rules (ap (λ (d : Definitions). slot_of name (slots kinds.Container d)) (sym held.definitions) ∙ is)
      ∙ ap (λ (d : Definitions). live_in d set holder) (sym held.definitions)

  -- and the series stands in that container
  pub container_seen : (key : List ℕ) (slot holder : ℕ) (name : List ℕ) (series : Series) → IfSome (at_slot slot x.definitions.series) (λ s. s.container ≡ holder) → IfSome (at_slot holder x.definitions.containers) (λ c. c.name ≡ name)
      → Stands kinds.Series key l slot series → series.container ≡ name
  container_seen key slot holder name series own its stands =
      let s = stands.is.0 in
      let here : at_slot slot l.definitions.series ≡ Some s = stands.is.1 in
      let found = container_of_series l slot s held.rules here in
      let same : s.container ≡ holder = subst (λ (o : Option SeriesDef). IfSome o (λ y. y.container ≡ holder)) (ap (λ (d : Definitions). at_slot slot d.series) held.definitions ∙ here) own in
      let there : at_slot holder l.definitions.containers ≡ Some found.0 = ap (λ (n : ℕ). at_slot n l.definitions.containers) (sym same) ∙ found.1.there in
      let is : found.0.name ≡ name = subst (λ (o : Option ContainerDef). IfSome o (λ c. c.name ≡ name)) (ap (λ (d : Definitions). at_slot holder d.containers) held.definitions ∙ there) its in
      ap (λ (y : Series). y.container) stands.is.2 ∙ sym found.1.its_name ∙ is

-- each of all
pub each_window : (js : List ℕ) → AllByRecursion (λ j. j < 1_000_000_000_000) js → EachIndex js (λ k. slice_index js k < 1_000_000_000_000)
each_window js all k within = each_few js all k within

-- the windows of a set in memory
module _ (x : View) (kept : KeepsRules x) (set name : List ℕ) (holder : ℕ) (is : slot_of name (slots kinds.Container x.definitions) ≡ Some holder) where
  pub few_live : (js : List ℕ) → js ≡ live_in x.definitions set holder → EachIndex js (λ k. slice_index js k < 1_000_000_000_000)
  few_live js same = each_window js (subst (AllByRecursion (λ j. j < 1_000_000_000_000)) (sym same) (live_in_few x kept set name holder is))

  pub few_going : (g : GridPlan) (n : ℕ) (js : List ℕ) (stamp : _) (window : ℕ) (attach : _) (purge : List ℕ) → js ≡ live_in x.definitions set holder → planned g n js stamp ≡ Ok (a_plan window attach purge)
      → EachIndex purge (λ k. slice_index purge k < 1_000_000_000_000)
  few_going g n js stamp window attach purge same plan =
      each_window purge (all_going (λ j. j < 1_000_000_000_000) g n js stamp (a_plan window attach purge) plan (subst (AllByRecursion (λ j. j < 1_000_000_000_000)) (sym same) (live_in_few x kept set name holder is)))

-- windows are as many as their numbers
pub as_many : (set name : List ℕ) (cat : Catalogue) → length (windows set name cat) ≡ length (live set name cat)
as_many set name cat = sym (length-map (windows set name cat) (λ (w : ℕ × Series). w.0))

-- what holds of a call's answer, taken further
pub ok_more : {A E : Type 0} (r : Result A E) (P Q : A → Type 0) → IfOk r P → ((a : A) → P a → Q a) → IfOk r Q
ok_more (Ok a) P Q is further = further a is
ok_more (Err e) P Q is further = tt

pub ok_both : {A E : Type 0} (r : Result A E) (P R Q : A → Type 0) → IfOk r P → IfOk r R → ((a : A) → P a → R a → Q a) → IfOk r Q
ok_both (Ok a) P R Q is other further = further a is other
ok_both (Err e) P R Q is other further = tt

pub err_more : {A E : Type 0} (r : Result A E) (P Q : E → Type 0) → IfErr r P → ((e : E) → P e → Q e) → IfErr r Q
err_more (Ok a) P Q is further = tt
err_more (Err e) P Q is further = further e is
