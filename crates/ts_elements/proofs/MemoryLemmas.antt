-- What is kept in memory of a series and its container, whatever the pages hold, and where its places change.
use Rattle.std.proofs.Common.{◌≡◌, ℕ, ℤ, zero, suc, ◌+◌, ◌<◌, ◌≤◌, Option, Some, None, List, [], ◌∷◌, length, sum_by, get_or, set, get_or-set_same, get_or-set_other, refl, ap, sym, ◌∙◌, subst, arith}
use Rattle.std.specs.Option.{option_map, unwrap_or}
use Rattle.std.proofs.lemmas.List.Sums.{sum_by-cons}
use Rattle.ts_page.specs.Pages.{Contents}
use Rattle.ts_row.specs.declared.kind.Column.{Column}
use Rattle.ts_row.specs.Row.{Heading}
use Rattle.ts_space.specs.declared.place.Place.{Place}
use Rattle.ts_space.specs.Directory.{Directory, places_of}
use Rattle.ts_cells.specs.IrregularPage.{page_room}
use Rattle.ts_offset.specs.declared.shape.Shape.{Shape}
use Rattle.ts_offset.specs.declared.shape.Shape.TheVariants.{Irregular, Regular}
use Rattle.ts_model.specs.declared.kind.Kind.TheVariants as kinds
use Rattle.ts_model.specs.declared.def.Def.{Def}
use Rattle.ts_model.specs.Definitions.{Definitions, ContainerDef, SeriesDef, of_container, at_slot}
use Rattle.ts_layout.specs.Meaning.{IsSlotOf, def_at, grid_in, shape_of, shape_at, heading_in, heading_at, heading_of_container}
use Rattle.ts_layout.specs.Sheets.{room_of}
use Rattle.ts_layout.specs.Charges.{places_charge, container_charge}
use Rattle.ts_layout.specs.Placed.{AreMoved}
use Rattle.ts_layout.proofs.CallerLemmas.{one_of, chained, at_slot-map}
use Rattle.ts_answer.specs.Slots.{IsSlotNamed}
use Rattle.ts_answer.specs.View.{View, KeepsRules}
use Rattle.ts_shelf.specs.Shelf.{IsSeries}
use Rattle.ts_shelf.proofs.LawLemmas.{apart, charges}
use Rattle.ts_shelf.proofs.SeenLemmas.{shape_there}
use Rattle.ts_shelf.proofs.MemoryLemmas.{container_within, series_kept}
use Rattle.ts_elements.specs.Elements.{AreFew}
use Rattle.ts_elements.specs.Room.{IsBudget}
use Rattle.ts_elements.specs.Stamps.{charge_by}
use Rattle.ts_elements.proofs.LawLemmas.{kept_same}

-- the directory in which a series has these places
abbrev pub with_places : ℕ → List Place → Directory → Directory
with_places slot places space = record space { lists = set space.lists slot places }

-- no list of a directory is longer than all together
one_list_fits : (lists : List (List Place)) (slot : ℕ) → length (get_or lists slot []) ≤ sum_by (λ ps. length ps) lists
one_list_fits [] slot = omega arith
one_list_fits (ps ∷ lists) zero =
    let first = sum_by-cons (λ (ps : List Place). length ps) ps lists in
    omega (arith, first)
one_list_fits (ps ∷ lists) (suc slot) =
    let first = sum_by-cons (λ (ps : List Place). length ps) ps lists in
    let rest = one_list_fits lists slot in
    omega (arith, first, rest)

-- what a series of a shape is charged by its places
regular_charge : {A : Type 0} (f : A → Shape) (is : (a : A) (columns : List Column) (places : List Place) → charge_by (f a) columns places ≡ length places) (o : Option A) (shape : Shape) → option_map f o ≡ Some shape → (columns : List Column) (places : List Place)
    → length places ≡ charge_by shape columns places
regular_charge f is None shape lies columns places = absurd (cc)
regular_charge f is (Some a) shape lies columns places =
    let same : f a ≡ shape = cc in
    sym (is a columns places) ∙ ap (λ (z : Shape). charge_by z columns places) same

pub charge_same : (d : Definitions) (regular : Option (ℕ × ℤ)) (shape : Shape) → shape_of d regular ≡ Some shape → (columns : List Column) (places : List Place) → places_charge (page_room columns) regular places ≡ charge_by shape columns places
charge_same d None shape lies columns places =
    let same : Irregular ≡ shape = cc in
    ap (λ (z : Shape). charge_by z columns places) same
charge_same d (Some regular) shape lies columns places = regular_charge Regular (λ grid columns places. refl) (grid_in d regular) shape lies columns places

module _ (x : View) (kept : KeepsRules x) where
  -- no container is charged more pages than a volume has
  quota_few : (slot : ℕ) (c : ContainerDef) → slot < 64 → at_slot slot x.definitions.containers ≡ Some c → c.quota ≤ 65536
  quota_few slot c within there =
      let container : def_at kinds.Container slot x.definitions ≡ Some (of_container c) = at_slot-map of_container slot x.definitions.containers ∙ ap (option_map of_container) there in
      (let P : Option Def → Type 0 = IsSlotOf x.definitions.format kinds.Container in subst P container (kept.sound.limits.each kinds.Container slot within)).1.most

  few_in : (slot : ℕ) → slot < 64 → (o : Option Heading) → heading_in x.definitions slot ≡ o → unwrap_or (option_map (λ h. container_charge x.definitions x.space slot (page_room h.columns)) o) 0 ≤ 65536
  few_in slot within None is = omega arith
  few_in slot within (Some h) is =
      let c = chained (heading_of_container x.definitions) (at_slot slot x.definitions.containers) h is in
      let quota = kept.quotas slot within c.0 h c.1 c.2 in
      let few = quota_few slot c.0 within c.1 in
      omega (arith, quota, few)

  pub few_kept : AreFew x.definitions x.space
  few_kept slot within = few_in slot within (heading_in x.definitions slot) refl

  -- a series has no more places than there are pages
  pub few_places : (slot : ℕ) → length (places_of slot x.space) ≤ 65536
  few_places slot =
      let few = one_list_fits x.space.lists slot in
      let all = kept.placed.all in
      let most = kept.most in
      omega (arith, few, all, most)

  module _ (slot : ℕ) (within : slot < 4096) where
    module _ (h : Heading) (columns : heading_at x.definitions slot ≡ Some h) where
      -- its container is charged its quota at most
      pub paid_in : (s : SeriesDef) (c : ContainerDef) → IsSeries slot s c h x.definitions → container_charge x.definitions x.space s.container (page_room h.columns) ≤ c.quota
      paid_in s c is = kept.quotas s.container (container_within x kept slot within h columns s c is) c h is.container is.heading

      module _ (shape : Shape) (lies : shape_at x.definitions slot ≡ Some shape) where
        module _ (s : SeriesDef) (c : ContainerDef) (is : IsSeries slot s c h x.definitions) (new : List Place) where
          abbrev q : ℕ
          q = page_room h.columns

          slots : length x.space.lists ≡ 4096
          slots = kept.placed.slots

          now : places_of slot (with_places slot new x.space) ≡ new
          now = get_or-set_same x.space.lists slot new [] (omega (arith, within, slots))

          charge_is : (places : List Place) → places_charge q s.regular places ≡ charge_by shape h.columns places
          charge_is places = charge_same x.definitions s.regular shape (shape_there x.definitions slot s shape is.there lies) h.columns places

          changes : container_charge x.definitions (with_places slot new x.space) s.container q + charge_by shape h.columns (places_of slot x.space) ≡ container_charge x.definitions x.space s.container q + charge_by shape h.columns new
          changes =
              let own = charges.own x.definitions x.space (with_places slot new x.space) slot s q kept.sound.tables is.there (λ t below other. get_or-set_other x.space.lists slot t new [] other) in
              let before = charge_is (places_of slot x.space) in
              let after = ap (places_charge q s.regular) now ∙ charge_is new in
              omega (arith, own, before, after)

          -- where it costs no more, its container is charged no more
          pub pays_less : charge_by shape h.columns new ≤ charge_by shape h.columns (places_of slot x.space) → container_charge x.definitions (with_places slot new x.space) s.container q ≤ c.quota
          pays_less less = let change = changes in let paid = paid_in s c is in omega (arith, change, paid, less)

          -- where it costs what there is room for, no more than the quota
          pub pays_within : (others quota pages : ℕ) → IsBudget slot s c h x.definitions x.space others quota → others + pages ≤ quota → charge_by shape h.columns new ≤ pages → container_charge x.definitions (with_places slot new x.space) s.container q ≤ c.quota
          pays_within others quota pages budget left fits =
              let change = changes in
              let all = budget.all in
              let own = charge_is (places_of slot x.space) in
              let same = budget.quota_is in
              omega (arith, change, all, own, same, left, fits)

        -- the rules are kept where its places change and its container is charged its quota at most
        pub rules_after : (key : List ℕ) → IsSlotNamed kinds.Series slot key x.definitions → (new : List Place) (w : Contents) → AreMoved (room_of shape h.columns) (places_of slot x.space) new x.pages w → w.count ≡ x.pages.count
            → ((s : SeriesDef) (c : ContainerDef) → IsSeries slot s c h x.definitions → container_charge x.definitions (with_places slot new x.space) s.container (page_room h.columns) ≤ c.quota)
            → KeepsRules (record { definitions = x.definitions; space = with_places slot new x.space; pages = w })
        rules_after key named new w moved count pays =
            let on = series_kept x kept slot within key named in
            let heads : on.h ≡ h = one_of (heading_at x.definitions slot) on.h h on.columns columns in
            let is : IsSeries slot on.s on.c h x.definitions = subst (λ (y : Heading). IsSeries slot on.s on.c y x.definitions) heads on.is in
            let after = apart.kept x.definitions x.space (with_places slot new x.space) x.pages.count slot on.s on.c h shape new x.pages w kept within is.there is.container is.heading lies refl moved (pays on.s on.c is) in
            kept_same x.definitions x.definitions (with_places slot new x.space) (with_places slot new x.space) w.free w.free x.pages.count w.count after refl refl refl count
