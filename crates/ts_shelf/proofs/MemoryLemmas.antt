-- What is kept in memory of a series, whatever the pages hold.
use Rattle.std.proofs.Common.{◌≡◌, ℕ, ◌-◌, ◌<◌, ◌^◌, Option, Some, IsSome, List, refl, ap, sym, ◌∙◌, subst, arith}
use Rattle.std.specs.Option.{option_map}
use Rattle.ts_row.specs.Row.{Heading}
use Rattle.ts_space.specs.Place.{count_of}
use Rattle.ts_space.specs.Directory.{places_of}
use Rattle.ts_cells.specs.IrregularPage.{page_room}
use Rattle.ts_page.specs.Pages.{first_element_page}
use Rattle.ts_offset.specs.declared.shape.Shape.{Shape}
use Rattle.ts_offset.specs.declared.shape.Shape.TheVariants.{Irregular, Regular}
use Rattle.ts_clip.specs.Series.{ArePlaces}
use Rattle.ts_model.specs.declared.kind.Kind.TheVariants as kinds
use Rattle.ts_model.specs.Definitions.{ContainerDef, SeriesDef, of_series, at_slot}
use Rattle.ts_layout.specs.Meaning.{Layout, IsSound, shape_at, heading_at}
use Rattle.ts_layout.specs.Charges.{IsCountable}
use Rattle.ts_layout.specs.Chains.{bare}
use Rattle.ts_layout.proofs.CallerLemmas.{one_of, series_limit, at_slot-map, room_some}
use Rattle.ts_answer.specs.Slots.{IsSlotNamed}
use Rattle.ts_answer.specs.View.{View, KeepsRules}
use Rattle.ts_shelf.specs.Shelf.{IsSeries}
use Rattle.ts_shelf.proofs.LawLemmas.{apart, bare_layouts, room_left}
use Rattle.ts_shelf.proofs.SeenLemmas.{SeriesIn, series_in_slot}

-- a layout without elements that has the definitions
abbrev pub bare_of : View → Layout
bare_of x = bare (x.pages.count - first_element_page) x.definitions

module _ (x : View) (kept : KeepsRules x) where
  pub bare_rules : IsSound (bare_of x)
  bare_rules = let some = kept.some in let most = kept.most in bare_layouts.rules (x.pages.count - first_element_page) x.definitions (omega (arith, some)) (omega (arith, most)) kept.sound

  -- so few places and elements that they can be counted
  pub countable_kept : (slot : ℕ) → slot < 4096 → IsCountable (places_of slot x.space)
  countable_kept = room_left.countable x.definitions x.space x.pages.free x.pages.count kept

  pub few_elements : (slot : ℕ) → slot < 4096 → count_of (places_of slot x.space) < 2 ^ 32
  few_elements slot within = let countable = countable_kept slot within in omega (arith, countable)

  module _ (slot : ℕ) (within : slot < 4096) where
    -- a series that is found has columns
    pub series_kept : (key : List ℕ) → IsSlotNamed kinds.Series slot key x.definitions → SeriesIn (bare_of x) key slot
    series_kept key named = series_in_slot (bare_of x) key slot bare_rules named

    pub defined_kept : (key : List ℕ) → IsSlotNamed kinds.Series slot key x.definitions → IsSome (heading_at x.definitions slot)
    defined_kept key named = subst (λ (o : Option Heading). IsSome o) (sym (series_kept key named).columns) refl

    pub shaped_kept : (key : List ℕ) → IsSlotNamed kinds.Series slot key x.definitions → IsSome (shape_at x.definitions slot)
    shaped_kept key named = subst (λ (o : Option Shape). IsSome o) (sym (series_kept key named).lies) refl

    module _ (h : Heading) (columns : heading_at x.definitions slot ≡ Some h) where
      -- its places are such as an edit asks for
      pub places_seen : (shape : Shape) → shape_at x.definitions slot ≡ Some shape → ArePlaces shape h.columns x.pages (places_of slot x.space)
      places_seen Irregular lies = apart.irregular x.definitions x.space x.pages slot h kept.placed within columns lies
      places_seen (Regular grid) lies = apart.regular x.definitions x.space x.pages slot h grid kept.placed within columns lies

      -- its container has a slot
      pub container_within : (s : SeriesDef) (c : ContainerDef) → IsSeries slot s c h x.definitions → s.container < 64
      container_within s c is =
          series_limit x.definitions kept.sound.limits slot within s.key s.container s.regular (at_slot-map of_series slot x.definitions.series ∙ ap (option_map of_series) is.there)

      -- a page has room for an element
      pub room_in : (key : List ℕ) → IsSlotNamed kinds.Series slot key x.definitions → 0 < page_room h.columns
      room_in key named =
          let on = series_kept key named in
          let heads : on.h ≡ h = one_of (heading_at x.definitions slot) on.h h on.columns columns in
          let is : IsSeries slot on.s on.c h x.definitions = subst (λ (y : Heading). IsSeries slot on.s on.c y x.definitions) heads on.is in
          room_some x.definitions kept.sound.limits on.s.container on.c h (container_within on.s on.c is) is.container is.heading
