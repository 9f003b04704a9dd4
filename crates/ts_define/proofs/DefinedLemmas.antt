-- A definition that is made, and one that is dropped.
use Rattle.std.proofs.Common.{◌≡◌, ℕ, ◌+◌, ◌≤◌, IsSome, is_some, Option, Some, None, List, length, inl, refl, ap, sym, subst, ◌∙◌}
use Rattle.std.specs.Option.{option_map, option_and_then}
use Rattle.ts_row.specs.Row.{Heading}
use Rattle.ts_model.specs.declared.kind.Kind.{Kind}
use Rattle.ts_model.specs.declared.kind.Kind.TheVariants as kinds
use Rattle.ts_model.specs.declared.def.Def.{Def}
use Rattle.ts_model.specs.Catalogue.{Catalogue, In, with_named, without}
use Rattle.ts_model.specs.Definitions.{Definitions, SeriesDef, KindDef, of_series, at_slot, kind_of, name_of, to_def, slots, slot_of, references}
use Rattle.ts_layout.specs.Meaning.{IsDef, Layout, IsSound, IsThere, catalogue_of, def_at, heading_in, sum_of_quotas, value_of}
use Rattle.ts_layout.specs.Changed.{granted, KeepsCalendarRules, HasOrigin, CanMake, CanDrop, HasNoPage}
use Rattle.ts_layout.specs.Chains.{AreFilled}
use Rattle.ts_layout.proofs.CallerLemmas.{made_sound, made_headings, made_kept, made_catalogue, dropped_sound, dropped_headings, dropped_kept, dropped_catalogue, at_slot-map, name_found, vacant_found}
use Rattle.ts_answer.specs.Answer.{Answered}
use Rattle.ts_answer.specs.Decided.{DefinesAs, FitsSlot, made_line}
use Rattle.ts_answer.specs.Reply.{ok_line}
use Rattle.ts_answer.specs.Slots.{IsFreeSlot}

-- something stands in the slot of a name
pub named_there : (kind : Kind) (l : Layout) (name : List ℕ) (slot : ℕ) → IsSound l → slot_of name (slots kind l.definitions) ≡ Some slot → IsSome (def_at kind slot l.definitions)
named_there kind l name slot rules is = ap is_some (name_found kind l name slot rules is).1.def

-- no page has elements of an empty slot
pub no_page : (slot : ℕ) (l : Layout) → AreFilled l → def_at kinds.Series slot l.definitions ≡ None → HasNoPage slot l.element_pages
no_page slot l filled empty i sheet is =
    let own = filled i slot sheet is in
    unheaded (at_slot slot l.definitions.series) (sym (at_slot-map of_series slot l.definitions.series) ∙ empty) (λ s. heading_in l.definitions s.container) own.heading own.columns
  where
    unheaded : (o : Option SeriesDef) → option_map of_series o ≡ None → (f : SeriesDef → Option Heading) (h : Heading) → option_and_then f o ≡ Some h → ⊥
    unheaded None empty f h is = cc
    unheaded (Some s) empty f h is = cc

-- a definition under a new name fits the slot for it
pub fits_free : (def : Def) (slot : ℕ) (name : List ℕ) (d : Definitions) → name_of def ≡ name → IsFreeSlot (kind_of def) slot name d → FitsSlot (kind_of def) slot (Some def) d
fits_free def slot name d same free = record {
  within = free.within;
  fits = refl;
  name = inl (subst (λ (n : List ℕ). slot_of n (slots (kind_of def) d) ≡ None) (sym same) free.new);
}

-- the same catalogue behind a line
says : (line : List ℕ) (cat other : Catalogue) → other ≡ cat → let a : Answered = (line, cat) in let b : Answered = (line, other) in a ≡ b
says line cat other same = ap (λ (x : Catalogue). let a : Answered = (line, x) in a) (sym same)

module _ (l : Layout) (rules : IsSound l) (filled : AreFilled l) where
  -- a definition is made in a free slot
  pub defined : (def : Def) (slot : ℕ) (a : KindDef (kind_of def)) (value : In (kind_of def)) → to_def (kind_of def) a ≡ def → IsFreeSlot (kind_of def) slot (name_of def) l.definitions → IsDef l.definitions.format def → IsThere l.definitions (references def) → KeepsCalendarRules def l.definitions
      → HasOrigin def l.definitions → sum_of_quotas l.definitions.containers + granted (Some def) ≤ length l.element_pages → value_of (kind_of def) l slot a ≡ value
      → DefinesAs (kind_of def) slot (Some def) l (made_line (Some def), with_named (kind_of def) (name_of def) value (catalogue_of l))
  defined def slot a value own free limits refers valid origin pages is =
      let empty = (vacant_found (kind_of def) slot l rules free.lowest).1 in
      let can : CanMake slot def l = record {
        fits = record { within = free.within; empty = empty; new = free.new; limits = limits; refers = refers; valid = valid; origin = origin };
        pages = pages;
        pageless = λ series. no_page slot l filled (subst (λ (k : Kind). def_at k slot l.definitions ≡ None) series empty);
      } in
      record {
        rules = made_sound slot def l rules can;
        headings = made_headings slot def l rules can;
        kept = λ space numbers count size kept. made_kept l rules space numbers count size kept slot def can;
        comes = says (made_line (Some def)) _ _ (made_catalogue slot def l rules can a own ∙ ap (λ (v : In (kind_of def)). with_named (kind_of def) (name_of def) v (catalogue_of l)) is);
      }

  -- one to which nothing refers is dropped
  pub dropped : (kind : Kind) (slot : ℕ) (name : List ℕ) → CanDrop kind slot name l → DefinesAs kind slot None l (ok_line, without kind name (catalogue_of l))
  dropped kind slot name can = record {
    rules = dropped_sound kind slot name l rules can;
    headings = dropped_headings kind slot name l rules can;
    kept = λ space numbers count size kept. dropped_kept l rules space numbers count size kept kind slot name can;
    comes = says ok_line _ _ (dropped_catalogue kind slot name l rules can);
  }
