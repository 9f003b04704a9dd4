-- Slots of all kinds, and what stands in them.
use Rattle.std.proofs.Common.{◌≡◌, None, replicate, refl, Some, ◌≢◌, ℕ, ◌<◌, inl, inr, ◌⊎◌, Option, map, List, sym, ap, ◌∙◌, length}
use Rattle.std.specs.Option.{option_map}
use Rattle.std.proofs.lemmas.Bool.{cases_eq}
use Rattle.std.proofs.lemmas.List.{length-map}
use Rattle.ts_page.specs.Pages.{zero_page}
use Rattle.ts_model.specs.declared.kind.Kind.{Kind}
use Rattle.ts_model.specs.declared.def.Def.{Def}
use Rattle.ts_model.specs.Definitions.{slots, limit, at_slot, Definitions, KindDef, to_def, from_def, table_of, IsDefinitions}
use Rattle.ts_model.proofs.PartsLemmas.{forth, table-rules}
use Rattle.ts_model.specs.declared.kind.Kind.TheVariants as kinds
use Rattle.ts_layout.specs.Slot.{slot_bytes, slot_size, def_bytes}
use Rattle.ts_layout.specs.Rank.{rank}
use Rattle.ts_layout.proofs.PlaceLemmas.{rank_one, at_slot-map}

-- an empty slot is zeros, and a filled one is its definition's bytes
pub slot_empty : (kind : Kind) → slot_bytes kind None ≡ replicate (slot_size kind) 0
unfolding zero_page
slot_empty kinds.RowType = refl
slot_empty kinds.Pattern = refl
slot_empty kinds.Calendar = refl
slot_empty kinds.Container = refl
slot_empty kinds.Series = refl

pub slot_filled : (kind : Kind) (def : Def) → slot_bytes kind (Some def) ≡ def_bytes def
slot_filled kinds.RowType def = refl
slot_filled kinds.Pattern def = refl
slot_filled kinds.Calendar def = refl
slot_filled kinds.Container def = refl
slot_filled kinds.Series def = refl

-- slots of other ranks are others
pub apart_by_rank : (kind kind' : Kind) (slot slot' : ℕ) → rank kind' slot' ≢ rank kind slot → kind' ≡ kind → slot' ≡ slot → ⊥
apart_by_rank kind kind' slot slot' other same same' = other (λ i. rank (same i) (same' i))

-- a slot is the one that is read, or another
pub this_or_other : (kind kind' : Kind) (slot slot' : ℕ) → slot < limit kind → slot' < limit kind' → ((kind' ≡ kind) × (slot' ≡ slot)) ⊎ (rank kind' slot' ≢ rank kind slot)
this_or_other kind kind' slot slot' within within' =
    elim (cases_eq (rank kind' slot') (rank kind slot)) [
      | inl same ↦ inl (rank_one kind' kind slot' slot within' within same)
      | inr other ↦ inr other
    ]

-- what stands in a slot of a table, as the table's own
own_of : {A : Type 0} (f : A → Def) (o : Option A) (def : Def) → option_map f o ≡ Some def → (a : A) × (o ≡ Some a) × (f a ≡ def)
own_of f None def none = absurd (cc)
own_of f (Some a) def some = (a, refl, cc)

pub own : {A : Type 0} (f : A → Def) (i : ℕ) (table : List (Option A)) (def : Def) → at_slot i (map (option_map f) table) ≡ Some def → (a : A) × (at_slot i table ≡ Some a) × (f a ≡ def)
own f i table def is = own_of f (at_slot i table) def (sym (at_slot-map f i table) ∙ is)

-- each table has its slots
pub sizes : (d : Definitions) → IsDefinitions d → (kind : Kind) → length (slots kind d) ≡ limit kind
sizes d rules kind = length-map (table_of kind d) (option_map (to_def kind)) ∙ (table-rules d rules kind).size

-- the same slot from the same definition
same_slot : {A : Type 0} (f : A → Def) (back : Def → Option A) → ((a : A) → back (f a) ≡ Some a) → (o p : Option A) → option_map f o ≡ option_map f p → o ≡ p
same_slot f back is None None same = refl
same_slot f back is None (Some b) same = absurd (cc)
same_slot f back is (Some a) None same = absurd (cc)
same_slot f back is (Some a) (Some b) same = let e : f a ≡ f b = cc in sym (is a) ∙ ap back e ∙ is b

pub same_in : (kind : Kind) (i : ℕ) (t u : List (Option (KindDef kind))) → at_slot i (map (option_map (to_def kind)) t) ≡ at_slot i (map (option_map (to_def kind)) u) → at_slot i t ≡ at_slot i u
same_in kind i t u same =
    same_slot (to_def kind) (from_def kind) (forth kind) (at_slot i t) (at_slot i u) (sym (at_slot-map (to_def kind) i t) ∙ same ∙ at_slot-map (to_def kind) i u)
