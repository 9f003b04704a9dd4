-- Where slots stand, and what changes with one.
use Rattle.std.proofs.Common.{◌≡◌, ◌≢◌, ℕ, zero, suc, ◌+◌, ◌-◌, ◌*◌, ◌/◌, ◌%◌, ◌<◌, ◌≤◌, ◌==◌, true, false, nat_lt, nat_le, min, Option, Some, None, List, [], ◌∷◌, map, length, set, refl, sym, ap, ◌∙◌, arith, get_or-set_same, get_or-set_other, length-set, subst, lit<, lit≤, inl, inr}
use Rattle.std.specs.Option.{option_map, option_and_then}
use Rattle.std.proofs.lemmas.Bool.Decides.{nat_tests}
use Rattle.std.proofs.lemmas.Bool.{cases_lt}
use Rattle.std.proofs.lemmas.List.{length-map}
use Rattle.ts_page.specs.Pages.{first_element_page}
use Rattle.ts_model.specs.declared.kind.Kind.{Kind}
use Rattle.ts_model.specs.declared.kind.Kind.TheVariants as kinds
use Rattle.ts_model.specs.declared.def.Def.{Def}
use Rattle.ts_model.specs.Definitions.{Definitions, KindDef, kind_of, to_def, from_def, table_of, limit, slots, at_slot, with_slot}
use Rattle.ts_model.proofs.PartsLemmas.{back, table-here, table-other, same_or_other}
use Rattle.ts_layout.specs.declared.place.Slots.{Slots}
use Rattle.ts_layout.specs.Slot.{slot_size, slots_in_page, page_of_slot, byte_of_slot}
use Rattle.ts_layout.specs.Meaning.{def_at}
use Rattle.ts_layout.specs.Rank.{rank, rank_of_page}

-- what stands in a slot of a table that is seen as definitions
pub at_slot-map : {A B : Type 0} (f : A → B) (i : ℕ) (table : List (Option A)) → at_slot i (map (option_map f) table) ≡ option_map f (at_slot i table)
at_slot-map f i [] = refl
at_slot-map f zero (o ∷ table) = refl
at_slot-map f (suc i) (o ∷ table) = at_slot-map f i table

-- a slot that was set
set_same : {A : Type 0} (f : A → Def) (o : Option A) (i : ℕ) (table : List (Option A)) → i < length table → at_slot i (map (option_map f) (set table i o)) ≡ option_map f o
set_same f o i table within = at_slot-map f i (set table i o) ∙ ap (option_map f) (get_or-set_same table i o None within)

set_other : {A : Type 0} (f : A → Def) (o : Option A) (i j : ℕ) (table : List (Option A)) → j ≢ i → at_slot j (map (option_map f) (set table i o)) ≡ at_slot j (map (option_map f) table)
set_other f o i j table other = at_slot-map f j (set table i o) ∙ ap (option_map f) (get_or-set_other table i j o None other) ∙ sym (at_slot-map f j table)

-- the table of a kind, seen as definitions
abbrev as_defs : (kind : Kind) → List (Option (KindDef kind)) → List (Option Def)
as_defs kind table = map (option_map (to_def kind)) table

pub def_at-with_slot : (kind : Kind) (slot : ℕ) (def : Def) (d : Definitions) → kind_of def ≡ kind → slot < length (slots kind d) → def_at kind slot (with_slot kind slot (Some def) d) ≡ Some def
def_at-with_slot kind slot def d is within =
    ap (λ (t : List (Option (KindDef kind))). at_slot slot (as_defs kind t)) (table-here kind (set (table_of kind d) slot (from_def kind def)) d)
    ∙ set_same (to_def kind) (from_def kind def) slot (table_of kind d) (omega (arith, within, length-map (table_of kind d) (option_map (to_def kind))))
    ∙ back kind def is

pub def_at-cleared : (kind : Kind) (slot : ℕ) (d : Definitions) → slot < length (slots kind d) → def_at kind slot (with_slot kind slot None d) ≡ None
def_at-cleared kind slot d within =
    ap (λ (t : List (Option (KindDef kind))). at_slot slot (as_defs kind t)) (table-here kind (set (table_of kind d) slot None) d)
    ∙ set_same (to_def kind) None slot (table_of kind d) (omega (arith, within, length-map (table_of kind d) (option_map (to_def kind))))

-- every other slot stays
pub def_at-other : (kind kind' : Kind) (slot slot' : ℕ) (o : Option Def) (d : Definitions) → ((kind' ≡ kind) → (slot' ≡ slot) → ⊥) → def_at kind' slot' (with_slot kind slot o d) ≡ def_at kind' slot' d
def_at-other kind kind' slot slot' o d other =
    let own : Option (KindDef kind) = option_and_then (from_def kind) o in
    elim (same_or_other kind' kind) [
      | inl same ↦
          subst (λ (k : Kind). def_at k slot' (with_slot kind slot o d) ≡ def_at k slot' d) (sym same)
          (ap (λ (t : List (Option (KindDef kind))). at_slot slot' (as_defs kind t)) (table-here kind (set (table_of kind d) slot own) d)
          ∙ set_other (to_def kind) own slot slot' (table_of kind d) (other same))
      | inr differs ↦
          ap (λ (t : List (Option (KindDef kind'))). at_slot slot' (as_defs kind' t)) (table-other kind kind' (set (table_of kind d) slot own) d differs)
    ]

-- the tables keep their lengths
pub length-with_slot : (kind kind' : Kind) (slot : ℕ) (o : Option Def) (d : Definitions) → length (slots kind' (with_slot kind slot o d)) ≡ length (slots kind' d)
length-with_slot kind kind' slot o d =
    let own : Option (KindDef kind) = option_and_then (from_def kind) o in
    elim (same_or_other kind' kind) [
      | inl same ↦
          subst (λ (k : Kind). length (slots k (with_slot kind slot o d)) ≡ length (slots k d)) (sym same)
          (ap (λ (t : List (Option (KindDef kind))). length (as_defs kind t)) (table-here kind (set (table_of kind d) slot own) d)
          ∙ length-map _ (option_map (to_def kind)) ∙ length-set (table_of kind d) slot own ∙ sym (length-map (table_of kind d) (option_map (to_def kind))))
      | inr differs ↦
          ap (λ (t : List (Option (KindDef kind'))). length (as_defs kind' t)) (table-other kind kind' (set (table_of kind d) slot own) d differs)
    ]

-- two slots of one rank are one
pub rank_one : (kind kind' : Kind) (slot slot' : ℕ) → slot < limit kind → slot' < limit kind' → rank kind slot ≡ rank kind' slot' → (kind ≡ kind') × (slot ≡ slot')
rank_one kinds.RowType kinds.RowType slot slot' is is' same = (refl, same)
rank_one kinds.RowType kinds.Pattern slot slot' is is' same = absurd (omega arith)
rank_one kinds.RowType kinds.Calendar slot slot' is is' same = absurd (omega arith)
rank_one kinds.RowType kinds.Container slot slot' is is' same = absurd (omega arith)
rank_one kinds.RowType kinds.Series slot slot' is is' same = absurd (omega arith)
rank_one kinds.Pattern kinds.RowType slot slot' is is' same = absurd (omega arith)
rank_one kinds.Pattern kinds.Pattern slot slot' is is' same = (refl, omega arith)
rank_one kinds.Pattern kinds.Calendar slot slot' is is' same = absurd (omega arith)
rank_one kinds.Pattern kinds.Container slot slot' is is' same = absurd (omega arith)
rank_one kinds.Pattern kinds.Series slot slot' is is' same = absurd (omega arith)
rank_one kinds.Calendar kinds.RowType slot slot' is is' same = absurd (omega arith)
rank_one kinds.Calendar kinds.Pattern slot slot' is is' same = absurd (omega arith)
rank_one kinds.Calendar kinds.Calendar slot slot' is is' same = (refl, omega arith)
rank_one kinds.Calendar kinds.Container slot slot' is is' same = absurd (omega arith)
rank_one kinds.Calendar kinds.Series slot slot' is is' same = absurd (omega arith)
rank_one kinds.Container kinds.RowType slot slot' is is' same = absurd (omega arith)
rank_one kinds.Container kinds.Pattern slot slot' is is' same = absurd (omega arith)
rank_one kinds.Container kinds.Calendar slot slot' is is' same = absurd (omega arith)
rank_one kinds.Container kinds.Container slot slot' is is' same = (refl, omega arith)
rank_one kinds.Container kinds.Series slot slot' is is' same = absurd (omega arith)
rank_one kinds.Series kinds.RowType slot slot' is is' same = absurd (omega arith)
rank_one kinds.Series kinds.Pattern slot slot' is is' same = absurd (omega arith)
rank_one kinds.Series kinds.Calendar slot slot' is is' same = absurd (omega arith)
rank_one kinds.Series kinds.Container slot slot' is is' same = absurd (omega arith)
rank_one kinds.Series kinds.Series slot slot' is is' same = (refl, omega arith)

-- the slots in a page, by its number
row_types_in : (number : ℕ) → number < 321 → slots_in_page number ≡ record { kind = kinds.RowType; first = number - 257; count = 1 }
row_types_in number below = let t : nat_lt number 321 ≡ true = grind (arith, nat_tests) in rw t refl

patterns_in : (number : ℕ) → 321 ≤ number → number < 577 → slots_in_page number ≡ record { kind = kinds.Pattern; first = number - 321; count = 1 }
patterns_in number above below =
    let f : nat_lt number 321 ≡ false = grind (arith, nat_tests) in
    let t : nat_lt number 577 ≡ true = grind (arith, nat_tests) in
    rw (f, t) refl

calendars_in : (number : ℕ) → 577 ≤ number → number < 833 → slots_in_page number ≡ record { kind = kinds.Calendar; first = number - 577; count = 1 }
calendars_in number above below =
    let f : nat_lt number 321 ≡ false = grind (arith, nat_tests) in
    let g : nat_lt number 577 ≡ false = grind (arith, nat_tests) in
    let t : nat_lt number 833 ≡ true = grind (arith, nat_tests) in
    rw (f, g, t) refl

series_in : (number : ℕ) → 834 ≤ number → slots_in_page number ≡ record { kind = kinds.Series; first = 43 * (number - 834); count = min 43 (4096 - 43 * (number - 834)) }
series_in number above =
    let f : nat_lt number 321 ≡ false = grind (arith, nat_tests) in
    let g : nat_lt number 577 ≡ false = grind (arith, nat_tests) in
    let h : nat_lt number 833 ≡ false = grind (arith, nat_tests) in
    let o : (number == 833) ≡ false = grind (arith, nat_tests) in
    rw (f, g, h, o) refl

rank_single : (number : ℕ) → number ≤ 833 → rank_of_page number ≡ number - 257
rank_single number below = let t : nat_le number 833 ≡ true = grind (arith, nat_tests) in rw t refl

rank_series : (number : ℕ) → 834 ≤ number → rank_of_page number ≡ 640 + min (43 * (number - 834)) 4096
rank_series number above = let f : nat_le number 833 ≡ false = grind (arith, nat_tests) in rw f refl

-- a fact of each definition page by the slots in it, by the five ranges of their numbers
by_range : (P : ℕ → Slots → Type 0) → ((n : ℕ) → 257 ≤ n → n < 321 → P n (record { kind = kinds.RowType; first = n - 257; count = 1 }))
    → ((n : ℕ) → 321 ≤ n → n < 577 → P n (record { kind = kinds.Pattern; first = n - 321; count = 1 }))
    → ((n : ℕ) → 577 ≤ n → n < 833 → P n (record { kind = kinds.Calendar; first = n - 577; count = 1 }))
    → P 833 (slots_in_page 833)
    → ((n : ℕ) → 834 ≤ n → n < first_element_page → P n (record { kind = kinds.Series; first = 43 * (n - 834); count = min 43 (4096 - 43 * (n - 834)) }))
    → (number : ℕ) → 257 ≤ number → number < first_element_page → P number (slots_in_page number)
by_range P rows patterns calendars middle series number low high =
    elim (cases_lt number 321) [
      | inl below ↦ subst (P number) (sym (row_types_in number below)) (rows number low below)
      | inr above ↦ elim (cases_lt number 577) [
        | inl below ↦ subst (P number) (sym (patterns_in number above below)) (patterns number above below)
        | inr above' ↦ elim (cases_lt number 833) [
          | inl below ↦ subst (P number) (sym (calendars_in number above' below)) (calendars number above' below)
          | inr above'' ↦ elim (cases_lt number 834) [
            | inl below ↦ subst (λ (n : ℕ). P n (slots_in_page n)) (let e : 833 ≡ number = omega arith in e) middle
            | inr past ↦ subst (P number) (sym (series_in number past)) (series number past high)
          ]
        ]
      ]
    ]

-- what is said of the slots in a page
pub record Stands (on : Slots) (number k : ℕ) : Type 0 where
  pub within : on.first + k < limit on.kind
  pub page : page_of_slot on.kind (on.first + k) ≡ number
  pub byte : byte_of_slot on.kind (on.first + k) ≡ slot_size on.kind * k
  pub rank : rank on.kind (on.first + k) ≡ rank_of_page number + k

pub stands : (number k : ℕ) → 257 ≤ number → number < first_element_page → k < (slots_in_page number).count → Stands (slots_in_page number) number k
stands number k low high =
    by_range (λ n on. k < on.count → Stands on n k)
    (λ n above below one. record { within = omega arith; page = omega arith; byte = omega arith; rank = omega (arith, rank_single n (omega arith)) })
    (λ n above below one. record { within = omega arith; page = omega arith; byte = omega arith; rank = omega (arith, rank_single n (omega arith)) })
    (λ n above below one. record { within = omega arith; page = omega arith; byte = omega arith; rank = omega (arith, rank_single n (omega arith)) })
    (λ few. record { within = omega arith; page = refl; byte = omega arith; rank = omega arith })
    (λ n above below few. record { within = omega arith; page = omega arith; byte = omega arith; rank = omega (arith, rank_series n above) })
    number low high

-- the page after one goes on where that one ends
pub rank_next : (number : ℕ) → 257 ≤ number → number < first_element_page → rank_of_page (number + 1) ≡ rank_of_page number + (slots_in_page number).count
rank_next number low high =
    by_range (λ n on. rank_of_page (n + 1) ≡ rank_of_page n + on.count)
    (λ n above below. next_single n above (omega arith))
    (λ n above below. next_single n (omega arith) (omega arith))
    (λ n above below. next_single n (omega arith) below)
    (omega (arith, rank_series 834 (lit≤ tt)))
    (λ n above below. omega (arith, rank_series n above, rank_series (n + 1) (omega arith)))
    number low high where
      next_single : (n : ℕ) → 257 ≤ n → n < 833 → rank_of_page (n + 1) ≡ rank_of_page n + 1
      next_single n above below = omega (arith, rank_single n (omega arith), rank_single (n + 1) (omega arith))

-- the slots in a page fit it
pub fits_page : (number : ℕ) → 257 ≤ number → number < first_element_page → slot_size (slots_in_page number).kind * (slots_in_page number).count ≤ 4096
fits_page number low high =
    by_range (λ n on. slot_size on.kind * on.count ≤ 4096) (λ n above below. lit≤ tt) (λ n above below. lit≤ tt) (λ n above below. lit≤ tt) (lit≤ tt)
    (λ n above below. omega arith) number low high

-- the page of a slot is a definition page
pub page_low : (kind : Kind) (slot : ℕ) → 257 ≤ page_of_slot kind slot
page_low kinds.RowType slot = omega arith
page_low kinds.Pattern slot = omega arith
page_low kinds.Calendar slot = omega arith
page_low kinds.Container slot = lit≤ tt
page_low kinds.Series slot = omega arith

pub page_high : (kind : Kind) (slot : ℕ) → slot < limit kind → page_of_slot kind slot < first_element_page
page_high kinds.RowType slot within = omega arith
page_high kinds.Pattern slot within = omega arith
page_high kinds.Calendar slot within = omega arith
page_high kinds.Container slot within = lit< tt
page_high kinds.Series slot within = omega arith

-- each slot has its bytes in its page, in front of what is behind all slots there
pub slot_end : (kind : Kind) (slot : ℕ) → slot < limit kind → byte_of_slot kind slot + slot_size kind ≤ slot_size (slots_in_page (page_of_slot kind slot)).kind * (slots_in_page (page_of_slot kind slot)).count
slot_end kinds.RowType slot within = subst (λ (on : Slots). 4096 ≤ slot_size on.kind * on.count) (sym (row_types_in (257 + slot) (omega arith))) (lit≤ tt)
slot_end kinds.Pattern slot within = subst (λ (on : Slots). 4096 ≤ slot_size on.kind * on.count) (sym (patterns_in (321 + slot) (omega arith) (omega arith))) (lit≤ tt)
slot_end kinds.Calendar slot within = subst (λ (on : Slots). 4096 ≤ slot_size on.kind * on.count) (sym (calendars_in (577 + slot) (omega arith) (omega arith))) (lit≤ tt)
slot_end kinds.Container slot within = omega arith
slot_end kinds.Series slot within = subst (λ (on : Slots). 94 * (slot % 43) + 94 ≤ slot_size on.kind * on.count) (sym (series_in (834 + slot / 43) (omega arith))) (omega arith)
