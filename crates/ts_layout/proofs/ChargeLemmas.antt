-- Charges by the directory and by the pages.
use Rattle.std.proofs.Common.{◌≡◌, ℕ, zero, suc, ◌+◌, ◌*◌, ◌/◌, ◌<◌, ◌≤◌, IsTrue, Option, Some, None, List, [], ◌∷◌, length, take, refl, sym, ap, subst, ◌∙◌, arith}
use Rattle.std.specs.Option.{option_map, option_and_then}
use Rattle.std.proofs.lemmas.Bool.Decides.{nat_tests}
use Rattle.std.proofs.Math.Nat.{le-div_iff_mul-le}
use Rattle.ts_row.specs.Row.{Heading, is_row_type, width_of}
use Rattle.ts_space.specs.Directory.{Directory}
use Rattle.ts_cells.specs.IrregularPage.{page_room}
use Rattle.ts_model.specs.declared.kind.Kind.TheVariants as kinds
use Rattle.ts_model.specs.declared.def.Def.{Def}
use Rattle.ts_model.specs.declared.def.Def.TheVariants as defs
use Rattle.ts_model.specs.Definitions.{Definitions, RowTypeDef, ContainerDef, SeriesDef, at_slot, of_row_type, of_container}
use Rattle.ts_layout.specs.Meaning.{IsSlotOf, def_at, KeepLimits, heading_of_container, heading_in}
use Rattle.ts_layout.specs.Charges.{charge_listed, charges_listed, container_charge, KeepsQuotaAt}
use Rattle.ts_layout.proofs.PlaceLemmas.{at_slot-map}
use Rattle.ts_layout.proofs.SlotLemmas.{own}

-- one slot more
charges_from : (space : Directory) (container room first n : ℕ) (table : List (Option SeriesDef)) → n < length table → charges_listed space container room first (take (suc n) table) ≡ charges_listed space container room first (take n table) + charge_listed space container room (first + n) (at_slot n table)
charges_from space container room first n [] within = absurd (omega arith)
charges_from space container room first zero (s ∷ table) within =
    let at : first ≡ first + 0 = omega arith in
    let sum : charge_listed space container room first s + 0 ≡ 0 + charge_listed space container room first s = omega arith in
    sum ∙ ap (λ (k : ℕ). 0 + charge_listed space container room k s) at
charges_from space container room first (suc n) (s ∷ table) within =
    let rest = charges_from space container room (suc first) n table (omega arith) in
    let at : suc first + n ≡ first + suc n = omega arith in
    let sum : charge_listed space container room first s + charges_listed space container room (suc first) (take (suc n) table)
    ≡ charge_listed space container room first s + charges_listed space container room (suc first) (take n table) + charge_listed space container room (suc first + n) (at_slot n table) = omega (arith, rest) in
    sum ∙ ap (λ (k : ℕ). charge_listed space container room first s + charges_listed space container room (suc first) (take n table) + charge_listed space container room k (at_slot n table)) at

pub charges_more : (space : Directory) (container room n sum one : ℕ) (table : List (Option SeriesDef)) → n < length table → sum ≡ charges_listed space container room 0 (take n table) → one ≡ charge_listed space container room n (at_slot n table) → sum + one ≡ charges_listed space container room 0 (take (n + 1) table)
charges_more space container room n sum one table within so_far is =
    let step = charges_from space container room 0 n table within in
    let at : 0 + n ≡ n = omega arith in
    let more : suc n ≡ n + 1 = omega arith in
    (λ i. so_far i + is i) ∙ ap (λ (k : ℕ). charges_listed space container room 0 (take n table) + charge_listed space container room k (at_slot n table)) (sym at) ∙ sym step ∙ ap (λ (k : ℕ). charges_listed space container room 0 (take k table)) more

-- the definition of the container in a slot
pub container_at : (d : Definitions) (slot : ℕ) (name : List ℕ) (row_type quota : ℕ) → def_at kinds.Container slot d ≡ Some (defs.Container name row_type quota) → (c : ContainerDef) × (at_slot slot d.containers ≡ Some c) × (c.quota ≡ quota) × (c.row_type ≡ row_type)
container_at d slot name row_type quota is =
    let found = own of_container slot d.containers (defs.Container name row_type quota) is in
    let same = found.2 in
    (found.0, found.1, cc, cc)

-- its columns
pub heading_there : (d : Definitions) (slot : ℕ) (c : ContainerDef) (h : Heading) → at_slot slot d.containers ≡ Some c → Some h ≡ heading_in d slot → heading_of_container d c ≡ Some h
heading_there d slot c h there is = sym (ap (option_and_then (heading_of_container d)) there) ∙ sym is

-- a page has room for one element at least
some_heading : (o : Option RowTypeDef) (h : Heading) → option_map (λ r. r.heading) o ≡ Some h → (r : RowTypeDef) × (o ≡ Some r) × (r.heading ≡ h)
some_heading None h none = absurd (cc)
some_heading (Some r) h some = (r, refl, cc)

width_kept : (stamp : List ℕ) (h : Heading) → IsTrue (is_row_type stamp h.columns) → width_of h.columns ≤ 1000
width_kept stamp h is = grind (arith, nat_tests)

pub room_some : (d : Definitions) → KeepLimits d → (slot : ℕ) (c : ContainerDef) (h : Heading) → slot < 64 → at_slot slot d.containers ≡ Some c → heading_of_container d c ≡ Some h → 0 < page_room h.columns
room_some d limits slot c h within there is =
    let container : def_at kinds.Container slot d ≡ Some (of_container c) = at_slot-map of_container slot d.containers ∙ ap (option_map of_container) there in
    let limit = (let P : Option Def → Type 0 = IsSlotOf d.format kinds.Container in subst P container (limits.each kinds.Container slot within)).1.row_type in
    let r = some_heading (at_slot c.row_type d.row_types) h is in
    let row : def_at kinds.RowType c.row_type d ≡ Some (of_row_type r.0) = at_slot-map of_row_type c.row_type d.row_types ∙ ap (option_map of_row_type) r.1 in
    let rules = (let P : Option Def → Type 0 = IsSlotOf d.format kinds.RowType in subst P row (limits.each kinds.RowType c.row_type limit)).1.rules in
    let width = width_kept r.0.heading.stamp r.0.heading rules in
    subst (λ (x : Heading). 0 < page_room x.columns) r.2 (room_of (width_of r.0.heading.columns) width) where
      room_of : (w : ℕ) → w ≤ 1000 → 0 < 4064 / (w + 9)
      room_of w small =
          let some : 0 < w + 9 = omega arith in
          let fits : 1 * (w + 9) ≤ 4064 = omega arith in
          let one : 1 ≤ 4064 / (w + 9) = (le-div_iff_mul-le {k = w + 9} {x = 1} {y = 4064} some).1 fits in
          omega arith

-- whether the charge of a container is within its quota
pub quota_kept : (d : Definitions) (space : Directory) (slot : ℕ) (c : ContainerDef) (h : Heading) (charge quota : ℕ) → at_slot slot d.containers ≡ Some c → heading_of_container d c ≡ Some h → charge ≡ container_charge d space slot (page_room h.columns)
    → c.quota ≡ quota → (charge ≤ quota → KeepsQuotaAt d space slot) × (KeepsQuotaAt d space slot → charge ≤ quota)
quota_kept d space slot c h charge quota there heading is same = (
  (λ within c' h' there' heading'.
      let one : c' ≡ c = one_container (at_slot slot d.containers) c' c there' there in
      let columns : h' ≡ h = one_heading (heading_of_container d c) h' h (ap (heading_of_container d) (sym one) ∙ heading') heading in
      let quotas : c'.quota ≡ quota = ap (λ (x : ContainerDef). x.quota) one ∙ same in
      let charges : container_charge d space slot (page_room h'.columns) ≡ charge = ap (λ (x : Heading). container_charge d space slot (page_room x.columns)) columns ∙ sym is in
      omega (arith, within, quotas, charges)),
  (λ kept. let within = kept c h there heading in omega (arith, within, is, same)),
) where
  one_container : (o : Option ContainerDef) (a b : ContainerDef) → o ≡ Some a → o ≡ Some b → a ≡ b
  one_container o a b first second = cc

  one_heading : (o : Option Heading) (a b : Heading) → o ≡ Some a → o ≡ Some b → a ≡ b
  one_heading o a b first second = cc
