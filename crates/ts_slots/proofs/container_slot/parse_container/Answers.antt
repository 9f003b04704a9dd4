use Rattle.std.proofs.Common.{ℕ, ◌≡◌, ◌<◌, ◌^◌, Some, None, List, take, drop, get_or, ap, ◌∙◌, arith, inl, inr}
use Rattle.ts_model.specs.declared.def.Def.TheVariants as defs
use Rattle.ts_layout.specs.Slot.{def_bytes}
use Rattle.ts_layout.proofs.CallerLemmas.{container_name, container_row_type, length-name, containers_only}
use Rattle.ts_slots.proofs.ParseLemmas.{one, none_some}
use Rattle.ts_slots.proofs.container_slot.parse_container.Goals as goal

pub returns-then-row_type-ge-ROW_TYPES-clause-found : goal.returns-then-row_type-ge-ROW_TYPES-clause-found
returns-then-row_type-ge-ROW_TYPES-clause-found c =
    λ format. containers_only format (λ def. c.args.slot.now ≡ def_bytes def → None ≡ Some def) (λ name row_type quota is bytes.
    let short = length-name name is.name in
    let fits : quota < 2 ^ 32 = omega (arith, is.most) in
    let slot = ap (λ (l : List ℕ). get_or l 34 0) bytes ∙ container_row_type name row_type quota short in
    let pages = c.quota_in-quota.ensures name row_type quota short fits bytes in
    absurd (elim c.then-row_type-ge-ROW_TYPES.either [
      | inl over ↦ omega (arith, slot, over, is.row_type)
      | inr others ↦ elim others [ inl zero ↦ omega (arith, pages, zero, is.some) | inr over ↦ omega (arith, pages, over, is.most) ]
    ]))

pub returns-in_default-clause-found : goal.returns-in_default-clause-found
returns-in_default-clause-found c =
    λ format. containers_only format (λ def. c.args.slot.now ≡ def_bytes def → None ≡ Some def) (λ name row_type quota is bytes.
    none_some c.in_ok-name.field-0 name c.in_default.is
    (c.in_ok-name.ensures name is.name (ap (λ (l : List ℕ). take 33 (drop 1 l)) bytes ∙ container_name name row_type quota (length-name name is.name))))

pub returns-clause-found : goal.returns-clause-found
returns-clause-found c =
    λ format. containers_only format (λ def. c.args.slot.now ≡ def_bytes def → Some (defs.Container c.in-Some.name (get_or c.args.slot.now 34 0) c.quota_in-quota.result) ≡ Some def) (λ name row_type quota is bytes.
    let short = length-name name is.name in
    let fits : quota < 2 ^ 32 = omega (arith, is.most) in
    let same = one c.in_ok-name.field-0 c.in-Some.name name c.in-Some.is
    (c.in_ok-name.ensures name is.name (ap (λ (l : List ℕ). take 33 (drop 1 l)) bytes ∙ container_name name row_type quota short)) in
    let slot = ap (λ (l : List ℕ). get_or l 34 0) bytes ∙ container_row_type name row_type quota short in
    let pages = c.quota_in-quota.ensures name row_type quota short fits bytes in
    λ i. Some (defs.Container (same i) (slot i) (pages i)))
