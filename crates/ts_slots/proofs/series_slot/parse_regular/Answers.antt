use Rattle.std.proofs.Common.{ℕ, ◌≡◌, ◌≤◌, ℤ, Option, Some, None, IfSome, List, length, take, drop, get_or, refl, sym, ap, ◌∙◌, arith}
use Rattle.ts_base.specs.Moment.{IsStamp}
use Rattle.ts_cells.specs.IrregularPage.{stamp_bytes}
use Rattle.ts_layout.specs.Slot.{series_bytes}
use Rattle.ts_layout.specs.Meaning.{IsRegularPart}
use Rattle.ts_layout.proofs.CallerLemmas.{series_first, series_calendar, series_origin}
use Rattle.ts_slots.proofs.ParseLemmas.{one, none_some}
use Rattle.ts_slots.proofs.series_slot.parse_regular.Goals as goal

-- another first byte than 1 is none of a regular series
irregular : (slot key : List ℕ) (container : ℕ) (regular : Option (ℕ × ℤ)) → slot ≡ series_bytes key container regular → (get_or slot 0 0 ≡ 1 → ⊥) → ◌≡◌ {A = Option (Option (ℕ × ℤ))} (Some None) (Some regular)
irregular slot key container None is other = refl
irregular slot key container (Some regular) is other = absurd (other (ap (λ (l : List ℕ). get_or l 0 0) is ∙ series_first key container (Some regular)))

-- that byte is one: the series has a calendar and an origin, and this is where they stand
record IsThere (slot : List ℕ) (regular : Option (ℕ × ℤ)) : Type 0 where
  at : ℕ
  origin : ℤ
  is : regular ≡ Some (at, origin)
  stamp : IsStamp origin
  calendar : get_or slot 67 0 ≡ at
  bytes : take 8 (drop 68 slot) ≡ stamp_bytes origin

there : (slot key : List ℕ) (container : ℕ) (regular : Option (ℕ × ℤ)) → length key ≤ 64 → IfSome regular IsRegularPart → slot ≡ series_bytes key container regular → get_or slot 0 0 ≡ 1 → IsThere slot regular
there slot key container None short is same first = absurd (omega (arith, first, ap (λ (l : List ℕ). get_or l 0 0) same, series_first key container None))
there slot key container (Some r) short is same first = record {
  at = r.0;
  origin = r.1;
  is = refl;
  stamp = is.origin;
  calendar = ap (λ (l : List ℕ). get_or l 67 0) same ∙ series_calendar key container r.0 r.1 short;
  bytes = ap (λ (l : List ℕ). take 8 (drop 68 l)) same ∙ series_origin key container r.0 r.1 short;
}

pub returns-then-slot-ne-REGULAR-clause-found : goal.returns-then-slot-ne-REGULAR-clause-found
returns-then-slot-ne-REGULAR-clause-found c = λ key container regular short is same. irregular c.args.slot.now key container regular same c.if-slot-ne-REGULAR.true

pub returns-in_default-clause-found : goal.returns-in_default-clause-found
returns-in_default-clause-found c = λ key container regular short is same.
    let t = there c.args.slot.now key container regular short is same c.if-slot-ne-REGULAR.false in
    none_some c.parse_stamp.result t.origin c.in_default.is (c.parse_stamp.ensures t.origin t.stamp t.bytes)

pub returns-clause-found : goal.returns-clause-found
returns-clause-found c = λ key container regular short is same.
    let t = there c.args.slot.now key container regular short is same c.if-slot-ne-REGULAR.false in
    let origin = one c.parse_stamp.result c.in-Some.origin t.origin c.in-Some.is (c.parse_stamp.ensures t.origin t.stamp t.bytes) in
    (λ i. Some (Some (t.calendar i, origin i))) ∙ ap Some (sym t.is)
