use Rattle.std.proofs.Common.{◌≡◌, ℕ, ◌+◌, ◌*◌, ◌<◌, ℤ, Option, Some, None, List, length, take, drop, cond, ap, sym, ◌∙◌, arith, of_z}
use Rattle.std.specs.List.{slice_get}
use Rattle.std.specs.Option.{option_map}
use Rattle.std.proofs.lemmas.Int.{ints, to_z-of_z}
use Rattle.std.specs.Int.{w64, from_be_bytes, cast_signed}
use Rattle.ts_base.specs.Moment.{IsStamp, stamp_if_any}
use Rattle.ts_row.specs.Row.{Row, Element}
use Rattle.ts_row.specs.declared.kind.Column.{Column}
use Rattle.ts_space.proofs.PlaceLemmas.{int_lt_no}
use Rattle.ts_cells.specs.IrregularPage.{cell_size, AreElements, behind_head}
use Rattle.ts_irregular.proofs.BytesLemmas.{Part, cell_within, part, units_in}
use Rattle.ts_irregular.proofs.CellLemmas.{element_is}
use Rattle.ts_irregular.proofs.last.element_of.Goals as goal

-- a stamp is one again
stamp_is : (z : ℤ) → IsStamp z → stamp_if_any z ≡ Some z
stamp_is z is = λ i. cond (int_lt_no z _ is.0 i) None (cond (int_lt_no _ z is.1 i) None (Some z))

-- none isn't some
none_some : {A : Type 0} (a : A) → None ≡ Some a → ⊥
none_some a same = cc

-- what is read of a cell: its stamp and its row
module _ (columns : List Column) (index size : ℕ) (units : ℤ) (es : List Element) (behind : List ℕ) (is : size ≡ cell_size columns) (read : units ≡ cast_signed w64 (from_be_bytes w64 (take 8 (drop (size * index + 1) behind))))
    (are : AreElements columns es) (within : index < length es) (same : behind ≡ behind_head columns es) where
  abbrev here : Part columns index es behind
  here = part columns index es behind are within same

  there : slice_get es index ≡ Some here.element
  there = element_is columns index es behind here

  stamp_told : stamp_if_any (cast_signed w64 (of_z w64 units)) ≡ Some here.element.0
  stamp_told =
      let units_is : units ≡ here.element.0 = read ∙ units_in columns size index es behind here is in
      let stamp = here.is.stamp in
      ap stamp_if_any (to_z-of_z w64 units (omega (arith, ints, units_is, stamp.0, stamp.1)) ∙ units_is) ∙ stamp_is here.element.0 stamp

  row_told : option_map (λ (e : Element). e.1) (slice_get es index) ≡ Some here.element.1
  row_told = ap (option_map (λ (e : Element). e.1)) there

  element_told : (stamp : ℤ) (row : Row) → Some stamp ≡ stamp_if_any (cast_signed w64 (of_z w64 units)) → Some row ≡ option_map (λ (e : Element). e.1) (slice_get es index)
      → ◌≡◌ {A = Option Element} (Some (stamp, row)) (slice_get es index)
  element_told stamp row told is_row =
      let its_stamp : stamp ≡ here.element.0 = let both = told ∙ stamp_told in cc in
      let its_row : row ≡ here.element.1 = let both = is_row ∙ row_told in cc in
      (λ i. Some (its_stamp i, its_row i)) ∙ sym there

pub units_at-requires-clause-within : goal.units_at-requires-clause-within
units_at-requires-clause-within c =
    cell_within c.args.kind.now.columns c.cell_size.result c.args.index (length c.args.behind.now) c.cell_size.ensures.value c.requires.index c.requires.size

pub returns-in_default-clause-found : goal.returns-in_default-clause-found
returns-in_default-clause-found c = λ es are within same.
    let told = stamp_told c.args.kind.now.columns c.args.index c.cell_size.result c.units_at.result es c.args.behind.now c.cell_size.ensures.value c.units_at.ensures are within same in
    absurd (none_some _ (c.in_default.ensures ∙ told))

pub returns-in_default-2-clause-found : goal.returns-in_default-2-clause-found
returns-in_default-2-clause-found c = λ es are within same.
    let told = row_told c.args.kind.now.columns c.args.index c.cell_size.result c.units_at.result es c.args.behind.now c.cell_size.ensures.value c.units_at.ensures are within same in
    absurd (none_some _ (sym c.in_default-2.is ∙ c.in_ok-row.ensures.found es are within same ∙ told))

pub returns-clause-found : goal.returns-clause-found
returns-clause-found c = λ es are within same.
    element_told c.args.kind.now.columns c.args.index c.cell_size.result c.units_at.result es c.args.behind.now c.cell_size.ensures.value c.units_at.ensures are within same c.in-Some.stamp c.in-Some-2.row c.in-Some.ensures
    (sym c.in-Some-2.is ∙ c.in_ok-row.ensures.found es are within same)
