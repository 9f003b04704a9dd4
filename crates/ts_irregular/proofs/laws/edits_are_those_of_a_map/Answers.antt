-- Two maps that answer alike are one.
use Rattle.std.proofs.Common.{◌≡◌, Bool, true, false, cond, not, ℤ, Option, Some, None, List, refl, sym, ap, ◌∙◌}
use Rattle.std.specs.Ordering.{int_cmp, int_eq}
use Rattle.std.specs.Cmp.{int_cmp_total, int_eq_equiv}
use Rattle.std.specs.FinMap.{from_entries, get, same_map, int_cmp-IsAntisymmetric, get-from_entries, get-insert, get-remove}
use Rattle.std.specs.FinMap.Entries.{find-put, find-where_key}
use Rattle.ts_row.specs.Row.{Row}
use Rattle.ts_cells.specs.IrregularPage.{Element}
use Rattle.ts_irregular.specs.Edit.{element_at, with_element, without_element}
use Rattle.ts_irregular.proofs.laws.edits_are_those_of_a_map.Goals as goal

found_in : (stamp : ℤ) (es : List Element) → get (from_entries {R = int_cmp} es) stamp ≡ element_at stamp es
found_in stamp es = get-from_entries int_cmp_total es stamp

pub returns-clause-found : goal.returns-clause-found
returns-clause-found c = found_in

pub returns-clause-put : goal.returns-clause-put
returns-clause-put c = λ stamp row es. same_map int_cmp_total int_cmp-IsAntisymmetric _ _ (λ q.
    found_in q (with_element stamp row es) ∙ find-put int_cmp int_cmp_total q stamp row es
    ∙ ap (λ (o : Option Row). cond (int_eq q stamp) (Some row) o) (sym (found_in q es)) ∙ sym (get-insert int_cmp_total (from_entries es) stamp row q))

-- a test turned
turned : (b : Bool) (o : Option Row) → cond (not b) o None ≡ cond b None o
turned true o = refl
turned false o = refl

pub returns-clause-taken : goal.returns-clause-taken
returns-clause-taken c = λ stamp es. same_map int_cmp_total int_cmp-IsAntisymmetric _ _ (λ q.
    found_in q (without_element stamp es)
    ∙ find-where_key int_cmp (λ x. not (int_eq stamp x)) q (λ x tie. ap (λ (z : ℤ). not (int_eq stamp z)) (sym (int_cmp-IsAntisymmetric q x tie))) es
    ∙ turned (int_eq stamp q) (element_at q es)
    ∙ (λ j. cond (int_eq_equiv.symm stamp q j) None (sym (found_in q es) j)) ∙ sym (get-remove int_cmp_total (from_entries es) stamp q))
