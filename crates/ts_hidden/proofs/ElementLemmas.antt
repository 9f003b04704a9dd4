-- What edits leave of elements none of which is hidden.
use Rattle.std.proofs.Common.{◌≡◌, ℤ, Bool, true, false, cond, not, ◌||◌, Option, None, List, [], ◌∷◌, ◌++◌, length, filter, refl, sym, ap, subst, ◌∙◌, arith}
use Rattle.std.specs.declared.cmp.Ordering.{Ordering}
use Rattle.std.specs.declared.cmp.Ordering.TheVariants.{Less, Equal, Greater}
use Rattle.std.specs.Cmp.{int_cmp_total, eq_by_cmp_equiv}
use Rattle.std.specs.FinMap.{empty, entries, from_entries, insert, remove, find, same_map, int_cmp-IsAntisymmetric, entries-insert, get-entries, get-from_entries, get-remove, len-empty, len-entries}
use Rattle.std.specs.FinMap.Entries.{put, by_order, where_key, find-where_key}
use Rattle.std.specs.Ordering.{int_cmp, int_eq}
use Rattle.ts_row.specs.Row.{Row, Element, has_hidden}
use Rattle.ts_model.specs.Catalogue.{Elements}
use Rattle.ts_hidden.specs.Hidden.{AreShown}

neither : (a b : Bool) → (a || b) ≡ false → (a ≡ false) × (b ≡ false)
neither true b none = absurd (cc)
neither false b none = (refl, none)

both : (a b : Bool) → a ≡ false → b ≡ false → (a || b) ≡ false
both true b first second = absurd (cc)
both false b first second = second

none_listed : (es : List Element) → length es ≡ 0 → has_hidden es ≡ false
none_listed [] none = refl
none_listed (e ∷ es) none = absurd (omega (arith, none))

pub none_hidden : AreShown empty
none_hidden = none_listed (entries {R = int_cmp} empty) (sym (len-entries {R = int_cmp} empty) ∙ len-empty int_cmp Row)

-- an element is put in its place
put_listed : (stamp : ℤ) (row : Row) (es : List Element) → row.hidden ≡ false → has_hidden es ≡ false → has_hidden (put int_cmp stamp row es) ≡ false
put_listed stamp row [] own none = both row.hidden false own refl
put_listed stamp row (e ∷ es) own none = by (int_cmp stamp e.0) (put_listed stamp row es own (neither e.1.hidden (has_hidden es) none).1)
  where
    by : (o : Ordering) → has_hidden (put int_cmp stamp row es) ≡ false → has_hidden (by_order o ((stamp, row) ∷ e ∷ es) ((e.0, row) ∷ es) (e ∷ put int_cmp stamp row es)) ≡ false
    by Less rest = both row.hidden (has_hidden (e ∷ es)) own none
    by Equal rest = both row.hidden (has_hidden es) own (neither e.1.hidden (has_hidden es) none).1
    by Greater rest = both e.1.hidden (has_hidden (put int_cmp stamp row es)) (neither e.1.hidden (has_hidden es) none).0 rest

pub put_shown : (elements : Elements) (stamp : ℤ) (row : Row) → row.hidden ≡ false → AreShown elements → AreShown (insert elements stamp row)
put_shown elements stamp row own none = ap has_hidden (entries-insert int_cmp_total elements stamp row) ∙ put_listed stamp row (entries elements) own none

-- some are left out
pub some_listed : (p : Element → Bool) (es : List Element) → has_hidden es ≡ false → has_hidden (filter p es) ≡ false
some_listed p [] none = refl
some_listed p (e ∷ es) none = by (p e) (some_listed p es (neither e.1.hidden (has_hidden es) none).1)
  where
    by : (b : Bool) → has_hidden (filter p es) ≡ false → has_hidden (cond b (e ∷ filter p es) (filter p es)) ≡ false
    by true rest = both e.1.hidden (has_hidden (filter p es)) (neither e.1.hidden (has_hidden es) none).0 rest
    by false rest = rest

-- a list of elements as a map
pub listed_shown : (es : List Element) → has_hidden es ≡ false → AreShown (from_entries es)
listed_shown [] none = none_hidden
listed_shown (e ∷ es) none = put_shown (from_entries es) e.0 e.1 (neither e.1.hidden (has_hidden es) none).0 (listed_shown es (neither e.1.hidden (has_hidden es) none).1)

-- the element at a stamp goes
module _ (elements : Elements) (stamp : ℤ) where
  abbrev is_other : ℤ → Bool
  is_other k = not (int_eq stamp k)

  turned : (a b : Bool) (o : Option Row) → a ≡ b → cond (not a) o None ≡ cond b None o
  turned true true o same = refl
  turned false false o same = refl
  turned true false o same = absurd (cc)
  turned false true o same = absurd (cc)

  removed_is : remove elements stamp ≡ from_entries (where_key int_cmp is_other (entries elements))
  removed_is = same_map int_cmp_total int_cmp-IsAntisymmetric _ _ (λ q.
      get-remove int_cmp_total elements stamp q
      ∙ sym (get-from_entries int_cmp_total (where_key int_cmp is_other (entries elements)) q
      ∙ find-where_key int_cmp is_other q (λ x tie. ap is_other (sym (int_cmp-IsAntisymmetric q x tie))) (entries elements)
      ∙ turned (int_eq stamp q) (int_eq q stamp) (find int_cmp q (entries elements)) ((eq_by_cmp_equiv int_cmp_total).symm stamp q)
      ∙ ap (λ (o : Option Row). cond (int_eq q stamp) None o) (sym (get-entries elements q))))

  pub removed_shown : AreShown elements → AreShown (remove elements stamp)
  removed_shown none = subst AreShown (sym removed_is) (listed_shown (where_key int_cmp is_other (entries elements)) (some_listed (λ e. is_other e.0) (entries elements) none))

-- two lists, one behind the other
pub joined_listed : (es fs : List Element) → has_hidden es ≡ false → has_hidden fs ≡ false → has_hidden (es ++ fs) ≡ false
joined_listed [] fs first second = second
joined_listed (e ∷ es) fs first second =
    let each = neither e.1.hidden (has_hidden es) first in
    both e.1.hidden (has_hidden (es ++ fs)) each.0 (joined_listed es fs each.1 second)
