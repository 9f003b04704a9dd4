-- The last puts, and the part of them that lies in one window.
use Rattle.std.proofs.Common.{◌≡◌, ℕ, ◌==◌, Bool, true, false, ◌||◌, cond, Option, Some, None, Ok, Err, Result, List, [], ◌∷◌, ◌++◌, map, filter, refl, sym, ap, subst, ◌∙◌, ℤ}
use Rattle.std.specs.List.{AllByRecursion, fold}
use Rattle.std.specs.Result.{result_unwrap_or}
use Rattle.std.specs.Ordering.{int_cmp, eq_by_cmp, is_eq}
use Rattle.std.specs.declared.cmp.Ordering.{Ordering}
use Rattle.std.specs.declared.cmp.Ordering.TheVariants.{Less, Equal, Greater}
use Rattle.std.specs.Cmp.{int_cmp_total, tied_itself}
use Rattle.std.specs.FinMap.{entries, entries_sorted, empty, get, insert, retain_keys, get-entries, get-empty, get-insert, get-retain_keys, same_map, int_cmp-IsAntisymmetric}
use Rattle.std.specs.FinMap.Entries.{where_key, is_sorted-where_key, find-where_key, same_entries}
use Rattle.std.proofs.lemmas.Bool.{false≢true}
use Rattle.std.proofs.lemmas.Option.{same_Some}
use Rattle.ts_base.specs.declared.refusal.Refusal.{Refusal}
use Rattle.ts_row.specs.Row.{Row, Element}
use Rattle.ts_offset.specs.Grid.{GridPlan, offset_of}
use Rattle.ts_model.specs.Catalogue.{Elements}
use Rattle.ts_rolling.specs.Kept.{window_of, last_puts}
use Rattle.ts_rolling_laws.proofs.NumberLemmas.{has, eq_refl, eq_same}

-- the offset is this window's
abbrev pub is_window : ℕ → Result ℕ Refusal → Bool
is_window j (Ok k) = k == j
is_window j (Err refusal) = false

-- the stamp lies in this window
abbrev pub in_window : GridPlan → ℕ → ℤ → Bool
in_window g j t = is_window j (offset_of g t)

-- the elements that lie in a window
abbrev pub part : GridPlan → Elements → ℕ → Elements
part g p j = retain_keys p (in_window g j)

-- the windows of puts
abbrev pub numbers : GridPlan → List Element → List ℕ
numbers g ps = map (λ e. window_of g e.0) ps

pub in_window-yes : (g : GridPlan) (j : ℕ) (t : ℤ) → offset_of g t ≡ Ok j → in_window g j t ≡ true
in_window-yes g j t e = ap (is_window j) e ∙ eq_refl j

pub in_window-is : (g : GridPlan) (j : ℕ) (t : ℤ) → in_window g j t ≡ true → offset_of g t ≡ Ok j
in_window-is g j t h = by (offset_of g t) refl h
  where
    by : (o : Result ℕ Refusal) → offset_of g t ≡ o → is_window j o ≡ true → offset_of g t ≡ Ok j
    by (Ok k) e same = e ∙ ap Ok (eq_same k j same)
    by (Err refusal) e same = absurd (false≢true same)

pub same_stamp : (q t : ℤ) → eq_by_cmp int_cmp q t ≡ true → q ≡ t
same_stamp q t h = int_cmp-IsAntisymmetric q t (equal (int_cmp q t) h)
  where
    equal : (r : Ordering) → is_eq r ≡ true → r ≡ Equal
    equal Less e = absurd (false≢true e)
    equal Equal e = refl
    equal Greater e = absurd (false≢true e)

pub own_stamp : (t : ℤ) → eq_by_cmp int_cmp t t ≡ true
own_stamp t = ap is_eq (tied_itself int_cmp_total t)

module _ (g : GridPlan) where
  pub get-part : (p : Elements) (j : ℕ) (q : ℤ) → get (part g p j) q ≡ cond (in_window g j q) (get p q) None
  get-part p j q = get-retain_keys p (in_window g j) q (λ x e. ap (in_window g j) (sym (int_cmp-IsAntisymmetric q x e)))

  chosen : (a b : Bool) (x y : Option Row) → (b ≡ true → a ≡ true) → cond b x (cond a y None) ≡ cond a (cond b x y) None
  chosen true true x y h = refl
  chosen true false x y h = refl
  chosen false true x y h = absurd (false≢true (h refl))
  chosen false false x y h = refl

  skipped : (a b : Bool) (x y : Option Row) → (b ≡ true → a ≡ false) → cond a (cond b x y) None ≡ cond a y None
  skipped true true x y h = absurd (false≢true (sym (h refl)))
  skipped true false x y h = refl
  skipped false b x y h = refl

  -- a put in the window comes to its part
  pub part-put : (p : Elements) (j : ℕ) (t : ℤ) (row : Row) → in_window g j t ≡ true → insert (part g p j) t row ≡ part g (insert p t row) j
  part-put p j t row inside = same_map int_cmp_total int_cmp-IsAntisymmetric _ _ (λ q.
      get-insert int_cmp_total (part g p j) t row q
      ∙ ap (cond (eq_by_cmp int_cmp q t) (Some row)) (get-part p j q)
      ∙ chosen (in_window g j q) (eq_by_cmp int_cmp q t) (Some row) (get p q) (λ e. ap (in_window g j) (same_stamp q t e) ∙ inside)
      ∙ ap (λ o. cond (in_window g j q) o None) (sym (get-insert int_cmp_total p t row q))
      ∙ sym (get-part (insert p t row) j q))

  -- another one leaves it
  pub part-other : (p : Elements) (j : ℕ) (t : ℤ) (row : Row) → in_window g j t ≡ false → part g (insert p t row) j ≡ part g p j
  part-other p j t row outside = same_map int_cmp_total int_cmp-IsAntisymmetric _ _ (λ q.
      get-part (insert p t row) j q
      ∙ ap (λ o. cond (in_window g j q) o None) (get-insert int_cmp_total p t row q)
      ∙ skipped (in_window g j q) (eq_by_cmp int_cmp q t) (Some row) (get p q) (λ e. ap (in_window g j) (same_stamp q t e) ∙ outside)
      ∙ sym (get-part p j q))

  -- where nothing was put there is nothing
  pub part-none : (p : Elements) (j : ℕ) → ((q : ℤ) → in_window g j q ≡ true → get p q ≡ None) → part g p j ≡ empty
  part-none p j none = same_map int_cmp_total int_cmp-IsAntisymmetric _ _ (λ q. get-part p j q ∙ by q (in_window g j q) refl ∙ sym (get-empty int_cmp q))
    where
      by : (q : ℤ) (b : Bool) → in_window g j q ≡ b → cond b (get p q) None ≡ None
      by q true e = none q e
      by q false e = refl

  -- the entries of a part are those in the window
  pub entries-part : (p : Elements) (j : ℕ) → entries (part g p j) ≡ filter (λ e. in_window g j e.0) (entries p)
  entries-part p j = same_entries int_cmp int_cmp_total int_cmp-IsAntisymmetric (entries (part g p j)) (where_key int_cmp (in_window g j) (entries p))
      (entries_sorted (part g p j)) (is_sorted-where_key int_cmp (in_window g j) (entries p) (entries_sorted p))
      (λ q. sym (get-entries (part g p j) q) ∙ get-part p j q ∙ ap (λ o. cond (in_window g j q) o None) (get-entries p q)
      ∙ sym (find-where_key int_cmp (in_window g j) q (λ x e. ap (in_window g j) (sym (int_cmp-IsAntisymmetric q x e))) (entries p)))

-- one put more
pub last-push : (ps : List Element) (t : ℤ) (row : Row) → last_puts (ps ++ (t, row) ∷ []) ≡ insert (last_puts ps) t row
last-push ps t row = by ps empty
  where
    by : (ps : List Element) (m : Elements) → fold (λ m e. insert m e.0 e.1) m (ps ++ (t, row) ∷ []) ≡ insert (fold (λ m e. insert m e.0 e.1) m ps) t row
    by [] m = refl
    by (e ∷ ps) m = by ps (insert m e.0 e.1)

-- each put has an offset, and its row is seen
abbrev pub ArePuts : GridPlan → List Element → Type 0
ArePuts g = AllByRecursion (λ e. ((j : ℕ) × (offset_of g e.0 ≡ Ok j)) × (e.1.hidden ≡ false))

-- at a stamp of no put there is nothing
pub last-none : (g : GridPlan) (j : ℕ) (q : ℤ) (ps : List Element) (m : Elements) → ArePuts g ps → in_window g j q ≡ true → has (numbers g ps) j ≡ false
    → get m q ≡ None → get (fold (λ m e. insert m e.0 e.1) m ps) q ≡ None
last-none g j q [] m puts inside none before = before
last-none g j q (e ∷ ps) m puts inside none before =
    let parts = or_parts (window_of g e.0 == j) (has (numbers g ps) j) none in
    last-none g j q ps (insert m e.0 e.1) puts.1 inside parts.1
    (get-insert int_cmp_total m e.0 e.1 q ∙ by (eq_by_cmp int_cmp q e.0) (λ tie. same parts.0 tie) before)
  where
    or_parts : (a b : Bool) → (a || b) ≡ false → (a ≡ false) × (b ≡ false)
    or_parts true b h = absurd (false≢true (sym h))
    or_parts false b h = (refl, h)

    same : (window_of g e.0 == j) ≡ false → eq_by_cmp int_cmp q e.0 ≡ true → ⊥
    same apart tie =
        let at = sym (ap (offset_of g) (same_stamp q e.0 tie)) ∙ in_window-is g j q inside in
        false≢true (sym apart ∙ ap (λ r. result_unwrap_or r 0 == j) at ∙ eq_refl j)

    by : (b : Bool) → (b ≡ true → ⊥) → get m q ≡ None → cond b (Some e.1) (get m q) ≡ None
    by true never h = absurd (never refl)
    by false never h = h

-- what stands there is a row of a put: it is seen, and its stamp has a window
pub last-put : (g : GridPlan) (q : ℤ) (row : Row) (ps : List Element) (m : Elements) → ArePuts g ps
    → ((r : Row) → get m q ≡ Some r → ((j : ℕ) × (offset_of g q ≡ Ok j)) × (r.hidden ≡ false))
    → get (fold (λ m e. insert m e.0 e.1) m ps) q ≡ Some row → ((j : ℕ) × (offset_of g q ≡ Ok j)) × (row.hidden ≡ false)
last-put g q row [] m puts before there = before row there
last-put g q row (e ∷ ps) m puts before there =
    last-put g q row ps (insert m e.0 e.1) puts.1 (λ r is. by (eq_by_cmp int_cmp q e.0) refl r (sym (get-insert int_cmp_total m e.0 e.1 q) ∙ is)) there
  where
    by : (b : Bool) → eq_by_cmp int_cmp q e.0 ≡ b → (r : Row) → cond b (Some e.1) (get m q) ≡ Some r → ((j : ℕ) × (offset_of g q ≡ Ok j)) × (r.hidden ≡ false)
    by true tie r is =
        let at = ap (offset_of g) (same_stamp q e.0 tie) in
        let same = same_Some e.1 r is in
        ((puts.0.0.0, at ∙ puts.0.0.1), subst (λ (x : Row). x.hidden ≡ false) same puts.0.1)
    by false tie r is = before r is
