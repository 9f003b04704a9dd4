-- The laws of one that makes running values: it takes none, or some and then others. They stand here since the law of a
-- trait takes its proof from specs/.
use Rattle.std.proofs.Common.{◌≡◌, ℕ, ◌+◌, ◌<◌, ◌^◌, List, [], ◌∷◌, ◌++◌, length, length-append, refl, sym, ap, subst}
use Rattle.std.proofs.Common.{◌∙◌}
use Rattle.std.proofs.Math.Nat.{le_refl, le_trans, add-zero, add_assoc, lt_of_le_of_lt, le-add_right}
use Rattle.std.proofs.lemmas.List.Elements.{filter_map-append}
use Rattle.ts_row.specs.Row.{Element}
use Rattle.ts_entry.specs.Entry.{Entry, element_of, elements_of}
use Rattle.ts_expr.specs.declared.function.Function.{Function}
use Rattle.ts_expr.specs.declared.item.BoundItem.{BoundItem}
use Rattle.ts_running.specs.Rows.{Window, after_push}
use Rattle.ts_running.specs.Places.{place_of}
use Rattle.ts_running_rows.specs.Run.{pushed, row_of, run, Runner, Runs}

pushed_both : (column : ℕ) (w : Window) (es fs : List Element) →
    pushed column w (es ++ fs) ≡ pushed column (pushed column w es) fs
pushed_both column w [] fs = refl
pushed_both column w (e ∷ es) fs = pushed_both column (after_push (place_of column e.1) w) es fs

run_both : (function : Function) (column : ℕ) (w : Window) (es fs : List Element) →
    run function column w (es ++ fs) ≡ run function column w es ++ run function column (pushed column w es) fs
run_both function column w [] fs = refl
run_both function column w (e ∷ es) fs =
    ap (λ (l : List Element). row_of function e.0 (after_push (place_of column e.1) w) ∷ l)
    (run_both function column (after_push (place_of column e.1) w) es fs)

module _ {V : Type 0} (took : V → List Element → V → Type 0) where
  pub runs_none : (none : (x : V) → took x [] x) (v : Runner) (x : V) → Runs took v x [] v x
  runs_none none v x = record {
    item = refl;
    window = refl;
    more = le_refl v.count;
    counted = λ few. sym (add-zero v.count);
    taken = λ few. none x;
  }

  -- what comes behind, by the first state
  as_first : (u v w : Runner) (y z : V) (es fs : List Element) → v.item ≡ u.item
      → v.window ≡ pushed u.item.column u.window es →
      took y (run v.item.function v.item.column v.window fs) z →
      took y (run u.item.function u.item.column (pushed u.item.column u.window es) fs) z
  as_first u v w y z es fs item window taken =
      subst (λ (x : Window). took y (run u.item.function u.item.column x fs) z) window
      (subst (λ (i : BoundItem). took y (run i.function i.column v.window fs) z) item taken)

  runs_both : (then : (x y z : V) (es fs : List Element) → took x es y → took y fs z → took x (es ++ fs) z)
      (u v w : Runner) (x y z : V) (es fs : List Element) → Runs took u x es v y → Runs took v y fs w z →
      Runs took u x (es ++ fs) w z
  runs_both then u v w x y z es fs p q = record {
    item = q.item ∙ p.item;
    window = q.window ∙ ap (λ (i : BoundItem). pushed i.column v.window fs) p.item
        ∙ ap (λ (t : Window). pushed u.item.column t fs) p.window ∙ sym (pushed_both u.item.column u.window es fs);
    more = le_trans p.more q.more;
    counted = λ few.
        let whole : u.count + length (es ++ fs) ≡ (u.count + length es) + length fs =
        ap (λ (n : ℕ). u.count + n) (length-append es fs) ∙ sym (add_assoc u.count (length es) (length fs)) in
        let all : (u.count + length es) + length fs < 2 ^ 64 = subst (λ (n : ℕ). n < 2 ^ 64) whole few in
        let first = p.counted (lt_of_le_of_lt (le-add_right (u.count + length es) (length fs)) all) in
        q.counted (subst (λ (n : ℕ). n + length fs < 2 ^ 64) (sym first) all)
        ∙ ap (λ (n : ℕ). n + length fs) first ∙ sym whole;
    taken = λ few.
        subst (λ (l : List Element). took x l z) (sym (run_both u.item.function u.item.column u.window es fs))
        (then x y z (run u.item.function u.item.column u.window es)
        (run u.item.function u.item.column (pushed u.item.column u.window es) fs)
        (p.taken (le_trans q.more few)) (as_first u v w y z es fs p.item p.window (q.taken few)));
  }

  pub runs_then : (then : (x y z : V) (es fs : List Element) → took x es y → took y fs z → took x (es ++ fs) z)
      (u v w : Runner) (x y z : V) (es fs : List Entry) → Runs took u x (elements_of es) v y →
      Runs took v y (elements_of fs) w z → Runs took u x (elements_of (es ++ fs)) w z
  runs_then then u v w x y z es fs p q =
      subst (λ (l : List Element). Runs took u x l w z) (sym (filter_map-append element_of es fs))
      (runs_both then u v w x y z (elements_of es) (elements_of fs) p q)
