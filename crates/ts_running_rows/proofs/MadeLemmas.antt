-- Rows of numbers that are handed on are the rows that are meant.
use Rattle.std.proofs.Common.{◌≡◌, ℕ, ◌+◌, ◌<◌, ◌≤◌, ◌^◌, Bool, true, false, List, [], ◌∷◌, Option, Some, None, sym, ◌∙◌}
use Rattle.std.specs.Prelude.{ℤ, MatchOption}
use Rattle.ts_row.specs.Row.{Row, Element}
use Rattle.ts_running.specs.Binding.{with_others, Sourced, numbers_row, applied}
use Rattle.ts_running.specs.Rows.{applied_to}
use Rattle.ts_running_rows.specs.Application.{Applier, Applies, IsApplied}

module _ {V : Type 0} (took : V → List Element → V → Type 0) where
  pub applied_handed : (exprs : List Sourced) (stamp : ℤ) (row : Row) (made : List (Option ℤ)) (overflowed : Bool) (x y : V) →
      applied exprs row.values ≡ Some (numbers_row made) → overflowed ≡ false →
      took x ((stamp, numbers_row made) ∷ []) y → IsApplied took exprs (stamp, row) x overflowed y
  applied_handed exprs stamp row made overflowed x y is fine taken = rw is (fine, taken)

  -- one that applies expressions has taken one more element
  pub applies_one : (v w : Applier) (x y : V) (e : Element) → w.exprs ≡ v.exprs → v.count ≤ w.count →
      (v.count + 1 < 2 ^ 64 → w.count ≡ v.count + 1) → v.overflowed ≡ false → IsApplied took v.exprs e x w.overflowed y →
      Applies took v x (e ∷ []) w y
  applies_one v w x y e exprs more counted fine applied = record {
    exprs = exprs;
    more = more;
    counted = counted;
    kept = λ over. absurd (let both : true ≡ false = sym over ∙ fine in cc);
    taken = λ none few. one (applied_to v.exprs e) applied;
  } where
    one : (found : Option Element) →
        MatchOption found (w.overflowed ≡ true) (λ row. (w.overflowed ≡ false) × took x (row ∷ []) y) →
        MatchOption (with_others found (Some [])) (w.overflowed ≡ true) (λ rows. (w.overflowed ≡ false) × took x rows y)
    one None is = is
    one (Some row) is = is
