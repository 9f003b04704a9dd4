-- Elements whose values of expressions are handed on one after the other.
use Rattle.std.specs.Prelude.{◌≡◌, ℕ, ◌+◌, ◌<◌, ◌≤◌, ◌^◌, Bool, true, false, MatchOption, List, [], ◌∷◌, length}
use Rattle.ts_row.specs.Row.{Element}
use Rattle.ts_base.specs.Answer.{most_rows}
use Rattle.ts_running.specs.Binding.{Sourced}
use Rattle.ts_running.specs.Rows.{applied_to, applied_all}

-- One that applies expressions: these, how many rows there were, and whether a number had no place.
pub record Applier : Type 0 where
  pub exprs : List Sourced
  pub count : ℕ
  pub overflowed : Bool

abbrev pub applier : List Sourced → ℕ → Bool → Applier
applier exprs count overflowed = record { exprs = exprs; count = count; overflowed = overflowed }

-- From one state to another these elements were taken.
pub record Applies {V : Type 0} (took : V → List Element → V → Type 0) (v : Applier) (x : V) (es : List Element)
    (w : Applier) (y : V) : Type 0 where
  pub exprs : w.exprs ≡ v.exprs
  pub more : v.count ≤ w.count
  pub counted : v.count + length es < 2 ^ 64 → w.count ≡ v.count + length es
  pub kept : v.overflowed ≡ true → w.overflowed ≡ true
  pub taken : v.overflowed ≡ false → w.count ≤ most_rows →
      MatchOption (applied_all v.exprs es) (w.overflowed ≡ true) (λ rows. (w.overflowed ≡ false) × took x rows y)

-- An element's row was handed on, or a number of it has no place.
abbrev pub IsApplied : {V : Type 0} → (V → List Element → V → Type 0) → List Sourced → Element → V → Bool → V → Type 0
IsApplied took exprs e x overflowed y =
    MatchOption (applied_to exprs e) (overflowed ≡ true) (λ row. (overflowed ≡ false) × took x (row ∷ []) y)
