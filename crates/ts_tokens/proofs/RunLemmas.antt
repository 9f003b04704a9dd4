-- The bytes of a run are of its class.
use Rattle.std.proofs.Common.{◌≡◌, ℕ, suc, ◌+◌, ◌≤◌, Bool, true, List, [], ◌∷◌, take, refl, arith, inl, inr}
use Rattle.std.proofs.lemmas.Bool.{cases_Bool}
use Rattle.std.proofs.lemmas.List.{length-take, take-take}
use Rattle.std.proofs.lemmas.List.Sums.{prefix_len-le-length}
use Rattle.std.specs.List.{prefix_len, list_all}

pub run_passes : (p : ℕ → Bool) (s : List ℕ) → list_all p (take (prefix_len p s) s) ≡ true
run_passes p [] = refl
run_passes p (b ∷ s) = elim (cases_Bool (p b)) [
  | inl t ↦ let next : 1 + prefix_len p s ≡ suc (prefix_len p s) = omega arith in rw (t, next, t) (run_passes p s)
  | inr f ↦ rw f refl
]

-- where at most so many count
pub short_run_passes : (p : ℕ → Bool) (room : ℕ) (s : List ℕ) → list_all p (take (prefix_len p (take room s)) s) ≡ true
short_run_passes p room s =
    let most : prefix_len p (take room s) ≤ room = omega (arith, prefix_len-le-length p (take room s), length-take room s) in
    let same : take (prefix_len p (take room s)) (take room s) ≡ take (prefix_len p (take room s)) s = take-take (prefix_len p (take room s)) room s most in
    rw (← same) (run_passes p (take room s))
