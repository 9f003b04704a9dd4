-- The scales of expressions are small.
use Rattle.std.proofs.Common.{◌≡◌, ◌≤◌, ℕ, nat_le, List, [], ◌∷◌, Option, Some, None, All, refl, subst, arith, inl, inr}
use Rattle.std.proofs.lemmas.Bool.{cases_Bool}
use Rattle.std.proofs.lemmas.Bool.Decides.{nat_tests}
use Rattle.std.proofs.lemmas.List.Elements.{All-nil, All-cons}
use Rattle.std.specs.Option.{option_and_then}
use Rattle.ts_running.specs.Grammar.{Column, Digits, Opposite, Joined}
use Rattle.ts_running.specs.Binding.{of_two, made_of, with_others, made_of_all, Sourced, scale_if_small, joined_scale, part_scales}

small_is : (n s : ℕ) → scale_if_small n ≡ Some s → s ≤ 28
small_is n s is = elim (cases_Bool (nat_le n 28)) [
  | inl t ↦ let at = rw t at is in let same : n ≡ s = cc in let few : n ≤ 28 = grind (arith, nat_tests) in omega (arith, few, same)
  | inr f ↦ absurd (let none = rw f at is in cc)
]

scale_small : (e : Sourced) (s : ℕ) → made_of part_scales e ≡ Some s → s ≤ 28
scale_small (Column c) s is = small_is c.scale s is
scale_small (Digits n) s is = let same : 0 ≡ s = cc in omega (arith, same)
scale_small (Opposite e) s is = of_inner (made_of part_scales e) refl is (λ n at. scale_small e n at) where
  of_inner : (found : Option ℕ) → made_of part_scales e ≡ found → option_and_then (λ x. Some x) found ≡ Some s → ((n : ℕ) → made_of part_scales e ≡ Some n → n ≤ 28) → s ≤ 28
  of_inner None e at inner = absurd (cc)
  of_inner (Some n) e at inner = let same : n ≡ s = cc in subst (λ (k : ℕ). k ≤ 28) same (inner n e)
scale_small (Joined operation a b) s is = of_both (made_of part_scales a) (made_of part_scales b) is where
  of_both : (first second : Option ℕ) → of_two (λ x y. scale_if_small (joined_scale operation x y)) first second ≡ Some s → s ≤ 28
  of_both None second at = absurd (cc)
  of_both (Some x) None at = absurd (cc)
  of_both (Some x) (Some y) at = small_is (joined_scale operation x y) s at

pub scales_small : (exprs : List Sourced) (scales : List ℕ) → made_of_all part_scales exprs ≡ Some scales → All (λ s. s ≤ 28) scales
scales_small [] scales is = let same : [] ≡ scales = cc in subst (λ (l : List ℕ). All (λ s. s ≤ 28) l) same (All-nil (λ (s : ℕ). s ≤ 28))
scales_small (e ∷ exprs) scales is = of_both (λ more o. scales_small exprs more o) (made_of part_scales e) (made_of_all part_scales exprs) refl refl is where
  of_both : ((more : List ℕ) → made_of_all part_scales exprs ≡ Some more → All (λ s. s ≤ 28) more) → (first : Option ℕ) (others : Option (List ℕ)) → made_of part_scales e ≡ first → made_of_all part_scales exprs ≡ others → with_others first others ≡ Some scales → All (λ s. s ≤ 28) scales
  of_both small None others f o at = absurd (cc)
  of_both small (Some x) None f o at = absurd (cc)
  of_both small (Some x) (Some more) f o at =
      let same : x ∷ more ≡ scales = cc in
      subst (λ (l : List ℕ). All (λ s. s ≤ 28) l) same (All-cons (λ (s : ℕ). s ≤ 28) x more (scale_small e x f) (small more o))
