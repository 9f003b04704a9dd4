-- One text behind another.
use Rattle.std.proofs.Common.{◌≡◌, ◌⊎◌, inl, inr, ℕ, ◌==◌, true, false, List, [], ◌∷◌, ◌++◌, refl, ◌∙◌, ap, append_assoc, Option, Some, None, arith}
use Rattle.std.proofs.lemmas.Bool.{cases_eq}
use Rattle.std.proofs.lemmas.Bool.Decides.{nat_tests}
use Rattle.ts_replies.specs.Acknowledged.{behind, IsFront}

same : (b c : ℕ) → b ≡ c → (b == c) ≡ true
same b c e = grind (arith, nat_tests)

differ : (b c : ℕ) → (b ≡ c → ⊥) → (b == c) ≡ false
differ b c e = grind (arith, nat_tests)

pub behind-append : (r x : List ℕ) → behind r (r ++ x) ≡ Some x
behind-append [] x = refl
behind-append (b ∷ r) x = rw (same b b refl) (behind-append r x)

pub behind-is : (r s x : List ℕ) → behind r s ≡ Some x → s ≡ r ++ x
behind-is [] s x e = cc
behind-is (b ∷ r) [] x e = absurd (cc)
behind-is (b ∷ r) (c ∷ s) x e = elim (cases_eq b c) [
  | inl is ↦ let rest : s ≡ r ++ x = behind-is r s x (rw (same b c is) at e) in cc
  | inr not ↦ let none = rw (differ b c not) at e in absurd (cc)
]

pub behind-more : (r s x more : List ℕ) → behind r s ≡ Some x → behind r (s ++ more) ≡ Some (x ++ more)
behind-more r s x more e =
    ap (λ (l : List ℕ). behind r (l ++ more)) (behind-is r s x e) ∙ ap (behind r) (append_assoc r x more) ∙ behind-append r (x ++ more)

-- a front is the whole, or the whole isn't at its front
pub whole_or_part : (p r : List ℕ) → IsFront p r → (p ≡ r) ⊎ (behind r p ≡ None)
whole_or_part [] [] f = inl refl
whole_or_part [] (b ∷ r) f = inr refl
whole_or_part (c ∷ p) [] f = absurd (let e : [] ≡ c ∷ (p ++ f.0) = f.1 in cc)
whole_or_part (c ∷ p) (b ∷ r) f =
    let e : b ∷ r ≡ c ∷ (p ++ f.0) = f.1 in
    let is : b ≡ c = cc in
    let rest : r ≡ p ++ f.0 = cc in
    elim (whole_or_part p r (f.0, rest)) [
      | inl all ↦ inl (cc)
      | inr none ↦ inr (rw (same b c is) none)
    ]

-- what isn't at the front of a text isn't at the front of its fronts
pub none-front : (r p t : List ℕ) → IsFront p t → behind r t ≡ None → behind r p ≡ None
none-front r p t f none = go (behind r p) refl where
  go : (o : Option (List ℕ)) → behind r p ≡ o → behind r p ≡ None
  go None e = e
  go (Some x) e = let some : behind r t ≡ Some (x ++ f.0) = ap (behind r) f.1 ∙ behind-more r p x f.0 e in absurd (cc)
