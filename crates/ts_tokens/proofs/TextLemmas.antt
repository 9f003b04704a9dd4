-- Doubled quotes.
use Rattle.std.proofs.Common.{◌≡◌, ℕ, ◌==◌, ◌&&◌, ◌||◌, Bool, false, if◌then◌else◌, List, [], ◌∷◌, drop, slice_index, refl, sym, ◌∙◌, ap, inl, inr, length, take, ◌-◌, ◌<◌, ◌≤◌, ◌++◌, append_assoc, slice_index_or, arith}
use Rattle.std.specs.List.{list_any}
use Rattle.std.proofs.lemmas.List.{append-nil, take_all, length-drop, length-take}
use Rattle.std.proofs.lemmas.Bool.{cases_Bool}
use Rattle.std.proofs.lemmas.Bool.Decides.{nat_tests}
use Rattle.ts_tokens.specs.Tokens.{undoubled, said}

-- a byte more
pub undoubled-cons : (b : ℕ) (bytes : List ℕ) → undoubled (b ∷ bytes) ≡ b ∷ undoubled (if b == 39 && slice_index bytes 0 == 39 then drop 1 bytes else bytes)
unfolding undoubled
undoubled-cons b [] = elim (cases_Bool (b == 39)) [
  | inl t ↦ rw t refl
  | inr f ↦ rw f refl
]
undoubled-cons b (c ∷ bytes) = elim (cases_Bool (b == 39 && c == 39)) [
  | inl t ↦ let is : b ≡ 39 = grind (arith, nat_tests) in rw (t, is) refl
  | inr f ↦ rw f refl
]

first_differs : (b : ℕ) (more : Bool) → (b == 39 || more) ≡ false → ((b == 39) ≡ false) × (more ≡ false)
first_differs b more none = elim (cases_Bool (b == 39)) [
  | inl t ↦ absurd (let no = rw t at none in cc)
  | inr f ↦ (f, rw f at none)
]

-- without a quote the bytes say themselves
pub unquoted : (raw : List ℕ) → list_any (λ b. b == 39) raw ≡ false → undoubled raw ≡ raw
unfolding undoubled
unquoted [] none = refl
unquoted (b ∷ []) none = refl
unquoted (b ∷ c ∷ raw) none =
    let parts = first_differs b (list_any (λ b. b == 39) (c ∷ raw)) none in
    rw parts.0 (ap (λ (l : List ℕ). b ∷ l) (unquoted (c ∷ raw) parts.1))

-- so many bytes, and then what the next ones say
pub undoubled_more : (said raw : List ℕ) → 1 ≤ length raw → said ++ undoubled raw ≡ (said ++ slice_index_or raw 0 0 ∷ []) ++ undoubled (if slice_index_or raw 0 0 == 39 && slice_index (drop 1 raw) 0 == 39 then drop 1 (drop 1 raw) else drop 1 raw)
undoubled_more said [] some = absurd (omega arith)
undoubled_more said (b ∷ raw) some = ap (λ (l : List ℕ). said ++ l) (undoubled-cons b raw) ∙ sym (append_assoc said (b ∷ []) (undoubled (if b == 39 && slice_index raw 0 == 39 then drop 1 raw else raw)))

-- what is said is no longer
undoubled-le : (bytes : List ℕ) → length (undoubled bytes) ≤ length bytes
unfolding undoubled
undoubled-le [] = omega arith
undoubled-le (b ∷ []) = omega arith
undoubled-le (b ∷ c ∷ bytes) = elim (cases_Bool (b == 39 && c == 39)) [
  | inl t ↦ rw t (omega (arith, undoubled-le bytes))
  | inr f ↦ rw f (omega (arith, undoubled-le (c ∷ bytes)))
]

pub said-le : (token : List ℕ) → length (said token) ≤ length token
said-le token = omega (arith, undoubled-le (take (length token - 2) (drop 1 token)), length-take (length token - 2) (drop 1 token), length-drop 1 token)

-- nothing is left
pub undoubled_end : (said raw : List ℕ) → length raw < 1 → said ++ undoubled raw ≡ said
unfolding undoubled
undoubled_end said [] none = append-nil said
undoubled_end said (b ∷ raw) none = absurd (omega arith)

-- what stands behind the first byte
pub rest_of : (raw : List ℕ) → 1 ≤ length raw → take (length raw - 1) (drop 1 raw) ≡ drop 1 raw
rest_of raw some = take_all (length raw - 1) (drop 1 raw) (omega (arith, length-drop 1 raw))
