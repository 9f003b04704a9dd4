-- The lowest empty slot: what one slot that is filled or emptied changes.
use Rattle.std.proofs.Common.{◌≡◌, ℕ, zero, suc, ◌+◌, ◌-◌, ◌<◌, Bool, cond, inl, inr, min, Option, Some, None, List, [], ◌∷◌, ◌++◌, length, set, drop, replicate, refl, ap, sym, ◌∙◌, arith, zero-add}
use Rattle.std.specs.Option.{option_map, IsSome, is_none}
use Rattle.ts_model.specs.Definitions.{at_slot, vacant_slot}
use Rattle.ts_model.specs.declared.def.Def.{Def}
use Rattle.std.proofs.lemmas.Bool.{cases_lt, lt-ltb, le-ltb}
use Rattle.ts_model.specs.Table.{lower, slot_behind}
use Rattle.ts_model.proofs.IndexLemmas.{position-more}

lower-suc : (o : Option ℕ) (i : ℕ) → Some (suc (lower o i)) ≡ Some (lower (option_map (λ n. suc n) o) (suc i))
lower-suc None i = refl
lower-suc (Some n) i = let e : suc (min n i) ≡ min (suc n) (suc i) = omega arith in ap (λ (m : ℕ). Some m) e

lower-zero : (o : Option ℕ) → Some 0 ≡ Some (lower o 0)
lower-zero None = refl
lower-zero (Some n) = let e : 0 ≡ min n 0 = omega arith in ap (λ (m : ℕ). Some m) e

later : (n : ℕ) (o : Option ℕ) → option_map (λ m. suc m) (option_map (λ m. n + m) o) ≡ option_map (λ m. suc n + m) o
later n None = refl
later n (Some m) = let e : suc (n + m) ≡ suc n + m = omega arith in ap (λ (k : ℕ). Some k) e

same-map : (o : Option ℕ) → o ≡ option_map (λ m. 0 + m) o
same-map None = refl
same-map (Some m) = ap (λ (k : ℕ). Some k) (sym (zero-add m))

none-some : (A : Type 0) → IsSome {T = A} None → ⊥
none-some A h = cc

module _ {A : Type 0} where
  first-empty : (xs : List (Option A)) → vacant_slot (None ∷ xs) ≡ Some 0
  first-empty xs = position-more (λ (x : Option A). is_none x) None xs

  first-filled : (a : A) (xs : List (Option A)) → vacant_slot (Some a ∷ xs) ≡ option_map (λ n. suc n) (vacant_slot xs)
  first-filled a xs = position-more (λ (x : Option A). is_none x) (Some a) xs

  pub vacant-clear : (xs : List (Option A)) (i : ℕ) → i < length xs → vacant_slot (set xs i None) ≡ Some (lower (vacant_slot xs) i)
  vacant-clear [] i within = absurd (omega arith)
  vacant-clear (x ∷ xs) zero within = first-empty xs ∙ lower-zero (vacant_slot (x ∷ xs))
  vacant-clear (None ∷ xs) (suc i) within =
      first-empty (set xs i None) ∙ (let e : 0 ≡ min 0 (suc i) = omega arith in ap (λ (m : ℕ). Some m) e)
      ∙ ap (λ (o : Option ℕ). Some (lower o (suc i))) (sym (first-empty xs))
  vacant-clear (Some a ∷ xs) (suc i) within =
      first-filled a (set xs i None) ∙ ap (option_map (λ (n : ℕ). suc n)) (vacant-clear xs i (omega arith)) ∙ lower-suc (vacant_slot xs) i
      ∙ ap (λ (o : Option ℕ). Some (lower o (suc i))) (sym (first-filled a xs))

  -- to fill an empty slot that isn't the lowest
  pub vacant-fill : (xs : List (Option A)) (i : ℕ) (a : A) → i < length xs → at_slot i xs ≡ None → (vacant_slot xs ≡ Some i → ⊥) → vacant_slot (set xs i (Some a)) ≡ vacant_slot xs
  vacant-fill [] i a within empty other = absurd (omega arith)
  vacant-fill (x ∷ xs) zero a within empty other = absurd (other (ap (λ (o : Option A). vacant_slot (o ∷ xs)) empty ∙ first-empty xs))
  vacant-fill (None ∷ xs) (suc i) a within empty other = first-empty (set xs i (Some a)) ∙ sym (first-empty xs)
  vacant-fill (Some b ∷ xs) (suc i) a within empty other =
      first-filled b (set xs i (Some a))
      ∙ ap (option_map (λ (n : ℕ). suc n)) (vacant-fill xs i a (omega arith) empty (λ h. other (first-filled b xs ∙ ap (option_map (λ (n : ℕ). suc n)) h)))
      ∙ sym (first-filled b xs)

  -- behind filled slots
  pub vacant-behind : (xs : List (Option A)) (n : ℕ) → ((j : ℕ) → j < n → IsSome (at_slot j xs)) → vacant_slot xs ≡ option_map (λ m. n + m) (vacant_slot (drop n xs))
  vacant-behind xs zero filled = same-map (vacant_slot xs)
  vacant-behind [] (suc n) filled = refl
  vacant-behind (None ∷ xs) (suc n) filled = absurd (none-some A (filled 0 (omega arith)))
  vacant-behind (Some a ∷ xs) (suc n) filled =
      first-filled a xs ∙ ap (option_map (λ (m : ℕ). suc m)) (vacant-behind xs n (λ j below. filled (suc j) (omega (arith, below)))) ∙ later n (vacant_slot (drop n xs))

-- the first, or a later one behind so many
abbrev pub or_later : Option ℕ → ℕ → Option ℕ → Option ℕ
or_later (Some i) n o = Some i
or_later None n o = option_map (λ m. n + m) o

later_or : (o : Option ℕ) (n : ℕ) (p : Option ℕ) → option_map (λ m. suc m) (or_later o n p) ≡ or_later (option_map (λ m. suc m) o) (suc n) p
later_or (Some i) n p = refl
later_or None n p = later n p

-- in slots behind others
pub vacant-append : {A : Type 0} (xs ys : List (Option A)) → vacant_slot (xs ++ ys) ≡ or_later (vacant_slot xs) (length xs) (vacant_slot ys)
vacant-append [] ys = same-map (vacant_slot ys)
vacant-append (None ∷ xs) ys = first-empty (xs ++ ys) ∙ ap (λ (o : Option ℕ). or_later o (suc (length xs)) (vacant_slot ys)) (sym (first-empty xs))
vacant-append (Some a ∷ xs) ys =
    first-filled a (xs ++ ys) ∙ ap (option_map (λ (m : ℕ). suc m)) (vacant-append xs ys) ∙ later_or (vacant_slot xs) (length xs) (vacant_slot ys)
    ∙ ap (λ (o : Option ℕ). or_later o (suc (length xs)) (vacant_slot ys)) (sym (first-filled a xs))

-- nothing is filled
pub vacant-none : (n : ℕ) → 0 < n → vacant_slot {A = Def} (replicate n None) ≡ Some 0
vacant-none zero some = absurd (omega arith)
vacant-none (suc n) some = position-more (λ (x : Option Def). is_none x) None (replicate n None)

-- behind filled slots of a table there is one, if there are more
pub vacant-behind-all : (count len : ℕ) → option_map (λ m. len + m) (vacant_slot {A = Def} (replicate (count - len) None)) ≡ slot_behind len count
vacant-behind-all count len = elim (cases_lt len count) [
  | inl low ↦
      ap (option_map (λ (m : ℕ). len + m)) (vacant-none (count - len) (omega (arith, low))) ∙ (let e : len + 0 ≡ len = omega arith in ap (λ (k : ℕ). Some k) e)
      ∙ ap (λ (b : Bool). cond b (Some len) None) (sym (lt-ltb len count low))
  | inr high ↦
      ap (λ (n : ℕ). option_map (λ (m : ℕ). len + m) (vacant_slot {A = Def} (replicate n None))) (let e : count - len ≡ 0 = omega (arith, high) in e)
      ∙ ap (λ (b : Bool). cond b (Some len) None) (sym (le-ltb len count high))
]
