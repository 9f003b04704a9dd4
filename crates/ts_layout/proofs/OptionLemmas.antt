-- Values that are there or not.
use Rattle.std.proofs.Common.{◌≡◌, ◌<◌, ℕ, IsSome, Option, Some, None, List, length, refl, inl, inr, ◌⊎◌}
use Rattle.std.specs.Option.{option_map, option_and_then}
use Rattle.std.proofs.lemmas.Bool.{cases_lt}
use Rattle.std.proofs.lemmas.List.{get_or_past}
use Rattle.ts_model.specs.Definitions.{at_slot}

pub none≢some : {A : Type 0} (o : Option A) (a : A) → o ≡ None → o ≡ Some a → ⊥
none≢some o a none some = cc

pub one_of : {A : Type 0} (o : Option A) (a b : A) → o ≡ Some a → o ≡ Some b → a ≡ b
one_of o a b first second = cc

pub there_of : {A : Type 0} (o : Option A) → IsSome o → (a : A) × (o ≡ Some a)
there_of (Some a) some = (a, refl)
there_of None some = absurd (cc)

pub there_or : {A : Type 0} (o : Option A) → (o ≡ None) ⊎ ((a : A) × (o ≡ Some a))
there_or None = inl refl
there_or (Some a) = inr (a, refl)

-- what a value is made from that is there
pub chained : {A B : Type 0} (f : A → Option B) (o : Option A) (b : B) → option_and_then f o ≡ Some b → (a : A) × (o ≡ Some a) × (f a ≡ Some b)
chained f None b is = absurd (cc)
chained f (Some a) b is = (a, refl, is)

pub mapped : {A B : Type 0} (f : A → B) (o : Option A) (b : B) → option_map f o ≡ Some b → (a : A) × (o ≡ Some a) × (f a ≡ b)
mapped f None b is = absurd (cc)
mapped f (Some a) b is = (a, refl, cc)

-- a filled slot is one of the table's
pub within_table : {A : Type 0} (table : List (Option A)) (i : ℕ) (a : A) → at_slot i table ≡ Some a → i < length table
within_table table i a here =
    elim (cases_lt i (length table)) [
      | inl low ↦ low
      | inr high ↦ absurd (none≢some (at_slot i table) a (get_or_past table i None high) here)
    ]
