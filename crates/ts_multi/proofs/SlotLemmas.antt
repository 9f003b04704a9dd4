-- The places of transactions in a list.
use Rattle.std.proofs.Common.{◌≡◌, ℕ, zero, suc, ◌+◌, ◌<◌, Bool, true, List, [], ◌∷◌, length, map, get_or, Option, Some, None, refl, ◌∙◌, ap, arith, inl, inr, ◌≢◌}
use Rattle.std.specs.Prelude.{slice_set}
use Rattle.std.specs.Option.{IsSome, IfSome}
use Rattle.std.proofs.lemmas.Bool.Decides.{eqb_tells}
use Rattle.std.proofs.lemmas.List.{map-set, get_or-set_same, get_or-set_other}
use Rattle.ts_multi.specs.declared.object.Object.{Object}
use Rattle.ts_multi.specs.declared.object.Touched.{Touched}
use Rattle.ts_multi.specs.Objects.{written}
use Rattle.ts_multi.specs.Log.{Pending, Log, with_pending, wrote_of}
use Rattle.ts_multi.specs.Slot.{Standing}

-- the log of these commits and places
abbrev pub log_with : List (List Object) → List (Option Pending) → Bool → Log
log_with commits sessions room = record { commits = commits; sessions = sessions; room = room }

abbrev pub seen : List (List Object) → List Standing → Bool → Log
seen commits slots room = log_with commits (map (λ (x : Standing). x.pending) slots) room

-- a place whose transaction stays
pub pending-set : (slots : List Standing) (i : ℕ) (d s : Standing) → i < length slots → s.pending ≡ (get_or slots i d).pending → map (λ x. x.pending) (slice_set slots i s) ≡ map (λ x. x.pending) slots
pending-set [] i d s less e = absurd (omega arith)
pending-set (x ∷ xs) zero d s less e = ap (λ (p : Option Pending). p ∷ map (λ (y : Standing). y.pending) xs) e
pending-set (x ∷ xs) (suc i) d s less e = ap (λ (l : List (Option Pending)). x.pending ∷ l) (pending-set xs i d s (omega arith) e)

-- a place that is written
pub pending-put : (slots : List Standing) (i : ℕ) (s : Standing) (p : Option Pending) → s.pending ≡ p → map (λ (x : Standing). x.pending) (slice_set slots i s) ≡ slice_set (map (λ (x : Standing). x.pending) slots) i p
pending-put slots i s p e = map-set (λ (x : Standing). x.pending) slots i s ∙ ap (λ (q : Option Pending). slice_set (map (λ (x : Standing). x.pending) slots) i q) e

-- the log behind that
pub put_seen : (commits : List (List Object)) (room : Bool) (slots : List Standing) (i : ℕ) (s : Standing) (p : Option Pending) → s.pending ≡ p → seen commits (slice_set slots i s) room ≡ with_pending i p (seen commits slots room)
put_seen commits room slots i s p e = ap (λ (l : List (Option Pending)). log_with commits l room) (pending-put slots i s p e)

-- the transaction at a place
pub pending-at : (slots : List Standing) (i : ℕ) (d : Standing) → i < length slots → (get_or slots i d).pending ≡ get_or (map (λ (x : Standing). x.pending) slots) i None
pending-at [] i d less = absurd (omega arith)
pending-at (x ∷ xs) zero d less = refl
pending-at (x ∷ xs) (suc i) d less = pending-at xs i d (omega arith)

-- what its commands wrote
pub wrote-is : (pending : Option Pending) (noted : List Touched) → IsSome pending → IfSome pending (λ p. noted ≡ p.noted) → written noted ≡ wrote_of pending
wrote-is None noted some is = absurd (cc)
wrote-is (Some p) noted some is = ap written is

-- a place that gets room
pub room-set : (slots : List Standing) (i : ℕ) (s : Standing) → i < length slots → s.room ≡ true → ((k : ℕ) (d : Standing) → k < i → (get_or slots k d).room ≡ true)
    → (k : ℕ) (d : Standing) → k < i + 1 → (get_or (slice_set slots i s) k d).room ≡ true
room-set slots i s within room before k d less = elim (eqb_tells k i) [
  | inl same ↦
      let one : k ≡ i = same.1 in
      rw one (ap (λ (x : Standing). x.room) (get_or-set_same slots i s d within) ∙ room)
  | inr other ↦
      let apart : k ≢ i = other.1 in
      ap (λ (x : Standing). x.room) (get_or-set_other slots i k s d apart) ∙ before k d (omega (arith, apart))
]
