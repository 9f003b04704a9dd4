-- What a site in memory holds are bytes.
use Rattle.std.proofs.Common.{◌≡◌, inl, inr, ℕ, ◌+◌, ◌-◌, ◌<◌, ◌≤◌, get_or, true, false, List, [], ◌++◌, length, take, drop, replicate, refl, sym, subst, arith, length-take}
use Rattle.std.proofs.lemmas.Bool.{cases_lt}
use Rattle.std.proofs.lemmas.List.{get_or-take, get_or-drop, get_or_past, get_or_append_left, get_or-append_right, get_or-replicate, length-replicate}
use Rattle.ts_disk.specs.declared.calls.Call.{Call}
use Rattle.ts_disk.specs.declared.calls.Call.TheVariants.{Resize, Read, Write, Sync, Say}
use Rattle.ts_disk.specs.Device.{AreBytes}
use Rattle.ts_disk.specs.Replay.{State, after_call, IsOfBytes, put}

past : (bytes : List ℕ) (i : ℕ) → length bytes ≤ i → get_or bytes i 0 < 256
past bytes i le = subst (λ (b : ℕ). b < 256) (sym (get_or_past bytes i 0 le)) (omega arith)

pub no_bytes : AreBytes []
no_bytes i = past [] i (omega arith)

-- a part of bytes
pub bytes_drop : (n : ℕ) (bytes : List ℕ) → AreBytes bytes → AreBytes (drop n bytes)
bytes_drop n bytes small i = subst (λ (b : ℕ). b < 256) (sym (get_or-drop n bytes i 0)) (small (n + i))

pub bytes_take : (n : ℕ) (bytes : List ℕ) → AreBytes bytes → AreBytes (take n bytes)
bytes_take n bytes small i = elim (cases_lt i n) [
  | inl below ↦ subst (λ (b : ℕ). b < 256) (sym (get_or-take n bytes i 0 below)) (small i)
  | inr behind ↦ past (take n bytes) i (omega (arith, behind, length-take n bytes))
]

-- bytes one behind the other
pub bytes_append : (xs ys : List ℕ) → AreBytes xs → AreBytes ys → AreBytes (xs ++ ys)
bytes_append xs ys first second i = elim (cases_lt i (length xs)) [
  | inl below ↦ subst (λ (b : ℕ). b < 256) (sym (get_or_append_left xs ys 0 i below)) (first i)
  | inr behind ↦ subst (λ (b : ℕ). b < 256) (sym (get_or-append_right xs ys (length xs) i 0 refl behind)) (second (i - length xs))
]

pub bytes_zero : (n : ℕ) → AreBytes (replicate n 0)
bytes_zero n i = elim (cases_lt i n) [
  | inl below ↦ subst (λ (b : ℕ). b < 256) (sym (get_or-replicate n i 0 0 below)) (omega arith)
  | inr behind ↦ past (replicate n 0) i (omega (arith, behind, length-replicate {A = ℕ} n 0))
]

-- bytes are put over bytes
pub bytes_put : (at : ℕ) (bytes old : List ℕ) → AreBytes bytes → AreBytes old → AreBytes (put at bytes old)
bytes_put at bytes old new there =
    let part = take (length old - at) bytes in
    bytes_append (take at old ++ part) (drop (at + length part) old)
    (bytes_append (take at old) part (bytes_take at old there) (bytes_take (length old - at) bytes new)) (bytes_drop (at + length part) old there)

-- one call more
pub bytes_after : (call : Call) (bytes : List ℕ) (s : State) → IsOfBytes s → AreBytes bytes → IsOfBytes (after_call call bytes s)
bytes_after (Resize n true) bytes s before new = (bytes_append s.held (replicate (n - length s.held) 0) before.0 (bytes_zero (n - length s.held)), before.1)
bytes_after (Resize n false) bytes s before new = before
bytes_after (Read ok) bytes s before new = before
bytes_after (Write at n true) bytes s before new = (bytes_put at bytes s.held new before.0, before.1)
bytes_after (Write at n false) bytes s before new = before
bytes_after (Sync true) bytes s before new = (before.0, before.0)
bytes_after (Sync false) bytes s before new = before
bytes_after (Say n true) bytes s before new = before
bytes_after (Say n false) bytes s before new = before
