-- Cells one behind the other: the first and the last, and those between.
use Rattle.std.proofs.Common.{◌≡◌, ℕ, zero, suc, ◌+◌, ◌-◌, ◌*◌, ◌<◌, ◌≤◌, true, false, List, [], ◌∷◌, ◌++◌, length, length-drop, take, take-take, drop, drop-drop, refl, sym, ap, ◌∙◌, arith}
use Rattle.std.proofs.lemmas.List.{take_all, drop-take}
use Rattle.std.proofs.Math.Nat.{suc-mul, mul-suc}
use Rattle.ts_aggregate.specs.declared.cells.ValuePosition.{ValuePosition}
use Rattle.ts_aggregate.specs.Column.{has_value, bytes_of, with_cell, found_in, AreCells}

-- without one of them there is a cell less
pub one_less : (left size bytes rest : ℕ) → 0 < left → bytes ≡ left * size → rest + size ≡ bytes → rest ≡ (left - 1) * size
one_less zero size bytes rest some whole less = absurd (omega (arith, some))
one_less (suc n) size bytes rest some whole less =
    let fewer : n ≡ suc n - 1 = omega arith in
    let left : rest ≡ n * size = omega (arith, whole, less, suc-mul n size) in
    left ∙ ap (λ k. k * size) fewer

-- there is room for one
pub one_fits : (left size bytes : ℕ) → 0 < left → bytes ≡ left * size → size ≤ bytes
one_fits zero size bytes some whole = absurd (omega (arith, some))
one_fits (suc n) size bytes some whole = omega (arith, whole, suc-mul n size)

-- a cell with a value
pub seen : (s : ValuePosition) (cell : List ℕ) (others : List (List ℕ)) → has_value s cell ≡ true
    → with_cell s cell others ≡ bytes_of s cell ∷ others
seen s cell others has = rw has refl

-- a cell without one
pub unseen : (s : ValuePosition) (cell : List ℕ) (others : List (List ℕ)) → has_value s cell ≡ false → with_cell s cell others ≡ others
unseen s cell others has = rw has refl

-- the first of some cells
pub first_of : (s : ValuePosition) (left : ℕ) (bytes cell rest : List ℕ) → 0 < left → cell ≡ take s.size bytes → rest ≡ drop s.size bytes
    → found_in s left bytes ≡ with_cell s cell (found_in s (left - 1) rest)
first_of s zero bytes cell rest some front back = absurd (omega (arith, some))
first_of s (suc n) bytes cell rest some front back =
    let fewer : suc n - 1 ≡ n = omega arith in
    rw (fewer, front, back) refl

-- a cell before others
with_cell-append : (s : ValuePosition) (cell : List ℕ) (xs ys : List (List ℕ)) → with_cell s cell (xs ++ ys) ≡ with_cell s cell xs ++ ys
with_cell-append s cell xs ys = elim (has_value s cell) as
    (λ b. has_value s cell ≡ b → with_cell s cell (xs ++ ys) ≡ with_cell s cell xs ++ ys) [
      | true ↦ λ has. rw (seen s cell (xs ++ ys) has, seen s cell xs has) refl
      | false ↦ λ has. rw (unseen s cell (xs ++ ys) has, unseen s cell xs has) refl
    ] refl

-- no cells have no values
pub none_found : (s : ValuePosition) (left : ℕ) (bytes : List ℕ) → left ≤ 0 → found_in s left bytes ≡ []
none_found s zero bytes none = refl
none_found s (suc n) bytes none = absurd (omega (arith, none))

-- the last of some cells
found_last : (s : ValuePosition) (n : ℕ) (bytes : List ℕ) → length bytes ≡ suc n * s.size
    → found_in s (suc n) bytes ≡ found_in s n (take (n * s.size) bytes) ++ with_cell s (drop (n * s.size) bytes) []
found_last s zero bytes whole =
    let none : 0 * s.size ≡ 0 = omega arith in
    let all : take s.size bytes ≡ bytes = take_all s.size bytes (omega (arith, whole, suc-mul 0 s.size)) in
    ap (λ l. with_cell s l []) all ∙ ap (λ k. with_cell s (drop k bytes) []) (sym none)
found_last s (suc m) bytes whole =
    let more : suc m * s.size ≡ s.size + m * s.size = omega (arith, suc-mul m s.size) in
    let front : take s.size (take (suc m * s.size) bytes) ≡ take s.size bytes = ap (λ k. take s.size (take k bytes)) more
    ∙ take-take s.size (s.size + m * s.size) bytes (omega arith) in
    let middle : drop s.size (take (suc m * s.size) bytes) ≡ take (m * s.size) (drop s.size bytes) = ap
    (λ k. drop s.size (take k bytes)) more ∙ drop-take s.size (m * s.size) bytes in
    let back : drop (suc m * s.size) bytes ≡ drop (m * s.size) (drop s.size bytes) = ap (λ k. drop k bytes) more
    ∙ sym (drop-drop (m * s.size) s.size bytes) in
    let others : length (drop s.size bytes) ≡ suc m * s.size = omega (arith, length-drop s.size bytes, whole, suc-mul (suc m) s.size) in
    ap (with_cell s (take s.size bytes)) (found_last s m (drop s.size bytes) others)
    ∙ with_cell-append s (take s.size bytes) (found_in s m (take (m * s.size) (drop s.size bytes)))
    (with_cell s (drop (m * s.size) (drop s.size bytes)) [])
    ∙ ap (λ l. with_cell s l (found_in s m (take (m * s.size) (drop s.size bytes))) ++ with_cell s
    (drop (m * s.size) (drop s.size bytes)) []) (sym front)
    ∙ ap (λ l. with_cell s (take s.size (take (suc m * s.size) bytes)) (found_in s m l) ++ with_cell s
    (drop (m * s.size) (drop s.size bytes)) []) (sym middle)
    ∙ ap (λ l. found_in s (suc m) (take (suc m * s.size) bytes) ++ with_cell s l []) (sym back)

-- it, and those before it
pub last_of : (s : ValuePosition) (left : ℕ) (bytes rest cell : List ℕ) → 0 < left → length bytes ≡ left * s.size
    → rest ≡ take (length bytes - s.size) bytes
    → cell ≡ drop (length bytes - s.size) bytes → found_in s left bytes ≡ found_in s (left - 1) rest ++ with_cell s cell []
last_of s zero bytes rest cell some whole front back = absurd (omega (arith, some))
last_of s (suc n) bytes rest cell some whole front back =
    let size : length bytes - s.size ≡ n * s.size = omega (arith, whole, suc-mul n s.size) in
    let fewer : n ≡ suc n - 1 = omega arith in
    found_last s n bytes whole
    ∙ ap (λ l. found_in s n l ++ with_cell s (drop (n * s.size) bytes) []) (ap (λ k. take k bytes) (sym size) ∙ sym front)
    ∙ ap (λ l. found_in s n rest ++ with_cell s l []) (ap (λ k. drop k bytes) (sym size) ∙ sym back)
    ∙ ap (λ k. found_in s k rest ++ with_cell s cell []) fewer

-- a cell has at most one value
with_cell-le : (s : ValuePosition) (cell : List ℕ) (others : List (List ℕ)) → length (with_cell s cell others) ≤ suc (length others)
with_cell-le s cell others = elim (has_value s cell) as
    (λ b. has_value s cell ≡ b → length (with_cell s cell others) ≤ suc (length others)) [
      | true ↦ λ has. rw (seen s cell others has) (omega arith)
      | false ↦ λ has. rw (unseen s cell others has) (omega arith)
    ] refl

-- cells have no more values than they are
pub found-le : (s : ValuePosition) (left : ℕ) (bytes : List ℕ) → length (found_in s left bytes) ≤ left
found-le s zero bytes = omega arith
found-le s (suc n) bytes = omega (
  arith,
  with_cell-le s (take s.size bytes) (found_in s n (drop s.size bytes)),
  found-le s n
      (drop s.size bytes),
)

-- nor more than there are bytes
pub found-few : (s : ValuePosition) (left : ℕ) (bytes : List ℕ) → AreCells s left bytes → length (found_in s left bytes) ≤ length bytes
found-few s left bytes are = by_size s.size are.whole (omega (arith, are.front)) where
  by_size : (size : ℕ) → length bytes ≡ left * size → 0 < size → length (found_in s left bytes) ≤ length bytes
  by_size zero whole some = absurd (omega (arith, some))
  by_size (suc k) whole some = omega (arith, whole, mul-suc left k, found-le s left bytes)
