-- Bytes that are written into a slice part by part, and numbers as bytes.
use Rattle.std.proofs.Common.{◌≡◌, ℕ, ◌+◌, ◌-◌, ◌^◌, ◌<◌, ◌≤◌, List, [], ◌∷◌, ◌++◌, length, take, drop, set, replicate, ap, ◌∙◌, arith, lit<, length-append, length-drop}
use borrow.Rule.Slice.PartMut.{put_mid}
use Rattle.std.proofs.lemmas.List.{drop_all, drop-replicate, append-nil}
use Rattle.std.proofs.lemmas.Slice.{take-put_mid}
use Rattle.std.proofs.Math.Nat.{pow-le-pow_right}

-- the first byte, and the rest written behind it
pub put_behind_one : (x n : ℕ) (cell bytes : List ℕ) → length bytes + 1 ≡ length cell → n ≡ length cell → put_mid 1 (n - 1) (set cell 0 x) bytes ≡ x ∷ bytes
put_behind_one x n [] bytes room is = absurd (omega arith)
put_behind_one x n (first ∷ cell) bytes room is =
    ap (λ rest. x ∷ (bytes ++ rest)) (drop_all (n - 1) cell (omega arith)) ∙ ap (λ l. x ∷ l) (append-nil bytes)

-- the first two bytes, and the rest written behind them
pub put_behind_two : (x y n : ℕ) (cell bytes : List ℕ) → length bytes + 2 ≡ length cell → n ≡ length cell → put_mid 2 (n - 2) (set (set cell 0 x) 1 y) bytes ≡ x ∷ y ∷ bytes
put_behind_two x y n [] bytes room is = absurd (omega arith)
put_behind_two x y n (first ∷ []) bytes room is = absurd (omega arith)
put_behind_two x y n (first ∷ second ∷ cell) bytes room is =
    ap (λ rest. x ∷ y ∷ (bytes ++ rest)) (drop_all (n - 2) cell (omega arith)) ∙ ap (λ l. x ∷ y ∷ l) (append-nil bytes)

-- a text written over zeros
pub put_over_zeros : (n : ℕ) (text : List ℕ) → put_mid 0 (length text) (replicate n 0) text ≡ text ++ replicate (n - length text) 0
put_over_zeros n text = ap (λ rest. text ++ rest) (drop-replicate (length text) n 0)

-- two parts written one behind the other
pub put_parts : (w n : ℕ) (into cell rest : List ℕ) → length cell ≡ w → w + length rest ≡ n → length into ≡ n → put_mid w (n - w) (put_mid 0 w into cell) rest ≡ cell ++ rest
put_parts w n into cell rest width room long =
    let front : take w (put_mid 0 w into cell) ≡ cell = take-put_mid 0 w into cell w (omega arith) (omega arith) in
    let size : length (put_mid 0 w into cell) ≡ n = simp (length-append, length-drop) (omega arith) in
    let behind : drop (n - w) (drop w (put_mid 0 w into cell)) ≡ [] =
    drop_all (n - w) (drop w (put_mid 0 w into cell)) (omega (arith, length-drop w (put_mid 0 w into cell))) in
    ap (λ l. l ++ (rest ++ drop (n - w) (drop w (put_mid 0 w into cell)))) front
    ∙ ap (λ l. cell ++ (rest ++ l)) behind ∙ ap (λ l. cell ++ l) (append-nil rest)

-- numbers of at most 18 digits have 64 bits
pub short_bound : (digits n : ℕ) → n < 10 ^ digits → digits ≤ 18 → n < 2 ^ 63
short_bound digits n below few =
    let step : 10 ^ digits ≤ 10 ^ 18 = pow-le-pow_right (lit< tt) {i = digits} {j = 18} few in
    let top : 10 ^ 18 < 2 ^ 63 = lit< tt in
    omega arith

-- for `grind`
pub ruleset behind_one = (put_behind_one)

pub ruleset behind_two = (put_behind_two)

pub ruleset over_zeros = (put_over_zeros)

pub ruleset parts = (put_parts)
