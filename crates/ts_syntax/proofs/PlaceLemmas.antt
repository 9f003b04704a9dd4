-- Where the byte behind more bytes stands.
use Rattle.std.proofs.Common.{◌≡◌, ℕ, ◌+◌, ◌≤◌, ◌==◌, true, false, not, cond, List, [], ◌∷◌, ◌++◌, length, reverse, count_by, refl, sym, ◌∙◌, ap, subst, arith, append_assoc, ◌<◌, take, get_or}
use Rattle.std.proofs.lemmas.Bool.Decides.{nat_tests}
use Rattle.std.proofs.lemmas.List.{append-nil, take_more}
use Rattle.std.specs.List.{prefix_len}
use Rattle.std.proofs.lemmas.List.{reverse-append, length-reverse}
use Rattle.std.proofs.lemmas.List.Sums.{sum_by-append, count_by-le-length, prefix_len-le-length}
use Rattle.ts_syntax.specs.Places.{line_behind, column_behind, IsBehind}
use Rattle.ts_syntax.specs.declared.position.Position.{Position}

-- one more line feed, or none
lines_on : (before : List ℕ) (b : ℕ) → line_behind (before ++ b ∷ []) ≡ line_behind before + count_by (λ x. x == 10) (b ∷ [])
lines_on before b = omega (arith, sum_by-append (λ (x : ℕ). cond (x == 10) 1 0) before (b ∷ []))

-- the last byte comes first
column_on : (before : List ℕ) (b : ℕ) → column_behind (before ++ b ∷ []) ≡ 1 + prefix_len (λ x. not (x == 10)) (b ∷ reverse before)
column_on before b = ap (λ (l : List ℕ). 1 + prefix_len (λ x. not (x == 10)) l) (reverse-append before (b ∷ []))

-- behind a line feed
pub feed_line : (before : List ℕ) (b : ℕ) → (b == 10) ≡ true → line_behind (before ++ b ∷ []) ≡ line_behind before + 1
feed_line before b is = let one : count_by (λ x. x == 10) (b ∷ []) ≡ 1 = rw is refl in omega (arith, lines_on before b, one)

pub feed_column : (before : List ℕ) (b : ℕ) → (b == 10) ≡ true → column_behind (before ++ b ∷ []) ≡ 1
feed_column before b is = let none : prefix_len (λ x. not (x == 10)) (b ∷ reverse before) ≡ 0 = rw is refl in omega (arith, column_on before b, none)

-- behind another byte
pub other_line : (before : List ℕ) (b : ℕ) → (b == 10) ≡ false → line_behind (before ++ b ∷ []) ≡ line_behind before
other_line before b is = let none : count_by (λ x. x == 10) (b ∷ []) ≡ 0 = rw is refl in omega (arith, lines_on before b, none)

pub other_column : (before : List ℕ) (b : ℕ) → (b == 10) ≡ false → column_behind (before ++ b ∷ []) ≡ column_behind before + 1
other_column before b is =
    let more : prefix_len (λ x. not (x == 10)) (b ∷ reverse before) ≡ 1 + prefix_len (λ x. not (x == 10)) (reverse before) = rw is refl in
    omega (arith, column_on before b, more)

-- no number is past the bytes
pub line-le : (before : List ℕ) → line_behind before ≤ 1 + length before
line-le before = omega (arith, count_by-le-length (λ (b : ℕ). b == 10) before)

pub column-le : (before : List ℕ) → column_behind before ≤ 1 + length before
column-le before = omega (arith, prefix_len-le-length (λ (b : ℕ). not (b == 10)) (reverse before), length-reverse before)

-- the byte behind a line feed
pub behind_feed : (before : List ℕ) (b line column : ℕ) (position : Position) → b ≡ 10 → IsBehind before position → line ≡ position.line + 1 → column ≡ 1 → IsBehind (before ++ b ∷ []) (record { line = line; column = column })
behind_feed before b line column position is here next first =
    let test : (b == 10) ≡ true = grind (arith, nat_tests) in
    record { line = next ∙ ap (λ n. n + 1) here.line ∙ sym (feed_line before b test); column = first ∙ sym (feed_column before b test) }

-- the byte behind another
pub behind_other : (before : List ℕ) (b column : ℕ) (position : Position) → (b ≡ 10 → ⊥) → IsBehind before position → column ≡ position.column + 1 → IsBehind (before ++ b ∷ []) (record { line = position.line; column = column })
behind_other before b column position other here next =
    let test : (b == 10) ≡ false = grind (arith, nat_tests) in
    record { line = here.line ∙ sym (other_line before b test); column = next ∙ ap (λ n. n + 1) here.column ∙ sym (other_column before b test) }

-- one byte more of a list
pub behind_next : (before bytes : List ℕ) (i : ℕ) (position : Position) → i < length bytes → IsBehind ((before ++ take i bytes) ++ get_or bytes i 0 ∷ []) position → IsBehind (before ++ take (i + 1) bytes) position
behind_next before bytes i position lt here =
    let same : (before ++ take i bytes) ++ get_or bytes i 0 ∷ [] ≡ before ++ take (i + 1) bytes = append_assoc before (take i bytes) (get_or bytes i 0 ∷ []) ∙ ap (λ (l : List ℕ). before ++ l) (sym (take_more bytes i 0 lt)) in
    subst (λ (l : List ℕ). IsBehind l position) same here

-- no byte
pub behind_none : (before : List ℕ) (position : Position) → IsBehind before position → IsBehind (before ++ []) position
behind_none before position here = subst (λ (l : List ℕ). IsBehind l position) (sym (append-nil before)) here
