-- Bytes that are written into a slice part by part.
use Rattle.std.proofs.Common.{◌≡◌, ℕ, ◌+◌, ◌-◌, ◌≤◌, List, [], ◌∷◌, ◌++◌, length, take, drop, set, replicate, sym, ap, ◌∙◌, arith, append_assoc, length-append, length-drop, length-take, length-set}
use borrow.Rule.Slice.PartMut.{put_mid}
use Rattle.std.proofs.lemmas.List.{drop_all, drop-replicate, append-nil}
use Rattle.std.proofs.lemmas.Slice.{take-put_mid}
use Rattle.std.specs.List.{flat_map}
use Rattle.ts_layout.specs.Slot.{padded}

-- bytes in front of padded ones
pub padded-append : (size : ℕ) (front bytes : List ℕ) → padded size (front ++ bytes) ≡ front ++ padded (size - length front) bytes
unfolding padded
padded-append size front bytes =
    let left : size - length (front ++ bytes) ≡ size - length front - length bytes = omega (arith, length-append front bytes) in
    ap (λ n. (front ++ bytes) ++ replicate n 0) left ∙ append_assoc front bytes (replicate (size - length front - length bytes) 0)

-- the first part of a slice
pub front : (w : ℕ) (into : List ℕ) → w ≤ length into → w ≡ length (take w into)
front w into room = omega (arith, length-take w into)

-- bytes written over zeros
pub put_over_zeros : (n : ℕ) (text : List ℕ) → put_mid 0 (length text) (replicate n 0) text ≡ text ++ replicate (n - length text) 0
put_over_zeros n text = ap (λ rest. text ++ rest) (drop-replicate (length text) n 0)

-- the first byte, and the rest written behind it
put_behind : (x n : ℕ) (cell bytes : List ℕ) → length bytes + 1 ≡ length cell → n ≡ length cell → put_mid 1 (n - 1) (set cell 0 x) bytes ≡ x ∷ bytes
put_behind x n [] bytes room is = absurd (omega arith)
put_behind x n (first ∷ cell) bytes room is =
    ap (λ rest. x ∷ (bytes ++ rest)) (drop_all (n - 1) cell (omega arith)) ∙ ap (λ l. x ∷ l) (append-nil bytes)

-- the same, where the rest is known as other bytes
pub behind : (x : ℕ) (into part bytes : List ℕ) → part ≡ bytes → length part ≡ length (take (length (set into 0 x) - 1) (drop 1 (set into 0 x))) → 1 ≤ length into → put_mid 1 (length (set into 0 x) - 1) (set into 0 x) part ≡ x ∷ bytes
behind x into part bytes is long some =
    let size : length part + 1 ≡ length into = omega (arith, long, length-take (length (set into 0 x) - 1) (drop 1 (set into 0 x)), length-drop 1 (set into 0 x), length-set into 0 x) in
    put_behind x (length (set into 0 x)) into part size (length-set into 0 x) ∙ ap (λ rest. x ∷ rest) is

-- the first two bytes, and the rest written behind them
put_behind_two : (x y n : ℕ) (cell bytes : List ℕ) → length bytes + 2 ≡ length cell → n ≡ length cell → put_mid 2 (n - 2) (set (set cell 0 x) 1 y) bytes ≡ x ∷ y ∷ bytes
put_behind_two x y n [] bytes room is = absurd (omega arith)
put_behind_two x y n (first ∷ []) bytes room is = absurd (omega arith)
put_behind_two x y n (first ∷ second ∷ cell) bytes room is =
    ap (λ rest. x ∷ y ∷ (bytes ++ rest)) (drop_all (n - 2) cell (omega arith)) ∙ ap (λ l. x ∷ y ∷ l) (append-nil bytes)

pub behind_two : (x y : ℕ) (into part bytes : List ℕ) → part ≡ bytes → length part ≡ length (take (length (set (set into 0 x) 1 y) - 2) (drop 2 (set (set into 0 x) 1 y))) → 2 ≤ length into → put_mid 2 (length (set (set into 0 x) 1 y) - 2) (set (set into 0 x) 1 y) part ≡ x ∷ y ∷ bytes
behind_two x y into part bytes is long some =
    let same : length (set (set into 0 x) 1 y) ≡ length into = length-set (set into 0 x) 1 y ∙ length-set into 0 x in
    let size : length part + 2 ≡ length into = omega (arith, long, length-take (length (set (set into 0 x) 1 y) - 2) (drop 2 (set (set into 0 x) 1 y)), length-drop 2 (set (set into 0 x) 1 y), same) in
    put_behind_two x y (length (set (set into 0 x) 1 y)) into part size same ∙ ap (λ rest. x ∷ y ∷ rest) is

-- the same, where the rest was padded to what was left
pub behind_padded : (x k : ℕ) (into part text bytes : List ℕ) → part ≡ padded (length (take (length (set into 0 x) - 1) (drop 1 (set into 0 x)))) text → text ≡ bytes → length part ≡ length (take (length (set into 0 x) - 1) (drop 1 (set into 0 x))) → length into ≡ k + 1 → put_mid 1 (length (set into 0 x) - 1) (set into 0 x) part ≡ x ∷ padded k bytes
behind_padded x k into part text bytes is same long room =
    let left : length (take (length (set into 0 x) - 1) (drop 1 (set into 0 x))) ≡ k = simp (length-take, length-drop, length-set) (omega arith) in
    behind x into part (padded k bytes) (is ∙ (λ i. padded (left i) (same i))) long (omega arith)

-- two parts written one behind the other
put_parts : (w n : ℕ) (into cell rest : List ℕ) → length cell ≡ w → w + length rest ≡ n → length into ≡ n → put_mid w (n - w) (put_mid 0 w into cell) rest ≡ cell ++ rest
put_parts w n into cell rest width room long =
    let before : take w (put_mid 0 w into cell) ≡ cell = take-put_mid 0 w into cell w (omega arith) (omega arith) in
    let size : length (put_mid 0 w into cell) ≡ n = simp (length-append, length-drop) (omega arith) in
    let after : drop (n - w) (drop w (put_mid 0 w into cell)) ≡ [] =
    drop_all (n - w) (drop w (put_mid 0 w into cell)) (omega (arith, length-drop w (put_mid 0 w into cell))) in
    ap (λ l. l ++ (rest ++ drop (n - w) (drop w (put_mid 0 w into cell)))) before
    ∙ ap (λ l. cell ++ (rest ++ l)) after ∙ ap (λ l. cell ++ l) (append-nil rest)

-- the same, where the parts are known as other bytes
pub parts : (w : ℕ) (into cell rest a b : List ℕ) → cell ≡ a → rest ≡ b → length cell ≡ length (take w into) → length rest ≡ length (take (length (put_mid 0 w into cell) - w) (drop w (put_mid 0 w into cell))) → w ≤ length into → put_mid w (length (put_mid 0 w into cell) - w) (put_mid 0 w into cell) rest ≡ a ++ b
parts w into cell rest a b first second width long room =
    let wide : length cell ≡ w = width ∙ sym (front w into room) in
    let size : length (put_mid 0 w into cell) ≡ length into = simp (length-append, length-drop) (omega arith) in
    let left : length (take (length (put_mid 0 w into cell) - w) (drop w (put_mid 0 w into cell))) ≡ length into - w = simp (length-take, length-drop) (omega (arith, size)) in
    put_parts w (length (put_mid 0 w into cell)) into cell rest wide (omega (arith, size, long, left)) (sym size) ∙ (λ i. first i ++ second i)

-- the same, where the second was padded to what was left
pub parts_padded : (w k : ℕ) (into cell rest a b : List ℕ) → cell ≡ a → rest ≡ padded (length (take (length (put_mid 0 w into cell) - w) (drop w (put_mid 0 w into cell)))) b → length cell ≡ length (take w into) → length rest ≡ length (take (length (put_mid 0 w into cell) - w) (drop w (put_mid 0 w into cell))) → w + k ≡ length into → put_mid w (length (put_mid 0 w into cell) - w) (put_mid 0 w into cell) rest ≡ a ++ padded k b
parts_padded w k into cell rest a b first second width long room =
    let wide : length cell ≡ w = width ∙ sym (front w into (omega arith)) in
    let size : length (put_mid 0 w into cell) ≡ length into = simp (length-append, length-drop) (omega arith) in
    let left : length (take (length (put_mid 0 w into cell) - w) (drop w (put_mid 0 w into cell))) ≡ k = simp (length-take, length-drop) (omega (arith, size)) in
    parts w into cell rest a (padded k b) first (second ∙ ap (λ n. padded n b) left) width long (omega arith)

-- one more of some things that have so many bytes each
pub one_more : {A : Type 0} (f : A → List ℕ) (w : ℕ) (x : A) (all xs : List A) (into cell rest : List ℕ) → all ≡ x ∷ xs → cell ≡ f x → length cell ≡ length (take w into)
    → rest ≡ padded (length (take (length (put_mid 0 w into cell) - w) (drop w (put_mid 0 w into cell)))) (flat_map f xs)
    → length rest ≡ length (take (length (put_mid 0 w into cell) - w) (drop w (put_mid 0 w into cell))) → w ≤ length into
    → put_mid w (length (put_mid 0 w into cell) - w) (put_mid 0 w into cell) rest ≡ padded (length into) (flat_map f all)
one_more f w x all xs into cell rest split first width second long room =
    let wide : length cell ≡ w = width ∙ sym (front w into room) in
    parts_padded w (length into - w) into cell rest cell (flat_map f xs) (λ i. cell) second width long (omega arith)
    ∙ ap (λ n. cell ++ padded (length into - n) (flat_map f xs)) (sym wide)
    ∙ sym (padded-append (length into) cell (flat_map f xs))
    ∙ ap (λ l. padded (length into) (l ++ flat_map f xs)) first
    ∙ ap (λ l. padded (length into) (flat_map f l)) (sym split)

-- none of them
pub no_more : {A : Type 0} (f : A → List ℕ) (all : List A) (size : ℕ) (into : List ℕ) → length all ≡ 0 → into ≡ padded size [] → into ≡ padded size (flat_map f all)
no_more f [] size into none is = is
no_more f (x ∷ xs) size into none is = absurd (omega arith)
