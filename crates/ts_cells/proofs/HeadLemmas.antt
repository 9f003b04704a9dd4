-- The head of an irregular page, and what stands behind it.
use Rattle.std.proofs.Common.{◌≡◌, ℕ, zero, suc, ◌-◌, ◌*◌, ◌^◌, ◌<◌, ◌≤◌, Bool, true, false, cond, ◌&&◌, ◌==◌, Some, None, List, [], ◌∷◌, ◌++◌, length, take, drop, replicate, get_or, lit<, le_trans, refl, sym, ap, subst, ◌∙◌, arith, length-take, length-drop}
use Rattle.std.specs.Int.{w16, to_be_bytes, from_be_bytes}
use Rattle.std.proofs.lemmas.Bool.Decides.{nat_tests}
use Rattle.std.proofs.lemmas.Nat.{be_bytes_2}
use Rattle.std.proofs.lemmas.List.{take-append-drop}
use Rattle.std.proofs.Math.Seq.{take-append_seam, drop-append_seam}
use Rattle.std.proofs.Math.Nat.{mul-div-le, mul-le-mul_left, div-le_of_le-mul}
use Rattle.ts_page.specs.declared.page.Head.TheVariants.{Free, Regular, Irregular}
use Rattle.ts_page.specs.Pages.{head_of, head_bytes, are_zero}
use Rattle.ts_page.proofs.HeadLemmas.{head_of-written}
use Rattle.ts_row.specs.declared.kind.Column.{Column}
use Rattle.ts_cells.specs.IrregularPage.{Element, cell_size, page_room, AreElements, AreInOrder, cells_bytes, behind_head, irregular_page, irregular_count, IsIrregularPage}
use Rattle.ts_cells.proofs.PageLemmas.{length-cells_bytes}

pub zero_is : (bytes : List ℕ) → are_zero bytes ≡ true → bytes ≡ replicate (length bytes) 0
zero_is [] zeros = refl
zero_is (b ∷ bytes) zeros =
    let first : b ≡ 0 = grind (arith, nat_tests) in
    let others : are_zero bytes ≡ true = grind (arith, nat_tests) in
    λ j. first j ∷ zero_is bytes others j

pub is_zero : (n : ℕ) → are_zero (replicate n 0) ≡ true
is_zero zero = refl
is_zero (suc n) = is_zero n

-- which head an irregular one is
cases_head : (a b c : Bool) (s t base m n : ℕ) → irregular_count (cond a (Some Free) (cond b (Some (Regular s t base)) (cond c (Some (Irregular s m)) None))) ≡ Some n → (c ≡ true) × (m ≡ n)
cases_head true b c s t base m n e = absurd (cc)
cases_head false true c s t base m n e = absurd (cc)
cases_head false false true s t base m n e = (refl, cc)
cases_head false false false s t base m n e = absurd (cc)

-- both of two tests
both : (a b : Bool) → (a && b) ≡ true → (a ≡ true) × (b ≡ true)
both true true e = (refl, refl)
both true false e = absurd (cc)
both false b e = absurd (cc)

-- two bytes
two_small : (a b : ℕ) → a < 256 → b < 256 → (i : ℕ) → get_or (a ∷ b ∷ []) i 0 < 256
two_small a b p q zero = p
two_small a b p q (suc zero) = q
two_small a b p q (suc (suc i)) = lit< tt

-- a page whose head tells a number of elements begins with that head
pub head_one : (page : List ℕ) (n : ℕ) → length page ≡ 4096 → ((i : ℕ) → get_or page i 0 < 256) → irregular_count (head_of page) ≡ Some n
    → (slot : ℕ) × (slot < 2 ^ 16) × (page ≡ head_bytes (Irregular slot n) ++ drop 32 page)
head_one (k ∷ s1 ∷ s2 ∷ c1 ∷ c2 ∷ rest) n long small tells =
    let slot : ℕ = from_be_bytes w16 (s1 ∷ s2 ∷ []) in
    let count : ℕ = from_be_bytes w16 (c1 ∷ c2 ∷ []) in
    let parts = cases_head (k == 0) _ _ slot _ _ count n tells in
    let tests = both (k == 2) (are_zero (take 27 rest)) parts.0 in
    let test : (k == 2) ≡ true = tests.0 in
    let kind : k ≡ 2 = grind (arith, nat_tests) in
    let a : s1 < 256 = small 1 in
    let b : s2 < 256 = small 2 in
    let slot_bytes : to_be_bytes w16 slot ≡ s1 ∷ s2 ∷ [] = be_bytes_2 (s1 ∷ s2 ∷ []) slot refl (two_small s1 s2 a b) refl in
    let count_bytes : to_be_bytes w16 n ≡ c1 ∷ c2 ∷ [] = ap (to_be_bytes w16) (sym parts.1) ∙ be_bytes_2 (c1 ∷ c2 ∷ []) count refl (two_small c1 c2 (small 3) (small 4)) refl in
    let size : length (take 27 rest) ≡ 27 = omega (arith, length-take 27 rest, long) in
    let padding : take 27 rest ≡ replicate 27 0 = zero_is (take 27 rest) tests.1 ∙ ap (λ (m : ℕ). replicate m 0) size in
    let head : head_bytes (Irregular slot n) ≡ k ∷ s1 ∷ s2 ∷ c1 ∷ c2 ∷ take 27 rest = λ j. sym kind j ∷ (slot_bytes j ++ count_bytes j ++ sym padding j) in
    let whole : k ∷ s1 ∷ s2 ∷ c1 ∷ c2 ∷ rest ≡ (k ∷ s1 ∷ s2 ∷ c1 ∷ c2 ∷ take 27 rest) ++ drop 27 rest = ap (λ (l : List ℕ). k ∷ s1 ∷ s2 ∷ c1 ∷ c2 ∷ l) (sym (take-append-drop 27 rest)) in
    (slot, omega arith, whole ∙ ap (λ (l : List ℕ). l ++ drop 27 rest) (sym head))
head_one [] n long small tells = absurd (omega arith)
head_one (a ∷ []) n long small tells = absurd (omega arith)
head_one (a ∷ b ∷ []) n long small tells = absurd (omega arith)
head_one (a ∷ b ∷ c ∷ []) n long small tells = absurd (omega arith)
head_one (a ∷ b ∷ c ∷ d ∷ []) n long small tells = absurd (omega arith)

-- as many cells as a page has room for lie in it
pub cells_fit : (columns : List Column) (n : ℕ) → n ≤ page_room columns → cell_size columns * n ≤ 4064
cells_fit columns n few = le_trans (mul-le-mul_left (cell_size columns) few) (mul-div-le 4064 (cell_size columns))

-- an irregular page: its head, and what stands behind it
pub irregular_head : (slot : ℕ) (columns : List Column) (es : List Element) → slot < 2 ^ 16 → length es < 2 ^ 16 → head_of (irregular_page slot columns es) ≡ Some (Irregular slot (length es))
unfolding irregular_page
irregular_head slot columns es small few = head_of-written (Irregular slot (length es)) (behind_head columns es) (small, few)

pub irregular_behind : (slot : ℕ) (columns : List Column) (es : List Element) → drop 32 (irregular_page slot columns es) ≡ behind_head columns es
unfolding irregular_page
irregular_behind slot columns es = drop-append_seam (head_bytes (Irregular slot (length es))) (behind_head columns es)

-- behind the cells of elements stand zeros
pub behind_cells : (columns : List Column) (es : List Element) (n : ℕ) → AreElements columns es → length es ≡ n → drop (cell_size columns * n) (behind_head columns es) ≡ replicate (4064 - cell_size columns * length es) 0
behind_cells columns es n are count =
    let size : length (cells_bytes columns es) ≡ cell_size columns * n = length-cells_bytes columns es are ∙ ap (λ (m : ℕ). cell_size columns * m) count in
    ap (λ (m : ℕ). drop m (behind_head columns es)) (sym size) ∙ drop-append_seam (cells_bytes columns es) (replicate (4064 - cell_size columns * length es) 0)

pub front_cells : (columns : List Column) (es : List Element) (n : ℕ) → AreElements columns es → length es ≡ n → take (cell_size columns * n) (behind_head columns es) ≡ cells_bytes columns es
front_cells columns es n are count =
    let size : length (cells_bytes columns es) ≡ cell_size columns * n = length-cells_bytes columns es are ∙ ap (λ (m : ℕ). cell_size columns * m) count in
    ap (λ (m : ℕ). take m (behind_head columns es)) (sym size) ∙ take-append_seam (cells_bytes columns es) (replicate (4064 - cell_size columns * length es) 0)

-- cells and zeros are what stands behind the head of a page
pub behind_again : (columns : List Column) (es : List Element) (n : ℕ) (behind : List ℕ) → length behind ≡ 4064 → length es ≡ n → take (cell_size columns * n) behind ≡ cells_bytes columns es → are_zero (drop (cell_size columns * n) behind) ≡ true → behind ≡ behind_head columns es
behind_again columns es n behind long count cells zeros =
    let size : length (drop (cell_size columns * n) behind) ≡ 4064 - cell_size columns * length es = length-drop (cell_size columns * n) behind ∙ (λ j. long j - cell_size columns * sym count j) in
    let rest : drop (cell_size columns * n) behind ≡ replicate (4064 - cell_size columns * length es) 0 = zero_is (drop (cell_size columns * n) behind) zeros ∙ ap (λ (m : ℕ). replicate m 0) size in
    sym (take-append-drop (cell_size columns * n) behind) ∙ (λ j. cells j ++ rest j)

-- a page has room for few cells
pub few_fit : (columns : List Column) → page_room columns ≤ 452
few_fit columns = div-le_of_le-mul (cell_size columns) (let long : 4064 ≤ cell_size columns * 452 = omega arith in long)

-- the number of elements that the head of their page tells
pub count_is : (slot : ℕ) (columns : List Column) (es : List Element) (page : List ℕ) → IsIrregularPage slot columns es page → irregular_count (head_of page) ≡ Some (length es)
count_is slot columns es page is =
    ap (λ (l : List ℕ). irregular_count (head_of l)) is.bytes
    ∙ ap irregular_count (irregular_head slot columns es is.number (omega (arith, few_fit columns, is.fill.room)))

-- a page with this head, and cells behind it
pub page_again : (slot : ℕ) (columns : List Column) (es : List Element) (n : ℕ) (page : List ℕ) → slot < 2 ^ 16 → 1 ≤ n → n ≤ page_room columns → AreInOrder columns es → length es ≡ n
    → page ≡ head_bytes (Irregular slot n) ++ drop 32 page → drop 32 page ≡ behind_head columns es → IsIrregularPage slot columns es page
unfolding irregular_page
page_again slot columns es n page small some room order count head behind = record {
  number = small;
  fill = record { some = omega arith; room = subst (λ (m : ℕ). m ≤ page_room columns) (sym count) room; elements = order };
  bytes = head ∙ (λ j. head_bytes (Irregular slot (sym count j)) ++ behind j);
}
