-- The head of a page, and what stands behind it.
use Rattle.std.proofs.Common.{◌≡◌, ℕ, ◌+◌, ◌-◌, ◌*◌, ◌≤◌, ℤ, to_z, of_z, w64, List, [], ◌∷◌, ◌++◌, length, take, drop, replicate, refl, sym, ap, ◌∙◌, arith, append-nil, length-append, length-drop}
use borrow.Rule.Slice.PartMut.{put_mid, mid_of}
use Rattle.std.specs.Int.{from_be_bytes, cast_signed}
use Rattle.std.proofs.lemmas.Int.{to_z-of_z, ints}
use Rattle.std.proofs.lemmas.List.{drop_all, drop_at, drop-drop, length-take-le, length-replicate}
use Rattle.std.proofs.Math.Seq.{take-length, take-append_seam}
use Rattle.ts_page.specs.Pages.{head_bytes}
use Rattle.ts_page.specs.declared.page.Head.TheVariants.{Irregular}
use Rattle.ts_row.specs.declared.kind.Column.{Column}
use Rattle.ts_cells.specs.IrregularPage.{Element, cell_size, page_room, AreElements, cells_bytes, behind_head, irregular_page}
use Rattle.ts_cells.proofs.HeadLemmas.{cells_fit, irregular_behind}
use Rattle.ts_cells.proofs.PageLemmas.{length-cells_bytes}
use Rattle.ts_irregular.specs.OnePage.{place_of}
use Rattle.ts_irregular.proofs.BytesLemmas.{part, units_in}

-- the bytes of a page with elements
pub length-page : (columns : List Column) (es : List Element) (page : List ℕ) → AreElements columns es → length es ≤ page_room columns → drop 32 page ≡ behind_head columns es → length page ≡ 4096
length-page columns es page are room same =
    let fit = cells_fit columns (length es) room in
    let cells = length-cells_bytes columns es are in
    let size : length (behind_head columns es) ≡ 4064 =
    omega (arith, length-append (cells_bytes columns es) (replicate {A = ℕ} (4064 - cell_size columns * length es) 0), length-replicate {A = ℕ} (4064 - cell_size columns * length es) 0, cells, fit) in
    omega (arith, length-drop 32 page, ap length same, size)

-- the part of a page behind its head
pub part_behind : (k : ℕ) (page : List ℕ) → length page ≡ 32 + k → mid_of 32 k page ≡ drop 32 page
part_behind k page long = ap (λ (n : ℕ). take n (drop 32 page)) (let e : k ≡ length (drop 32 page) = omega (arith, length-drop 32 page, long) in e) ∙ take-length (drop 32 page)

-- other bytes written behind the head
pub behind_put : (k : ℕ) (page new : List ℕ) → length page ≡ 32 + k → drop 32 (put_mid 32 k page new) ≡ new
behind_put k page new long =
    drop_at (take 32 page) (new ++ drop k (drop 32 page)) 32 (length-take-le 32 page (omega (arith, long)))
    ∙ ap (λ (l : List ℕ). new ++ l) (drop_all k (drop 32 page) (omega (arith, length-drop 32 page, long))) ∙ append-nil new

-- a head written before the cells of elements
pub headed : (slot : ℕ) (columns : List Column) (es : List Element) (n : ℕ) (page old : List ℕ) → length es ≡ n → drop 32 old ≡ behind_head columns es → page ≡ head_bytes (Irregular slot n) ++ drop 32 old → page ≡ irregular_page slot columns es
unfolding irregular_page
headed slot columns es n page old count behind is = is ∙ (λ j. head_bytes (Irregular slot (sym count j)) ++ behind j)

-- other cells written behind the head of a page of as many
pub cells_put : (slot : ℕ) (columns : List Column) (es fs : List Element) (page new : List ℕ) → page ≡ irregular_page slot columns es → length page ≡ 4096 → length es ≡ length fs → new ≡ behind_head columns fs
    → put_mid 32 4064 page new ≡ irregular_page slot columns fs
unfolding irregular_page
cells_put slot columns es fs page new is long count made =
    let head : take 32 page ≡ head_bytes (Irregular slot (length es)) = ap (take 32) is ∙ take-append_seam (head_bytes (Irregular slot (length es))) (behind_head columns es) in
    let rest : drop 4064 (drop 32 page) ≡ [] = drop_all 4064 (drop 32 page) (omega (arith, length-drop 32 page, long)) in
    (λ j. head j ++ (made j ++ rest j)) ∙ ap (λ (l : List ℕ). head_bytes (Irregular slot (length es)) ++ l) (append-nil (behind_head columns fs))
    ∙ (λ j. head_bytes (Irregular slot (count j)) ++ behind_head columns fs)

-- the place of a page, by the first of its cells
pub place_listed : (slot : ℕ) (columns : List Column) (es : List Element) (page : List ℕ) (number count : ℕ) (units : ℤ) → AreElements columns es → length es ≡ count → 1 ≤ count → page ≡ irregular_page slot columns es
    → units ≡ cast_signed w64 (from_be_bytes w64 (take 8 (drop 33 page))) → place_of number es ≡ record { at = to_z w64 (of_z w64 units); page = number; count = count } ∷ []
place_listed slot columns es page number count units are length_is some page_is read =
    let size : ℕ = cell_size columns in
    let same : drop 32 page ≡ behind_head columns es = ap (drop 32) page_is ∙ irregular_behind slot columns es in
    let p = part columns 0 es (drop 32 page) are (omega (arith, length_is, some)) same in
    let there : drop 33 page ≡ drop (size * 0 + 1) (drop 32 page) =
    sym (drop-drop 1 32 page) ∙ ap (λ (n : ℕ). drop n (drop 32 page)) (let e : 1 ≡ size * 0 + 1 = omega arith in e) in
    let first : units ≡ p.element.0 =
    read ∙ ap (λ (l : List ℕ). cast_signed w64 (from_be_bytes w64 (take 8 l))) there ∙ units_in columns size 0 es (drop 32 page) p refl in
    let stamp = p.is.stamp in
    let back : to_z w64 (of_z w64 units) ≡ p.element.0 = to_z-of_z w64 units (omega (arith, ints, stamp.0, stamp.1, first)) ∙ first in
    let counts : length (p.element ∷ p.after) ≡ count = ap length (sym p.whole) ∙ length_is in
    ap (place_of number) p.whole ∙ (λ j. record { at = sym back j; page = number; count = counts j } ∷ [])
