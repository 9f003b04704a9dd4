-- The head of a regular page, and what stands behind it.
use Rattle.std.proofs.Common.{◌≡◌, ℕ, ◌+◌, ◌-◌, ◌*◌, ◌<◌, ◌^◌, ◌%◌, Option, None, Some, get_or, List, [], ◌++◌, length, take, drop, replicate, sym, ap, ◌∙◌, arith, append-nil, length-append, length-drop}
use borrow.Rule.Slice.PartMut.{put_mid, mid_of}
use Rattle.std.proofs.lemmas.List.{drop_all, drop_at, take_at, take-append-drop, length-take-le, length-replicate}
use Rattle.std.proofs.Math.Seq.{take-length, take-append_seam, drop-append_seam}
use Rattle.ts_page.specs.Pages.{head_of, head_bytes}
use Rattle.ts_page.specs.declared.page.Head.TheVariants.{Free, Regular, Irregular}
use Rattle.ts_page.specs.declared.page.Head.{Head}
use Rattle.ts_page.proofs.HeadLemmas.{head_of-written, head_read}
use Rattle.ts_row.specs.declared.kind.Column.{Column}
use Rattle.ts_regular.specs.RegularPage.{Cell, cell_size, regular_room, AreCells, IsRegularPage, FillPage, cells_bytes, behind_head, filled_count, regular_page, told_in}
use Rattle.ts_regular.proofs.BytesLemmas.{cells_fit, few_fit, length-cells}
use Rattle.ts_regular.proofs.CellsLemmas.{count_within}

-- few cells have an element
pub count_small : (columns : List Column) (cells : List Cell) → length cells ≡ regular_room columns → filled_count cells < 2 ^ 16
count_small columns cells room = omega (arith, count_within cells, room, few_fit columns)

-- what the head of a page tells
pub head_told : (slot : ℕ) (columns : List Column) (base : ℕ) (cells : List Cell) (page : List ℕ) → IsRegularPage slot columns base cells page → head_of page ≡ Some (Regular slot (filled_count cells) base)
unfolding regular_page
head_told slot columns base cells page is =
    ap head_of is.bytes ∙ head_of-written (Regular slot (filled_count cells) base) (behind_head columns cells) (is.number, count_small columns cells is.fill.room, is.begins)

-- what stands behind it
pub behind_page : (slot : ℕ) (columns : List Column) (base : ℕ) (cells : List Cell) → drop 32 (regular_page slot columns base cells) ≡ behind_head columns cells
unfolding regular_page
behind_page slot columns base cells = drop-append_seam (head_bytes (Regular slot (filled_count cells) base)) (behind_head columns cells)

pub behind_told : (slot : ℕ) (columns : List Column) (base : ℕ) (cells : List Cell) (page : List ℕ) → IsRegularPage slot columns base cells page → drop 32 page ≡ behind_head columns cells
behind_told slot columns base cells page is = ap (drop 32) is.bytes ∙ behind_page slot columns base cells

-- a head written before cells
pub headed : (slot : ℕ) (columns : List Column) (base : ℕ) (cells : List Cell) (n : ℕ) (page old : List ℕ) → filled_count cells ≡ n → drop 32 old ≡ behind_head columns cells → page ≡ head_bytes (Regular slot n base) ++ drop 32 old
    → page ≡ regular_page slot columns base cells
unfolding regular_page
headed slot columns base cells n page old count behind is = is ∙ (λ j. head_bytes (Regular slot (sym count j) base) ++ behind j)

-- the bytes of a page with cells
pub length-page : (columns : List Column) (cells : List Cell) (page : List ℕ) → AreCells columns cells → length cells ≡ regular_room columns → drop 32 page ≡ behind_head columns cells → length page ≡ 4096
length-page columns cells page are room same =
    let fit = cells_fit columns (length cells) (omega (arith, room)) in
    let long = length-cells columns cells are in
    let size : length (behind_head columns cells) ≡ 4064 =
    omega (arith, length-append (cells_bytes columns cells) (replicate {A = ℕ} (4064 - cell_size columns * length cells) 0), length-replicate {A = ℕ} (4064 - cell_size columns * length cells) 0, long, fit) in
    omega (arith, length-drop 32 page, ap length same, size)

-- all that stands behind the head of a page
pub all_behind : (page : List ℕ) → take (length page - 32) (drop 32 page) ≡ drop 32 page
all_behind page = ap (λ (n : ℕ). take n (drop 32 page)) (sym (length-drop 32 page)) ∙ take-length (drop 32 page)

-- the part of a page behind its head
pub part_behind : (k : ℕ) (page : List ℕ) → length page ≡ 32 + k → mid_of 32 k page ≡ drop 32 page
part_behind k page long = ap (λ (n : ℕ). take n (drop 32 page)) (let e : k ≡ length (drop 32 page) = omega (arith, length-drop 32 page, long) in e) ∙ take-length (drop 32 page)

-- other bytes written behind the head
pub behind_put : (k : ℕ) (page new : List ℕ) → length page ≡ 32 + k → drop 32 (put_mid 32 k page new) ≡ new
behind_put k page new long =
    drop_at (take 32 page) (new ++ drop k (drop 32 page)) 32 (length-take-le 32 page (omega (arith, long)))
    ∙ ap (λ (l : List ℕ). new ++ l) (drop_all k (drop 32 page) (omega (arith, length-drop 32 page, long))) ∙ append-nil new

-- a head that tells of a regular page
pub told_is : (o : Option Head) (slot count base : ℕ) → told_in o ≡ Some (slot, count, base) → o ≡ Some (Regular slot count base)
told_is None slot count base is = absurd (cc)
told_is (Some Free) slot count base is = absurd (cc)
told_is (Some (Regular s n b)) slot count base is =
    let same : ◌≡◌ {A = ℕ × ℕ × ℕ} (s, n, b) (slot, count, base) = some_one is in
    λ j. Some (Regular (same j).0 (same j).1 (same j).2)
  where
    some_one : {A : Type 0} {x y : A} → ◌≡◌ {A = Option A} (Some x) (Some y) → x ≡ y
    some_one e = cc
told_is (Some (Irregular s n)) slot count base is = absurd (cc)

-- a page with this head, and cells behind it
pub page_again : (slot : ℕ) (columns : List Column) (base count : ℕ) (cells : List Cell) (page : List ℕ) → slot < 2 ^ 16 → base < 2 ^ 64 → base % regular_room columns ≡ 0 → FillPage columns cells → filled_count cells ≡ count
    → length page ≡ 4096 → ((i : ℕ) → get_or page i 0 < 256) → head_of page ≡ Some (Regular slot count base) → drop 32 page ≡ behind_head columns cells → IsRegularPage slot columns base cells page
unfolding regular_page
page_again slot columns base count cells page small begins whole fill is long bytes told behind =
    let head : take 32 page ≡ head_bytes (Regular slot count base) = head_read page (Regular slot count base) long bytes told in
    record {
      number = small;
      begins = begins;
      whole = whole;
      fill = fill;
      bytes = sym (take-append-drop 32 page) ∙ (λ j. (head ∙ (λ k. head_bytes (Regular slot (sym is k) base))) j ++ behind j);
    }

-- what a page's head tells
pub told_page : (slot : ℕ) (columns : List Column) (base : ℕ) (cells : List Cell) (page : List ℕ) (told : Option (ℕ × ℕ × ℕ)) → told ≡ told_in (head_of page) → IsRegularPage slot columns base cells page → told ≡ Some (slot, filled_count cells, base)
told_page slot columns base cells page told is page_is = is ∙ ap told_in (head_told slot columns base cells page page_is)

-- cells behind a head
pub front_cells : (columns : List Column) (size rooms : ℕ) (cells : List Cell) (behind : List ℕ) → AreCells columns cells → length cells ≡ regular_room columns → behind ≡ behind_head columns cells → size ≡ cell_size columns → rooms ≡ regular_room columns
    → take (size * rooms) behind ≡ cells_bytes columns cells
front_cells columns size rooms cells behind are room same is all =
    let long : length (cells_bytes columns cells) ≡ size * rooms = length-cells columns cells are ∙ (λ j. sym is j * (room ∙ sym all) j) in
    ap (take (size * rooms)) same ∙ take_at (cells_bytes columns cells) (replicate (4064 - cell_size columns * length cells) 0) (size * rooms) long

-- other cells written behind the head of a page with as many elements
pub cells_put : (slot : ℕ) (columns : List Column) (base : ℕ) (cells others : List Cell) (page new : List ℕ) → page ≡ regular_page slot columns base cells → length page ≡ 4096 → filled_count others ≡ filled_count cells → new ≡ behind_head columns others
    → put_mid 32 4064 page new ≡ regular_page slot columns base others
unfolding regular_page
cells_put slot columns base cells others page new is long count made =
    let head : take 32 page ≡ head_bytes (Regular slot (filled_count cells) base) = ap (take 32) is ∙ take-append_seam (head_bytes (Regular slot (filled_count cells) base)) (behind_head columns cells) in
    let rest : drop 4064 (drop 32 page) ≡ [] = drop_all 4064 (drop 32 page) (omega (arith, length-drop 32 page, long)) in
    (λ j. head j ++ (made j ++ rest j)) ∙ ap (λ (l : List ℕ). head_bytes (Regular slot (filled_count cells) base) ++ l) (append-nil (behind_head columns others))
    ∙ (λ j. head_bytes (Regular slot (sym count j) base) ++ behind_head columns others)
