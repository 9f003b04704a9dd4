-- The bytes behind the head of a page, parted and written.
use Rattle.std.proofs.Common.{◌≡◌, ℕ, ◌+◌, ◌-◌, ◌*◌, ◌<◌, ◌≤◌, List, ◌∷◌, ◌++◌, length, take, drop, replicate, refl, sym, ap, subst, ◌∙◌, arith, append_assoc, length-append, length-drop}
use borrow.Rule.Slice.PartMut.{put_mid}
use lib.Seq.{paste}
use Rattle.std.specs.Int.{w64, from_be_bytes, cast_signed}
use Rattle.std.proofs.lemmas.Grind.{flat_map-append}
use Rattle.std.proofs.lemmas.List.{take-append-drop, take_at, drop_at, take-append-le, take-take, drop-drop, length-take-le, drop-replicate, length-replicate, replicate-append-replicate}
use Rattle.std.proofs.lemmas.List.Concat.{flat_map-cons}
use Rattle.std.proofs.lemmas.Nat.{le-div}
use Rattle.ts_row.specs.declared.kind.Column.{Column}
use Rattle.ts_row.specs.Row.{width_of}
use Rattle.ts_cells.specs.IrregularPage.{Element, IsElement, stamp_bytes, cell_bytes, cell_size, page_room, AreElements, cells_bytes, behind_head}
use Rattle.ts_cells.proofs.CellLemmas.{units_back}
use Rattle.ts_cells.proofs.HeadLemmas.{cells_fit}
use Rattle.ts_cells.proofs.PageLemmas.{length-cell_bytes, length-cells_bytes, AreElements-front, cut}

-- a cell lies within the page
pub cell_within : (columns : List Column) (size i n : ℕ) → size ≡ cell_size columns → i < page_room columns → n ≡ 4064 → size * i + size ≤ n
cell_within columns size i n is below long =
    let fit : cell_size columns * (i + 1) ≤ 4064 = cells_fit columns (i + 1) (omega (arith, below)) in
    let one : cell_size columns * (i + 1) ≡ cell_size columns * i + cell_size columns = grind arith in
    let P : ℕ → Type 0 = λ s. s * i + s ≤ n in
    subst P (sym is) (omega (arith, fit, one, long))

-- the bytes behind the head of a page from the cell of an element on
pub record Part (columns : List Column) (i : ℕ) (es : List Element) (behind : List ℕ) : Type 0 where
  pub element : Element
  pub after : List Element
  pub is : IsElement columns element
  pub whole : es ≡ take i es ++ element ∷ after
  pub count : length (take i es) ≡ i
  pub tail : List ℕ
  pub bytes : drop (cell_size columns * i) behind ≡ cell_bytes columns element ++ tail

pub part : (columns : List Column) (i : ℕ) (es : List Element) (behind : List ℕ) → AreElements columns es → i < length es → behind ≡ behind_head columns es → Part columns i es behind
part columns i es behind are within same =
    let c = cut columns i es are within in
    let front : List Element = take i es in
    let all : AreElements columns (front ++ c.element ∷ c.after) = subst (AreElements columns) c.whole are in
    let size : length (cells_bytes columns front) ≡ cell_size columns * i =
    length-cells_bytes columns front (AreElements-front columns front (c.element ∷ c.after) all) ∙ ap (λ (n : ℕ). cell_size columns * n) c.count in
    let zeros : List ℕ = replicate (4064 - cell_size columns * length es) 0 in
    let cells : cells_bytes columns es ≡ cells_bytes columns front ++ (cell_bytes columns c.element ++ cells_bytes columns c.after) =
    ap (cells_bytes columns) c.whole ∙ flat_map-append (cell_bytes columns) front (c.element ∷ c.after)
    ∙ ap (λ (l : List ℕ). cells_bytes columns front ++ l) (flat_map-cons (cell_bytes columns) c.element c.after) in
    let bytes : behind ≡ cells_bytes columns front ++ (cell_bytes columns c.element ++ (cells_bytes columns c.after ++ zeros)) =
    same ∙ ap (λ (l : List ℕ). l ++ zeros) cells
    ∙ append_assoc (cells_bytes columns front) (cell_bytes columns c.element ++ cells_bytes columns c.after) zeros
    ∙ ap (λ (l : List ℕ). cells_bytes columns front ++ l) (append_assoc (cell_bytes columns c.element) (cells_bytes columns c.after) zeros) in
    record {
      element = c.element;
      after = c.after;
      is = c.is;
      whole = c.whole;
      count = c.count;
      tail = cells_bytes columns c.after ++ zeros;
      bytes = ap (drop (cell_size columns * i)) bytes ∙ drop_at (cells_bytes columns front) (cell_bytes columns c.element ++ (cells_bytes columns c.after ++ zeros)) (cell_size columns * i) size;
    }

-- the bytes of its stamp
stamp_in : (columns : List Column) (e : Element) (tail : List ℕ) → take 8 (drop 1 (cell_bytes columns e ++ tail)) ≡ stamp_bytes e.0
stamp_in columns e tail = refl

-- the units of its stamp
pub units_in : (columns : List Column) (size i : ℕ) (es : List Element) (behind : List ℕ) (p : Part columns i es behind) → size ≡ cell_size columns → cast_signed w64 (from_be_bytes w64 (take 8 (drop (size * i + 1) behind))) ≡ p.element.0
units_in columns size i es behind p is =
    let there : drop (size * i + 1) behind ≡ drop 1 (cell_bytes columns p.element ++ p.tail) =
    sym (drop-drop 1 (size * i) behind) ∙ ap (λ (s : ℕ). drop 1 (drop (s * i) behind)) is ∙ ap (drop 1) p.bytes in
    ap (λ (l : List ℕ). cast_signed w64 (from_be_bytes w64 (take 8 l))) there
    ∙ ap (λ (l : List ℕ). cast_signed w64 (from_be_bytes w64 l)) (stamp_in columns p.element p.tail)
    ∙ units_back p.element.0 p.is.stamp

-- a part is written into bytes that were moved up
insert_bytes : (front back zeros new old : List ℕ) (at size more k : ℕ) → old ≡ front ++ (back ++ zeros) → length front ≡ at → length back ≡ more → size ≤ length zeros → k ≡ size
    → put_mid at k (paste old (at + size) (drop at old) more) new ≡ front ++ (new ++ (back ++ drop size zeros))
insert_bytes front back zeros new old at size more k is first second room same =
    let whole : length old ≡ at + (more + length zeros) = ap length is ∙ length-append front (back ++ zeros) ∙ (λ j. first j + (length-append back zeros ∙ ap (λ (n : ℕ). n + length zeros) second) j) in
    let low : List ℕ = take (at + size) old in
    let moved : List ℕ = take more (drop at old) in
    let high : List ℕ = drop (at + size + more) old in
    let long : length low ≡ at + size = length-take-le (at + size) old (omega (arith, whole, room)) in
    let behind : drop at old ≡ back ++ zeros = ap (drop at) is ∙ drop_at front (back ++ zeros) at first in
    let mid : moved ≡ back = ap (take more) behind ∙ take_at back zeros more second in
    let top : high ≡ drop size zeros =
    ap (λ (n : ℕ). drop n old) (let e : at + size + more ≡ at + (more + size) = omega arith in e) ∙ sym (drop-drop (more + size) at old) ∙ ap (drop (more + size)) behind
    ∙ sym (drop-drop size more (back ++ zeros)) ∙ ap (drop size) (drop_at back zeros more second) in
    let begin : take at (paste old (at + size) (drop at old) more) ≡ front =
    ap (take at) (append_assoc low moved high) ∙ take-append-le at low (moved ++ high) (omega (arith, long)) ∙ take-take at (at + size) old (omega arith)
    ∙ ap (take at) is ∙ take_at front (back ++ zeros) at first in
    let rest : drop k (drop at (paste old (at + size) (drop at old) more)) ≡ moved ++ high =
    drop-drop k at (paste old (at + size) (drop at old) more) ∙ ap (λ (n : ℕ). drop (at + n) (paste old (at + size) (drop at old) more)) same
    ∙ ap (drop (at + size)) (append_assoc low moved high) ∙ drop_at low (moved ++ high) (at + size) long in
    λ j. begin j ++ (new ++ (rest ∙ (λ i. mid i ++ top i)) j)

-- a part is written over another
replace_bytes : (front part back new old : List ℕ) (at k : ℕ) → old ≡ front ++ (part ++ back) → length front ≡ at → length part ≡ k → put_mid at k old new ≡ front ++ (new ++ back)
replace_bytes front part back new old at k is first second =
    let begin : take at old ≡ front = ap (take at) is ∙ take_at front (part ++ back) at first in
    let rest : drop k (drop at old) ≡ back = ap (λ (l : List ℕ). drop k (drop at l)) is ∙ ap (drop k) (drop_at front (part ++ back) at first) ∙ drop_at part back k second in
    λ j. begin j ++ (new ++ rest j)

-- a part goes, and another is written where the bytes behind it ended
remove_bytes : (front part back zeros new old : List ℕ) (at size more top k : ℕ) → old ≡ front ++ (part ++ (back ++ zeros)) → length front ≡ at → length part ≡ size → length back ≡ more → top ≡ at + more → k ≡ size
    → put_mid top k (paste old at (drop (at + size) old) more) new ≡ front ++ (back ++ (new ++ zeros))
remove_bytes front part back zeros new old at size more top k is first second third ends same =
    let above : drop (at + size) old ≡ back ++ zeros =
    sym (drop-drop size at old) ∙ ap (λ (l : List ℕ). drop size (drop at l)) is ∙ ap (drop size) (drop_at front (part ++ (back ++ zeros)) at first) ∙ drop_at part (back ++ zeros) size second in
    let begin : take at old ≡ front = ap (take at) is ∙ take_at front (part ++ (back ++ zeros)) at first in
    let mid : take more (drop (at + size) old) ≡ back = ap (take more) above ∙ take_at back zeros more third in
    let low : take at old ++ take more (drop (at + size) old) ≡ front ++ back = λ j. begin j ++ mid j in
    let long : length (front ++ back) ≡ top = length-append front back ∙ (λ j. first j + third j) ∙ sym ends in
    let made : paste old at (drop (at + size) old) more ≡ (front ++ back) ++ drop (at + more) old = ap (λ (l : List ℕ). l ++ drop (at + more) old) low in
    let start : take top (paste old at (drop (at + size) old) more) ≡ front ++ back = ap (take top) made ∙ take_at (front ++ back) (drop (at + more) old) top long in
    let rest : drop k (drop top (paste old at (drop (at + size) old) more)) ≡ zeros =
    ap (λ (l : List ℕ). drop k (drop top l)) made ∙ ap (drop k) (drop_at (front ++ back) (drop (at + more) old) top long)
    ∙ drop-drop k (at + more) old ∙ ap (λ (n : ℕ). drop n old) (let e : at + more + k ≡ at + size + more = omega (arith, same) in e)
    ∙ sym (drop-drop more (at + size) old) ∙ ap (drop more) above ∙ drop_at back zeros more third in
    (λ j. start j ++ (new ++ rest j)) ∙ append_assoc front back (new ++ zeros)

-- the cells before an index and those from there on
pub record Halves (columns : List Column) (i : ℕ) (es : List Element) : Type 0 where
  pub before : length (cells_bytes columns (take i es)) ≡ cell_size columns * i
  pub from : length (cells_bytes columns (drop i es)) + cell_size columns * i ≡ cell_size columns * length es
  pub bytes : cells_bytes columns es ≡ cells_bytes columns (take i es) ++ cells_bytes columns (drop i es)

pub halves : (columns : List Column) (i : ℕ) (es : List Element) → AreElements columns es → i ≤ length es → Halves columns i es
halves columns i es are within =
    let all : AreElements columns (take i es ++ drop i es) = subst (AreElements columns) (sym (take-append-drop i es)) are in
    let front : length (cells_bytes columns (take i es)) ≡ cell_size columns * i =
    length-cells_bytes columns (take i es) (AreElements-front columns (take i es) (drop i es) all) ∙ ap (λ (n : ℕ). cell_size columns * n) (length-take-le i es within) in
    let bytes : cells_bytes columns es ≡ cells_bytes columns (take i es) ++ cells_bytes columns (drop i es) =
    ap (cells_bytes columns) (sym (take-append-drop i es)) ∙ flat_map-append (cell_bytes columns) (take i es) (drop i es) in
    let whole : length (cells_bytes columns (take i es)) + length (cells_bytes columns (drop i es)) ≡ cell_size columns * length es =
    sym (ap length bytes ∙ length-append (cells_bytes columns (take i es)) (cells_bytes columns (drop i es))) ∙ length-cells_bytes columns es are in
    record { before = front; from = omega (arith, front, whole); bytes = bytes }

-- elements of which one is put before an index
pub length-inserted : (i n : ℕ) (x : Element) (es : List Element) → length es ≡ n → i ≤ n → length (take i es ++ x ∷ drop i es) ≡ n + 1
length-inserted i n x es count within = omega (arith, length-append (take i es) (x ∷ drop i es), length-take-le i es (omega (arith, count, within)), length-drop i es, count, within)

pub inserted : (columns : List Column) (size i n at more k : ℕ) (x : Element) (es : List Element) (old : List ℕ) → AreElements columns es → length es ≡ n → i ≤ n → n < page_room columns
    → size ≡ cell_size columns → at ≡ size * i → more ≡ size * n - at → k ≡ size → old ≡ behind_head columns es
    → put_mid at k (paste old (at + size) (drop at old) more) (cell_bytes columns x) ≡ behind_head columns (take i es ++ x ∷ drop i es)
inserted columns size i n at more k x es old are count within room is at_is more_is k_is same =
    let parts = halves columns i es are (omega (arith, count, within)) in
    let front : List ℕ = cells_bytes columns (take i es) in
    let back : List ℕ = cells_bytes columns (drop i es) in
    let zeros : List ℕ = replicate (4064 - cell_size columns * length es) 0 in
    let start : size * i ≡ cell_size columns * i = ap (λ (s : ℕ). s * i) is in
    let end : size * n ≡ cell_size columns * length es = λ j. is j * sym count j in
    let fit : cell_size columns * (n + 1) ≤ 4064 = cells_fit columns (n + 1) (omega (arith, room)) in
    let one : cell_size columns * (n + 1) ≡ cell_size columns * n + cell_size columns = grind arith in
    let same_end : cell_size columns * n ≡ cell_size columns * length es = ap (λ (m : ℕ). cell_size columns * m) (sym count) in
    let wide : size ≤ length zeros = omega (arith, length-replicate {A = ℕ} (4064 - cell_size columns * length es) 0, fit, one, same_end, is) in
    let whole : old ≡ front ++ (back ++ zeros) = same ∙ ap (λ (l : List ℕ). l ++ zeros) parts.bytes ∙ append_assoc front back zeros in
    let first : length front ≡ at = omega (arith, parts.before, at_is, start) in
    let second : length back ≡ more = omega (arith, parts.from, more_is, at_is, start, end) in
    let left : drop size zeros ≡ replicate (4064 - cell_size columns * length (take i es ++ x ∷ drop i es)) 0 =
    drop-replicate size (4064 - cell_size columns * length es) 0
    ∙ ap (λ (m : ℕ). replicate m 0) (let e : 4064 - cell_size columns * length es - size ≡ 4064 - cell_size columns * length (take i es ++ x ∷ drop i es) =
    omega (arith, ap (λ (m : ℕ). cell_size columns * m) (length-inserted i n x es count within), one, same_end, is) in e) in
    let cells : cells_bytes columns (take i es ++ x ∷ drop i es) ≡ front ++ (cell_bytes columns x ++ back) =
    flat_map-append (cell_bytes columns) (take i es) (x ∷ drop i es) ∙ ap (λ (l : List ℕ). front ++ l) (flat_map-cons (cell_bytes columns) x (drop i es)) in
    insert_bytes front back zeros (cell_bytes columns x) old at size more k whole first second wide k_is
    ∙ ap (λ (l : List ℕ). front ++ (cell_bytes columns x ++ (back ++ l))) left
    ∙ ap (λ (l : List ℕ). front ++ l) (sym (append_assoc (cell_bytes columns x) back (replicate (4064 - cell_size columns * length (take i es ++ x ∷ drop i es)) 0)))
    ∙ sym (append_assoc front (cell_bytes columns x ++ back) (replicate (4064 - cell_size columns * length (take i es ++ x ∷ drop i es)) 0))
    ∙ ap (λ (l : List ℕ). l ++ replicate (4064 - cell_size columns * length (take i es ++ x ∷ drop i es)) 0) (sym cells)

-- elements of which one is put over that of an index
pub length-replaced : (i : ℕ) (x : Element) (es : List Element) → i < length es → length (take i es ++ x ∷ drop (i + 1) es) ≡ length es
length-replaced i x es within = omega (arith, length-append (take i es) (x ∷ drop (i + 1) es), length-take-le i es (omega (arith, within)), length-drop (i + 1) es, within)

pub length-removed : (i : ℕ) (es : List Element) → i < length es → length (take i es ++ drop (i + 1) es) + 1 ≡ length es
length-removed i es within = omega (arith, length-append (take i es) (drop (i + 1) es), length-take-le i es (omega (arith, within)), length-drop (i + 1) es, within)

-- the cells behind that of an index
after_cell : (columns : List Column) (i : ℕ) (es : List Element) (p : Part columns i es (behind_head columns es)) → i < length es → cells_bytes columns (drop i es) ≡ cell_bytes columns p.element ++ cells_bytes columns (drop (i + 1) es)
after_cell columns i es p within =
    let rest : drop i es ≡ p.element ∷ p.after = ap (drop i) p.whole ∙ drop_at (take i es) (p.element ∷ p.after) i p.count in
    let more : drop (i + 1) es ≡ p.after = sym (drop-drop 1 i es) ∙ ap (drop 1) rest in
    ap (cells_bytes columns) rest ∙ flat_map-cons (cell_bytes columns) p.element p.after ∙ ap (λ (l : List Element). cell_bytes columns p.element ++ cells_bytes columns l) (sym more)

pub replaced : (columns : List Column) (size i at k : ℕ) (x : Element) (es : List Element) (old : List ℕ) → AreElements columns es → i < length es
    → size ≡ cell_size columns → at ≡ size * i → k ≡ size → old ≡ behind_head columns es
    → put_mid at k old (cell_bytes columns x) ≡ behind_head columns (take i es ++ x ∷ drop (i + 1) es)
replaced columns size i at k x es old are within is at_is k_is same =
    let p = part columns i es (behind_head columns es) are within refl in
    let parts = halves columns i es are (omega (arith, within)) in
    let front : List ℕ = cells_bytes columns (take i es) in
    let back : List ℕ = cells_bytes columns (drop (i + 1) es) in
    let zeros : List ℕ = replicate (4064 - cell_size columns * length es) 0 in
    let whole : old ≡ front ++ (cell_bytes columns p.element ++ (back ++ zeros)) =
    same ∙ ap (λ (l : List ℕ). l ++ zeros) (parts.bytes ∙ ap (λ (l : List ℕ). front ++ l) (after_cell columns i es p within))
    ∙ append_assoc front (cell_bytes columns p.element ++ back) zeros ∙ ap (λ (l : List ℕ). front ++ l) (append_assoc (cell_bytes columns p.element) back zeros) in
    let start : size * i ≡ cell_size columns * i = ap (λ (s : ℕ). s * i) is in
    let first : length front ≡ at = omega (arith, parts.before, at_is, start) in
    let second : length (cell_bytes columns p.element) ≡ k = length-cell_bytes columns p.element p.is ∙ sym is ∙ sym k_is in
    let cells : cells_bytes columns (take i es ++ x ∷ drop (i + 1) es) ≡ front ++ (cell_bytes columns x ++ back) =
    flat_map-append (cell_bytes columns) (take i es) (x ∷ drop (i + 1) es) ∙ ap (λ (l : List ℕ). front ++ l) (flat_map-cons (cell_bytes columns) x (drop (i + 1) es)) in
    replace_bytes front (cell_bytes columns p.element) (back ++ zeros) (cell_bytes columns x) old at k whole first second
    ∙ ap (λ (l : List ℕ). front ++ l) (sym (append_assoc (cell_bytes columns x) back zeros)) ∙ sym (append_assoc front (cell_bytes columns x ++ back) zeros)
    ∙ (λ j. sym cells j ++ replicate (4064 - cell_size columns * sym (length-replaced i x es within) j) 0)

pub removed : (columns : List Column) (size i n at more top k : ℕ) (es : List Element) (old : List ℕ) → AreElements columns es → length es ≡ n → i < n → n ≤ page_room columns
    → size ≡ cell_size columns → at ≡ size * i → more ≡ size * n - (at + size) → top ≡ size * n - size → k ≡ size → old ≡ behind_head columns es
    → put_mid top k (paste old at (drop (at + size) old) more) (replicate k 0) ≡ behind_head columns (take i es ++ drop (i + 1) es)
removed columns size i n at more top k es old are count within room is at_is more_is top_is k_is same =
    let below : i < length es = omega (arith, count, within) in
    let p = part columns i es (behind_head columns es) are below refl in
    let parts = halves columns i es are (omega (arith, below)) in
    let front : List ℕ = cells_bytes columns (take i es) in
    let back : List ℕ = cells_bytes columns (drop (i + 1) es) in
    let zeros : List ℕ = replicate (4064 - cell_size columns * length es) 0 in
    let after = after_cell columns i es p below in
    let whole : old ≡ front ++ (cell_bytes columns p.element ++ (back ++ zeros)) =
    same ∙ ap (λ (l : List ℕ). l ++ zeros) (parts.bytes ∙ ap (λ (l : List ℕ). front ++ l) after)
    ∙ append_assoc front (cell_bytes columns p.element ++ back) zeros ∙ ap (λ (l : List ℕ). front ++ l) (append_assoc (cell_bytes columns p.element) back zeros) in
    let start : size * i ≡ cell_size columns * i = ap (λ (s : ℕ). s * i) is in
    let end : size * n ≡ cell_size columns * length es = λ j. is j * sym count j in
    let cell : length (cell_bytes columns p.element) ≡ cell_size columns = length-cell_bytes columns p.element p.is in
    let sizes : length (cells_bytes columns (drop i es)) ≡ length (cell_bytes columns p.element) + length back = ap length after ∙ length-append (cell_bytes columns p.element) back in
    let first : length front ≡ at = omega (arith, parts.before, at_is, start) in
    let third : length back ≡ more = omega (arith, parts.from, more_is, at_is, start, end, sizes, cell, is) in
    let ends : top ≡ at + more = omega (arith, parts.from, more_is, top_is, at_is, start, end, sizes, cell, is) in
    let fit : cell_size columns * n ≤ 4064 = cells_fit columns n room in
    let same_end : cell_size columns * n ≡ cell_size columns * length es = ap (λ (m : ℕ). cell_size columns * m) (sym count) in
    let fewer = length-removed i es below in
    let one : cell_size columns * (length (take i es ++ drop (i + 1) es) + 1) ≡ cell_size columns * length (take i es ++ drop (i + 1) es) + cell_size columns = grind arith in
    let sums : cell_size columns * length es ≡ cell_size columns * length (take i es ++ drop (i + 1) es) + cell_size columns = ap (λ (m : ℕ). cell_size columns * m) (sym fewer) ∙ one in
    let left : replicate k 0 ++ zeros ≡ replicate (4064 - cell_size columns * length (take i es ++ drop (i + 1) es)) 0 =
    replicate_more k (4064 - cell_size columns * length es) (4064 - cell_size columns * length (take i es ++ drop (i + 1) es)) (omega (arith, sums, fit, same_end, k_is, is)) in
    let cells : cells_bytes columns (take i es ++ drop (i + 1) es) ≡ front ++ back = flat_map-append (cell_bytes columns) (take i es) (drop (i + 1) es) in
    remove_bytes front (cell_bytes columns p.element) back zeros (replicate k 0) old at size more top k whole first (cell ∙ sym is) third ends k_is
    ∙ ap (λ (l : List ℕ). front ++ (back ++ l)) left
    ∙ sym (append_assoc front back (replicate (4064 - cell_size columns * length (take i es ++ drop (i + 1) es)) 0))
    ∙ ap (λ (l : List ℕ). l ++ replicate (4064 - cell_size columns * length (take i es ++ drop (i + 1) es)) 0) (sym cells)
  where
    replicate_more : (a b c : ℕ) → a + b ≡ c → ◌≡◌ {A = List ℕ} (replicate a 0 ++ replicate b 0) (replicate c 0)
    replicate_more a b c sum = replicate-append-replicate a b 0 ∙ ap (λ (n : ℕ). replicate n 0) sum

-- there is room for a cell on a page
pub room_some : (columns : List Column) → width_of columns ≤ 1000 → 1 ≤ page_room columns
room_some columns narrow = le-div 1 4064 (cell_size columns) (omega (arith, narrow)) (omega (arith, narrow))
