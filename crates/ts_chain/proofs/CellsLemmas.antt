-- The bytes behind the head of a page, of which some cells are kept, or which others follow.
use Rattle.std.proofs.Common.{◌≡◌, ℕ, ◌+◌, ◌-◌, ◌*◌, ◌≤◌, List, ◌++◌, length, take, drop, replicate, sym, ap, ◌∙◌, arith, append_assoc, length-append, length-drop}
use borrow.Rule.Slice.PartMut.{put_mid}
use lib.Seq.{paste}
use Rattle.std.proofs.lemmas.Grind.{flat_map-append}
use Rattle.std.proofs.lemmas.List.{take_at, drop_at, drop-drop, length-take-le, length-replicate, replicate-append-replicate}
use Rattle.ts_row.specs.declared.kind.Column.{Column}
use Rattle.ts_row.specs.Row.{Element}
use Rattle.ts_cells.specs.IrregularPage.{cell_bytes, cell_size, page_room, AreElements, cells_bytes, behind_head}
use Rattle.ts_cells.proofs.HeadLemmas.{cells_fit}
use Rattle.ts_cells.proofs.PageLemmas.{length-cells_bytes}
use Rattle.ts_irregular.proofs.BytesLemmas.{halves}

-- a part is written over another
write_part : (front part back new old : List ℕ) (at k : ℕ) → old ≡ front ++ (part ++ back) → length front ≡ at → length part ≡ k → put_mid at k old new ≡ front ++ (new ++ back)
write_part front part back new old at k is first second =
    let begin : take at old ≡ front = ap (take at) is ∙ take_at front (part ++ back) at first in
    let rest : drop k (drop at old) ≡ back = ap (λ (l : List ℕ). drop k (drop at l)) is ∙ ap (drop k) (drop_at front (part ++ back) at first) ∙ drop_at part back k second in
    λ j. begin j ++ (new ++ rest j)

-- a part moves to the front, and another is written where it ended
move_part : (front back zeros new old : List ℕ) (at more top k : ℕ) → old ≡ front ++ (back ++ zeros) → length front ≡ at → length back ≡ more → top ≡ more → k ≡ at
    → put_mid top k (paste old 0 (drop at old) more) new ≡ back ++ (new ++ zeros)
move_part front back zeros new old at more top k is first second ends same =
    let above : drop at old ≡ back ++ zeros = ap (drop at) is ∙ drop_at front (back ++ zeros) at first in
    let mid : take more (drop at old) ≡ back = ap (take more) above ∙ take_at back zeros more second in
    let made : paste old 0 (drop at old) more ≡ back ++ drop more old =
    ap (λ (n : ℕ). take more (drop at old) ++ drop n old) (let e : 0 + more ≡ more = omega arith in e) ∙ ap (λ (l : List ℕ). l ++ drop more old) mid in
    let start : take top (paste old 0 (drop at old) more) ≡ back = ap (take top) made ∙ take_at back (drop more old) top (second ∙ sym ends) in
    let rest : drop k (drop top (paste old 0 (drop at old) more)) ≡ zeros =
    ap (λ (l : List ℕ). drop k (drop top l)) made ∙ ap (drop k) (drop_at back (drop more old) top (second ∙ sym ends))
    ∙ drop-drop k more old ∙ ap (λ (n : ℕ). drop n old) (let e : more + k ≡ at + more = omega (arith, same) in e)
    ∙ sym (drop-drop more at old) ∙ ap (drop more) above ∙ drop_at back zeros more second in
    λ j. start j ++ (new ++ rest j)

zeros_both : (a b c : ℕ) → a + b ≡ c → ◌≡◌ {A = List ℕ} (replicate a 0 ++ replicate b 0) (replicate c 0)
zeros_both a b c sum = replicate-append-replicate a b 0 ∙ ap (λ (n : ℕ). replicate n 0) sum

module _ (columns : List Column) (size : ℕ) (es : List Element) (are : AreElements columns es) (is : size ≡ cell_size columns) (old : List ℕ) (same : old ≡ behind_head columns es) (n : ℕ) (count : length es ≡ n) (room : n ≤ page_room columns) where
  zeros : List ℕ
  zeros = replicate (4064 - cell_size columns * length es) 0

  -- the cells before an index, those from there on, and zeros
  record Parts (i : ℕ) : Type 0 where
    parts : old ≡ cells_bytes columns (take i es) ++ (cells_bytes columns (drop i es) ++ replicate (4064 - cell_size columns * length es) 0)
    before : length (cells_bytes columns (take i es)) ≡ size * i
    from : length (cells_bytes columns (drop i es)) + size * i ≡ size * n
    fit : size * n ≤ 4064
    end : cell_size columns * length es ≡ size * n

  parts_at : (i : ℕ) → i ≤ n → Parts i
  parts_at i within =
      let h = halves columns i es are (omega (arith, within, count)) in
      let first : size * i ≡ cell_size columns * i = ap (λ (s : ℕ). s * i) is in
      let end : size * n ≡ cell_size columns * length es = λ j. is j * sym count j in
      let fit : cell_size columns * n ≤ 4064 = cells_fit columns n room in
      let whole : size * n ≡ cell_size columns * n = ap (λ (s : ℕ). s * n) is in record {
        parts = same ∙ ap (λ (l : List ℕ). l ++ replicate (4064 - cell_size columns * length es) 0) h.bytes ∙ append_assoc (cells_bytes columns (take i es)) (cells_bytes columns (drop i es)) (replicate (4064 - cell_size columns * length es) 0);
        before = omega (arith, h.before, first);
        from = omega (arith, h.from, first, end);
        fit = omega (arith, fit, whole);
        end = sym end;
      }

  pub kept_first : (keep at k : ℕ) → keep ≤ n → at ≡ size * keep → k ≡ size * n - at → put_mid at k old (replicate k 0) ≡ behind_head columns (take keep es)
  kept_first keep at k within at_is k_is =
      let p = parts_at keep within in
      let cells : length (cells_bytes columns (take keep es)) ≡ cell_size columns * length (take keep es) = p.before ∙ (λ j. is j * sym (length-take-le keep es (omega (arith, within, count))) j) in
      let rest : length (cells_bytes columns (drop keep es)) ≡ k = omega (arith, p.from, at_is, k_is) in
      write_part (cells_bytes columns (take keep es)) (cells_bytes columns (drop keep es)) (replicate (4064 - cell_size columns * length es) 0) (replicate k 0) old at k p.parts (p.before ∙ sym at_is) rest
      ∙ ap (λ (l : List ℕ). cells_bytes columns (take keep es) ++ l)
      (zeros_both k (4064 - cell_size columns * length es) (4064 - cell_size columns * length (take keep es)) (omega (arith, p.from, p.fit, p.end, p.before, cells, rest)))

  pub kept_others : (first at more top k : ℕ) → first ≤ n → at ≡ size * first → more ≡ size * n - at → top ≡ size * n - at → k ≡ size * n - top → put_mid top k (paste old 0 (drop at old) more) (replicate k 0) ≡ behind_head columns (drop first es)
  kept_others first at more top k within at_is more_is top_is k_is =
      let p = parts_at first within in
      let others : length (drop first es) + first ≡ n = omega (arith, length-drop first es, within, count) in
      let product : size * (length (drop first es) + first) ≡ size * length (drop first es) + size * first = grind arith in
      let whole : size * (length (drop first es) + first) ≡ size * n = ap (λ (m : ℕ). size * m) others in
      let cells : size * length (drop first es) ≡ cell_size columns * length (drop first es) = ap (λ (s : ℕ). s * length (drop first es)) is in
      let rest : length (cells_bytes columns (drop first es)) ≡ more = omega (arith, p.from, at_is, more_is) in
      move_part (cells_bytes columns (take first es)) (cells_bytes columns (drop first es)) (replicate (4064 - cell_size columns * length es) 0) (replicate k 0) old at more top k p.parts (p.before ∙ sym at_is) rest
      (omega (arith, more_is, top_is)) (omega (arith, k_is, top_is, at_is, p.from))
      ∙ ap (λ (l : List ℕ). cells_bytes columns (drop first es) ++ l)
      (zeros_both k (4064 - cell_size columns * length es) (4064 - cell_size columns * length (drop first es)) (omega (arith, p.from, p.fit, p.end, cells, product, whole, k_is, top_is, at_is)))

-- the cells of two pages
pub appended : (columns : List Column) (size n m at end k : ℕ) (es fs : List Element) (old others : List ℕ) → AreElements columns es → AreElements columns fs → size ≡ cell_size columns → length es ≡ n → length fs ≡ m → n + m ≤ page_room columns
    → at ≡ size * n → end ≡ size * m → k ≡ end → old ≡ behind_head columns es → others ≡ behind_head columns fs → put_mid at k old (take end others) ≡ behind_head columns (es ++ fs)
appended columns size n m at end k es fs old others are1 are2 is count1 count2 room at_is end_is k_is same1 same2 =
    let one : length (cells_bytes columns es) ≡ size * n = length-cells_bytes columns es are1 ∙ (λ j. sym is j * count1 j) in
    let two : length (cells_bytes columns fs) ≡ size * m = length-cells_bytes columns fs are2 ∙ (λ j. sym is j * count2 j) in
    let fit : cell_size columns * (n + m) ≤ 4064 = cells_fit columns (n + m) room in
    let product : cell_size columns * (n + m) ≡ cell_size columns * n + cell_size columns * m = grind arith in
    let first : size * n ≡ cell_size columns * n = ap (λ (s : ℕ). s * n) is in
    let second : size * m ≡ cell_size columns * m = ap (λ (s : ℕ). s * m) is in
    let own : cell_size columns * length es ≡ cell_size columns * n = ap (λ (c : ℕ). cell_size columns * c) count1 in
    let both : cell_size columns * length (es ++ fs) ≡ cell_size columns * (n + m) = ap (λ (c : ℕ). cell_size columns * c) (length-append es fs ∙ (λ j. count1 j + count2 j)) in
    let part : take end others ≡ cells_bytes columns fs = ap (take end) same2 ∙ take_at (cells_bytes columns fs) (replicate (4064 - cell_size columns * length fs) 0) end (two ∙ sym end_is) in
    let room_left : k ≤ 4064 - cell_size columns * length es = omega (arith, fit, product, second, end_is, k_is, own) in
    let split : replicate {A = ℕ} (4064 - cell_size columns * length es) 0 ≡ replicate k 0 ++ replicate (4064 - cell_size columns * length es - k) 0 =
    sym (zeros_both k (4064 - cell_size columns * length es - k) (4064 - cell_size columns * length es) (omega (arith, room_left))) in
    let parts : old ≡ cells_bytes columns es ++ (replicate k 0 ++ replicate (4064 - cell_size columns * length es - k) 0) = same1 ∙ ap (λ (l : List ℕ). cells_bytes columns es ++ l) split in
    let left : 4064 - cell_size columns * length es - k ≡ 4064 - cell_size columns * length (es ++ fs) = omega (arith, product, second, end_is, k_is, own, both, fit) in
    ap (put_mid at k old) part
    ∙ write_part (cells_bytes columns es) (replicate k 0) (replicate (4064 - cell_size columns * length es - k) 0) (cells_bytes columns fs) old at k parts (one ∙ sym at_is) (length-replicate {A = ℕ} k 0)
    ∙ sym (append_assoc (cells_bytes columns es) (cells_bytes columns fs) (replicate (4064 - cell_size columns * length es - k) 0))
    ∙ (λ j. sym (flat_map-append (cell_bytes columns) es fs) j ++ replicate (left j) 0)
