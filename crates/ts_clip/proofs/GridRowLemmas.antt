-- The elements of a range of offsets in cells and on pages, hidden ones too, each at the on start of its offset.
use Rattle.std.proofs.Common.{◌≡◌, ℕ, zero, suc, ◌+◌, ◌-◌, ◌<◌, ◌≤◌, max, min, IsSome, Some, None, List, [], ◌∷◌, ◌++◌, length, take, drop, refl, sym, ap, subst, ◌∙◌, arith, append-nil}
use Rattle.std.proofs.lemmas.Bool.Decides.{nat_tests}
use Rattle.std.proofs.lemmas.List.{take-append-drop, take_at, drop_at}
use Rattle.std.proofs.lemmas.List.Elements.{All-filter, All-take, All-drop, filter_map-append}
use Rattle.ts_offset.specs.Grid.{GridPlan, stamp_of}
use Rattle.ts_regular.specs.RegularPage.{Cell, OffsetElement, elements_from}
use Rattle.ts_regular.specs.Places.{OffsetPage, all_in}
use Rattle.ts_regular.specs.Range.{is_between, within}
use Rattle.ts_regular.proofs.PlaceLemmas.{all_both}
use Rattle.ts_sheets.specs.Stamped.{stamped, stamped_one, HaveStarts}
use Rattle.ts_clip.proofs.GridStartLemmas.{take_parts}
use Rattle.ts_clip.proofs.GridWithinLemmas.{between_before, between_in, none_here, own_here, within_both, within_cells, within_none}

-- of the cells of a page those of a range
own_cells : (base k m from to : ℕ) (cells : List Cell) → from ≡ base + k → to ≡ from + m → elements_from from (take m (drop k cells)) ≡ within from to (elements_from base cells)
own_cells base k zero from to cells first last = sym (within_none from to (elements_from base cells) (omega (arith, last)))
own_cells base zero (suc m) from to [] first last = refl
own_cells base (suc k) (suc m) from to [] first last = refl
own_cells base (suc k) (suc m) from to (None ∷ cells) first last = own_cells (base + 1) k (suc m) from to cells (omega (arith, first)) last
own_cells base (suc k) (suc m) from to (Some row ∷ cells) first last =
    let out = between_before from to base (omega (arith, first)) in
    let gone : within from to ((base, row) ∷ elements_from (base + 1) cells) ≡ within from to (elements_from (base + 1) cells) = rw out refl in
    own_cells (base + 1) k (suc m) from to cells (omega (arith, first)) last ∙ sym gone
own_cells base zero (suc m) from to (c ∷ cells) first last =
    by_cell c (own_cells (base + 1) zero m (from + 1) to cells (omega (arith, first)) (omega (arith, last))
    ∙ within_cells (from + 1) to from to (base + 1) cells (λ n above below. agree n (omega (arith, first, above))))
  where
    agree : (n : ℕ) → from < n → is_between (from + 1) to n ≡ is_between from to n
    agree n above = grind (arith, nat_tests)

    by_cell : (c : Cell) → elements_from (from + 1) (take m cells) ≡ within from to (elements_from (base + 1) cells) → elements_from from (c ∷ take m cells) ≡ within from to (elements_from base (c ∷ cells))
    by_cell None rest = rest
    by_cell (Some row) rest =
        let in_range = between_in from to base (omega (arith, first)) (omega (arith, first, last)) in
        let kept : within from to ((base, row) ∷ elements_from (base + 1) cells) ≡ (base, row) ∷ within from to (elements_from (base + 1) cells) = rw in_range refl in
        let same : from ≡ base = omega (arith, first) in
        (λ j. (same j, row) ∷ rest j) ∙ sym kept

-- the elements of a range that a page has cells for
module _ (grid : GridPlan) (lower upper base own_base room from to : ℕ) (cells : List Cell) (long : length cells ≡ room) (same : base ≡ own_base) (from_is : from ≡ max lower base) (to_is : to ≡ min upper (base + room)) where
  pub page_none : to ≤ from → [] ≡ stamped grid (within lower upper (elements_from own_base cells))
  page_none turned = ap (stamped grid) (sym (none_here lower upper base own_base room from to cells long same from_is to_is turned))

  run_is : from < to → elements_from from (take (to - base - (from - base)) (drop (from - base) cells)) ≡ within lower upper (elements_from own_base cells)
  run_is order =
      own_cells own_base (from - base) (to - base - (from - base)) from to cells (omega (arith, same, from_is)) (omega (arith, from_is, order))
      ∙ own_here lower upper base own_base room from to cells long same from_is to_is order

  pub page_run : from < to → stamped grid (elements_from from (take (to - base - (from - base)) (drop (from - base) cells))) ≡ stamped grid (within lower upper (elements_from own_base cells))
  page_run order = ap (stamped grid) (run_is order)

  pub run_starts : from < to → HaveStarts grid (elements_from own_base cells) → HaveStarts grid (elements_from from (take (to - base - (from - base)) (drop (from - base) cells)))
  run_starts order starts = subst (HaveStarts grid) (sym (run_is order))
      (All-filter (λ (e : OffsetElement). is_between lower upper e.0) (λ (e : OffsetElement). IsSome (stamp_of grid e.0)) (elements_from own_base cells) starts)

-- the elements on pages one after the other
stamped_both : (grid : GridPlan) (lower upper : ℕ) (xs ys : List OffsetElement) → stamped grid (within lower upper (xs ++ ys)) ≡ stamped grid (within lower upper xs) ++ stamped grid (within lower upper ys)
stamped_both grid lower upper xs ys = ap (stamped grid) (within_both lower upper xs ys) ∙ filter_map-append (stamped_one grid) (within lower upper xs) (within lower upper ys)

-- from the pages before an index to those up to it
pub stamped_next : (grid : GridPlan) (lower upper i : ℕ) (page : OffsetPage) (ps : List OffsetPage) → drop i ps ≡ page ∷ drop (suc i) ps
    → stamped grid (within lower upper (all_in (take i ps))) ++ stamped grid (within lower upper (elements_from page.0 page.1)) ≡ stamped grid (within lower upper (all_in (take (i + 1) ps)))
stamped_next grid lower upper i page ps next =
    sym (
    ap (λ (l : List OffsetPage). stamped grid (within lower upper (all_in l))) (take_parts i 1 (i + 1) ps refl ∙ ap (λ (l : List OffsetPage). take i ps ++ take 1 l) next)
    ∙ ap (λ (l : List OffsetElement). stamped grid (within lower upper l)) (all_both (take i ps) (page ∷ []) ∙ ap (λ (l : List OffsetElement). all_in (take i ps) ++ l) (append-nil (elements_from page.0 page.1)))
    ∙ stamped_both grid lower upper (all_in (take i ps)) (elements_from page.0 page.1))

-- where all elements have starts, those of a page have
pub page_starts : (grid : GridPlan) (i : ℕ) (page : OffsetPage) (ps : List OffsetPage) → drop i ps ≡ page ∷ drop (suc i) ps → HaveStarts grid (all_in ps) → HaveStarts grid (elements_from page.0 page.1)
page_starts grid i page ps next starts =
    let own = elements_from page.0 page.1 in
    let front = all_in (take i ps) in
    let behind = all_in (drop (suc i) ps) in
    let parts : all_in ps ≡ front ++ (own ++ behind) =
    ap all_in (sym (take-append-drop i ps) ∙ ap (λ (l : List OffsetPage). take i ps ++ l) next) ∙ all_both (take i ps) (page ∷ drop (suc i) ps) in
    let P = λ (e : OffsetElement). IsSome (stamp_of grid e.0) in
    let all : HaveStarts grid (front ++ (own ++ behind)) = subst (HaveStarts grid) parts starts in
    let back : HaveStarts grid (own ++ behind) = subst (HaveStarts grid) (drop_at front (own ++ behind) (length front) refl) (All-drop P (length front) (front ++ (own ++ behind)) all) in
    subst (HaveStarts grid) (take_at own behind (length own) refl) (All-take P (length own) (own ++ behind) back)
