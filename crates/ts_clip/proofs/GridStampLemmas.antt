-- Elements at offsets as those at the on starts of these: what isn't hidden, and the first and the last of it.
use Rattle.std.proofs.Common.{◌≡◌, ℕ, zero, suc, ◌+◌, ℤ, Bool, true, false, cond, not, Option, Some, IsSome, List, [], ◌∷◌, map, take, drop, refl, sym, ap, ◌∙◌, arith}
use Rattle.std.specs.List.{slice_get}
use Rattle.std.proofs.lemmas.List.Elements.{All-filter, All-head, All-tail}
use Rattle.ts_row.specs.Row.{Row, Element, seen}
use Rattle.ts_irregular.specs.Edit.{element_at}
use Rattle.ts_calendar.specs.Calendars.{IsLaid}
use Rattle.ts_offset.specs.Grid.{GridPlan, starts_of, stamp_of}
use Rattle.ts_regular.specs.RegularPage as offsets
use Rattle.ts_regular.specs.RegularPage.{OffsetElement}
use Rattle.ts_sheets.specs.Stamped.{stamped, HaveStarts}
use Rattle.ts_regular_edits.proofs.StampLemmas.{found_stamped, some_start, stamped_cons}
use Rattle.ts_entry.specs.Entry.{entry_at}
use Rattle.ts_clip.specs.Numbered.{numbered, seen_at}

-- the elements that aren't hidden
kept_or_not : (grid : GridPlan) (b : Bool) (e : OffsetElement) (t : ℤ) (es : List OffsetElement) (rest : List Element) → stamp_of grid e.0 ≡ Some t → stamped grid es ≡ rest → stamped grid (cond b (e ∷ es) es) ≡ cond b ((t, e.1) ∷ rest) rest
kept_or_not grid true e t es rest at same = stamped_cons grid e.0 e.1 t es at ∙ ap (λ (l : List Element). (t, e.1) ∷ l) same
kept_or_not grid false e t es rest at same = same

pub seen_stamped : (grid : GridPlan) (es : List OffsetElement) → HaveStarts grid es → stamped grid (offsets.seen es) ≡ seen (stamped grid es)
seen_stamped grid [] starts = refl
seen_stamped grid (e ∷ es) starts =
    let t = some_start (stamp_of grid e.0) (All-head (λ (e : OffsetElement). IsSome (stamp_of grid e.0)) e es starts) in
    kept_or_not grid (not e.1.hidden) e t.0 (offsets.seen es) (seen (stamped grid es)) t.1 (seen_stamped grid es (All-tail (λ (e : OffsetElement). IsSome (stamp_of grid e.0)) e es starts))
    ∙ ap seen (sym (stamped_cons grid e.0 e.1 t.0 es t.1))

pub seen_starts : (grid : GridPlan) (es : List OffsetElement) → HaveStarts grid es → HaveStarts grid (offsets.seen es)
seen_starts grid es starts = All-filter (λ (e : OffsetElement). not e.1.hidden) (λ (e : OffsetElement). IsSome (stamp_of grid e.0)) es starts

-- the row at a start is that at its offset
pub row_stamped : (grid : GridPlan) → IsLaid grid.calendar → (n : ℕ) (s : ℤ) (es : List OffsetElement) → HaveStarts grid es → stamp_of grid n ≡ Some s → element_at s (seen (stamped grid es)) ≡ seen_at es n
row_stamped grid laid n s es starts is = ap (element_at s) (sym (seen_stamped grid es starts)) ∙ found_stamped grid laid n s is (offsets.seen es) (seen_starts grid es starts)

-- one of some starts from an offset on
pub start_behind : (xs : List ℤ) (lower k i : ℕ) (s : ℤ) → slice_get (take k (drop lower xs)) i ≡ Some s → slice_get xs (lower + i) ≡ Some s
start_behind [] zero zero i s is = absurd (cc)
start_behind [] zero (suc k) i s is = absurd (cc)
start_behind [] (suc lower) zero i s is = absurd (cc)
start_behind [] (suc lower) (suc k) i s is = absurd (cc)
start_behind (x ∷ xs) zero zero i s is = absurd (cc)
start_behind (x ∷ xs) zero (suc k) zero s is = is
start_behind (x ∷ xs) zero (suc k) (suc i) s is = ap (slice_get (x ∷ xs)) (let same : zero + suc i ≡ suc (zero + i) = omega arith in same) ∙ start_behind xs zero k i s is
start_behind (x ∷ xs) (suc lower) k i s is = ap (slice_get (x ∷ xs)) (let same : suc lower + i ≡ suc (lower + i) = omega arith in same) ∙ start_behind xs lower k i s is

-- entries by numbers, as those at stamps
pub numbered_stamps : (row_of : ℕ → Option Row) (at : ℤ → Option Row) (n : ℕ) (starts : List ℤ) → ((i : ℕ) (s : ℤ) → slice_get starts i ≡ Some s → row_of (n + i) ≡ at s) → numbered row_of n starts ≡ map (λ s. (s, at s)) starts
numbered_stamps row_of at n [] same = refl
numbered_stamps row_of at n (s ∷ starts) same =
    let first : row_of n ≡ at s = (λ j. row_of (zero_more j)) ∙ same 0 s refl in
    let rest = numbered_stamps row_of at (n + 1) starts (λ i t is. (λ j. row_of (one_more i j)) ∙ same (suc i) t is) in
    λ j. (s, first j) ∷ rest j
  where
    zero_more : n ≡ n + 0
    zero_more = omega arith

    one_more : (i : ℕ) → n + 1 + i ≡ n + suc i
    one_more i = omega arith

pub entries_stamped : (grid : GridPlan) → IsLaid grid.calendar → (es : List OffsetElement) → HaveStarts grid es → (lower k : ℕ) → numbered (seen_at es) lower (take k (drop lower (starts_of grid))) ≡ map (entry_at (seen (stamped grid es))) (take k (drop lower (starts_of grid)))
entries_stamped grid laid es starts lower k =
    numbered_stamps (seen_at es) (λ s. element_at s (seen (stamped grid es))) lower (take k (drop lower (starts_of grid)))
    (λ i s is. sym (row_stamped grid laid (lower + i) s es starts (start_behind (starts_of grid) lower k i s is)))
