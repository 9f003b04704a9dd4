-- What is read of a grid: an entry at each of its first on starts, as many as the offset of the last element tells.
use Rattle.std.proofs.Common.{◌≡◌, ℕ, suc, ◌+◌, ◌-◌, ◌≤◌, Bool, true, ◌&&◌, nat_le, nat_lt, ℤ, Option, Some, None, IsSome, IfSome, IfNone, List, [], ◌∷◌, filter, length, map, take, drop, refl, sym, ap, subst, ◌∙◌, arith}
use Rattle.std.specs.List.{slice_get}
use Rattle.std.specs.Option.{option_and_then, option_map}
use Rattle.std.proofs.lemmas.Bool.Decides.{nat_tests}
use Rattle.std.proofs.lemmas.List.{length-map, length-take-le}
use Rattle.std.proofs.lemmas.List.Elements.{All-head, All-tail}
use Rattle.std.proofs.lemmas.Option.{slice_get_within, get_or_from_slice_get}
use Rattle.ts_calendar.specs.Calendars.{IsLaid}
use Rattle.ts_offset.specs.Grid.{GridPlan, starts_of, stamp_of}
use Rattle.ts_offset.specs.declared.shape.Shape.TheVariants.{Regular}
use Rattle.ts_row.specs.Row.{Element, seen}
use Rattle.ts_irregular.specs.Edit.{last_of, last_seen}
use Rattle.ts_regular.specs.RegularPage as offsets
use Rattle.ts_regular.specs.RegularPage.{OffsetElement}
use Rattle.ts_sheets.specs.Stamped.{stamped, stamped_one, HaveStarts}
use Rattle.ts_regular_edits.proofs.StampLemmas.{some_start, stamped_cons}
use Rattle.ts_entry.specs.Entry.{Entry, entry_at, is_reached, reading}
use Rattle.ts_clip.specs.Grid.{AreAtStarts, between}
use Rattle.ts_clip.proofs.GridFilterLemmas.{filter_between, part_mapped, part_taken}
use Rattle.ts_clip.proofs.GridOffsetLemmas.{up_to_own, upper_side}
use Rattle.ts_clip.proofs.GridStampLemmas.{seen_stamped, seen_starts}

-- the last of elements at offsets that have starts
last_cons : {X : Type 0} (a b : X) (xs : List X) → slice_get (a ∷ b ∷ xs) (length (a ∷ b ∷ xs) - 1) ≡ slice_get (b ∷ xs) (length (b ∷ xs) - 1)
last_cons a b xs = ap (slice_get (a ∷ b ∷ xs)) (let step : suc (suc (length xs)) - 1 ≡ suc (suc (length xs) - 1) = omega arith in step)

last_stamped : (grid : GridPlan) (es : List OffsetElement) → HaveStarts grid es → last_of (stamped grid es) ≡ option_and_then (stamped_one grid) (offsets.last_of es)
last_stamped grid [] starts = refl
last_stamped grid (e ∷ []) starts =
    let t = some_start (stamp_of grid e.0) (All-head (λ (e : OffsetElement). IsSome (stamp_of grid e.0)) e [] starts) in
    ap last_of (stamped_cons grid e.0 e.1 t.0 [] t.1) ∙ sym (ap (option_map (λ start. (start, e.1))) t.1)
last_stamped grid (e ∷ f ∷ es) starts =
    let others = All-tail (λ (e : OffsetElement). IsSome (stamp_of grid e.0)) e (f ∷ es) starts in
    let t = some_start (stamp_of grid e.0) (All-head (λ (e : OffsetElement). IsSome (stamp_of grid e.0)) e (f ∷ es) starts) in
    let u = some_start (stamp_of grid f.0) (All-head (λ (e : OffsetElement). IsSome (stamp_of grid e.0)) f es others) in
    ap last_of (stamped_cons grid e.0 e.1 t.0 (f ∷ es) t.1 ∙ ap (λ (l : List Element). (t.0, e.1) ∷ l) (stamped_cons grid f.0 f.1 u.0 es u.1))
    ∙ last_cons (t.0, e.1) (u.0, f.1) (stamped grid es)
    ∙ ap last_of (sym (stamped_cons grid f.0 f.1 u.0 es u.1)) ∙ last_stamped grid (f ∷ es) others
    ∙ ap (option_and_then (stamped_one grid)) (sym (last_cons e f es))

pub last_seen_stamped : (grid : GridPlan) (es : List OffsetElement) → HaveStarts grid es → last_seen (stamped grid es) ≡ option_and_then (stamped_one grid) (offsets.last_seen es)
last_seen_stamped grid es starts = ap last_of (sym (seen_stamped grid es starts)) ∙ last_stamped grid (offsets.seen es) (seen_starts grid es starts)

-- it has a start
last_start : (grid : GridPlan) (es : List OffsetElement) (e : OffsetElement) → HaveStarts grid es → offsets.last_of es ≡ Some e → IsSome (stamp_of grid e.0)
last_start grid es e starts is =
    let k : ℕ = length es - 1 in
    subst (λ (f : OffsetElement). IsSome (stamp_of grid f.0)) (get_or_from_slice_get es k e e is) (starts k e (slice_get_within es k e is))

-- the entries of a reading are those of so many on starts
pub record IsReading (grid : GridPlan) (es : List Element) (count : ℕ) : Type 0 where
  pub whole : reading (Regular grid) es ≡ map (entry_at (seen es)) (take count (starts_of grid))
  pub few : count ≤ length (starts_of grid)

none_reached : (starts : List ℤ) → filter (is_reached None) starts ≡ []
none_reached [] = refl
none_reached (s ∷ starts) = none_reached starts

module _ (grid : GridPlan) (laid : IsLaid grid.calendar) where
  starts_to : (n : ℕ) (e : Element) → stamp_of grid n ≡ Some e.0 → filter (is_reached (Some e)) (starts_of grid) ≡ take (n + 1) (starts_of grid)
  starts_to n e own =
      filter_between (is_reached (Some e)) 0 (n + 1) (starts_of grid) (λ i t is. sym (first_of_all i ∙ upper_side grid laid e.0 (n + 1) (up_to_own grid laid n e.0 own) i t is))
      ∙ ap (λ (k : ℕ). take k (starts_of grid)) (let same : n + 1 - 0 ≡ n + 1 = omega arith in same)
    where
      first_of_all : (i : ℕ) → (nat_le 0 i && nat_lt i (n + 1)) ≡ nat_lt i (n + 1)
      first_of_all i = ap (λ (b : Bool). b && nat_lt i (n + 1)) (let all : nat_le 0 i ≡ true = grind (arith, nat_tests) in all)

  reading_none : (es : List Element) → last_seen es ≡ None → IsReading grid es 0
  reading_none es none = record {
    whole = ap (λ (o : Option Element). map (entry_at (seen es)) (filter (is_reached o) (starts_of grid))) none ∙ ap (map (entry_at (seen es))) (none_reached (starts_of grid));
    few = omega arith;
  }

  reading_some : (es : List Element) (n : ℕ) (e : Element) → last_seen es ≡ Some e → stamp_of grid n ≡ Some e.0 → IsReading grid es (n + 1)
  reading_some es n e last own = record {
    whole = ap (λ (o : Option Element). map (entry_at (seen es)) (filter (is_reached o) (starts_of grid))) last ∙ ap (map (entry_at (seen es))) (starts_to n e own);
    few = let within = slice_get_within (starts_of grid) n e.0 own in omega (arith, within);
  }

  -- as the last element at an offset tells
  pub told_reading : (os : List OffsetElement) (last : Option OffsetElement) (count : ℕ) → HaveStarts grid os → last ≡ offsets.last_seen os → IfSome last (λ e. (start : ℤ) → stamp_of grid e.0 ≡ Some start → count ≡ e.0 + 1) → IfNone last (count ≡ 0)
      → IsReading grid (stamped grid os) count
  told_reading os None count starts is some none =
      subst (IsReading grid (stamped grid os)) (sym none) (reading_none (stamped grid os) (last_seen_stamped grid os starts ∙ ap (option_and_then (stamped_one grid)) (sym is)))
  told_reading os (Some e) count starts is some none =
      let t = some_start (stamp_of grid e.0) (last_start grid (offsets.seen os) e (seen_starts grid os starts) (sym is)) in
      subst (IsReading grid (stamped grid os)) (sym (some t.0 t.1))
      (reading_some (stamped grid os) e.0 (t.0, e.1) (last_seen_stamped grid os starts ∙ ap (option_and_then (stamped_one grid)) (sym is) ∙ ap (option_map (λ start. (start, e.1))) t.1) t.1)

-- and so they are as many, and stand at the first on starts
module _ (grid : GridPlan) (es : List Element) (count : ℕ) (is : IsReading grid es count) where
  pub reading_long : length (reading (Regular grid) es) ≡ count
  reading_long =
      ap length is.whole ∙ length-map (take count (starts_of grid)) (entry_at (seen es)) ∙ length-take-le count (starts_of grid) is.few

  stamps_of : (starts : List ℤ) → map (λ (e : Entry). e.0) (map (entry_at (seen es)) starts) ≡ starts
  stamps_of [] = refl
  stamps_of (s ∷ starts) = ap (λ (l : List ℤ). s ∷ l) (stamps_of starts)

  pub reading_starts : AreAtStarts grid (reading (Regular grid) es)
  reading_starts = ap (map (λ (e : Entry). e.0)) is.whole ∙ stamps_of (take count (starts_of grid)) ∙ ap (λ (n : ℕ). take n (starts_of grid)) (sym reading_long)

  -- the entries of a range of offsets
  pub reading_between : (lower upper : ℕ) → lower ≤ upper → upper ≤ count → map (entry_at (seen es)) (take (upper - lower) (drop lower (starts_of grid))) ≡ between lower upper (reading (Regular grid) es)
  reading_between lower upper order within =
      ap (map (entry_at (seen es))) (sym (part_taken (starts_of grid) lower upper count order within)) ∙ sym (part_mapped (entry_at (seen es)) lower upper (take count (starts_of grid)))
      ∙ ap (between lower upper) (sym is.whole)

-- and so many are read of each
pub own_reading : (grid : GridPlan) → IsLaid grid.calendar → (os : List OffsetElement) → HaveStarts grid os → IsReading grid (stamped grid os) (length (reading (Regular grid) (stamped grid os)))
own_reading grid laid os starts = by_last (offsets.last_seen os) refl
  where
    counted_again : (count : ℕ) → IsReading grid (stamped grid os) count → IsReading grid (stamped grid os) (length (reading (Regular grid) (stamped grid os)))
    counted_again count is = subst (IsReading grid (stamped grid os)) (sym (reading_long grid (stamped grid os) count is)) is

    by_last : (last : Option OffsetElement) → last ≡ offsets.last_seen os → IsReading grid (stamped grid os) (length (reading (Regular grid) (stamped grid os)))
    by_last None is = counted_again 0 (told_reading grid laid os None 0 starts is tt refl)
    by_last (Some e) is = counted_again (e.0 + 1) (told_reading grid laid os (Some e) (e.0 + 1) starts is (λ start own. refl) tt)
