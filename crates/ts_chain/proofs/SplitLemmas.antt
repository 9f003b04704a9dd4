-- A list of elements with one more, by its two parts.
use Rattle.std.proofs.Common.{◌≡◌, ℕ, zero, suc, ◌+◌, ◌-◌, ◌≤◌, ℤ, ◌<ℤ◌, ◌≤ℤ◌, cond, Option, None, is_some, Result, Ok, Err, List, [], ◌∷◌, ◌++◌, length, take, drop, refl, sym, ap, ◌∙◌, arith, length-append, length-drop}
use Rattle.std.proofs.lemmas.Int.{by_lt_z, ints}
use Rattle.std.proofs.lemmas.List.{take-append-drop, take_at, drop_at, length-take-le}
use Rattle.ts_row.specs.Row.{Row, Element}
use Rattle.ts_cells.specs.IrregularPage.{AreRising}
use Rattle.ts_irregular.specs.Edit.{element_at, with_element, rank_of, search_of}
use Rattle.ts_irregular.proofs.EditLemmas.{int_lt_yes, int_lt_no}
use Rattle.ts_irregular.proofs.SearchLemmas.{search_err}
use Rattle.ts_irregular.proofs.PutLemmas.{put_before}
use Rattle.ts_irregular.proofs.BytesLemmas.{length-inserted}
use Rattle.ts_sheets.specs.Stamped.{AreEarlier, AreLater}
use Rattle.ts_sheets.proofs.OrderLemmas.{later_of, later_than, rising_tail}
use Rattle.ts_chain.proofs.EditLemmas.{at_lower, at_same, at_behind, at_before, with_behind, with_before}

rank_lower : (stamp : ℤ) (e : Element) (es : List Element) → e.0 <ℤ stamp → rank_of stamp (e ∷ es) ≡ suc (rank_of stamp es)
rank_lower stamp e es low = rw (int_lt_yes e.0 stamp low) refl

rank_higher : (stamp : ℤ) (e : Element) (es : List Element) → stamp ≤ℤ e.0 → rank_of stamp (e ∷ es) ≡ 0
rank_higher stamp e es high = rw (int_lt_no e.0 stamp high) refl

-- the rank in a part
pub rank_behind : (stamp : ℤ) (xs ys : List Element) → AreEarlier stamp xs → rank_of stamp (xs ++ ys) ≡ length xs + rank_of stamp ys
rank_behind stamp [] ys earlier = omega arith
rank_behind stamp (x ∷ xs) ys earlier = let one = rank_lower stamp x (xs ++ ys) earlier.0 in let rest = rank_behind stamp xs ys earlier.1 in omega (arith, one, rest)

rank_later : (stamp : ℤ) (ys : List Element) → AreLater stamp ys → rank_of stamp ys ≡ 0
rank_later stamp [] later = refl
rank_later stamp (y ∷ ys) later = let high = later.0 in rank_higher stamp y ys (omega (arith, ints, high))

pub rank_before : (stamp : ℤ) (xs ys : List Element) → AreLater stamp ys → rank_of stamp (xs ++ ys) ≡ rank_of stamp xs
rank_before stamp [] ys later = rank_later stamp ys later
rank_before stamp (x ∷ xs) ys later = by_lt_z x.0 stamp
    (λ low. rank_lower stamp x (xs ++ ys) low ∙ ap suc (rank_before stamp xs ys later) ∙ sym (rank_lower stamp x xs low))
    (λ high. rank_higher stamp x (xs ++ ys) high ∙ sym (rank_higher stamp x xs high))

later_drop : (stamp : ℤ) (k : ℕ) (es : List Element) → AreLater stamp es → AreLater stamp (drop k es)
later_drop stamp zero es later = later
later_drop stamp (suc k) [] later = tt
later_drop stamp (suc k) (e ∷ es) later = later_drop stamp k es later.1

-- from the rank on all are later, where none is at the stamp
pub later_from : (stamp : ℤ) (k : ℕ) (es : List Element) → AreRising es → element_at stamp es ≡ None → rank_of stamp es ≤ k → AreLater stamp (drop k es)
later_from stamp zero [] rise none past = tt
later_from stamp (suc k) [] rise none past = tt
later_from stamp zero (e ∷ es) rise none past = by_lt_z e.0 stamp
    (λ low. absurd (let one = rank_lower stamp e es low in omega (arith, one, past)))
    (λ high. by_lt_z stamp e.0
    (λ above. (above, later_than stamp e.0 es high (later_of e es rise)))
    (λ below. absurd (let some = at_same stamp e es high below in cc)))
later_from stamp (suc k) (e ∷ es) rise none past = by_lt_z e.0 stamp
    (λ low. let one = rank_lower stamp e es low in later_from stamp k es (rising_tail e es rise) (sym (at_lower stamp e es low) ∙ none) (omega (arith, one, past)))
    (λ high. later_drop stamp k es (later_than stamp e.0 es high (later_of e es rise)))

-- and up to it all are earlier
pub earlier_to : (stamp : ℤ) (k : ℕ) (es : List Element) → k ≤ rank_of stamp es → AreEarlier stamp (take k es)
earlier_to stamp zero es within = tt
earlier_to stamp (suc k) [] within = tt
earlier_to stamp (suc k) (e ∷ es) within = by_lt_z e.0 stamp
    (λ low. let one = rank_lower stamp e es low in (low, earlier_to stamp k es (omega (arith, one, within))))
    (λ high. absurd (let none = rank_higher stamp e es high in omega (arith, none, within)))

search_made : (stamp : ℤ) (es : List Element) (i : ℕ) → element_at stamp es ≡ None → rank_of stamp es ≡ i → ◌≡◌ {A = Result ℕ ℕ} (search_of stamp es) (Err i)
search_made stamp es i none rank = ap (λ (o : Option Row). cond (is_some o) (Ok (rank_of stamp es)) (Err (rank_of stamp es))) none ∙ ap Err rank

module _ (stamp : ℤ) (row : Row) (es : List Element) (i k : ℕ) (rise : AreRising es) (missing : ◌≡◌ {A = Result ℕ ℕ} (search_of stamp es) (Err i)) (within : k ≤ length es) where
  longer : length (with_element stamp row es) ≡ length es + 1
  longer =
      let s = search_err stamp es i (sym missing) in
      ap length (put_before stamp row es i (sym missing)) ∙ length-inserted i (length es) (stamp, row) es refl (let r = rank_most es in omega (arith, s.1, r))
    where
      rank_most : (fs : List Element) → rank_of stamp fs ≤ length fs
      rank_most [] = omega arith
      rank_most (f ∷ fs) = let rest = rank_most fs in by_lt_z f.0 stamp
          (λ low. let one = rank_lower stamp f fs low in omega (arith, one, rest))
          (λ high. let none = rank_higher stamp f fs high in omega (arith, none))

  pub length-with : length (with_element stamp row es) ≡ length es + 1
  length-with = longer

  -- the new one among the first
  pub first_search : i ≤ k → ◌≡◌ {A = Result ℕ ℕ} (search_of stamp (take k es)) (Err i)
  first_search low =
      let s = search_err stamp es i (sym missing) in
      let later = later_from stamp k es rise s.0 (omega (arith, s.1, low)) in
      search_made stamp (take k es) i
      (sym (at_before stamp (take k es) (drop k es) later) ∙ ap (element_at stamp) (take-append-drop k es) ∙ s.0)
      (sym (rank_before stamp (take k es) (drop k es) later) ∙ ap (rank_of stamp) (take-append-drop k es) ∙ sym s.1)

  pub first_parts : i ≤ k → with_element stamp row es ≡ with_element stamp row (take k es) ++ drop k es
  first_parts low =
      let s = search_err stamp es i (sym missing) in
      let later = later_from stamp k es rise s.0 (omega (arith, s.1, low)) in
      ap (with_element stamp row) (sym (take-append-drop k es)) ∙ with_before stamp row (take k es) (drop k es) later

  -- the new one among the others
  pub others_search : k ≤ i → ◌≡◌ {A = Result ℕ ℕ} (search_of stamp (drop k es)) (Err (i - k))
  others_search high =
      let s = search_err stamp es i (sym missing) in
      let earlier = earlier_to stamp k es (omega (arith, s.1, high)) in
      let rank = rank_behind stamp (take k es) (drop k es) earlier in
      search_made stamp (drop k es) (i - k)
      (sym (at_behind stamp (take k es) (drop k es) earlier) ∙ ap (element_at stamp) (take-append-drop k es) ∙ s.0)
      (omega (arith, rank, ap (rank_of stamp) (take-append-drop k es), s.1, length-take-le k es within))

  pub others_parts : k ≤ i → with_element stamp row es ≡ take k es ++ with_element stamp row (drop k es)
  others_parts high =
      let s = search_err stamp es i (sym missing) in
      let earlier = earlier_to stamp k es (omega (arith, s.1, high)) in
      ap (with_element stamp row) (sym (take-append-drop k es)) ∙ with_behind stamp row (take k es) (drop k es) earlier

-- so the halves are these
pub first_half : (stamp : ℤ) (row : Row) (es : List Element) (i k half : ℕ) → AreRising es → ◌≡◌ {A = Result ℕ ℕ} (search_of stamp es) (Err i) → k ≤ length es → i ≤ k → half ≡ k + 1
    → (take half (with_element stamp row es) ≡ with_element stamp row (take k es)) × (drop half (with_element stamp row es) ≡ drop k es)
first_half stamp row es i k half rise missing within low is =
    let parts = first_parts stamp row es i k rise missing within low in
    let size : length (with_element stamp row (take k es)) ≡ half =
    omega (arith, ap length parts, length-append (with_element stamp row (take k es)) (drop k es), length-with stamp row es i k rise missing within, length-drop k es, within, is) in
    (ap (take half) parts ∙ take_at (with_element stamp row (take k es)) (drop k es) half size, ap (drop half) parts ∙ drop_at (with_element stamp row (take k es)) (drop k es) half size)

pub others_half : (stamp : ℤ) (row : Row) (es : List Element) (i k : ℕ) → AreRising es → ◌≡◌ {A = Result ℕ ℕ} (search_of stamp es) (Err i) → k ≤ length es → k ≤ i
    → (take k (with_element stamp row es) ≡ take k es) × (drop k (with_element stamp row es) ≡ with_element stamp row (drop k es))
others_half stamp row es i k rise missing within high =
    let parts = others_parts stamp row es i k rise missing within high in
    let size : length (take k es) ≡ k = length-take-le k es within in
    (ap (take k) parts ∙ take_at (take k es) (with_element stamp row (drop k es)) k size, ap (drop k) parts ∙ drop_at (take k es) (with_element stamp row (drop k es)) k size)
