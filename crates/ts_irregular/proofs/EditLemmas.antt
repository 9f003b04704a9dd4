-- Edits of a list of elements: what they are by the rank of the stamp, and that they keep the order.
use Rattle.std.proofs.Common.{◌≡◌, ◌≢◌, ℕ, suc, ◌+◌, ◌≤◌, true, false, cond, not, ℤ, ◌<ℤ◌, ◌≤ℤ◌, Some, None, is_some, List, [], ◌∷◌, ◌++◌, length, take, drop, refl, sym, ap, subst, ◌∙◌, arith}
use Rattle.std.specs.Prelude.{int_lt}
use Rattle.std.specs.Ordering.{int_eq}
use Rattle.std.proofs.lemmas.Int.{by_lt_z, ints}
use Rattle.ts_row.specs.declared.kind.Column.{Column}
use Rattle.ts_row.specs.Row.{Row}
use Rattle.ts_cells.specs.IrregularPage.{Element, IsElement, AreElements, AreRising, AreInOrder, first_stamp}
use Rattle.ts_irregular.specs.Edit.{element_at, with_element, without_element, rank_of}

-- what a test of stamps says
pub int_lt_yes : (a b : ℤ) → a <ℤ b → int_lt a b ≡ true
int_lt_yes a b h = grind (arith, ints)

pub int_lt_no : (a b : ℤ) → b ≤ℤ a → int_lt a b ≡ false
int_lt_no a b h = grind (arith, ints)

-- a list without its first element
pub AreRising-tail : (e : Element) (es : List Element) → AreRising (e ∷ es) → AreRising es
AreRising-tail e [] rise = tt
AreRising-tail e (f ∷ es) rise = rise.1

-- only the stamps matter
AreRising-row : (e : Element) (row : Row) (es : List Element) → AreRising (e ∷ es) → AreRising ((e.0, row) ∷ es)
AreRising-row e row [] rise = tt
AreRising-row e row (f ∷ es) rise = rise

-- the second may be left out
AreRising-skip : (e f : Element) (es : List Element) → AreRising (e ∷ f ∷ es) → AreRising (e ∷ es)
AreRising-skip e f [] rise = tt
AreRising-skip e f (g ∷ es) rise =
    let first = rise.0 in
    let second = rise.1.0 in
    (omega (arith, ints, first, second), rise.1.1)

-- an element that stands later is later
AreRising-later : (x : Element) (front : List Element) (e : Element) (after : List Element) → AreRising (x ∷ (front ++ e ∷ after)) → x.0 <ℤ e.0
AreRising-later x [] e after rise = rise.0
AreRising-later x (y ∷ front) e after rise =
    let first = rise.0 in
    let rest = AreRising-later y front e after rise.1 in
    omega (arith, ints, first, rest)

-- what the comparison of a stamp with that of an element decides
pub element_at-lower : (stamp : ℤ) (e : Element) (es : List Element) → e.0 <ℤ stamp → element_at stamp (e ∷ es) ≡ element_at stamp es
element_at-lower stamp e es low = rw (int_lt_no stamp e.0 (omega (arith, ints, low)), int_lt_yes e.0 stamp low) refl

pub element_at-higher : (stamp : ℤ) (e : Element) (es : List Element) → stamp <ℤ e.0 → element_at stamp (e ∷ es) ≡ element_at stamp es
element_at-higher stamp e es high = rw (int_lt_yes stamp e.0 high) refl

pub element_at-same : (stamp : ℤ) (e : Element) (es : List Element) → stamp ≤ℤ e.0 → e.0 ≤ℤ stamp → element_at stamp (e ∷ es) ≡ Some e.1
element_at-same stamp e es low high = rw (int_lt_no stamp e.0 high, int_lt_no e.0 stamp low) refl

-- none of later elements is at a stamp
pub none_after : (stamp : ℤ) (e : Element) (es : List Element) → AreRising (e ∷ es) → stamp ≤ℤ e.0 → element_at stamp es ≡ None
none_after stamp e [] rise low = refl
none_after stamp e (f ∷ es) rise low =
    let first = rise.0 in
    let high : stamp <ℤ f.0 = omega (arith, ints, first, low) in
    element_at-higher stamp f es high ∙ none_after stamp f es rise.1 (omega (arith, ints, high))

-- the element that is there, by what stands before it and behind it
pub found_at : (stamp : ℤ) (front : List Element) (e : Element) (after : List Element) → AreRising (front ++ e ∷ after) → e.0 ≡ stamp → element_at stamp (front ++ e ∷ after) ≡ Some e.1
found_at stamp [] e after rise same = element_at-same stamp e after (omega (arith, ints, same)) (omega (arith, ints, same))
found_at stamp (x ∷ front) e after rise same =
    let later = AreRising-later x front e after rise in
    element_at-lower stamp x (front ++ e ∷ after) (omega (arith, ints, later, same)) ∙ found_at stamp front e after (AreRising-tail x (front ++ e ∷ after) rise) same

rank_of-lower : (stamp : ℤ) (e : Element) (es : List Element) → e.0 <ℤ stamp → rank_of stamp (e ∷ es) ≡ suc (rank_of stamp es)
rank_of-lower stamp e es low = rw (int_lt_yes e.0 stamp low) refl

rank_of-higher : (stamp : ℤ) (e : Element) (es : List Element) → stamp ≤ℤ e.0 → rank_of stamp (e ∷ es) ≡ 0
rank_of-higher stamp e es high = rw (int_lt_no e.0 stamp high) refl

-- where the element at the rank is another, none is there
pub not_found_at : (stamp : ℤ) (front : List Element) (e : Element) (after : List Element) → AreRising (front ++ e ∷ after) → rank_of stamp (front ++ e ∷ after) ≡ length front → e.0 ≢ stamp → element_at stamp (front ++ e ∷ after) ≡ None
not_found_at stamp [] e after rise rank other = by_lt_z e.0 stamp
    (λ low. let one = rank_of-lower stamp e after low in absurd (omega (arith, one, rank)))
    (λ high. by_lt_z stamp e.0
    (λ above. element_at-higher stamp e after above ∙ none_after stamp e after rise high)
    (λ below. absurd (other (omega (arith, ints, high, below)))))
not_found_at stamp (x ∷ front) e after rise rank other = by_lt_z x.0 stamp
    (λ low. let one = rank_of-lower stamp x (front ++ e ∷ after) low in
    element_at-lower stamp x (front ++ e ∷ after) low ∙ not_found_at stamp front e after (AreRising-tail x (front ++ e ∷ after) rise) (omega (arith, one, rank)) other)
    (λ high. let none = rank_of-higher stamp x (front ++ e ∷ after) high in absurd (omega (arith, none, rank)))

-- where all are earlier, none is there
pub not_found_past : (stamp : ℤ) (es : List Element) → rank_of stamp es ≡ length es → element_at stamp es ≡ None
not_found_past stamp [] rank = refl
not_found_past stamp (e ∷ es) rank = by_lt_z e.0 stamp
    (λ low. let one = rank_of-lower stamp e es low in element_at-lower stamp e es low ∙ not_found_past stamp es (omega (arith, one, rank)))
    (λ high. let none = rank_of-higher stamp e es high in absurd (omega (arith, none, rank)))

-- an earlier element is counted
pub rank_above : (stamp : ℤ) (front : List Element) (e : Element) (after : List Element) → AreRising (front ++ e ∷ after) → e.0 <ℤ stamp → length front + 1 ≤ rank_of stamp (front ++ e ∷ after)
rank_above stamp [] e after rise low = let one = rank_of-lower stamp e after low in omega (arith, one)
rank_above stamp (x ∷ front) e after rise low =
    let later = AreRising-later x front e after rise in
    let one = rank_of-lower stamp x (front ++ e ∷ after) (omega (arith, ints, later, low)) in
    let rest = rank_above stamp front e after (AreRising-tail x (front ++ e ∷ after) rise) low in
    omega (arith, one, rest)

-- another one isn't
pub rank_below : (stamp : ℤ) (front : List Element) (e : Element) (after : List Element) → stamp ≤ℤ e.0 → rank_of stamp (front ++ e ∷ after) ≤ length front
rank_below stamp [] e after high = let none = rank_of-higher stamp e after high in omega (arith, none)
rank_below stamp (x ∷ front) e after high =
    let rest = rank_below stamp front e after high in by_lt_z x.0 stamp
    (λ low. let one = rank_of-lower stamp x (front ++ e ∷ after) low in omega (arith, one, rest))
    (λ above. let none = rank_of-higher stamp x (front ++ e ∷ after) above in omega (arith, none))

pub rank_within : (stamp : ℤ) (es : List Element) → rank_of stamp es ≤ length es
rank_within stamp [] = omega arith
rank_within stamp (e ∷ es) =
    let rest = rank_within stamp es in by_lt_z e.0 stamp
    (λ low. let one = rank_of-lower stamp e es low in omega (arith, one, rest))
    (λ high. let none = rank_of-higher stamp e es high in omega (arith, none))

-- where an element is there, its rank is its index
pub rank_below_length : (stamp : ℤ) (es : List Element) → AreRising es → is_some (element_at stamp es) ≡ true → suc (rank_of stamp es) ≤ length es
rank_below_length stamp [] rise there = absurd (cc)
rank_below_length stamp (e ∷ es) rise there = by_lt_z e.0 stamp
    (λ low. let one = rank_of-lower stamp e es low in
    let rest = rank_below_length stamp es (AreRising-tail e es rise) (ap is_some (sym (element_at-lower stamp e es low)) ∙ there) in
    omega (arith, one, rest))
    (λ high. let none = rank_of-higher stamp e es high in omega (arith, none))

-- what an edit makes of the first element and the others
with_element-lower : (stamp : ℤ) (row : Row) (e : Element) (es : List Element) → e.0 <ℤ stamp → with_element stamp row (e ∷ es) ≡ e ∷ with_element stamp row es
with_element-lower stamp row e es low = rw (int_lt_no stamp e.0 (omega (arith, ints, low)), int_lt_yes e.0 stamp low) refl

with_element-higher : (stamp : ℤ) (row : Row) (e : Element) (es : List Element) → stamp <ℤ e.0 → with_element stamp row (e ∷ es) ≡ (stamp, row) ∷ e ∷ es
with_element-higher stamp row e es high = rw (int_lt_yes stamp e.0 high) refl

with_element-same : (stamp : ℤ) (row : Row) (e : Element) (es : List Element) → stamp ≤ℤ e.0 → e.0 ≤ℤ stamp → with_element stamp row (e ∷ es) ≡ (e.0, row) ∷ es
with_element-same stamp row e es low high = rw (int_lt_no stamp e.0 high, int_lt_no e.0 stamp low) refl

without_element-lower : (stamp : ℤ) (e : Element) (es : List Element) → e.0 <ℤ stamp → without_element stamp (e ∷ es) ≡ e ∷ without_element stamp es
without_element-lower stamp e es low = rw (int_lt_no stamp e.0 (omega (arith, ints, low)), int_lt_yes e.0 stamp low) refl

without_element-higher : (stamp : ℤ) (e : Element) (es : List Element) → stamp <ℤ e.0 → without_element stamp (e ∷ es) ≡ e ∷ without_element stamp es
without_element-higher stamp e es high = rw (int_lt_yes stamp e.0 high) refl

without_element-same : (stamp : ℤ) (e : Element) (es : List Element) → stamp ≤ℤ e.0 → e.0 ≤ℤ stamp → without_element stamp (e ∷ es) ≡ without_element stamp es
without_element-same stamp e es low high = rw (int_lt_no stamp e.0 high, int_lt_no e.0 stamp low) refl

-- a row at a new stamp goes before the first later element
pub put_new : (stamp : ℤ) (row : Row) (es : List Element) → element_at stamp es ≡ None → with_element stamp row es ≡ take (rank_of stamp es) es ++ (stamp, row) ∷ drop (rank_of stamp es) es
put_new stamp row [] none = refl
put_new stamp row (e ∷ es) none = by_lt_z e.0 stamp
    (λ low. with_element-lower stamp row e es low
    ∙ ap (λ (l : List Element). e ∷ l) (put_new stamp row es (sym (element_at-lower stamp e es low) ∙ none))
    ∙ ap (λ (n : ℕ). take n (e ∷ es) ++ (stamp, row) ∷ drop n (e ∷ es)) (sym (rank_of-lower stamp e es low)))
    (λ high. by_lt_z stamp e.0
    (λ above. with_element-higher stamp row e es above ∙ ap (λ (n : ℕ). take n (e ∷ es) ++ (stamp, row) ∷ drop n (e ∷ es)) (sym (rank_of-higher stamp e es high)))
    (λ below. absurd (let some = element_at-same stamp e es high below in cc)))

-- a row at another one takes the place of the element that is there
pub put_there : (stamp : ℤ) (row : Row) (es : List Element) → AreRising es → is_some (element_at stamp es) ≡ true → with_element stamp row es ≡ take (rank_of stamp es) es ++ (stamp, row) ∷ drop (rank_of stamp es + 1) es
put_there stamp row [] rise there = absurd (cc)
put_there stamp row (e ∷ es) rise there = by_lt_z e.0 stamp
    (λ low. with_element-lower stamp row e es low
    ∙ ap (λ (l : List Element). e ∷ l) (put_there stamp row es (AreRising-tail e es rise) (ap is_some (sym (element_at-lower stamp e es low)) ∙ there))
    ∙ ap (λ (n : ℕ). e ∷ (take (rank_of stamp es) es ++ (stamp, row) ∷ drop n (e ∷ es))) (let one : suc (rank_of stamp es + 1) ≡ suc (rank_of stamp es) + 1 = omega arith in one)
    ∙ ap (λ (n : ℕ). take n (e ∷ es) ++ (stamp, row) ∷ drop (n + 1) (e ∷ es)) (sym (rank_of-lower stamp e es low)))
    (λ high. by_lt_z stamp e.0
    (λ above. absurd (let none = element_at-higher stamp e es above ∙ none_after stamp e es rise high in cc))
    (λ below. with_element-same stamp row e es high below
    ∙ ap (λ (z : ℤ). (z, row) ∷ es) (let same : e.0 ≡ stamp = omega (arith, ints, high, below) in same)
    ∙ ap (λ (n : ℕ). take n (e ∷ es) ++ (stamp, row) ∷ drop (n + 1) (e ∷ es)) (sym (rank_of-higher stamp e es high))))

-- and keeps the first stamp
pub first_kept : (stamp : ℤ) (row : Row) (es : List Element) → AreRising es → is_some (element_at stamp es) ≡ true → first_stamp (with_element stamp row es) ≡ first_stamp es
first_kept stamp row [] rise there = absurd (cc)
first_kept stamp row (e ∷ es) rise there = by_lt_z e.0 stamp
    (λ low. ap first_stamp (with_element-lower stamp row e es low))
    (λ high. by_lt_z stamp e.0
    (λ above. absurd (let none = element_at-higher stamp e es above ∙ none_after stamp e es rise high in cc))
    (λ below. ap first_stamp (with_element-same stamp row e es high below)))

-- none is taken away where none is there
pub take_none : (stamp : ℤ) (es : List Element) → element_at stamp es ≡ None → without_element stamp es ≡ es
take_none stamp [] none = refl
take_none stamp (e ∷ es) none = by_lt_z e.0 stamp
    (λ low. without_element-lower stamp e es low ∙ ap (λ (l : List Element). e ∷ l) (take_none stamp es (sym (element_at-lower stamp e es low) ∙ none)))
    (λ high. by_lt_z stamp e.0
    (λ above. without_element-higher stamp e es above ∙ ap (λ (l : List Element). e ∷ l) (take_none stamp es (sym (element_at-higher stamp e es above) ∙ none)))
    (λ below. absurd (let some = element_at-same stamp e es high below in cc)))

-- else the one that is there
pub take_there : (stamp : ℤ) (es : List Element) → AreRising es → is_some (element_at stamp es) ≡ true → without_element stamp es ≡ take (rank_of stamp es) es ++ drop (rank_of stamp es + 1) es
take_there stamp [] rise there = absurd (cc)
take_there stamp (e ∷ es) rise there = by_lt_z e.0 stamp
    (λ low. without_element-lower stamp e es low
    ∙ ap (λ (l : List Element). e ∷ l) (take_there stamp es (AreRising-tail e es rise) (ap is_some (sym (element_at-lower stamp e es low)) ∙ there))
    ∙ ap (λ (n : ℕ). e ∷ (take (rank_of stamp es) es ++ drop n (e ∷ es))) (let one : suc (rank_of stamp es + 1) ≡ suc (rank_of stamp es) + 1 = omega arith in one)
    ∙ ap (λ (n : ℕ). take n (e ∷ es) ++ drop (n + 1) (e ∷ es)) (sym (rank_of-lower stamp e es low)))
    (λ high. by_lt_z stamp e.0
    (λ above. absurd (let none = element_at-higher stamp e es above ∙ none_after stamp e es rise high in cc))
    (λ below. without_element-same stamp e es high below ∙ take_none stamp es (none_after stamp e es rise high)
    ∙ ap (λ (n : ℕ). take n (e ∷ es) ++ drop (n + 1) (e ∷ es)) (sym (rank_of-higher stamp e es high))))

-- edits keep what holds of each
with_elements : (columns : List Column) (stamp : ℤ) (row : Row) (es : List Element) → AreElements columns es → IsElement columns (stamp, row) → AreElements columns (with_element stamp row es)
with_elements columns stamp row [] are is = (is, tt)
with_elements columns stamp row (e ∷ es) are is =
    let P : List Element → Type 0 = AreElements columns in by_lt_z e.0 stamp
    (λ low. subst P (sym (with_element-lower stamp row e es low)) (are.0, with_elements columns stamp row es are.1 is))
    (λ high. by_lt_z stamp e.0
    (λ above. subst P (sym (with_element-higher stamp row e es above)) (is, (are.0, are.1)))
    (λ below. subst P (sym (with_element-same stamp row e es high below)) (record { stamp = are.0.stamp; row = is.row }, are.1)))

without_elements : (columns : List Column) (stamp : ℤ) (es : List Element) → AreElements columns es → AreElements columns (without_element stamp es)
without_elements columns stamp [] are = tt
without_elements columns stamp (e ∷ es) are =
    let rest = without_elements columns stamp es are.1 in
    elim (not (int_eq stamp e.0)) as (λ b. AreElements columns (cond b (e ∷ without_element stamp es) (without_element stamp es))) [ true ↦ (are.0, rest) | false ↦ rest ]

-- and the order, behind a first one that is earlier
with_rising : (x : Element) (stamp : ℤ) (row : Row) (es : List Element) → AreRising (x ∷ es) → x.0 <ℤ stamp → AreRising (x ∷ with_element stamp row es)
with_rising x stamp row [] rise early = (early, tt)
with_rising x stamp row (e ∷ es) rise early =
    let P : List Element → Type 0 = λ l. AreRising (x ∷ l) in by_lt_z e.0 stamp
    (λ low. subst P (sym (with_element-lower stamp row e es low)) (rise.0, with_rising e stamp row es rise.1 low))
    (λ high. by_lt_z stamp e.0
    (λ above. subst P (sym (with_element-higher stamp row e es above)) (early, (above, rise.1)))
    (λ below. subst P (sym (with_element-same stamp row e es high below)) (rise.0, AreRising-row e row es rise.1)))

with_all_rising : (stamp : ℤ) (row : Row) (es : List Element) → AreRising es → AreRising (with_element stamp row es)
with_all_rising stamp row [] rise = tt
with_all_rising stamp row (e ∷ es) rise = by_lt_z e.0 stamp
    (λ low. subst AreRising (sym (with_element-lower stamp row e es low)) (with_rising e stamp row es rise low))
    (λ high. by_lt_z stamp e.0
    (λ above. subst AreRising (sym (with_element-higher stamp row e es above)) (above, rise))
    (λ below. subst AreRising (sym (with_element-same stamp row e es high below)) (AreRising-row e row es rise)))

without_rising : (x : Element) (stamp : ℤ) (es : List Element) → AreRising (x ∷ es) → AreRising (x ∷ without_element stamp es)
without_rising x stamp [] rise = tt
without_rising x stamp (e ∷ es) rise =
    let kept = without_rising e stamp es rise.1 in
    let left = without_rising x stamp es (AreRising-skip x e es rise) in
    elim (not (int_eq stamp e.0)) as (λ b. AreRising (x ∷ cond b (e ∷ without_element stamp es) (without_element stamp es))) [ true ↦ (rise.0, kept) | false ↦ left ]

without_all_rising : (stamp : ℤ) (es : List Element) → AreRising es → AreRising (without_element stamp es)
without_all_rising stamp [] rise = tt
without_all_rising stamp (e ∷ es) rise =
    let kept = without_rising e stamp es rise in
    let left = without_all_rising stamp es (AreRising-tail e es rise) in
    elim (not (int_eq stamp e.0)) as (λ b. AreRising (cond b (e ∷ without_element stamp es) (without_element stamp es))) [ true ↦ kept | false ↦ left ]

pub with_in_order : (columns : List Column) (stamp : ℤ) (row : Row) (es : List Element) → AreInOrder columns es → IsElement columns (stamp, row) → AreInOrder columns (with_element stamp row es)
with_in_order columns stamp row es order is = record { each = with_elements columns stamp row es order.each is; rising = with_all_rising stamp row es order.rising }

pub without_in_order : (columns : List Column) (stamp : ℤ) (es : List Element) → AreInOrder columns es → AreInOrder columns (without_element stamp es)
without_in_order columns stamp es order = record { each = without_elements columns stamp es order.each; rising = without_all_rising stamp es order.rising }

-- one more at most
pub length-with : (stamp : ℤ) (row : Row) (es : List Element) → length (with_element stamp row es) ≤ length es + 1
length-with stamp row [] = omega arith
length-with stamp row (e ∷ es) =
    let P : List Element → Type 0 = λ l. length l ≤ length (e ∷ es) + 1 in
    let rest = length-with stamp row es in by_lt_z e.0 stamp
    (λ low. subst P (sym (with_element-lower stamp row e es low)) (omega (arith, rest)))
    (λ high. by_lt_z stamp e.0
    (λ above. subst P (sym (with_element-higher stamp row e es above)) (omega arith))
    (λ below. subst P (sym (with_element-same stamp row e es high below)) (omega arith)))

pub length-without : (stamp : ℤ) (es : List Element) → length (without_element stamp es) ≤ length es
length-without stamp [] = omega arith
length-without stamp (e ∷ es) =
    let rest = length-without stamp es in
    elim (not (int_eq stamp e.0)) as (λ b. length (cond b (e ∷ without_element stamp es) (without_element stamp es)) ≤ length (e ∷ es)) [ true ↦ omega (arith, rest) | false ↦ omega (arith, rest) ]
