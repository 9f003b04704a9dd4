-- The elements before a range and behind it.
use Rattle.std.proofs.Common.{◌≡◌, ℕ, suc, ◌+◌, ◌≤◌, Bool, true, false, cond, not, ℤ, ◌<ℤ◌, ◌≤ℤ◌, Ok, Err, Some, is_some, List, [], ◌∷◌, ◌++◌, length, take, drop, refl, sym, ap, ◌∙◌, arith}
use Rattle.std.specs.Prelude.{int_lt, filter}
use Rattle.std.proofs.lemmas.Int.{by_lt_z, ints}
use Rattle.std.proofs.lemmas.List.Elements.{filter-append}
use Rattle.std.proofs.lemmas.List.Filters.{length-filter_both}
use Rattle.ts_row.specs.declared.kind.Column.{Column}
use Rattle.ts_row.specs.Row.{Element}
use Rattle.ts_cells.specs.IrregularPage.{IsElement, AreElements, AreRising, AreInOrder, first_stamp}
use Rattle.ts_irregular.specs.Edit.{element_at, rank_of, search_of}
use Rattle.ts_irregular.proofs.EditLemmas.{int_lt_yes, int_lt_no}
use Rattle.ts_sheets.specs.Stamped.{AreEarlier, AreLater, earlier, is_within, within_range, without_range}
use Rattle.ts_sheets.proofs.OrderLemmas.{later_than, later_of, rising_of, rising_tail}
use Rattle.ts_chain.proofs.EditLemmas.{at_lower, at_higher, at_same, none_later}
use Rattle.ts_series.specs.Ends.{later}

-- one element more
earlier_low : (from : ℤ) (e : Element) (es : List Element) → e.0 <ℤ from → earlier from (e ∷ es) ≡ e ∷ earlier from es
earlier_low from e es low = rw (int_lt_yes e.0 from low) refl

earlier_high : (from : ℤ) (e : Element) (es : List Element) → from ≤ℤ e.0 → earlier from (e ∷ es) ≡ earlier from es
earlier_high from e es high = rw (int_lt_no e.0 from high) refl

later_low : (to : ℤ) (e : Element) (es : List Element) → e.0 ≤ℤ to → later to (e ∷ es) ≡ later to es
later_low to e es low = rw (int_lt_no to e.0 low) refl

later_high : (to : ℤ) (e : Element) (es : List Element) → to <ℤ e.0 → later to (e ∷ es) ≡ e ∷ later to es
later_high to e es high = rw (int_lt_yes to e.0 high) refl

-- all of them, or none
pub earlier_all : (from : ℤ) (es : List Element) → AreEarlier from es → earlier from es ≡ es
earlier_all from [] are = refl
earlier_all from (e ∷ es) are = earlier_low from e es are.0 ∙ ap (λ (l : List Element). e ∷ l) (earlier_all from es are.1)

pub earlier_none : (from : ℤ) (es : List Element) → AreLater from es → earlier from es ≡ []
earlier_none from [] are = refl
earlier_none from (e ∷ es) are = let first = are.0 in earlier_high from e es (omega (arith, ints, first)) ∙ earlier_none from es are.1

pub later_all : (to : ℤ) (es : List Element) → AreLater to es → later to es ≡ es
later_all to [] are = refl
later_all to (e ∷ es) are = later_high to e es are.0 ∙ ap (λ (l : List Element). e ∷ l) (later_all to es are.1)

pub later_none : (to : ℤ) (es : List Element) → AreEarlier to es → later to es ≡ []
later_none to [] are = refl
later_none to (e ∷ es) are = let first = are.0 in later_low to e es (omega (arith, ints, first)) ∙ later_none to es are.1

-- of two lists
pub earlier_both : (from : ℤ) (xs ys : List Element) → earlier from (xs ++ ys) ≡ earlier from xs ++ earlier from ys
earlier_both from xs ys = filter-append (λ (e : Element). int_lt e.0 from) xs ys

pub later_both : (to : ℤ) (xs ys : List Element) → later to (xs ++ ys) ≡ later to xs ++ later to ys
later_both to xs ys = filter-append (λ (e : Element). int_lt to e.0) xs ys

-- by the rank of a stamp
rank_low : (stamp : ℤ) (e : Element) (es : List Element) → e.0 <ℤ stamp → rank_of stamp (e ∷ es) ≡ suc (rank_of stamp es)
rank_low stamp e es low = rw (int_lt_yes e.0 stamp low) refl

rank_high : (stamp : ℤ) (e : Element) (es : List Element) → stamp ≤ℤ e.0 → rank_of stamp (e ∷ es) ≡ 0
rank_high stamp e es high = rw (int_lt_no e.0 stamp high) refl

-- all that stands behind one that isn't earlier
none_behind : (from : ℤ) (e : Element) (es : List Element) → AreRising (e ∷ es) → from ≤ℤ e.0 → earlier from (e ∷ es) ≡ []
none_behind from e es rise high = earlier_high from e es high ∙ earlier_none from es (later_than from e.0 es high (later_of e es rise))

pub earlier_take : (from : ℤ) (es : List Element) → AreRising es → earlier from es ≡ take (rank_of from es) es
earlier_take from [] rise = refl
earlier_take from (e ∷ es) rise = by_lt_z e.0 from
    (λ low. earlier_low from e es low ∙ ap (λ (l : List Element). e ∷ l) (earlier_take from es (rising_tail e es rise)) ∙ ap (λ (n : ℕ). take n (e ∷ es)) (sym (rank_low from e es low)))
    (λ high. none_behind from e es rise high ∙ ap (λ (n : ℕ). take n (e ∷ es)) (sym (rank_high from e es high)))

-- how many elements stand no later than a stamp
pub upper : ℤ → List Element → ℕ
upper to es = cond (is_some (element_at to es)) (suc (rank_of to es)) (rank_of to es)

pub later_drop : (to : ℤ) (es : List Element) → AreRising es → later to es ≡ drop (upper to es) es
unfolding upper
later_drop to [] rise = refl
later_drop to (e ∷ es) rise = by_lt_z e.0 to
    (λ low.
    let same : upper to (e ∷ es) ≡ suc (upper to es) = (λ j. cond (is_some (at_lower to e es low j)) (suc (rank_low to e es low j)) (rank_low to e es low j)) ∙ more (is_some (element_at to es)) (rank_of to es) in
    later_low to e es (omega (arith, ints, low)) ∙ later_drop to es (rising_tail e es rise) ∙ ap (λ (n : ℕ). drop n (e ∷ es)) (sym same))
    (λ high. by_lt_z to e.0
    (λ above.
    let behind : AreLater to es = later_than to e.0 es high (later_of e es rise) in
    let same : upper to (e ∷ es) ≡ 0 = (λ j. cond (is_some ((at_higher to e es above ∙ none_later to es behind) j)) (suc (rank_of to (e ∷ es))) (rank_of to (e ∷ es))) ∙ rank_high to e es high in
    later_high to e es above ∙ ap (λ (l : List Element). e ∷ l) (later_all to es behind) ∙ ap (λ (n : ℕ). drop n (e ∷ es)) (sym same))
    (λ below.
    let behind : AreLater to es = later_than to e.0 es high (later_of e es rise) in
    let same : upper to (e ∷ es) ≡ 1 = (λ j. cond (is_some (at_same to e es high below j)) (suc (rank_of to (e ∷ es))) (rank_of to (e ∷ es))) ∙ ap suc (rank_high to e es high) in
    later_low to e es below ∙ later_all to es behind ∙ ap (λ (n : ℕ). drop n (e ∷ es)) (sym same)))
  where
    more : (b : Bool) (r : ℕ) → cond b (suc (suc r)) (suc r) ≡ suc (cond b (suc r) r)
    more true r = refl
    more false r = refl

-- by what a search finds
pub found_earlier : (from : ℤ) (es : List Element) (i : ℕ) → AreRising es → search_of from es ≡ Ok i → earlier from es ≡ take i es
found_earlier from es i rise is = earlier_take from es rise ∙ ap (λ (n : ℕ). take n es) (rank_is (is_some (element_at from es)) (rank_of from es) is)
  where
    rank_is : (b : Bool) (r : ℕ) → cond b (Ok r) (Err r) ≡ Ok i → r ≡ i
    rank_is true r same = cc
    rank_is false r same = absurd (cc)

pub missed_earlier : (from : ℤ) (es : List Element) (i : ℕ) → AreRising es → search_of from es ≡ Err i → earlier from es ≡ take i es
missed_earlier from es i rise is = earlier_take from es rise ∙ ap (λ (n : ℕ). take n es) (rank_is (is_some (element_at from es)) (rank_of from es) is)
  where
    rank_is : (b : Bool) (r : ℕ) → cond b (Ok r) (Err r) ≡ Err i → r ≡ i
    rank_is true r same = absurd (cc)
    rank_is false r same = cc

pub found_later : (to : ℤ) (es : List Element) (i : ℕ) → AreRising es → search_of to es ≡ Ok i → later to es ≡ drop (i + 1) es
unfolding upper
found_later to es i rise is = later_drop to es rise ∙ ap (λ (n : ℕ). drop n es) (rank_is (is_some (element_at to es)) (rank_of to es) is)
  where
    rank_is : (b : Bool) (r : ℕ) → cond b (Ok r) (Err r) ≡ Ok i → cond b (suc r) r ≡ i + 1
    rank_is true r same = (let one : r ≡ i = cc in omega (arith, one))
    rank_is false r same = absurd (cc)

pub missed_later : (to : ℤ) (es : List Element) (i : ℕ) → AreRising es → search_of to es ≡ Err i → later to es ≡ drop i es
unfolding upper
missed_later to es i rise is = later_drop to es rise ∙ ap (λ (n : ℕ). drop n es) (rank_is (is_some (element_at to es)) (rank_of to es) is)
  where
    rank_is : (b : Bool) (r : ℕ) → cond b (Ok r) (Err r) ≡ Err i → cond b (suc r) r ≡ i
    rank_is true r same = absurd (cc)
    rank_is false r same = cc

-- the elements outside a range
pub without_parts : (from to : ℤ) → from ≤ℤ to → (es : List Element) → AreRising es → without_range from to es ≡ earlier from es ++ later to es
without_parts from to order [] rise = refl
without_parts from to order (e ∷ es) rise =
    let rest = without_parts from to order es (rising_tail e es rise) in by_lt_z e.0 from
    (λ low.
    let one : without_range from to (e ∷ es) ≡ e ∷ without_range from to es = rw (int_lt_yes e.0 from low) refl in
    one ∙ ap (λ (l : List Element). e ∷ l) rest ∙ (λ j. sym (earlier_low from e es low) j ++ sym (later_low to e es (omega (arith, ints, low, order))) j))
    (λ high.
    let none : earlier from es ≡ [] = earlier_none from es (later_than from e.0 es high (later_of e es rise)) in
    let others : without_range from to es ≡ later to es = rest ∙ ap (λ (l : List Element). l ++ later to es) none in
    let all : earlier from (e ∷ es) ≡ [] = none_behind from e es rise high in by_lt_z to e.0
    (λ above.
    let one : without_range from to (e ∷ es) ≡ e ∷ without_range from to es = rw (int_lt_no e.0 from high, int_lt_yes to e.0 above) refl in
    one ∙ ap (λ (l : List Element). e ∷ l) others ∙ sym (later_high to e es above) ∙ ap (λ (l : List Element). l ++ later to (e ∷ es)) (sym all))
    (λ below.
    let one : without_range from to (e ∷ es) ≡ without_range from to es = rw (int_lt_no e.0 from high, int_lt_no to e.0 below) refl in
    one ∙ others ∙ sym (later_low to e es below) ∙ ap (λ (l : List Element). l ++ later to (e ∷ es)) (sym all)))

-- those in it and those outside
pub all_counted : (from to : ℤ) (es : List Element) → length (within_range from to es) + length (without_range from to es) ≡ length es
all_counted from to es = length-filter_both (is_within from to) (λ (e : Element). not (is_within from to e)) (λ e. refl) es

-- some of the elements keep what holds of all
later_test : (at : ℤ) (e : Element) (fs : List Element) (b : Bool) → at <ℤ e.0 → AreLater at fs → AreLater at (cond b (e ∷ fs) fs)
later_test at e fs true first are = (first, are)
later_test at e fs false first are = are

earlier_test : (at : ℤ) (e : Element) (fs : List Element) (b : Bool) → e.0 <ℤ at → AreEarlier at fs → AreEarlier at (cond b (e ∷ fs) fs)
earlier_test at e fs true first are = (first, are)
earlier_test at e fs false first are = are

rising_test : (e : Element) (fs : List Element) (b : Bool) → AreLater e.0 fs → AreRising fs → AreRising (cond b (e ∷ fs) fs)
rising_test e fs true later rise = rising_of e fs later rise
rising_test e fs false later rise = rise

elements_test : (columns : List Column) (e : Element) (fs : List Element) (b : Bool) → IsElement columns e → AreElements columns fs → AreElements columns (cond b (e ∷ fs) fs)
elements_test columns e fs true is are = (is, are)
elements_test columns e fs false is are = are

module _ (test : Element → Bool) where
  pub filter_later : (at : ℤ) (es : List Element) → AreLater at es → AreLater at (filter test es)
  filter_later at [] are = tt
  filter_later at (e ∷ es) are = later_test at e (filter test es) (test e) are.0 (filter_later at es are.1)

  pub filter_earlier : (at : ℤ) (es : List Element) → AreEarlier at es → AreEarlier at (filter test es)
  filter_earlier at [] are = tt
  filter_earlier at (e ∷ es) are = earlier_test at e (filter test es) (test e) are.0 (filter_earlier at es are.1)

  filter_rising : (es : List Element) → AreRising es → AreRising (filter test es)
  filter_rising [] rise = tt
  filter_rising (e ∷ es) rise = rising_test e (filter test es) (test e) (filter_later e.0 es (later_of e es rise)) (filter_rising es (rising_tail e es rise))

  filter_elements : (columns : List Column) (es : List Element) → AreElements columns es → AreElements columns (filter test es)
  filter_elements columns [] are = tt
  filter_elements columns (e ∷ es) are = elements_test columns e (filter test es) (test e) are.0 (filter_elements columns es are.1)

  pub filter_in_order : (columns : List Column) (es : List Element) → AreInOrder columns es → AreInOrder columns (filter test es)
  filter_in_order columns es order = record { each = filter_elements columns es order.each; rising = filter_rising es order.rising }

  -- the first of them isn't before the first of all
  pub filter_first : (first at : ℤ) (es : List Element) → AreRising es → first_stamp es ≡ Some first → first_stamp (filter test es) ≡ Some at → first ≤ℤ at
  filter_first first at [] rise is one = absurd (cc)
  filter_first first at (e ∷ es) rise is one = by_test (test e) one
    where
      some_z : {a b : ℤ} → Some a ≡ Some b → a ≡ b
      some_z same = cc

      behind : (fs : List Element) → AreLater e.0 fs → first_stamp fs ≡ Some at → e.0 ≤ℤ at
      behind [] are left = absurd (cc)
      behind (f ∷ fs) are left = let low = are.0 in omega (arith, ints, low, some_z left)

      by_test : (b : Bool) → first_stamp (cond b (e ∷ filter test es) (filter test es)) ≡ Some at → first ≤ℤ at
      by_test true left = omega (arith, ints, some_z is, some_z left)
      by_test false left = let low = behind (filter test es) (filter_later e.0 es (later_of e es rise)) left in omega (arith, ints, some_z is, low)

-- the first of the earlier ones is the first of all
pub first_earlier : (from : ℤ) (es : List Element) → AreRising es → 1 ≤ length (earlier from es) → first_stamp (earlier from es) ≡ first_stamp es
first_earlier from [] rise some = refl
first_earlier from (e ∷ es) rise some = by_lt_z e.0 from
    (λ low. ap first_stamp (earlier_low from e es low))
    (λ high. absurd (omega (arith, some, ap length (none_behind from e es rise high))))

-- the first of the later ones is later
pub first_later : (to at : ℤ) (es : List Element) → first_stamp (later to es) ≡ Some at → to <ℤ at
first_later to at [] is = absurd (cc)
first_later to at (e ∷ es) is = by_lt_z to e.0
    (λ above. let same : e.0 ≡ at = some_z (sym (ap first_stamp (later_high to e es above)) ∙ is) in omega (arith, ints, same, above))
    (λ below. first_later to at es (sym (ap first_stamp (later_low to e es below)) ∙ is))
  where
    some_z : {a b : ℤ} → Some a ≡ Some b → a ≡ b
    some_z same = cc

-- no more are before a range and behind it than there are
pub parts_fit : (from to : ℤ) → from ≤ℤ to → (es : List Element) → AreRising es → length (earlier from es ++ later to es) ≤ length es
parts_fit from to order es rise = let all = all_counted from to es in omega (arith, all, ap length (without_parts from to order es rise))
