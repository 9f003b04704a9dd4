-- A page that loses an element, among its neighbours.
use Rattle.std.proofs.Common.{◌≡◌, ℕ, zero, suc, ◌+◌, ◌-◌, ◌<◌, ◌≤◌, ℤ, ◌<ℤ◌, ◌≤ℤ◌, true, Option, Some, None, is_some, List, [], ◌∷◌, ◌++◌, length, take, drop, get_or, refl, sym, ap, subst, ◌∙◌, arith, append_assoc, length-append, length-drop}
use Rattle.std.proofs.lemmas.Int.{by_lt_z, ints}
use Rattle.std.proofs.lemmas.List.{length-take-le}
use Rattle.std.proofs.Math.Seq.{get_or-append_seam}
use Rattle.ts_space.specs.declared.place.Place.{Place}
use Rattle.ts_space.specs.Place.{AreAbove, IsRising}
use Rattle.ts_row.specs.declared.kind.Column.{Column}
use Rattle.ts_row.specs.Row.{Row, Element}
use Rattle.ts_cells.specs.IrregularPage.{AreRising, first_stamp}
use Rattle.ts_irregular.specs.Edit.{element_at, without_element, rank_of}
use Rattle.ts_irregular.proofs.EditLemmas.{take_there, rank_below_length}
use Rattle.ts_sheets.specs.Stamped.{all_in, AreEarlier, AreLater, ArePages}
use Rattle.ts_sheets.specs.Places.{AreChained, FitsFirst, FitsLast, IsBeginning}
use Rattle.ts_sheets.proofs.DenseLemmas.{MeetsLeft, MeetsRight}
use Rattle.ts_sheets.proofs.OrderLemmas.{later_of, later_than, some_z, first_earlier}
use Rattle.ts_chain.proofs.EditLemmas.{without_lower, without_higher, without_same, without_none}
use Rattle.ts_chain.proofs.PlaceLemmas.{above_than, before_first}
use Rattle.ts_chain.proofs.RemoveLemmas.{pages_from, rising_at}

-- how many elements are left
pub one_gone : (stamp : ℤ) (es : List Element) → AreRising es → is_some (element_at stamp es) ≡ true → length (without_element stamp es) + 1 ≡ length es
one_gone stamp es rise found =
    let r : ℕ = rank_of stamp es in
    let below = rank_below_length stamp es rise found in
    let parts = ap length (take_there stamp es rise found) ∙ length-append (take r es) (drop (r + 1) es) in
    omega (arith, below, parts, length-take-le r es (omega (arith, below)), length-drop (r + 1) es)

pub none_gone : (stamp : ℤ) (es : List Element) → AreRising es → length (without_element stamp es) ≡ length es → element_at stamp es ≡ None
none_gone stamp es rise same = by_row (element_at stamp es) refl
  where
    by_row : (o : Option Row) → element_at stamp es ≡ o → element_at stamp es ≡ None
    by_row None is = is
    by_row (Some row) is = absurd (let one = one_gone stamp es rise (ap is_some is) in omega (arith, one, same))

pub earlier_without : (at stamp : ℤ) (es : List Element) → AreEarlier at es → AreEarlier at (without_element stamp es)
earlier_without at stamp [] earlier = tt
earlier_without at stamp (e ∷ es) earlier =
    let P : List Element → Type 0 = AreEarlier at in
    let rest = earlier_without at stamp es earlier.1 in by_lt_z e.0 stamp
    (λ low. subst P (sym (without_lower stamp e es low)) (earlier.0, rest))
    (λ high. by_lt_z stamp e.0
    (λ above. subst P (sym (without_higher stamp e es above)) (earlier.0, rest))
    (λ below. subst P (sym (without_same stamp e es high below)) rest))

-- the first of them
pub first_left : (stamp first at : ℤ) (es : List Element) → AreRising es → first_stamp es ≡ Some first → first_stamp (without_element stamp es) ≡ Some at → first ≤ℤ at
first_left stamp first at [] rise is left = absurd (cc)
first_left stamp first at (e ∷ es) rise is left = by_lt_z e.0 stamp
    (λ low. let same : e.0 ≡ at = some_z (ap first_stamp (sym (without_lower stamp e es low)) ∙ left) in omega (arith, ints, same, some_z is))
    (λ high. by_lt_z stamp e.0
    (λ above. let same : e.0 ≡ at = some_z (ap first_stamp (sym (without_higher stamp e es above)) ∙ left) in omega (arith, ints, same, some_z is))
    (λ below. next es rise (sym (ap first_stamp (without_same stamp e es high below ∙ without_none stamp es (later_than_stamp high below))) ∙ left)))
  where
    later_than_stamp : stamp ≤ℤ e.0 → e.0 ≤ℤ stamp → AreLater stamp es
    later_than_stamp high below = later_than stamp e.0 es high (later_of e es rise)

    next : (fs : List Element) → AreRising (e ∷ fs) → first_stamp fs ≡ Some at → first ≤ℤ at
    next [] rising one = absurd (cc)
    next (f ∷ fs) rising one = let low = rising.0 in omega (arith, ints, low, some_z one, some_z is)

-- it is below the places behind the page
pub left_above : (slot : ℕ) (columns : List Column) (pages : ℕ → List ℕ) (stamp at : ℤ) (front : List Place) (place : Place) (back : List Place) (before : List (List Element)) (x : List Element) (behind : List (List Element)) → IsRising (front ++ place ∷ back)
    → ArePages columns (before ++ x ∷ behind) → AreChained slot columns pages back behind → first_stamp (without_element stamp x) ≡ Some at → AreAbove at back
left_above slot columns pages stamp at front place [] before x behind rising are on left = tt
left_above slot columns pages stamp at front place (p ∷ back) before x [] rising are on left = absurd on
left_above slot columns pages stamp at front place (p ∷ back) before x ([] ∷ behind) rising are on left = absurd (let first = on.0.first in cc)
left_above slot columns pages stamp at front place (p ∷ back) before x ((f ∷ fs) ∷ behind) rising are on left =
    let own = pages_from columns before (x ∷ (f ∷ fs) ∷ behind) are in
    let earlier : AreEarlier f.0 x = before_first x f (fs ++ all_in behind) own.1 in
    let low : at <ℤ f.0 = first_earlier f.0 at (without_element stamp x) (earlier_without f.0 stamp x earlier) left in
    let same : f.0 ≡ p.at = some_z on.0.first in
    let whole : (front ++ place ∷ []) ++ p ∷ back ≡ front ++ place ∷ p ∷ back = append_assoc front (place ∷ []) (p ∷ back) in
    (omega (arith, ints, low, same), above_than at p.at back (omega (arith, ints, low, same)) (rising_at (front ++ place ∷ []) p back (subst IsRising (sym whole) rising)))

-- the places beside one
pub get_next : (front : List Place) (place next : Place) (back : List Place) (d : Place) → get_or (front ++ place ∷ next ∷ back) (suc (length front)) d ≡ next
get_next [] place next back d = refl
get_next (p ∷ front) place next back d = get_next front place next back d

pub fits_last : (q n : ℕ) (front back : List Place) (i : ℕ) (d : Place) → length front ≡ suc i → (get_or (front ++ back) i d).count + n ≤ q → FitsLast q n front
fits_last q n [] back i d same fit = absurd (omega (arith, same))
fits_last q n (p ∷ []) back zero d same fit = fit
fits_last q n (p ∷ []) back (suc i) d same fit = absurd (omega (arith, same))
fits_last q n (p ∷ r ∷ front) back zero d same fit = absurd (omega (arith, same))
fits_last q n (p ∷ r ∷ front) back (suc i) d same fit = fits_last q n (r ∷ front) back i d (omega (arith, same)) fit

pub last_fits : (q n : ℕ) (front back : List Place) (i : ℕ) (d : Place) → length front ≡ suc i → FitsLast q n front → (get_or (front ++ back) i d).count + n ≤ q
last_fits q n [] back i d same fit = absurd fit
last_fits q n (p ∷ []) back zero d same fit = fit
last_fits q n (p ∷ []) back (suc i) d same fit = absurd (omega (arith, same))
last_fits q n (p ∷ r ∷ front) back zero d same fit = absurd (omega (arith, same))
last_fits q n (p ∷ r ∷ front) back (suc i) d same fit = last_fits q n (r ∷ front) back i d (omega (arith, same)) fit

-- the last of the places before
pub record HasLast (q n : ℕ) (front : List Place) : Type 0 where
  pub ahead : List Place
  pub last : Place
  pub parts : front ≡ ahead ++ last ∷ []
  pub fits : last.count + n ≤ q

pub split_last : (q n : ℕ) (front : List Place) → FitsLast q n front → HasLast q n front
split_last q n [] fit = absurd fit
split_last q n (p ∷ []) fit = record { ahead = []; last = p; parts = refl; fits = fit }
split_last q n (p ∷ r ∷ front) fit =
    let rest = split_last q n (r ∷ front) fit in record { ahead = p ∷ rest.ahead; last = rest.last; parts = ap (λ (l : List Place). p ∷ l) rest.parts; fits = rest.fits }

-- where one fits no page with a neighbour, neither do the pages
pub meets_before : (slot : ℕ) (columns : List Column) (pages : ℕ → List ℕ) (q n : ℕ) (front : List Place) (before : List (List Element)) → AreChained slot columns pages front before → ¬ FitsLast q n front → MeetsLeft q before n
meets_before slot columns pages q n [] [] on not = tt
meets_before slot columns pages q n [] (es ∷ before) on not = absurd on
meets_before slot columns pages q n (p ∷ front) [] on not = absurd on
meets_before slot columns pages q n (p ∷ []) (es ∷ []) on not = let count = on.0.count in let above : q < p.count + n = omega (arith, not) in omega (arith, count, above)
meets_before slot columns pages q n (p ∷ []) (es ∷ fs ∷ before) on not = absurd on.1
meets_before slot columns pages q n (p ∷ r ∷ front) (es ∷ []) on not = absurd on.1
meets_before slot columns pages q n (p ∷ r ∷ front) (es ∷ fs ∷ before) on not = meets_before slot columns pages q n (r ∷ front) (fs ∷ before) on.1 not

pub meets_behind : (slot : ℕ) (columns : List Column) (pages : ℕ → List ℕ) (q n : ℕ) (back : List Place) (behind : List (List Element)) → AreChained slot columns pages back behind → ¬ FitsFirst q n back → MeetsRight q n behind
meets_behind slot columns pages q n [] [] on not = tt
meets_behind slot columns pages q n [] (es ∷ behind) on not = absurd on
meets_behind slot columns pages q n (p ∷ back) [] on not = absurd on
meets_behind slot columns pages q n (p ∷ back) (es ∷ behind) on not = let count = on.0.count in let above : q < n + p.count = omega (arith, not) in omega (arith, count, above)

-- where a page begins
pub begin_below : (places : List Place) (index : ℕ) (d d2 : Place) (at begins : ℤ) → IsRising places → index + 1 < length places → (get_or places index d).at ≤ℤ begins → begins <ℤ (get_or places (index + 1) d2).at
    → ((get_or places index d).at ≤ℤ at → at <ℤ (get_or places (index + 1) d2).at → begins ≡ at)
    → (front : List Place) (place : Place) (back : List Place) → places ≡ front ++ place ∷ back → length front ≡ index → IsBeginning at begins place back
begin_below places index d d2 at begins rising within low below told front place [] parts same = absurd (omega (arith, within, ap length parts, length-append front (place ∷ []), same))
begin_below places index d d2 at begins rising within low below told front place (p ∷ back) parts same =
    let held : get_or places index d ≡ place = (λ j. get_or (parts j) (sym same j) d) ∙ get_or-append_seam front place (p ∷ back) d in
    let spot : index + 1 ≡ suc (length front) = omega (arith, same) in
    let next : get_or places (index + 1) d2 ≡ p = (λ j. get_or (parts j) (spot j) d2) ∙ get_next front place p back d2 in
    let one : (get_or places index d).at ≡ place.at = ap (λ (q : Place). q.at) held in
    let two : (get_or places (index + 1) d2).at ≡ p.at = ap (λ (q : Place). q.at) next in
    let whole : (front ++ place ∷ []) ++ p ∷ back ≡ front ++ place ∷ p ∷ back = append_assoc front (place ∷ []) (p ∷ back) in
    let beyond : AreAbove p.at back = rising_at (front ++ place ∷ []) p back (subst IsRising (parts ∙ sym whole) rising) in record {
      low = omega (arith, ints, one, low);
      above = (omega (arith, ints, two, below), above_than begins p.at back (omega (arith, ints, two, below)) beyond);
      told = λ least above. let first = above.0 in told (omega (arith, ints, one, least)) (omega (arith, ints, two, first));
    }

pub begin_alone : (places : List Place) (index : ℕ) (d : Place) (at begins : ℤ) → length places ≤ index + 1 → (get_or places index d).at ≤ℤ begins → ((get_or places index d).at ≤ℤ at → begins ≡ at)
    → (front : List Place) (place : Place) (back : List Place) → places ≡ front ++ place ∷ back → length front ≡ index → IsBeginning at begins place back
begin_alone places index d at begins last low told front place (p ∷ back) parts same = absurd (omega (arith, last, ap length parts, length-append front (place ∷ p ∷ back), same))
begin_alone places index d at begins last low told front place [] parts same =
    let held : get_or places index d ≡ place = (λ j. get_or (parts j) (sym same j) d) ∙ get_or-append_seam front place [] d in
    let one : (get_or places index d).at ≡ place.at = ap (λ (q : Place). q.at) held in record {
      low = omega (arith, ints, one, low);
      above = tt;
      told = λ least above. told (omega (arith, ints, one, least));
    }

-- a place begins below the next one
pub rising_next : (places : List Place) (i : ℕ) (d d2 : Place) → IsRising places → i + 1 < length places → (get_or places i d).at <ℤ (get_or places (i + 1) d2).at
rising_next [] i d d2 rising within = absurd (omega (arith, within))
rising_next (p ∷ []) i d d2 rising within = absurd (omega (arith, within))
rising_next (p ∷ r ∷ places) zero d d2 rising within = rising.0.0
rising_next (p ∷ r ∷ places) (suc i) d d2 rising within =
    let spot : suc i + 1 ≡ suc (i + 1) = omega arith in
    subst (λ (n : ℕ). (get_or (p ∷ r ∷ places) (suc i) d).at <ℤ (get_or (p ∷ r ∷ places) n d2).at) (sym spot) (rising_next (r ∷ places) i d d2 rising.1 (omega (arith, within)))

-- the place before has room
pub before_room : (places front back : List Place) (index : ℕ) (room q n : ℕ) (d : Place) → places ≡ front ++ back → length front ≡ index → 1 ≤ index → room ≡ q → FitsLast room n front → (get_or places (index - 1) d).count + n ≤ q
before_room places front back index room q n d parts long some same fit =
    let one = last_fits room n front back (index - 1) d (omega (arith, long, some)) fit in
    let held : (get_or places (index - 1) d).count ≡ (get_or (front ++ back) (index - 1) d).count = ap (λ (ps : List Place). (get_or ps (index - 1) d).count) parts in
    omega (arith, one, held, same)

pub room_before : (places front back : List Place) (index room n : ℕ) (d : Place) → places ≡ front ++ back → length front ≡ index → (index ≡ 0 → ⊥) → (get_or places (index - 1) d).count + n ≤ room → FitsLast room n front
room_before places front back index room n d parts long some fit =
    let held : (get_or places (index - 1) d).count ≡ (get_or (front ++ back) (index - 1) d).count = ap (λ (ps : List Place). (get_or ps (index - 1) d).count) parts in
    fits_last room n front back (index - 1) d (omega (arith, long, some)) (omega (arith, fit, held))

-- a stamp before the places behind an index
pub stand_alone : (places : List Place) (index : ℕ) (at : ℤ) (front : List Place) (place : Place) (back : List Place) → length places ≤ index + 1 → places ≡ front ++ place ∷ back → length front ≡ index → AreAbove at back
stand_alone places index at front place [] last parts same = tt
stand_alone places index at front place (p ∷ back) last parts same = absurd (omega (arith, last, ap length parts, length-append front (place ∷ p ∷ back), same))

next_of : (places : List Place) (index : ℕ) (d : Place) (front : List Place) (place p : Place) (back : List Place) → places ≡ front ++ place ∷ p ∷ back → length front ≡ index → get_or places (index + 1) d ≡ p
next_of places index d front place p back parts same =
    let spot : index + 1 ≡ suc (length front) = omega (arith, same) in
    (λ j. get_or (parts j) (spot j) d) ∙ get_next front place p back d

pub stand_below : (places : List Place) (index : ℕ) (d : Place) (at : ℤ) → IsRising places → (front : List Place) (place : Place) (back : List Place) → index + 1 < length places → places ≡ front ++ place ∷ back → length front ≡ index → at <ℤ (get_or places (index + 1) d).at → AreAbove at back
stand_below places index d at rising front place [] within parts same below = tt
stand_below places index d at rising front place (p ∷ back) within parts same below =
    let next = ap (λ (q : Place). q.at) (next_of places index d front place p back parts same) in
    let whole : (front ++ place ∷ []) ++ p ∷ back ≡ front ++ place ∷ p ∷ back = append_assoc front (place ∷ []) (p ∷ back) in
    let beyond : AreAbove p.at back = rising_at (front ++ place ∷ []) p back (subst IsRising (parts ∙ sym whole) rising) in
    (omega (arith, ints, next, below), above_than at p.at back (omega (arith, ints, next, below)) beyond)

pub stand_above : (places : List Place) (index : ℕ) (d : Place) (at : ℤ) (front : List Place) (place : Place) (back : List Place) → index + 1 < length places → places ≡ front ++ place ∷ back → length front ≡ index → AreAbove at back → at <ℤ (get_or places (index + 1) d).at
stand_above places index d at front place [] within parts same above = absurd (omega (arith, within, ap length parts, length-append front (place ∷ []), same))
stand_above places index d at front place (p ∷ back) within parts same above =
    let next = ap (λ (q : Place). q.at) (next_of places index d front place p back parts same) in
    let first = above.0 in
    omega (arith, ints, next, first)
