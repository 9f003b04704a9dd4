-- What a put and a drop change, and what they leave.
use Rattle.std.proofs.Common.{◌≡◌, ◌≢◌, ℕ, ◌+◌, ◌<◌, Bool, true, false, cond, not, Option, Some, None, is_some, List, [], ◌∷◌, ◌++◌, length, get_or, sum_by, refl, ap, sym, ◌∙◌, arith, ℤ, ◌<ℤ◌, ◌≤ℤ◌}
use Rattle.std.specs.Ordering.{int_eq}
use Rattle.std.specs.Option.{option_map_or}
use Rattle.std.proofs.lemmas.Bool.{cond_both}
use Rattle.std.proofs.lemmas.Int.{by_lt_z, ints}
use Rattle.std.proofs.lemmas.List.Sums.{sum_by-set, sum_by-insert, sum_by-remove}
use Rattle.ts_space.specs.declared.place.Place.{Place}
use Rattle.ts_space.specs.Place.{AreAbove, AreBelow, IsRising, place_at, rank_of, put_place, drop_place}
use Rattle.ts_space.proofs.PlaceLemmas.{int_lt_yes, int_lt_no, int_eq_same, int_eq_lower, int_eq_higher, none_below, all_above, none_at, none_found, put_found, put_new, drop_found, drop_none}

pub int_eq_other : (a b : ℤ) → a ≢ b → int_eq a b ≡ false
int_eq_other a b differs = by_lt_z a b (int_eq_lower a b) (λ high. by_lt_z b a (int_eq_higher a b) (λ low. absurd (differs (omega (arith, ints, high, low)))))

pub int_eq_yes : (a b : ℤ) → int_eq a b ≡ true → a ≡ b
int_eq_yes a b same =
    by_lt_z a b (λ low. absurd (let other = int_eq_lower a b low in cc)) (λ high. by_lt_z b a (λ above. absurd (let other = int_eq_higher a b above in cc)) (λ low. omega (arith, ints, high, low)))

-- a put into a list with a first place
pub put_lower : (p place : Place) (ps : List Place) → p.at <ℤ place.at → put_place place (p ∷ ps) ≡ p ∷ put_place place ps
put_lower p place ps low = rw (int_lt_yes p.at place.at low, int_lt_no place.at p.at (omega (arith, ints, low))) refl

pub put_same : (p place : Place) (ps : List Place) → AreAbove p.at ps → p.at ≡ place.at → put_place place (p ∷ ps) ≡ place ∷ ps
put_same p place ps above same =
    let low : place.at ≤ℤ p.at = omega (arith, ints, same) in
    let high : p.at ≤ℤ place.at = omega (arith, ints, same) in
    let none = none_below ps place.at p.at above low in
    let all = all_above ps place.at p.at above low in
    rw (int_lt_no p.at place.at low, int_lt_no place.at p.at high, none, all) refl

pub put_higher : (p place : Place) (ps : List Place) → AreAbove p.at ps → place.at <ℤ p.at → put_place place (p ∷ ps) ≡ place ∷ p ∷ ps
put_higher p place ps above lt =
    let low : place.at ≤ℤ p.at = omega (arith, ints, lt) in
    let none = none_below ps place.at p.at above low in
    let all = all_above ps place.at p.at above low in
    rw (int_lt_no p.at place.at low, int_lt_yes place.at p.at lt, none, all) refl

-- the place that was put is found
pub put_own : (ps : List Place) (place : Place) → IsRising ps → place_at place.at (put_place place ps) ≡ Some place
put_own [] place rising = rw (int_eq_same place.at place.at refl) refl
put_own (p ∷ ps) place rising = by_lt_z p.at place.at
    (λ low. rw (put_lower p place ps low, int_eq_lower p.at place.at low) (put_own ps place rising.1))
    (λ high. by_lt_z place.at p.at
    (λ above. rw (put_higher p place ps rising.0 above, int_eq_same place.at place.at refl) refl)
    (λ below. rw (put_same p place ps rising.0 (omega (arith, ints, high, below)), int_eq_same place.at place.at refl) refl))

-- and every other one is as it was
pub put_others : (ps : List Place) (place : Place) (at : ℤ) → IsRising ps → at ≢ place.at → place_at at (put_place place ps) ≡ place_at at ps
put_others [] place at rising other = rw (int_eq_other place.at at (λ e. other (sym e))) refl
put_others (p ∷ ps) place at rising other = by_lt_z p.at place.at
    (λ low. rw (put_lower p place ps low) (ap (λ (o : Option Place). cond (int_eq p.at at) (Some p) o) (put_others ps place at rising.1 other)))
    (λ high. by_lt_z place.at p.at
    (λ above. rw (put_higher p place ps rising.0 above, int_eq_other place.at at (λ e. other (sym e))) refl)
    (λ below. let same : p.at ≡ place.at = omega (arith, ints, high, below) in
    rw (put_same p place ps rising.0 same, int_eq_other place.at at (λ e. other (sym e)), int_eq_other p.at at (λ e. other (sym e ∙ same))) refl))

-- what is dropped is gone, and every other place is as it was
pub drop_own : (ps : List Place) (at : ℤ) → place_at at (drop_place at ps) ≡ None
drop_own [] at = refl
drop_own (p ∷ ps) at = cond_both (not (int_eq p.at at)) (p ∷ drop_place at ps) (drop_place at ps) (λ (l : List Place). place_at at l ≡ None)
    (λ kept. rw (flip (int_eq p.at at) kept) (drop_own ps at)) (λ dropped. drop_own ps at)
  where
    flip : (b : Bool) → not b ≡ true → b ≡ false
    flip false e = refl
    flip true e = absurd (cc)

pub drop_others : (ps : List Place) (at other : ℤ) → other ≢ at → place_at other (drop_place at ps) ≡ place_at other ps
drop_others [] at other differs = refl
drop_others (p ∷ ps) at other differs = cond_both (not (int_eq p.at at)) (p ∷ drop_place at ps) (drop_place at ps) (λ (l : List Place). place_at other l ≡ place_at other (p ∷ ps))
    (λ kept. ap (λ (o : Option Place). cond (int_eq p.at other) (Some p) o) (drop_others ps at other differs))
    (λ dropped. let same : p.at ≡ at = int_eq_yes p.at at (flip (int_eq p.at at) dropped) in
    rw (int_eq_other p.at other (λ e. differs (sym e ∙ same))) (drop_others ps at other differs))
  where
    flip : (b : Bool) → not b ≡ false → b ≡ true
    flip true e = refl
    flip false e = absurd (cc)

-- the place that is found stands at its rank
pub found_rank : (ps : List Place) (at : ℤ) (d : Place) → IsRising ps → is_some (place_at at ps) ≡ true → (rank_of at ps < length ps) × (place_at at ps ≡ Some (get_or ps (rank_of at ps) d))
found_rank [] at d rising found = absurd (cc)
found_rank (p ∷ ps) at d rising found = by_lt_z p.at at
    (λ low. let rest : is_some (place_at at ps) ≡ true → (rank_of at ps < length ps) × (place_at at ps ≡ Some (get_or ps (rank_of at ps) d)) = found_rank ps at d rising.1 in
    let other = int_eq_lower p.at at low in
    let there = rest (rw other at found) in
    let within = there.0 in
    rw (int_lt_yes p.at at low) (omega (arith, within), there.1))
    (λ high. by_lt_z at p.at
    (λ above. absurd (let none = none_found ps at p.at rising.0 high in
    let clash : is_some (place_at at ps) ≡ true = rw (int_eq_higher p.at at above) at found in cc))
    (λ below. rw (int_lt_no p.at at high, int_lt_no at p.at below) (omega arith, refl)))

-- sums over the places
pub put_sum : (f : Place → ℕ) (ps : List Place) (place : Place) → IsRising ps → sum_by f (put_place place ps) + option_map_or f (place_at place.at ps) 0 ≡ sum_by f ps + f place
put_sum f ps place rising = by_found (is_some (place_at place.at ps)) refl
  where
    none_of : (o : Option Place) → is_some o ≡ false → option_map_or f o 0 ≡ 0
    none_of None none = refl
    none_of (Some p) none = absurd (cc)

    by_found : (b : Bool) → is_some (place_at place.at ps) ≡ b → sum_by f (put_place place ps) + option_map_or f (place_at place.at ps) 0 ≡ sum_by f ps + f place
    by_found true found =
        let there = found_rank ps place.at place rising found in
        rw (put_found ps place rising found, there.1) (sum_by-set f ps (rank_of place.at ps) place place there.0)
    by_found false none =
        let no = none_of (place_at place.at ps) none in
        let more = sum_by-insert f ps (rank_of place.at ps) place in
        rw (put_new ps place rising none) (omega (arith, no, more))

pub drop_sum : (f : Place → ℕ) (ps : List Place) (at : ℤ) → IsRising ps → sum_by f (drop_place at ps) + option_map_or f (place_at at ps) 0 ≡ sum_by f ps
drop_sum f ps at rising = by_found (is_some (place_at at ps)) refl
  where
    none_of : (o : Option Place) → is_some o ≡ false → option_map_or f o 0 ≡ 0
    none_of None none = refl
    none_of (Some p) none = absurd (cc)

    by_found : (b : Bool) → is_some (place_at at ps) ≡ b → sum_by f (drop_place at ps) + option_map_or f (place_at at ps) 0 ≡ sum_by f ps
    by_found true found =
        let d : Place = record { at = at; page = 0; count = 0 } in
        let there = found_rank ps at d rising found in
        rw (drop_found ps at rising found, there.1) (sum_by-remove f ps (rank_of at ps) d there.0)
    by_found false none =
        let no = none_of (place_at at ps) none in
        rw (drop_none ps at none) (omega (arith, no))

-- a place in the middle of a list
pub above_in : (front : List Place) (at : ℤ) (old : Place) (back : List Place) → AreAbove at (front ++ old ∷ back) → at <ℤ old.at
above_in [] at old back above = above.0
above_in (p ∷ front) at old back above = above_in front at old back above.1

pub put_replaces : (front : List Place) (old place : Place) (back : List Place) → IsRising (front ++ old ∷ back) → old.at ≡ place.at → put_place place (front ++ old ∷ back) ≡ front ++ place ∷ back
put_replaces [] old place back rising same = put_same old place back rising.0 same
put_replaces (p ∷ front) old place back rising same =
    let lower = above_in front p.at old back rising.0 in
    put_lower p place (front ++ old ∷ back) (omega (arith, ints, lower, same)) ∙ ap (λ (l : List Place). p ∷ l) (put_replaces front old place back rising.1 same)

pub put_between : (front : List Place) (place : Place) (back : List Place) → IsRising (front ++ back) → AreBelow place.at front → AreAbove place.at back → put_place place (front ++ back) ≡ front ++ place ∷ back
put_between [] place [] rising below above = refl
put_between [] place (p ∷ back) rising below above = put_higher p place back rising.0 above.0
put_between (p ∷ front) place back rising below above =
    put_lower p place (front ++ back) below.0 ∙ ap (λ (l : List Place). p ∷ l) (put_between front place back rising.1 below.1 above)

pub drop_takes_out : (front : List Place) (old : Place) (back : List Place) → IsRising (front ++ old ∷ back) → drop_place old.at (front ++ old ∷ back) ≡ front ++ back
drop_takes_out [] old back rising = rw (int_eq_same old.at old.at refl) (none_at back old.at old.at rising.0 (omega (arith, ints)))
drop_takes_out (p ∷ front) old back rising =
    let lower = above_in front p.at old back rising.0 in
    rw (int_eq_lower p.at old.at lower) (ap (λ (l : List Place). p ∷ l) (drop_takes_out front old back rising.1))
