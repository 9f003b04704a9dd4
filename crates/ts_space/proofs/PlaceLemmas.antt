-- A rising list of places: where one stands, and what a put or a drop leaves.
use Rattle.std.proofs.Common.{inl, inr, ◌≡◌, ℕ, zero, suc, ◌+◌, ◌<◌, ◌≤◌, Bool, true, false, cond, not, Option, Some, None, List, [], ◌∷◌, ◌++◌, length, get_or, set, refl, ap, sym, ◌∙◌, arith, subst, ℤ, pos, ◌<ℤ◌, ◌≤ℤ◌, to_z, of_z, w64, SFits, ◌≢◌, is_some, Ok, Err, Result}
use Rattle.std.specs.Prelude.{int_lt}
use Rattle.std.specs.Ordering.{int_eq}
use Rattle.std.proofs.lemmas.Option.{slice_get_cases, slice_get-get_or}
use Rattle.std.specs.List.{slice_get, filter, insert, remove}
use Rattle.std.proofs.lemmas.Bool.{cond_both}
use Rattle.std.proofs.lemmas.Int.{by_lt_z, ints, to_z-of_z}
use Rattle.std.proofs.lemmas.List.{length-set}
use Rattle.std.proofs.lemmas.List.Edits.{length-insert}
use Rattle.std.proofs.lemmas.List.Sums.{length-filter, count_by-le-length}
use Rattle.ts_space.specs.declared.place.Place.{Place}
use Rattle.ts_space.specs.Place.{begins_below, begins_above, begins_at, AreAbove, IsRising, place_at, rank_of, search_of, put_place, drop_place}

-- what a read past the end would give
abbrev pub no_place : Place
no_place = record { at = pos 0; page = 0; count = 0 }

-- what a test of signed numbers says
pub int_lt_yes : (a b : ℤ) → a <ℤ b → int_lt a b ≡ true
int_lt_yes a b h = grind (arith, ints)

pub int_lt_no : (a b : ℤ) → b ≤ℤ a → int_lt a b ≡ false
int_lt_no a b h = grind (arith, ints)

pub int_eq_same : (a b : ℤ) → a ≡ b → int_eq a b ≡ true
int_eq_same a b e = rw (int_lt_no a b (omega (arith, ints, e)), int_lt_no b a (omega (arith, ints, e))) refl

pub int_eq_lower : (a b : ℤ) → a <ℤ b → int_eq a b ≡ false
int_eq_lower a b h = rw (int_lt_yes a b h) refl

pub int_eq_higher : (a b : ℤ) → b <ℤ a → int_eq a b ≡ false
int_eq_higher a b h = rw (int_lt_no a b (omega (arith, ints, h)), int_lt_yes b a h) refl

pub above_get : (ps : List Place) (at : ℤ) (i : ℕ) (d : Place) → AreAbove at ps → i < length ps → at <ℤ (get_or ps i d).at
above_get [] at i d above within = absurd (omega arith)
above_get (p ∷ ps) at zero d above within = above.0
above_get (p ∷ ps) at (suc i) d above within = above_get ps at i d above.1 (omega arith)

-- an earlier place begins below a later one
pub rising_pair : (ps : List Place) (i j : ℕ) (d : Place) → IsRising ps → i < j → j < length ps → (get_or ps i d).at <ℤ (get_or ps j d).at
rising_pair [] i j d rising earlier within = absurd (omega arith)
rising_pair (p ∷ ps) i zero d rising earlier within = absurd (omega arith)
rising_pair (p ∷ ps) zero (suc j) d rising earlier within = above_get ps p.at j d rising.0 (omega arith)
rising_pair (p ∷ ps) (suc i) (suc j) d rising earlier within = rising_pair ps i j d rising.1 (omega arith) (omega arith)

-- a place that begins below is counted
pub rank_above : (ps : List Place) (at : ℤ) (i : ℕ) (d : Place) → IsRising ps → i < length ps → (get_or ps i d).at <ℤ at → i < rank_of at ps
rank_above [] at i d rising within lower = absurd (omega arith)
rank_above (p ∷ ps) at zero d rising within lower = rw (int_lt_yes p.at at lower) (omega arith)
rank_above (p ∷ ps) at (suc i) d rising within lower =
    let above = above_get ps p.at i d rising.0 (omega arith) in
    let first : p.at <ℤ at = omega (arith, ints, above, lower) in
    let rest : i < rank_of at ps = rank_above ps at i d rising.1 (omega arith) lower in
    rw (int_lt_yes p.at at first) (omega (arith, rest))

-- another one isn't
pub rank_below : (ps : List Place) (at : ℤ) (i : ℕ) (d : Place) → i < length ps → at ≤ℤ (get_or ps i d).at → rank_of at ps ≤ i
rank_below [] at i d within higher = absurd (omega arith)
rank_below (p ∷ ps) at zero d within higher = rw (int_lt_no p.at at higher) (omega arith)
rank_below (p ∷ ps) at (suc i) d within higher =
    let rest : rank_of at ps ≤ i = rank_below ps at i d (omega arith) higher in
    cond_both (int_lt p.at at) (suc (rank_of at ps)) 0 (λ (n : ℕ). n ≤ suc i) (λ yes. omega (arith, rest)) (λ no. omega arith)

pub rank_within : (ps : List Place) (at : ℤ) → rank_of at ps ≤ length ps
rank_within [] at = omega arith
rank_within (p ∷ ps) at =
    let rest : rank_of at ps ≤ length ps = rank_within ps at in
    cond_both (int_lt p.at at) (suc (rank_of at ps)) 0 (λ (n : ℕ). n ≤ suc (length ps)) (λ yes. omega (arith, rest)) (λ no. omega arith)

-- of places above this none begins below it, none at it, and all above it
pub none_below : (ps : List Place) (at from : ℤ) → AreAbove from ps → at ≤ℤ from → filter (begins_below at) ps ≡ []
none_below [] at from above low = refl
none_below (p ∷ ps) at from above low =
    let higher = above.0 in
    rw (int_lt_no p.at at (omega (arith, ints, higher, low))) (none_below ps at from above.1 low)

pub all_above : (ps : List Place) (at from : ℤ) → AreAbove from ps → at ≤ℤ from → filter (begins_above at) ps ≡ ps
all_above [] at from above low = refl
all_above (p ∷ ps) at from above low =
    let higher = above.0 in
    rw (int_lt_yes at p.at (omega (arith, ints, higher, low))) (ap (λ (l : List Place). p ∷ l) (all_above ps at from above.1 low))

pub none_at : (ps : List Place) (at from : ℤ) → AreAbove from ps → at ≤ℤ from → drop_place at ps ≡ ps
none_at [] at from above low = refl
none_at (p ∷ ps) at from above low =
    let higher = above.0 in
    rw (int_eq_higher p.at at (omega (arith, ints, higher, low))) (ap (λ (l : List Place). p ∷ l) (none_at ps at from above.1 low))

pub none_found : (ps : List Place) (at from : ℤ) → AreAbove from ps → at ≤ℤ from → place_at at ps ≡ None
none_found [] at from above low = refl
none_found (p ∷ ps) at from above low =
    let higher = above.0 in
    rw (int_eq_higher p.at at (omega (arith, ints, higher, low))) (none_found ps at from above.1 low)

-- what a test of two signed numbers says that were read
pub lower_read : (a b : ℤ) → SFits w64 a → SFits w64 b → int_lt (to_z w64 (of_z w64 a)) (to_z w64 (of_z w64 b)) ≡ true → a <ℤ b
lower_read a b f g h = by_lt_z a b (λ low. low) (λ high. absurd (cc (int_lt_no a b high, h, to_z-of_z w64 a f, to_z-of_z w64 b g)))

pub higher_read : (a b : ℤ) → SFits w64 a → SFits w64 b → int_lt (to_z w64 (of_z w64 a)) (to_z w64 (of_z w64 b)) ≡ false → b ≤ℤ a
higher_read a b f g h = by_lt_z a b (λ low. absurd (cc (int_lt_yes a b low, h, to_z-of_z w64 a f, to_z-of_z w64 b g))) (λ high. high)

-- whether the place of that rank begins there is whether one does
pub found_at : (ps : List Place) (at : ℤ) (d : Place) → rank_of at ps < length ps → (get_or ps (rank_of at ps) d).at ≡ at → place_at at ps ≡ Some (get_or ps (rank_of at ps) d)
found_at [] at d within there = absurd (omega arith)
found_at (p ∷ ps) at d within there = by_lt_z p.at at
    (λ low. let yes = int_lt_yes p.at at low in let other = int_eq_lower p.at at low in
    let rest : rank_of at ps < length ps → (get_or ps (rank_of at ps) d).at ≡ at → place_at at ps ≡ Some (get_or ps (rank_of at ps) d) = found_at ps at d in
    rw (other, yes) (rest (omega (arith, rw yes at within)) (rw yes at there)))
    (λ high. let no = int_lt_no p.at at high in
    let same : p.at ≡ at = rw no at there in
    rw (int_eq_same p.at at same, no) refl)

pub not_found : (ps : List Place) (at : ℤ) (d : Place) → IsRising ps → (rank_of at ps < length ps → (get_or ps (rank_of at ps) d).at ≢ at) → place_at at ps ≡ None
not_found [] at d rising other = refl
not_found (p ∷ ps) at d rising other = by_lt_z p.at at
    (λ low. let yes = int_lt_yes p.at at low in
    rw (int_eq_lower p.at at low) (not_found ps at d rising.1 (λ within. rw yes at other (omega (arith, within)))))
    (λ high. let no = int_lt_no p.at at high in
    let differs : p.at ≢ at = rw no at other (omega arith) in
    let above : at <ℤ p.at = by_lt_z at p.at (λ lt. lt) (λ le. absurd (differs (omega (arith, ints, le, high)))) in
    rw (int_eq_higher p.at at above) (none_found ps at p.at rising.0 (omega (arith, ints, above))))

-- one that is there is set
pub put_found : (ps : List Place) (place : Place) → IsRising ps → is_some (place_at place.at ps) ≡ true → put_place place ps ≡ set ps (rank_of place.at ps) place
put_found [] place rising found = absurd (cc)
put_found (p ∷ ps) place rising found = by_lt_z p.at place.at
    (λ low. let rest : is_some (place_at place.at ps) ≡ true → put_place place ps ≡ set ps (rank_of place.at ps) place = put_found ps place rising.1 in
    rw (int_lt_yes p.at place.at low, int_lt_no place.at p.at (omega (arith, ints, low)))
    (ap (λ (l : List Place). p ∷ l) (rest (rw (int_eq_lower p.at place.at low) at found))))
    (λ high. by_lt_z place.at p.at
    (λ above. absurd (let none = none_found ps place.at p.at rising.0 high in
    let clash : is_some (place_at place.at ps) ≡ true = rw (int_eq_higher p.at place.at above) at found in cc))
    (λ below.
    rw (int_lt_no p.at place.at high, int_lt_no place.at p.at below)
    (ap2 (none_below ps place.at p.at rising.0 high) (all_above ps place.at p.at rising.0 high))))
  where
    ap2 : {l m n : List Place} → l ≡ [] → m ≡ n → l ++ place ∷ m ≡ place ∷ n
    ap2 e f = cc

-- another one is inserted
pub put_new : (ps : List Place) (place : Place) → IsRising ps → is_some (place_at place.at ps) ≡ false → put_place place ps ≡ insert ps (rank_of place.at ps) place
put_new [] place rising none = refl
put_new (p ∷ ps) place rising none = by_lt_z p.at place.at
    (λ low. let rest : is_some (place_at place.at ps) ≡ false → put_place place ps ≡ insert ps (rank_of place.at ps) place = put_new ps place rising.1 in
    rw (int_lt_yes p.at place.at low, int_lt_no place.at p.at (omega (arith, ints, low)))
    (ap (λ (l : List Place). p ∷ l) (rest (rw (int_eq_lower p.at place.at low) at none))))
    (λ high. by_lt_z place.at p.at
    (λ above.
    rw (int_lt_no p.at place.at high, int_lt_yes place.at p.at above)
    (both (none_below ps place.at p.at rising.0 high) (all_above ps place.at p.at rising.0 high)))
    (λ below. absurd (let clash : true ≡ false = rw (int_eq_same p.at place.at (omega (arith, ints, high, below))) at none in cc)))
  where
    both : {l m n : List Place} → l ≡ [] → m ≡ n → l ++ place ∷ p ∷ m ≡ place ∷ p ∷ n
    both e f = cc

-- one that is there is removed
pub drop_found : (ps : List Place) (at : ℤ) → IsRising ps → is_some (place_at at ps) ≡ true → drop_place at ps ≡ remove ps (rank_of at ps)
drop_found [] at rising found = absurd (cc)
drop_found (p ∷ ps) at rising found = by_lt_z p.at at
    (λ low. let rest : is_some (place_at at ps) ≡ true → drop_place at ps ≡ remove ps (rank_of at ps) = drop_found ps at rising.1 in
    let other = int_eq_lower p.at at low in
    rw (other, int_lt_yes p.at at low) (ap (λ (l : List Place). p ∷ l) (rest (rw other at found))))
    (λ high. by_lt_z at p.at
    (λ above. absurd (let none = none_found ps at p.at rising.0 high in
    let clash : is_some (place_at at ps) ≡ true = rw (int_eq_higher p.at at above) at found in cc))
    (λ below.
    rw (int_eq_same p.at at (omega (arith, ints, high, below)), int_lt_no p.at at high) (none_at ps at p.at rising.0 high)))

-- else nothing changes
pub drop_none : (ps : List Place) (at : ℤ) → is_some (place_at at ps) ≡ false → drop_place at ps ≡ ps
drop_none [] at none = refl
drop_none (p ∷ ps) at none = cond_both (int_eq p.at at) (Some p) (place_at at ps) (λ (o : Option Place). is_some o ≡ false → cond (not (int_eq p.at at)) (p ∷ drop_place at ps) (drop_place at ps) ≡ p ∷ ps)
    (λ same none. absurd (cc)) (λ other none. rw other (ap (λ (l : List Place). p ∷ l) (drop_none ps at none))) none

-- what stays above or below
pub above_filter : (ps : List Place) (at : ℤ) (t : Place → Bool) → AreAbove at ps → AreAbove at (filter t ps)
above_filter [] at t above = tt
above_filter (p ∷ ps) at t above =
    cond_both (t p) (p ∷ filter t ps) (filter t ps) (AreAbove at)
    (λ yes. (above.0, above_filter ps at t above.1)) (λ no. above_filter ps at t above.1)

pub rising_filter : (ps : List Place) (t : Place → Bool) → IsRising ps → IsRising (filter t ps)
rising_filter [] t rising = tt
rising_filter (p ∷ ps) t rising =
    cond_both (t p) (p ∷ filter t ps) (filter t ps) IsRising
    (λ yes. (above_filter ps p.at t rising.0, rising_filter ps t rising.1)) (λ no. rising_filter ps t rising.1)

pub above_higher : (ps : List Place) (at higher : ℤ) → at <ℤ higher → AreAbove higher ps → AreAbove at ps
above_higher [] at higher lt above = tt
above_higher (p ∷ ps) at higher lt above = let first = above.0 in (omega (arith, ints, first, lt), above_higher ps at higher lt above.1)

pub filter_above : (ps : List Place) (at : ℤ) → AreAbove at (filter (begins_above at) ps)
filter_above [] at = tt
filter_above (p ∷ ps) at =
    cond_both (int_lt at p.at) (p ∷ filter (begins_above at) ps) (filter (begins_above at) ps) (AreAbove at)
    (λ yes. (by_lt_z at p.at (λ lt. lt) (λ le. absurd (cc (int_lt_no at p.at le, yes))), filter_above ps at)) (λ no. filter_above ps at)

pub above_append : (ps qs : List Place) (at : ℤ) → AreAbove at ps → AreAbove at qs → AreAbove at (ps ++ qs)
above_append [] qs at first second = second
above_append (p ∷ ps) qs at first second = (first.0, above_append ps qs at first.1 second)

pub rising_joined : (front : List Place) (place : Place) (back : List Place) → IsRising front → AreAbove place.at back → IsRising back → IsRising (filter (begins_below place.at) front ++ place ∷ back)
rising_joined [] place back rising above higher = (above, higher)
rising_joined (p ∷ front) place back rising above higher =
    let rest = rising_joined front place back rising.1 above higher in
    cond_both (int_lt p.at place.at) (p ∷ filter (begins_below place.at) front) (filter (begins_below place.at) front) (λ (l : List Place). IsRising (l ++ place ∷ back))
    (λ yes. let lower : p.at <ℤ place.at = by_lt_z p.at place.at (λ lt. lt) (λ le. absurd (cc (int_lt_no p.at place.at le, yes))) in
    (above_append (filter (begins_below place.at) front) (place ∷ back) p.at (above_filter front p.at (begins_below place.at) rising.0) (lower, above_higher back p.at place.at lower above), rest))
    (λ no. rest)

-- a put keeps the order, and so does a drop
pub put_rising : (ps : List Place) (place : Place) → IsRising ps → IsRising (put_place place ps)
put_rising ps place rising = rising_joined ps place (filter (begins_above place.at) ps) rising (filter_above ps place.at) (rising_filter ps (begins_above place.at) rising)

pub drop_rising : (ps : List Place) (at : ℤ) → IsRising ps → IsRising (drop_place at ps)
drop_rising ps at rising = rising_filter ps (λ p. not (begins_at at p)) rising

-- what a search that found says, and one that didn't
pub search_ok : (at : ℤ) (ps : List Place) (i : ℕ) → search_of at ps ≡ Ok i → (is_some (place_at at ps) ≡ true) × (i ≡ rank_of at ps)
search_ok at ps i e = picked (is_some (place_at at ps)) (rank_of at ps) e
  where
    picked : (b : Bool) (r : ℕ) → cond b (Ok r) (Err r) ≡ Ok i → (b ≡ true) × (i ≡ r)
    picked true r e = (refl, cc)
    picked false r e = absurd (cc)

pub search_err : (at : ℤ) (ps : List Place) (i : ℕ) → search_of at ps ≡ Err i → (is_some (place_at at ps) ≡ false) × (i ≡ rank_of at ps)
search_err at ps i e = picked (is_some (place_at at ps)) (rank_of at ps) e
  where
    picked : (b : Bool) (r : ℕ) → cond b (Ok r) (Err r) ≡ Err i → (b ≡ false) × (i ≡ r)
    picked false r e = (refl, cc)
    picked true r e = absurd (cc)

-- what a search found stands in the list
pub found_below : (ps : List Place) (at : ℤ) (i : ℕ) → slice_get ps i ≡ place_at at ps → is_some (place_at at ps) ≡ true → i < length ps
found_below ps at i read found = elim (slice_get_cases ps i).1 [
  | inl there ↦ there.1
  | inr none ↦ absurd (let past = none.1 in cc)
]

pub same_read : (a b : ℤ) → SFits w64 a → SFits w64 b → of_z w64 a ≡ of_z w64 b → a ≡ b
same_read a b f g e = sym (to_z-of_z w64 a f) ∙ ap (to_z w64) e ∙ to_z-of_z w64 b g

-- what a search answers, from what stands at its rank
pub search_found : (ps : List Place) (at : ℤ) (i : ℕ) (d : Place) → i ≡ rank_of at ps → i < length ps → (get_or ps i d).at ≡ at → Ok i ≡ search_of at ps
search_found ps at i d here within there =
    let found : place_at at ps ≡ Some (get_or ps i d) = subst (λ (k : ℕ). place_at at ps ≡ Some (get_or ps k d)) (sym here)
    (found_at ps at d (omega (arith, within, here)) (subst (λ (k : ℕ). (get_or ps k d).at ≡ at) here there)) in
    let answer : ℕ → Result ℕ ℕ = λ k. Ok k in rw found (ap answer here)

pub search_none : (ps : List Place) (at : ℤ) (i : ℕ) (d : Place) → IsRising ps → i ≡ rank_of at ps → (i < length ps → (get_or ps i d).at ≢ at) → Err i ≡ search_of at ps
search_none ps at i d rising here other =
    rw (not_found ps at d rising (subst (λ (k : ℕ). k < length ps → (get_or ps k d).at ≢ at) here other)) (let answer : ℕ → Result ℕ ℕ = λ k. Err k in ap answer here)

-- and the place that it finds
pub search_place : (ps : List Place) (at : ℤ) (i : ℕ) (d : Place) → i ≡ rank_of at ps → i < length ps → (get_or ps i d).at ≡ at → slice_get ps i ≡ place_at at ps
search_place ps at i d here within there =
    let found : place_at at ps ≡ Some (get_or ps i d) = subst (λ (k : ℕ). place_at at ps ≡ Some (get_or ps k d)) (sym here)
    (found_at ps at d (omega (arith, within, here)) (subst (λ (k : ℕ). (get_or ps k d).at ≡ at) here there)) in
    slice_get-get_or ps i d within ∙ sym found

-- how long they leave the list
pub length_put : (ps : List Place) (place : Place) → IsRising ps → length (put_place place ps) ≤ length ps + 1
length_put ps place rising = by_found (is_some (place_at place.at ps)) refl
  where
    by_found : (b : Bool) → is_some (place_at place.at ps) ≡ b → length (put_place place ps) ≤ length ps + 1
    by_found true found = rw (put_found ps place rising found) (omega (arith, length-set ps (rank_of place.at ps) place))
    by_found false none = rw (put_new ps place rising none) (omega (arith, length-insert ps (rank_of place.at ps) place (rank_within ps place.at)))

pub length_drop_place : (ps : List Place) (at : ℤ) → length (drop_place at ps) ≤ length ps
length_drop_place ps at = omega (arith, length-filter (λ place. not (begins_at at place)) ps, count_by-le-length (λ place. not (begins_at at place)) ps)
