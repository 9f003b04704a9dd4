-- A batch in the order of its numbers: where an entry stands, and what a put leaves.
use Rattle.std.proofs.Common.{◌≡◌, ℕ, zero, suc, ◌+◌, ◌^◌, ◌<◌, ◌≤◌, true, false, ltb, eqb, Some, None, List, [], ◌∷◌, ◌++◌, length, take, drop, get_or, set, inl, inr, refl, ap, sym, ◌∙◌, arith, subst, take-append-drop}
use Rattle.std.specs.List.{insert}
use Rattle.std.proofs.lemmas.Bool.{cases_lt, cond_both, ltb-true, ltb-false, eqb-true, eqb-false}
use Rattle.std.proofs.lemmas.Bool.Decides.{nat_tests}
use Rattle.std.proofs.lemmas.List.{take_more, flat_map_more}
use Rattle.std.proofs.lemmas.List.Concat.{flat_map-append}
use Rattle.ts_journal.specs.declared.batch.Change.{Change}
use Rattle.ts_journal.specs.declared.batch.Change.TheVariants.{Image}
use Rattle.ts_journal.specs.Journal.{Entry, IsRising, IsWhole, AreWhole, IsBatch, change_of, put, put_all, entry_bytes, entries_bytes}
use Rattle.ts_journal.specs.Place.{place_of, stands_at}

-- what a read past the end would give
abbrev pub no_entry : Entry
no_entry = (0, Image (record { bytes = [] }))

-- no number is below the least
pub from_least : (es : List Entry) (least top i : ℕ) (d : Entry) → IsRising least top es → i < length es → least ≤ (get_or es i d).0
from_least [] least top i d rising within = absurd (omega arith)
from_least (e ∷ es) least top zero d rising within = rising.0
from_least (e ∷ es) least top (suc i) d rising within = omega (arith, rising.0, from_least es (e.0 + 1) top i d rising.1 (omega arith))

-- there are at most as many entries as numbers
pub length_rising : (es : List Entry) (least top : ℕ) → IsRising least top es → least + length es ≤ top
length_rising [] least top rising = omega (arith, rising)
length_rising (e ∷ es) least top rising = omega (arith, rising.0, length_rising es (e.0 + 1) top rising.1)

-- an entry of a lower number stands before the place
pub place_above : (es : List Entry) (least top number i : ℕ) (d : Entry) → IsRising least top es → i < length es → (get_or es i d).0 < number → i < place_of number es
place_above [] least top number i d rising within lower = absurd (omega arith)
place_above (e ∷ es) least top number zero d rising within lower = grind (arith, nat_tests)
place_above (e ∷ es) least top number (suc i) d rising within lower =
    let first : e.0 < number = omega (arith, lower, from_least es (e.0 + 1) top i d rising.1 (omega arith)) in
    let rest : i < place_of number es = place_above es (e.0 + 1) top number i d rising.1 (omega arith) lower in
    grind (arith, nat_tests)

-- another one doesn't
pub place_below : (es : List Entry) (number i : ℕ) (d : Entry) → i < length es → number ≤ (get_or es i d).0 → place_of number es ≤ i
place_below [] number i d within higher = absurd (omega arith)
place_below (e ∷ es) number zero d within higher = grind (arith, nat_tests)
place_below (e ∷ es) number (suc i) d within higher =
    let rest : place_of number es ≤ i = place_below es number i d (omega arith) higher in
    elim (cases_lt e.0 number) [ inl lower ↦ grind (arith, nat_tests) | inr high ↦ grind (arith, nat_tests) ]

pub place_within : (es : List Entry) (number : ℕ) → place_of number es ≤ length es
place_within [] number = omega arith
place_within (e ∷ es) number =
    let rest = place_within es number in
    elim (cases_lt e.0 number) [ inl lower ↦ grind (arith, nat_tests) | inr high ↦ grind (arith, nat_tests) ]

pub stands_at-is : (es : List Entry) (place number : ℕ) (d : Entry) → place < length es → stands_at place number es ≡ eqb (get_or es place d).0 number
stands_at-is [] place number d within = absurd (omega arith)
stands_at-is (e ∷ es) zero number d within = refl
stands_at-is (e ∷ es) (suc place) number d within = stands_at-is es place number d (omega arith)

pub stands_at-past : (es : List Entry) (place number : ℕ) → length es ≤ place → stands_at place number es ≡ false
stands_at-past [] place number past = refl
stands_at-past (e ∷ es) zero number past = absurd (omega arith)
stands_at-past (e ∷ es) (suc place) number past = stands_at-past es place number (omega arith)

pub stands_within : (es : List Entry) (place number : ℕ) → stands_at place number es ≡ true → place < length es
stands_within [] place number found = absurd (cc)
stands_within (e ∷ es) zero number found = omega arith
stands_within (e ∷ es) (suc place) number found = omega (arith, stands_within es place number found)

-- a number that is there is set
pub put_found : (es : List Entry) (number : ℕ) (change : Change) → stands_at (place_of number es) number es ≡ true → put number change es ≡ set es (place_of number es) (number, change)
put_found [] number change found = absurd (cc)
put_found (e ∷ es) number change found = elim (cases_lt e.0 number) [
  | inl lower ↦ grind (arith, nat_tests, put_found es number change)
  | inr high ↦ grind (arith, nat_tests)
]

-- another one is inserted
pub put_new : (es : List Entry) (number : ℕ) (change : Change) → stands_at (place_of number es) number es ≡ false → put number change es ≡ insert es (place_of number es) (number, change)
put_new [] number change none = refl
put_new (e ∷ es) number change none = elim (cases_lt e.0 number) [
  | inl lower ↦ grind (arith, nat_tests, put_new es number change)
  | inr high ↦ grind (arith, nat_tests)
]

pub put_rising : (es : List Entry) (least top number : ℕ) (change : Change) → IsRising least top es → least ≤ number → number < top → IsRising least top (put number change es)
put_rising [] least top number change rising from below = (from, omega arith)
put_rising (e ∷ es) least top number change rising from below =
    let P : List Entry → Type 0 = IsRising least top in
    cond_both (ltb number e.0) _ _ P
    (λ lower. let first = ltb-true number e.0 lower in (from, (omega (arith, first), rising.1)))
    (λ high.
    let above = ltb-false number e.0 high in
    cond_both (eqb number e.0) _ _ P
    (λ same. let is = eqb-true number e.0 same in (from, subst (λ (n : ℕ). IsRising (n + 1) top es) (sym is) rising.1))
    (λ other. let differs = eqb-false number e.0 other in (rising.0, put_rising es (e.0 + 1) top number change rising.1 (omega (arith, above, differs)) below)))

-- nor does a put leave a page that isn't whole
pub put_whole : (es : List Entry) (number : ℕ) (change : Change) → AreWhole es → IsWhole change → AreWhole (put number change es)
put_whole [] number change whole is_whole = (is_whole, tt)
put_whole (e ∷ es) number change whole is_whole =
    cond_both (ltb number e.0) _ _ AreWhole
    (λ lower. (is_whole, whole))
    (λ high.
    cond_both (eqb number e.0) _ _ AreWhole
    (λ same. (is_whole, whole.1))
    (λ other. (whole.0, put_whole es number change whole.1 is_whole)))

pub put_batch : (es : List Entry) (number : ℕ) (change : Change) → IsBatch es → number < 2 ^ 32 → IsWhole change → IsBatch (put number change es)
put_batch es number change batch below is_whole = record {
  rising = put_rising es 0 (2 ^ 32) number change batch.rising (omega arith) below;
  whole = put_whole es number change batch.whole is_whole;
}

-- no entry of a number below the least
pub none_below : (es : List Entry) (least top number : ℕ) → IsRising least top es → number < least → change_of number es ≡ None
none_below [] least top number rising below = refl
none_below (e ∷ es) least top number rising below = let rest = none_below es (e.0 + 1) top number rising.1 (omega (arith, rising.0)) in let start = rising.0 in grind (arith, nat_tests)

-- what is found at the place
pub found_at : (es : List Entry) (least top number : ℕ) (d : Entry) → IsRising least top es → stands_at (place_of number es) number es ≡ true → change_of number es ≡ Some (get_or es (place_of number es) d).1
found_at [] least top number d rising found = absurd (cc)
found_at (e ∷ es) least top number d rising found = elim (cases_lt e.0 number) [
  | inl lower ↦ grind (arith, nat_tests, found_at es (e.0 + 1) top number d rising.1)
  | inr high ↦ grind (arith, nat_tests)
]

pub none_at : (es : List Entry) (least top number : ℕ) → IsRising least top es → stands_at (place_of number es) number es ≡ false → change_of number es ≡ None
none_at [] least top number rising none = refl
none_at (e ∷ es) least top number rising none = elim (cases_lt e.0 number) [
  | inl lower ↦ grind (arith, nat_tests, none_at es (e.0 + 1) top number rising.1)
  | inr high ↦ let rest = none_below es (e.0 + 1) top number rising.1 in grind (arith, nat_tests)
]

-- one entry more
pub put_all-push : (old es : List Entry) (e : Entry) → put_all old (es ++ e ∷ []) ≡ put e.0 e.1 (put_all old es)
put_all-push old [] e = refl
put_all-push old (f ∷ es) e = put_all-push (put f.0 f.1 old) es e

pub put_all-more : (old es : List Entry) (i : ℕ) (d : Entry) → i < length es → put_all old (take (i + 1) es) ≡ put (get_or es i d).0 (get_or es i d).1 (put_all old (take i es))
put_all-more old es i d within = ap (put_all old) (take_more es i d within) ∙ put_all-push old (take i es) (get_or es i d)

pub bytes-more : (es : List Entry) (i : ℕ) (d : Entry) → i < length es → entries_bytes (take (i + 1) es) ≡ entries_bytes (take i es) ++ entry_bytes (get_or es i d)
bytes-more es i d within = ap entries_bytes (take_more es i d within) ∙ sym (flat_map_more entry_bytes [] (take i es) (get_or es i d))

-- the bytes before an entry, its own and those behind it
pub bytes-split : (es : List Entry) (i : ℕ) (d : Entry) → i < length es → entries_bytes es ≡ (entries_bytes (take i es) ++ entry_bytes (get_or es i d)) ++ entries_bytes (drop (i + 1) es)
bytes-split es i d within =
    ap entries_bytes (sym (take-append-drop (i + 1) es)) ∙ flat_map-append entry_bytes (take (i + 1) es) (drop (i + 1) es)
    ∙ ap (λ (l : List ℕ). l ++ entries_bytes (drop (i + 1) es)) (bytes-more es i d within)
