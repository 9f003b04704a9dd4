-- The places that stay and those that go, and what their pages have.
use Rattle.std.proofs.Common.{◌≡◌, ℕ, zero, suc, ◌+◌, ◌-◌, ◌≤◌, All, ℤ, not, List, [], ◌∷◌, ◌++◌, length, length-append, take, drop, get_or, refl, sym, ap, ◌∙◌, arith}
use Rattle.std.specs.Prelude.{IsPermutation}
use Rattle.std.proofs.lemmas.List.Elements.{All-cons, All-nil, All-head, All-tail, filter-append}
use Rattle.std.proofs.lemmas.List.Sorted.{IsPermutation-refl, IsPermutation-sym, IsPermutation-trans, IsPermutation-cons, IsPermutation-middle}
use Rattle.std.proofs.lemmas.List.Sums.{sum_by-cons}
use Rattle.ts_space.specs.declared.place.Place.{Place}
use Rattle.ts_space.specs.Place.{AreAbove, IsRising, count_of, pages_of}
use Rattle.ts_row.specs.declared.kind.Column.{Column}
use Rattle.ts_regular.specs.RegularPage.{OffsetElement, elements_from}
use Rattle.ts_regular.specs.Places.{OffsetPage, all_in, AreOn, IsCounted}
use Rattle.ts_regular.specs.Range.{is_between, outside}
use Rattle.ts_regular.specs.Cut.{Cut, AreRests, cells_outside, cuts_behind, cuts_of, gone_of, kept_of, recounted}
use Rattle.ts_regular.proofs.CellsLemmas.{count_in}
use Rattle.ts_regular.proofs.EditLemmas.{empty}
use Rattle.ts_regular.proofs.RangeLemmas.{outside_elements}

-- the places of the cuts, and how many elements are left
abbrev pub places_in : List Cut → List Place
places_in [] = []
places_in (c ∷ cuts) = c.0 ∷ places_in cuts

abbrev pub left_in : List Cut → ℕ
left_in [] = 0
left_in (c ∷ cuts) = c.1 + left_in cuts

places_behind : (back : ℕ) (places : List Place) → places_in (cuts_behind back places) ≡ places
places_behind back [] = refl
places_behind back (p ∷ []) = refl
places_behind back (p ∷ q ∷ places) = ap (λ (l : List Place). p ∷ l) (places_behind back (q ∷ places))

pub places_cut : (front back : ℕ) (places : List Place) → places_in (cuts_of front back places) ≡ places
places_cut front back [] = refl
places_cut front back (p ∷ places) = ap (λ (l : List Place). p ∷ l) (places_behind back places)

left_behind : (back : ℕ) (places : List Place) → 1 ≤ length places → left_in (cuts_behind back places) ≡ back
left_behind back [] some = absurd (omega (arith, some))
left_behind back (p ∷ []) some = omega arith
left_behind back (p ∷ q ∷ places) some = let rest = left_behind back (q ∷ places) (omega arith) in omega (arith, rest)

pub left_cut : (front back : ℕ) (places : List Place) → 1 ≤ length places → (length places ≡ 1 → back ≡ 0) → left_in (cuts_of front back places) ≡ front + back
left_cut front back [] some alone = absurd (omega (arith, some))
left_cut front back (p ∷ []) some alone = let none = alone (omega arith) in omega (arith, none)
left_cut front back (p ∷ q ∷ places) some alone = let rest = left_behind back (q ∷ places) (omega arith) in omega (arith, rest)

-- the places that go are all but the first, where some of it is left, and the last
last_next : (q r : Place) (places : List Place) → take (length (q ∷ r ∷ places) - 1) (q ∷ r ∷ places) ≡ q ∷ take (length (r ∷ places) - 1) (r ∷ places)
last_next q r places = ap (λ (n : ℕ). take n (q ∷ r ∷ places)) (let next : length (q ∷ r ∷ places) - 1 ≡ suc (length (r ∷ places) - 1) = omega arith in next)

gone_none : (places : List Place) → gone_of (cuts_behind 0 places) ≡ places
gone_none [] = refl
gone_none (p ∷ []) = refl
gone_none (p ∷ q ∷ places) = ap (λ (l : List Place). p ∷ l) (gone_none (q ∷ places))

gone_some : (n : ℕ) (places : List Place) → gone_of (cuts_behind (suc n) places) ≡ take (length places - 1) places
gone_some n [] = refl
gone_some n (p ∷ []) = ap (λ (k : ℕ). take k (p ∷ [])) (let none : 0 ≡ length (p ∷ []) - 1 = omega arith in none)
gone_some n (p ∷ q ∷ places) = ap (λ (l : List Place). p ∷ l) (gone_some n (q ∷ places)) ∙ sym (last_next p q places)

kept_none : (places : List Place) → kept_of (cuts_behind 0 places) ≡ []
kept_none [] = refl
kept_none (p ∷ []) = refl
kept_none (p ∷ q ∷ places) = kept_none (q ∷ places)

kept_some : (n : ℕ) (places : List Place) (d : Place) → 1 ≤ length places → kept_of (cuts_behind (suc n) places) ≡ recounted (get_or places (length places - 1) d) (suc n) ∷ []
kept_some n [] d some = absurd (omega (arith, some))
kept_some n (p ∷ []) d some = refl
kept_some n (p ∷ q ∷ places) d some =
    kept_some n (q ∷ places) d (omega arith)
    ∙ ap (λ (k : ℕ). recounted (get_or (p ∷ q ∷ places) k d) (suc n) ∷ []) (let next : suc (length (q ∷ places) - 1) ≡ length (p ∷ q ∷ places) - 1 = omega arith in next)

take_whole : (places : List Place) (n : ℕ) → n ≡ length places → take n places ≡ places
take_whole [] zero long = refl
take_whole [] (suc n) long = refl
take_whole (p ∷ places) zero long = absurd (omega (arith, long))
take_whole (p ∷ places) (suc n) long = ap (λ (l : List Place). p ∷ l) (take_whole places n (omega (arith, long)))

-- the places that go, as those from one index to another
pub gone_is : (front back first last : ℕ) (places : List Place) → 1 ≤ length places → (length places ≡ 1 → back ≡ 0) → (front ≡ 0 → first ≡ 0) → (1 ≤ front → first ≡ 1) → (back ≡ 0 → last ≡ 0) → (1 ≤ back → last ≡ 1)
    → take (length places - last - first) (drop first places) ≡ gone_of (cuts_of front back places)
gone_is front back first last [] some alone f0 f1 l0 l1 = absurd (omega (arith, some))
gone_is zero zero first last (p ∷ places) some alone f0 f1 l0 l1 =
    ap (λ (k : ℕ). take (length (p ∷ places) - last - k) (drop k (p ∷ places))) (f0 refl)
    ∙ take_whole (p ∷ places) (length (p ∷ places) - last - 0) (let z = l0 refl in omega (arith, z)) ∙ ap (λ (l : List Place). p ∷ l) (sym (gone_none places))
gone_is (suc n) zero first last (p ∷ places) some alone f0 f1 l0 l1 =
    ap (λ (k : ℕ). take (length (p ∷ places) - last - k) (drop k (p ∷ places))) (f1 (omega arith))
    ∙ take_whole places (length (p ∷ places) - last - 1) (let z = l0 refl in omega (arith, z)) ∙ sym (gone_none places)
gone_is zero (suc m) first last (p ∷ []) some alone f0 f1 l0 l1 = absurd (let z = alone (omega arith) in omega (arith, z))
gone_is zero (suc m) first last (p ∷ q ∷ places) some alone f0 f1 l0 l1 =
    ap (λ (k : ℕ). take (length (p ∷ q ∷ places) - last - k) (drop k (p ∷ q ∷ places))) (f0 refl)
    ∙ ap (λ (k : ℕ). take k (p ∷ q ∷ places)) (let e : length (p ∷ q ∷ places) - last - 0 ≡ length (p ∷ q ∷ places) - 1 = (let o = l1 (omega arith) in omega (arith, o)) in e)
    ∙ last_next p q places ∙ ap (λ (l : List Place). p ∷ l) (sym (gone_some m (q ∷ places)))
gone_is (suc n) (suc m) first last (p ∷ []) some alone f0 f1 l0 l1 = absurd (let z = alone (omega arith) in omega (arith, z))
gone_is (suc n) (suc m) first last (p ∷ q ∷ places) some alone f0 f1 l0 l1 =
    ap (λ (k : ℕ). take (length (p ∷ q ∷ places) - last - k) (drop k (p ∷ q ∷ places))) (f1 (omega arith))
    ∙ ap (λ (k : ℕ). take k (q ∷ places)) (let e : length (p ∷ q ∷ places) - last - 1 ≡ length (q ∷ places) - 1 = (let o = l1 (omega arith) in omega (arith, o)) in e)
    ∙ sym (gone_some m (q ∷ places))

-- those that stay
pub kept_is : (front back : ℕ) (places : List Place) (d : Place) → 1 ≤ length places → (length places ≡ 1 → back ≡ 0)
    → (front ≡ 0 → back ≡ 0 → kept_of (cuts_of front back places) ≡ [])
    × (1 ≤ front → back ≡ 0 → kept_of (cuts_of front back places) ≡ recounted (get_or places 0 d) front ∷ [])
    × (front ≡ 0 → 1 ≤ back → kept_of (cuts_of front back places) ≡ recounted (get_or places (length places - 1) d) back ∷ [])
    × (1 ≤ front → 1 ≤ back → kept_of (cuts_of front back places) ≡ recounted (get_or places 0 d) front ∷ recounted (get_or places (length places - 1) d) back ∷ [])
kept_is front back [] d some alone = absurd (omega (arith, some))
kept_is zero zero (p ∷ places) d some alone = ((λ f b. kept_none places), (λ f b. absurd (omega (arith, f))), (λ f b. absurd (omega (arith, b))), (λ f b. absurd (omega (arith, f))))
kept_is (suc n) zero (p ∷ places) d some alone =
    ((λ f b. absurd (omega (arith, f))), (λ f b. ap (λ (l : List Place). recounted p (suc n) ∷ l) (kept_none places)), (λ f b. absurd (omega (arith, b))), (λ f b. absurd (omega (arith, b))))
kept_is zero (suc m) (p ∷ []) d some alone = absurd (let z = alone (omega arith) in omega (arith, z))
kept_is zero (suc m) (p ∷ q ∷ places) d some alone = (
  (λ f b. absurd (omega (arith, b))),
  (λ f b. absurd (omega (arith, f))),
  (λ f b. kept_some m (q ∷ places) d (omega arith)
      ∙ ap (λ (k : ℕ). recounted (get_or (p ∷ q ∷ places) k d) (suc m) ∷ []) (let next : suc (length (q ∷ places) - 1) ≡ length (p ∷ q ∷ places) - 1 = omega arith in next)),
  (λ f b. absurd (omega (arith, f))),
)
kept_is (suc n) (suc m) (p ∷ []) d some alone = absurd (let z = alone (omega arith) in omega (arith, z))
kept_is (suc n) (suc m) (p ∷ q ∷ places) d some alone = (
  (λ f b. absurd (omega (arith, f))),
  (λ f b. absurd (omega (arith, b))),
  (λ f b. absurd (omega (arith, f))),
  (λ f b. ap (λ (l : List Place). recounted p (suc n) ∷ l) (kept_some m (q ∷ places) d (omega arith)
      ∙ ap (λ (k : ℕ). recounted (get_or (p ∷ q ∷ places) k d) (suc m) ∷ []) (let next : suc (length (q ∷ places) - 1) ≡ length (p ∷ q ∷ places) - 1 = omega arith in next))),
)

-- the pages of those that go and of those that stay are all of them
pub pages_parted : (cuts : List Cut) → IsPermutation (pages_of (places_in cuts)) (pages_of (gone_of cuts) ++ pages_of (kept_of cuts))
pages_parted [] = IsPermutation-refl []
pages_parted ((place, zero) ∷ cuts) = IsPermutation-cons place.page (pages_of (places_in cuts)) (pages_of (gone_of cuts) ++ pages_of (kept_of cuts)) (pages_parted cuts)
pages_parted ((place, suc n) ∷ cuts) =
    IsPermutation-trans (place.page ∷ pages_of (places_in cuts)) (place.page ∷ (pages_of (gone_of cuts) ++ pages_of (kept_of cuts))) (pages_of (gone_of cuts) ++ place.page ∷ pages_of (kept_of cuts))
    (IsPermutation-cons place.page (pages_of (places_in cuts)) (pages_of (gone_of cuts) ++ pages_of (kept_of cuts)) (pages_parted cuts))
    (IsPermutation-sym (pages_of (gone_of cuts) ++ place.page ∷ pages_of (kept_of cuts)) (place.page ∷ (pages_of (gone_of cuts) ++ pages_of (kept_of cuts))) (IsPermutation-middle (pages_of (gone_of cuts)) place.page (pages_of (kept_of cuts))))

-- those that stay rise among the others
above_kept : (at : ℤ) (cuts : List Cut) (back : List Place) → AreAbove at (places_in cuts ++ back) → AreAbove at (kept_of cuts ++ back)
above_kept at [] back above = above
above_kept at ((place, zero) ∷ cuts) back above = above_kept at cuts back above.1
above_kept at ((place, suc n) ∷ cuts) back above = (above.0, above_kept at cuts back above.1)

rising_behind : (cuts : List Cut) (back : List Place) → IsRising (places_in cuts ++ back) → IsRising (kept_of cuts ++ back)
rising_behind [] back rising = rising
rising_behind ((place, zero) ∷ cuts) back rising = rising_behind cuts back rising.1
rising_behind ((place, suc n) ∷ cuts) back rising = (above_kept place.at cuts back rising.0, rising_behind cuts back rising.1)

above_front : (at : ℤ) (front : List Place) (cuts : List Cut) (back : List Place) → AreAbove at (front ++ (places_in cuts ++ back)) → AreAbove at (front ++ (kept_of cuts ++ back))
above_front at [] cuts back above = above_kept at cuts back above
above_front at (p ∷ front) cuts back above = (above.0, above_front at front cuts back above.1)

pub rising_kept : (front : List Place) (cuts : List Cut) (back : List Place) → IsRising (front ++ (places_in cuts ++ back)) → IsRising (front ++ (kept_of cuts ++ back))
rising_kept [] cuts back rising = rising_behind cuts back rising
rising_kept (p ∷ front) cuts back rising = (above_front p.at front cuts back rising.0, rising_kept front cuts back rising.1)

-- each has some elements, no more than it had
pub counted_kept : (columns : List Column) (cuts : List Cut) → All (IsCounted columns) (places_in cuts) → All (λ c. c.1 ≤ c.0.count) cuts → All (IsCounted columns) (kept_of cuts)
counted_kept columns [] counts fewer = All-nil (IsCounted columns)
counted_kept columns ((place, zero) ∷ cuts) counts fewer =
    counted_kept columns cuts (All-tail (IsCounted columns) place (places_in cuts) counts) (All-tail (λ (c : Cut). c.1 ≤ c.0.count) (place, zero) cuts fewer)
counted_kept columns ((place, suc n) ∷ cuts) counts fewer =
    let few = All-head (λ (c : Cut). c.1 ≤ c.0.count) (place, suc n) cuts fewer in
    let room = (All-head (IsCounted columns) place (places_in cuts) counts).room in
    All-cons (IsCounted columns) (recounted place (suc n)) (kept_of cuts) (record { some = omega arith; room = omega (arith, few, room) })
    (counted_kept columns cuts (All-tail (IsCounted columns) place (places_in cuts) counts) (All-tail (λ (c : Cut). c.1 ≤ c.0.count) (place, suc n) cuts fewer))

pub count_kept : (cuts : List Cut) → count_of (kept_of cuts) ≡ left_in cuts
count_kept [] = refl
count_kept ((place, zero) ∷ cuts) = let rest = count_kept cuts in omega (arith, rest)
count_kept ((place, suc n) ∷ cuts) = let rest = count_kept cuts in omega (arith, rest, sum_by-cons (λ (p : Place). p.count) (recounted place (suc n)) (kept_of cuts))

pub left_few : (cuts : List Cut) → All (λ c. c.1 ≤ c.0.count) cuts → left_in cuts ≤ count_of (places_in cuts)
left_few [] fewer = omega arith
left_few (c ∷ cuts) fewer =
    let first = All-head (λ (c : Cut). c.1 ≤ c.0.count) c cuts fewer in
    let rest = left_few cuts (All-tail (λ (c : Cut). c.1 ≤ c.0.count) c cuts fewer) in
    omega (arith, first, rest, sum_by-cons (λ (p : Place). p.count) c.0 (places_in cuts))

-- where as many are left, none went
pub left_whole : (cuts : List Cut) → All (λ c. c.1 ≤ c.0.count) cuts → count_of (places_in cuts) ≤ left_in cuts → All (λ c. c.1 ≡ c.0.count) cuts
left_whole [] fewer all = All-nil (λ (c : Cut). c.1 ≡ c.0.count)
left_whole (c ∷ cuts) fewer all =
    let first = All-head (λ (c : Cut). c.1 ≤ c.0.count) c cuts fewer in
    let others = All-tail (λ (c : Cut). c.1 ≤ c.0.count) c cuts fewer in
    let rest = left_few cuts others in
    let sum = sum_by-cons (λ (p : Place). p.count) c.0 (places_in cuts) in
    All-cons (λ (c : Cut). c.1 ≡ c.0.count) c cuts (omega (arith, first, rest, all, sum)) (left_whole cuts others (omega (arith, first, rest, all, sum)))

-- the cells that are left
abbrev pub kept_pages : ℕ → ℕ → List Cut → List OffsetPage → List OffsetPage
kept_pages from to [] ps = []
kept_pages from to (c ∷ cuts) [] = []
kept_pages from to ((place, zero) ∷ cuts) (p ∷ ps) = kept_pages from to cuts ps
kept_pages from to ((place, suc n) ∷ cuts) (p ∷ ps) = (p.0, cells_outside from to p.0 p.1) ∷ kept_pages from to cuts ps

module _ (slot : ℕ) (columns : List Column) (from to : ℕ) (pages : ℕ → List ℕ) where
  outside_one : (p : OffsetPage) (ps : List OffsetPage) → outside from to (all_in (p ∷ ps)) ≡ elements_from p.0 (cells_outside from to p.0 p.1) ++ outside from to (all_in ps)
  outside_one p ps =
      filter-append (λ (e : OffsetElement). not (is_between from to e.0)) (elements_from p.0 p.1) (all_in ps)
      ∙ ap (λ (l : List OffsetElement). l ++ outside from to (all_in ps)) (sym (outside_elements from to p.0 p.1))

  pub kept_all : (cuts : List Cut) (ps : List OffsetPage) → AreRests slot columns from to pages cuts ps → all_in (kept_pages from to cuts ps) ≡ outside from to (all_in ps)
  kept_all [] [] rests = refl
  kept_all [] (p ∷ ps) rests = absurd rests
  kept_all (c ∷ cuts) [] rests = absurd rests
  kept_all ((place, zero) ∷ cuts) (p ∷ ps) rests =
      let none : elements_from p.0 (cells_outside from to p.0 p.1) ≡ [] = empty _ (count_in p.0 (cells_outside from to p.0 p.1) ∙ rests.0.number) in
      kept_all cuts ps rests.1 ∙ sym (outside_one p ps ∙ ap (λ (l : List OffsetElement). l ++ outside from to (all_in ps)) none)
  kept_all ((place, suc n) ∷ cuts) (p ∷ ps) rests =
      ap (λ (l : List OffsetElement). elements_from p.0 (cells_outside from to p.0 p.1) ++ l) (kept_all cuts ps rests.1) ∙ sym (outside_one p ps)

  pub kept_on : (cuts : List Cut) (ps : List OffsetPage) → AreRests slot columns from to pages cuts ps → AreOn slot columns pages (kept_of cuts) (kept_pages from to cuts ps)
  kept_on [] [] rests = tt
  kept_on [] (p ∷ ps) rests = absurd rests
  kept_on (c ∷ cuts) [] rests = absurd rests
  kept_on ((place, zero) ∷ cuts) (p ∷ ps) rests = kept_on cuts ps rests.1
  kept_on ((place, suc n) ∷ cuts) (p ∷ ps) rests = (rests.0.on (omega arith), kept_on cuts ps rests.1)

  pub left_count : (cuts : List Cut) (ps : List OffsetPage) → AreRests slot columns from to pages cuts ps → length (outside from to (all_in ps)) ≡ left_in cuts
  left_count [] [] rests = refl
  left_count [] (p ∷ ps) rests = absurd rests
  left_count (c ∷ cuts) [] rests = absurd rests
  left_count (c ∷ cuts) (p ∷ ps) rests =
      let long = ap length (outside_one p ps) in
      let both = length-append (elements_from p.0 (cells_outside from to p.0 p.1)) (outside from to (all_in ps)) in
      let one = count_in p.0 (cells_outside from to p.0 p.1) ∙ rests.0.number in
      let rest = left_count cuts ps rests.1 in
      omega (arith, long, both, one, rest)

-- as many elements as the places tell of
pub told_count : (slot : ℕ) (columns : List Column) (pages : ℕ → List ℕ) (places : List Place) (ps : List OffsetPage) → AreOn slot columns pages places ps → length (all_in ps) ≡ count_of places
told_count slot columns pages [] [] on = refl
told_count slot columns pages [] (p ∷ ps) on = absurd on
told_count slot columns pages (q ∷ places) [] on = absurd on
told_count slot columns pages (q ∷ places) (p ∷ ps) on =
    let both = length-append (elements_from p.0 p.1) (all_in ps) in
    let one = count_in p.0 p.1 ∙ on.0.count in
    let rest = told_count slot columns pages places ps on.1 in
    omega (arith, both, one, rest, sum_by-cons (λ (p : Place). p.count) q places)
