-- Charges: how many different quotients there are, step by step, and what a charge bounds.
use Rattle.std.proofs.Common.{◌≡◌, ◌≢◌, ℕ, zero, suc, ◌+◌, ◌-◌, ◌*◌, ◌/◌, ◌%◌, ◌<◌, ◌≤◌, min, true, false, cond, ◌||◌, ◌==◌, Option, Some, None, List, [], ◌∷◌, ◌++◌, length, take, get_or, map, sum, refl, ap, ◌∙◌, subst, add-one, not, eqb, arith, inl, inr}
use Rattle.std.specs.List.{list_any}
use Rattle.std.specs.Option.{option_eq}
use Rattle.std.specs.List.Sorted.{IsNonDecreasing}
use Rattle.std.specs.Int.{div_ceil}
use Rattle.std.proofs.lemmas.Bool.{cases_eq, cases_lt}
use Rattle.std.proofs.lemmas.Bool.Decides.{nat_tests}
use Rattle.std.proofs.Math.Nat.{suc-mul, mul-suc, mul_comm, zero-mul, mul-le-mul_right}
use Rattle.std.proofs.lemmas.Nat.{le-div, div_below, div-add-mod', div-mul-add}
use Rattle.std.proofs.lemmas.List.{map_more, length-map, length-take-le, get_or-map, get_or-take}
use Rattle.std.proofs.lemmas.List.Folds.{list_any-append, list_any_at, list_any_none}
use Rattle.std.proofs.lemmas.List.Sums.{sum_by-cons, sum-map}
use Rattle.ts_space.specs.declared.place.Place.{Place}
use Rattle.ts_space.specs.Place.{count_of}
use Rattle.ts_space.specs.Charge.{distinct_count, regular_charge, irregular_charge, irregular_places_charge, IsChain}

-- one number more
pub distinct_push : (xs : List ℕ) (y : ℕ) → distinct_count (xs ++ y ∷ []) ≡ distinct_count xs + cond (list_any (λ x. x == y) xs) 0 1
distinct_push [] y = refl
distinct_push (x ∷ xs) y =
    let rest = distinct_push xs y in
    let more : list_any (λ z. z == x) (xs ++ y ∷ []) ≡ (list_any (λ z. z == x) xs || ((y == x) || false)) = list_any-append (λ z. z == x) xs (y ∷ []) in
    elim (cases_eq x y) [ inl same ↦ grind (arith, nat_tests) | inr other ↦ grind (arith, nat_tests) ]

pub div_grows : (a b r : ℕ) → 0 < r → a ≤ b → a / r ≤ b / r
div_grows a b r span le = le-div (a / r) b r span (omega (arith, le, div-add-mod' a r))

-- the page of the last of the first so many offsets
abbrev pub last_page : ℕ → ℕ → List ℕ → Option ℕ
last_page r zero offsets = None
last_page r (suc i) offsets = Some (get_or offsets i 0 / r)

-- a page that isn't the last one is none of those before
pub page_there : (offsets : List ℕ) (r i page : ℕ) → i ≤ length offsets → last_page r i offsets ≡ Some page → list_any (λ x. x == page) (map (λ offset. offset / r) (take i offsets)) ≡ true
page_there offsets r zero page within last = absurd (cc)
page_there offsets r (suc i) page within last =
    let first = take (suc i) offsets in
    let long : length first ≡ suc i = length-take-le (suc i) offsets within in
    let read : get_or (map (λ offset. offset / r) first) i 0 ≡ page = get_or-map (λ offset. offset / r) first i 0 0 (omega (arith, long)) ∙ ap (λ n. n / r) (get_or-take (suc i) offsets i 0 (omega arith)) ∙ cc in
    list_any_at (λ x. x == page) (map (λ offset. offset / r) first) i 0 (omega (arith, long, length-map first (λ offset. offset / r))) (grind (arith, nat_tests))

pub page_new : (offsets : List ℕ) (r i page : ℕ) → 0 < r → IsNonDecreasing offsets → i < length offsets → page ≡ get_or offsets i 0 / r → last_page r i offsets ≢ Some page → list_any (λ x. x == page) (map (λ offset. offset / r) (take i offsets)) ≡ false
page_new offsets r zero page span rising within here other = refl
page_new offsets r (suc i) page span rising within here other =
    list_any_none (λ x. x == page) (map (λ offset. offset / r) (take (suc i) offsets)) (λ k d below.
    let first = take (suc i) offsets in
    let long : length first ≡ suc i = length-take-le (suc i) offsets (omega (arith, within)) in
    let lower : k < suc i = omega (arith, long, below, length-map first (λ offset. offset / r)) in
    let read : get_or (map (λ offset. offset / r) first) k d ≡ get_or offsets k 0 / r = get_or-map (λ offset. offset / r) first k 0 d (omega (arith, long, lower)) ∙ ap (λ n. n / r) (get_or-take (suc i) offsets k 0 lower) in
    let one : get_or offsets k 0 / r ≤ get_or offsets i 0 / r = div_grows _ _ r span (rising k i 0 (omega (arith, lower)) (omega (arith, within))) in
    let two : get_or offsets i 0 / r ≤ get_or offsets (suc i) 0 / r = div_grows _ _ r span (rising i (suc i) 0 (omega arith) within) in
    let differs : get_or offsets i 0 / r ≢ page = λ e. other (ap (λ n. Some n) e) in
    grind (arith, nat_tests))

-- what the test of two answers says
pub same_option : (o : Option ℕ) (x : ℕ) → not (option_eq eqb o (Some x)) ≡ false → o ≡ Some x
same_option None x same = absurd (cc)
same_option (Some y) x same = let e : y ≡ x = grind (arith, nat_tests) in ap (λ n. Some n) e

pub other_option : (o : Option ℕ) (x : ℕ) → not (option_eq eqb o (Some x)) ≡ true → o ≢ Some x
other_option None x other = λ e. cc
other_option (Some y) x other = λ e. let same : y ≡ x = cc in grind (arith, nat_tests)

-- the charge with one offset more
pub charge_more : (offsets : List ℕ) (r i : ℕ) → i < length offsets → regular_charge r (take (i + 1) offsets)
    ≡ regular_charge r (take i offsets) + cond (list_any (λ x. x == get_or offsets i 0 / r) (map (λ offset. offset / r) (take i offsets))) 0 1
charge_more offsets r i within =
    ap distinct_count (map_more (λ offset. offset / r) offsets i 0 within) ∙ distinct_push (map (λ offset. offset / r) (take i offsets)) (get_or offsets i 0 / r)

pub charge_same : (offsets : List ℕ) (r i : ℕ) → i < length offsets → last_page r i offsets ≡ Some (get_or offsets i 0 / r)
    → regular_charge r (take (i + 1) offsets) ≡ regular_charge r (take i offsets)
charge_same offsets r i within last =
    let there = page_there offsets r i (get_or offsets i 0 / r) (omega (arith, within)) last in
    charge_more offsets r i within ∙ rw there (omega arith)

pub charge_new : (offsets : List ℕ) (r i : ℕ) → 0 < r → IsNonDecreasing offsets → i < length offsets → last_page r i offsets ≢ Some (get_or offsets i 0 / r)
    → regular_charge r (take (i + 1) offsets) ≡ regular_charge r (take i offsets) + 1
charge_new offsets r i span rising within other =
    let new = page_new offsets r i (get_or offsets i 0 / r) span rising within refl other in
    charge_more offsets r i within ∙ rw new refl

-- so many pages would do
pub ceil_enough : (x y : ℕ) → 0 < y → x ≤ div_ceil x y * y
ceil_enough x y span =
    let whole = div-add-mod' x y in
    elim (cases_lt 0 (x % y)) [
      | inl some ↦ let one : min 1 (x % y) ≡ 1 = omega (arith, some) in let rest : x % y < y = omega arith in rw one (omega (arith, whole, rest, distribute (x / y)))
      | inr none ↦ let no : min 1 (x % y) ≡ 0 = omega (arith, none) in rw no (omega (arith, whole, none))
    ]
  where
    distribute : (k : ℕ) → (k + 1) * y ≡ k * y + y
    distribute k = rw add-one (suc-mul k y)

-- and no fewer
pub ceil_least : (x y k : ℕ) → 0 < y → x ≤ k * y → div_ceil x y ≤ k
ceil_least x y k span enough = elim (cases_lt x (k * y)) [
  | inl less ↦ let lower = div_below x y k span less in omega (arith, lower)
  | inr more ↦ let exact : x ≡ k * y + 0 = omega (arith, enough, more) in
      let quotient : x / y ≡ k = ap (λ n. n / y) exact ∙ div-mul-add k y 0 span in
      let whole : x / y * y + x % y ≡ x = div-add-mod' x y in
      let rest : x % y ≡ 0 = let e : k * y + x % y ≡ x = subst (λ n. n * y + x % y ≡ x) quotient whole in omega (arith, e, exact) in
      omega (arith, quotient, rest)
]

pub charge_is : (q n : ℕ) → 0 < q → irregular_charge q n ≡ 2 * div_ceil n q - 1
charge_is q n span = elim (cases_eq n 0) [
  | inl none ↦ let least : div_ceil n q ≤ 0 = ceil_least n q 0 span (omega (arith, none)) in grind (arith, nat_tests)
  | inr some ↦ grind (arith, nat_tests)
]

-- more elements never cost less
pub charge_grows : (q n m : ℕ) → 0 < q → n ≤ m → irregular_charge q n ≤ irregular_charge q m
charge_grows q n m span le =
    let ceil : div_ceil n q ≤ div_ceil m q = ceil_least n q (div_ceil m q) span (omega (arith, le, ceil_enough m q span)) in
    omega (arith, charge_is q n span, charge_is q m span, ceil)

-- each two neighbours on a chain hold more than q together, so k pairs of them hold more than k times q
pub chain_tail : (q d : ℕ) (counts : List ℕ) → IsChain q (d ∷ counts) → IsChain q counts
chain_tail q d [] chain = tt
chain_tail q d (c ∷ counts) chain = chain.1

pub chain_pairs : (q : ℕ) (counts : List ℕ) (k : ℕ) → IsChain q counts → 2 * k ≤ length counts → suc q * k ≤ sum counts
chain_pairs q counts zero chain within = omega arith
chain_pairs q [] (suc k) chain within = absurd (omega arith)
chain_pairs q (c ∷ []) (suc k) chain within = absurd (omega arith)
chain_pairs q (c ∷ d ∷ counts) (suc k) chain within =
    let rest : suc q * k ≤ sum counts = chain_pairs q counts k (chain_tail q d counts chain.1) (omega (arith, within)) in
    let pair = chain.0 in
    let whole : sum (c ∷ d ∷ counts) ≡ c + (d + sum counts) = sum_by-cons (λ x. x) c (d ∷ counts) ∙ ap (λ n. c + n) (sum_by-cons (λ x. x) d counts) in
    let product : suc q * suc k ≡ suc q * k + suc q = mul-suc (suc q) k in
    omega (arith, rest, pair, whole, product)

pub chain_some : (q c : ℕ) (counts : List ℕ) → IsChain q (c ∷ counts) → 0 < sum (c ∷ counts)
chain_some q c [] chain = omega (arith, chain)
chain_some q c (d ∷ counts) chain =
    let whole : sum (c ∷ d ∷ counts) ≡ c + (d + sum counts) = sum_by-cons (λ x. x) c (d ∷ counts) ∙ ap (λ n. c + n) (sum_by-cons (λ x. x) d counts) in
    let pair = chain.0 in omega (arith, whole, pair)

-- so a chain has at most as many pages as its charge
pub chain_charge : (q : ℕ) (counts : List ℕ) → 0 < q → IsChain q counts → length counts ≤ irregular_charge q (sum counts)
chain_charge q [] span chain = omega arith
chain_charge q (c ∷ counts) span chain =
    let all = c ∷ counts in
    let ceil = div_ceil (sum all) q in
    let k = length all / 2 in
    let some : 0 < sum all = chain_some q c counts chain in
    let pairs : suc q * k ≤ sum all = chain_pairs q all k chain (omega arith) in
    let enough : sum all ≤ ceil * q = ceil_enough (sum all) q span in
    let charge : irregular_charge q (sum all) ≡ 2 * ceil - 1 = charge_is q (sum all) span in
    let enclosed : k < ceil = elim (cases_lt k ceil) [
      | inl less ↦ less
      | inr more ↦ absurd (let cap : ceil * q ≤ k * q = mul-le-mul_right q more in let product : suc q * k ≡ q * k + k = suc-mul q k in let turned : q * k ≡ k * q = mul_comm q k in
          elim (cases_lt 0 k) [
            | inl positive ↦ omega (arith, cap, product, turned, pairs, enough, positive)
            | inr zero_pairs ↦ let none : k ≡ 0 = omega (arith, zero_pairs) in
                let nothing : k * q ≡ 0 = ap (λ n. n * q) none ∙ zero-mul q in omega (arith, some, enough, cap, nothing)
          ])
    ] in
    omega (arith, enclosed, charge)

-- the same of the pages of a series' places
pub chain_places : (q : ℕ) (places : List Place) → 0 < q → IsChain q (map (λ place. place.count) places) → length places ≤ irregular_places_charge q places
chain_places q places span chain =
    let bound = chain_charge q (map (λ place. place.count) places) span chain in
    let long : length (map (λ place. place.count) places) ≡ length places = length-map places (λ place. place.count) in
    let total : sum (map (λ place. place.count) places) ≡ count_of places = sum-map (λ place. place.count) places in
    omega (arith, long, subst (λ n. length (map (λ place. place.count) places) ≤ irregular_charge q n) total bound)
