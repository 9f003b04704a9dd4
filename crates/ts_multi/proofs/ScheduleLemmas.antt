-- The order of items: every item comes once, those of a session in their order.
use Rattle.std.proofs.Common.{◌≡◌, ◌≢◌, ℕ, zero, suc, ◌+◌, ◌%◌, ◌<◌, ◌≤◌, ◌==◌, false, cond, List, [], ◌∷◌, ◌++◌, length, map, get_or, Option, Some, None, refl, sym, ◌∙◌, ap, arith, inl, inr, ◌⊎◌}
use Rattle.std.specs.Prelude.{slice_set}
use Rattle.std.proofs.lemmas.Bool.{cases_Bool, eqb-true}
use Rattle.std.proofs.lemmas.Bool.Decides.{nat_tests, eqb_tells}
use Rattle.std.proofs.lemmas.List.{get_or-set_other, get_or-set_same, length-map}
use Rattle.std.proofs.lemmas.Option.{slice_get-get_or}
use Rattle.ts_multi.specs.Schedule.{waiting, chosen, next_session, first_of, turn, order, total, items_of}

-- a session that is waiting has an item left
record Waits (number : ℕ) (ls : List ℕ) (n : ℕ) : Type 0 where
  place : ℕ
  is : n ≡ number + place
  within : place < length ls
  some : 0 < get_or ls place 0

later : (number left : ℕ) (rest : List ℕ) (n : ℕ) → Waits (number + 1) rest n → Waits number (left ∷ rest) n
later number left rest n w = record { place = suc w.place; is = omega (arith, w.is); within = omega (arith, w.within); some = w.some }

positive : (n : ℕ) → (n == 0) ≡ false → 0 < n
positive n f = grind (arith, nat_tests)

waits_first : (number left : ℕ) (rest : List ℕ) (k : ℕ) → k < length (number ∷ waiting (number + 1) rest) → (left == 0) ≡ false
    → ((j : ℕ) → j < length (waiting (number + 1) rest) → Waits (number + 1) rest (get_or (waiting (number + 1) rest) j 0))
    → Waits number (left ∷ rest) (get_or (number ∷ waiting (number + 1) rest) k 0)
waits_first number left rest zero less f inner = record { place = 0; is = omega arith; within = omega arith; some = positive left f }
waits_first number left rest (suc k) less f inner = later number left rest _ (inner k (omega arith))

waits : (number : ℕ) (ls : List ℕ) (k : ℕ) → k < length (waiting number ls) → Waits number ls (get_or (waiting number ls) k 0)
waits number [] k less = absurd (omega arith)
waits number (left ∷ rest) k less = elim (cases_Bool (left == 0)) [
  | inl t ↦ let inner = rw t at less in rw t (later number left rest _ (waits (number + 1) rest k inner))
  | inr f ↦ let inner = rw f at less in rw f (waits_first number left rest k inner f (waits (number + 1) rest))
]

-- where none is waiting no item is left
none_waits : {A : Type 0} (number : ℕ) (left : List (List A)) → length (waiting number (map length left)) ≡ 0 → total left ≡ 0
none_waits number [] none = refl
none_waits number (items ∷ rest) none = elim (cases_Bool (length items == 0)) [
  | inl t ↦ let inner = rw t at none in let gone = eqb-true (length items) 0 t in omega (arith, gone, none_waits (number + 1) rest inner)
  | inr f ↦ let inner = rw f at none in absurd (omega arith)
]

-- a pick falls on one that is waiting
record Falls (ns : List ℕ) (choice : Option ℕ) : Type 0 where
  at : ℕ
  within : at < length ns
  is : choice ≡ Some (get_or ns at 0)

chosen_is : (pick : ℕ) (ns : List ℕ) → ((chosen pick ns ≡ None) × (length ns ≡ 0)) ⊎ Falls ns (chosen pick ns)
chosen_is pick [] = inl (refl, refl)
chosen_is pick (number ∷ rest) =
    let less : pick % length (number ∷ rest) < length (number ∷ rest) = omega arith in
    inr (record { at = pick % length (number ∷ rest); within = less; is = slice_get-get_or (number ∷ rest) (pick % length (number ∷ rest)) 0 less })

-- a session's next item is carried out
record Goes {A : Type 0} (left : List (List A)) (turned : Option ((ℕ × A) × List (List A))) : Type 0 where
  number : ℕ
  item : A
  items : List A
  within : number < length left
  is : get_or left number [] ≡ item ∷ items
  now : turned ≡ Some ((number + 1, item), slice_set left number items)

length-get_or : {A : Type 0} (left : List (List A)) (k : ℕ) → get_or (map length left) k 0 ≡ length (get_or left k [])
length-get_or [] k = refl
length-get_or (items ∷ rest) zero = refl
length-get_or (items ∷ rest) (suc k) = length-get_or rest k

goes_on : {A : Type 0} (left : List (List A)) (number : ℕ) (items : List A) → number < length left → get_or left number [] ≡ items → 0 < length items → Goes left (first_of number items left)
goes_on left number [] within is some = absurd (omega arith)
goes_on left number (item ∷ items) within is some = record { number = number; item = item; items = items; within = within; is = is; now = refl }

turn_cases : {A : Type 0} (pick : ℕ) (left : List (List A)) → ((turn pick left ≡ None) × (total left ≡ 0)) ⊎ Goes left (turn pick left)
turn_cases pick left = elim (chosen_is pick (waiting 0 (map length left))) [
  | inl none ↦ let none_is = none.0 in inl (rw none_is refl, none_waits 0 left none.1)
  | inr falls ↦
      let at = waits 0 (map length left) falls.at falls.within in
      let place : get_or (waiting 0 (map length left)) falls.at 0 ≡ at.place = omega (arith, at.is) in
      let choice : next_session pick (map length left) ≡ Some at.place = falls.is ∙ ap (λ (n : ℕ). Some n) place in
      let within : at.place < length left = omega (arith, at.within, length-map left length) in
      let some : 0 < length (get_or left at.place []) = omega (arith, at.some, length-get_or left at.place) in
      inr (rw choice (goes_on left at.place (get_or left at.place []) within refl some))
]

-- one item fewer is left
one_fewer : {A : Type 0} (left : List (List A)) (number : ℕ) (item : A) (items : List A) → number < length left → get_or left number [] ≡ item ∷ items → total (slice_set left number items) + 1 ≡ total left
one_fewer [] number item items within is = absurd (omega arith)
one_fewer (first ∷ rest) zero item items within is = let size : length first ≡ length (item ∷ items) = ap length is in omega (arith, size)
one_fewer (first ∷ rest) (suc number) item items within is = let inner = one_fewer rest number item items (omega arith) is in omega (arith, inner)

none_left : {A : Type 0} (left : List (List A)) (k : ℕ) → total left ≡ 0 → get_or left k [] ≡ []
none_left [] k none = refl
none_left ([] ∷ rest) zero none = refl
none_left ((item ∷ items) ∷ rest) zero none = absurd (omega arith)
none_left (items ∷ rest) (suc k) none = none_left rest k (omega arith)

-- the first item is of one session alone
item_goes : {A : Type 0} (left : List (List A)) (number k : ℕ) (item : A) (items tail : List A) → number < length left → get_or left number [] ≡ item ∷ items → tail ≡ get_or (slice_set left number items) k []
    → cond ((number + 1) == (k + 1)) (item ∷ tail) tail ≡ get_or left k []
item_goes {A} left number k item items tail within is rest = elim (eqb_tells (number + 1) (k + 1)) [
  | inl same ↦
      let equal = same.1 in
      let one : number ≡ k = omega (arith, equal) in
      let here : get_or (slice_set left number items) k [] ≡ items = rw (← one) (get_or-set_same left number items [] within) in
      let same_test = same.0 in
      rw same_test (ap (λ (l : List A). item ∷ l) (rest ∙ here) ∙ sym is ∙ ap (λ (n : ℕ). get_or left n []) one)
  | inr other ↦
      let away : k ≢ number = λ e. other.1 (ap (λ (n : ℕ). n + 1) (sym e)) in
      let other_test = other.0 in
      rw other_test (rest ∙ get_or-set_other left number k items [] away)
]

-- a turn, and what follows it
order-none : {A : Type 0} (pick : ℕ) (left : List (List A)) (picks : List ℕ) → turn pick left ≡ None → order left (pick ∷ picks) ≡ []
order-none {A} pick left picks none =
    let step : Option ((ℕ × A) × List (List A)) → List (ℕ × A) = λ o. elim o [ None ↦ [] | Some now ↦ now.0 ∷ order now.1 picks ] in
    ap step none

order-some : {A : Type 0} (pick : ℕ) (left : List (List A)) (picks : List ℕ) (now : (ℕ × A) × List (List A)) → turn pick left ≡ Some now → order left (pick ∷ picks) ≡ now.0 ∷ order now.1 picks
order-some {A} pick left picks now some =
    let step : Option ((ℕ × A) × List (List A)) → List (ℕ × A) = λ o. elim o [ None ↦ [] | Some now ↦ now.0 ∷ order now.1 picks ] in
    ap step some

-- each session's items come in their order, and all of them
pub shuffled : {A : Type 0} (left : List (List A)) (picks : List ℕ) → total left ≤ length picks → (k : ℕ) → items_of (k + 1) (order left picks) ≡ get_or left k []
shuffled left [] enough k = sym (none_left left k (omega arith))
shuffled left (pick ∷ picks) enough k = elim (turn_cases pick left) [
  | inl none ↦ ap (items_of (k + 1)) (order-none pick left picks none.0) ∙ sym (none_left left k none.1)
  | inr goes ↦
      let fewer = one_fewer left goes.number goes.item goes.items goes.within goes.is in
      let inner = shuffled (slice_set left goes.number goes.items) picks (omega (arith, fewer)) k in
      ap (items_of (k + 1)) (order-some pick left picks ((goes.number + 1, goes.item), slice_set left goes.number goes.items) goes.now)
      ∙ item_goes left goes.number k goes.item goes.items _ goes.within goes.is inner
]

-- and there are no others
pub order-length : {A : Type 0} (left : List (List A)) (picks : List ℕ) → total left ≤ length picks → length (order left picks) ≡ total left
order-length left [] enough = omega arith
order-length {A} left (pick ∷ picks) enough = elim (turn_cases pick left) [
  | inl none ↦ ap (λ (l : List (ℕ × A)). length l) (order-none pick left picks none.0) ∙ sym none.1
  | inr goes ↦
      let fewer = one_fewer left goes.number goes.item goes.items goes.within goes.is in
      let inner = order-length (slice_set left goes.number goes.items) picks (omega (arith, fewer)) in
      let step = order-some pick left picks ((goes.number + 1, goes.item), slice_set left goes.number goes.items) goes.now in
      ap (λ (l : List (ℕ × A)). length l) step ∙ omega (arith, inner, fewer)
]

nothing_left : {A : Type 0} (left : List (List A)) (picks : List ℕ) → total left ≡ 0 → order left picks ≡ []
nothing_left left [] none = refl
nothing_left left (pick ∷ picks) none = elim (turn_cases pick left) [
  | inl ends ↦ order-none pick left picks ends.0
  | inr goes ↦ absurd (omega (arith, one_fewer left goes.number goes.item goes.items goes.within goes.is))
]

-- picks behind the last item play no part
pub order-append : {A : Type 0} (left : List (List A)) (picks more : List ℕ) → total left ≤ length picks → order left (picks ++ more) ≡ order left picks
order-append left [] more enough = nothing_left left more (omega arith)
order-append {A} left (pick ∷ picks) more enough = elim (turn_cases pick left) [
  | inl none ↦ order-none pick left (picks ++ more) none.0 ∙ sym (order-none pick left picks none.0)
  | inr goes ↦
      let now : (ℕ × A) × List (List A) = ((goes.number + 1, goes.item), slice_set left goes.number goes.items) in
      let fewer = one_fewer left goes.number goes.item goes.items goes.within goes.is in
      let inner = order-append (slice_set left goes.number goes.items) picks more (omega (arith, fewer)) in
      order-some pick left (picks ++ more) now goes.now ∙ ap (λ (l : List (ℕ × A)). (goes.number + 1, goes.item) ∷ l) inner ∙ sym (order-some pick left picks now goes.now)
]
