-- Pages that are freed one after the other.
use Rattle.std.proofs.Common.{◌≡◌, ◌≢◌, ℕ, zero, suc, ◌+◌, ◌<◌, ◌==◌, if◌then◌else◌, Bool, All, AllPairs, Result, Ok, Err, OnOk, List, [], ◌∷◌, ◌++◌, length, take, get_or, inl, inr, ⊎_elim, refl, sym, ap, subst, ◌∙◌, arith, append-nil}
use Rattle.std.specs.Prelude.{Contains, IsPermutation}
use Rattle.std.specs.List.{swap}
use Rattle.std.proofs.lemmas.Bool.{cases_eq, cases_lt}
use Rattle.std.proofs.lemmas.Bool.Decides.{nat_tests}
use Rattle.std.proofs.lemmas.List.Edits.{length-swap, swapped_from_swap}
use Rattle.std.proofs.lemmas.List.Elements.{Contains-append_cases, Contains-append_left, Contains-append_right}
use Rattle.std.proofs.lemmas.List.Sorted.{IsPermutation-sym, IsPermutation-trans, IsPermutation-keeps, IsPermutation-append_right, IsPermutation-cons, Contains-permutation}
use Rattle.ts_space.specs.declared.place.Place.{Place}
use Rattle.ts_space.specs.Place.{pages_of}
use Rattle.ts_page.specs.Pages.{zero_page, Contents, Freed}
use Rattle.ts_regular.specs.Cut.{AreFreed, AreFreedTo, CanBeFreed}
use Rattle.ts_regular.proofs.KeptLemmas.{other_page}
use Rattle.ts_regular.proofs.EditLemmas.{one_freed, pairs_tail}

-- where a number stood before two were exchanged
abbrev turned : ℕ → ℕ → ℕ → ℕ
turned i j m = if m == i then j else (if m == j then i else m)

turned_within : (i j m n : ℕ) → i < n → j < n → m < n → turned i j m < n
turned_within i j m n first second within = grind (arith, nat_tests)

turned_apart : (i j a b : ℕ) → a ≢ b → turned i j a ≢ turned i j b
turned_apart i j a b other same = grind (arith, nat_tests)

-- each two numbers differ, whichever is first
abbrev AllApart : List ℕ → Type 0
AllApart xs = (i j : ℕ) (d : ℕ) → i < length xs → j < length xs → i ≢ j → get_or xs i d ≢ get_or xs j d

pairs_apart : (xs : List ℕ) → AllPairs (λ a b. a ≢ b) xs → AllApart xs
pairs_apart xs pairs i j d first second other = elim (cases_lt i j) [
  | inl before ↦ pairs i j d before second
  | inr behind ↦ (λ same. pairs j i d (omega (arith, behind, other)) first (sym same))
]

source : (xs : List ℕ) (i j m : ℕ) (d : ℕ) → i < length xs → j < length xs → get_or (swap xs i j) m d ≡ get_or xs (turned i j m) d
source xs i j m d first second =
    let swapped = swapped_from_swap xs (swap xs i j) i j d first second refl in
    elim (cases_eq m i) [
      | inl same ↦
          let at : turned i j m ≡ j = grind (arith, nat_tests) in
          ap (λ (n : ℕ). get_or (swap xs i j) n d) same ∙ swapped.0 ∙ ap (λ (n : ℕ). get_or xs n d) (sym at)
      | inr other ↦ elim (cases_eq m j) [
        | inl same ↦
            let at : turned i j m ≡ i = grind (arith, nat_tests) in
            ap (λ (n : ℕ). get_or (swap xs i j) n d) same ∙ swapped.1 ∙ ap (λ (n : ℕ). get_or xs n d) (sym at)
        | inr neither ↦
            let at : turned i j m ≡ m = grind (arith, nat_tests) in
            swapped.2 m other neither ∙ ap (λ (n : ℕ). get_or xs n d) (sym at)
      ]
    ]

apart_swapped : (xs : List ℕ) (i j : ℕ) → i < length xs → j < length xs → AllApart xs → AllApart (swap xs i j)
apart_swapped xs i j first second apart a b d left right other same =
    let long = length-swap xs i j in
    let in_left : turned i j a < length xs = turned_within i j a (length xs) first second (omega (arith, left, long)) in
    let in_right : turned i j b < length xs = turned_within i j b (length xs) first second (omega (arith, right, long)) in
    apart (turned i j a) (turned i j b) d in_left in_right (turned_apart i j a b other) (sym (source xs i j a d first second) ∙ same ∙ source xs i j b d first second)

-- different numbers are so in any order
pub pairs_moved : (xs ys : List ℕ) → IsPermutation xs ys → AllPairs (λ a b. a ≢ b) xs → AllPairs (λ a b. a ≢ b) ys
pairs_moved xs ys moved pairs =
    let apart = IsPermutation-keeps xs AllApart (pairs_apart xs pairs) (λ l i j first second h. apart_swapped l i j first second h) ys moved in
    λ i j d before within. apart i j d (omega (arith, before, within)) within (λ same. absurd (omega (arith, before, same)))

-- the first numbers and the next one
take_next : (xs : List ℕ) (i : ℕ) (d : ℕ) → i < length xs → take (suc i) xs ≡ take i xs ++ get_or xs i d ∷ []
take_next [] i d within = absurd (omega (arith, within))
take_next (x ∷ xs) zero d within = refl
take_next (x ∷ xs) (suc i) d within = ap (λ (l : List ℕ). x ∷ l) (take_next xs i d (omega (arith, within)))

-- which differs from those
next_apart : (xs : List ℕ) (i : ℕ) (d : ℕ) → AllPairs (λ a b. a ≢ b) xs → i < length xs → ¬ Contains (take i xs) (get_or xs i d)
next_apart [] i d pairs within has = absurd (omega (arith, within))
next_apart (x ∷ xs) zero d pairs within has = absurd (let below = has.1 in omega (arith, below))
next_apart (x ∷ xs) (suc i) d pairs within (zero, below, is) = pairs 0 (suc i) d (omega arith) within is
next_apart (x ∷ xs) (suc i) d pairs within (suc k, below, is) =
    next_apart xs i d (pairs_tail x xs pairs) (omega (arith, within)) (k, omega (arith, below), is)

module _ (tells : Bool) (numbers : List ℕ) (v : Contents) where
  module _ (each : All (CanBeFreed v) numbers) (different : AllPairs (λ a b. a ≢ b) numbers) (i : ℕ) (d : ℕ) (within : i < length numbers) (u : Contents) (so : AreFreedTo tells numbers i v u) where
    -- the next one can be freed
    pub next_used : ¬ Contains u.free (get_or numbers i d)
    next_used has =
        ⊎_elim (each i d within).used (next_apart numbers i d different within)
        (Contains-append_cases v.free (take i numbers) (get_or numbers i d) (Contains-permutation u.free (v.free ++ take i numbers) (get_or numbers i d) (IsPermutation-sym (v.free ++ take i numbers) u.free so.free) has))

    -- and is
    pub one_more : (w : Contents) → Freed tells (get_or numbers i d) (Ok tt) u w → AreFreedTo tells numbers (i + 1) v w
    one_more w freed =
        let x : ℕ = get_or numbers i d in
        let more : take (i + 1) numbers ≡ take i numbers ++ x ∷ [] = (let next : i + 1 ≡ suc i = omega arith in ap (λ (k : ℕ). take k numbers) next) ∙ take_next numbers i d within in
        let parts : IsPermutation (v.free ++ (take i numbers ++ x ∷ [])) ((x ∷ v.free) ++ (take i numbers ++ [])) = one_freed v.free (take i numbers) x [] in
        let bytes = freed.change_bytes in
        let before = so.change_bytes in
        record {
          free =
              subst (λ (l : List ℕ). IsPermutation (v.free ++ l) w.free) (sym more)
              (subst (IsPermutation (v.free ++ (take i numbers ++ x ∷ []))) (sym freed.listed)
              (IsPermutation-trans (v.free ++ (take i numbers ++ x ∷ [])) ((x ∷ v.free) ++ (take i numbers ++ [])) (x ∷ u.free) parts
              (subst (λ (l : List ℕ). IsPermutation ((x ∷ v.free) ++ l) (x ∷ u.free)) (sym (append-nil (take i numbers)))
              (IsPermutation-cons x (v.free ++ take i numbers) u.free so.free))));
          others = λ told n not.
              let other : n ≢ x = λ same. not (subst (λ (l : List ℕ). Contains l n) (sym more) (Contains-append_right (take i numbers) (x ∷ []) n (0, omega arith, sym same))) in
              freed.freed told n ∙ other_page x n zero_page u.page other
              ∙ so.others told n (λ has. not (subst (λ (l : List ℕ). Contains l n) (sym more) (Contains-append_left (take i numbers) (x ∷ []) n has)));
          count = freed.call.count ∙ so.count;
          faults = freed.call.no_fault (λ err. cc) ∙ so.faults;
          change_bytes = omega (arith, bytes, before);
          images = λ n not is.
              let other : n ≢ x = λ same. not (subst (λ (l : List ℕ). Contains l n) (sym more) (Contains-append_right (take i numbers) (x ∷ []) n (0, omega arith, sym same))) in
              freed.images n other (so.images n (λ has. not (subst (λ (l : List ℕ). Contains l n) (sym more) (Contains-append_left (take i numbers) (x ∷ []) n has))) is);
        }

-- all of them, in any order
pub freed_places : (tells : Bool) (places : List Place) (numbers : List ℕ) (n : ℕ) (v w : Contents) → IsPermutation (pages_of places) numbers → n ≡ length numbers → AreFreedTo tells numbers n v w → AreFreed tells places v w
freed_places tells places numbers n v w moved whole so =
    let all : take n numbers ≡ numbers = ap (λ (k : ℕ). take k numbers) whole ∙ take_all numbers in
    record {
      free = IsPermutation-trans (v.free ++ pages_of places) (v.free ++ numbers) w.free (IsPermutation-append_right v.free (pages_of places) numbers moved) (subst (λ (l : List ℕ). IsPermutation (v.free ++ l) w.free) all so.free);
      others = λ told m not. so.others told m (λ has. not (Contains-permutation numbers (pages_of places) m (IsPermutation-sym (pages_of places) numbers moved) (subst (λ (l : List ℕ). Contains l m) all has)));
      images = λ m not. so.images m (λ has. not (Contains-permutation numbers (pages_of places) m (IsPermutation-sym (pages_of places) numbers moved) (subst (λ (l : List ℕ). Contains l m) all has)));
    }
  where
    take_all : (xs : List ℕ) → take (length xs) xs ≡ xs
    take_all [] = refl
    take_all (x ∷ xs) = ap (λ (l : List ℕ). x ∷ l) (take_all xs)

-- what a call did after others
pub on_ok : {T E : Type 0} (r : Result T E) (P Q : Type 0) → (P → Q) → OnOk r P → OnOk r Q
on_ok (Ok t) P Q so p = so p
on_ok (Err e) P Q so p = tt
