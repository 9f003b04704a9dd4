-- Lists of whole numbers in a row, and what is taken from them.
use Rattle.std.proofs.Common.{◌≡◌, ℕ, zero, suc, ◌+◌, ◌-◌, ◌<◌, Bool, true, false, cond, List, [], ◌∷◌, ◌++◌, length, filter, filter_map, slice_get, is_some, Option, Some, None, refl, sym, ap, ◌∙◌, arith, ℤ, pos, ◌+ℤ◌}
use Rattle.std.specs.List.{cons_option}
use Rattle.std.proofs.lemmas.Int.{ints}
use Rattle.std.proofs.lemmas.List.{append-nil, length_push}
use Rattle.std.proofs.lemmas.List.Elements.{filter_map-append, filter-append}
use Rattle.ts_offset.specs.Grid.{numbers_from}

pub numbers-zero : (k : ℤ) → numbers_from k 0 ≡ []
unfolding numbers_from
numbers-zero k = refl

pub numbers-suc : (k : ℤ) (n : ℕ) → numbers_from k (suc n) ≡ k ∷ numbers_from (k +ℤ pos 1) n
unfolding numbers_from
numbers-suc k n = refl

-- the numbers in two parts
pub numbers-append : (k : ℤ) (n m : ℕ) → numbers_from k (n + m) ≡ numbers_from k n ++ numbers_from (k +ℤ pos n) m
numbers-append k zero m =
    let same : 0 + m ≡ m = omega arith in
    let here : k ≡ k +ℤ pos 0 = omega (arith, ints) in
    ap (numbers_from k) same ∙ ap (λ j. numbers_from j m) here ∙ ap (λ l. l ++ numbers_from (k +ℤ pos 0) m) (sym (numbers-zero k))
numbers-append k (suc n) m =
    let same : suc n + m ≡ suc (n + m) = omega arith in
    let here : k +ℤ pos 1 +ℤ pos n ≡ k +ℤ pos (suc n) = omega (arith, ints) in
    ap (numbers_from k) same ∙ numbers-suc k (n + m) ∙ ap (λ l. k ∷ l) (numbers-append (k +ℤ pos 1) n m ∙ ap (λ j. numbers_from (k +ℤ pos 1) n ++ numbers_from j m) here)
    ∙ ap (λ l. l ++ numbers_from (k +ℤ pos (suc n)) m) (sym (numbers-suc k n))

-- what a function gives of the numbers, in two parts
pub taken-append : (f : ℤ → Option ℤ) (k : ℤ) (n m : ℕ)
    → filter_map f (numbers_from k (n + m)) ≡ filter_map f (numbers_from k n) ++ filter_map f (numbers_from (k +ℤ pos n) m)
taken-append f k n m = ap (filter_map f) (numbers-append k n m) ∙ filter_map-append f (numbers_from k n) (numbers_from (k +ℤ pos n) m)

pub taken-suc : (f : ℤ → Option ℤ) (k : ℤ) (n : ℕ) → filter_map f (numbers_from k (suc n)) ≡ cons_option (f k) (filter_map f (numbers_from (k +ℤ pos 1) n))
taken-suc f k n = ap (filter_map f) (numbers-suc k n)

-- of one more number
pub taken-more : (f : ℤ → Option ℤ) (k : ℤ) (n : ℕ) → filter_map f (numbers_from k (n + 1)) ≡ filter_map f (numbers_from k n) ++ cons_option (f (k +ℤ pos n)) []
taken-more f k n =
    let at = k +ℤ pos n in
    let last : filter_map f (numbers_from at 1) ≡ cons_option (f at) [] = taken-suc f at 0 ∙ ap (λ l. cons_option (f at) (filter_map f l)) (numbers-zero (at +ℤ pos 1)) in
    taken-append f k n 1 ∙ ap (λ l. filter_map f (numbers_from k n) ++ l) last

pub taken-more-some : (f : ℤ → Option ℤ) (k : ℤ) (n : ℕ) (s : ℤ) → f (k +ℤ pos n) ≡ Some s → filter_map f (numbers_from k (n + 1)) ≡ filter_map f (numbers_from k n) ++ s ∷ []
taken-more-some f k n s e = taken-more f k n ∙ ap (λ o. filter_map f (numbers_from k n) ++ cons_option o []) e

pub taken-more-none : (f : ℤ → Option ℤ) (k : ℤ) (n : ℕ) → f (k +ℤ pos n) ≡ None → filter_map f (numbers_from k (n + 1)) ≡ filter_map f (numbers_from k n)
taken-more-none f k n e = taken-more f k n ∙ ap (λ o. filter_map f (numbers_from k n) ++ cons_option o []) e ∙ append-nil (filter_map f (numbers_from k n))

filter-option-none : (p : ℤ → Bool) (o : Option ℤ) (l : List ℤ) → ((s : ℤ) → o ≡ Some s → p s ≡ false) → filter p (cons_option o l) ≡ filter p l
filter-option-none p None l h = refl
filter-option-none p (Some s) l h = ap (λ b. cond b (s ∷ filter p l) (filter p l)) (h s refl)

filter-option-all : (p : ℤ → Bool) (o : Option ℤ) (l : List ℤ) → ((s : ℤ) → o ≡ Some s → p s ≡ true) → filter p (cons_option o l) ≡ cons_option o (filter p l)
filter-option-all p None l h = refl
filter-option-all p (Some s) l h = ap (λ b. cond b (s ∷ filter p l) (filter p l)) (h s refl)

-- a part of which nothing passes
pub taken-none : (f : ℤ → Option ℤ) (p : ℤ → Bool) (k : ℤ) (n : ℕ) → ((i : ℕ) (s : ℤ) → i < n → f (k +ℤ pos i) ≡ Some s → p s ≡ false)
    → filter p (filter_map f (numbers_from k n)) ≡ []
taken-none f p k zero h = ap (λ l. filter p (filter_map f l)) (numbers-zero k)
taken-none f p k (suc n) h =
    let start : k ≡ k +ℤ pos 0 = omega (arith, ints) in
    ap (filter p) (taken-suc f k n)
    ∙ filter-option-none p (f k) (filter_map f (numbers_from (k +ℤ pos 1) n)) (λ s e. h 0 s (omega arith) (sym (ap f start) ∙ e))
    ∙ taken-none f p (k +ℤ pos 1) n (λ i s lt e. let later : k +ℤ pos 1 +ℤ pos i ≡ k +ℤ pos (suc i) = omega (arith, ints) in h (suc i) s (omega arith) (sym (ap f later) ∙ e))

-- a part of which all pass
pub taken-all : (f : ℤ → Option ℤ) (p : ℤ → Bool) (k : ℤ) (n : ℕ) → ((i : ℕ) (s : ℤ) → i < n → f (k +ℤ pos i) ≡ Some s → p s ≡ true)
    → filter p (filter_map f (numbers_from k n)) ≡ filter_map f (numbers_from k n)
taken-all f p k zero h =
    let none = ap (filter_map f) (numbers-zero k) in
    ap (filter p) none ∙ sym none
taken-all f p k (suc n) h =
    let start : k ≡ k +ℤ pos 0 = omega (arith, ints) in
    ap (filter p) (taken-suc f k n)
    ∙ filter-option-all p (f k) (filter_map f (numbers_from (k +ℤ pos 1) n)) (λ s e. h 0 s (omega arith) (sym (ap f start) ∙ e))
    ∙ ap (cons_option (f k)) (taken-all f p (k +ℤ pos 1) n (λ i s lt e. let later : k +ℤ pos 1 +ℤ pos i ≡ k +ℤ pos (suc i) = omega (arith, ints) in h (suc i) s (omega arith) (sym (ap f later) ∙ e)))
    ∙ sym (taken-suc f k n)

-- what passes of three parts, where nothing of the first and the third does, and all of the second
pub taken-window : (f : ℤ → Option ℤ) (p : ℤ → Bool) (k : ℤ) (before n after : ℕ)
    → ((i : ℕ) (s : ℤ) → i < before → f (k +ℤ pos i) ≡ Some s → p s ≡ false)
    → ((i : ℕ) (s : ℤ) → i < n → f (k +ℤ pos before +ℤ pos i) ≡ Some s → p s ≡ true)
    → ((i : ℕ) (s : ℤ) → i < after → f (k +ℤ pos (before + n) +ℤ pos i) ≡ Some s → p s ≡ false)
    → filter p (filter_map f (numbers_from k (before + n + after))) ≡ filter_map f (numbers_from (k +ℤ pos before) n)
taken-window f p k before n after low mid high =
    let a = filter_map f (numbers_from k before) in
    let b = filter_map f (numbers_from (k +ℤ pos before) n) in
    let d = filter_map f (numbers_from (k +ℤ pos (before + n)) after) in
    ap (filter p) (taken-append f k (before + n) after ∙ ap (λ l. l ++ d) (taken-append f k before n))
    ∙ filter-append p (a ++ b) d ∙ ap (λ l. l ++ filter p d) (filter-append p a b)
    ∙ ap (λ l. (filter p a ++ filter p b) ++ l) (taken-none f p (k +ℤ pos (before + n)) after high)
    ∙ append-nil (filter p a ++ filter p b)
    ∙ ap (λ l. l ++ filter p b) (taken-none f p k before low)
    ∙ taken-all f p (k +ℤ pos before) n mid

-- nothing is taken of no number
pub taken-zero : (f : ℤ → Option ℤ) (k : ℤ) → filter_map f (numbers_from k 0) ≡ []
taken-zero f k = ap (filter_map f) (numbers-zero k)

-- how many are taken of one more number
pub taken-count-some : (f : ℤ → Option ℤ) (k : ℤ) (n : ℕ) → is_some (f (k +ℤ pos n)) ≡ true
    → length (filter_map f (numbers_from k (n + 1))) ≡ length (filter_map f (numbers_from k n)) + 1
taken-count-some f k n h =
    let s = there (f (k +ℤ pos n)) h in
    ap length (taken-more-some f k n s.0 s.1) ∙ length_push (filter_map f (numbers_from k n)) s.0
  where
    there : (o : Option ℤ) → is_some o ≡ true → (s : ℤ) × (o ≡ Some s)
    there (Some s) h = (s, refl)
    there None h = absurd (cc)

pub taken-count-none : (f : ℤ → Option ℤ) (k : ℤ) (n : ℕ) → is_some (f (k +ℤ pos n)) ≡ false
    → length (filter_map f (numbers_from k (n + 1))) ≡ length (filter_map f (numbers_from k n))
taken-count-none f k n h = ap length (taken-more-none f k n (gone (f (k +ℤ pos n)) h))
  where
    gone : (o : Option ℤ) → is_some o ≡ false → o ≡ None
    gone (Some s) h = absurd (cc)
    gone None h = refl

-- the element at the place up to which as many were taken
pub taken-at : (f : ℤ → Option ℤ) (k : ℤ) (n m i : ℕ) (s : ℤ) → i < m → f (k +ℤ pos i) ≡ Some s → length (filter_map f (numbers_from k i)) ≡ n
    → slice_get (filter_map f (numbers_from k m)) n ≡ Some s
taken-at f k n m i s lt e count =
    let rest = m - (i + 1) in
    let whole : m ≡ i + suc rest = omega arith in
    let at = k +ℤ pos i in
    let tail = filter_map f (numbers_from (at +ℤ pos 1) rest) in
    let front = filter_map f (numbers_from k i) in
    let split : filter_map f (numbers_from k m) ≡ front ++ s ∷ tail =
    ap (λ j. filter_map f (numbers_from k j)) whole ∙ taken-append f k i (suc rest)
    ∙ ap (λ l. front ++ l) (taken-suc f at rest ∙ ap (λ o. cons_option o tail) e) in
    let place : n ≡ length front + 0 = omega (arith, count) in
    ap (λ l. slice_get l n) split ∙ ap (slice_get (front ++ s ∷ tail)) place ∙ nth_right front (s ∷ tail) 0
  where
    nth_right : (xs ys : List ℤ) (j : ℕ) → slice_get (xs ++ ys) (length xs + j) ≡ slice_get ys j
    nth_right [] ys j = let e : 0 + j ≡ j = omega arith in ap (slice_get ys) e
    nth_right (x ∷ xs) ys j = let e : suc (length xs) + j ≡ suc (length xs + j) = omega arith in ap (slice_get (x ∷ xs ++ ys)) e ∙ nth_right xs ys j

-- the number from which an element at a place was taken
pub taken-from : (f : ℤ → Option ℤ) (k : ℤ) (n m : ℕ) (s : ℤ) → slice_get (filter_map f (numbers_from k m)) n ≡ Some s
    → (i : ℕ) × (i < m) × (f (k +ℤ pos i) ≡ Some s) × (length (filter_map f (numbers_from k i)) ≡ n)
taken-from f k n zero s e = absurd (let none = ap (λ l. slice_get l n) (taken-zero f k) in cc)
taken-from f k n (suc m) s e = go f k m s (λ j. taken-from f (k +ℤ pos 1) j m s) (f k) refl n (sym (ap (λ l. slice_get l n) (taken-suc f k m)) ∙ e)
  where
    go : (f : ℤ → Option ℤ) (k : ℤ) (m : ℕ) (s : ℤ)
        → ((j : ℕ) → slice_get (filter_map f (numbers_from (k +ℤ pos 1) m)) j ≡ Some s
        → (i : ℕ) × (i < m) × (f (k +ℤ pos 1 +ℤ pos i) ≡ Some s) × (length (filter_map f (numbers_from (k +ℤ pos 1) i)) ≡ j))
        → (o : Option ℤ) → f k ≡ o → (n : ℕ) → slice_get (cons_option (f k) (filter_map f (numbers_from (k +ℤ pos 1) m))) n ≡ Some s
        → (i : ℕ) × (i < suc m) × (f (k +ℤ pos i) ≡ Some s) × (length (filter_map f (numbers_from k i)) ≡ n)
    go f k m s more None o n e =
        let rest = filter_map f (numbers_from (k +ℤ pos 1) m) in
        let w = more n (sym (ap (λ x. slice_get (cons_option x rest) n) o) ∙ e) in
        let later : k +ℤ pos 1 +ℤ pos w.0 ≡ k +ℤ pos (suc w.0) = omega (arith, ints) in
        let count = taken-suc f k w.0 ∙ ap (λ x. cons_option x (filter_map f (numbers_from (k +ℤ pos 1) w.0))) o in
        (suc w.0, omega (arith, w.1), sym (ap f later) ∙ w.2, ap length count ∙ w.3)
    go f k m s more (Some x) o zero e =
        let rest = filter_map f (numbers_from (k +ℤ pos 1) m) in
        let start : k +ℤ pos 0 ≡ k = omega (arith, ints) in
        let here : Some x ≡ Some s = sym (ap (λ y. slice_get (cons_option y rest) 0) o) ∙ e in
        (0, omega arith, ap f start ∙ o ∙ here, ap length (taken-zero f k))
    go f k m s more (Some x) o (suc n) e =
        let rest = filter_map f (numbers_from (k +ℤ pos 1) m) in
        let w = more n (sym (ap (λ y. slice_get (cons_option y rest) (suc n)) o) ∙ e) in
        let later : k +ℤ pos 1 +ℤ pos w.0 ≡ k +ℤ pos (suc w.0) = omega (arith, ints) in
        let count = taken-suc f k w.0 ∙ ap (λ y. cons_option y (filter_map f (numbers_from (k +ℤ pos 1) w.0))) o in
        (suc w.0, omega (arith, w.1), sym (ap f later) ∙ w.2, ap length count ∙ ap suc w.3)
