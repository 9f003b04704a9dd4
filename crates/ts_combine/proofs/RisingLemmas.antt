-- Stamps that rise: two lists of them with the same members are one.
use Rattle.std.proofs.Common.{◌≡◌, ◌∙◌, ◌⊎◌, inl, inr, ℕ, zero, suc, ◌<◌, Bool, true, false, cond, ℤ, pos, neg_ℤ, ◌+ℤ◌, ◌<ℤ◌, ◌≤ℤ◌, Option, Some, None, List, [], ◌∷◌, filter, filter_map, length, slice_get, refl, sym, ap, subst, arith}
use Rattle.std.specs.Prelude.{int_lt}
use Rattle.std.specs.List.{cons_option}
use Rattle.ts_calendar.specs.Calendars.{CalendarPlan, IsLaid, reach, near_count}
use Rattle.ts_calendar.proofs.StampLemmas.{int_lt_yes, int_lt_no}
use Rattle.ts_calendar.proofs.LawLemmas.{starts-rise}
use Rattle.std.proofs.lemmas.Int.{ints}
use Rattle.std.proofs.lemmas.Option.{same_Some}
use Rattle.ts_offset.specs.Grid.{numbers_from, on_start, on_starts}
use Rattle.ts_offset.proofs.ListLemmas.{taken-zero, taken-suc}
use Rattle.ts_offset.proofs.WindowLemmas.{on-start}

-- each of some things has a later stamp than one
abbrev pub AreAbove : {A : Type 0} → (A → ℤ) → ℤ → List A → Type 0
AreAbove stamp s [] = Unit {0}
AreAbove stamp s (x ∷ xs) = (s <ℤ stamp x) × AreAbove stamp s xs

-- each has a later one than the one before it
abbrev pub AreRisenBy : {A : Type 0} → (A → ℤ) → List A → Type 0
AreRisenBy stamp [] = Unit {0}
AreRisenBy stamp (x ∷ xs) = AreAbove stamp (stamp x) xs × AreRisenBy stamp xs

-- stamps that rise
abbrev pub AreRisen : List ℤ → Type 0
AreRisen ts = AreRisenBy (λ t. t) ts

-- one of them
abbrev pub IsOneOf : {A : Type 0} → A → List A → Type 0
IsOneOf x [] = ⊥
IsOneOf x (y ∷ ys) = (y ≡ x) ⊎ IsOneOf x ys

module _ {A : Type 0} (stamp : A → ℤ) where
  above-one : (s : ℤ) (x : A) (xs : List A) → AreAbove stamp s xs → IsOneOf x xs → s <ℤ stamp x
  above-one s x [] above one = absurd one
  above-one s x (y ∷ xs) above (inl same) = subst (λ (z : A). s <ℤ stamp z) same above.0
  above-one s x (y ∷ xs) above (inr later) = above-one s x xs above.1 later

  -- two lists that rise and have the same members are one
  pub same-risen : (xs ys : List A) → AreRisenBy stamp xs → AreRisenBy stamp ys → ((x : A) → IsOneOf x xs → IsOneOf x ys) → ((x : A) → IsOneOf x ys → IsOneOf x xs) → xs ≡ ys
  same-risen [] [] xs_risen ys_risen to from = refl
  same-risen [] (y ∷ ys) xs_risen ys_risen to from = absurd (from y (inl refl))
  same-risen (x ∷ xs) [] xs_risen ys_risen to from = absurd (to x (inl refl))
  same-risen (x ∷ xs) (y ∷ ys) xs_risen ys_risen to from =
      let first : x ≡ y = heads (to x (inl refl)) (from y (inl refl)) in
      ap (λ (z : A). z ∷ xs) first
      ∙ ap (λ (l : List A). y ∷ l) (same-risen xs ys xs_risen.1 ys_risen.1 (λ z one. rest_to z first one (to z (inr one))) (λ z one. rest_from z first one (from z (inr one))))
    where
      heads : IsOneOf x (y ∷ ys) → IsOneOf y (x ∷ xs) → x ≡ y
      heads (inl same) there = sym same
      heads (inr later) (inl same) = same
      heads (inr later) (inr there) =
          let up = above-one (stamp y) x ys ys_risen.0 later in
          let down = above-one (stamp x) y xs xs_risen.0 there in
          absurd (omega (arith, ints, up, down))

      rest_to : (z : A) → x ≡ y → IsOneOf z xs → IsOneOf z (y ∷ ys) → IsOneOf z ys
      rest_to z first one (inl same) =
          let up = above-one (stamp x) z xs xs_risen.0 one in
          let at : stamp x ≡ stamp z = ap stamp (first ∙ same) in
          absurd (omega (arith, ints, up, at))
      rest_to z first one (inr there) = there

      rest_from : (z : A) → x ≡ y → IsOneOf z ys → IsOneOf z (x ∷ xs) → IsOneOf z xs
      rest_from z first one (inl same) =
          let up = above-one (stamp y) z ys ys_risen.0 one in
          let at : stamp y ≡ stamp z = ap stamp (sym first ∙ same) in
          absurd (omega (arith, ints, up, at))
      rest_from z first one (inr there) = there

-- what a function gives of things that rise rises where the function does among them
module _ {A B : Type 0} (stamp : A → ℤ) (given : B → ℤ) (f : A → Option B) (P : A → Type 0)
    (rises : (a b : A) (x y : B) → P a → P b → stamp a <ℤ stamp b → f a ≡ Some x → f b ≡ Some y → given x <ℤ given y) where
  above-given : (a : A) (x : B) (xs : List A) → P a → ((b : A) → IsOneOf b xs → P b) → f a ≡ Some x → AreAbove stamp (stamp a) xs → AreAbove given (given x) (filter_map f xs)
  above-given a x [] own each e above = tt
  above-given a x (b ∷ xs) own each e above = by (f b) refl (above-given a x xs own (λ z one. each z (inr one)) e above.1) where
    by : (o : Option B) → f b ≡ o → AreAbove given (given x) (filter_map f xs) → AreAbove given (given x) (cons_option o (filter_map f xs))
    by None is rest = rest
    by (Some y) is rest = (rises a b x y own (each b (inl refl)) above.0 e is, rest)

  pub risen-given : (xs : List A) → ((b : A) → IsOneOf b xs → P b) → AreRisenBy stamp xs → AreRisenBy given (filter_map f xs)
  risen-given [] each risen = tt
  risen-given (a ∷ xs) each risen = by (f a) refl (risen-given xs (λ z one. each z (inr one)) risen.1) where
    by : (o : Option B) → f a ≡ o → AreRisenBy given (filter_map f xs) → AreRisenBy given (cons_option o (filter_map f xs))
    by None is rest = rest
    by (Some x) is rest = (above-given a x xs (each a (inl refl)) (λ z one. each z (inr one)) is risen.0, rest)

-- the members of what is given
pub one-given : {A B : Type 0} (f : A → Option B) (a : A) (x : B) (xs : List A) → IsOneOf a xs → f a ≡ Some x → IsOneOf x (filter_map f xs)
one-given f a x [] one e = absurd one
one-given f a x (b ∷ xs) (inl same) e = subst (λ o. IsOneOf x (cons_option o (filter_map f xs))) (sym (ap f same ∙ e)) (inl refl)
one-given {A} {B} f a x (b ∷ xs) (inr later) e = by (f b) (one-given f a x xs later e) where
  by : (o : Option B) → IsOneOf x (filter_map f xs) → IsOneOf x (cons_option o (filter_map f xs))
  by None rest = rest
  by (Some y) rest = inr rest

pub given-one : {A B : Type 0} (f : A → Option B) (x : B) (xs : List A) → IsOneOf x (filter_map f xs) → (a : A) × IsOneOf a xs × (f a ≡ Some x)
given-one f x [] one = absurd one
given-one {A} {B} f x (b ∷ xs) one = by (f b) refl one (λ later. given-one f x xs later) where
  by : (o : Option B) → f b ≡ o → IsOneOf x (cons_option o (filter_map f xs)) → (IsOneOf x (filter_map f xs) → (a : A) × IsOneOf a xs × (f a ≡ Some x)) → (a : A) × IsOneOf a (b ∷ xs) × (f a ≡ Some x)
  by None is later rest = let w = rest later in (w.0, inr w.1, w.2)
  by (Some y) is (inl same) rest = (b, inl refl, is ∙ ap Some same)
  by (Some y) is (inr later) rest = let w = rest later in (w.0, inr w.1, w.2)

-- members by their places
pub one-at : {A : Type 0} (xs : List A) (n : ℕ) (x : A) → slice_get xs n ≡ Some x → IsOneOf x xs
one-at [] n x at = absurd (cc)
one-at (y ∷ xs) zero x at = inl (same_Some y x at)
one-at (y ∷ xs) (suc n) x at = inr (one-at xs n x at)

pub at-one : {A : Type 0} (xs : List A) (x : A) → IsOneOf x xs → (n : ℕ) × (slice_get xs n ≡ Some x)
at-one [] x one = absurd one
at-one (y ∷ xs) x (inl same) = (zero, ap Some same)
at-one (y ∷ xs) x (inr later) = let w = at-one xs x later in (suc w.0, w.1)

-- a later place has a later stamp
pub risen-at : (ts : List ℤ) (m n : ℕ) (s t : ℤ) → AreRisen ts → m < n → slice_get ts m ≡ Some s → slice_get ts n ≡ Some t → s <ℤ t
risen-at [] m n s t risen lt a b = absurd (cc)
risen-at (u ∷ ts) m zero s t risen lt a b = absurd (omega arith)
risen-at (u ∷ ts) zero (suc n) s t risen lt a b = subst (λ r. r <ℤ t) (same_Some u s a) (above-one (λ r. r) u t ts risen.0 (one-at ts n t b))
risen-at (u ∷ ts) (suc m) (suc n) s t risen lt a b = risen-at ts m n s t risen.1 (omega (arith, lt)) a b

-- as many come before the one at a place
none-below : (s : ℤ) (ts : List ℤ) → AreAbove (λ t. t) s ts → length (filter (λ x. int_lt x s) ts) ≡ 0
none-below s [] above = refl
none-below s (t ∷ ts) above =
    let up = above.0 in
    ap (λ b. length (cond b (t ∷ filter (λ x. int_lt x s) ts) (filter (λ x. int_lt x s) ts))) (int_lt_no t s (omega (arith, ints, up))) ∙ none-below s ts above.1

pub count-below : (ts : List ℤ) (n : ℕ) (s : ℤ) → AreRisen ts → slice_get ts n ≡ Some s → length (filter (λ x. int_lt x s) ts) ≡ n
count-below [] n s risen at = absurd (cc)
count-below (t ∷ ts) zero s risen at =
    let same = same_Some t s at in
    ap (λ b. length (cond b (t ∷ filter (λ x. int_lt x s) ts) (filter (λ x. int_lt x s) ts))) (int_lt_no t s (omega (arith, ints, same)))
    ∙ ap (λ r. length (filter (λ x. int_lt x r) ts)) (sym same) ∙ none-below t ts risen.0
count-below (t ∷ ts) (suc n) s risen at =
    let up = above-one (λ r. r) t s ts risen.0 (one-at ts n s at) in
    ap (λ b. length (cond b (t ∷ filter (λ x. int_lt x s) ts) (filter (λ x. int_lt x s) ts))) (int_lt_yes t s up) ∙ ap suc (count-below ts n s risen.1 at)

abbrev AreLaterThan : ℤ → List ℤ → Type 0
AreLaterThan s ts = AreAbove (λ t. t) s ts

above-option : (s : ℤ) (o : Option ℤ) (ts : List ℤ) → ((t : ℤ) → o ≡ Some t → s <ℤ t) → AreLaterThan s ts → AreLaterThan s (cons_option o ts)
above-option s None ts here rest = rest
above-option s (Some t) ts here rest = (here t refl, rest)

above-taken : (f : ℤ → Option ℤ) (s k : ℤ) (n : ℕ) → ((j t : ℤ) → k ≤ℤ j → f j ≡ Some t → s <ℤ t) → AreLaterThan s (filter_map f (numbers_from k n))
above-taken f s k zero later = subst (AreLaterThan s) (sym (taken-zero f k)) tt
above-taken f s k (suc n) later = subst (AreLaterThan s) (sym (taken-suc f k n))
    (above-option s (f k) (filter_map f (numbers_from (k +ℤ pos 1) n)) (λ t e. later k t (omega (arith, ints)) e)
    (above-taken f s (k +ℤ pos 1) n (λ j t le e. later j t (omega (arith, ints, le)) e)))

-- what a function gives of numbers rises where the function does
pub risen-taken : (f : ℤ → Option ℤ) (k : ℤ) (n : ℕ) → ((i j s t : ℤ) → i <ℤ j → f i ≡ Some s → f j ≡ Some t → s <ℤ t) → AreRisen (filter_map f (numbers_from k n))
risen-taken f k zero rises = subst AreRisen (sym (taken-zero f k)) tt
risen-taken f k (suc n) rises = subst AreRisen (sym (taken-suc f k n)) (by (f k) refl (risen-taken f (k +ℤ pos 1) n rises)) where
  by : (o : Option ℤ) → f k ≡ o → AreRisen (filter_map f (numbers_from (k +ℤ pos 1) n)) → AreRisen (cons_option o (filter_map f (numbers_from (k +ℤ pos 1) n)))
  by None e rest = rest
  by (Some s) e rest = (above-taken f s (k +ℤ pos 1) n (λ j t le there. rises k j s t (omega (arith, ints, le)) e there), rest)

module _ {A : Type 0} (stamp : A → ℤ) (p : A → Bool) where
  above-kept : (s : ℤ) (xs : List A) → AreAbove stamp s xs → AreAbove stamp s (filter p xs)
  above-kept s [] above = tt
  above-kept s (x ∷ xs) above = by (p x) (above-kept s xs above.1) where
    by : (b : Bool) → AreAbove stamp s (filter p xs) → AreAbove stamp s (cond b (x ∷ filter p xs) (filter p xs))
    by true rest = (above.0, rest)
    by false rest = rest

  pub risen-kept : (xs : List A) → AreRisenBy stamp xs → AreRisenBy stamp (filter p xs)
  risen-kept [] risen = tt
  risen-kept (x ∷ xs) risen = by (p x) (risen-kept xs risen.1) where
    by : (b : Bool) → AreRisenBy stamp (filter p xs) → AreRisenBy stamp (cond b (x ∷ filter p xs) (filter p xs))
    by true rest = (above-kept (stamp x) xs risen.0, rest)
    by false rest = rest

-- the members of what is kept, and of what is given of numbers
pub one-kept : (p : ℤ → Bool) (s : ℤ) (ts : List ℤ) → IsOneOf s ts → p s ≡ true → IsOneOf s (filter p ts)
one-kept p s [] one pass = absurd one
one-kept p s (t ∷ ts) (inl same) pass = subst (λ b. IsOneOf s (cond b (t ∷ filter p ts) (filter p ts))) (sym (ap p same ∙ pass)) (inl same)
one-kept p s (t ∷ ts) (inr one) pass = by (p t) (one-kept p s ts one pass) where
  by : (b : Bool) → IsOneOf s (filter p ts) → IsOneOf s (cond b (t ∷ filter p ts) (filter p ts))
  by true rest = inr rest
  by false rest = rest

pub kept-one : (p : ℤ → Bool) (s : ℤ) (ts : List ℤ) → IsOneOf s (filter p ts) → IsOneOf s ts × (p s ≡ true)
kept-one p s [] one = absurd one
kept-one p s (t ∷ ts) one = by (p t) refl one (λ later. kept-one p s ts later) where
  by : (b : Bool) → p t ≡ b → IsOneOf s (cond b (t ∷ filter p ts) (filter p ts)) → (IsOneOf s (filter p ts) → IsOneOf s ts × (p s ≡ true)) → IsOneOf s (t ∷ ts) × (p s ≡ true)
  by true pass (inl same) rest = (inl same, sym (ap p same) ∙ pass)
  by true pass (inr later) rest = let w = rest later in (inr w.0, w.1)
  by false pass later rest = let w = rest later in (inr w.0, w.1)

pub one-taken : (f : ℤ → Option ℤ) (k : ℤ) (n i : ℕ) (s : ℤ) → i < n → f (k +ℤ pos i) ≡ Some s → IsOneOf s (filter_map f (numbers_from k n))
one-taken f k zero i s lt e = absurd (omega arith)
one-taken f k (suc n) zero s lt e =
    let here : k +ℤ pos 0 ≡ k = omega (arith, ints) in
    subst (IsOneOf s) (sym (taken-suc f k n ∙ ap (λ o. cons_option o (filter_map f (numbers_from (k +ℤ pos 1) n))) (sym (ap f here) ∙ e))) (inl refl)
one-taken f k (suc n) (suc i) s lt e =
    let on : k +ℤ pos 1 +ℤ pos i ≡ k +ℤ pos (suc i) = omega (arith, ints) in
    subst (IsOneOf s) (sym (taken-suc f k n)) (by (f k) (one-taken f (k +ℤ pos 1) n i s (omega (arith, lt)) (ap f on ∙ e)))
  where
    by : (o : Option ℤ) → IsOneOf s (filter_map f (numbers_from (k +ℤ pos 1) n)) → IsOneOf s (cons_option o (filter_map f (numbers_from (k +ℤ pos 1) n)))
    by None rest = rest
    by (Some t) rest = inr rest

pub taken-one : (f : ℤ → Option ℤ) (k : ℤ) (n : ℕ) (s : ℤ) → IsOneOf s (filter_map f (numbers_from k n)) → (i : ℕ) × (i < n) × (f (k +ℤ pos i) ≡ Some s)
taken-one f k zero s one = absurd (subst (IsOneOf s) (taken-zero f k) one)
taken-one f k (suc n) s one = by (f k) refl (subst (IsOneOf s) (taken-suc f k n) one) (λ later. taken-one f (k +ℤ pos 1) n s later) where
  onward : (i : ℕ) × (i < n) × (f (k +ℤ pos 1 +ℤ pos i) ≡ Some s) → (i : ℕ) × (i < suc n) × (f (k +ℤ pos i) ≡ Some s)
  onward w =
      let lt = w.1 in
      let on : k +ℤ pos (suc w.0) ≡ k +ℤ pos 1 +ℤ pos w.0 = omega (arith, ints) in
      (suc w.0, omega (arith, lt), ap f on ∙ w.2)

  by : (o : Option ℤ) → f k ≡ o → IsOneOf s (cons_option o (filter_map f (numbers_from (k +ℤ pos 1) n)))
      → (IsOneOf s (filter_map f (numbers_from (k +ℤ pos 1) n)) → (i : ℕ) × (i < n) × (f (k +ℤ pos 1 +ℤ pos i) ≡ Some s)) → (i : ℕ) × (i < suc n) × (f (k +ℤ pos i) ≡ Some s)
  by None e later rest = onward (rest later)
  by (Some t) e (inl same) rest = let here : k +ℤ pos 0 ≡ k = omega (arith, ints) in (zero, omega arith, ap f here ∙ e ∙ ap Some same)
  by (Some t) e (inr later) rest = onward (rest later)

-- on starts rise
pub starts-risen : (c : CalendarPlan) → IsLaid c → AreRisen (on_starts c)
unfolding on_starts
starts-risen c laid =
    risen-taken (on_start c) (neg_ℤ (pos reach)) near_count (λ i j s t lt x y. starts-rise c i j s t laid lt (on-start c i s x).1 (on-start c j t y).1)
