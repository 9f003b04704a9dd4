-- Phrases that a sign decides, and phrases that go on behind signs.
use Rattle.std.proofs.Common.{◌≡◌, ℕ, zero, suc, ◌<◌, ◌≤◌, List, [], ◌∷◌, length, Option, Some, None, Ok, Err, refl, sym, ◌∙◌, ap, arith}
use Rattle.ts_text.specs.Phrase.{Read, Phrase, go_on, ◌>>=◌, give, a_sign, made, parted_by, if_sign, Signs, by_sign, onward_most, onward, joined_by, sign_in}
use Rattle.ts_text.proofs.PhraseLemmas.{Shrinks}
use Rattle.ts_text.proofs.SignLemmas.{sign_shrinks}
use Rattle.ts_text.proofs.PartedLemmas.{bind-ok, pair-parts}

-- what is made of a phrase leaves as many bytes
pub made_shrinks : {A B : Type 0} (phrase : Phrase A) (make : A → B) → Shrinks phrase → Shrinks (made phrase make)
made_shrinks phrase make shrinks bytes found is =
    let first = bind-ok (phrase bytes) (λ a. give (make a)) found is in
    let same = pair-parts (make first.0.0) found.0 first.0.1 found.1 first.2 in
    let less = shrinks bytes first.0 first.1 in
    omega (arith, less, ap length same.1)

-- behind a sign, and where it doesn't stand
pub sign_there : {A : Type 0} (sign : ℕ) (behind other : Phrase A) (bytes rest : List ℕ) → a_sign sign bytes ≡ Ok (tt, rest) → if_sign sign behind other bytes ≡ behind rest
sign_there sign behind other bytes rest e = ap (λ (r : Read (Unit {0})). parted_by r behind other bytes) e

pub sign_absent : {A : Type 0} (sign : ℕ) (behind other : Phrase A) (bytes : List ℕ) (left : ℕ) → a_sign sign bytes ≡ Err left → if_sign sign behind other bytes ≡ other bytes
sign_absent sign behind other bytes left e = ap (λ (r : Read (Unit {0})). parted_by r behind other bytes) e

-- one phrase or the other leaves no more bytes than there were
pub if_sign_shrinks : {A : Type 0} (sign : ℕ) (behind other : Phrase A) → Shrinks behind → Shrinks other → Shrinks (if_sign sign behind other)
if_sign_shrinks {A} sign behind other one two bytes found is = by_read (a_sign sign bytes) refl where
  by_read : (read : Read (Unit {0})) → a_sign sign bytes ≡ read → length found.1 ≤ length bytes
  by_read (Ok y) e =
      let at = sym (sign_there sign behind other bytes y.1 e) ∙ is in
      let less = sign_shrinks sign bytes y e in
      let rest = one y.1 found at in
      omega (arith, less, rest)
  by_read (Err left) e = two bytes found (sym (sign_absent sign behind other bytes left e) ∙ is)

-- what stands in front decides

pub sign_in_shrinks : {M : Type 0} (signs : Signs M) (bytes : List ℕ) (x : M × List ℕ) → sign_in signs bytes ≡ Some x → length x.1 < length bytes
sign_in_shrinks [] bytes x is = absurd (cc)
sign_in_shrinks {M} (s ∷ signs) bytes x is = by_read (λ e. sign_in_shrinks signs bytes x e) (a_sign s.0 bytes) refl where
  by_read : (sign_in signs bytes ≡ Some x → length x.1 < length bytes) → (read : Read (Unit {0})) → a_sign s.0 bytes ≡ read → length x.1 < length bytes
  by_read others (Ok y) e =
      let at : Some (s.1, y.1) ≡ Some x = rw e at is in
      let pair : M × List ℕ = (s.1, y.1) in
      let same : pair ≡ x = cc in
      let rest : y.1 ≡ x.1 = ap (λ (p : M × List ℕ). p.1) same in
      let less = sign_shrinks s.0 bytes y e in
      rw (← rest) less
  by_read others (Err left) e = others (rw e at is)

pub by_sign_some : {M A : Type 0} (signs : Signs M) (behind : M → Phrase A) (other : Phrase A) (bytes : List ℕ) (x : M × List ℕ) → sign_in signs bytes ≡ Some x →
    by_sign signs behind other bytes ≡ behind x.0 x.1
by_sign_some [] behind other bytes x is = absurd (cc)
by_sign_some {M} {A} (s ∷ signs) behind other bytes x is = by_read (λ e. by_sign_some signs behind other bytes x e) (a_sign s.0 bytes) refl where
  by_read : (sign_in signs bytes ≡ Some x → by_sign signs behind other bytes ≡ behind x.0 x.1) → (read : Read (Unit {0})) → a_sign s.0 bytes ≡ read →
      by_sign (s ∷ signs) behind other bytes ≡ behind x.0 x.1
  by_read others (Ok y) e =
      let at : Some (s.1, y.1) ≡ Some x = rw e at is in
      let pair : M × List ℕ = (s.1, y.1) in
      let same : pair ≡ x = cc in
      ap (λ (r : Read (Unit {0})). parted_by r (behind s.1) (by_sign signs behind other) bytes) e ∙ ap (λ (p : M × List ℕ). behind p.0 p.1) same
  by_read others (Err left) e = ap (λ (r : Read (Unit {0})). parted_by r (behind s.1) (by_sign signs behind other) bytes) e ∙ others (rw e at is)

pub by_sign_none : {M A : Type 0} (signs : Signs M) (behind : M → Phrase A) (other : Phrase A) (bytes : List ℕ) → sign_in signs bytes ≡ None →
    by_sign signs behind other bytes ≡ other bytes
by_sign_none [] behind other bytes is = refl
by_sign_none {M} {A} (s ∷ signs) behind other bytes is = by_read (λ e. by_sign_none signs behind other bytes e) (a_sign s.0 bytes) refl where
  by_read : (sign_in signs bytes ≡ None → by_sign signs behind other bytes ≡ other bytes) → (read : Read (Unit {0})) → a_sign s.0 bytes ≡ read →
      by_sign (s ∷ signs) behind other bytes ≡ other bytes
  by_read others (Ok y) e = absurd (let at : Some (s.1, y.1) ≡ None = rw e at is in cc)
  by_read others (Err left) e = ap (λ (r : Read (Unit {0})). parted_by r (behind s.1) (by_sign signs behind other) bytes) e ∙ others (rw e at is)

-- nothing stands there
sign_in_empty : {M : Type 0} (signs : Signs M) (bytes : List ℕ) → length bytes ≡ 0 → sign_in signs bytes ≡ None
sign_in_empty {M} signs bytes none = by_found (sign_in signs bytes) refl where
  by_found : (found : Option (M × List ℕ)) → sign_in signs bytes ≡ found → sign_in signs bytes ≡ None
  by_found None e = e
  by_found (Some x) e = absurd (let less = sign_in_shrinks signs bytes x e in omega (arith, less, none))

-- what stands behind a sign
abbrev pub one_more : {M A : Type 0} → (M → A → A → A) → Signs M → Phrase A → ℕ → A → M → Phrase A
one_more join signs phrase n before meaning = phrase >>= (λ next. onward_most join signs phrase n (join meaning before next))

-- as many as stand there are no more than the bytes
pub onward_enough : {M A : Type 0} (join : M → A → A → A) (signs : Signs M) (phrase : Phrase A) → Shrinks phrase → (m n : ℕ) (before : A) (bytes : List ℕ) → length bytes ≤ m → length bytes ≤ n →
    onward_most join signs phrase m before bytes ≡ onward_most join signs phrase n before bytes
onward_enough join signs phrase shrinks zero zero before bytes le1 le2 = refl
onward_enough join signs phrase shrinks zero (suc n) before bytes le1 le2 =
    sym (by_sign_none signs (one_more join signs phrase n before) (give before) bytes (sign_in_empty signs bytes (omega arith)))
onward_enough join signs phrase shrinks (suc m) zero before bytes le1 le2 =
    by_sign_none signs (one_more join signs phrase m before) (give before) bytes (sign_in_empty signs bytes (omega arith))
onward_enough {M} {A} join signs phrase shrinks (suc m) (suc n) before bytes le1 le2 =
    by_found (λ from at. onward_enough join signs phrase shrinks m n from at) (sign_in signs bytes) refl where
      by_first : ((from : A) (at : List ℕ) → length at ≤ m → length at ≤ n → onward_most join signs phrase m from at ≡ onward_most join signs phrase n from at) →
          (meaning : M) (behind : List ℕ) → length behind < length bytes → (read : Read A) → phrase behind ≡ read →
          one_more join signs phrase m before meaning behind ≡ one_more join signs phrase n before meaning behind
      by_first enough meaning behind less (Err left) e = rw e refl
      by_first enough meaning behind less (Ok y) e =
          let fewer = shrinks behind y e in
          let same = enough (join meaning before y.0) y.1 (omega arith) (omega arith) in
          rw e same

      by_found : ((from : A) (at : List ℕ) → length at ≤ m → length at ≤ n → onward_most join signs phrase m from at ≡ onward_most join signs phrase n from at) →
          (found : Option (M × List ℕ)) → sign_in signs bytes ≡ found → onward_most join signs phrase (suc m) before bytes ≡ onward_most join signs phrase (suc n) before bytes
      by_found enough None e = by_sign_none signs (one_more join signs phrase m before) (give before) bytes e ∙ sym (by_sign_none signs (one_more join signs phrase n before) (give before) bytes e)
      by_found enough (Some x) e =
          by_sign_some signs (one_more join signs phrase m before) (give before) bytes x e
          ∙ by_first enough x.0 x.1 (sign_in_shrinks signs bytes x e) (phrase x.1) refl
          ∙ sym (by_sign_some signs (one_more join signs phrase n before) (give before) bytes x e)

-- no sign
pub onward_none : {M A : Type 0} (join : M → A → A → A) (signs : Signs M) (phrase : Phrase A) (before : A) (bytes : List ℕ) → sign_in signs bytes ≡ None →
    onward join signs phrase before bytes ≡ Ok (before, bytes)
unfolding onward
onward_none join signs phrase before bytes none = by_size (length bytes) where
  by_size : (n : ℕ) → onward_most join signs phrase n before bytes ≡ Ok (before, bytes)
  by_size zero = refl
  by_size (suc n) = by_sign_none signs (one_more join signs phrase n before) (give before) bytes none

-- a sign, a phrase, and so on
pub onward_some : {M A : Type 0} (join : M → A → A → A) (signs : Signs M) (phrase : Phrase A) → Shrinks phrase → (before : A) (bytes : List ℕ) (x : M × List ℕ) → sign_in signs bytes ≡ Some x →
    onward join signs phrase before bytes ≡ go_on (phrase x.1) (λ next. onward join signs phrase (join x.0 before next))
unfolding onward
onward_some {M} {A} join signs phrase shrinks before bytes x is = by_size (length bytes) refl where
  less : length x.1 < length bytes
  less = sign_in_shrinks signs bytes x is

  by_first : (n : ℕ) → length x.1 ≤ n → (read : Read A) → phrase x.1 ≡ read →
      one_more join signs phrase n before x.0 x.1 ≡ go_on (phrase x.1) (λ next. onward join signs phrase (join x.0 before next))
  by_first n le (Err left) e = rw e refl
  by_first n le (Ok y) e =
      let fewer = shrinks x.1 y e in
      let same = onward_enough join signs phrase shrinks n (length y.1) (join x.0 before y.0) y.1 (omega arith) (omega arith) in
      rw e same

  by_size : (n : ℕ) → length bytes ≡ n → onward_most join signs phrase n before bytes ≡ go_on (phrase x.1) (λ next. onward join signs phrase (join x.0 before next))
  by_size zero size = absurd (omega (arith, less))
  by_size (suc n) size = by_sign_some signs (one_more join signs phrase n before) (give before) bytes x is ∙ by_first n (omega (arith, less)) (phrase x.1) refl

-- what goes on leaves no more bytes than there were
most_shrinks : {M A : Type 0} (join : M → A → A → A) (signs : Signs M) (phrase : Phrase A) → Shrinks phrase → (n : ℕ) (before : A) (bytes : List ℕ) (found : A × List ℕ) →
    onward_most join signs phrase n before bytes ≡ Ok found → length found.1 ≤ length bytes
most_shrinks {M} {A} join signs phrase shrinks zero before bytes found is =
    let same = pair-parts {A = A} {B = List ℕ} before found.0 bytes found.1 is in
    omega (arith, ap length same.1)
most_shrinks {M} {A} join signs phrase shrinks (suc n) before bytes found is = by_found (λ from at e. most_shrinks join signs phrase shrinks n from at found e) (sign_in signs bytes) refl where
  by_first : ((from : A) (at : List ℕ) → onward_most join signs phrase n from at ≡ Ok found → length found.1 ≤ length at) → (x : M × List ℕ) → length x.1 < length bytes →
      (read : Read A) → phrase x.1 ≡ read → go_on read (λ next. onward_most join signs phrase n (join x.0 before next)) ≡ Ok found → length found.1 ≤ length bytes
  by_first fewer x less (Err left) e at = absurd (cc)
  by_first fewer x less (Ok y) e at =
      let first = shrinks x.1 y e in
      let others = fewer (join x.0 before y.0) y.1 at in
      omega (arith, first, others, less)

  by_found : ((from : A) (at : List ℕ) → onward_most join signs phrase n from at ≡ Ok found → length found.1 ≤ length at) → (read : Option (M × List ℕ)) → sign_in signs bytes ≡ read →
      length found.1 ≤ length bytes
  by_found fewer None e =
      let at = sym (by_sign_none signs (one_more join signs phrase n before) (give before) bytes e) ∙ is in
      let same = pair-parts {A = A} {B = List ℕ} before found.0 bytes found.1 at in
      omega (arith, ap length same.1)
  by_found fewer (Some x) e =
      by_first fewer x (sign_in_shrinks signs bytes x e) (phrase x.1) refl
      (sym (by_sign_some signs (one_more join signs phrase n before) (give before) bytes x e) ∙ is)

pub joined_shrinks : {M A : Type 0} (join : M → A → A → A) (signs : Signs M) (phrase : Phrase A) → Shrinks phrase → Shrinks (joined_by join signs phrase)
unfolding onward
joined_shrinks {M} {A} join signs phrase shrinks bytes found is = by_first (phrase bytes) refl is where
  by_first : (read : Read A) → phrase bytes ≡ read → go_on read (λ first. onward join signs phrase first) ≡ Ok found → length found.1 ≤ length bytes
  by_first (Err left) e at = absurd (cc)
  by_first (Ok y) e at =
      let first = shrinks bytes y e in
      let others = most_shrinks join signs phrase shrinks (length y.1) y.0 y.1 found at in
      omega (arith, first, others)
