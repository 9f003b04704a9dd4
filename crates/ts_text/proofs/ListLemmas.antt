-- Lists of phrases: as many as commas stand there.
use Rattle.std.proofs.Common.{◌≡◌, ℕ, zero, suc, ◌+◌, ◌<◌, ◌≤◌, ◌==◌, false, List, [], ◌∷◌, ◌++◌, length, Ok, Err, refl, sym, ◌∙◌, ap, subst, arith, append_assoc, inl, inr}
use Rattle.std.proofs.lemmas.List.{append-nil}
use Rattle.std.specs.List.{AllByRecursion}
use Rattle.ts_text.specs.Phrase.{unblanked, Front, Read, Phrase, go_on, ◌>>=◌, give, a_sign, behind, phrases, repeated, closed, onto}
use Rattle.ts_text.proofs.FrontLemmas.{IsFront, IsSign}
use Rattle.ts_text.specs.Misfit.{Refuses, RefusesExactly}
use Rattle.ts_text.specs.declared.misfit.Misfit.{Misfit}
use Rattle.ts_text.specs.declared.misfit.Misfit.TheVariants.{At, Memory}
use Rattle.ts_text.proofs.SpellingLemmas.{Stops, Takes, takes_on}
use Rattle.ts_text.proofs.FollowLemmas.{Alike, Follows, tokens_taking, stops_on}
use Rattle.ts_text.proofs.PhraseLemmas.{Shrinks, Goes, Yields, Nowhere, shrinks_of, passes, leads, chain, given, Any, yields_same}
use Rattle.ts_text.proofs.SignLemmas.{sign_is, sign_left, sign_other, sign_shrinks, no_sign, sign_yields}

-- Shrinking phrases are as many as commas, whatever number is allowed beyond the bytes.
pub phrases_enough : {A : Type 0} (phrase : Phrase A) → Shrinks phrase → (m n : ℕ) (bytes : List ℕ) → length bytes ≤ m → length bytes ≤ n → phrases phrase m bytes ≡ phrases phrase n bytes
phrases_enough phrase shrinks zero zero bytes le1 le2 = refl
phrases_enough phrase shrinks zero (suc n) bytes le1 le2 = let none = no_sign 44 bytes (omega arith) in rw none.1 refl
phrases_enough phrase shrinks (suc m) zero bytes le1 le2 = let none = no_sign 44 bytes (omega arith) in rw none.1 refl
phrases_enough {A} phrase shrinks (suc m) (suc n) bytes le1 le2 = by_sign (λ at. phrases_enough phrase shrinks m n at) (a_sign 44 bytes) refl where
  by_first : ((at : List ℕ) → length at ≤ m → length at ≤ n → phrases phrase m at ≡ phrases phrase n at) → (next : List ℕ) → length next < length bytes → (read : Read A) → phrase next ≡ read →
      go_on (phrase next) (λ first. phrases phrase m >>= (λ others. give (first ∷ others))) ≡ go_on (phrase next) (λ first. phrases phrase n >>= (λ others. give (first ∷ others)))
  by_first enough next less (Err left) e = rw e refl
  by_first enough next less (Ok x) e =
      let fewer = shrinks next x e in
      let same = enough x.1 (omega arith) (omega arith) in
      rw (e, same) refl

  by_sign : ((at : List ℕ) → length at ≤ m → length at ≤ n → phrases phrase m at ≡ phrases phrase n at) → (read : Read (Unit {0})) → a_sign 44 bytes ≡ read → phrases phrase (suc m) bytes ≡ phrases phrase (suc n) bytes
  by_sign enough (Err left) e = rw e refl
  by_sign enough (Ok comma) e = rw e (by_first enough comma.1 (sign_shrinks 44 bytes comma e) (phrase comma.1) refl)

-- no comma
pub repeated_none : {A : Type 0} (phrase : Phrase A) (bytes : List ℕ) (left : ℕ) → a_sign 44 bytes ≡ Err left → repeated phrase bytes ≡ Ok ([], bytes)
unfolding repeated
repeated_none phrase bytes left none = by_size (length bytes) where
  by_size : (n : ℕ) → phrases phrase n bytes ≡ Ok ([], bytes)
  by_size zero = refl
  by_size (suc n) = rw none refl

-- a comma, a phrase, and the others
pub repeated_more : {A : Type 0} (phrase : Phrase A) → Shrinks phrase → (bytes behind : List ℕ) → a_sign 44 bytes ≡ Ok (tt, behind) →
    repeated phrase bytes ≡ go_on (phrase behind) (λ first. repeated phrase >>= (λ others. give (first ∷ others)))
unfolding repeated
repeated_more {A} phrase shrinks bytes behind comma = by_size (length bytes) refl where
  less : length behind < length bytes
  less = sign_shrinks 44 bytes (tt, behind) comma

  by_first : (n : ℕ) → length behind ≤ n → (read : Read A) → phrase behind ≡ read →
      go_on (phrase behind) (λ first. phrases phrase n >>= (λ others. give (first ∷ others))) ≡ go_on (phrase behind) (λ first. repeated phrase >>= (λ others. give (first ∷ others)))
  by_first n le (Err left) e = rw e refl
  by_first n le (Ok x) e =
      let fewer = shrinks behind x e in
      let same = phrases_enough phrase shrinks n (length x.1) x.1 (omega arith) (omega arith) in
      rw (e, same) refl

  by_size : (n : ℕ) → length bytes ≡ n → phrases phrase n bytes ≡ go_on (phrase behind) (λ first. repeated phrase >>= (λ others. give (first ∷ others)))
  by_size zero size = absurd (omega (arith, less))
  by_size (suc n) size = rw comma (by_first n (omega (arith, less)) (phrase behind) refl)

-- A list goes on: a comma and a phrase stand there.
pub onto_more : {A : Type 0} (phrase : Phrase A) → Shrinks phrase → (before : List A) (bytes behind more : List ℕ) (found : A) → a_sign 44 bytes ≡ Ok (tt, behind) → phrase behind ≡ Ok (found, more) →
    onto before (repeated phrase bytes) ≡ onto (before ++ found ∷ []) (repeated phrase more)
onto_more {A} phrase shrinks before bytes behind more found comma one =
    ap (onto before) (repeated_more phrase shrinks bytes behind comma ∙ rw one refl) ∙ by_others (repeated phrase more) where
      by_others : (others : Read (List A)) → onto before (go_on others (λ rest. give (found ∷ rest))) ≡ onto (before ++ found ∷ []) others
      by_others (Err left) = refl
      by_others (Ok x) = ap (λ (l : List A). Ok (l, x.1)) (sym (append_assoc before (found ∷ []) x.0))

-- it ends where no comma stands
pub onto_end : {A : Type 0} (phrase : Phrase A) (before : List A) (bytes : List ℕ) (left : ℕ) → a_sign 44 bytes ≡ Err left → onto before (repeated phrase bytes) ≡ Ok (before, bytes)
onto_end {A} phrase before bytes left none = ap (onto before) (repeated_none phrase bytes left none) ∙ ap (λ (l : List A). Ok (l, bytes)) (append-nil before)

refused : {A B : Type 0} (misfit : Misfit) (read : Read A) (whole : Read B) → ((left : ℕ) → read ≡ Err left → whole ≡ Err left) → Refuses misfit read → Refuses misfit whole
refused (At left) read whole goes is = goes left is
refused (Memory error) read whole goes is = tt

-- where nothing takes memory, a misfit comes of what was read
pub exactly_refused : {A : Type 0} (misfit : Misfit) (read : Read A) → RefusesExactly misfit read → Refuses misfit read
exactly_refused (At left) read is = is
exactly_refused (Memory error) read is = tt

onto_refused : {A : Type 0} (before : List A) (read : Read (List A)) (left : ℕ) → onto before read ≡ Err left → read ≡ Err left
onto_refused before (Ok x) left is = absurd (cc)
onto_refused before (Err found) left is = let same : found ≡ left = cc in ap Err same

-- A misfit in a list: the phrase behind the comma is refused.
pub list_refused : {A : Type 0} (phrase : Phrase A) → Shrinks phrase → (before first : List A) (start bytes behind : List ℕ) (misfit : Misfit) → onto before (repeated phrase bytes) ≡ onto first (repeated phrase start) → a_sign 44 bytes ≡ Ok (tt, behind) → Refuses misfit (phrase behind) → Refuses misfit (repeated phrase start)
list_refused {A} phrase shrinks before first start bytes behind misfit so_far comma is = refused misfit (phrase behind) (repeated phrase start) goes is where
  goes : (left : ℕ) → phrase behind ≡ Err left → repeated phrase start ≡ Err left
  goes left e =
      let err : repeated phrase bytes ≡ Err left = repeated_more phrase shrinks bytes behind comma ∙ rw e refl in
      onto_refused first (repeated phrase start) left (sym so_far ∙ ap (onto before) err)

-- a list behind nothing
pub onto_nothing : {A : Type 0} (read : Read (List A)) (found : List A × List ℕ) → onto [] read ≡ Ok found → read ≡ Ok found
onto_nothing (Ok x) found is = is
onto_nothing (Err left) found is = absurd (cc)

-- at most so many phrases, and the sign that closes them
abbrev closed_few : {A : Type 0} → ℕ → Phrase A → ℕ → Phrase (List A)
closed_few close phrase n = phrases phrase n >>= (λ found. a_sign close >>= (λ end. give found))

-- without a comma, the sign
closed_none : {A : Type 0} (close : ℕ) (phrase : Phrase A) (n : ℕ) (bytes : List ℕ) (left : ℕ) → a_sign 44 bytes ≡ Err left →
    closed_few close phrase n bytes ≡ (a_sign close >>= (λ end. give [])) bytes
closed_none close phrase zero bytes left e = refl
closed_none close phrase (suc n) bytes left e = rw e refl

-- the first phrase and the others
abbrev inner : {A : Type 0} → ℕ → Phrase A → ℕ → Phrase (List A)
inner close phrase n = phrase >>= (λ first. closed_few close phrase n >>= (λ others. give (first ∷ others)))

closed_more : {A : Type 0} (close : ℕ) (phrase : Phrase A) (n : ℕ) (bytes : List ℕ) (comma : Unit {0} × List ℕ) → a_sign 44 bytes ≡ Ok comma →
    closed_few close phrase (suc n) bytes ≡ inner close phrase n comma.1
closed_more {A} close phrase n bytes comma e = rw e (by_phrase (phrase comma.1)) where
  by_close : (first : A) (others : List A) (end : Read (Unit {0})) → go_on end (λ end. give (first ∷ others)) ≡ go_on (go_on end (λ end. give others)) (λ others. give (first ∷ others))
  by_close first others (Ok x) = refl
  by_close first others (Err left) = refl

  by_others : (first : A) (others : Read (List A)) →
      go_on (go_on others (λ others. give (first ∷ others))) (λ found. a_sign close >>= (λ end. give found)) ≡ go_on (go_on others (λ found. a_sign close >>= (λ end. give found))) (λ others. give (first ∷ others))
  by_others first (Ok x) = by_close first x.0 (a_sign close x.1)
  by_others first (Err left) = refl

  by_phrase : (read : Read A) →
      go_on (go_on read (λ first. phrases phrase n >>= (λ others. give (first ∷ others)))) (λ found. a_sign close >>= (λ end. give found)) ≡ go_on read (λ first. closed_few close phrase n >>= (λ others. give (first ∷ others)))
  by_phrase (Ok x) = by_others x.0 (phrases phrase n x.1)
  by_phrase (Err left) = refl

-- where the closing sign stands, no comma does
end_no_comma : {A : Type 0} (close : ℕ) → (close == 44) ≡ false → (bytes : List ℕ) (found : List A × List ℕ) → (a_sign close >>= (λ end. give [])) bytes ≡ Ok found → (left : ℕ) × (a_sign 44 bytes ≡ Err left)
end_no_comma {A} close differs bytes found is = by_close (a_sign close bytes) refl is where
  by_close : (read : Read (Unit {0})) → a_sign close bytes ≡ read → go_on read (λ end. give []) ≡ Ok found → (left : ℕ) × (a_sign 44 bytes ≡ Err left)
  by_close (Err left) e at = absurd (cc)
  by_close (Ok x) e at = (length (unblanked bytes), sign_other 44 close bytes x.1 differs (sign_is close bytes x.1 e))

-- What is read of some is read of more.
closed_ok : {A : Type 0} (close : ℕ) → (close == 44) ≡ false → (phrase : Phrase A) (n m : ℕ) → n ≤ m → (bytes : List ℕ) (found : List A × List ℕ) → closed_few close phrase n bytes ≡ Ok found → closed_few close phrase m bytes ≡ Ok found
closed_ok close differs phrase zero m le bytes found is =
    let none = end_no_comma close differs bytes found is in
    closed_none close phrase m bytes none.0 none.1 ∙ is
closed_ok close differs phrase (suc n) zero le bytes found is = absurd (omega arith)
closed_ok {A} close differs phrase (suc n) (suc m) le bytes found is = by_sign (λ at got e. closed_ok close differs phrase n m (omega arith) at got e) (a_sign 44 bytes) refl where
  by_others : ((at : List ℕ) (got : List A × List ℕ) → closed_few close phrase n at ≡ Ok got → closed_few close phrase m at ≡ Ok got) → (x : A × List ℕ) (others : Read (List A)) → closed_few close phrase n x.1 ≡ others →
      go_on (closed_few close phrase n x.1) (λ others. give (x.0 ∷ others)) ≡ Ok found → go_on (closed_few close phrase m x.1) (λ others. give (x.0 ∷ others)) ≡ Ok found
  by_others more x (Err left) e at = absurd (let no = rw e at at in cc)
  by_others more x (Ok y) e at = ap (λ (r : Read (List A)). go_on r (λ others. give (x.0 ∷ others))) (more x.1 y e ∙ sym e) ∙ at

  by_first : ((at : List ℕ) (got : List A × List ℕ) → closed_few close phrase n at ≡ Ok got → closed_few close phrase m at ≡ Ok got) → (next : List ℕ) (read : Read A) → phrase next ≡ read → inner close phrase n next ≡ Ok found → inner close phrase m next ≡ Ok found
  by_first more next (Err left) e at = absurd (let no = rw e at at in cc)
  by_first more next (Ok x) e at =
      ap (λ (r : Read A). go_on r (λ first. closed_few close phrase m >>= (λ others. give (first ∷ others)))) e
      ∙ by_others more x (closed_few close phrase n x.1) refl (sym (ap (λ (r : Read A). go_on r (λ first. closed_few close phrase n >>= (λ others. give (first ∷ others)))) e) ∙ at)

  by_sign : ((at : List ℕ) (got : List A × List ℕ) → closed_few close phrase n at ≡ Ok got → closed_few close phrase m at ≡ Ok got) → (read : Read (Unit {0})) → a_sign 44 bytes ≡ read → closed_few close phrase (suc m) bytes ≡ Ok found
  by_sign more (Err left) e = closed_none close phrase (suc m) bytes left e ∙ sym (closed_none close phrase (suc n) bytes left e) ∙ is
  by_sign more (Ok comma) e = closed_more close phrase m bytes comma e ∙ by_first more comma.1 (phrase comma.1) refl (sym (closed_more close phrase n bytes comma e) ∙ is)

-- the sign that closes
end_yields : {A : Type 0} (front : Front) → IsFront front → (P : A → Type 0) (close : ℕ) → IsSign front close → Yields front (AllByRecursion P) (a_sign close >>= (λ end. give []))
end_yields {A} front laws P close sign = chain front laws Any (AllByRecursion P) (a_sign close) (λ end. give []) (sign_yields front laws close sign) (λ end any. given front (AllByRecursion P) [] tt)

-- the sign that closes, or the comma and the rest of the list
list_yields : {A : Type 0} (front : Front) → IsFront front → (P : A → Type 0) (close : ℕ) → IsSign front 44 → IsSign front close → (close == 44) ≡ false → (phrase : Phrase A) → Yields front P phrase → (n : ℕ) → Yields front (AllByRecursion P) (closed_few close phrase n)
list_yields {A} front laws P close comma sign differs phrase one zero = yields_same front (AllByRecursion P) (a_sign close >>= (λ end. give [])) (closed_few close phrase zero) (λ bytes. refl) (end_yields front laws P close sign)
list_yields {A} front laws P close comma sign differs phrase one (suc n) = go (list_yields front laws P close comma sign differs phrase one n) where
  End : Phrase (List A)
  End = a_sign close >>= (λ end. give [])

  ends : Yields front (AllByRecursion P) End
  ends = end_yields front laws P close sign

  commas : Yields front Any (a_sign 44)
  commas = sign_yields front laws 44 comma

  no_comma : (bytes : List ℕ) (found : List A × List ℕ) → End bytes ≡ Ok found → (left : ℕ) × (a_sign 44 bytes ≡ Err left)
  no_comma bytes found is = end_no_comma close differs bytes found is

  End_left : (bytes : List ℕ) (left : ℕ) → End bytes ≡ Err left → left ≡ length (unblanked bytes)
  End_left bytes left is = by_close (a_sign close bytes) refl is where
    by_close : (read : Read (Unit {0})) → a_sign close bytes ≡ read → go_on {A = Unit {0}} {B = List A} read (λ end. give []) ≡ Err left → left ≡ length (unblanked bytes)
    by_close (Err other) e at = let same : other ≡ left = cc in sign_left close bytes left (e ∙ ap Err same)
    by_close (Ok x) e at = absurd (cc)

  whole : Phrase (List A)
  whole = closed_few close phrase (suc n)

  go : Yields front (AllByRecursion P) (closed_few close phrase n) → Yields front (AllByRecursion P) whole
  go more = record {
    ok = λ bytes found is. ok_sign bytes found (a_sign 44 bytes) refl is;
    err = λ bytes left is. err_sign bytes left (a_sign 44 bytes) refl is;
    fails = λ before here there is free alike. fails_sign before here there free alike (a_sign 44 (before ++ here)) refl is;
    keeps = λ used rest other found is follows. keeps_sign used rest other found follows (a_sign 44 (used ++ rest)) refl is;
    goes = λ before here is. goes_sign before here (a_sign 44 (before ++ here)) refl is;
    some = some_is;
  } where
    list : Yields front (AllByRecursion P) (inner close phrase n)
    list = chain front laws P (AllByRecursion P) phrase (λ first. closed_few close phrase n >>= (λ others. give (first ∷ others))) one
        (λ first f. chain front laws (AllByRecursion P) (AllByRecursion P) (closed_few close phrase n) (λ others. give (first ∷ others)) more (λ others o. given front (AllByRecursion P) (first ∷ others) (f, o)))

    ok_sign : (bytes : List ℕ) (found : List A × List ℕ) (read : Read (Unit {0})) → a_sign 44 bytes ≡ read → whole bytes ≡ Ok found → AllByRecursion P found.0 × Takes front bytes found.1
    ok_sign bytes found (Err left) e is = ends.ok bytes found (sym (closed_none close phrase (suc n) bytes left e) ∙ is)
    ok_sign bytes found (Ok comma) e is =
        let after = list.ok comma.1 found (sym (closed_more close phrase n bytes comma e) ∙ is) in
        (after.0, takes_on front bytes comma.1 found.1 (commas.ok bytes comma e).1 after.1)

    err_sign : (bytes : List ℕ) (left : ℕ) (read : Read (Unit {0})) → a_sign 44 bytes ≡ read → whole bytes ≡ Err left → Stops (Takes front) bytes left
    err_sign bytes left (Err before) e is = ends.err bytes left (sym (closed_none close phrase (suc n) bytes before e) ∙ is)
    err_sign bytes left (Ok comma) e is = stops_on front (Takes front) (tokens_taking front laws) bytes comma.1 left (commas.ok bytes comma e).1 (list.err comma.1 left (sym (closed_more close phrase n bytes comma e) ∙ is))

    fails_sign : (before here there : List ℕ) → (Nowhere before → ⊥) → Alike front here there → (read : Read (Unit {0})) → a_sign 44 (before ++ here) ≡ read → whole (before ++ here) ≡ Err (length here) → whole (before ++ there) ≡ Err (length there)
    fails_sign before here there free alike (Err left) e is =
        let at : End (before ++ here) ≡ Err (length here) = sym (closed_none close phrase (suc n) (before ++ here) left e) ∙ is in
        let size : left ≡ length here = sign_left 44 (before ++ here) left e ∙ sym (End_left (before ++ here) (length here) at) in
        let none : a_sign 44 (before ++ there) ≡ Err (length there) = commas.fails before here there (e ∙ ap Err size) free alike in
        closed_none close phrase (suc n) (before ++ there) (length there) none ∙ ends.fails before here there at free alike
    fails_sign before here there free alike (Ok comma) e is =
        let at : inner close phrase n comma.1 ≡ Err (length here) = sym (closed_more close phrase n (before ++ here) comma e) ∙ is in
        let way = passes front (Takes front) (tokens_taking front laws) Nowhere Any (a_sign 44) commas before here comma e (list.err comma.1 (length here) at) in
        let again = list.fails way.middle here there (ap (inner close phrase n) (sym way.rest) ∙ at) (λ none. none) alike in
        closed_more close phrase n (before ++ there) (comma.0, way.middle ++ there) (way.goes there (inl alike)) ∙ again

    keeps_sign : (used rest other : List ℕ) (found : List A) → Follows front rest other → (read : Read (Unit {0})) → a_sign 44 (used ++ rest) ≡ read → whole (used ++ rest) ≡ Ok (found, rest) → whole (used ++ other) ≡ Ok (found, other)
    keeps_sign used rest other found follows (Err left) e is =
        let again = ends.keeps used rest other found (sym (closed_none close phrase (suc n) (used ++ rest) left e) ∙ is) follows in
        let none = no_comma (used ++ other) (found, other) again in
        closed_none close phrase (suc n) (used ++ other) none.0 none.1 ∙ again
    keeps_sign used rest other found follows (Ok comma) e is =
        let at : inner close phrase n comma.1 ≡ Ok (found, rest) = sym (closed_more close phrase n (used ++ rest) comma e) ∙ is in
        let way = leads front (Takes front) (tokens_taking front laws) Nowhere Any (a_sign 44) commas used rest comma e (list.ok comma.1 (found, rest) at).1 in
        let again = list.keeps way.middle rest other found (ap (inner close phrase n) (sym way.split) ∙ at) follows in
        closed_more close phrase n (used ++ other) (comma.0, way.middle ++ other) (way.goes other follows) ∙ again

    by_end : (before : List ℕ) → Goes (AllByRecursion P) End before → Goes (AllByRecursion P) whole before
    by_end before goes = record {
      more = goes.more;
      found = goes.found;
      holds = goes.holds;
      starts = goes.starts;
      reads = λ other.
          let reads = goes.reads other in
          let none = no_comma (before ++ (goes.more ++ 32 ∷ other)) (goes.found, 32 ∷ other) reads in
          closed_none close phrase (suc n) (before ++ (goes.more ++ 32 ∷ other)) none.0 none.1 ∙ reads;
    }

    some_is : Goes (AllByRecursion P) whole []
    some_is = by_end [] ends.some

    goes_sign : (before here : List ℕ) (read : Read (Unit {0})) → a_sign 44 (before ++ here) ≡ read → whole (before ++ here) ≡ Err (length here) → Goes (AllByRecursion P) whole before
    goes_sign before here (Err left) e is = by_end before (ends.goes before here (sym (closed_none close phrase (suc n) (before ++ here) left e) ∙ is))
    goes_sign before here (Ok comma) e is =
        let at : inner close phrase n comma.1 ≡ Err (length here) = sym (closed_more close phrase n (before ++ here) comma e) ∙ is in
        let way = passes front (Takes front) (tokens_taking front laws) Nowhere Any (a_sign 44) commas before here comma e (list.err comma.1 (length here) at) in
        let goes = list.goes way.middle here (ap (inner close phrase n) (sym way.rest) ∙ at) in
        record {
          more = goes.more;
          found = goes.found;
          holds = goes.holds;
          starts = goes.starts;
          reads = λ other.
              let tail = goes.starts other in
              let there : List ℕ = goes.more ++ 32 ∷ other in
              closed_more close phrase n (before ++ there) (comma.0, way.middle ++ there) (way.goes there (inr (record { first = 32; more = tail.0; split = tail.1; blank = refl }))) ∙ goes.reads other;
        }

-- as many phrases as commas stand there, and the sign that closes them
pub closed_yields : {A : Type 0} (front : Front) → IsFront front → (P : A → Type 0) (close : ℕ) → IsSign front 44 → IsSign front close → (close == 44) ≡ false → (phrase : Phrase A) → Yields front P phrase → Yields front (AllByRecursion P) (closed close phrase)
unfolding repeated
closed_yields {A} front laws P close comma sign differs phrase one = record {
  ok = λ bytes found is. (few (length bytes)).ok bytes found is;
  err = λ bytes left is. (few (length bytes)).err bytes left is;
  fails = λ before here there is free alike.
      let n : ℕ = length (before ++ here) + length (before ++ there) in
      enough (before ++ there) n (omega arith) ∙ (few n).fails before here there (sym (enough (before ++ here) n (omega arith)) ∙ is) free alike;
  keeps = λ used rest other found is follows.
      let n : ℕ = length (used ++ rest) + length (used ++ other) in
      enough (used ++ other) n (omega arith) ∙ (few n).keeps used rest other found (sym (enough (used ++ rest) n (omega arith)) ∙ is) follows;
  goes = λ before here is. by_few before (length (before ++ here)) ((few (length (before ++ here))).goes before here is);
  some = by_few [] 0 (few 0).some;
} where
  enough : (bytes : List ℕ) (n : ℕ) → length bytes ≤ n → closed close phrase bytes ≡ closed_few close phrase n bytes
  enough bytes n le = ap (λ (r : Read (List A)). go_on r (λ found. a_sign close >>= (λ end. give found))) (phrases_enough phrase (shrinks_of front P phrase one) (length bytes) n bytes (omega arith) le)

  few : (n : ℕ) → Yields front (AllByRecursion P) (closed_few close phrase n)
  few n = list_yields front laws P close comma sign differs phrase one n

  by_few : (before : List ℕ) (n : ℕ) → Goes (AllByRecursion P) (closed_few close phrase n) before → Goes (AllByRecursion P) (closed close phrase) before
  by_few before n goes = record {
    more = goes.more;
    found = goes.found;
    holds = goes.holds;
    starts = goes.starts;
    reads = λ other.
        let bytes : List ℕ = before ++ (goes.more ++ 32 ∷ other) in
        enough bytes (n + length bytes) (omega arith) ∙ closed_ok close differs phrase n (n + length bytes) (omega arith) bytes (goes.found, 32 ∷ other) (goes.reads other);
  }

-- The bytes are phrases behind commas, and then the sign that closes them.
abbrev pub IsListed : {A : Type 0} → ℕ → Phrase A → List ℕ → List A → List ℕ → Type 0
IsListed close phrase bytes [] rest = a_sign close bytes ≡ Ok (tt, rest)
IsListed close phrase bytes (a ∷ found) rest =
    (behind : List ℕ) × (more : List ℕ) × (a_sign 44 bytes ≡ Ok (tt, behind)) × (phrase behind ≡ Ok (a, more)) × IsListed close phrase more found rest

-- the sign that closes a list
end_found : {A : Type 0} (close : ℕ) (phrase : Phrase A) (bytes rest : List ℕ) (found : List A) → (a_sign close >>= (λ end. give [])) bytes ≡ Ok (found, rest) → IsListed close phrase bytes found rest
end_found {A} close phrase bytes rest found is = by_end (a_sign close bytes) refl is where
  by_end : (read : Read (Unit {0})) → a_sign close bytes ≡ read → go_on {A = Unit {0}} {B = List A} read (λ end. give []) ≡ Ok (found, rest) → IsListed close phrase bytes found rest
  by_end (Err left) e at = absurd (cc)
  by_end (Ok x) e at =
      let pair_is : List A × List ℕ = ([], x.1) in
      let wanted : List A × List ℕ = (found, rest) in
      let same : pair_is ≡ wanted = cc in
      let nothing : [] ≡ found = ap (λ (p : List A × List ℕ). p.0) same in
      let behind : x.1 ≡ rest = ap (λ (p : List A × List ℕ). p.1) same in
      subst (λ (l : List A). IsListed close phrase bytes l rest) nothing (e ∙ ap (λ (l : List ℕ). Ok (tt, l)) behind)

-- what is read of a list
few_found : {A : Type 0} (close : ℕ) (phrase : Phrase A) (n : ℕ) (bytes rest : List ℕ) (found : List A) → closed_few close phrase n bytes ≡ Ok (found, rest) → IsListed close phrase bytes found rest
few_found close phrase zero bytes rest found is = end_found close phrase bytes rest found is
few_found {A} close phrase (suc m) bytes rest found is = by_sign (λ next got list. few_found close phrase m next rest got list) (a_sign 44 bytes) refl is where
  by_others : ((at : List ℕ) (got : List A) → closed_few close phrase m at ≡ Ok (got, rest) → IsListed close phrase at got rest) → (comma : Unit {0} × List ℕ) → a_sign 44 bytes ≡ Ok comma → (x : A × List ℕ) → phrase comma.1 ≡ Ok x → (others : Read (List A)) → closed_few close phrase m x.1 ≡ others →
      go_on others (λ others. give (x.0 ∷ others)) ≡ Ok (found, rest) → IsListed close phrase bytes found rest
  by_others more comma e x one (Err left) two at = absurd (cc)
  by_others more comma e x one (Ok y) two at =
      let pair_is : List A × List ℕ = (x.0 ∷ y.0, y.1) in
      let wanted : List A × List ℕ = (found, rest) in
      let same : pair_is ≡ wanted = cc in
      let list : x.0 ∷ y.0 ≡ found = ap (λ (p : List A × List ℕ). p.0) same in
      let behind : y.1 ≡ rest = ap (λ (p : List A × List ℕ). p.1) same in
      subst (λ (l : List A). IsListed close phrase bytes l rest) list (comma.1, x.1, e, one, more x.1 y.0 (two ∙ ap (λ (l : List ℕ). Ok (y.0, l)) behind))

  by_first : ((at : List ℕ) (got : List A) → closed_few close phrase m at ≡ Ok (got, rest) → IsListed close phrase at got rest) → (comma : Unit {0} × List ℕ) → a_sign 44 bytes ≡ Ok comma → (read : Read A) → phrase comma.1 ≡ read → go_on read (λ first. closed_few close phrase m >>= (λ others. give (first ∷ others))) ≡ Ok (found, rest) → IsListed close phrase bytes found rest
  by_first more comma e (Err left) one at = absurd (cc)
  by_first more comma e (Ok x) one at = by_others more comma e x one (closed_few close phrase m x.1) refl at

  by_sign : ((at : List ℕ) (got : List A) → closed_few close phrase m at ≡ Ok (got, rest) → IsListed close phrase at got rest) → (read : Read (Unit {0})) → a_sign 44 bytes ≡ read → closed_few close phrase (suc m) bytes ≡ Ok (found, rest) → IsListed close phrase bytes found rest
  by_sign more (Err left) e at = end_found close phrase bytes rest found (sym (closed_none close phrase (suc m) bytes left e) ∙ at)
  by_sign more (Ok comma) e at = by_first more comma e (phrase comma.1) refl (sym (closed_more close phrase m bytes comma e) ∙ at)

pub listed_found : {A : Type 0} (close : ℕ) (phrase : Phrase A) (bytes rest : List ℕ) (found : List A) → closed close phrase bytes ≡ Ok (found, rest) → IsListed close phrase bytes found rest
unfolding repeated
listed_found close phrase bytes rest found is = few_found close phrase (length bytes) bytes rest found is

-- what of a list is read
few_read : {A : Type 0} (close : ℕ) → (close == 44) ≡ false → (phrase : Phrase A) (found : List A) (bytes rest : List ℕ) → IsListed close phrase bytes found rest → closed_few close phrase (length found) bytes ≡ Ok (found, rest)
few_read {A} close differs phrase [] bytes rest is = ap (λ (r : Read (Unit {0})). go_on {A = Unit {0}} {B = List A} r (λ end. give [])) is
few_read {A} close differs phrase (a ∷ found) bytes rest is =
    closed_more close phrase (length found) bytes (tt, is.0) is.2
    ∙ ap (λ (r : Read A). go_on r (λ first. closed_few close phrase (length found) >>= (λ others. give (first ∷ others)))) is.3
    ∙ ap (λ (r : Read (List A)). go_on r (λ others. give (a ∷ others))) (few_read close differs phrase found is.1 rest is.4)

pub listed_read : {A : Type 0} (close : ℕ) → (close == 44) ≡ false → (phrase : Phrase A) → Shrinks phrase → (found : List A) (bytes rest : List ℕ) → IsListed close phrase bytes found rest → closed close phrase bytes ≡ Ok (found, rest)
unfolding repeated
listed_read {A} close differs phrase shrinks found bytes rest is =
    let m : ℕ = length found + length bytes in
    ap (λ (r : Read (List A)). go_on r (λ found. a_sign close >>= (λ end. give found))) (phrases_enough phrase shrinks (length bytes) m bytes (omega arith) (omega arith))
    ∙ closed_ok close differs phrase (length found) m (omega arith) bytes (found, rest) (few_read close differs phrase found bytes rest is)
