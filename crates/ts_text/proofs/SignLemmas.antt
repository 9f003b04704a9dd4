-- Signs, as phrases.
use Rattle.std.proofs.Common.{◌≡◌, ℕ, zero, suc, cond, take, ◌<◌, ◌==◌, true, false, List, [], ◌∷◌, length, Option, Some, None, Ok, Err, refl, sym, ◌∙◌, ap, arith, inl, inr}
use Rattle.std.proofs.lemmas.Bool.{cases_Bool}
use Rattle.std.proofs.lemmas.Bool.Decides.{nat_tests}
use Rattle.ts_text.specs.Phrase.{unblanked, Front, Phrase, ◌>>=◌, behind_byte, a_sign, behind, in_brackets, made, give, token, taken, taken_front}
use Rattle.ts_text.proofs.FrontLemmas.{IsFront, IsSign}
use Rattle.ts_text.specs.declared.token.TokenKind.{TokenKind}
use Rattle.ts_text.specs.declared.token.TokenKind.TheVariants.{Sign}
use Rattle.ts_text.proofs.SpellingLemmas.{unblanked-le}
use Rattle.ts_text.proofs.PhraseLemmas.{Yields, yields_same, Any, chain, given}
use Rattle.ts_text.proofs.TokenLemmas.{Example, of_token}

-- a sign is found where its byte stands
pub sign_is : (wanted : ℕ) (bytes rest : List ℕ) → a_sign wanted bytes ≡ Ok (tt, rest) → unblanked bytes ≡ wanted ∷ rest
unfolding a_sign
sign_is wanted bytes rest is = by_bytes (unblanked bytes) is where
  by_bytes : (here : List ℕ) → behind_byte wanted here ≡ Ok (tt, rest) → here ≡ wanted ∷ rest
  by_bytes [] e = absurd (cc)
  by_bytes (b ∷ here) e = elim (cases_Bool (b == wanted)) [
    | inl t ↦
        let at = rw t at e in
        let pair : Unit {0} × List ℕ = (tt, here) in
        let other : Unit {0} × List ℕ = (tt, rest) in
        let pairs : pair ≡ other = cc in
        let same : here ≡ rest = ap (λ (p : Unit {0} × List ℕ). p.1) pairs in
        let byte : b ≡ wanted = grind (arith, nat_tests) in
        rw (byte, same) refl
    | inr f ↦ absurd (let no = rw f at e in cc)
  ]

-- and there it is read
pub sign_at : (wanted : ℕ) (bytes rest : List ℕ) → unblanked bytes ≡ wanted ∷ rest → a_sign wanted bytes ≡ Ok (tt, rest)
unfolding a_sign
sign_at wanted bytes rest is = ap (behind_byte wanted) is ∙ (let same : (wanted == wanted) ≡ true = grind (arith, nat_tests) in rw same refl)

-- it is refused at the first byte that isn't blank
pub sign_left : (wanted : ℕ) (bytes : List ℕ) (left : ℕ) → a_sign wanted bytes ≡ Err left → left ≡ length (unblanked bytes)
unfolding a_sign
sign_left wanted bytes left is = by_bytes (unblanked bytes) is where
  by_bytes : (here : List ℕ) → behind_byte wanted here ≡ Err left → left ≡ length here
  by_bytes [] e = let same : 0 ≡ left = cc in sym same
  by_bytes (b ∷ here) e = elim (cases_Bool (b == wanted)) [
    | inl t ↦ absurd (let no = rw t at e in cc)
    | inr f ↦ let at : Err (suc (length here)) ≡ Err left = rw f at e in let same : suc (length here) ≡ left = cc in sym same
  ]

-- where another byte stands there is no sign
pub sign_other : (wanted other : ℕ) (bytes rest : List ℕ) → (other == wanted) ≡ false → unblanked bytes ≡ other ∷ rest → a_sign wanted bytes ≡ Err (length (unblanked bytes))
unfolding a_sign
sign_other wanted other bytes rest differs is = ap (behind_byte wanted) is ∙ rw differs (ap (λ (l : List ℕ). Err (length l)) (sym is))

-- nothing but blanks: there is no sign
pub sign_end : (wanted : ℕ) (bytes : List ℕ) → unblanked bytes ≡ [] → a_sign wanted bytes ≡ Err 0
unfolding a_sign
sign_end wanted bytes none = ap (behind_byte wanted) none

pub sign_shrinks : (wanted : ℕ) (bytes : List ℕ) (found : Unit {0} × List ℕ) → a_sign wanted bytes ≡ Ok found → length found.1 < length bytes
sign_shrinks wanted bytes found is =
    let whole = sign_is wanted bytes found.1 is in
    omega (arith, ap length whole, unblanked-le bytes)

-- nothing stands there
pub no_sign : (wanted : ℕ) (bytes : List ℕ) → length bytes ≡ 0 → (left : ℕ) × (a_sign wanted bytes ≡ Err left)
unfolding a_sign
no_sign wanted [] none = (0, refl)
no_sign wanted (b ∷ bytes) none = absurd (omega arith)

-- a token that begins with this byte
abbrev begins_with : ℕ → TokenKind → List ℕ → Option (Unit {0})
begins_with wanted kind [] = None
begins_with wanted kind (b ∷ text) = cond (b == wanted) (Some tt) None

-- where a token has a byte, its front is that of the bytes
token_first : (wanted b : ℕ) (here : List ℕ) (kind : TokenKind) (size : ℕ) → 0 < size → (b == wanted) ≡ false → taken (b ∷ here) size (begins_with wanted kind (take size (b ∷ here))) ≡ Err (suc (length here))
token_first wanted b here kind zero some differs = absurd (omega arith)
token_first wanted b here kind (suc size) some differs = rw differs refl

-- a sign is a token that begins with its byte
sign_token : (front : Front) → IsFront front → (wanted : ℕ) → IsSign front wanted → (bytes : List ℕ) → a_sign wanted bytes ≡ token front (begins_with wanted) bytes
unfolding a_sign
sign_token front laws wanted sign bytes = by_bytes (unblanked bytes) where
  by_front : (b : ℕ) (here : List ℕ) → (b == wanted) ≡ false → (front_is : Option (TokenKind × ℕ)) → front (b ∷ here) ≡ front_is → Err (suc (length here)) ≡ taken_front (begins_with wanted) (b ∷ here) (front (b ∷ here))
  by_front b here differs None e = rw e refl
  by_front b here differs (Some t) e = sym (ap (taken_front (begins_with wanted) (b ∷ here)) e ∙ token_first wanted b here t.0 t.1 (laws.some (b ∷ here) t.0 t.1 e) differs)

  nothing : (front_is : Option (TokenKind × ℕ)) → front [] ≡ front_is → Err 0 ≡ taken_front (begins_with wanted) [] (front [])
  nothing None e = rw e refl
  nothing (Some t) e = absurd (let some = laws.some [] t.0 t.1 e in let within = laws.within [] t.0 t.1 e in omega arith)

  by_bytes : (here : List ℕ) → behind_byte wanted here ≡ taken_front (begins_with wanted) here (front here)
  by_bytes [] = nothing (front []) refl
  by_bytes (b ∷ here) = elim (cases_Bool (b == wanted)) [
    | inl t ↦
        let byte : b ≡ wanted = grind (arith, nat_tests) in
        let token : front (b ∷ here) ≡ Some (Sign, 1) = ap (λ (c : ℕ). front (c ∷ here)) byte ∙ sign here in
        rw (token, t) refl
    | inr f ↦ rw f (by_front b here f (front (b ∷ here)) refl)
  ]

-- a sign
pub sign_yields : (front : Front) → IsFront front → (wanted : ℕ) → IsSign front wanted → Yields front Any (a_sign wanted)
sign_yields front laws wanted sign =
    yields_same front Any (token front (begins_with wanted)) (a_sign wanted) (sign_token front laws wanted sign)
    (of_token front laws Any (begins_with wanted) example (λ kind text a is. tt)) where
      same : (wanted == wanted) ≡ true
      same = grind (arith, nat_tests)

      example : Example front Any (begins_with wanted)
      example = record { first = wanted; more = []; kind = Sign; found = tt; holds = tt; stands = sign []; accepted = rw same refl }

pub behind_yields : {A : Type 0} (front : Front) → IsFront front → (P : A → Type 0) (wanted : ℕ) → IsSign front wanted → (phrase : Phrase A) → Yields front P phrase → Yields front P (behind wanted phrase)
behind_yields front laws P wanted sign phrase one = chain front laws Any P (a_sign wanted) (λ sign. phrase) (sign_yields front laws wanted sign) (λ sign any. one)

-- a phrase in round brackets
pub brackets_yield : {A : Type 0} (front : Front) → IsFront front → (P : A → Type 0) → IsSign front 40 → IsSign front 41 → (phrase : Phrase A) → Yields front P phrase → Yields front P (in_brackets phrase)
brackets_yield front laws P open_ close phrase one =
    chain front laws P P (behind 40 phrase) (λ found. a_sign 41 >>= (λ close. give found)) (behind_yields front laws P 40 open_ phrase one)
    (λ found holds. chain front laws Any P (a_sign 41) (λ close. give found) (sign_yields front laws 41 close) (λ end any. given front P found holds))

-- what a phrase gives, as something else
pub made_yields : {A B : Type 0} (front : Front) → IsFront front → (P : A → Type 0) (Q : B → Type 0) (phrase : Phrase A) (make : A → B) → Yields front P phrase → ((a : A) → P a → Q (make a)) → Yields front Q (made phrase make)
made_yields front laws P Q phrase make one goes = chain front laws P Q phrase (λ found. give (make found)) one (λ found holds. given front Q (make found) (goes found holds))
