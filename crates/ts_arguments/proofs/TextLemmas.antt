-- The texts of calls are no longer than the bytes that they are read from.
use Rattle.std.proofs.Common.{◌≡◌, ℕ, ◌≤◌, List, length, length-append, Some, Ok, ap, arith}
use Rattle.ts_text.specs.Phrase.{Phrase, ◌>>=◌, give, a_sign}
use Rattle.ts_text.specs.declared.token.TokenKind.{TokenKind}
use Rattle.ts_text.specs.declared.token.TokenKind.TheVariants.{Word, Number, Text, Sign}
use Rattle.ts_text.proofs.CallerLemmas.{shrinks_of, bind-ok, pair-parts, token-found, unblanked-le}
use Rattle.ts_tokens.specs.Tokens.{front, said}
use Rattle.ts_tokens.proofs.CallerLemmas.{front_laws, comma_sign, said-le}
use Rattle.ts_arguments.specs.Arguments.{a_text, text_in, two, name_before, text_before, name_and_text}
use Rattle.ts_arguments.proofs.FormLemmas.{IsName}
use Rattle.ts_arguments.proofs.CallLemmas.{name_before_yields}

-- a text is no longer than the bytes
text_is : (kind : TokenKind) (token a : List ℕ) → text_in kind token ≡ Some a → length a ≤ length token
text_is Word token a is = absurd (cc)
text_is Number token a is = absurd (cc)
text_is Text token a is = let same : said token ≡ a = cc in rw (← same) (said-le token)
text_is Sign token a is = absurd (cc)

text-le : (bytes : List ℕ) (found : List ℕ × List ℕ) → a_text bytes ≡ Ok found → length found.0 ≤ length bytes
unfolding a_text
text-le bytes found is =
    let token = token-found front front_laws text_in bytes found.1 found.0 is in
    omega (arith, text_is token.kind token.text found.0 token.accepted, ap length token.whole, length-append token.text found.1, unblanked-le bytes)

text_before-le : (sign : ℕ) (bytes : List ℕ) (found : List ℕ × List ℕ) → text_before sign bytes ≡ Ok found → length found.0 ≤ length bytes
unfolding text_before
text_before-le sign bytes found is =
    let text = bind-ok (a_text bytes) (λ a. a_sign sign >>= (λ end. give a)) found is in
    let end = bind-ok (a_sign sign text.0.1) (λ end. give text.0.0) found text.2 in
    omega (arith, ap length (pair-parts text.0.0 found.0 end.0.1 found.1 end.2).0, text-le bytes text.0 text.1)

pub name_text-le : (bytes : List ℕ) (found : (List ℕ × List ℕ) × List ℕ) → name_and_text bytes ≡ Ok found → length found.0.1 ≤ length bytes
unfolding name_and_text
name_text-le bytes found is =
    let name = bind-ok (name_before 44 bytes) (λ a. text_before 41 >>= (λ b. give (a, b))) found is in
    let text = bind-ok (text_before 41 name.0.1) (λ b. give (name.0.0, b)) found name.2 in
    let both : List ℕ × List ℕ = (name.0.0, text.0.0) in
    let same : text.0.0 ≡ found.0.1 = ap (λ (p : List ℕ × List ℕ). p.1) (pair-parts both found.0 text.0.1 found.1 text.2).0 in
    omega (arith, ap length same, text_before-le 41 name.0.1 text.0 text.1, shrinks_of front IsName (name_before 44) (name_before_yields 44 comma_sign) bytes name.0 name.1)

-- so where a text stands first
pub first_text-le : {A : Type 0} (other : Phrase A) (bytes : List ℕ) (found : (List ℕ × A) × List ℕ) → two (text_before 44) other bytes ≡ Ok found → length found.0.0 ≤ length bytes
first_text-le {A} other bytes found is =
    let text = bind-ok (text_before 44 bytes) (λ a. other >>= (λ b. give (a, b))) found is in
    let rest = bind-ok (other text.0.1) (λ b. give (text.0.0, b)) found text.2 in
    let both : List ℕ × A = (text.0.0, rest.0.0) in
    let same : text.0.0 ≡ found.0.0 = ap (λ (p : List ℕ × A). p.0) {x = both} {y = found.0} (pair-parts both found.0 rest.0.1 found.1 rest.2).0 in
    omega (arith, ap length same, text_before-le 44 bytes text.0 text.1)
