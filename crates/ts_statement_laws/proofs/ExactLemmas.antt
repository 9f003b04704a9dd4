-- Phrases that are read exactly where certain tokens stand, and how they are composed.
use Rattle.std.proofs.Common.{◌≡◌, ℕ, ◌==◌, false, Option, Some, Ok, Err, List, [], ◌∷◌, ◌++◌, length, append_assoc, append-nil, length-append, refl, sym, ap, subst, ◌∙◌, arith}
use Rattle.ts_base.specs.Name.{is_blank}
use Rattle.ts_text.specs.Phrase.{unblanked, Read, Phrase, go_on, ◌>>=◌, give, token, a_sign, behind, made, closed}
use Rattle.ts_text.specs.Spelling.{Lexeme, spelled, AreTokens, Spells}
use Rattle.ts_text.specs.Parted.{IsParted}
use Rattle.ts_text.specs.declared.token.TokenKind.{TokenKind}
use Rattle.ts_text.specs.declared.token.TokenKind.TheVariants.{Sign}
use Rattle.ts_text.proofs.CallerLemmas.{IsSign as IsSignOf, IsListed, Shrinks, blanked, unblanked_past, sign_is, sign_at, bind-ok, pair-parts, token-found, token-read, listed_found, listed_read}
use Rattle.ts_tokens.specs.Tokens.{front}
use Rattle.ts_tokens.proofs.CallerLemmas.{front_laws}
use Rattle.ts_arguments.specs.Arguments.{before, two}
use Rattle.ts_statement_laws.specs.Statements.{One, Nothing, Then, IsSign}

-- tokens one behind the other
spelled_both : (ls ms : List Lexeme) (rest : List ℕ) → spelled (ls ++ ms) ++ rest ≡ spelled ls ++ (spelled ms ++ rest)
spelled_both [] ms rest = refl
spelled_both (l ∷ ls) ms rest =
    append_assoc (l.blanks ++ l.token) (spelled (ls ++ ms)) rest ∙ ap (λ (x : List ℕ). (l.blanks ++ l.token) ++ x) (spelled_both ls ms rest)
    ∙ sym (append_assoc (l.blanks ++ l.token) (spelled ls) (spelled ms ++ rest))

tokens_both : (ls ms : List Lexeme) (rest : List ℕ) → AreTokens front ls (spelled ms ++ rest) → AreTokens front ms rest → AreTokens front (ls ++ ms) rest
tokens_both [] ms rest one two = two
tokens_both (l ∷ ls) ms rest one two =
    (one.0, subst (λ (x : List ℕ). front (l.token ++ x) ≡ Some (l.kind, length l.token)) (sym (spelled_both ls ms rest)) one.1, tokens_both ls ms rest one.2 two)

tokens_first : (ls ms : List Lexeme) (rest : List ℕ) → AreTokens front (ls ++ ms) rest → AreTokens front ls (spelled ms ++ rest)
tokens_first [] ms rest all = tt
tokens_first (l ∷ ls) ms rest all = (all.0, subst (λ (x : List ℕ). front (l.token ++ x) ≡ Some (l.kind, length l.token)) (spelled_both ls ms rest) all.1, tokens_first ls ms rest all.2)

tokens_last : (ls ms : List Lexeme) (rest : List ℕ) → AreTokens front (ls ++ ms) rest → AreTokens front ms rest
tokens_last [] ms rest all = all
tokens_last (l ∷ ls) ms rest all = tokens_last ls ms rest all.2

pub spells_both : (bytes middle rest : List ℕ) (ls ms : List Lexeme) → Spells front bytes ls middle → Spells front middle ms rest → Spells front bytes (ls ++ ms) rest
spells_both bytes middle rest ls ms one two = record {
  whole = one.whole ∙ ap (λ (x : List ℕ). spelled ls ++ x) two.whole ∙ sym (spelled_both ls ms rest);
  tokens = tokens_both ls ms rest (subst (AreTokens front ls) two.whole one.tokens) two.tokens;
}

pub spells_first : (bytes rest : List ℕ) (ls ms : List Lexeme) → Spells front bytes (ls ++ ms) rest → Spells front bytes ls (spelled ms ++ rest)
spells_first bytes rest ls ms all = record { whole = all.whole ∙ spelled_both ls ms rest; tokens = tokens_first ls ms rest all.tokens }

pub spells_last : (bytes rest : List ℕ) (ls ms : List Lexeme) → Spells front bytes (ls ++ ms) rest → Spells front (spelled ms ++ rest) ms rest
spells_last bytes rest ls ms all = record { whole = refl; tokens = tokens_last ls ms rest all.tokens }

-- a phrase is read as something exactly where its tokens stand
pub record Exact {A : Type 0} (phrase : Phrase A) (R : A → List Lexeme → Type 0) : Type 0 where
  pub found : (bytes rest : List ℕ) (a : A) → phrase bytes ≡ Ok (a, rest) → (ls : List Lexeme) × R a ls × Spells front bytes ls rest
  pub read : (bytes rest : List ℕ) (a : A) (ls : List Lexeme) → R a ls → Spells front bytes ls rest → phrase bytes ≡ Ok (a, rest)

pub exact_same : {A : Type 0} (phrase : Phrase A) (R S : A → List Lexeme → Type 0) → ((a : A) (ls : List Lexeme) → R a ls → S a ls) → ((a : A) (ls : List Lexeme) → S a ls → R a ls) → Exact phrase R → Exact phrase S
exact_same phrase R S to from x = record {
  found = λ bytes rest a is. let f = x.found bytes rest a is in (f.0, to a f.0 f.1, f.2);
  read = λ bytes rest a ls s spells. x.read bytes rest a ls (from a ls s) spells;
}

-- one token
one_whole : (l : Lexeme) (rest : List ℕ) → spelled (l ∷ []) ++ rest ≡ l.blanks ++ (l.token ++ rest)
one_whole l rest = ap (λ (x : List ℕ). x ++ rest) (append-nil (l.blanks ++ l.token)) ∙ append_assoc l.blanks l.token rest

pub exact_token : {A : Type 0} (accept : TokenKind → List ℕ → Option A) → Exact (token front accept) (λ a. One (λ l. accept l.kind l.token ≡ Some a))
exact_token {A} accept = record {
  found = λ bytes rest a is.
      let f = token-found front front_laws accept bytes rest a is in
      let split = blanked bytes in
      let l : Lexeme = record { blanks = split.blanks; kind = f.kind; token = f.text } in (
        l ∷ [],
        (l, refl, f.accepted),
        record {
          whole = split.split ∙ ap (λ (x : List ℕ). split.blanks ++ x) f.whole ∙ sym (one_whole l rest);
          tokens = (split.all, f.stands, tt);
        },
      );
  read = λ bytes rest a ls (l, is, so) spells.
      let own = subst (λ (x : List Lexeme). Spells front bytes x rest) is spells in
      let stands = own.tokens in
      let parted : IsParted (l.token ∷ rest ∷ []) bytes = (l.blanks, rest, stands.0, own.whole ∙ one_whole l rest, ([], [], refl, sym (append-nil rest), refl)) in
      token-read front front_laws accept bytes l.token (rest ∷ []) l.kind a parted stands.1 so;
}

-- a sign
pub exact_sign : (sign : ℕ) → IsSignOf front sign → is_blank sign ≡ false → Exact (a_sign sign) (λ found. One (IsSign sign))
exact_sign sign is_sign solid = record {
  found = λ bytes rest a is.
      let split = blanked bytes in
      let here : unblanked bytes ≡ sign ∷ rest = sign_is sign bytes rest is in
      let l : Lexeme = record { blanks = split.blanks; kind = Sign; token = sign ∷ [] } in (
        l ∷ [],
        (l, refl, (refl, refl)),
        record {
          whole = split.split ∙ ap (λ (x : List ℕ). split.blanks ++ x) here ∙ sym (one_whole l rest);
          tokens = (split.all, is_sign rest, tt);
        },
      );
  read = λ bytes rest a ls (l, is, so) spells.
      let own = subst (λ (x : List Lexeme). Spells front bytes x rest) is spells in
      let stands = own.tokens in
      let whole : bytes ≡ l.blanks ++ (sign ∷ rest) = own.whole ∙ one_whole l rest ∙ ap (λ (x : List ℕ). l.blanks ++ (x ++ rest)) so.1 in
      let here : unblanked bytes ≡ sign ∷ rest = ap unblanked whole ∙ unblanked_past l.blanks (sign ∷ rest) stands.0 ∙ rw solid refl in
      sign_at sign bytes rest here;
}

-- nothing
pub exact_give : {A : Type 0} (a : A) → Exact (give a) (λ b ls. (a ≡ b) × Nothing ls)
exact_give a = record {
  found = λ bytes rest b is. let same = pair-parts a b bytes rest is in ([], (same.0, refl), record { whole = same.1; tokens = tt });
  read = λ bytes rest b ls (same, none) spells.
      let own = subst (λ (x : List Lexeme). Spells front bytes x rest) none spells in
      let whole : bytes ≡ rest = own.whole in
      ap (λ (x : List ℕ). Ok (a, x)) whole ∙ ap (λ (c : _). Ok (c, rest)) same;
}

-- one phrase and then the next, of what the first gives
pub exact_bind_of : {A B : Type 0} (first : Phrase A) (next : A → Phrase B) (R : A → List Lexeme → Type 0) (S : A → B → List Lexeme → Type 0) → Exact first R → ((a : A) (ls : List Lexeme) → R a ls → Exact (next a) (S a))
    → Exact (first >>= next) (λ b ls. (a : A) × Then (R a) (S a b) ls)
exact_bind_of {A} {B} first next R S one two = record {
  found = λ bytes rest b is.
      let x = bind-ok (first bytes) next (b, rest) is in
      let f = one.found bytes x.0.1 x.0.0 x.1 in
      let g = (two x.0.0 f.0 f.1).found x.0.1 rest b x.2 in
      (f.0 ++ g.0, (x.0.0, (f.0, g.0, refl, f.1, g.1)), spells_both bytes x.0.1 rest f.0 g.0 f.2 g.2);
  read = λ bytes rest b ls (a, (ls_first, ls_next, is, r, s)) spells.
      let own = subst (λ (x : List Lexeme). Spells front bytes x rest) is spells in
      let middle : List ℕ = spelled ls_next ++ rest in
      ap (λ (x : Read A). go_on x next) (one.read bytes middle a ls_first r (spells_first bytes rest ls_first ls_next own))
      ∙ (two a ls_first r).read middle rest b ls_next s (spells_last bytes rest ls_first ls_next own);
}

pub exact_bind : {A B : Type 0} (first : Phrase A) (next : A → Phrase B) (R : A → List Lexeme → Type 0) (S : A → B → List Lexeme → Type 0) → Exact first R → ((a : A) → Exact (next a) (S a))
    → Exact (first >>= next) (λ b ls. (a : A) × Then (R a) (S a b) ls)
exact_bind first next R S one two = exact_bind_of first next R S one (λ a ls r. two a)

-- three phrases, two by two
pub exact_parts : {A B C : Type 0} (first : Phrase A) (second : A → Phrase B) (third : B → Phrase C) (R : C → List Lexeme → Type 0) → Exact ((first >>= second) >>= third) R → Exact (first >>= (λ a. second a >>= third)) R
exact_parts {A} {B} {C} first second third R all = record {
  found = λ bytes rest c is. all.found bytes rest c (same (first bytes) ∙ is);
  read = λ bytes rest c ls r spells. sym (same (first bytes)) ∙ all.read bytes rest c ls r spells;
} where
  same : (read : Read A) → go_on (go_on read second) third ≡ go_on read (λ a. second a >>= third)
  same (Ok x) = refl
  same (Err left) = refl

-- nothing stands behind
pub then_nothing : (P : List Lexeme → Type 0) (ls : List Lexeme) → Then P Nothing ls → P ls
then_nothing P ls (front, back, is, p, none) = subst P (sym (is ∙ ap (λ (x : List Lexeme). front ++ x) none ∙ append-nil front)) p

pub nothing_then : (P : List Lexeme → Type 0) (ls : List Lexeme) → P ls → Then P Nothing ls
nothing_then P ls p = (ls, [], sym (append-nil ls), p, refl)

-- what a phrase gives, as something else
pub exact_made : {A B : Type 0} (phrase : Phrase A) (make : A → B) (R : A → List Lexeme → Type 0) → Exact phrase R → Exact (made phrase make) (λ b ls. (a : A) × (make a ≡ b) × R a ls)
exact_made {A} {B} phrase make R one =
    exact_same (made phrase make) (λ b ls. (a : A) × Then (R a) (λ ms. (make a ≡ b) × Nothing ms) ls) (λ b ls. (a : A) × (make a ≡ b) × R a ls)
    (λ b ls (a, (front, back, is, r, (same, none))). (a, same, then_nothing (R a) ls (front, back, is, r, none)))
    (λ b ls (a, same, r). (a, (ls, [], sym (append-nil ls), r, (same, refl))))
    (exact_bind phrase (λ a. give (make a)) R (λ a b ls. (make a ≡ b) × Nothing ls) one (λ a. exact_give (make a)))

-- a phrase, and a sign behind it
pub exact_before : {A : Type 0} (sign : ℕ) (phrase : Phrase A) (R : A → List Lexeme → Type 0) → Exact (a_sign sign) (λ found. One (IsSign sign)) → Exact phrase R → Exact (before sign phrase) (λ a. Then (R a) (One (IsSign sign)))
exact_before {A} sign phrase R signs one =
    exact_same (before sign phrase) (λ b ls. (a : A) × Then (R a) (λ ms. (u : Unit {0}) × Then (One (IsSign sign)) (λ ns. (a ≡ b) × Nothing ns) ms) ls) (λ a. Then (R a) (One (IsSign sign)))
    (λ b ls (a, (ls_first, ls_next, is, r, (u, (ls_sign, ls_none, also, s, (same, none))))).
    (ls_first, ls_next, is, subst (λ (x : A). R x ls_first) same r, then_nothing (One (IsSign sign)) ls_next (ls_sign, ls_none, also, s, none)))
    (λ b ls (ls_first, ls_next, is, r, s). (b, (ls_first, ls_next, is, r, (tt, (ls_next, [], sym (append-nil ls_next), s, (refl, refl))))))
    (exact_bind phrase (λ found. a_sign sign >>= (λ end. give found)) R (λ a b ls. (u : Unit {0}) × Then (One (IsSign sign)) (λ ns. (a ≡ b) × Nothing ns) ls) one
    (λ a. exact_bind (a_sign sign) (λ end. give a) (λ u. One (IsSign sign)) (λ u b ls. (a ≡ b) × Nothing ls) signs (λ u. exact_give a)))

-- a phrase behind a sign
pub exact_behind : {A : Type 0} (sign : ℕ) (phrase : Phrase A) (R : A → List Lexeme → Type 0) → Exact (a_sign sign) (λ found. One (IsSign sign)) → Exact phrase R → Exact (behind sign phrase) (λ a. Then (One (IsSign sign)) (R a))
exact_behind {A} sign phrase R signs one =
    exact_same (behind sign phrase) (λ b ls. (u : Unit {0}) × Then (One (IsSign sign)) (R b) ls) (λ a. Then (One (IsSign sign)) (R a)) (λ b ls (u, both). both) (λ b ls both. (tt, both))
    (exact_bind (a_sign sign) (λ u. phrase) (λ u. One (IsSign sign)) (λ u. R) signs (λ u. one))

-- two phrases
pub exact_two : {A B : Type 0} (first : Phrase A) (second : Phrase B) (R : A → List Lexeme → Type 0) (S : B → List Lexeme → Type 0) → Exact first R → Exact second S → Exact (two first second) (λ p. Then (R p.0) (S p.1))
exact_two {A} {B} first second R S one other =
    exact_same (two first second) (λ p ls. (a : A) × Then (R a) (λ ms. (b : B) × Then (S b) (λ ns. ((a, b) ≡ p) × Nothing ns) ms) ls) (λ p. Then (R p.0) (S p.1))
    (λ p ls (a, (ls_first, ls_next, is, r, (b, (ls_second, ls_none, also, s, (same, none))))).
    (ls_first, ls_next, is, subst (λ (x : A × B). R x.0 ls_first) same r, subst (λ (x : A × B). S x.1 ls_next) same (then_nothing (S b) ls_next (ls_second, ls_none, also, s, none))))
    (λ p ls (ls_first, ls_next, is, r, s). (p.0, (ls_first, ls_next, is, r, (p.1, (ls_next, [], sym (append-nil ls_next), s, (refl, refl))))))
    (exact_bind first (λ a. second >>= (λ b. give (a, b))) R (λ a p ls. (b : B) × Then (S b) (λ ns. ((a, b) ≡ p) × Nothing ns) ls) one
    (λ a. exact_bind second (λ b. give (a, b)) S (λ b p ls. ((a, b) ≡ p) × Nothing ls) other (λ b. exact_give (a, b))))

-- tokens of a list: phrases behind commas, and the sign that closes them
abbrev pub AreListed : {A : Type 0} → ℕ → (A → List Lexeme → Type 0) → List A → List Lexeme → Type 0
AreListed close R [] ls = One (IsSign close) ls
AreListed close R (a ∷ found) ls = Then (One (IsSign 44)) (Then (R a) (AreListed close R found)) ls

pub exact_closed : {A : Type 0} (close : ℕ) (phrase : Phrase A) (R : A → List Lexeme → Type 0) → (close == 44) ≡ false → Shrinks phrase → Exact (a_sign 44) (λ found. One (IsSign 44)) → Exact (a_sign close) (λ found. One (IsSign close)) → Exact phrase R
    → Exact (closed close phrase) (AreListed close R)
exact_closed {A} close phrase R differs shrinks commas closes one = record {
  found = λ bytes rest found is. listed found bytes rest (listed_found close phrase bytes rest found is);
  read = λ bytes rest found ls are spells. listed_read close differs phrase shrinks found bytes rest (reads found bytes rest ls are spells);
} where
  listed : (found : List A) (bytes rest : List ℕ) → IsListed close phrase bytes found rest → (ls : List Lexeme) × AreListed close R found ls × Spells front bytes ls rest
  listed [] bytes rest is = closes.found bytes rest tt is
  listed (a ∷ found) bytes rest (behind_, more, comma, first, others) =
      let f = commas.found bytes behind_ tt comma in
      let g = one.found behind_ more a first in
      let h = listed found more rest others in
      (f.0 ++ (g.0 ++ h.0), (f.0, g.0 ++ h.0, refl, f.1, (g.0, h.0, refl, g.1, h.1)), spells_both bytes behind_ rest f.0 (g.0 ++ h.0) f.2 (spells_both behind_ more rest g.0 h.0 g.2 h.2))

  reads : (found : List A) (bytes rest : List ℕ) (ls : List Lexeme) → AreListed close R found ls → Spells front bytes ls rest → IsListed close phrase bytes found rest
  reads [] bytes rest ls are spells = closes.read bytes rest tt ls are spells
  reads (a ∷ found) bytes rest ls (ls_comma, ls_more, is, comma, (ls_first, ls_others, also, first, others)) spells =
      let own = subst (λ (x : List Lexeme). Spells front bytes x rest) is spells in
      let middle : List ℕ = spelled ls_more ++ rest in
      let next = subst (λ (x : List Lexeme). Spells front middle x rest) also (spells_last bytes rest ls_comma ls_more own) in
      let last : List ℕ = spelled ls_others ++ rest in (
        middle,
        last,
        commas.read bytes middle tt ls_comma comma (spells_first bytes rest ls_comma ls_more own),
        one.read middle last a ls_first first (spells_first middle rest ls_first ls_others next),
        reads found last rest ls_others others (spells_last middle rest ls_first ls_others next),
      )

-- what is read leaves no more bytes
pub shrinks : {A : Type 0} (phrase : Phrase A) (R : A → List Lexeme → Type 0) → Exact phrase R → Shrinks phrase
shrinks phrase R one bytes found is =
    let f = one.found bytes found.1 found.0 is in
    let whole = f.2.whole in
    omega (arith, ap length whole, length-append (spelled f.0) found.1)
