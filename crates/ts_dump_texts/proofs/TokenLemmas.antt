-- One token at a time: names, quoted texts and digits, as they are printed.
use Rattle.std.proofs.Common.{◌≡◌, ℕ, ◌+◌, ◌-◌, ◌==◌, ◌&&◌, nat_le, Bool, true, false, cond, IsTrue, Option, Some, None, Ok, List, [], ◌∷◌, ◌++◌, length, take, refl, ap, sym, ◌∙◌, append_assoc, length-append, arith, inl, inr}
use Rattle.std.specs.List.{list_all, flat_map, prefix_len}
use Rattle.std.proofs.Math.Seq.{take-append_seam, drop-append_seam}
use Rattle.std.proofs.lemmas.Bool.{cases_Bool, and_parts}
use Rattle.std.proofs.lemmas.Bool.Decides.{nat_tests}
use Rattle.ts_base.specs.Name.{is_blank, begins_word, continues_word, is_word, is_name, is_key, is_text_byte, is_text, key_if_any}
use Rattle.ts_row.specs.Row.{quoted}
use Rattle.ts_text.specs.Phrase.{unblanked, Read, taken, taken_front, token, name_as}
use Rattle.ts_text.specs.declared.token.TokenKind.{TokenKind}
use Rattle.ts_text.specs.declared.token.TokenKind.TheVariants.{Word, Text}
use Rattle.ts_tokens.specs.Tokens.{closing, later, or_before, of_kind, front, undoubled, said}
use Rattle.ts_tokens.proofs.CallerLemmas.{text_byte, single_quote, doubled_quote, undoubled-cons}
use Rattle.ts_arguments.specs.Arguments.{a_name, a_key, key_in}
use Rattle.ts_dump_texts.specs.Texts.{quoted_before}

-- a token that stands in front is taken
pub token_taken : {A : Type 0} (accept : TokenKind → List ℕ → Option A) (text rest : List ℕ) (kind : TokenKind) (a : A) → unblanked (text ++ rest) ≡ text ++ rest → front (text ++ rest) ≡ Some (kind, length text)
    → accept kind text ≡ Some a → token front accept (text ++ rest) ≡ Ok (a, rest)
token_taken {A} accept text rest kind a here is as_this =
    ap (λ (l : List ℕ). taken_front accept l (front l)) here
    ∙ ap (taken_front accept (text ++ rest)) is
    ∙ ap (λ (l : List ℕ). taken (text ++ rest) (length text) (accept kind l)) (take-append_seam text rest)
    ∙ ap (taken (text ++ rest) (length text)) as_this
    ∙ ap (λ (l : List ℕ). let r : Read A = Ok (a, l) in r) (drop-append_seam text rest)

-- a run of bytes that pass a test ends where one doesn't
pub run_ends : (p : ℕ → Bool) (run rest : List ℕ) (b : ℕ) → list_all p run ≡ true → p b ≡ false → prefix_len p (run ++ b ∷ rest) ≡ length run
run_ends p [] rest b all ends = rw ends refl
run_ends p (a ∷ run) rest b all ends =
    let parts = and_parts (p a) (list_all p run) all in
    let more = run_ends p run rest b parts.1 ends in
    rw parts.0 (omega (arith, more))

-- a word
pub word_front : (word rest : List ℕ) (b : ℕ) → is_word word ≡ true → continues_word b ≡ false → front (word ++ b ∷ rest) ≡ Some (Word, length word)
unfolding front
word_front [] rest b is ends = absurd (let no : ⊥ = cc in no)
word_front (c ∷ more) rest b is ends =
    let parts = and_parts (begins_word c) (list_all continues_word more) is in
    let run = run_ends continues_word more rest b parts.1 ends in
    rw (parts.0, run) (ap (λ (n : ℕ). Some (Word, n)) (omega arith))

pub word_shows : (word rest : List ℕ) → is_word word ≡ true → unblanked (word ++ rest) ≡ word ++ rest
word_shows [] rest is = absurd (let no : ⊥ = cc in no)
word_shows (c ∷ more) rest is =
    let begins = (and_parts (begins_word c) (list_all continues_word more) is).0 in
    let other : is_blank c ≡ false = grind (arith, nat_tests) in
    rw other refl

is_so : (b : Bool) → IsTrue b → b ≡ true
is_so b is = is

-- a name
pub name_read : (name rest : List ℕ) (b : ℕ) → IsTrue (is_name name) → continues_word b ≡ false → a_name (name ++ b ∷ rest) ≡ Ok (name, b ∷ rest)
unfolding a_name
name_read name rest b is ends =
    let named = is_so (is_name name) is in
    let word = (and_parts (is_word name) (nat_le (length name) 32) named).0 in
    token_taken name_as name (b ∷ rest) Word name (word_shows name (b ∷ rest) word) (word_front name rest b word ends)
    (ap (λ (t : Bool). let o : Option (List ℕ) = cond t (Some name) None in o) named)

-- a text is closed where it ends
closing_quoted : (text rest : List ℕ) (b : ℕ) → is_text text ≡ true → (b == 39) ≡ false → closing ((flat_map quoted text ++ 39 ∷ []) ++ b ∷ rest) ≡ Some (length (flat_map quoted text) + 1)
closing_quoted [] rest b all ends = single_quote 39 (b ∷ rest) refl ends
closing_quoted (c ∷ text) rest b all ends =
    let parts = and_parts (is_text_byte c) (is_text text) all in
    let others = closing_quoted text rest b parts.1 ends in
    elim (cases_Bool (c == 39)) [
      | inl t ↦ rw t (doubled_quote 39 (39 ∷ ((flat_map quoted text ++ 39 ∷ []) ++ b ∷ rest)) refl refl ∙ ap (λ (e : Option ℕ). or_before (Some 1) (later 2 e)) others ∙ ap Some (omega arith))
      | inr f ↦ rw f (text_byte c ((flat_map quoted text ++ 39 ∷ []) ++ b ∷ rest) f parts.0 ∙ ap (later 1) others ∙ ap Some (omega arith))
    ]

-- its quotes undoubled, it is the text
undoubled_quoted : (text : List ℕ) → undoubled (flat_map quoted text) ≡ text
unfolding undoubled
undoubled_quoted [] = refl
undoubled_quoted (c ∷ text) = elim (cases_Bool (c == 39)) [
  | inl t ↦ let is : 39 ≡ c = grind (arith, nat_tests) in rw t (undoubled-cons 39 (39 ∷ flat_map quoted text) ∙ ap (λ (l : List ℕ). 39 ∷ l) (undoubled_quoted text) ∙ ap (λ (d : ℕ). d ∷ text) is)
  | inr f ↦ rw f (undoubled-cons c (flat_map quoted text) ∙ rw f (ap (λ (l : List ℕ). c ∷ l) (undoubled_quoted text)))
]

quote_front : (s : List ℕ) → front (39 ∷ s) ≡ of_kind Text (later 1 (closing s))
unfolding front
quote_front s = refl

-- a text in quotes, as what its bytes are taken
pub quoted_read : {A : Type 0} (accept : TokenKind → List ℕ → Option A) (text rest : List ℕ) (b : ℕ) (a : A) → is_text text ≡ true → (b == 39) ≡ false
    → ((bytes : List ℕ) → said bytes ≡ text → accept Text bytes ≡ Some a) → token front accept (quoted_before text (b ∷ rest)) ≡ Ok (a, b ∷ rest)
quoted_read {A} accept text rest b a all ends as_this =
    let q : List ℕ = flat_map quoted text in
    let size : length (39 ∷ (q ++ 39 ∷ [])) ≡ 1 + (length q + 1) = omega (arith, length-append q (39 ∷ [])) in
    let at : front (39 ∷ ((q ++ 39 ∷ []) ++ b ∷ rest)) ≡ Some (Text, length (39 ∷ (q ++ 39 ∷ []))) =
    quote_front ((q ++ 39 ∷ []) ++ b ∷ rest) ∙ ap (λ (e : Option ℕ). of_kind Text (later 1 e)) (closing_quoted text rest b all ends) ∙ ap (λ (n : ℕ). Some (Text, n)) (sym size) in
    let inner : length (39 ∷ (q ++ 39 ∷ [])) - 2 ≡ length q = omega (arith, size) in
    let says : said (39 ∷ (q ++ 39 ∷ [])) ≡ text = ap (λ (n : ℕ). undoubled (take n (q ++ 39 ∷ []))) inner ∙ ap undoubled (take-append_seam q (39 ∷ [])) ∙ undoubled_quoted text in
    ap (λ (l : List ℕ). token front accept (39 ∷ l)) (sym (append_assoc q (39 ∷ []) (b ∷ rest)))
    ∙ token_taken accept (39 ∷ (q ++ 39 ∷ [])) (b ∷ rest) Text a refl at (as_this (39 ∷ (q ++ 39 ∷ [])) says)

-- a key
pub key_read : (key rest : List ℕ) (b : ℕ) → IsTrue (is_key key) → (b == 39) ≡ false → a_key (quoted_before key (b ∷ rest)) ≡ Ok (key, b ∷ rest)
unfolding a_key
key_read key rest b is ends =
    let keyed = is_so (is_key key) is in
    let text = (and_parts (nat_le 1 (length key) && nat_le (length key) 64) (is_text key) keyed).1 in
    quoted_read key_in key rest b key text ends (λ bytes says. ap key_if_any says ∙ ap (λ (t : Bool). let o : Option (List ℕ) = cond t (Some key) None in o) keyed)
