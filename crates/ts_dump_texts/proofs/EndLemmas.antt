-- Each text of a statement is one line: it begins with a word, ends with its only `;` and isn't long.
use Rattle.std.proofs.Common.{◌≡◌, ℕ, ◌+◌, ◌*◌, ◌≤◌, ◌==◌, ◌&&◌, not, nat_le, Bool, true, false, cond, IsTrue, List, [], ◌∷◌, ◌++◌, length, refl, ap, ◌∙◌, length-append, arith, inl, inr}
use Rattle.std.specs.List.{list_all, flat_map}
use Rattle.std.specs.Char.{is_ascii_digit}
use Rattle.std.proofs.lemmas.Bool.{cases_Bool, and_parts}
use Rattle.std.proofs.lemmas.Bool.Decides.{nat_tests}
use Rattle.ts_base.specs.Name.{begins_word, continues_word, is_word, is_name, is_key}
use Rattle.ts_row.specs.Row.{quoted}
use Rattle.ts_dump_texts.specs.Texts.{end_of_call, quoted_before, comma_before}
use Rattle.ts_dump_texts.specs.Script.{ends_once}

-- bytes that end with their only `;`, and are no more than so many
pub record EndsCall (most : ℕ) (bytes : List ℕ) : Type 0 where
  pub once : ends_once false bytes ≡ true
  pub short : length bytes ≤ most

pub the_end_of_call : EndsCall 2 end_of_call
the_end_of_call = record { once = refl; short = omega arith }

-- neither a quote nor a `;`
abbrev pub is_plain : ℕ → Bool
is_plain b = not (b == 39) && not (b == 59)

plain_once : (b : ℕ) (bytes : List ℕ) → is_plain b ≡ true → ends_once false bytes ≡ true → ends_once false (b ∷ bytes) ≡ true
plain_once b bytes plain once =
    let quote : (b == 39) ≡ false = grind (arith, nat_tests) in
    let semicolon : (b == 59) ≡ false = grind (arith, nat_tests) in
    rw (quote, semicolon) once

all_plain_once : (xs bytes : List ℕ) → list_all is_plain xs ≡ true → ends_once false bytes ≡ true → ends_once false (xs ++ bytes) ≡ true
all_plain_once [] bytes plain once = once
all_plain_once (x ∷ xs) bytes plain once =
    let parts = and_parts (is_plain x) (list_all is_plain xs) plain in
    plain_once x (xs ++ bytes) parts.0 (all_plain_once xs bytes parts.1 once)

pub plain_before : (xs bytes : List ℕ) (few most : ℕ) → list_all is_plain xs ≡ true → length xs ≤ few → EndsCall most bytes → EndsCall (few + most) (xs ++ bytes)
plain_before xs bytes few most plain size rest = record {
  once = all_plain_once xs bytes plain rest.once;
  short = let l = length-append xs bytes in let more = rest.short in omega (arith, l, more, size);
}

pub comma_ends : (bytes : List ℕ) (most : ℕ) → EndsCall most bytes → EndsCall (2 + most) (comma_before bytes)
comma_ends bytes most rest = plain_before (44 ∷ 32 ∷ []) bytes 2 most refl (omega arith) rest

pub more_room : (few most : ℕ) (bytes : List ℕ) → few ≤ most → EndsCall few bytes → EndsCall most bytes
more_room few most bytes le is = record { once = is.once; short = let s = is.short in omega (arith, s, le) }

-- in quotes anything stands
open_once : (text bytes : List ℕ) → ends_once false bytes ≡ true → ends_once true (flat_map quoted text ++ 39 ∷ bytes) ≡ true
open_once [] bytes once = once
open_once (c ∷ text) bytes once = elim (cases_Bool (c == 39)) [
  | inl quote ↦ rw quote (open_once text bytes once)
  | inr other ↦ rw (other, other) (within (c == 59) (open_once text bytes once))
]
  where
    within : (t : Bool) → ends_once true (flat_map quoted text ++ 39 ∷ bytes) ≡ true
        → cond (t && false) (length (flat_map quoted text ++ 39 ∷ bytes) == 0) (ends_once true (flat_map quoted text ++ 39 ∷ bytes)) ≡ true
    within true is = is
    within false is = is

doubled_most : (text : List ℕ) → length (flat_map quoted text) ≤ 2 * length text
doubled_most [] = omega arith
doubled_most (c ∷ text) =
    let rest = doubled_most text in
    let l = length-append (quoted c) (flat_map quoted text) in
    let one : length (quoted c) ≤ 2 = elim (c == 39) as (λ (t : Bool). length (cond t (39 ∷ 39 ∷ []) (c ∷ [])) ≤ 2) [ true ↦ omega arith | false ↦ omega arith ] in
    omega (arith, rest, l, one)

pub quoted_ends : (text bytes : List ℕ) (few most : ℕ) → length text ≤ few → EndsCall most bytes → EndsCall (2 * few + 2 + most) (quoted_before text bytes)
quoted_ends text bytes few most size rest = record {
  once = open_once text bytes rest.once;
  short =
      let l = length-append (flat_map quoted text) (39 ∷ bytes) in
      let doubled = doubled_most text in
      let more = rest.short in
      omega (arith, l, doubled, more, size);
}

-- words and digits are plain
word_plain : (b : ℕ) → continues_word b ≡ true → is_plain b ≡ true
word_plain b is = grind (arith, nat_tests)

words_plain : (bs : List ℕ) → list_all continues_word bs ≡ true → list_all is_plain bs ≡ true
words_plain [] all = refl
words_plain (b ∷ bs) all =
    let parts = and_parts (continues_word b) (list_all continues_word bs) all in
    ap (λ (t : Bool). t && list_all is_plain bs) (word_plain b parts.0) ∙ words_plain bs parts.1

word_is_plain : (word : List ℕ) → is_word word ≡ true → list_all is_plain word ≡ true
word_is_plain [] is = absurd (let no : ⊥ = cc in no)
word_is_plain (c ∷ more) is =
    let parts = and_parts (begins_word c) (list_all continues_word more) is in
    let first : is_plain c ≡ true = let begins = parts.0 in grind (arith, nat_tests) in
    ap (λ (t : Bool). t && list_all is_plain more) first ∙ words_plain more parts.1

digit_plain : (b : ℕ) → is_ascii_digit b ≡ true → is_plain b ≡ true
digit_plain b is = grind (arith, nat_tests)

pub digits_plain : (bs : List ℕ) → list_all is_ascii_digit bs ≡ true → list_all is_plain bs ≡ true
digits_plain [] all = refl
digits_plain (b ∷ bs) all =
    let parts = and_parts (is_ascii_digit b) (list_all is_ascii_digit bs) all in
    ap (λ (t : Bool). t && list_all is_plain bs) (digit_plain b parts.0) ∙ digits_plain bs parts.1

-- a name and a key before bytes that end a call
pub name_ends : (name bytes : List ℕ) (most : ℕ) → IsTrue (is_name name) → EndsCall most bytes → EndsCall (32 + most) (name ++ bytes)
name_ends name bytes most named rest =
    let parts = and_parts (is_word name) (nat_le (length name) 32) named in
    let short : length name ≤ 32 = let fits = parts.1 in grind (arith, nat_tests) in
    plain_before name bytes 32 most (word_is_plain name parts.0) short rest

pub key_ends : (key bytes : List ℕ) (most : ℕ) → IsTrue (is_key key) → EndsCall most bytes → EndsCall (130 + most) (quoted_before key bytes)
key_ends key bytes most keyed rest =
    let short : length key ≤ 64 = let is = keyed in grind (arith, nat_tests) in
    quoted_ends key bytes 64 most short rest
