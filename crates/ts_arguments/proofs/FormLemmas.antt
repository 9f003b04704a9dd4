-- What phrases of one token and columns give has its form.
use Rattle.std.proofs.Common.{◌≡◌, ℕ, ◌==◌, ◌&&◌, true, IsTrue, List, [], ◌∷◌, Some, refl, arith, inl, inr, codes, ℤ, pos, ◌≤ℤ◌, int_le}
use Rattle.std.proofs.lemmas.Bool.{cases_Bool}
use Rattle.std.proofs.lemmas.Bool.Decides.{nat_tests}
use Rattle.ts_base.specs.Name.{is_name, is_key, name_if_any, key_if_any}
use Rattle.ts_base.specs.Moment.{read_stamp, moment_in, units_of as moment_units}
use Rattle.ts_row.specs.declared.kind.Column.{Column}
use Rattle.ts_row.specs.declared.value.Literal.TheVariants as literals
use Rattle.ts_text.specs.Phrase.{word_in, a_sign, behind, name_as}
use Rattle.ts_text.specs.declared.token.TokenKind.{TokenKind}
use Rattle.ts_text.specs.declared.token.TokenKind.TheVariants.{Word, Number, Text, Sign}
use Rattle.ts_text.proofs.CallerLemmas.{Yields, Shrinks, shrinks_of, chain, given, Any, of_token, sign_yields, behind_yields}
use Rattle.ts_tokens.specs.Tokens.{front, number_length, magnitude_length, fraction_length, closing, undoubled, said, units_of, scale_of}
use Rattle.ts_arguments.specs.Arguments.{a_literal, literal_in, a_column, a_name, a_key, key_in, a_set, set_in, set_if_any, a_stamp, stamp_in, a_text, text_in, a_joined, joined_in, a_type, type_in, kind_behind, a_small, small_in, a_word, a_whole, whole_in, within, a_stamp_column, joined_of, type_of}
use Rattle.ts_rolling.specs.Sets.{is_set}
use Rattle.ts_arguments.specs.declared.word.Joined.TheVariants.{Patterns}
use Rattle.ts_arguments.specs.declared.word.TypeName.{TypeName}
use Rattle.ts_arguments.specs.declared.word.TypeName.TheVariants.{SmallInt, Integer, BigInt, Decimal, VarChar}
use Rattle.ts_tokens.proofs.CallerLemmas.{front_laws, open_sign, close_sign, comma_sign}

-- the bytes of a name
name_is : (word a : List ℕ) → name_if_any word ≡ Some a → IsTrue (is_name a)
name_is word a is = elim (cases_Bool (is_name word)) [
  | inl t ↦ let at : Some word ≡ Some a = rw t at is in let same : word ≡ a = cc in rw (← same) t
  | inr f ↦ absurd (let no = rw f at is in cc)
]

key_is : (text a : List ℕ) → key_if_any text ≡ Some a → IsTrue (is_key a)
key_is text a is = elim (cases_Bool (is_key text)) [
  | inl t ↦ let at : Some text ≡ Some a = rw t at is in let same : text ≡ a = cc in rw (← same) t
  | inr f ↦ absurd (let no = rw f at is in cc)
]

abbrev pub IsName : List ℕ → Type 0
IsName name = IsTrue (is_name name)

abbrev pub IsKey : List ℕ → Type 0
IsKey key = IsTrue (is_key key)

abbrev pub IsSet : List ℕ → Type 0
IsSet set = IsTrue (is_set set)

name_of : (kind : TokenKind) (word a : List ℕ) → name_as kind word ≡ Some a → IsName a
name_of Word word a is = name_is word a is
name_of Number word a is = absurd (cc)
name_of Text word a is = absurd (cc)
name_of Sign word a is = absurd (cc)

key_of : (kind : TokenKind) (text a : List ℕ) → key_in kind text ≡ Some a → IsKey a
key_of Word text a is = absurd (cc)
key_of Number text a is = absurd (cc)
key_of Text text a is = key_is (said text) a is
key_of Sign text a is = absurd (cc)

set_is : (text a : List ℕ) → set_if_any text ≡ Some a → IsSet a
set_is text a is = elim (cases_Bool (is_set text)) [
  | inl t ↦ let at : Some text ≡ Some a = rw t at is in let same : text ≡ a = cc in rw (← same) t
  | inr f ↦ absurd (let no = rw f at is in cc)
]

set_of : (kind : TokenKind) (text a : List ℕ) → set_in kind text ≡ Some a → IsSet a
set_of Word text a is = absurd (cc)
set_of Number text a is = absurd (cc)
set_of Text text a is = set_is (said text) a is
set_of Sign text a is = absurd (cc)

-- the tokens, each with one that may stand there
pub name_yields : Yields front IsName a_name
unfolding a_name front
name_yields = of_token front front_laws IsName name_as (record { first = 97; more = []; kind = Word; found = 97 ∷ []; holds = refl; stands = refl; accepted = refl }) name_of

pub key_yields : Yields front IsKey a_key
unfolding a_key front closing undoubled
key_yields = of_token front front_laws IsKey key_in (record { first = 39; more = 97 ∷ 39 ∷ []; kind = Text; found = 97 ∷ []; holds = refl; stands = refl; accepted = refl }) key_of

pub set_yields : Yields front IsSet a_set
unfolding a_set front closing undoubled
set_yields = of_token front front_laws IsSet set_in (record { first = 39; more = 97 ∷ 39 ∷ []; kind = Text; found = 97 ∷ []; holds = refl; stands = refl; accepted = refl }) set_of

pub stamp_yields : Yields front Any a_stamp
unfolding a_stamp front closing undoubled read_stamp
stamp_yields = of_token front front_laws Any stamp_in (record { first = 39; more = codes "1970-01-01 00:00:00'"; kind = Text; found = moment_units (moment_in (codes "1970-01-01 00:00:00")); holds = tt; stands = refl; accepted = refl }) (λ kind text a e. tt)

pub literal_yields : Yields front Any a_literal
unfolding a_literal front
literal_yields = of_token front front_laws Any literal_in (record { first = 110; more = codes "ull"; kind = Word; found = literals.Null; holds = tt; stands = refl; accepted = refl }) (λ kind text a e. tt)

pub text_yields : Yields front Any a_text
unfolding a_text front closing undoubled
text_yields = of_token front front_laws Any text_in (record { first = 39; more = 39 ∷ []; kind = Text; found = []; holds = tt; stands = refl; accepted = refl }) (λ kind text a e. tt)

pub joined_yields : Yields front Any a_joined
unfolding a_joined front joined_of
joined_yields = of_token front front_laws Any joined_in (record { first = 112; more = codes "attern"; kind = Word; found = Patterns; holds = tt; stands = refl; accepted = refl }) (λ kind text a e. tt)

type_yields : Yields front Any a_type
unfolding a_type front type_of
type_yields = of_token front front_laws Any type_in (record { first = 105; more = codes "nteger"; kind = Word; found = Integer; holds = tt; stands = refl; accepted = refl }) (λ kind text a e. tt)

datetime_yields : Yields front Any (a_word (codes "datetime"))
unfolding a_word front
datetime_yields = of_token front front_laws Any (word_in (codes "datetime")) (record { first = 100; more = codes "atetime"; kind = Word; found = tt; holds = tt; stands = refl; accepted = refl }) (λ kind text a e. tt)

small_yields : Yields front Any a_small
unfolding a_small front number_length magnitude_length fraction_length
small_yields = of_token front front_laws Any small_in (record { first = 49; more = []; kind = Number; found = 1; holds = tt; stands = refl; accepted = refl }) (λ kind text a e. tt)

-- a number between the two
abbrev pub IsWithin : ℤ → ℤ → ℤ → Type 0
IsWithin least most number = (least ≤ℤ number) × (number ≤ℤ most)

within_is : (least most number a : ℤ) → within least most number ≡ Some a → IsWithin least most a
within_is least most number a is = elim (cases_Bool (int_le least number && int_le number most)) [
  | inl t ↦
      let at : Some number ≡ Some a = rw t at is in
      let same : number ≡ a = cc in
      rw (← same) (grind (arith, nat_tests))
  | inr f ↦ absurd (let no = rw f at is in cc)
]

whole_of : (least most : ℤ) (kind : TokenKind) (number : List ℕ) (a : ℤ) → whole_in least most kind number ≡ Some a → IsWithin least most a
whole_of least most Word number a is = absurd (cc)
whole_of least most Number number a is = elim (cases_Bool (scale_of number == 0)) [
  | inl t ↦ within_is least most (units_of number) a (rw t at is)
  | inr f ↦ absurd (let no = rw f at is in cc)
]
whole_of least most Text number a is = absurd (cc)
whole_of least most Sign number a is = absurd (cc)

-- a whole number, where 1 is one
pub whole_yields : (least most : ℤ) → int_le least (pos 1) ≡ true → int_le (pos 1) most ≡ true → Yields front (IsWithin least most) (a_whole least most)
unfolding a_whole front number_length magnitude_length fraction_length
whole_yields least most below above =
    of_token front front_laws (IsWithin least most) (whole_in least most)
    (record { first = 49; more = []; kind = Number; found = pos 1; holds = within_is least most (pos 1) (pos 1) one; stands = refl; accepted = one }) (whole_of least most) where
      one : within least most (pos 1) ≡ Some (pos 1)
      one = rw (below, above) refl

-- the numbers of a type
kind_yields : (type : TypeName) → Yields front Any (kind_behind type)
unfolding kind_behind
kind_yields SmallInt = given front Any _ tt
kind_yields Integer = given front Any _ tt
kind_yields BigInt = given front Any _ tt
kind_yields Decimal =
    chain front front_laws Any Any (behind 40 a_small) _ (behind_yields front front_laws Any 40 open_sign a_small small_yields)
    (λ digits d. chain front front_laws Any Any (behind 44 a_small) _ (behind_yields front front_laws Any 44 comma_sign a_small small_yields)
    (λ scale s. chain front front_laws Any Any (a_sign 41) _ (sign_yields front front_laws 41 close_sign) (λ end any. given front Any _ tt)))
kind_yields VarChar =
    chain front front_laws Any Any (behind 40 a_small) _ (behind_yields front front_laws Any 40 open_sign a_small small_yields)
    (λ size s. chain front front_laws Any Any (a_sign 41) _ (sign_yields front front_laws 41 close_sign) (λ end any. given front Any _ tt))

-- a column whose name is one
abbrev pub HasName : Column → Type 0
HasName column = IsName column.name

pub column_yields : Yields front HasName a_column
unfolding a_column
column_yields =
    chain front front_laws IsName HasName a_name _ name_yields
    (λ name n. chain front front_laws Any HasName a_type _ type_yields
    (λ type any. chain front front_laws Any HasName (kind_behind type) _ (kind_yields type) (λ kind k. given front HasName _ n)))

pub stamp_column_yields : Yields front IsName a_stamp_column
unfolding a_stamp_column
stamp_column_yields =
    chain front front_laws IsName IsName a_name _ name_yields
    (λ name n. chain front front_laws Any IsName (a_word (codes "datetime")) _ datetime_yields (λ type any. given front IsName _ n))

pub literal_shrinks : Shrinks a_literal
literal_shrinks = shrinks_of front Any a_literal literal_yields

pub column_shrinks : Shrinks a_column
column_shrinks = shrinks_of front HasName a_column column_yields
