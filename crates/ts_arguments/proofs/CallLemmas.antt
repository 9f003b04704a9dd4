-- What stands in the brackets of calls has its form.
use Rattle.std.proofs.Common.{◌≡◌, ℕ, ◌<◌, length, true, List, ◌∷◌, refl, arith, ℤ, pos, int_le}
use Rattle.std.specs.List.{AllByRecursion}
use Rattle.ts_row.specs.declared.kind.Column.{Column}
use Rattle.ts_text.specs.Phrase.{Phrase, a_sign, closed}
use Rattle.ts_text.proofs.CallerLemmas.{IsSign, Yields, chain, given, Any, sign_yields, closed_yields}
use Rattle.ts_tokens.specs.Tokens.{front}
use Rattle.ts_tokens.proofs.CallerLemmas.{front_laws, close_sign, comma_sign}
use Rattle.ts_arguments.specs.Arguments.{a_literal, a_column, a_name, a_key, a_stamp, a_text, a_joined, a_whole, a_stamp_column, a_set, before, two, name_before, key_before, text_before, stamp_before, whole_before, two_names, three_names, joined_names, name_and_text, name_and_whole, two_names_and_whole, key_and_name, key_and_whole, key_and_stamp, two_stamps, name_range, key_range, two_keys_range, name_key_range, text_key_range, text_name_range, text_name_key_range, whole_range, key_whole_range, text_key_whole_range, stamp_and_name, name_stamp_and_name, key_name_stamp_and_name, stamp_and_whole, name_stamp_and_whole, key_stamp_and_whole, stamp_and_values, key_stamp_and_values, some_columns, stamp_and_columns, name_and_columns, set_before, set_range, set_stamp_and_values, stamp_name_and_whole, name_stamp_name_and_whole, set_name_stamp_name_and_whole}
use Rattle.ts_arguments.proofs.FormLemmas.{IsName, IsKey, IsWithin, HasName, name_yields, key_yields, stamp_yields, literal_yields, text_yields, joined_yields, whole_yields, column_yields, stamp_column_yields, IsSet, set_yields}

-- a phrase, and a sign behind it
signed : {A : Type 0} (P : A → Type 0) (sign : ℕ) → IsSign front sign → (phrase : Phrase A) → Yields front P phrase → Yields front P (before sign phrase)
signed P sign is phrase one =
    chain front front_laws P P phrase _ one
    (λ a p. chain front front_laws Any P (a_sign sign) _ (sign_yields front front_laws sign is) (λ end any. given front P a p))

-- the two parts of a pair
abbrev Both : {A B : Type 0} → (A → Type 0) → (B → Type 0) → A × B → Type 0
Both P Q p = P p.0 × Q p.1

both : {A B : Type 0} (P : A → Type 0) (Q : B → Type 0) (first : Phrase A) (second : Phrase B) → Yields front P first → Yields front Q second → Yields front (Both P Q) (two first second)
both P Q first second one other =
    chain front front_laws P (Both P Q) first _ one
    (λ a p. chain front front_laws Q (Both P Q) second _ other (λ b q. given front (Both P Q) (a, b) (p, q)))

listed : {A : Type 0} (P : A → Type 0) (phrase : Phrase A) → Yields front P phrase → Yields front (AllByRecursion P) (closed 41 phrase)
listed P phrase one = closed_yields front front_laws P 41 comma_sign close_sign refl phrase one

-- names, keys, texts and stamps
pub name_before_yields : (sign : ℕ) → IsSign front sign → Yields front IsName (name_before sign)
unfolding name_before
name_before_yields sign is = signed IsName sign is a_name name_yields

pub key_before_yields : (sign : ℕ) → IsSign front sign → Yields front IsKey (key_before sign)
unfolding key_before
key_before_yields sign is = signed IsKey sign is a_key key_yields

text_before_yields : (sign : ℕ) → IsSign front sign → Yields front Any (text_before sign)
unfolding text_before
text_before_yields sign is = signed Any sign is a_text text_yields

stamp_before_yields : (sign : ℕ) → IsSign front sign → Yields front Any (stamp_before sign)
unfolding stamp_before
stamp_before_yields sign is = signed Any sign is a_stamp stamp_yields

pub two_names_yields : Yields front (Both IsName IsName) two_names
unfolding two_names
two_names_yields = both IsName IsName (name_before 44) (name_before 41) (name_before_yields 44 comma_sign) (name_before_yields 41 close_sign)

abbrev pub AreNames : List ℕ × (List ℕ × List ℕ) → Type 0
AreNames names = Both IsName (Both IsName IsName) names

three_names_yields : Yields front AreNames three_names
unfolding three_names
three_names_yields = both IsName (Both IsName IsName) (name_before 44) two_names (name_before_yields 44 comma_sign) two_names_yields

pub joined_names_yields : Yields front (Both Any AreNames) joined_names
unfolding joined_names
joined_names_yields = both Any AreNames (before 44 a_joined) three_names (signed Any 44 comma_sign a_joined joined_yields) three_names_yields

pub name_and_text_yields : Yields front (Both IsName Any) name_and_text
unfolding name_and_text
name_and_text_yields = both IsName Any (name_before 44) (text_before 41) (name_before_yields 44 comma_sign) (text_before_yields 41 close_sign)

pub key_and_name_yields : Yields front (Both IsKey IsName) key_and_name
unfolding key_and_name
key_and_name_yields = both IsKey IsName (key_before 44) (name_before 41) (key_before_yields 44 comma_sign) (name_before_yields 41 close_sign)

pub key_and_stamp_yields : Yields front (Both IsKey Any) key_and_stamp
unfolding key_and_stamp
key_and_stamp_yields = both IsKey Any (key_before 44) (stamp_before 41) (key_before_yields 44 comma_sign) (stamp_before_yields 41 close_sign)

-- so with whole numbers, where 1 is one
whole_before_yields : (sign : ℕ) → IsSign front sign → (least most : ℤ) → int_le least (pos 1) ≡ true → int_le (pos 1) most ≡ true → Yields front (IsWithin least most) (whole_before sign least most)
unfolding whole_before
whole_before_yields sign is least most below above = signed (IsWithin least most) sign is (a_whole least most) (whole_yields least most below above)

whole_closed_yields : (least most : ℤ) → int_le least (pos 1) ≡ true → int_le (pos 1) most ≡ true → Yields front (IsWithin least most) (whole_before 41 least most)
whole_closed_yields = whole_before_yields 41 close_sign

name_and_whole_yields : (least most : ℤ) → int_le least (pos 1) ≡ true → int_le (pos 1) most ≡ true → Yields front (Both IsName (IsWithin least most)) (name_and_whole least most)
unfolding name_and_whole
name_and_whole_yields least most below above = both IsName (IsWithin least most) (name_before 44) (whole_before 41 least most) (name_before_yields 44 comma_sign) (whole_closed_yields least most below above)

pub two_names_and_whole_yields : (least most : ℤ) → int_le least (pos 1) ≡ true → int_le (pos 1) most ≡ true → Yields front (Both IsName (Both IsName (IsWithin least most))) (two_names_and_whole least most)
unfolding two_names_and_whole
two_names_and_whole_yields least most below above = both IsName (Both IsName (IsWithin least most)) (name_before 44) (name_and_whole least most) (name_before_yields 44 comma_sign) (name_and_whole_yields least most below above)

pub key_and_whole_yields : (least most : ℤ) → int_le least (pos 1) ≡ true → int_le (pos 1) most ≡ true → Yields front (Both IsKey (IsWithin least most)) (key_and_whole least most)
unfolding key_and_whole
key_and_whole_yields least most below above = both IsKey (IsWithin least most) (key_before 44) (whole_before 41 least most) (key_before_yields 44 comma_sign) (whole_closed_yields least most below above)

stamp_and_whole_yields : (least most : ℤ) → int_le least (pos 1) ≡ true → int_le (pos 1) most ≡ true → Yields front (Both Any (IsWithin least most)) (stamp_and_whole least most)
unfolding stamp_and_whole
stamp_and_whole_yields least most below above = both Any (IsWithin least most) (stamp_before 44) (whole_before 41 least most) (stamp_before_yields 44 comma_sign) (whole_closed_yields least most below above)

pub name_stamp_and_whole_yields : (least most : ℤ) → int_le least (pos 1) ≡ true → int_le (pos 1) most ≡ true → Yields front (Both IsName (Both Any (IsWithin least most))) (name_stamp_and_whole least most)
unfolding name_stamp_and_whole
name_stamp_and_whole_yields least most below above = both IsName (Both Any (IsWithin least most)) (name_before 44) (stamp_and_whole least most) (name_before_yields 44 comma_sign) (stamp_and_whole_yields least most below above)

pub key_stamp_and_whole_yields : (least most : ℤ) → int_le least (pos 1) ≡ true → int_le (pos 1) most ≡ true → Yields front (Both IsKey (Both Any (IsWithin least most))) (key_stamp_and_whole least most)
unfolding key_stamp_and_whole
key_stamp_and_whole_yields least most below above = both IsKey (Both Any (IsWithin least most)) (key_before 44) (stamp_and_whole least most) (key_before_yields 44 comma_sign) (stamp_and_whole_yields least most below above)

-- with two stamps
two_stamps_yields : Yields front (Both Any Any) two_stamps
unfolding two_stamps
two_stamps_yields = both Any Any (stamp_before 44) (stamp_before 41) (stamp_before_yields 44 comma_sign) (stamp_before_yields 41 close_sign)

abbrev pub IsKeyRange : List ℕ × (ℤ × ℤ) → Type 0
IsKeyRange p = Both IsKey (Both Any Any) p

abbrev pub IsNameRange : List ℕ × (ℤ × ℤ) → Type 0
IsNameRange p = Both IsName (Both Any Any) p

pub key_range_yields : Yields front IsKeyRange key_range
unfolding key_range
key_range_yields = both IsKey (Both Any Any) (key_before 44) two_stamps (key_before_yields 44 comma_sign) two_stamps_yields

pub name_range_yields : Yields front IsNameRange name_range
unfolding name_range
name_range_yields = both IsName (Both Any Any) (name_before 44) two_stamps (name_before_yields 44 comma_sign) two_stamps_yields

pub two_keys_range_yields : Yields front (Both IsKey IsKeyRange) two_keys_range
unfolding two_keys_range
two_keys_range_yields = both IsKey IsKeyRange (key_before 44) key_range (key_before_yields 44 comma_sign) key_range_yields

abbrev pub IsNameAndKey : List ℕ × (List ℕ × (ℤ × ℤ)) → Type 0
IsNameAndKey p = Both IsName IsKeyRange p

pub name_key_range_yields : Yields front IsNameAndKey name_key_range
unfolding name_key_range
name_key_range_yields = both IsName IsKeyRange (name_before 44) key_range (name_before_yields 44 comma_sign) key_range_yields

-- a text, and what else a call has
pub with_text_yields : {A : Type 0} (P : A → Type 0) (other : Phrase A) → Yields front P other → Yields front (Both Any P) (two (text_before 44) other)
with_text_yields P other one = both Any P (text_before 44) other (text_before_yields 44 comma_sign) one

pub text_key_range_yields : Yields front (Both Any IsKeyRange) text_key_range
unfolding text_key_range
text_key_range_yields = with_text_yields IsKeyRange key_range key_range_yields

pub text_name_range_yields : Yields front (Both Any IsNameRange) text_name_range
unfolding text_name_range
text_name_range_yields = with_text_yields IsNameRange name_range name_range_yields

pub text_name_key_range_yields : Yields front (Both Any IsNameAndKey) text_name_key_range
unfolding text_name_key_range
text_name_key_range_yields = with_text_yields IsNameAndKey name_key_range name_key_range_yields

-- a text, a key, a whole number and two stamps
abbrev pub IsKeyAndWhole : ℤ → ℤ → List ℕ × (ℤ × (ℤ × ℤ)) → Type 0
IsKeyAndWhole least most p = Both IsKey (Both (IsWithin least most) (Both Any Any)) p

whole_range_yields : (least most : ℤ) → int_le least (pos 1) ≡ true → int_le (pos 1) most ≡ true → Yields front (Both (IsWithin least most) (Both Any Any)) (whole_range least most)
unfolding whole_range
whole_range_yields least most below above =
    both (IsWithin least most) (Both Any Any) (whole_before 44 least most) two_stamps (whole_before_yields 44 comma_sign least most below above) two_stamps_yields

pub key_whole_range_yields : (least most : ℤ) → int_le least (pos 1) ≡ true → int_le (pos 1) most ≡ true → Yields front (IsKeyAndWhole least most) (key_whole_range least most)
unfolding key_whole_range
key_whole_range_yields least most below above =
    both IsKey (Both (IsWithin least most) (Both Any Any)) (key_before 44) (whole_range least most) (key_before_yields 44 comma_sign) (whole_range_yields least most below above)

pub text_key_whole_range_yields : (least most : ℤ) → int_le least (pos 1) ≡ true → int_le (pos 1) most ≡ true → Yields front (Both Any (IsKeyAndWhole least most)) (text_key_whole_range least most)
unfolding text_key_whole_range
text_key_whole_range_yields least most below above = with_text_yields (IsKeyAndWhole least most) (key_whole_range least most) (key_whole_range_yields least most below above)

-- a key, a name, a stamp and a name
stamp_and_name_yields : Yields front (Both Any IsName) stamp_and_name
unfolding stamp_and_name
stamp_and_name_yields = both Any IsName (stamp_before 44) (name_before 41) (stamp_before_yields 44 comma_sign) (name_before_yields 41 close_sign)

name_stamp_and_name_yields : Yields front (Both IsName (Both Any IsName)) name_stamp_and_name
unfolding name_stamp_and_name
name_stamp_and_name_yields = both IsName (Both Any IsName) (name_before 44) stamp_and_name (name_before_yields 44 comma_sign) stamp_and_name_yields

pub key_name_stamp_and_name_yields : Yields front (Both IsKey (Both IsName (Both Any IsName))) key_name_stamp_and_name
unfolding key_name_stamp_and_name
key_name_stamp_and_name_yields = both IsKey (Both IsName (Both Any IsName)) (key_before 44) name_stamp_and_name (key_before_yields 44 comma_sign) name_stamp_and_name_yields

-- lists
stamp_and_values_yields : Yields front Any stamp_and_values
unfolding stamp_and_values
stamp_and_values_yields =
    chain front front_laws Any Any a_stamp _ stamp_yields
    (λ stamp s. chain front front_laws (AllByRecursion Any) Any (closed 41 a_literal) _ (listed Any a_literal literal_yields) (λ values v. given front Any _ tt))

pub key_stamp_and_values_yields : Yields front (Both IsKey Any) key_stamp_and_values
unfolding key_stamp_and_values
key_stamp_and_values_yields = both IsKey Any (key_before 44) stamp_and_values (key_before_yields 44 comma_sign) stamp_and_values_yields

abbrev AreColumns : List Column → Type 0
AreColumns columns = (0 < length columns) × AllByRecursion HasName columns

some_columns_yields : Yields front AreColumns some_columns
unfolding some_columns
some_columns_yields =
    chain front front_laws HasName AreColumns a_column _ column_yields
    (λ first f. chain front front_laws (AllByRecursion HasName) AreColumns (closed 41 a_column) _ (listed HasName a_column column_yields)
    (λ others o. given front AreColumns (first ∷ others) (omega arith, (f, o))))

stamp_and_columns_yields : Yields front (Both IsName AreColumns) stamp_and_columns
unfolding stamp_and_columns
stamp_and_columns_yields = both IsName AreColumns (before 44 a_stamp_column) some_columns (signed IsName 44 comma_sign a_stamp_column stamp_column_yields) some_columns_yields

pub name_and_columns_yields : Yields front (Both IsName (Both IsName AreColumns)) name_and_columns
unfolding name_and_columns
name_and_columns_yields = both IsName (Both IsName AreColumns) (name_before 44) stamp_and_columns (name_before_yields 44 comma_sign) stamp_and_columns_yields

-- what begins with the key of a set
pub set_before_yields : (sign : ℕ) → IsSign front sign → Yields front IsSet (set_before sign)
unfolding set_before
set_before_yields sign is = signed IsSet sign is a_set set_yields

pub set_range_yields : Yields front (Both IsSet (Both Any Any)) set_range
unfolding set_range
set_range_yields = both IsSet (Both Any Any) (set_before 44) two_stamps (set_before_yields 44 comma_sign) two_stamps_yields

pub set_stamp_and_values_yields : Yields front (Both IsSet Any) set_stamp_and_values
unfolding set_stamp_and_values
set_stamp_and_values_yields = both IsSet Any (set_before 44) stamp_and_values (set_before_yields 44 comma_sign) stamp_and_values_yields

stamp_name_and_whole_yields : (least most : ℤ) → int_le least (pos 1) ≡ true → int_le (pos 1) most ≡ true → Yields front (Both Any (Both IsName (IsWithin least most))) (stamp_name_and_whole least most)
unfolding stamp_name_and_whole
stamp_name_and_whole_yields least most below above =
    both Any (Both IsName (IsWithin least most)) (stamp_before 44) (name_and_whole least most) (stamp_before_yields 44 comma_sign) (name_and_whole_yields least most below above)

name_stamp_name_and_whole_yields : (least most : ℤ) → int_le least (pos 1) ≡ true → int_le (pos 1) most ≡ true → Yields front (Both IsName (Both Any (Both IsName (IsWithin least most)))) (name_stamp_name_and_whole least most)
unfolding name_stamp_name_and_whole
name_stamp_name_and_whole_yields least most below above =
    both IsName (Both Any (Both IsName (IsWithin least most))) (name_before 44) (stamp_name_and_whole least most) (name_before_yields 44 comma_sign) (stamp_name_and_whole_yields least most below above)

pub set_name_stamp_name_and_whole_yields : (least most : ℤ) → int_le least (pos 1) ≡ true → int_le (pos 1) most ≡ true → Yields front (Both IsSet (Both IsName (Both Any (Both IsName (IsWithin least most))))) (set_name_stamp_name_and_whole least most)
unfolding set_name_stamp_name_and_whole
set_name_stamp_name_and_whole_yields least most below above =
    both IsSet (Both IsName (Both Any (Both IsName (IsWithin least most)))) (set_before 44) (name_stamp_name_and_whole least most) (set_before_yields 44 comma_sign) (name_stamp_name_and_whole_yields least most below above)
