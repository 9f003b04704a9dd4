-- Arguments are read exactly where their tokens stand.
use Rattle.std.proofs.Common.{◌≡◌, ℕ, ℤ, ◌≤◌, ◌==◌, ◌&&◌, nat_le, ◌≤ℤ◌, Bool, true, false, cond, Option, Some, None, List, [], ◌∷◌, length, append-nil, refl, sym, ap, subst, ◌∙◌, arith, IsTrue}
use Rattle.std.specs.Prelude.{int_le, codes}
use Rattle.std.specs.List.{find, list_all}
use Rattle.std.specs.Str.{bytes_eq}
use Rattle.std.proofs.lemmas.Slice.Eq.{bytes_eq-Decides}
use Rattle.std.specs.Char.{is_ascii_digit}
use Rattle.std.proofs.lemmas.Bool.{and_parts}
use Rattle.std.proofs.lemmas.Bool.Decides.{nat_tests}
use Rattle.std.proofs.lemmas.Int.{ints}
use Rattle.ts_base.specs.Name.{is_name, is_key}
use Rattle.ts_rolling.specs.Sets.{is_set}
use Rattle.ts_base.specs.Moment.{read_stamp}
use Rattle.ts_row.specs.declared.kind.ColumnKind.{ColumnKind}
use Rattle.ts_row.specs.declared.kind.ColumnKind.TheVariants as kinds
use Rattle.ts_row.specs.declared.kind.Column.{Column}
use Rattle.ts_row.specs.declared.value.Literal.{Literal}
use Rattle.ts_row.specs.declared.value.Literal.TheVariants as literals
use Rattle.ts_text.specs.Phrase.{magnitude_of, Phrase, ◌>>=◌, give, token, word_in, name_as, a_sign, behind}
use Rattle.ts_text.specs.Spelling.{Lexeme}
use Rattle.ts_text.specs.declared.token.TokenKind.{TokenKind}
use Rattle.ts_text.specs.declared.token.TokenKind.TheVariants.{Word, Number, Text, Sign}
use Rattle.ts_tokens.specs.Tokens.{front, units_of, scale_of, said}
use Rattle.ts_tokens.proofs.CallerLemmas.{open_sign, close_sign, comma_sign}
use Rattle.ts_arguments.specs.declared.word.Joined.{Joined}
use Rattle.ts_arguments.specs.declared.word.Joined.TheVariants.{Patterns, Calendars}
use Rattle.ts_arguments.specs.Arguments.{joined_spelling, joined_of, type_spelling, type_of, types, a_name, key_in, a_key, set_in, a_set, stamp_in, a_stamp, text_in, a_text, literal_in, a_literal, within, whole_in, a_whole, small_in, a_small, a_word, a_stamp_column, type_in, a_type, kind_behind, a_column, joined_in, a_joined}
use Rattle.ts_statement_laws.specs.Statements.{NameOf, KeyOf, SetOf, StampOf, TextOf, WholeOf, WordOf, StampColumnOf, ColumnOf, ValueOf, One, Nothing, Then, IsWord, IsSign, IsText, IsName, IsSmall, IsWhole, IsValue, IsType, IsArgument}
use Rattle.ts_statement_laws.proofs.ExactLemmas.{Exact, exact_same, exact_token, exact_sign, exact_give, exact_bind, exact_bind_of, exact_parts, exact_behind, then_nothing}

-- one token, by what it is taken as
pub exact_one : {A : Type 0} (accept : TokenKind → List ℕ → Option A) (P : A → Lexeme → Type 0) → ((l : Lexeme) (a : A) → accept l.kind l.token ≡ Some a → P a l) → ((l : Lexeme) (a : A) → P a l → accept l.kind l.token ≡ Some a)
    → Exact (token front accept) (λ a. One (P a))
exact_one accept P to from =
    exact_same (token front accept) (λ a. One (λ l. accept l.kind l.token ≡ Some a)) (λ a. One (P a))
    (λ a ls (l, is, so). (l, is, to l a so)) (λ a ls (l, is, so). (l, is, from l a so)) (exact_token accept)

pub commas : Exact (a_sign 44) (λ found. One (IsSign 44))
commas = exact_sign 44 comma_sign refl

pub opens : Exact (a_sign 40) (λ found. One (IsSign 40))
opens = exact_sign 40 open_sign refl

pub closes : Exact (a_sign 41) (λ found. One (IsSign 41))
closes = exact_sign 41 close_sign refl

-- a test, and what it gives
given_if : {X : Type 0} (b : Bool) (x y : X) → cond b (Some x) None ≡ Some y → (b ≡ true) × (x ≡ y)
given_if true x y is = (refl, cc)
given_if false x y is = absurd (let never : ⊥ = cc in never)

if_given : {X : Type 0} (b : Bool) (x y : X) → b ≡ true → x ≡ y → cond b (Some x) None ≡ Some y
if_given true x y on same = ap Some same
if_given false x y on same = absurd (let never : ⊥ = cc in never)

-- names
name_to : (kind : TokenKind) (text name : List ℕ) → name_as kind text ≡ Some name → ((kind ≡ Word) × (text ≡ name)) × IsTrue (is_name name)
name_to Word text name is = let g = given_if (is_name text) text name is in ((refl, g.1), ap is_name (sym g.1) ∙ g.0)
name_to Number text name is = absurd (let never : ⊥ = cc in never)
name_to Text text name is = absurd (let never : ⊥ = cc in never)
name_to Sign text name is = absurd (let never : ⊥ = cc in never)

name_from : (kind : TokenKind) (text name : List ℕ) → ((kind ≡ Word) × (text ≡ name)) × IsTrue (is_name name) → name_as kind text ≡ Some name
name_from kind text name ((word, same), good) = ap (λ (k : TokenKind). name_as k text) word ∙ if_given (is_name text) text name (ap is_name same ∙ good) same

pub exact_name : Exact a_name (λ name. IsArgument (NameOf name))
unfolding a_name
exact_name = exact_one name_as IsName (λ l name is. name_to l.kind l.token name is) (λ l name is. name_from l.kind l.token name is)

-- keys, stamps and texts
key_to : (kind : TokenKind) (text key : List ℕ) → key_in kind text ≡ Some key → ((kind ≡ Text) × (said text ≡ key)) × IsTrue (is_key key)
key_to Text text key is = let g = given_if (is_key (said text)) (said text) key is in ((refl, g.1), ap is_key (sym g.1) ∙ g.0)
key_to Word text key is = absurd (let never : ⊥ = cc in never)
key_to Number text key is = absurd (let never : ⊥ = cc in never)
key_to Sign text key is = absurd (let never : ⊥ = cc in never)

key_from : (kind : TokenKind) (text key : List ℕ) → ((kind ≡ Text) × (said text ≡ key)) × IsTrue (is_key key) → key_in kind text ≡ Some key
key_from kind text key ((quoted, same), good) = ap (λ (k : TokenKind). key_in k text) quoted ∙ if_given (is_key (said text)) (said text) key (ap is_key same ∙ good) same

pub exact_key : Exact a_key (λ key. IsArgument (KeyOf key))
unfolding a_key
exact_key = exact_one key_in (λ key l. IsText key l × IsTrue (is_key key)) (λ l key is. key_to l.kind l.token key is) (λ l key is. key_from l.kind l.token key is)

set_to : (kind : TokenKind) (text set : List ℕ) → set_in kind text ≡ Some set → ((kind ≡ Text) × (said text ≡ set)) × IsTrue (is_set set)
set_to Text text set is = let g = given_if (is_set (said text)) (said text) set is in ((refl, g.1), ap is_set (sym g.1) ∙ g.0)
set_to Word text set is = absurd (let never : ⊥ = cc in never)
set_to Number text set is = absurd (let never : ⊥ = cc in never)
set_to Sign text set is = absurd (let never : ⊥ = cc in never)

set_from : (kind : TokenKind) (text set : List ℕ) → ((kind ≡ Text) × (said text ≡ set)) × IsTrue (is_set set) → set_in kind text ≡ Some set
set_from kind text set ((quoted, same), good) = ap (λ (k : TokenKind). set_in k text) quoted ∙ if_given (is_set (said text)) (said text) set (ap is_set same ∙ good) same

pub exact_set : Exact a_set (λ set. IsArgument (SetOf set))
unfolding a_set
exact_set = exact_one set_in (λ set l. IsText set l × IsTrue (is_set set)) (λ l set is. set_to l.kind l.token set is) (λ l set is. set_from l.kind l.token set is)

stamp_to : (kind : TokenKind) (text : List ℕ) (stamp : ℤ) → stamp_in kind text ≡ Some stamp → (kind ≡ Text) × (read_stamp (said text) ≡ Some stamp)
stamp_to Text text stamp is = (refl, is)
stamp_to Word text stamp is = absurd (let never : ⊥ = cc in never)
stamp_to Number text stamp is = absurd (let never : ⊥ = cc in never)
stamp_to Sign text stamp is = absurd (let never : ⊥ = cc in never)

pub exact_stamp : Exact a_stamp (λ stamp. IsArgument (StampOf stamp))
unfolding a_stamp
exact_stamp = exact_one stamp_in (λ stamp l. (l.kind ≡ Text) × (read_stamp (said l.token) ≡ Some stamp)) (λ l stamp is. stamp_to l.kind l.token stamp is)
    (λ l stamp is. ap (λ (k : TokenKind). stamp_in k l.token) is.0 ∙ is.1)

text_to : (kind : TokenKind) (text says : List ℕ) → text_in kind text ≡ Some says → (kind ≡ Text) × (said text ≡ says)
text_to Text text says is = (refl, cc)
text_to Word text says is = absurd (let never : ⊥ = cc in never)
text_to Number text says is = absurd (let never : ⊥ = cc in never)
text_to Sign text says is = absurd (let never : ⊥ = cc in never)

pub exact_text : Exact a_text (λ text. IsArgument (TextOf text))
unfolding a_text
exact_text = exact_one text_in IsText (λ l says is. text_to l.kind l.token says is) (λ l says is. ap (λ (k : TokenKind). text_in k l.token) is.0 ∙ ap Some is.1)

-- numbers
between_to : (least most n : ℤ) → (int_le least n && int_le n most) ≡ true → (least ≤ℤ n) × (n ≤ℤ most)
between_to least most n is = let both = and_parts (int_le least n) (int_le n most) is in (le_to least n both.0, le_to n most both.1) where
  le_to : (a b : ℤ) → int_le a b ≡ true → a ≤ℤ b
  le_to a b is = grind (arith, ints)

between_from : (least most n : ℤ) → least ≤ℤ n → n ≤ℤ most → (int_le least n && int_le n most) ≡ true
between_from least most n low high = ap (λ (b : Bool). b && int_le n most) (le_from least n low) ∙ le_from n most high where
  le_from : (a b : ℤ) → a ≤ℤ b → int_le a b ≡ true
  le_from a b is = grind (arith, ints)

whole_to : (least most n : ℤ) (kind : TokenKind) (text : List ℕ) → whole_in least most kind text ≡ Some n → (kind ≡ Number) × (scale_of text ≡ 0) × (units_of text ≡ n) × (least ≤ℤ n) × (n ≤ℤ most)
whole_to least most n Number text is = by (scale_of text == 0) refl is where
  by : (b : Bool) → (scale_of text == 0) ≡ b → cond b (within least most (units_of text)) None ≡ Some n → (Number ≡ Number) × (scale_of text ≡ 0) × (units_of text ≡ n) × (least ≤ℤ n) × (n ≤ℤ most)
  by true none is =
      let g = given_if (int_le least (units_of text) && int_le (units_of text) most) (units_of text) n is in
      let whole : scale_of text ≡ 0 = grind (arith, nat_tests) in
      let range = between_to least most n (ap (λ (z : ℤ). int_le least z && int_le z most) (sym g.1) ∙ g.0) in
      (refl, whole, g.1, range.0, range.1)
  by false some is = absurd (let never : ⊥ = cc in never)
whole_to least most n Word text is = absurd (let never : ⊥ = cc in never)
whole_to least most n Text text is = absurd (let never : ⊥ = cc in never)
whole_to least most n Sign text is = absurd (let never : ⊥ = cc in never)

whole_from : (least most n : ℤ) (kind : TokenKind) (text : List ℕ) → (kind ≡ Number) × (scale_of text ≡ 0) × (units_of text ≡ n) × (least ≤ℤ n) × (n ≤ℤ most) → whole_in least most kind text ≡ Some n
whole_from least most n kind text (number, whole, same, low, high) =
    let test : (scale_of text == 0) ≡ true = grind (arith, nat_tests) in
    ap (λ (k : TokenKind). whole_in least most k text) number ∙ ap (λ (b : Bool). cond b (within least most (units_of text)) None) test
    ∙ if_given (int_le least (units_of text) && int_le (units_of text) most) (units_of text) n (ap (λ (z : ℤ). int_le least z && int_le z most) same ∙ between_from least most n low high) same

pub exact_whole : (least most : ℤ) → Exact (a_whole least most) (λ n. IsArgument (WholeOf least most n))
unfolding a_whole
exact_whole least most = exact_one (whole_in least most) (IsWhole least most) (λ l n is. whole_to least most n l.kind l.token is) (λ l n is. whole_from least most n l.kind l.token is)

small_to : (n : ℕ) (kind : TokenKind) (text : List ℕ) → small_in kind text ≡ Some n → (kind ≡ Number) × (length text ≤ 3) × IsTrue (list_all is_ascii_digit text) × (magnitude_of text ≡ n)
small_to n Number text is =
    let g = given_if (nat_le (length text) 3 && list_all is_ascii_digit text) (magnitude_of text) n is in
    let both = and_parts (nat_le (length text) 3) (list_all is_ascii_digit text) g.0 in
    let test = both.0 in
    let few : length text ≤ 3 = grind (arith, nat_tests) in
    (refl, few, both.1, g.1)
small_to n Word text is = absurd (let never : ⊥ = cc in never)
small_to n Text text is = absurd (let never : ⊥ = cc in never)
small_to n Sign text is = absurd (let never : ⊥ = cc in never)

small_from : (n : ℕ) (kind : TokenKind) (text : List ℕ) → (kind ≡ Number) × (length text ≤ 3) × IsTrue (list_all is_ascii_digit text) × (magnitude_of text ≡ n) → small_in kind text ≡ Some n
small_from n kind text (number, few, digits, same) =
    let test : nat_le (length text) 3 ≡ true = grind (arith, nat_tests) in
    ap (λ (k : TokenKind). small_in k text) number
    ∙ if_given (nat_le (length text) 3 && list_all is_ascii_digit text) (magnitude_of text) n (ap (λ (b : Bool). b && list_all is_ascii_digit text) test ∙ digits) same

pub exact_small : Exact a_small (λ n. One (IsSmall n))
unfolding a_small
exact_small = exact_one small_in IsSmall (λ l n is. small_to n l.kind l.token is) (λ l n is. small_from n l.kind l.token is)

-- words
pub same_bytes : (a b : List ℕ) → bytes_eq a b ≡ true → a ≡ b
same_bytes a b is = (bytes_eq-Decides a b).0 is

pub bytes_same : (a b : List ℕ) → a ≡ b → bytes_eq a b ≡ true
bytes_same a b is = (bytes_eq-Decides a b).1 is

word_to : (word : List ℕ) (kind : TokenKind) (text : List ℕ) → word_in word kind text ≡ Some tt → (kind ≡ Word) × (text ≡ word)
word_to word Word text is = (refl, same_bytes text word (given_if (bytes_eq text word) tt tt is).0)
word_to word Number text is = absurd (let never : ⊥ = cc in never)
word_to word Text text is = absurd (let never : ⊥ = cc in never)
word_to word Sign text is = absurd (let never : ⊥ = cc in never)

word_from : (word : List ℕ) (kind : TokenKind) (text : List ℕ) → (kind ≡ Word) × (text ≡ word) → word_in word kind text ≡ Some tt
word_from word kind text (is, same) = ap (λ (k : TokenKind). word_in word k text) is ∙ if_given (bytes_eq text word) tt tt (bytes_same text word same) refl

pub exact_word : (word : List ℕ) → Exact (a_word word) (λ u. One (IsWord word))
unfolding a_word
exact_word word = exact_one (word_in word) (λ u. IsWord word) (λ l u is. word_to word l.kind l.token is) (λ l u is. word_from word l.kind l.token is)

-- what is found in a table passes its test
pub found_passes : {X : Type 0} (test : X → Bool) (xs : List X) (x : X) → find test xs ≡ Some x → test x ≡ true
found_passes test [] x is = absurd (let never : ⊥ = cc in never)
found_passes {X} test (y ∷ ys) x is = by (test y) refl is (found_passes test ys x) where
  by : (b : Bool) → test y ≡ b → cond b (Some y) (find test ys) ≡ Some x → (find test ys ≡ Some x → test x ≡ true) → test x ≡ true
  by true on at more = let same : y ≡ x = cc in ap test (sym same) ∙ on
  by false off at more = more at

joined_to : (j : Joined) (kind : TokenKind) (text : List ℕ) → joined_in kind text ≡ Some j → (kind ≡ Word) × (text ≡ joined_spelling j)
unfolding joined_of
joined_to j Word text is = (refl, sym (same_bytes (joined_spelling j) text (found_passes (λ (x : Joined). bytes_eq (joined_spelling x) text) (Patterns ∷ Calendars ∷ []) j is)))
joined_to j Number text is = absurd (let never : ⊥ = cc in never)
joined_to j Text text is = absurd (let never : ⊥ = cc in never)
joined_to j Sign text is = absurd (let never : ⊥ = cc in never)

joined_found : (j : Joined) → joined_of (joined_spelling j) ≡ Some j
unfolding joined_of
joined_found Patterns = refl
joined_found Calendars = refl

joined_from : (j : Joined) (kind : TokenKind) (text : List ℕ) → (kind ≡ Word) × (text ≡ joined_spelling j) → joined_in kind text ≡ Some j
joined_from j kind text (word, same) = ap (λ (k : TokenKind). joined_in k text) word ∙ ap joined_of same ∙ joined_found j

pub exact_joined : Exact a_joined (λ j. IsArgument (WordOf (joined_spelling j)))
unfolding a_joined
exact_joined = exact_one joined_in (λ j. IsWord (joined_spelling j)) (λ l j is. joined_to j l.kind l.token is) (λ l j is. joined_from j l.kind l.token is)

-- values
value_to : (v : Literal) (l : Lexeme) → literal_in l.kind l.token ≡ Some v → IsValue v l
value_to v l is = by l.kind refl is where
  null_to : (v : Literal) → (l.kind ≡ Word) → cond (bytes_eq l.token (codes "null")) (Some literals.Null) None ≡ Some v → IsValue v l
  null_to v word at =
      let g = given_if (bytes_eq l.token (codes "null")) literals.Null v at in
      subst (λ (x : Literal). IsValue x l) g.1 (word, same_bytes l.token (codes "null") g.0)

  by : (kind : TokenKind) → l.kind ≡ kind → literal_in kind l.token ≡ Some v → IsValue v l
  by Word kind at = null_to v kind at
  by Number kind at = let same : literals.Number (units_of l.token) (scale_of l.token) ≡ v = cc in subst (λ (x : Literal). IsValue x l) same (kind, refl, refl)
  by Text kind at = let same : literals.Text (said l.token) ≡ v = cc in subst (λ (x : Literal). IsValue x l) same (kind, refl)
  by Sign kind at = absurd (let never : ⊥ = cc in never)

value_from : (v : Literal) (l : Lexeme) → IsValue v l → literal_in l.kind l.token ≡ Some v
value_from literals.Null l (word, same) = ap (λ (k : TokenKind). literal_in k l.token) word ∙ if_given (bytes_eq l.token (codes "null")) literals.Null literals.Null (bytes_same l.token (codes "null") same) refl
value_from (literals.Number units scale) l (number, same, also) =
    ap (λ (k : TokenKind). literal_in k l.token) number ∙ ap (λ (u : ℤ). Some (literals.Number u (scale_of l.token))) same ∙ ap (λ (n : ℕ). Some (literals.Number units n)) also
value_from (literals.Text text) l (quoted, same) = ap (λ (k : TokenKind). literal_in k l.token) quoted ∙ ap (λ (t : List ℕ). Some (literals.Text t)) same

pub exact_value : Exact a_literal (λ v. IsArgument (ValueOf v))
unfolding a_literal
exact_value = exact_one literal_in IsValue (λ l v is. value_to v l is) (λ l v is. value_from v l is)

-- columns
pub exact_stamp_column : Exact a_stamp_column (λ name. IsArgument (StampColumnOf name))
unfolding a_stamp_column
exact_stamp_column =
    exact_same a_stamp_column (λ name ls. (a : List ℕ) × Then (One (IsName a)) (λ ms. (u : Unit {0}) × Then (One (IsWord (codes "datetime"))) (λ ns. (a ≡ name) × Nothing ns) ms) ls) (λ name. IsArgument (StampColumnOf name))
    (λ name ls (a, (front_, back, is, r, (u, (ls_word, ls_none, also, s, (same, none))))).
    (front_, back, is, subst (λ (x : List ℕ). One (IsName x) front_) same r, then_nothing (One (IsWord (codes "datetime"))) back (ls_word, ls_none, also, s, none)))
    (λ name ls (front_, back, is, r, s). (name, (front_, back, is, r, (tt, (back, [], sym (append-nil back), s, (refl, refl))))))
    (exact_bind a_name (λ name. a_word (codes "datetime") >>= (λ type. give name)) (λ a. One (IsName a)) (λ a name ls. (u : Unit {0}) × Then (One (IsWord (codes "datetime"))) (λ ns. (a ≡ name) × Nothing ns) ls) exact_name
    (λ a. exact_bind (a_word (codes "datetime")) (λ type. give a) (λ u. One (IsWord (codes "datetime"))) (λ u name ls. (a ≡ name) × Nothing ls) (exact_word (codes "datetime")) (λ u. exact_give a)))

-- the name of a type, and its numbers
abbrev word_of : ColumnKind → List ℕ
word_of kinds.SmallInt = codes "smallint"
word_of kinds.Integer = codes "integer"
word_of kinds.BigInt = codes "bigint"
word_of (kinds.Decimal digits scale) = codes "decimal"
word_of (kinds.VarChar most) = codes "varchar"

abbrev numbers_of : ColumnKind → List Lexeme → Type 0
numbers_of kinds.SmallInt = Nothing
numbers_of kinds.Integer = Nothing
numbers_of kinds.BigInt = Nothing
numbers_of (kinds.Decimal digits scale) = Then (Then (One (IsSign 40)) (One (IsSmall digits))) (Then (Then (One (IsSign 44)) (One (IsSmall scale))) (One (IsSign 41)))
numbers_of (kinds.VarChar most) = Then (Then (One (IsSign 40)) (One (IsSmall most))) (One (IsSign 41))

type_parts : (kind : ColumnKind) (ls : List Lexeme) → IsType kind ls → Then (One (IsWord (word_of kind))) (numbers_of kind) ls
type_parts kinds.SmallInt ls is = is
type_parts kinds.Integer ls is = is
type_parts kinds.BigInt ls is = is
type_parts (kinds.Decimal digits scale) ls is = is
type_parts (kinds.VarChar most) ls is = is

parts_type : (kind : ColumnKind) (ls : List Lexeme) → Then (One (IsWord (word_of kind))) (numbers_of kind) ls → IsType kind ls
parts_type kinds.SmallInt ls is = is
parts_type kinds.Integer ls is = is
parts_type kinds.BigInt ls is = is
parts_type (kinds.Decimal digits scale) ls is = is
parts_type (kinds.VarChar most) ls is = is

-- the numbers of the type of this name
HasNumbers : List ℕ → ColumnKind → List Lexeme → Type 0
HasNumbers word kind ls = (word ≡ word_of kind) × numbers_of kind ls

-- words that are not the same
differ : (a b : List ℕ) → bytes_eq a b ≡ false → a ≡ b → ⊥
differ a b off same = let on = bytes_same a b same in cc

plain_numbers : (word : List ℕ) (kind : ColumnKind) → word ≡ word_of kind → ((other : ColumnKind) → word ≡ word_of other → kind ≡ other) → numbers_of kind ≡ Nothing → Exact (give kind) (HasNumbers word)
unfolding HasNumbers
plain_numbers word kind is only none =
    exact_same (give kind) (λ k ls. (kind ≡ k) × Nothing ls) (HasNumbers word)
    (λ k ls (same, nothing). subst (λ (x : ColumnKind). (word ≡ word_of x) × numbers_of x ls) same (is, subst (λ (P : List Lexeme → Type 0). P ls) (sym none) nothing))
    (λ k ls (own, numbers). let same = only k own in (same, subst (λ (P : List Lexeme → Type 0). P ls) none (subst (λ (x : ColumnKind). numbers_of x ls) (sym same) numbers)))
    (exact_give kind)

only_small : (other : ColumnKind) → codes "smallint" ≡ word_of other → kinds.SmallInt ≡ other
only_small kinds.SmallInt is = refl
only_small kinds.Integer is = absurd (differ (codes "smallint") (codes "integer") refl is)
only_small kinds.BigInt is = absurd (differ (codes "smallint") (codes "bigint") refl is)
only_small (kinds.Decimal digits scale) is = absurd (differ (codes "smallint") (codes "decimal") refl is)
only_small (kinds.VarChar most) is = absurd (differ (codes "smallint") (codes "varchar") refl is)

only_integer : (other : ColumnKind) → codes "integer" ≡ word_of other → kinds.Integer ≡ other
only_integer kinds.Integer is = refl
only_integer kinds.SmallInt is = absurd (differ (codes "integer") (codes "smallint") refl is)
only_integer kinds.BigInt is = absurd (differ (codes "integer") (codes "bigint") refl is)
only_integer (kinds.Decimal digits scale) is = absurd (differ (codes "integer") (codes "decimal") refl is)
only_integer (kinds.VarChar most) is = absurd (differ (codes "integer") (codes "varchar") refl is)

only_big : (other : ColumnKind) → codes "bigint" ≡ word_of other → kinds.BigInt ≡ other
only_big kinds.BigInt is = refl
only_big kinds.SmallInt is = absurd (differ (codes "bigint") (codes "smallint") refl is)
only_big kinds.Integer is = absurd (differ (codes "bigint") (codes "integer") refl is)
only_big (kinds.Decimal digits scale) is = absurd (differ (codes "bigint") (codes "decimal") refl is)
only_big (kinds.VarChar most) is = absurd (differ (codes "bigint") (codes "varchar") refl is)

-- what is read of the numbers in brackets
abbrev DecimalRead : ColumnKind → List Lexeme → Type 0
DecimalRead kind ls =
    (digits : ℕ) × Then (Then (One (IsSign 40)) (One (IsSmall digits)))
    (λ ms. (scale : ℕ) × Then (Then (One (IsSign 44)) (One (IsSmall scale))) (λ ns. (u : Unit {0}) × Then (One (IsSign 41)) (λ os. (kinds.Decimal digits scale ≡ kind) × Nothing os) ns) ms) ls

abbrev TextRead : ColumnKind → List Lexeme → Type 0
TextRead kind ls = (most : ℕ) × Then (Then (One (IsSign 40)) (One (IsSmall most))) (λ ms. (u : Unit {0}) × Then (One (IsSign 41)) (λ ns. (kinds.VarChar most ≡ kind) × Nothing ns) ms) ls

decimal_to : (kind : ColumnKind) (ls : List Lexeme) → DecimalRead kind ls → HasNumbers (codes "decimal") kind ls
unfolding HasNumbers
decimal_to kind ls (digits, (f1, b1, is1, r1, (scale, (f2, b2, is2, r2, (u, (f3, b3, is3, s, (same, none))))))) =
    subst (λ (k : ColumnKind). (codes "decimal" ≡ word_of k) × numbers_of k ls) same
    (refl, (f1, b1, is1, r1, (f2, b2, is2, r2, then_nothing (One (IsSign 41)) b2 (f3, b3, is3, s, none))))

decimal_from : (kind : ColumnKind) (ls : List Lexeme) → HasNumbers (codes "decimal") kind ls → DecimalRead kind ls
unfolding HasNumbers
decimal_from (kinds.Decimal digits scale) ls (is, (f1, b1, is1, r1, (f2, b2, is2, r2, s))) = (digits, (f1, b1, is1, r1, (scale, (f2, b2, is2, r2, (tt, (b2, [], sym (append-nil b2), s, (refl, refl)))))))
decimal_from kinds.SmallInt ls (is, numbers) = absurd (differ (codes "decimal") (codes "smallint") refl is)
decimal_from kinds.Integer ls (is, numbers) = absurd (differ (codes "decimal") (codes "integer") refl is)
decimal_from kinds.BigInt ls (is, numbers) = absurd (differ (codes "decimal") (codes "bigint") refl is)
decimal_from (kinds.VarChar most) ls (is, numbers) = absurd (differ (codes "decimal") (codes "varchar") refl is)

length_to : (kind : ColumnKind) (ls : List Lexeme) → TextRead kind ls → HasNumbers (codes "varchar") kind ls
unfolding HasNumbers
length_to kind ls (most, (f1, b1, is1, r1, (u, (f2, b2, is2, s, (same, none))))) =
    subst (λ (k : ColumnKind). (codes "varchar" ≡ word_of k) × numbers_of k ls) same
    (refl, (f1, b1, is1, r1, then_nothing (One (IsSign 41)) b1 (f2, b2, is2, s, none)))

length_from : (kind : ColumnKind) (ls : List Lexeme) → HasNumbers (codes "varchar") kind ls → TextRead kind ls
unfolding HasNumbers
length_from (kinds.VarChar most) ls (is, (f1, b1, is1, r1, s)) = (most, (f1, b1, is1, r1, (tt, (b1, [], sym (append-nil b1), s, (refl, refl)))))
length_from kinds.SmallInt ls (is, numbers) = absurd (differ (codes "varchar") (codes "smallint") refl is)
length_from kinds.Integer ls (is, numbers) = absurd (differ (codes "varchar") (codes "integer") refl is)
length_from kinds.BigInt ls (is, numbers) = absurd (differ (codes "varchar") (codes "bigint") refl is)
length_from (kinds.Decimal digits scale) ls (is, numbers) = absurd (differ (codes "varchar") (codes "decimal") refl is)

decimal_numbers : Phrase ColumnKind
decimal_numbers = behind 40 a_small >>= (λ digits. behind 44 a_small >>= (λ scale. a_sign 41 >>= (λ end. give (kinds.Decimal digits scale))))

exact_decimal : Exact decimal_numbers (HasNumbers (codes "decimal"))
unfolding decimal_numbers
exact_decimal =
    exact_same decimal_numbers DecimalRead (HasNumbers (codes "decimal")) decimal_to decimal_from
    (exact_bind (behind 40 a_small) (λ digits. behind 44 a_small >>= (λ scale. a_sign 41 >>= (λ end. give (kinds.Decimal digits scale)))) (λ digits. Then (One (IsSign 40)) (One (IsSmall digits)))
    (λ digits kind ls. (scale : ℕ) × Then (Then (One (IsSign 44)) (One (IsSmall scale))) (λ ns. (u : Unit {0}) × Then (One (IsSign 41)) (λ os. (kinds.Decimal digits scale ≡ kind) × Nothing os) ns) ls)
    (exact_behind 40 a_small (λ n. One (IsSmall n)) opens exact_small)
    (λ digits. exact_bind (behind 44 a_small) (λ scale. a_sign 41 >>= (λ end. give (kinds.Decimal digits scale))) (λ scale. Then (One (IsSign 44)) (One (IsSmall scale)))
    (λ scale kind ls. (u : Unit {0}) × Then (One (IsSign 41)) (λ os. (kinds.Decimal digits scale ≡ kind) × Nothing os) ls)
    (exact_behind 44 a_small (λ n. One (IsSmall n)) commas exact_small)
    (λ scale. exact_bind (a_sign 41) (λ end. give (kinds.Decimal digits scale)) (λ u. One (IsSign 41)) (λ u kind ls. (kinds.Decimal digits scale ≡ kind) × Nothing ls) closes (λ u. exact_give (kinds.Decimal digits scale)))))

length_numbers : Phrase ColumnKind
length_numbers = behind 40 a_small >>= (λ most. a_sign 41 >>= (λ end. give (kinds.VarChar most)))

exact_length : Exact length_numbers (HasNumbers (codes "varchar"))
unfolding length_numbers
exact_length =
    exact_same length_numbers TextRead (HasNumbers (codes "varchar")) length_to length_from
    (exact_bind (behind 40 a_small) (λ most. a_sign 41 >>= (λ end. give (kinds.VarChar most))) (λ most. Then (One (IsSign 40)) (One (IsSmall most)))
    (λ most kind ls. (u : Unit {0}) × Then (One (IsSign 41)) (λ ns. (kinds.VarChar most ≡ kind) × Nothing ns) ls)
    (exact_behind 40 a_small (λ n. One (IsSmall n)) opens exact_small)
    (λ most. exact_bind (a_sign 41) (λ end. give (kinds.VarChar most)) (λ u. One (IsSign 41)) (λ u kind ls. (kinds.VarChar most ≡ kind) × Nothing ls) closes (λ u. exact_give (kinds.VarChar most))))

-- A type that has no name out of its crate, by a list of its values: what holds of each of these holds of one that is
-- found.
abbrev pub TypeIn : {A : Type 0} → List A → Type 0
TypeIn {A} list = A

abbrev pub Each : {A : Type 0} → (A → Type 0) → List A → Type 0
Each G [] = Unit {0}
Each G (x ∷ xs) = G x × Each G xs

pub found_each : {A : Type 0} (test : A → Bool) (G : A → Type 0) (xs : List A) → Each G xs → (x : A) → find test xs ≡ Some x → G x
found_each test G [] each x is = absurd (let never : ⊥ = cc in never)
found_each {A} test G (y ∷ ys) (gy, each) x is = by (test y) refl is (found_each test G ys each x) where
  by : (b : Bool) → test y ≡ b → cond b (Some y) (find test ys) ≡ Some x → (find test ys ≡ Some x → G x) → G x
  by true on at others = let same : y ≡ x = cc in subst G same gy
  by false off at others = others at

-- the names of types
abbrev NameOfType : Type 0
NameOfType = TypeIn types

each_type : Each (λ t. Exact (kind_behind t) (HasNumbers (type_spelling t))) types
unfolding kind_behind decimal_numbers length_numbers
each_type = (
  plain_numbers (codes "smallint") kinds.SmallInt refl only_small refl,
  (plain_numbers (codes "integer") kinds.Integer refl only_integer refl, (plain_numbers (codes "bigint") kinds.BigInt refl only_big refl, (exact_decimal, (exact_length, tt)))),
)

type_to : (kind : TokenKind) (text : List ℕ) (t : NameOfType) → type_in kind text ≡ Some t → (kind ≡ Word) × (text ≡ type_spelling t) × Exact (kind_behind t) (HasNumbers (type_spelling t))
unfolding type_of
type_to Word text t is = (
  refl,
  sym (same_bytes (type_spelling t) text (found_passes (λ x. bytes_eq (type_spelling x) text) types t is)),
  found_each (λ x. bytes_eq (type_spelling x) text) (λ x. Exact (kind_behind x) (HasNumbers (type_spelling x))) types each_type t is,
)
type_to Number text t is = absurd (let never : ⊥ = cc in never)
type_to Text text t is = absurd (let never : ⊥ = cc in never)
type_to Sign text t is = absurd (let never : ⊥ = cc in never)

type_from : (kind : ColumnKind) → (t : NameOfType) × (type_of (word_of kind) ≡ Some t) × (type_spelling t ≡ word_of kind)
unfolding type_of
type_from kinds.SmallInt = (_, refl, refl)
type_from kinds.Integer = (_, refl, refl)
type_from kinds.BigInt = (_, refl, refl)
type_from (kinds.Decimal digits scale) = (_, refl, refl)
type_from (kinds.VarChar most) = (_, refl, refl)

-- a type
exact_type : Exact (a_type >>= kind_behind) IsType
unfolding a_type HasNumbers
exact_type =
    exact_same (a_type >>= kind_behind) (λ kind ls. (t : NameOfType) × Then (One (λ l. type_in l.kind l.token ≡ Some t)) (HasNumbers (type_spelling t) kind) ls) IsType to from
    (exact_bind_of a_type kind_behind (λ t. One (λ l. type_in l.kind l.token ≡ Some t)) (λ t. HasNumbers (type_spelling t)) (exact_token type_in)
    (λ t ls (l, is, so). (type_to l.kind l.token t so).2)) where
      to : (kind : ColumnKind) (ls : List Lexeme) → (t : NameOfType) × Then (One (λ l. type_in l.kind l.token ≡ Some t)) (HasNumbers (type_spelling t) kind) ls → IsType kind ls
      to kind ls (t, (front_, back, is, (l, lone, so), (own, numbers))) =
          let word = type_to l.kind l.token t so in
          parts_type kind ls (front_, back, is, (l, lone, (word.0, word.1 ∙ own)), numbers)

      from : (kind : ColumnKind) (ls : List Lexeme) → IsType kind ls → (t : NameOfType) × Then (One (λ l. type_in l.kind l.token ≡ Some t)) (HasNumbers (type_spelling t) kind) ls
      from kind ls type =
          let parts = type_parts kind ls type in
          let (l, lone, (word, same)) = parts.3 in
          let found = type_from kind in
          (found.0, (parts.0, parts.1, parts.2, (l, lone, ap (λ (k : TokenKind). type_in k l.token) word ∙ ap type_of same ∙ found.1), (found.2, parts.4)))

-- a value column
abbrev ColumnRead : Column → List Lexeme → Type 0
ColumnRead column ls =
    (name : List ℕ) × Then (One (IsName name)) (λ ms. (kind : ColumnKind) × Then (IsType kind) (λ ns. (record { name = name; kind = kind } ≡ column) × Nothing ns) ms) ls

column_to : (column : Column) (ls : List Lexeme) → ColumnRead column ls → IsArgument (ColumnOf column) ls
column_to column ls (name, (f1, b1, is1, r1, (kind, (f2, b2, is2, r2, (same, none))))) =
    subst (λ (c : Column). IsArgument (ColumnOf c) ls) same (f1, b1, is1, r1, then_nothing (IsType kind) b1 (f2, b2, is2, r2, none))

column_from : (column : Column) (ls : List Lexeme) → IsArgument (ColumnOf column) ls → ColumnRead column ls
column_from column ls (f1, b1, is1, r1, type) = (column.name, (f1, b1, is1, r1, (column.kind, (b1, [], sym (append-nil b1), type, (refl, refl)))))

pub exact_column : Exact a_column (λ column. IsArgument (ColumnOf column))
unfolding a_column
exact_column =
    exact_same a_column ColumnRead (λ column. IsArgument (ColumnOf column)) column_to column_from
    (exact_bind a_name (λ name. a_type >>= (λ type. kind_behind type >>= (λ kind. give (record { name = name; kind = kind })))) (λ name. One (IsName name))
    (λ name column ls. (kind : ColumnKind) × Then (IsType kind) (λ ns. (record { name = name; kind = kind } ≡ column) × Nothing ns) ls) exact_name
    (λ name. exact_parts a_type kind_behind (λ kind. give (record { name = name; kind = kind })) (λ column ls. (kind : ColumnKind) × Then (IsType kind) (λ ns. (record { name = name; kind = kind } ≡ column) × Nothing ns) ls)
    (exact_bind (a_type >>= kind_behind) (λ kind. give (record { name = name; kind = kind })) IsType (λ kind column ls. (record { name = name; kind = kind } ≡ column) × Nothing ls) exact_type
    (λ kind. exact_give (record { name = name; kind = kind })))))
