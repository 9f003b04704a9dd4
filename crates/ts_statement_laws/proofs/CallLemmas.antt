-- What stands in the brackets of calls is read exactly where its tokens stand.
use Rattle.std.proofs.Common.{◌≡◌, ℕ, ℤ, List, [], ◌∷◌, ◌++◌, map, append_assoc, append-nil, refl, sym, ap, subst, ◌∙◌}
use Rattle.ts_row.specs.declared.kind.Column.{Column}
use Rattle.ts_text.specs.Spelling.{Lexeme}
use Rattle.ts_text.specs.Phrase.{Phrase, ◌>>=◌, give, closed}
use Rattle.ts_arguments.specs.Arguments.{joined_spelling, a_name, a_key, a_set, a_stamp, a_text, a_literal, a_whole, a_stamp_column, a_column, a_joined, before, two, name_before, key_before, set_before, text_before, stamp_before, whole_before, two_names, three_names, joined_names, name_and_text, name_and_whole, two_names_and_whole, key_and_name, key_and_whole, key_and_stamp, two_stamps, name_range, key_range, two_keys_range, name_key_range, text_key_range, text_name_range, text_name_key_range, whole_range, key_whole_range, text_key_whole_range, stamp_and_name, name_stamp_and_name, key_name_stamp_and_name, stamp_and_whole, name_stamp_and_whole, key_stamp_and_whole, stamp_and_values, key_stamp_and_values, some_columns, stamp_and_columns, name_and_columns, set_range, set_stamp_and_values, stamp_name_and_whole, name_stamp_name_and_whole, set_name_stamp_name_and_whole}
use Rattle.ts_statement_laws.specs.Statements.{Argument, NameOf, KeyOf, SetOf, StampOf, TextOf, WholeOf, WordOf, StampColumnOf, ColumnOf, ValueOf, One, Nothing, Then, IsSign, IsArgument, AreArguments}
use Rattle.ts_statement_laws.proofs.ExactLemmas.{Exact, exact_same, exact_give, exact_bind, exact_before, exact_two, AreListed, exact_closed, then_nothing, shrinks}
use Rattle.ts_statement_laws.proofs.ArgumentLemmas.{commas, closes, exact_name, exact_key, exact_set, exact_stamp, exact_text, exact_whole, exact_joined, exact_value, exact_stamp_column, exact_column}

-- the last argument, and one before others
last : {A : Type 0} (phrase : Phrase A) (f : A → Argument) → Exact phrase (λ a. IsArgument (f a)) → Exact (before 41 phrase) (λ a. AreArguments (f a ∷ []))
last phrase f one = exact_before 41 phrase (λ a. IsArgument (f a)) closes one

more : {A B : Type 0} (first : Phrase A) (others : Phrase B) (f : A → Argument) (g : B → Argument) (h : B → List Argument) → Exact first (λ a. IsArgument (f a)) → Exact others (λ b. AreArguments (g b ∷ h b))
    → Exact (two (before 44 first) others) (λ p. AreArguments (f p.0 ∷ g p.1 ∷ h p.1))
more first others f g h one rest = exact_two (before 44 first) others (λ a. Then (IsArgument (f a)) (One (IsSign 44))) (λ b. AreArguments (g b ∷ h b)) (exact_before 44 first (λ a. IsArgument (f a)) commas one) rest

-- tokens in three parts
then_left : (P Q R : List Lexeme → Type 0) (ls : List Lexeme) → Then P (Then Q R) ls → Then (Then P Q) R ls
then_left P Q R ls (a, b, is, p, (c, d, also, q, r)) = (a ++ c, d, is ∙ ap (λ (x : List Lexeme). a ++ x) also ∙ sym (append_assoc a c d), (a, c, refl, p, q), r)

then_right : (P Q R : List Lexeme → Type 0) (ls : List Lexeme) → Then (Then P Q) R ls → Then P (Then Q R) ls
then_right P Q R ls (b, d, is, (a, c, also, p, q), r) = (a, c ++ d, is ∙ ap (λ (x : List Lexeme). x ++ d) also ∙ append_assoc a c d, p, (c, d, refl, q, r))

-- a list of arguments behind one
module _ {A : Type 0} (f : A → Argument) where
  list_to : (a : Argument) (xs : List A) (ls : List Lexeme) → Then (IsArgument a) (AreListed 41 (λ x. IsArgument (f x)) xs) ls → AreArguments (a ∷ map f xs) ls
  list_to a [] ls is = is
  list_to a (x ∷ xs) ls is =
      let parts = then_left (IsArgument a) (One (IsSign 44)) (Then (IsArgument (f x)) (AreListed 41 (λ y. IsArgument (f y)) xs)) ls is in
      (parts.0, parts.1, parts.2, parts.3, list_to (f x) xs parts.1 parts.4)

  list_from : (a : Argument) (xs : List A) (ls : List Lexeme) → AreArguments (a ∷ map f xs) ls → Then (IsArgument a) (AreListed 41 (λ x. IsArgument (f x)) xs) ls
  list_from a [] ls is = is
  list_from a (x ∷ xs) ls (front, back, is, one, rest) =
      then_right (IsArgument a) (One (IsSign 44)) (Then (IsArgument (f x)) (AreListed 41 (λ y. IsArgument (f y)) xs)) ls (front, back, is, one, list_from (f x) xs back rest)

-- each shape
pub exact_name_last : Exact (name_before 41) (λ a. AreArguments (NameOf a ∷ []))
unfolding name_before
exact_name_last = last a_name NameOf exact_name

pub exact_key_last : Exact (key_before 41) (λ a. AreArguments (KeyOf a ∷ []))
unfolding key_before
exact_key_last = last a_key KeyOf exact_key

pub exact_set_last : Exact (set_before 41) (λ a. AreArguments (SetOf a ∷ []))
unfolding set_before
exact_set_last = last a_set SetOf exact_set

exact_text_last : Exact (text_before 41) (λ a. AreArguments (TextOf a ∷ []))
unfolding text_before
exact_text_last = last a_text TextOf exact_text

exact_stamp_last : Exact (stamp_before 41) (λ a. AreArguments (StampOf a ∷ []))
unfolding stamp_before
exact_stamp_last = last a_stamp StampOf exact_stamp

exact_whole_last : (least most : ℤ) → Exact (whole_before 41 least most) (λ a. AreArguments (WholeOf least most a ∷ []))
unfolding whole_before
exact_whole_last least most = last (a_whole least most) (WholeOf least most) (exact_whole least most)

-- a name, a key, a text, a stamp or a number before others
module _ {B : Type 0} (others : Phrase B) (g : B → Argument) (h : B → List Argument) (rest : Exact others (λ b. AreArguments (g b ∷ h b))) where
  name_more : Exact (two (name_before 44) others) (λ p. AreArguments (NameOf p.0 ∷ g p.1 ∷ h p.1))
  unfolding name_before
  name_more = more a_name others NameOf g h exact_name rest

  key_more : Exact (two (key_before 44) others) (λ p. AreArguments (KeyOf p.0 ∷ g p.1 ∷ h p.1))
  unfolding key_before
  key_more = more a_key others KeyOf g h exact_key rest

  set_more : Exact (two (set_before 44) others) (λ p. AreArguments (SetOf p.0 ∷ g p.1 ∷ h p.1))
  unfolding set_before
  set_more = more a_set others SetOf g h exact_set rest

  text_more : Exact (two (text_before 44) others) (λ p. AreArguments (TextOf p.0 ∷ g p.1 ∷ h p.1))
  unfolding text_before
  text_more = more a_text others TextOf g h exact_text rest

  stamp_more : Exact (two (stamp_before 44) others) (λ p. AreArguments (StampOf p.0 ∷ g p.1 ∷ h p.1))
  unfolding stamp_before
  stamp_more = more a_stamp others StampOf g h exact_stamp rest

  whole_more : (least most : ℤ) → Exact (two (whole_before 44 least most) others) (λ p. AreArguments (WholeOf least most p.0 ∷ g p.1 ∷ h p.1))
  unfolding whole_before
  whole_more least most = more (a_whole least most) others (WholeOf least most) g h (exact_whole least most) rest

pub exact_two_names : Exact two_names (λ p. AreArguments (NameOf p.0 ∷ NameOf p.1 ∷ []))
unfolding two_names
exact_two_names = name_more (name_before 41) NameOf (λ b. []) exact_name_last

exact_three_names : Exact three_names (λ p. AreArguments (NameOf p.0 ∷ NameOf p.1.0 ∷ NameOf p.1.1 ∷ []))
unfolding three_names
exact_three_names = name_more two_names (λ b. NameOf b.0) (λ b. NameOf b.1 ∷ []) exact_two_names

pub exact_joined_names : Exact joined_names (λ p. AreArguments (WordOf (joined_spelling p.0) ∷ NameOf p.1.0 ∷ NameOf p.1.1.0 ∷ NameOf p.1.1.1 ∷ []))
unfolding joined_names
exact_joined_names = more a_joined three_names (λ j. WordOf (joined_spelling j)) (λ b. NameOf b.0) (λ b. NameOf b.1.0 ∷ NameOf b.1.1 ∷ []) exact_joined exact_three_names

pub exact_name_and_text : Exact name_and_text (λ p. AreArguments (NameOf p.0 ∷ TextOf p.1 ∷ []))
unfolding name_and_text
exact_name_and_text = name_more (text_before 41) TextOf (λ b. []) exact_text_last

exact_name_and_whole : (least most : ℤ) → Exact (name_and_whole least most) (λ p. AreArguments (NameOf p.0 ∷ WholeOf least most p.1 ∷ []))
unfolding name_and_whole
exact_name_and_whole least most = name_more (whole_before 41 least most) (WholeOf least most) (λ b. []) (exact_whole_last least most)

pub exact_two_names_and_whole : (least most : ℤ) → Exact (two_names_and_whole least most) (λ p. AreArguments (NameOf p.0 ∷ NameOf p.1.0 ∷ WholeOf least most p.1.1 ∷ []))
unfolding two_names_and_whole
exact_two_names_and_whole least most = name_more (name_and_whole least most) (λ b. NameOf b.0) (λ b. WholeOf least most b.1 ∷ []) (exact_name_and_whole least most)

pub exact_key_and_name : Exact key_and_name (λ p. AreArguments (KeyOf p.0 ∷ NameOf p.1 ∷ []))
unfolding key_and_name
exact_key_and_name = key_more (name_before 41) NameOf (λ b. []) exact_name_last

pub exact_key_and_whole : (least most : ℤ) → Exact (key_and_whole least most) (λ p. AreArguments (KeyOf p.0 ∷ WholeOf least most p.1 ∷ []))
unfolding key_and_whole
exact_key_and_whole least most = key_more (whole_before 41 least most) (WholeOf least most) (λ b. []) (exact_whole_last least most)

pub exact_key_and_stamp : Exact key_and_stamp (λ p. AreArguments (KeyOf p.0 ∷ StampOf p.1 ∷ []))
unfolding key_and_stamp
exact_key_and_stamp = key_more (stamp_before 41) StampOf (λ b. []) exact_stamp_last

exact_two_stamps : Exact two_stamps (λ p. AreArguments (StampOf p.0 ∷ StampOf p.1 ∷ []))
unfolding two_stamps
exact_two_stamps = stamp_more (stamp_before 41) StampOf (λ b. []) exact_stamp_last

pub exact_name_range : Exact name_range (λ p. AreArguments (NameOf p.0 ∷ StampOf p.1.0 ∷ StampOf p.1.1 ∷ []))
unfolding name_range
exact_name_range = name_more two_stamps (λ b. StampOf b.0) (λ b. StampOf b.1 ∷ []) exact_two_stamps

pub exact_key_range : Exact key_range (λ p. AreArguments (KeyOf p.0 ∷ StampOf p.1.0 ∷ StampOf p.1.1 ∷ []))
unfolding key_range
exact_key_range = key_more two_stamps (λ b. StampOf b.0) (λ b. StampOf b.1 ∷ []) exact_two_stamps

pub exact_two_keys_range : Exact two_keys_range (λ p. AreArguments (KeyOf p.0 ∷ KeyOf p.1.0 ∷ StampOf p.1.1.0 ∷ StampOf p.1.1.1 ∷ []))
unfolding two_keys_range
exact_two_keys_range = key_more key_range (λ b. KeyOf b.0) (λ b. StampOf b.1.0 ∷ StampOf b.1.1 ∷ []) exact_key_range

exact_name_key_range : Exact name_key_range (λ p. AreArguments (NameOf p.0 ∷ KeyOf p.1.0 ∷ StampOf p.1.1.0 ∷ StampOf p.1.1.1 ∷ []))
unfolding name_key_range
exact_name_key_range = name_more key_range (λ b. KeyOf b.0) (λ b. StampOf b.1.0 ∷ StampOf b.1.1 ∷ []) exact_key_range

pub exact_text_key_range : Exact text_key_range (λ p. AreArguments (TextOf p.0 ∷ KeyOf p.1.0 ∷ StampOf p.1.1.0 ∷ StampOf p.1.1.1 ∷ []))
unfolding text_key_range
exact_text_key_range = text_more key_range (λ b. KeyOf b.0) (λ b. StampOf b.1.0 ∷ StampOf b.1.1 ∷ []) exact_key_range

pub exact_text_name_range : Exact text_name_range (λ p. AreArguments (TextOf p.0 ∷ NameOf p.1.0 ∷ StampOf p.1.1.0 ∷ StampOf p.1.1.1 ∷ []))
unfolding text_name_range
exact_text_name_range = text_more name_range (λ b. NameOf b.0) (λ b. StampOf b.1.0 ∷ StampOf b.1.1 ∷ []) exact_name_range

pub exact_text_name_key_range : Exact text_name_key_range (λ p. AreArguments (TextOf p.0 ∷ NameOf p.1.0 ∷ KeyOf p.1.1.0 ∷ StampOf p.1.1.1.0 ∷ StampOf p.1.1.1.1 ∷ []))
unfolding text_name_key_range
exact_text_name_key_range = text_more name_key_range (λ b. NameOf b.0) (λ b. KeyOf b.1.0 ∷ StampOf b.1.1.0 ∷ StampOf b.1.1.1 ∷ []) exact_name_key_range

exact_whole_range : (least most : ℤ) → Exact (whole_range least most) (λ p. AreArguments (WholeOf least most p.0 ∷ StampOf p.1.0 ∷ StampOf p.1.1 ∷ []))
unfolding whole_range
exact_whole_range least most = whole_more two_stamps (λ b. StampOf b.0) (λ b. StampOf b.1 ∷ []) exact_two_stamps least most

exact_key_whole_range : (least most : ℤ) → Exact (key_whole_range least most) (λ p. AreArguments (KeyOf p.0 ∷ WholeOf least most p.1.0 ∷ StampOf p.1.1.0 ∷ StampOf p.1.1.1 ∷ []))
unfolding key_whole_range
exact_key_whole_range least most = key_more (whole_range least most) (λ b. WholeOf least most b.0) (λ b. StampOf b.1.0 ∷ StampOf b.1.1 ∷ []) (exact_whole_range least most)

pub exact_text_key_whole_range : (least most : ℤ) → Exact (text_key_whole_range least most) (λ p. AreArguments (TextOf p.0 ∷ KeyOf p.1.0 ∷ WholeOf least most p.1.1.0 ∷ StampOf p.1.1.1.0 ∷ StampOf p.1.1.1.1 ∷ []))
unfolding text_key_whole_range
exact_text_key_whole_range least most = text_more (key_whole_range least most) (λ b. KeyOf b.0) (λ b. WholeOf least most b.1.0 ∷ StampOf b.1.1.0 ∷ StampOf b.1.1.1 ∷ []) (exact_key_whole_range least most)

exact_stamp_and_name : Exact stamp_and_name (λ p. AreArguments (StampOf p.0 ∷ NameOf p.1 ∷ []))
unfolding stamp_and_name
exact_stamp_and_name = stamp_more (name_before 41) NameOf (λ b. []) exact_name_last

exact_name_stamp_and_name : Exact name_stamp_and_name (λ p. AreArguments (NameOf p.0 ∷ StampOf p.1.0 ∷ NameOf p.1.1 ∷ []))
unfolding name_stamp_and_name
exact_name_stamp_and_name = name_more stamp_and_name (λ b. StampOf b.0) (λ b. NameOf b.1 ∷ []) exact_stamp_and_name

pub exact_key_name_stamp_and_name : Exact key_name_stamp_and_name (λ p. AreArguments (KeyOf p.0 ∷ NameOf p.1.0 ∷ StampOf p.1.1.0 ∷ NameOf p.1.1.1 ∷ []))
unfolding key_name_stamp_and_name
exact_key_name_stamp_and_name = key_more name_stamp_and_name (λ b. NameOf b.0) (λ b. StampOf b.1.0 ∷ NameOf b.1.1 ∷ []) exact_name_stamp_and_name

exact_stamp_and_whole : (least most : ℤ) → Exact (stamp_and_whole least most) (λ p. AreArguments (StampOf p.0 ∷ WholeOf least most p.1 ∷ []))
unfolding stamp_and_whole
exact_stamp_and_whole least most = stamp_more (whole_before 41 least most) (WholeOf least most) (λ b. []) (exact_whole_last least most)

pub exact_name_stamp_and_whole : (least most : ℤ) → Exact (name_stamp_and_whole least most) (λ p. AreArguments (NameOf p.0 ∷ StampOf p.1.0 ∷ WholeOf least most p.1.1 ∷ []))
unfolding name_stamp_and_whole
exact_name_stamp_and_whole least most = name_more (stamp_and_whole least most) (λ b. StampOf b.0) (λ b. WholeOf least most b.1 ∷ []) (exact_stamp_and_whole least most)

pub exact_key_stamp_and_whole : (least most : ℤ) → Exact (key_stamp_and_whole least most) (λ p. AreArguments (KeyOf p.0 ∷ StampOf p.1.0 ∷ WholeOf least most p.1.1 ∷ []))
unfolding key_stamp_and_whole
exact_key_stamp_and_whole least most = key_more (stamp_and_whole least most) (λ b. StampOf b.0) (λ b. WholeOf least most b.1 ∷ []) (exact_stamp_and_whole least most)

-- values
exact_stamp_and_values : Exact stamp_and_values (λ p. AreArguments (StampOf p.0 ∷ map ValueOf p.1))
unfolding stamp_and_values
exact_stamp_and_values =
    exact_same (two a_stamp (closed 41 a_literal)) (λ p. Then (IsArgument (StampOf p.0)) (AreListed 41 (λ v. IsArgument (ValueOf v)) p.1)) (λ p. AreArguments (StampOf p.0 ∷ map ValueOf p.1))
    (λ p ls is. list_to ValueOf (StampOf p.0) p.1 ls is) (λ p ls is. list_from ValueOf (StampOf p.0) p.1 ls is)
    (exact_two a_stamp (closed 41 a_literal) (λ s. IsArgument (StampOf s)) (AreListed 41 (λ v. IsArgument (ValueOf v))) exact_stamp
    (exact_closed 41 a_literal (λ v. IsArgument (ValueOf v)) refl (shrinks a_literal (λ v. IsArgument (ValueOf v)) exact_value) commas closes exact_value))

pub exact_key_stamp_and_values : Exact key_stamp_and_values (λ p. AreArguments (KeyOf p.0 ∷ StampOf p.1.0 ∷ map ValueOf p.1.1))
unfolding key_stamp_and_values
exact_key_stamp_and_values = key_more stamp_and_values (λ b. StampOf b.0) (λ b. map ValueOf b.1) exact_stamp_and_values

-- rolling sets
pub exact_set_stamp_and_values : Exact set_stamp_and_values (λ p. AreArguments (SetOf p.0 ∷ StampOf p.1.0 ∷ map ValueOf p.1.1))
unfolding set_stamp_and_values
exact_set_stamp_and_values = set_more stamp_and_values (λ b. StampOf b.0) (λ b. map ValueOf b.1) exact_stamp_and_values

pub exact_set_range : Exact set_range (λ p. AreArguments (SetOf p.0 ∷ StampOf p.1.0 ∷ StampOf p.1.1 ∷ []))
unfolding set_range
exact_set_range = set_more two_stamps (λ b. StampOf b.0) (λ b. StampOf b.1 ∷ []) exact_two_stamps

exact_stamp_name_and_whole : (least most : ℤ) → Exact (stamp_name_and_whole least most) (λ p. AreArguments (StampOf p.0 ∷ NameOf p.1.0 ∷ WholeOf least most p.1.1 ∷ []))
unfolding stamp_name_and_whole
exact_stamp_name_and_whole least most = stamp_more (name_and_whole least most) (λ b. NameOf b.0) (λ b. WholeOf least most b.1 ∷ []) (exact_name_and_whole least most)

exact_name_stamp_name_and_whole : (least most : ℤ) → Exact (name_stamp_name_and_whole least most) (λ p. AreArguments (NameOf p.0 ∷ StampOf p.1.0 ∷ NameOf p.1.1.0 ∷ WholeOf least most p.1.1.1 ∷ []))
unfolding name_stamp_name_and_whole
exact_name_stamp_name_and_whole least most = name_more (stamp_name_and_whole least most) (λ b. StampOf b.0) (λ b. NameOf b.1.0 ∷ WholeOf least most b.1.1 ∷ []) (exact_stamp_name_and_whole least most)

pub exact_set_name_stamp_name_and_whole : (least most : ℤ)
    → Exact (set_name_stamp_name_and_whole least most) (λ p. AreArguments (SetOf p.0 ∷ NameOf p.1.0 ∷ StampOf p.1.1.0 ∷ NameOf p.1.1.1.0 ∷ WholeOf least most p.1.1.1.1 ∷ []))
unfolding set_name_stamp_name_and_whole
exact_set_name_stamp_name_and_whole least most =
    set_more (name_stamp_name_and_whole least most) (λ b. NameOf b.0) (λ b. StampOf b.1.0 ∷ NameOf b.1.1.0 ∷ WholeOf least most b.1.1.1 ∷ []) (exact_name_stamp_name_and_whole least most)

-- columns
abbrev ColumnsRead : List Column → List Lexeme → Type 0
ColumnsRead columns ls = (one : Column) × Then (IsArgument (ColumnOf one)) (λ ms. (others : List Column) × Then (AreListed 41 (λ c. IsArgument (ColumnOf c)) others) (λ ns. (one ∷ others ≡ columns) × Nothing ns) ms) ls

columns_to : (columns : List Column) (ls : List Lexeme) → ColumnsRead columns ls → AreArguments (map ColumnOf columns) ls
columns_to columns ls (one, (f1, b1, is1, r1, (others, (f2, b2, is2, r2, (same, none))))) =
    subst (λ (cs : List Column). AreArguments (map ColumnOf cs) ls) same
    (list_to ColumnOf (ColumnOf one) others ls (f1, b1, is1, r1, then_nothing (AreListed 41 (λ c. IsArgument (ColumnOf c)) others) b1 (f2, b2, is2, r2, none)))

columns_from : (columns : List Column) (ls : List Lexeme) → AreArguments (map ColumnOf columns) ls → ColumnsRead columns ls
columns_from [] ls is = absurd is
columns_from (one ∷ others) ls is =
    let parts = list_from ColumnOf (ColumnOf one) others ls is in
    (one, (parts.0, parts.1, parts.2, parts.3, (others, (parts.1, [], sym (append-nil parts.1), parts.4, (refl, refl)))))

exact_some_columns : Exact some_columns (λ columns. AreArguments (map ColumnOf columns))
unfolding some_columns
exact_some_columns =
    exact_same _ ColumnsRead (λ columns. AreArguments (map ColumnOf columns)) columns_to columns_from
    (exact_bind a_column (λ first. closed 41 a_column >>= (λ others. give (first ∷ others))) (λ c. IsArgument (ColumnOf c))
    (λ one columns ls. (others : List Column) × Then (AreListed 41 (λ c. IsArgument (ColumnOf c)) others) (λ ns. (one ∷ others ≡ columns) × Nothing ns) ls) exact_column
    (λ one. exact_bind (closed 41 a_column) (λ others. give (one ∷ others)) (AreListed 41 (λ c. IsArgument (ColumnOf c))) (λ others columns ls. (one ∷ others ≡ columns) × Nothing ls)
    (exact_closed 41 a_column (λ c. IsArgument (ColumnOf c)) refl (shrinks a_column (λ c. IsArgument (ColumnOf c)) exact_column) commas closes exact_column)
    (λ others. exact_give (one ∷ others))))

-- a name, the column of the stamps and value columns, one at least
abbrev pub AreColumns : List ℕ × (List ℕ × List Column) → List Lexeme → Type 0
AreColumns p = Then (Then (IsArgument (NameOf p.0)) (One (IsSign 44))) (Then (Then (IsArgument (StampColumnOf p.1.0)) (One (IsSign 44))) (AreArguments (map ColumnOf p.1.1)))

pub exact_name_and_columns : Exact name_and_columns AreColumns
unfolding name_and_columns stamp_and_columns name_before
exact_name_and_columns =
    exact_two (before 44 a_name) (two (before 44 a_stamp_column) some_columns) (λ a. Then (IsArgument (NameOf a)) (One (IsSign 44))) (λ b. Then (Then (IsArgument (StampColumnOf b.0)) (One (IsSign 44))) (AreArguments (map ColumnOf b.1)))
    (exact_before 44 a_name (λ a. IsArgument (NameOf a)) commas exact_name)
    (exact_two (before 44 a_stamp_column) some_columns (λ a. Then (IsArgument (StampColumnOf a)) (One (IsSign 44))) (λ cs. AreArguments (map ColumnOf cs)) (exact_before 44 a_stamp_column (λ a. IsArgument (StampColumnOf a)) commas exact_stamp_column) exact_some_columns)
