-- The text of each statement is read as it.
use Rattle.std.proofs.Common.{◌≡◌, ℕ, ◌<◌, ◌≤◌, ◌^◌, ◌==◌, nat_le, true, false, IsTrue, Some, Ok, List, [], ◌∷◌, ◌++◌, length, refl, ap, sym, ◌∙◌, arith, ℤ, pos, lit<}
use Rattle.std.specs.Prelude.{codes}
use Rattle.std.specs.List.{list_all}
use Rattle.std.specs.Fmt.{decimal}
use Rattle.std.proofs.lemmas.Bool.{and_parts}
use Rattle.std.proofs.lemmas.Bool.Decides.{nat_tests}
use Rattle.ts_base.specs.Name.{is_name, is_key, is_text}
use Rattle.ts_base.specs.Moment.{IsStamp, read_stamp, stamp_text}
use Rattle.ts_base.proofs.CivilValid.{read_stamp-stamp_text}
use Rattle.ts_row.specs.declared.kind.Column.{Column}
use Rattle.ts_row.specs.declared.value.Literal.{Literal}
use Rattle.ts_row.specs.Row.{is_kind, is_row_type, keep_rules, Row, row_of, fits, marked, row_text}
use Rattle.ts_pattern.specs.Patterns.{Plan, is_pattern, printed_plan}
use Rattle.ts_calendar.specs.declared.text.CalendarText.{CalendarText}
use Rattle.ts_calendar.specs.Calendars.{IsSound, printed_calendar}
use Rattle.ts_text.specs.Phrase.{Read, Phrase, give, a_sign, made, repeated, closed, the_end, outcome}
use Rattle.ts_arguments.specs.Printed.{RowsAreReadAgain}
use Rattle.ts_arguments.specs.Arguments.{a_name, a_key, a_stamp, stamp_in, a_text, text_in, a_whole, a_word, a_literal, a_stamp_column, a_column, before, two, name_before, key_before, text_before, stamp_before, whole_before, name_and_text, name_and_whole, two_names_and_whole, key_and_name, key_and_stamp, stamp_and_name, name_stamp_and_name, key_name_stamp_and_name, stamp_and_values, key_stamp_and_values, some_columns, stamp_and_columns, name_and_columns}
use Rattle.ts_command.specs.Routines.{routine_of}
use Rattle.ts_command.specs.declared.command.Command.{Command}
use Rattle.ts_command.specs.declared.command.Command.TheVariants as commands
use Rattle.ts_command.specs.Grammar.{a_routine, opening, arguments, a_call, a_command, command_of}
use Rattle.ts_tokens.specs.Tokens.{front}
use Rattle.ts_dump_texts.specs.Texts.{end_of_call, quoted_before, comma_before, kind_before, columns_before, row_type_text, pattern_text, calendar_text, container_text, irregular_text, regular_text, element_text, hiding_text, or_nothing, literals_read}
use Rattle.ts_dump_texts.specs.Laws.{TextsAreReadAgain}
use Rattle.ts_dump_texts.proofs.TokenLemmas.{name_read, quoted_read, key_read}
use Rattle.ts_dump_texts.proofs.PrintedLemmas.{stamp_is_text, plan_is_text, calendar_is_text}
use Rattle.ts_dump_texts.proofs.NumberLemmas.{whole_read}
use Rattle.ts_dump_texts.proofs.ColumnLemmas.{bind, bracket, name_behind_blank, column_before_others, columns_closed}

-- signs
comma_sign : (rest : List ℕ) → a_sign 44 (44 ∷ rest) ≡ Ok (tt, rest)
unfolding a_sign
comma_sign rest = refl

close_sign : (rest : List ℕ) → a_sign 41 (41 ∷ rest) ≡ Ok (tt, rest)
unfolding a_sign
close_sign rest = refl

-- a phrase and the sign behind it
before_comma : {A : Type 0} (phrase : Phrase A) (bytes rest : List ℕ) (a : A) → phrase bytes ≡ Ok (a, 44 ∷ rest) → before 44 phrase bytes ≡ Ok (a, rest)
before_comma phrase bytes rest a is = bind phrase _ bytes (44 ∷ rest) a _ is (bind (a_sign 44) _ (44 ∷ rest) rest tt _ (comma_sign rest) refl)

before_close : {A : Type 0} (phrase : Phrase A) (bytes rest : List ℕ) (a : A) → phrase bytes ≡ Ok (a, 41 ∷ rest) → before 41 phrase bytes ≡ Ok (a, rest)
before_close phrase bytes rest a is = bind phrase _ bytes (41 ∷ rest) a _ is (bind (a_sign 41) _ (41 ∷ rest) rest tt _ (close_sign rest) refl)

-- two phrases
both_read : {A B : Type 0} (first : Phrase A) (second : Phrase B) (bytes middle rest : List ℕ) (a : A) (b : B) → first bytes ≡ Ok (a, middle) → second middle ≡ Ok (b, rest)
    → two first second bytes ≡ Ok ((a, b), rest)
both_read {A} {B} first second bytes middle rest a b one other =
    let pair : A × B = (a, b) in
    bind first _ bytes middle a (Ok (pair, rest)) one (bind second (λ (y : B). give (a, y)) middle rest b (Ok (pair, rest)) other refl)

-- names, keys, stamps and texts before a comma and before the bracket, and behind a comma with a blank
name_comma : (name rest : List ℕ) → IsTrue (is_name name) → name_before 44 (name ++ comma_before rest) ≡ Ok (name, 32 ∷ rest)
unfolding name_before
name_comma name rest named = before_comma a_name (name ++ comma_before rest) (32 ∷ rest) name (name_read name (32 ∷ rest) 44 named refl)

blank_name_comma : (name rest : List ℕ) → IsTrue (is_name name) → name_before 44 (32 ∷ (name ++ comma_before rest)) ≡ Ok (name, 32 ∷ rest)
unfolding name_before
blank_name_comma name rest named =
    before_comma a_name (32 ∷ (name ++ comma_before rest)) (32 ∷ rest) name (name_behind_blank (name ++ comma_before rest) ∙ name_read name (32 ∷ rest) 44 named refl)

blank_name_close : (name rest : List ℕ) → IsTrue (is_name name) → name_before 41 (32 ∷ (name ++ 41 ∷ rest)) ≡ Ok (name, rest)
unfolding name_before
blank_name_close name rest named = before_close a_name (32 ∷ (name ++ 41 ∷ rest)) rest name (name_behind_blank (name ++ 41 ∷ rest) ∙ name_read name rest 41 named refl)

key_comma : (key rest : List ℕ) → IsTrue (is_key key) → key_before 44 (quoted_before key (comma_before rest)) ≡ Ok (key, 32 ∷ rest)
unfolding key_before
key_comma key rest keyed = before_comma a_key (quoted_before key (comma_before rest)) (32 ∷ rest) key (key_read key (32 ∷ rest) 44 keyed refl)

stamp_read : (stamp : ℤ) (rest : List ℕ) (b : ℕ) → IsStamp stamp → (b == 39) ≡ false → a_stamp (32 ∷ quoted_before (stamp_text stamp) (b ∷ rest)) ≡ Ok (stamp, b ∷ rest)
unfolding a_stamp
stamp_read stamp rest b is ends =
    quoted_read stamp_in (stamp_text stamp) rest b stamp (stamp_is_text stamp) ends (λ bytes says. ap read_stamp says ∙ read_stamp-stamp_text stamp is)

stamp_comma : (stamp : ℤ) (rest : List ℕ) → IsStamp stamp → stamp_before 44 (32 ∷ quoted_before (stamp_text stamp) (comma_before rest)) ≡ Ok (stamp, 32 ∷ rest)
unfolding stamp_before
stamp_comma stamp rest is = before_comma a_stamp (32 ∷ quoted_before (stamp_text stamp) (comma_before rest)) (32 ∷ rest) stamp (stamp_read stamp (32 ∷ rest) 44 is refl)

stamp_close : (stamp : ℤ) (rest : List ℕ) → IsStamp stamp → stamp_before 41 (32 ∷ quoted_before (stamp_text stamp) (41 ∷ rest)) ≡ Ok (stamp, rest)
unfolding stamp_before
stamp_close stamp rest is = before_close a_stamp (32 ∷ quoted_before (stamp_text stamp) (41 ∷ rest)) rest stamp (stamp_read stamp rest 41 is refl)

text_close : (text rest : List ℕ) → is_text text ≡ true → text_before 41 (32 ∷ quoted_before text (41 ∷ rest)) ≡ Ok (text, rest)
unfolding text_before a_text
text_close text rest all =
    before_close a_text (32 ∷ quoted_before text (41 ∷ rest)) rest text (quoted_read text_in text rest 41 text all refl (λ bytes says. ap (λ (t : List ℕ). Some t) says))

-- a call whose arguments are read, and the end behind it
call_read : (phrase : Phrase Command) (text rest : List ℕ) (command : Command) → a_call text ≡ phrase rest → phrase rest ≡ Ok (command, 59 ∷ []) → command_of text ≡ Ok command
unfolding a_command the_end
call_read phrase text rest command opened given =
    let all : a_command text ≡ Ok (command, []) = bind a_call _ text (59 ∷ []) command _ (opened ∙ given) refl in
    ap (λ (r : Read Command). outcome (length text) r) all

-- each statement
pattern_read : (name : List ℕ) (p : Plan) → IsTrue (is_name name) → IsTrue (is_pattern p.runs) → command_of (pattern_text name p) ≡ Ok (commands.CreatePattern name (printed_plan p))
unfolding a_call a_routine routine_of front opening arguments name_and_text a_sign
pattern_read name p named good =
    let rest : List ℕ = name ++ comma_before (quoted_before (printed_plan p) end_of_call) in
    call_read (made name_and_text (λ (a : List ℕ × List ℕ). commands.CreatePattern a.0 a.1)) (pattern_text name p) rest (commands.CreatePattern name (printed_plan p)) refl
    (bind name_and_text _ rest (59 ∷ []) (name, printed_plan p) _
    (both_read (name_before 44) (text_before 41) rest (32 ∷ quoted_before (printed_plan p) end_of_call) (59 ∷ []) name (printed_plan p)
    (name_comma name (quoted_before (printed_plan p) end_of_call) named) (text_close (printed_plan p) (59 ∷ []) (plan_is_text p good))) refl)

calendar_read : (name : List ℕ) (c : CalendarText) → IsTrue (is_name name) → IsSound c → command_of (calendar_text name c) ≡ Ok (commands.CreateCalendar name (printed_calendar c))
unfolding a_call a_routine routine_of front opening arguments name_and_text a_sign
calendar_read name c named good =
    let rest : List ℕ = name ++ comma_before (quoted_before (printed_calendar c) end_of_call) in
    call_read (made name_and_text (λ (a : List ℕ × List ℕ). commands.CreateCalendar a.0 a.1)) (calendar_text name c) rest (commands.CreateCalendar name (printed_calendar c)) refl
    (bind name_and_text _ rest (59 ∷ []) (name, printed_calendar c) _
    (both_read (name_before 44) (text_before 41) rest (32 ∷ quoted_before (printed_calendar c) end_of_call) (59 ∷ []) name (printed_calendar c)
    (name_comma name (quoted_before (printed_calendar c) end_of_call) named) (text_close (printed_calendar c) (59 ∷ []) (calendar_is_text c good))) refl)

quota_read : (quota : ℕ) (rest : List ℕ) → 1 ≤ quota → quota ≤ 65536 → whole_before 41 (pos 1) (pos 65536) (32 ∷ (decimal quota ++ 41 ∷ rest)) ≡ Ok (pos quota, rest)
unfolding whole_before a_whole
quota_read quota rest some most =
    before_close (a_whole (pos 1) (pos 65536)) (32 ∷ (decimal quota ++ 41 ∷ rest)) rest (pos quota)
    (whole_behind_blank (decimal quota ++ 41 ∷ rest) ∙ whole_read 1 65536 quota rest 41 some most (let wide : 65536 < 10 ^ 9 = lit< tt in omega (arith, most, wide)) bracket)
  where
    whole_behind_blank : (bytes : List ℕ) → a_whole (pos 1) (pos 65536) (32 ∷ bytes) ≡ a_whole (pos 1) (pos 65536) bytes
    whole_behind_blank bytes = refl

container_read : (name row_type : List ℕ) (quota : ℕ) → IsTrue (is_name name) → IsTrue (is_name row_type) → 1 ≤ quota → quota ≤ 65536
    → command_of (container_text name row_type quota) ≡ Ok (commands.TSContainerCreate name row_type (pos quota))
unfolding a_call a_routine routine_of front opening arguments two_names_and_whole name_and_whole a_sign
container_read name row_type quota named typed some most =
    let number : List ℕ = decimal quota ++ end_of_call in
    let rest : List ℕ = name ++ comma_before (row_type ++ comma_before number) in
    call_read (made (two_names_and_whole (pos 1) (pos 65536)) (λ (a : List ℕ × (List ℕ × ℤ)). commands.TSContainerCreate a.0 a.1.0 a.1.1)) (container_text name row_type quota) rest (commands.TSContainerCreate name row_type (pos quota)) refl
    (bind (two_names_and_whole (pos 1) (pos 65536)) _ rest (59 ∷ []) (name, (row_type, pos quota)) _
    (both_read (name_before 44) (name_and_whole (pos 1) (pos 65536)) rest (32 ∷ (row_type ++ comma_before number)) (59 ∷ []) name (row_type, pos quota)
    (name_comma name (row_type ++ comma_before number) named)
    (both_read (name_before 44) (whole_before 41 (pos 1) (pos 65536)) (32 ∷ (row_type ++ comma_before number)) (32 ∷ number) (59 ∷ []) row_type (pos quota)
    (blank_name_comma row_type number typed) (quota_read quota (59 ∷ []) some most))) refl)

irregular_read : (key container : List ℕ) → IsTrue (is_key key) → IsTrue (is_name container) → command_of (irregular_text key container) ≡ Ok (commands.TSCreateIrr key container)
unfolding a_call a_routine routine_of front opening arguments key_and_name a_sign
irregular_read key container keyed named =
    let rest : List ℕ = quoted_before key (comma_before (container ++ end_of_call)) in
    call_read (made key_and_name (λ (a : List ℕ × List ℕ). commands.TSCreateIrr a.0 a.1)) (irregular_text key container) rest (commands.TSCreateIrr key container) refl
    (bind key_and_name _ rest (59 ∷ []) (key, container) _
    (both_read (key_before 44) (name_before 41) rest (32 ∷ (container ++ end_of_call)) (59 ∷ []) key container
    (key_comma key (container ++ end_of_call) keyed) (blank_name_close container (59 ∷ []) named)) refl)

regular_read : (key calendar : List ℕ) (origin : ℤ) (container : List ℕ) → IsTrue (is_key key) → IsTrue (is_name calendar) → IsStamp origin → IsTrue (is_name container)
    → command_of (regular_text key calendar origin container) ≡ Ok (commands.TSCreate key calendar origin container)
unfolding a_call a_routine routine_of front opening arguments key_name_stamp_and_name name_stamp_and_name stamp_and_name a_sign
regular_read key calendar origin container keyed dated stamp named =
    let last : List ℕ = container ++ end_of_call in
    let third : List ℕ = quoted_before (stamp_text origin) (comma_before last) in
    let second : List ℕ = calendar ++ comma_before third in
    let rest : List ℕ = quoted_before key (comma_before second) in
    call_read (made key_name_stamp_and_name (λ (a : List ℕ × (List ℕ × (ℤ × List ℕ))). commands.TSCreate a.0 a.1.0 a.1.1.0 a.1.1.1)) (regular_text key calendar origin container) rest (commands.TSCreate key calendar origin container) refl
    (bind key_name_stamp_and_name _ rest (59 ∷ []) (key, (calendar, (origin, container))) _
    (both_read (key_before 44) name_stamp_and_name rest (32 ∷ second) (59 ∷ []) key (calendar, (origin, container)) (key_comma key second keyed)
    (both_read (name_before 44) stamp_and_name (32 ∷ second) (32 ∷ third) (59 ∷ []) calendar (origin, container) (blank_name_comma calendar third dated)
    (both_read (stamp_before 44) (name_before 41) (32 ∷ third) (32 ∷ last) (59 ∷ []) origin container (stamp_comma origin last stamp) (blank_name_close container (59 ∷ []) named)))) refl)

hiding_read : (key : List ℕ) (stamp : ℤ) → IsTrue (is_key key) → IsStamp stamp → command_of (hiding_text key stamp) ≡ Ok (commands.HideElem key stamp)
unfolding a_call a_routine routine_of front opening arguments key_and_stamp a_sign
hiding_read key stamp keyed is =
    let second : List ℕ = quoted_before (stamp_text stamp) end_of_call in
    let rest : List ℕ = quoted_before key (comma_before second) in
    call_read (made key_and_stamp (λ (a : List ℕ × ℤ). commands.HideElem a.0 a.1)) (hiding_text key stamp) rest (commands.HideElem key stamp) refl
    (bind key_and_stamp _ rest (59 ∷ []) (key, stamp) _
    (both_read (key_before 44) (stamp_before 41) rest (32 ∷ second) (59 ∷ []) key stamp (key_comma key second keyed) (stamp_close stamp (59 ∷ []) is)) refl)

-- a row
literals_there : RowsAreReadAgain → (columns : List Column) (row : Row) → 1 ≤ length columns → IsTrue (list_all (λ (c : Column). is_kind c.kind) columns) → IsTrue (fits columns row)
    → (repeated a_literal (44 ∷ (row_text columns row ++ end_of_call)) ≡ Ok (literals_read columns row, end_of_call)) × (row_of columns (literals_read columns row) ≡ Ok (marked false row))
literals_there read columns row some good fit =
    let again = read columns row (59 ∷ []) some good fit in
    let same : literals_read columns row ≡ again.0 = ap (λ (r : Read (List Literal)). or_nothing r) again.1 in (
      again.1 ∙ ap (λ (l : List Literal). let r : Read (List Literal) = Ok (l, end_of_call) in r) (sym same),
      ap (row_of columns) same ∙ again.2,
    )

pub literals_give : RowsAreReadAgain → (columns : List Column) (row : Row) → 1 ≤ length columns → IsTrue (list_all (λ (c : Column). is_kind c.kind) columns) → IsTrue (fits columns row)
    → row_of columns (literals_read columns row) ≡ Ok (marked false row)
literals_give read columns row some good fit = (literals_there read columns row some good fit).1

element_read : RowsAreReadAgain → (key : List ℕ) (stamp : ℤ) (columns : List Column) (row : Row) → IsTrue (is_key key) → IsStamp stamp → 1 ≤ length columns
    → IsTrue (list_all (λ (c : Column). is_kind c.kind) columns) → IsTrue (fits columns row) → command_of (element_text key stamp columns row) ≡ Ok (commands.InsElem key stamp (literals_read columns row))
unfolding a_call a_routine routine_of front opening arguments key_stamp_and_values stamp_and_values a_sign
element_read read key stamp columns row keyed is some good fit =
    let values : List ℕ = 44 ∷ (row_text columns row ++ end_of_call) in
    let second : List ℕ = quoted_before (stamp_text stamp) values in
    let rest : List ℕ = quoted_before key (comma_before second) in
    let found = (literals_there read columns row some good fit).0 in
    let last : closed 41 a_literal values ≡ Ok (literals_read columns row, 59 ∷ []) =
    bind (repeated a_literal) _ values end_of_call (literals_read columns row) _ found (bind (a_sign 41) (λ (x : Unit {0}). give (literals_read columns row)) end_of_call (59 ∷ []) tt _ (close_sign (59 ∷ [])) refl) in
    call_read (made key_stamp_and_values (λ (a : List ℕ × (ℤ × List Literal)). commands.InsElem a.0 a.1.0 a.1.1)) (element_text key stamp columns row) rest (commands.InsElem key stamp (literals_read columns row)) refl
    (bind key_stamp_and_values _ rest (59 ∷ []) (key, (stamp, literals_read columns row)) _
    (both_read (key_before 44) stamp_and_values rest (32 ∷ second) (59 ∷ []) key (stamp, literals_read columns row) (key_comma key second keyed)
    (both_read a_stamp (closed 41 a_literal) (32 ∷ second) values (59 ∷ []) stamp (literals_read columns row) (stamp_read stamp (row_text columns row ++ end_of_call) 44 is refl) last)) refl)

-- a row type
stamp_column : (name rest : List ℕ) → IsTrue (is_name name) → before 44 a_stamp_column (32 ∷ (name ++ (codes " datetime" ++ comma_before rest))) ≡ Ok (name, 32 ∷ rest)
unfolding a_stamp_column a_word front
stamp_column name rest named =
    let word : List ℕ = codes " datetime" ++ comma_before rest in
    before_comma a_stamp_column (32 ∷ (name ++ word)) (32 ∷ rest) name
    (bind a_name _ (32 ∷ (name ++ word)) word name _ (name_behind_blank (name ++ word) ∙ name_read name (codes "datetime" ++ comma_before rest) 32 named refl)
    (bind (a_word (codes "datetime")) (λ (x : Unit {0}). give name) word (comma_before rest) tt _ refl refl))

row_type_read : (name stamp : List ℕ) (columns : List Column) → IsTrue (is_name name) → IsTrue (is_name stamp) → list_all (λ (c : Column). is_name c.name) columns ≡ true
    → list_all (λ (c : Column). is_kind c.kind) columns ≡ true → 1 ≤ length columns
    → command_of (row_type_text name (record { stamp = stamp; columns = columns })) ≡ Ok (commands.CreateRowType name stamp columns)
unfolding a_call a_routine routine_of front opening arguments name_and_columns stamp_and_columns some_columns a_sign
row_type_read name stamp [] named stamped names types some = absurd (omega arith)
row_type_read name stamp (c ∷ columns) named stamped names types some =
    let one = and_parts (is_name c.name) (list_all (λ (x : Column). is_name x.name) columns) names in
    let kind = and_parts (is_kind c.kind) (list_all (λ (x : Column). is_kind x.kind) columns) types in
    let others : List ℕ = columns_before columns end_of_call in
    let first : List ℕ = c.name ++ 32 ∷ kind_before c.kind others in
    let second : List ℕ = stamp ++ (codes " datetime" ++ comma_before first) in
    let rest : List ℕ = name ++ comma_before second in
    let listed : some_columns (32 ∷ first) ≡ Ok (c ∷ columns, 59 ∷ []) =
    bind a_column _ (32 ∷ first) others c _ (column_before_others c columns (59 ∷ []) one.0 kind.0)
    (bind (closed 41 a_column) _ others (59 ∷ []) columns _ (columns_closed columns (59 ∷ []) one.1 kind.1) refl) in
    call_read (made name_and_columns (λ (a : List ℕ × (List ℕ × List Column)). commands.CreateRowType a.0 a.1.0 a.1.1)) (row_type_text name (record { stamp = stamp; columns = c ∷ columns })) rest (commands.CreateRowType name stamp (c ∷ columns)) refl
    (bind name_and_columns _ rest (59 ∷ []) (name, (stamp, c ∷ columns)) _
    (both_read (name_before 44) stamp_and_columns rest (32 ∷ second) (59 ∷ []) name (stamp, c ∷ columns) (name_comma name second named)
    (both_read (before 44 a_stamp_column) some_columns (32 ∷ second) (32 ∷ first) (59 ∷ []) stamp (c ∷ columns) (stamp_column stamp first stamped) listed)) refl)

-- what a row type keeps
row_type_some : (stamp : List ℕ) (columns : List Column) → is_row_type stamp columns ≡ true → 1 ≤ length columns
row_type_some stamp columns good = let some = (and_parts (nat_le 1 (length columns)) (keep_rules stamp columns) good).0 in grind (arith, nat_tests)

row_type_kinds : (stamp : List ℕ) (columns : List Column) → is_row_type stamp columns ≡ true → list_all (λ (c : Column). is_kind c.kind) columns ≡ true
row_type_kinds stamp columns good =
    let kept = (and_parts (nat_le 1 (length columns)) (keep_rules stamp columns) good).1 in
    grind (arith, nat_tests)

pub texts_read : RowsAreReadAgain → TextsAreReadAgain
texts_read read = record {
  row_type = λ name h named stamped names good. row_type_read name h.stamp h.columns named stamped names (row_type_kinds h.stamp h.columns good) (row_type_some h.stamp h.columns good);
  pattern = pattern_read;
  calendar = calendar_read;
  container = container_read;
  irregular = irregular_read;
  regular = regular_read;
  element = element_read read;
  hiding = hiding_read;
}
