-- A statement is read as a command exactly where its tokens stand.
use Rattle.std.proofs.Common.{◌≡◌, ℕ, pos, neg_ℤ, Bool, true, false, cond, Some, Ok, Err, List, [], ◌∷◌, ◌++◌, length, map, append-nil, refl, sym, ap, subst, ◌∙◌}
use Rattle.std.specs.Prelude.{codes}
use Rattle.std.specs.Str.{bytes_eq}
use Rattle.ts_row.specs.declared.kind.Column.{Column}
use Rattle.ts_text.specs.Phrase.{unblanked, Read, Phrase, go_on, ◌>>=◌, give, a_sign, made, the_end, outcome}
use Rattle.ts_text.specs.Spelling.{Lexeme, spelled, Spells}
use Rattle.ts_text.specs.declared.token.TokenKind.{TokenKind}
use Rattle.ts_text.specs.declared.token.TokenKind.TheVariants.{Word, Number, Text, Sign}
use Rattle.ts_text.proofs.CallerLemmas.{bind-ok, pair-parts}
use Rattle.ts_tokens.specs.Tokens.{front}
use Rattle.ts_arguments.specs.Arguments.{name_before, key_before, set_before, two_names, joined_names, name_and_text, two_names_and_whole, key_and_name, key_and_whole, key_and_stamp, name_range, key_range, two_keys_range, text_key_range, text_name_range, text_name_key_range, text_key_whole_range, key_name_stamp_and_name, name_stamp_and_whole, key_stamp_and_whole, key_stamp_and_values, name_and_columns, set_range, set_stamp_and_values, set_name_stamp_name_and_whole, joined_spelling}
use Rattle.ts_arguments.specs.declared.word.Joined.{Joined}
use Rattle.ts_arguments.specs.declared.word.Joined.TheVariants.{Patterns, Calendars}
use Rattle.ts_command.specs.Routines.{spelling, routines, routine_of}
use Rattle.ts_command.specs.Grammar.{routine_in, a_routine, opening, arguments, a_call, a_command, command_of}
use Rattle.ts_command.specs.declared.command.Command.{Command}
use Rattle.ts_command.specs.declared.command.Command.TheVariants as commands
use Rattle.ts_statement_laws.specs.Statements.{Argument, NameOf, KeyOf, SetOf, StampOf, TextOf, WholeOf, WordOf, StampColumnOf, ColumnOf, ValueOf, Statement, Alone, Call, statement_of, One, Nothing, Then, IsWord, IsSign, AreArguments, AreStatement, IsStatementOf}
use Rattle.ts_statement_laws.specs.Laws.{StatementsAreTokens}
use Rattle.ts_statement_laws.proofs.ExactLemmas.{Exact, exact_same, exact_token, exact_bind, exact_made, spells_both, spells_first, spells_last}
use Rattle.ts_statement_laws.proofs.ArgumentLemmas.{opens, found_passes, same_bytes, bytes_same, TypeIn, Each, found_each}
use Rattle.ts_statement_laws.proofs.CallLemmas.{exact_name_last, exact_key_last, exact_two_names, exact_joined_names, exact_name_and_text, exact_two_names_and_whole, exact_key_and_name, exact_key_and_whole, exact_key_and_stamp, exact_name_range, exact_key_range, exact_two_keys_range, exact_text_key_range, exact_text_name_range, exact_text_name_key_range, exact_text_key_whole_range, exact_key_name_stamp_and_name, exact_name_stamp_and_whole, exact_key_stamp_and_whole, exact_key_stamp_and_values, exact_set_last, exact_set_range, exact_set_stamp_and_values, exact_set_name_stamp_name_and_whole, AreColumns, exact_name_and_columns}

-- the type of the routines, which has no name out of its crate
abbrev Called : Type 0
Called = TypeIn routines

-- the word of a statement, and what stands behind it
abbrev word_of : Statement → List ℕ
word_of (Alone word) = word
word_of (Call word arguments) = word

abbrev AreBehind : Statement → List Lexeme → Type 0
AreBehind (Alone word) ls = Nothing ls
AreBehind (Call word arguments) ls = Then (One (IsSign 40)) (AreArguments arguments) ls

-- what the phrase of a routine finds, and what it reads
abbrev Finds : List ℕ → Phrase Command → Type 0
Finds word phrase =
    (bytes rest : List ℕ) (c : Command) → phrase bytes ≡ Ok (c, rest) → (ls : List Lexeme) × (word_of (statement_of c) ≡ word) × AreBehind (statement_of c) ls × Spells front bytes ls rest

abbrev Reads : Command → Phrase Command → Type 0
Reads c phrase = (bytes rest : List ℕ) (ls : List Lexeme) → AreBehind (statement_of c) ls → Spells front bytes ls rest → phrase bytes ≡ Ok (c, rest)

-- a call with these arguments
module _ {A : Type 0} (shape : Phrase A) (args : A → List Argument) (exact : Exact shape (λ a. AreArguments (args a))) (make : A → Command) (word : List ℕ) (says : (a : A) → statement_of (make a) ≡ Call word (args a)) where
  abbrev bracketed : Phrase Command
  bracketed = a_sign 40 >>= (λ opened. made shape make)

  whole : Exact bracketed (λ c ls. (u : Unit {0}) × Then (One (IsSign 40)) (λ ms. (a : A) × (make a ≡ c) × AreArguments (args a) ms) ls)
  whole = exact_bind (a_sign 40) (λ opened. made shape make) (λ u. One (IsSign 40)) (λ u c ms. (a : A) × (make a ≡ c) × AreArguments (args a) ms) opens (λ u. exact_made shape make (λ a. AreArguments (args a)) exact)

  finds : Finds word bracketed
  finds bytes rest c is =
      let (ls, (u, (ls_sign, ls_more, both, sign, (a, same, are))), spells) = whole.found bytes rest c is in
      let stated : statement_of c ≡ Call word (args a) = ap statement_of (sym same) ∙ says a in
      (ls, ap word_of stated, subst (λ (s : Statement). AreBehind s ls) (sym stated) (ls_sign, ls_more, both, sign, are), spells)

  reads : (a : A) → Reads (make a) bracketed
  reads a bytes rest ls are spells =
      let (ls_sign, ls_more, both, sign, own) = subst (λ (s : Statement). AreBehind s ls) (says a) are in
      whole.read bytes rest (make a) ls (tt, (ls_sign, ls_more, both, sign, (a, refl, own))) spells

-- the arguments of a row type
abbrev of_columns : List ℕ × (List ℕ × List Column) → List Argument
of_columns (name, (stamp, [])) = []
of_columns (name, (stamp, column ∷ columns)) = NameOf name ∷ StampColumnOf stamp ∷ map ColumnOf (column ∷ columns)

exact_of_columns : Exact name_and_columns (λ p. AreArguments (of_columns p))
exact_of_columns = exact_same name_and_columns AreColumns (λ p. AreArguments (of_columns p)) to from exact_name_and_columns where
  to : (p : List ℕ × (List ℕ × List Column)) (ls : List Lexeme) → AreColumns p ls → AreArguments (of_columns p) ls
  to (name, (stamp, [])) ls (f1, b1, is1, r1, (f2, b2, is2, r2, none)) = none
  to (name, (stamp, column ∷ columns)) ls are = are

  from : (p : List ℕ × (List ℕ × List Column)) (ls : List Lexeme) → AreArguments (of_columns p) ls → AreColumns p ls
  from (name, (stamp, [])) ls none = absurd none
  from (name, (stamp, column ∷ columns)) ls are = are

row_type_says : (p : List ℕ × (List ℕ × List Column)) → statement_of (commands.CreateRowType p.0 p.1.0 p.1.1) ≡ Call (codes "CreateRowType") (of_columns p)
row_type_says (name, (stamp, [])) = refl
row_type_says (name, (stamp, column ∷ columns)) = refl

-- a routine that stands alone
lone_finds : (word : List ℕ) (c : Command) → statement_of c ≡ Alone word → Finds word (give tt >>= (λ (opened : Unit {0}). give c))
lone_finds word c says bytes rest d is =
    let same = pair-parts c d bytes rest is in
    let stated : statement_of d ≡ Alone word = ap statement_of (sym same.0) ∙ says in
    ([], ap word_of stated, subst (λ (s : Statement). AreBehind s []) (sym stated) refl, record { whole = same.1; tokens = tt })

lone_reads : (word : List ℕ) (c : Command) → statement_of c ≡ Alone word → Reads c (give tt >>= (λ (opened : Unit {0}). give c))
lone_reads word c says bytes rest ls are spells =
    let none : ls ≡ [] = subst (λ (s : Statement). AreBehind s ls) says are in
    let own = subst (λ (x : List Lexeme). Spells front bytes x rest) none spells in
    let same : bytes ≡ rest = own.whole in
    ap (λ (x : List ℕ). Ok (c, x)) same

-- what is joined: the word that says it, and three names
abbrev JoinedNames : Type 0
JoinedNames = Joined × (List ℕ × (List ℕ × List ℕ))

abbrev of_names : JoinedNames → List Argument
of_names a = WordOf (joined_spelling a.0) ∷ NameOf a.1.0 ∷ NameOf a.1.1.0 ∷ NameOf a.1.1.1 ∷ []

module _ (make : JoinedNames → Command) (word : List ℕ)
    (patterns : (names : List ℕ × (List ℕ × List ℕ)) → statement_of (make (Patterns, names)) ≡ Call word (of_names (Patterns, names)))
    (calendars : (names : List ℕ × (List ℕ × List ℕ)) → statement_of (make (Calendars, names)) ≡ Call word (of_names (Calendars, names)))
  where
    join_says : (a : JoinedNames) → statement_of (make a) ≡ Call word (of_names a)
    join_says (Patterns, names) = patterns names
    join_says (Calendars, names) = calendars names

    join_finds : Finds word (a_sign 40 >>= (λ (opened : Unit {0}). made joined_names make))
    join_finds = finds joined_names of_names exact_joined_names make word join_says

    join_reads : (a : JoinedNames) → Reads (make a) (a_sign 40 >>= (λ (opened : Unit {0}). made joined_names make))
    join_reads a = reads joined_names of_names exact_joined_names make word join_says a

-- what each routine finds
each_finds : Each (λ r. Finds (spelling r) (opening r >>= (λ opened. arguments r))) routines
unfolding opening arguments
each_finds = (
  finds key_stamp_and_values (λ a. KeyOf a.0 ∷ StampOf a.1.0 ∷ map ValueOf a.1.1) exact_key_stamp_and_values (λ a. commands.PutElem a.0 a.1.0 a.1.1) (codes "PutElem") (λ a. refl),
  (
    finds key_stamp_and_values (λ a. KeyOf a.0 ∷ StampOf a.1.0 ∷ map ValueOf a.1.1) exact_key_stamp_and_values (λ a. commands.InsElem a.0 a.1.0 a.1.1) (codes "InsElem") (λ a. refl),
    (
      finds key_stamp_and_values (λ a. KeyOf a.0 ∷ StampOf a.1.0 ∷ map ValueOf a.1.1) exact_key_stamp_and_values (λ a. commands.UpdElem a.0 a.1.0 a.1.1) (codes "UpdElem") (λ a. refl),
      (
        finds key_stamp_and_values (λ a. KeyOf a.0 ∷ StampOf a.1.0 ∷ map ValueOf a.1.1) exact_key_stamp_and_values (λ a. commands.PutElemNoDups a.0 a.1.0 a.1.1) (codes "PutElemNoDups") (λ a. refl),
        (
          finds key_and_stamp (λ a. KeyOf a.0 ∷ StampOf a.1 ∷ []) exact_key_and_stamp (λ a. commands.GetElem a.0 a.1) (codes "GetElem") (λ a. refl),
          (
            finds key_and_stamp (λ a. KeyOf a.0 ∷ StampOf a.1 ∷ []) exact_key_and_stamp (λ a. commands.DelElem a.0 a.1) (codes "DelElem") (λ a. refl),
            (
              finds key_and_stamp (λ a. KeyOf a.0 ∷ StampOf a.1 ∷ []) exact_key_and_stamp (λ a. commands.HideElem a.0 a.1) (codes "HideElem") (λ a. refl),
              (
                finds key_and_stamp (λ a. KeyOf a.0 ∷ StampOf a.1 ∷ []) exact_key_and_stamp (λ a. commands.RevealElem a.0 a.1) (codes "RevealElem") (λ a. refl),
                (
                  finds key_range (λ a. KeyOf a.0 ∷ StampOf a.1.0 ∷ StampOf a.1.1 ∷ []) exact_key_range (λ a. commands.Clip a.0 a.1.0 a.1.1) (codes "Clip") (λ a. refl),
                  (
                    finds key_range (λ a. KeyOf a.0 ∷ StampOf a.1.0 ∷ StampOf a.1.1 ∷ []) exact_key_range (λ a. commands.ClipGetCount a.0 a.1.0 a.1.1) (codes "ClipGetCount") (λ a. refl),
                    (
                      finds key_range (λ a. KeyOf a.0 ∷ StampOf a.1.0 ∷ StampOf a.1.1 ∷ []) exact_key_range (λ a. commands.DelClip a.0 a.1.0 a.1.1) (codes "DelClip") (λ a. refl),
                      (
                        finds (key_stamp_and_whole (neg_ℤ (pos 1000000)) (pos 1000000)) (λ a. KeyOf a.0 ∷ StampOf a.1.0 ∷ WholeOf (neg_ℤ (pos 1000000)) (pos 1000000) a.1.1 ∷ []) (exact_key_stamp_and_whole (neg_ℤ (pos 1000000)) (pos 1000000)) (λ a. commands.ClipCount a.0 a.1.0 a.1.1) (codes "ClipCount") (λ a. refl),
                        (
                          finds (key_and_whole (pos 0) (pos 4294967295)) (λ a. KeyOf a.0 ∷ WholeOf (pos 0) (pos 4294967295) a.1 ∷ []) (exact_key_and_whole (pos 0) (pos 4294967295)) (λ a. commands.GetNthElem a.0 a.1) (codes "GetNthElem") (λ a. refl),
                          (
                            finds (key_and_whole (neg_ℤ (pos 2147483647)) (pos 2147483647)) (λ a. KeyOf a.0 ∷ WholeOf (neg_ℤ (pos 2147483647)) (pos 2147483647) a.1 ∷ []) (exact_key_and_whole (neg_ℤ (pos 2147483647)) (pos 2147483647)) (λ a. commands.Lag a.0 a.1) (codes "Lag") (λ a. refl),
                            (
                              finds two_keys_range (λ a. KeyOf a.0 ∷ KeyOf a.1.0 ∷ StampOf a.1.1.0 ∷ StampOf a.1.1.1 ∷ []) exact_two_keys_range (λ a. commands.Union a.0 a.1.0 a.1.1.0 a.1.1.1) (codes "Union") (λ a. refl),
                              (
                                finds two_keys_range (λ a. KeyOf a.0 ∷ KeyOf a.1.0 ∷ StampOf a.1.1.0 ∷ StampOf a.1.1.1 ∷ []) exact_two_keys_range (λ a. commands.Intersect a.0 a.1.0 a.1.1.0 a.1.1.1) (codes "Intersect") (λ a. refl),
                                (
                                  finds text_name_key_range (λ a. TextOf a.0 ∷ NameOf a.1.0 ∷ KeyOf a.1.1.0 ∷ StampOf a.1.1.1.0 ∷ StampOf a.1.1.1.1 ∷ []) exact_text_name_key_range (λ a. commands.AggregateBy a.0 a.1.0 a.1.1.0 a.1.1.1.0 a.1.1.1.1) (codes "AggregateBy") (λ a. refl),
                                  (
                                    finds text_key_range (λ a. TextOf a.0 ∷ KeyOf a.1.0 ∷ StampOf a.1.1.0 ∷ StampOf a.1.1.1 ∷ []) exact_text_key_range (λ a. commands.AggregateRange a.0 a.1.0 a.1.1.0 a.1.1.1) (codes "AggregateRange") (λ a. refl),
                                    (
                                      finds text_name_range (λ a. TextOf a.0 ∷ NameOf a.1.0 ∷ StampOf a.1.1.0 ∷ StampOf a.1.1.1 ∷ []) exact_text_name_range (λ a. commands.AggregateAll a.0 a.1.0 a.1.1.0 a.1.1.1) (codes "AggregateAll") (λ a. refl),
                                      (
                                        finds (text_key_whole_range (pos 1) (pos 65536)) (λ a. TextOf a.0 ∷ KeyOf a.1.0 ∷ WholeOf (pos 1) (pos 65536) a.1.1.0 ∷ StampOf a.1.1.1.0 ∷ StampOf a.1.1.1.1 ∷ []) (exact_text_key_whole_range (pos 1) (pos 65536)) (λ a. commands.TSRunningSum a.0 a.1.0 a.1.1.0 a.1.1.1.0 a.1.1.1.1) (codes "TSRunningSum") (λ a. refl),
                                        (
                                          finds (text_key_whole_range (pos 1) (pos 65536)) (λ a. TextOf a.0 ∷ KeyOf a.1.0 ∷ WholeOf (pos 1) (pos 65536) a.1.1.0 ∷ StampOf a.1.1.1.0 ∷ StampOf a.1.1.1.1 ∷ []) (exact_text_key_whole_range (pos 1) (pos 65536)) (λ a. commands.TSRunningAvg a.0 a.1.0 a.1.1.0 a.1.1.1.0 a.1.1.1.1) (codes "TSRunningAvg") (λ a. refl),
                                          (
                                            finds text_key_range (λ a. TextOf a.0 ∷ KeyOf a.1.0 ∷ StampOf a.1.1.0 ∷ StampOf a.1.1.1 ∷ []) exact_text_key_range (λ a. commands.Apply a.0 a.1.0 a.1.1.0 a.1.1.1) (codes "Apply") (λ a. refl),
                                            (
                                              finds (key_before 41) (λ a. KeyOf a ∷ []) exact_key_last (λ a. commands.GetFirstElem a) (codes "GetFirstElem") (λ a. refl),
                                              (
                                                finds (key_before 41) (λ a. KeyOf a ∷ []) exact_key_last (λ a. commands.GetLastElem a) (codes "GetLastElem") (λ a. refl),
                                                (
                                                  finds (key_before 41) (λ a. KeyOf a ∷ []) exact_key_last (λ a. commands.GetNelems a) (codes "GetNelems") (λ a. refl),
                                                  (
                                                    finds name_range (λ a. NameOf a.0 ∷ StampOf a.1.0 ∷ StampOf a.1.1 ∷ []) exact_name_range (λ a. commands.CalIndex a.0 a.1.0 a.1.1) (codes "CalIndex") (λ a. refl),
                                                    (
                                                      finds (name_stamp_and_whole (pos 1) (pos 4294967295)) (λ a. NameOf a.0 ∷ StampOf a.1.0 ∷ WholeOf (pos 1) (pos 4294967295) a.1.1 ∷ []) (exact_name_stamp_and_whole (pos 1) (pos 4294967295)) (λ a. commands.CalStamp a.0 a.1.0 a.1.1) (codes "CalStamp") (λ a. refl),
                                                      (
                                                        finds name_range (λ a. NameOf a.0 ∷ StampOf a.1.0 ∷ StampOf a.1.1 ∷ []) exact_name_range (λ a. commands.CalRange a.0 a.1.0 a.1.1) (codes "CalRange") (λ a. refl),
                                                        (
                                                          finds (key_before 41) (λ a. KeyOf a ∷ []) exact_key_last (λ a. commands.DropSeries a) (codes "DropSeries") (λ a. refl),
                                                          (
                                                            finds key_name_stamp_and_name (λ a. KeyOf a.0 ∷ NameOf a.1.0 ∷ StampOf a.1.1.0 ∷ NameOf a.1.1.1 ∷ []) exact_key_name_stamp_and_name (λ a. commands.TSCreate a.0 a.1.0 a.1.1.0 a.1.1.1) (codes "TSCreate") (λ a. refl),
                                                            (
                                                              finds key_and_name (λ a. KeyOf a.0 ∷ NameOf a.1 ∷ []) exact_key_and_name (λ a. commands.TSCreateIrr a.0 a.1) (codes "TSCreateIrr") (λ a. refl),
                                                              (
                                                                finds name_and_columns of_columns exact_of_columns (λ a. commands.CreateRowType a.0 a.1.0 a.1.1) (codes "CreateRowType") row_type_says,
                                                                (
                                                                  finds (two_names_and_whole (pos 1) (pos 65536)) (λ a. NameOf a.0 ∷ NameOf a.1.0 ∷ WholeOf (pos 1) (pos 65536) a.1.1 ∷ []) (exact_two_names_and_whole (pos 1) (pos 65536)) (λ a. commands.TSContainerCreate a.0 a.1.0 a.1.1) (codes "TSContainerCreate") (λ a. refl),
                                                                  (
                                                                    finds (name_before 41) (λ a. NameOf a ∷ []) exact_name_last (λ a. commands.DropRowType a) (codes "DropRowType") (λ a. refl),
                                                                    (
                                                                      finds (name_before 41) (λ a. NameOf a ∷ []) exact_name_last (λ a. commands.TSContainerDestroy a) (codes "TSContainerDestroy") (λ a. refl),
                                                                      (
                                                                        finds (name_before 41) (λ a. NameOf a ∷ []) exact_name_last (λ a. commands.TSContainerUsage a) (codes "TSContainerUsage") (λ a. refl),
                                                                        (
                                                                          finds (name_before 41) (λ a. NameOf a ∷ []) exact_name_last (λ a. commands.ListSeries a) (codes "ListSeries") (λ a. refl),
                                                                          (
                                                                            finds name_and_text (λ a. NameOf a.0 ∷ TextOf a.1 ∷ []) exact_name_and_text (λ a. commands.CreatePattern a.0 a.1) (codes "CreatePattern") (λ a. refl),
                                                                            (
                                                                              finds name_and_text (λ a. NameOf a.0 ∷ TextOf a.1 ∷ []) exact_name_and_text (λ a. commands.CreateCalendar a.0 a.1) (codes "CreateCalendar") (λ a. refl),
                                                                              (
                                                                                finds two_names (λ a. NameOf a.0 ∷ NameOf a.1 ∷ []) exact_two_names (λ a. commands.NotOp a.0 a.1) (codes "NotOp") (λ a. refl),
                                                                                (
                                                                                  join_finds _ (codes "AndOp") (λ names. refl) (λ names. refl),
                                                                                  (
                                                                                    join_finds _ (codes "OrOp") (λ names. refl) (λ names. refl),
                                                                                    (
                                                                                      finds (name_before 41) (λ a. NameOf a ∷ []) exact_name_last (λ a. commands.ShowPattern a) (codes "ShowPattern") (λ a. refl),
                                                                                      (
                                                                                        finds (name_before 41) (λ a. NameOf a ∷ []) exact_name_last (λ a. commands.DropPattern a) (codes "DropPattern") (λ a. refl),
                                                                                        (
                                                                                          finds (name_before 41) (λ a. NameOf a ∷ []) exact_name_last (λ a. commands.ShowCalendar a) (codes "ShowCalendar") (λ a. refl),
                                                                                          (
                                                                                            finds (name_before 41) (λ a. NameOf a ∷ []) exact_name_last (λ a. commands.DropCalendar a) (codes "DropCalendar") (λ a. refl),
                                                                                            (
                                                                                              finds set_stamp_and_values (λ a. SetOf a.0 ∷ StampOf a.1.0 ∷ map ValueOf a.1.1) exact_set_stamp_and_values (λ a. commands.RollingPut a.0 a.1.0 a.1.1) (codes "RollingPut") (λ a. refl),
                                                                                              (
                                                                                                finds set_range (λ a. SetOf a.0 ∷ StampOf a.1.0 ∷ StampOf a.1.1 ∷ []) exact_set_range (λ a. commands.RollingClip a.0 a.1.0 a.1.1) (codes "RollingClip") (λ a. refl),
                                                                                                (
                                                                                                  finds (set_name_stamp_name_and_whole (pos 1) (pos 1000)) (λ a. SetOf a.0 ∷ NameOf a.1.0 ∷ StampOf a.1.1.0 ∷ NameOf a.1.1.1.0 ∷ WholeOf (pos 1) (pos 1000) a.1.1.1.1 ∷ []) (exact_set_name_stamp_name_and_whole (pos 1) (pos 1000)) (λ a. commands.RollingCreate a.0 a.1.0 a.1.1.0 a.1.1.1.0 a.1.1.1.1) (codes "RollingCreate") (λ a. refl),
                                                                                                  (
                                                                                                    finds (set_before 41) (λ a. SetOf a ∷ []) exact_set_last (λ a. commands.RollingDrop a) (codes "RollingDrop") (λ a. refl),
                                                                                                    (
                                                                                                      lone_finds (codes "Begin") commands.Begin refl,
                                                                                                      (
                                                                                                        lone_finds (codes "Commit") commands.Commit refl,
                                                                                                        (
                                                                                                          lone_finds (codes "Rollback") commands.Rollback refl,
                                                                                                          tt,
                                                                                                        ),
                                                                                                      ),
                                                                                                    ),
                                                                                                  ),
                                                                                                ),
                                                                                              ),
                                                                                            ),
                                                                                          ),
                                                                                        ),
                                                                                      ),
                                                                                    ),
                                                                                  ),
                                                                                ),
                                                                              ),
                                                                            ),
                                                                          ),
                                                                        ),
                                                                      ),
                                                                    ),
                                                                  ),
                                                                ),
                                                              ),
                                                            ),
                                                          ),
                                                        ),
                                                      ),
                                                    ),
                                                  ),
                                                ),
                                              ),
                                            ),
                                          ),
                                        ),
                                      ),
                                    ),
                                  ),
                                ),
                              ),
                            ),
                          ),
                        ),
                      ),
                    ),
                  ),
                ),
              ),
            ),
          ),
        ),
      ),
    ),
  ),
)

-- what is read of each command
abbrev IsReading : Command → Type 0
IsReading c = (r : Called) × (routine_of (word_of (statement_of c)) ≡ Some r) × Reads c (opening r >>= (λ opened. arguments r))

reading : (c : Command) → IsReading c
unfolding routine_of opening arguments
reading (commands.PutElem v0 v1 v2) = (_, refl, reads key_stamp_and_values (λ a. KeyOf a.0 ∷ StampOf a.1.0 ∷ map ValueOf a.1.1) exact_key_stamp_and_values (λ a. commands.PutElem a.0 a.1.0 a.1.1) (codes "PutElem") (λ a. refl) (v0, (v1, v2)))
reading (commands.InsElem v0 v1 v2) = (_, refl, reads key_stamp_and_values (λ a. KeyOf a.0 ∷ StampOf a.1.0 ∷ map ValueOf a.1.1) exact_key_stamp_and_values (λ a. commands.InsElem a.0 a.1.0 a.1.1) (codes "InsElem") (λ a. refl) (v0, (v1, v2)))
reading (commands.UpdElem v0 v1 v2) = (_, refl, reads key_stamp_and_values (λ a. KeyOf a.0 ∷ StampOf a.1.0 ∷ map ValueOf a.1.1) exact_key_stamp_and_values (λ a. commands.UpdElem a.0 a.1.0 a.1.1) (codes "UpdElem") (λ a. refl) (v0, (v1, v2)))
reading (commands.PutElemNoDups v0 v1 v2) = (_, refl, reads key_stamp_and_values (λ a. KeyOf a.0 ∷ StampOf a.1.0 ∷ map ValueOf a.1.1) exact_key_stamp_and_values (λ a. commands.PutElemNoDups a.0 a.1.0 a.1.1) (codes "PutElemNoDups") (λ a. refl) (v0, (v1, v2)))
reading (commands.GetElem v0 v1) = (_, refl, reads key_and_stamp (λ a. KeyOf a.0 ∷ StampOf a.1 ∷ []) exact_key_and_stamp (λ a. commands.GetElem a.0 a.1) (codes "GetElem") (λ a. refl) (v0, v1))
reading (commands.DelElem v0 v1) = (_, refl, reads key_and_stamp (λ a. KeyOf a.0 ∷ StampOf a.1 ∷ []) exact_key_and_stamp (λ a. commands.DelElem a.0 a.1) (codes "DelElem") (λ a. refl) (v0, v1))
reading (commands.HideElem v0 v1) = (_, refl, reads key_and_stamp (λ a. KeyOf a.0 ∷ StampOf a.1 ∷ []) exact_key_and_stamp (λ a. commands.HideElem a.0 a.1) (codes "HideElem") (λ a. refl) (v0, v1))
reading (commands.RevealElem v0 v1) = (_, refl, reads key_and_stamp (λ a. KeyOf a.0 ∷ StampOf a.1 ∷ []) exact_key_and_stamp (λ a. commands.RevealElem a.0 a.1) (codes "RevealElem") (λ a. refl) (v0, v1))
reading (commands.Clip v0 v1 v2) = (_, refl, reads key_range (λ a. KeyOf a.0 ∷ StampOf a.1.0 ∷ StampOf a.1.1 ∷ []) exact_key_range (λ a. commands.Clip a.0 a.1.0 a.1.1) (codes "Clip") (λ a. refl) (v0, (v1, v2)))
reading (commands.ClipGetCount v0 v1 v2) = (_, refl, reads key_range (λ a. KeyOf a.0 ∷ StampOf a.1.0 ∷ StampOf a.1.1 ∷ []) exact_key_range (λ a. commands.ClipGetCount a.0 a.1.0 a.1.1) (codes "ClipGetCount") (λ a. refl) (v0, (v1, v2)))
reading (commands.DelClip v0 v1 v2) = (_, refl, reads key_range (λ a. KeyOf a.0 ∷ StampOf a.1.0 ∷ StampOf a.1.1 ∷ []) exact_key_range (λ a. commands.DelClip a.0 a.1.0 a.1.1) (codes "DelClip") (λ a. refl) (v0, (v1, v2)))
reading (commands.ClipCount v0 v1 v2) = (_, refl, reads (key_stamp_and_whole (neg_ℤ (pos 1000000)) (pos 1000000)) (λ a. KeyOf a.0 ∷ StampOf a.1.0 ∷ WholeOf (neg_ℤ (pos 1000000)) (pos 1000000) a.1.1 ∷ []) (exact_key_stamp_and_whole (neg_ℤ (pos 1000000)) (pos 1000000)) (λ a. commands.ClipCount a.0 a.1.0 a.1.1) (codes "ClipCount") (λ a. refl) (v0, (v1, v2)))
reading (commands.GetNthElem v0 v1) = (_, refl, reads (key_and_whole (pos 0) (pos 4294967295)) (λ a. KeyOf a.0 ∷ WholeOf (pos 0) (pos 4294967295) a.1 ∷ []) (exact_key_and_whole (pos 0) (pos 4294967295)) (λ a. commands.GetNthElem a.0 a.1) (codes "GetNthElem") (λ a. refl) (v0, v1))
reading (commands.Lag v0 v1) = (_, refl, reads (key_and_whole (neg_ℤ (pos 2147483647)) (pos 2147483647)) (λ a. KeyOf a.0 ∷ WholeOf (neg_ℤ (pos 2147483647)) (pos 2147483647) a.1 ∷ []) (exact_key_and_whole (neg_ℤ (pos 2147483647)) (pos 2147483647)) (λ a. commands.Lag a.0 a.1) (codes "Lag") (λ a. refl) (v0, v1))
reading (commands.Union v0 v1 v2 v3) = (_, refl, reads two_keys_range (λ a. KeyOf a.0 ∷ KeyOf a.1.0 ∷ StampOf a.1.1.0 ∷ StampOf a.1.1.1 ∷ []) exact_two_keys_range (λ a. commands.Union a.0 a.1.0 a.1.1.0 a.1.1.1) (codes "Union") (λ a. refl) (v0, (v1, (v2, v3))))
reading (commands.Intersect v0 v1 v2 v3) = (_, refl, reads two_keys_range (λ a. KeyOf a.0 ∷ KeyOf a.1.0 ∷ StampOf a.1.1.0 ∷ StampOf a.1.1.1 ∷ []) exact_two_keys_range (λ a. commands.Intersect a.0 a.1.0 a.1.1.0 a.1.1.1) (codes "Intersect") (λ a. refl) (v0, (v1, (v2, v3))))
reading (commands.AggregateBy v0 v1 v2 v3 v4) = (_, refl, reads text_name_key_range (λ a. TextOf a.0 ∷ NameOf a.1.0 ∷ KeyOf a.1.1.0 ∷ StampOf a.1.1.1.0 ∷ StampOf a.1.1.1.1 ∷ []) exact_text_name_key_range (λ a. commands.AggregateBy a.0 a.1.0 a.1.1.0 a.1.1.1.0 a.1.1.1.1) (codes "AggregateBy") (λ a. refl) (v0, (v1, (v2, (v3, v4)))))
reading (commands.AggregateRange v0 v1 v2 v3) = (_, refl, reads text_key_range (λ a. TextOf a.0 ∷ KeyOf a.1.0 ∷ StampOf a.1.1.0 ∷ StampOf a.1.1.1 ∷ []) exact_text_key_range (λ a. commands.AggregateRange a.0 a.1.0 a.1.1.0 a.1.1.1) (codes "AggregateRange") (λ a. refl) (v0, (v1, (v2, v3))))
reading (commands.AggregateAll v0 v1 v2 v3) = (_, refl, reads text_name_range (λ a. TextOf a.0 ∷ NameOf a.1.0 ∷ StampOf a.1.1.0 ∷ StampOf a.1.1.1 ∷ []) exact_text_name_range (λ a. commands.AggregateAll a.0 a.1.0 a.1.1.0 a.1.1.1) (codes "AggregateAll") (λ a. refl) (v0, (v1, (v2, v3))))
reading (commands.TSRunningSum v0 v1 v2 v3 v4) = (_, refl, reads (text_key_whole_range (pos 1) (pos 65536)) (λ a. TextOf a.0 ∷ KeyOf a.1.0 ∷ WholeOf (pos 1) (pos 65536) a.1.1.0 ∷ StampOf a.1.1.1.0 ∷ StampOf a.1.1.1.1 ∷ []) (exact_text_key_whole_range (pos 1) (pos 65536)) (λ a. commands.TSRunningSum a.0 a.1.0 a.1.1.0 a.1.1.1.0 a.1.1.1.1) (codes "TSRunningSum") (λ a. refl) (v0, (v1, (v2, (v3, v4)))))
reading (commands.TSRunningAvg v0 v1 v2 v3 v4) = (_, refl, reads (text_key_whole_range (pos 1) (pos 65536)) (λ a. TextOf a.0 ∷ KeyOf a.1.0 ∷ WholeOf (pos 1) (pos 65536) a.1.1.0 ∷ StampOf a.1.1.1.0 ∷ StampOf a.1.1.1.1 ∷ []) (exact_text_key_whole_range (pos 1) (pos 65536)) (λ a. commands.TSRunningAvg a.0 a.1.0 a.1.1.0 a.1.1.1.0 a.1.1.1.1) (codes "TSRunningAvg") (λ a. refl) (v0, (v1, (v2, (v3, v4)))))
reading (commands.Apply v0 v1 v2 v3) = (_, refl, reads text_key_range (λ a. TextOf a.0 ∷ KeyOf a.1.0 ∷ StampOf a.1.1.0 ∷ StampOf a.1.1.1 ∷ []) exact_text_key_range (λ a. commands.Apply a.0 a.1.0 a.1.1.0 a.1.1.1) (codes "Apply") (λ a. refl) (v0, (v1, (v2, v3))))
reading (commands.GetFirstElem v0) = (_, refl, reads (key_before 41) (λ a. KeyOf a ∷ []) exact_key_last (λ a. commands.GetFirstElem a) (codes "GetFirstElem") (λ a. refl) v0)
reading (commands.GetLastElem v0) = (_, refl, reads (key_before 41) (λ a. KeyOf a ∷ []) exact_key_last (λ a. commands.GetLastElem a) (codes "GetLastElem") (λ a. refl) v0)
reading (commands.GetNelems v0) = (_, refl, reads (key_before 41) (λ a. KeyOf a ∷ []) exact_key_last (λ a. commands.GetNelems a) (codes "GetNelems") (λ a. refl) v0)
reading (commands.CalIndex v0 v1 v2) = (_, refl, reads name_range (λ a. NameOf a.0 ∷ StampOf a.1.0 ∷ StampOf a.1.1 ∷ []) exact_name_range (λ a. commands.CalIndex a.0 a.1.0 a.1.1) (codes "CalIndex") (λ a. refl) (v0, (v1, v2)))
reading (commands.CalStamp v0 v1 v2) = (_, refl, reads (name_stamp_and_whole (pos 1) (pos 4294967295)) (λ a. NameOf a.0 ∷ StampOf a.1.0 ∷ WholeOf (pos 1) (pos 4294967295) a.1.1 ∷ []) (exact_name_stamp_and_whole (pos 1) (pos 4294967295)) (λ a. commands.CalStamp a.0 a.1.0 a.1.1) (codes "CalStamp") (λ a. refl) (v0, (v1, v2)))
reading (commands.CalRange v0 v1 v2) = (_, refl, reads name_range (λ a. NameOf a.0 ∷ StampOf a.1.0 ∷ StampOf a.1.1 ∷ []) exact_name_range (λ a. commands.CalRange a.0 a.1.0 a.1.1) (codes "CalRange") (λ a. refl) (v0, (v1, v2)))
reading (commands.DropSeries v0) = (_, refl, reads (key_before 41) (λ a. KeyOf a ∷ []) exact_key_last (λ a. commands.DropSeries a) (codes "DropSeries") (λ a. refl) v0)
reading (commands.TSCreate v0 v1 v2 v3) = (_, refl, reads key_name_stamp_and_name (λ a. KeyOf a.0 ∷ NameOf a.1.0 ∷ StampOf a.1.1.0 ∷ NameOf a.1.1.1 ∷ []) exact_key_name_stamp_and_name (λ a. commands.TSCreate a.0 a.1.0 a.1.1.0 a.1.1.1) (codes "TSCreate") (λ a. refl) (v0, (v1, (v2, v3))))
reading (commands.TSCreateIrr v0 v1) = (_, refl, reads key_and_name (λ a. KeyOf a.0 ∷ NameOf a.1 ∷ []) exact_key_and_name (λ a. commands.TSCreateIrr a.0 a.1) (codes "TSCreateIrr") (λ a. refl) (v0, v1))
reading (commands.CreateRowType name stamp []) = (_, refl, reads name_and_columns of_columns exact_of_columns (λ a. commands.CreateRowType a.0 a.1.0 a.1.1) (codes "CreateRowType") row_type_says (name, (stamp, [])))
reading (commands.CreateRowType name stamp (column ∷ columns)) = (_, refl, reads name_and_columns of_columns exact_of_columns (λ a. commands.CreateRowType a.0 a.1.0 a.1.1) (codes "CreateRowType") row_type_says (name, (stamp, column ∷ columns)))
reading (commands.TSContainerCreate v0 v1 v2) = (_, refl, reads (two_names_and_whole (pos 1) (pos 65536)) (λ a. NameOf a.0 ∷ NameOf a.1.0 ∷ WholeOf (pos 1) (pos 65536) a.1.1 ∷ []) (exact_two_names_and_whole (pos 1) (pos 65536)) (λ a. commands.TSContainerCreate a.0 a.1.0 a.1.1) (codes "TSContainerCreate") (λ a. refl) (v0, (v1, v2)))
reading (commands.DropRowType v0) = (_, refl, reads (name_before 41) (λ a. NameOf a ∷ []) exact_name_last (λ a. commands.DropRowType a) (codes "DropRowType") (λ a. refl) v0)
reading (commands.TSContainerDestroy v0) = (_, refl, reads (name_before 41) (λ a. NameOf a ∷ []) exact_name_last (λ a. commands.TSContainerDestroy a) (codes "TSContainerDestroy") (λ a. refl) v0)
reading (commands.TSContainerUsage v0) = (_, refl, reads (name_before 41) (λ a. NameOf a ∷ []) exact_name_last (λ a. commands.TSContainerUsage a) (codes "TSContainerUsage") (λ a. refl) v0)
reading (commands.ListSeries v0) = (_, refl, reads (name_before 41) (λ a. NameOf a ∷ []) exact_name_last (λ a. commands.ListSeries a) (codes "ListSeries") (λ a. refl) v0)
reading (commands.CreatePattern v0 v1) = (_, refl, reads name_and_text (λ a. NameOf a.0 ∷ TextOf a.1 ∷ []) exact_name_and_text (λ a. commands.CreatePattern a.0 a.1) (codes "CreatePattern") (λ a. refl) (v0, v1))
reading (commands.CreateCalendar v0 v1) = (_, refl, reads name_and_text (λ a. NameOf a.0 ∷ TextOf a.1 ∷ []) exact_name_and_text (λ a. commands.CreateCalendar a.0 a.1) (codes "CreateCalendar") (λ a. refl) (v0, v1))
reading (commands.NotOp v0 v1) = (_, refl, reads two_names (λ a. NameOf a.0 ∷ NameOf a.1 ∷ []) exact_two_names (λ a. commands.NotOp a.0 a.1) (codes "NotOp") (λ a. refl) (v0, v1))
reading (commands.AndPatterns name first second) = (_, refl, join_reads _ (codes "AndOp") (λ names. refl) (λ names. refl) (Patterns, (name, (first, second))))
reading (commands.AndCalendars name first second) = (_, refl, join_reads _ (codes "AndOp") (λ names. refl) (λ names. refl) (Calendars, (name, (first, second))))
reading (commands.OrPatterns name first second) = (_, refl, join_reads _ (codes "OrOp") (λ names. refl) (λ names. refl) (Patterns, (name, (first, second))))
reading (commands.OrCalendars name first second) = (_, refl, join_reads _ (codes "OrOp") (λ names. refl) (λ names. refl) (Calendars, (name, (first, second))))
reading (commands.ShowPattern v0) = (_, refl, reads (name_before 41) (λ a. NameOf a ∷ []) exact_name_last (λ a. commands.ShowPattern a) (codes "ShowPattern") (λ a. refl) v0)
reading (commands.DropPattern v0) = (_, refl, reads (name_before 41) (λ a. NameOf a ∷ []) exact_name_last (λ a. commands.DropPattern a) (codes "DropPattern") (λ a. refl) v0)
reading (commands.ShowCalendar v0) = (_, refl, reads (name_before 41) (λ a. NameOf a ∷ []) exact_name_last (λ a. commands.ShowCalendar a) (codes "ShowCalendar") (λ a. refl) v0)
reading (commands.DropCalendar v0) = (_, refl, reads (name_before 41) (λ a. NameOf a ∷ []) exact_name_last (λ a. commands.DropCalendar a) (codes "DropCalendar") (λ a. refl) v0)
reading (commands.RollingPut v0 v1 v2) = (_, refl, reads set_stamp_and_values (λ a. SetOf a.0 ∷ StampOf a.1.0 ∷ map ValueOf a.1.1) exact_set_stamp_and_values (λ a. commands.RollingPut a.0 a.1.0 a.1.1) (codes "RollingPut") (λ a. refl) (v0, (v1, v2)))
reading (commands.RollingClip v0 v1 v2) = (_, refl, reads set_range (λ a. SetOf a.0 ∷ StampOf a.1.0 ∷ StampOf a.1.1 ∷ []) exact_set_range (λ a. commands.RollingClip a.0 a.1.0 a.1.1) (codes "RollingClip") (λ a. refl) (v0, (v1, v2)))
reading (commands.RollingCreate v0 v1 v2 v3 v4) = (_, refl, reads (set_name_stamp_name_and_whole (pos 1) (pos 1000)) (λ a. SetOf a.0 ∷ NameOf a.1.0 ∷ StampOf a.1.1.0 ∷ NameOf a.1.1.1.0 ∷ WholeOf (pos 1) (pos 1000) a.1.1.1.1 ∷ []) (exact_set_name_stamp_name_and_whole (pos 1) (pos 1000)) (λ a. commands.RollingCreate a.0 a.1.0 a.1.1.0 a.1.1.1.0 a.1.1.1.1) (codes "RollingCreate") (λ a. refl) (v0, (v1, (v2, (v3, v4)))))
reading (commands.RollingDrop v0) = (_, refl, reads (set_before 41) (λ a. SetOf a ∷ []) exact_set_last (λ a. commands.RollingDrop a) (codes "RollingDrop") (λ a. refl) v0)
reading commands.Begin = (_, refl, lone_reads (codes "Begin") commands.Begin refl)
reading commands.Commit = (_, refl, lone_reads (codes "Commit") commands.Commit refl)
reading commands.Rollback = (_, refl, lone_reads (codes "Rollback") commands.Rollback refl)

-- the word of a routine
routine_to : (kind : TokenKind) (text : List ℕ) (r : Called) → routine_in kind text ≡ Some r → (kind ≡ Word) × (routine_of text ≡ Some r)
routine_to Word text r is = (refl, is)
routine_to Number text r is = absurd (let never : ⊥ = cc in never)
routine_to Text text r is = absurd (let never : ⊥ = cc in never)
routine_to Sign text r is = absurd (let never : ⊥ = cc in never)

-- a word and what stands behind it
with_word : (s : Statement) (l : Lexeme) (first others : List Lexeme) → first ≡ l ∷ [] → IsWord (word_of s) l → AreBehind s others → AreStatement s (first ++ others)
with_word (Alone word) l first others lone is none = (l, ap (λ (x : List Lexeme). x ++ others) lone ∙ ap (λ (x : List Lexeme). l ∷ x) none, is)
with_word (Call word arguments) l first others lone is are = (first, others, refl, (l, lone, is), are)

word_and_behind : (s : Statement) (ls : List Lexeme) → AreStatement s ls → Then (One (IsWord (word_of s))) (AreBehind s) ls
word_and_behind (Alone word) ls is = (ls, [], sym (append-nil ls), is, refl)
word_and_behind (Call word arguments) ls are = are

-- a call is read exactly where its tokens stand
call_found : (bytes rest : List ℕ) (c : Command) → a_call bytes ≡ Ok (c, rest) → (ls : List Lexeme) × AreStatement (statement_of c) ls × Spells front bytes ls rest
unfolding a_call a_routine routine_of
call_found bytes rest c is =
    let x = bind-ok (a_routine bytes) (λ r. opening r >>= (λ opened. arguments r)) (c, rest) is in
    let f = (exact_token routine_in).found bytes x.0.1 x.0.0 x.1 in
    let (l, lone, so) = f.1 in
    let word = routine_to l.kind l.token x.0.0 so in
    let g = found_each (λ r. bytes_eq (spelling r) l.token) (λ r. Finds (spelling r) (opening r >>= (λ opened. arguments r))) routines each_finds x.0.0 word.1 x.0.1 rest c x.2 in
    let named : spelling x.0.0 ≡ l.token = same_bytes (spelling x.0.0) l.token (found_passes (λ r. bytes_eq (spelling r) l.token) routines x.0.0 word.1) in
    (f.0 ++ g.0, with_word (statement_of c) l f.0 g.0 lone (word.0, sym named ∙ sym g.1) g.2, spells_both bytes x.0.1 rest f.0 g.0 f.2 g.3)

call_read : (bytes rest : List ℕ) (c : Command) (ls : List Lexeme) → AreStatement (statement_of c) ls → Spells front bytes ls rest → a_call bytes ≡ Ok (c, rest)
unfolding a_call a_routine
call_read bytes rest c ls are spells =
    let (first, others, both, (l, lone, (word, named)), behind_) = word_and_behind (statement_of c) ls are in
    let own = subst (λ (x : List Lexeme). Spells front bytes x rest) both spells in
    let middle : List ℕ = spelled others ++ rest in
    let (r, is, reads_) = reading c in
    let called : routine_in l.kind l.token ≡ Some r = ap (λ (k : TokenKind). routine_in k l.token) word ∙ ap routine_of named ∙ is in
    ap (λ (x : Read Called). go_on x (λ q. opening q >>= (λ opened. arguments q))) ((exact_token routine_in).read bytes middle r first (l, lone, called) (spells_first bytes rest first others own))
    ∙ reads_ middle rest others behind_ (spells_last bytes rest first others own)

-- and then the end
ends : (bytes : List ℕ) (x : Unit {0} × List ℕ) → the_end (59 ∷ []) bytes ≡ Ok x → unblanked bytes ≡ 59 ∷ []
unfolding the_end
ends bytes x is = by (bytes_eq (unblanked bytes) (59 ∷ [])) refl is where
  by : (b : Bool) → bytes_eq (unblanked bytes) (59 ∷ []) ≡ b → cond b (Ok (tt, [])) (Err (length (unblanked bytes))) ≡ Ok x → unblanked bytes ≡ 59 ∷ []
  by true on at = same_bytes (unblanked bytes) (59 ∷ []) on
  by false off at = absurd (let never : ⊥ = cc in never)

end_read : (bytes : List ℕ) → unblanked bytes ≡ 59 ∷ [] → the_end (59 ∷ []) bytes ≡ Ok (tt, [])
unfolding the_end
end_read bytes is = rw (bytes_same (unblanked bytes) (59 ∷ []) is) refl

read_ok : (size : ℕ) (read : Read Command) (c : Command) → outcome size read ≡ Ok c → (rest : List ℕ) × (read ≡ Ok (c, rest))
read_ok size (Ok (d, rest)) c is = let same : d ≡ c = cc in (rest, ap (λ (x : Command). Ok (x, rest)) same)
read_ok size (Err left) c is = absurd (let never : ⊥ = cc in never)

pub statements_tokens : StatementsAreTokens
unfolding a_command
statements_tokens text command = (to, from) where
  to : command_of text ≡ Ok command → IsStatementOf command text
  to is =
      let (left, at) = read_ok (length text) (a_command text) command is in
      let x = bind-ok (a_call text) (λ c. the_end (59 ∷ []) >>= (λ end. give c)) (command, left) at in
      let y = bind-ok (the_end (59 ∷ []) x.0.1) (λ end. give x.0.0) (command, left) x.2 in
      let same = pair-parts x.0.0 command y.0.1 left y.2 in
      let f = call_found text x.0.1 x.0.0 x.1 in
      record { tokens = f.0; rest = x.0.1; spelled = f.2; ended = ends x.0.1 y.0 y.1; are = subst (λ (c : Command). AreStatement (statement_of c) f.0) same.0 f.1 }

  from : IsStatementOf command text → command_of text ≡ Ok command
  from is =
      let call = call_read text is.rest command is.tokens is.are is.spelled in
      let whole_read : a_command text ≡ Ok (command, []) =
      ap (λ (x : Read Command). go_on x (λ c. the_end (59 ∷ []) >>= (λ end. give c))) call ∙ ap (λ (x : Read (Unit {0})). go_on x (λ end. give command)) (end_read is.rest is.ended) in
      ap (outcome (length text)) whole_read
