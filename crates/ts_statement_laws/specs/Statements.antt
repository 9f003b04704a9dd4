-- What the tokens of each statement are: its routine and, in brackets, its arguments.
use Rattle.std.specs.Prelude.{◌≡◌, ℕ, ℤ, pos, neg_ℤ, ◌≤◌, ◌≤ℤ◌, List, [], ◌∷◌, ◌++◌, length, map, Some, IsTrue, codes}
use Rattle.std.specs.List.{list_all}
use Rattle.std.specs.Char.{is_ascii_digit}
use Rattle.ts_base.specs.Name.{is_name, is_key}
use Rattle.ts_base.specs.Moment.{read_stamp}
use Rattle.ts_row.specs.declared.kind.ColumnKind.{ColumnKind}
use Rattle.ts_row.specs.declared.kind.ColumnKind.TheVariants.{SmallInt, Integer, BigInt, Decimal, VarChar}
use Rattle.ts_row.specs.declared.kind.Column.{Column}
use Rattle.ts_row.specs.declared.value.Literal.{Literal}
use Rattle.ts_row.specs.declared.value.Literal.TheVariants as literals
use Rattle.ts_rolling.specs.Sets.{is_set}
use Rattle.ts_text.specs.Phrase.{unblanked, magnitude_of}
use Rattle.ts_text.specs.Spelling.{Lexeme, Spells}
use Rattle.ts_text.specs.declared.token.TokenKind.TheVariants.{Word, Number, Text, Sign}
use Rattle.ts_tokens.specs.Tokens.{front, units_of, scale_of, said}
use Rattle.ts_command.specs.declared.command.Command.{Command}
use Rattle.ts_command.specs.declared.command.Command.TheVariants as commands

-- An argument of a call: a name, a key, the key of a rolling set, a stamp, a text, a whole number between two others, a
-- word, the column of the stamps, a value column, or a value.
pub data Argument : Type 0 where
  NameOf : List ℕ → Argument
  KeyOf : List ℕ → Argument
  SetOf : List ℕ → Argument
  StampOf : ℤ → Argument
  TextOf : List ℕ → Argument
  WholeOf : ℤ → ℤ → ℤ → Argument
  WordOf : List ℕ → Argument
  StampColumnOf : List ℕ → Argument
  ColumnOf : Column → Argument
  ValueOf : Literal → Argument

-- a statement: a word that stands alone, or a word and its arguments
pub data Statement : Type 0 where
  Alone : List ℕ → Statement
  Call : List ℕ → List Argument → Statement

-- the statement of each command; a row type without a value column has none, nor has a call without arguments
abbrev pub statement_of : Command → Statement
statement_of (commands.CreateRowType name stamp []) = Call (codes "CreateRowType") []
statement_of (commands.CreateRowType name stamp (column ∷ columns)) =
    Call (codes "CreateRowType") (NameOf name ∷ StampColumnOf stamp ∷ map ColumnOf (column ∷ columns))
statement_of (commands.DropRowType name) = Call (codes "DropRowType") (NameOf name ∷ [])
statement_of (commands.CreatePattern name text) = Call (codes "CreatePattern") (NameOf name ∷ TextOf text ∷ [])
statement_of (commands.NotOp name pattern) = Call (codes "NotOp") (NameOf name ∷ NameOf pattern ∷ [])
statement_of (commands.AndPatterns name first second) =
    Call (codes "AndOp") (WordOf (codes "pattern") ∷ NameOf name ∷ NameOf first ∷ NameOf second ∷ [])
statement_of (commands.OrPatterns name first second) =
    Call (codes "OrOp") (WordOf (codes "pattern") ∷ NameOf name ∷ NameOf first ∷ NameOf second ∷ [])
statement_of (commands.AndCalendars name first second) =
    Call (codes "AndOp") (WordOf (codes "calendar") ∷ NameOf name ∷ NameOf first ∷ NameOf second ∷ [])
statement_of (commands.OrCalendars name first second) =
    Call (codes "OrOp") (WordOf (codes "calendar") ∷ NameOf name ∷ NameOf first ∷ NameOf second ∷ [])
statement_of (commands.ShowPattern name) = Call (codes "ShowPattern") (NameOf name ∷ [])
statement_of (commands.DropPattern name) = Call (codes "DropPattern") (NameOf name ∷ [])
statement_of (commands.CreateCalendar name text) = Call (codes "CreateCalendar") (NameOf name ∷ TextOf text ∷ [])
statement_of (commands.ShowCalendar name) = Call (codes "ShowCalendar") (NameOf name ∷ [])
statement_of (commands.DropCalendar name) = Call (codes "DropCalendar") (NameOf name ∷ [])
statement_of (commands.TSContainerCreate name row_type quota) =
    Call (codes "TSContainerCreate") (NameOf name ∷ NameOf row_type ∷ WholeOf (pos 1) (pos 65536) quota ∷ [])
statement_of (commands.TSContainerDestroy name) = Call (codes "TSContainerDestroy") (NameOf name ∷ [])
statement_of (commands.TSContainerUsage name) = Call (codes "TSContainerUsage") (NameOf name ∷ [])
statement_of (commands.TSCreate key calendar origin container) =
    Call (codes "TSCreate") (KeyOf key ∷ NameOf calendar ∷ StampOf origin ∷ NameOf container ∷ [])
statement_of (commands.TSCreateIrr key container) = Call (codes "TSCreateIrr") (KeyOf key ∷ NameOf container ∷ [])
statement_of (commands.DropSeries key) = Call (codes "DropSeries") (KeyOf key ∷ [])
statement_of (commands.ListSeries container) = Call (codes "ListSeries") (NameOf container ∷ [])
statement_of (commands.PutElem key stamp values) =
    Call (codes "PutElem") (KeyOf key ∷ StampOf stamp ∷ map ValueOf values)
statement_of (commands.PutElemNoDups key stamp values) =
    Call (codes "PutElemNoDups") (KeyOf key ∷ StampOf stamp ∷ map ValueOf values)
statement_of (commands.InsElem key stamp values) =
    Call (codes "InsElem") (KeyOf key ∷ StampOf stamp ∷ map ValueOf values)
statement_of (commands.UpdElem key stamp values) =
    Call (codes "UpdElem") (KeyOf key ∷ StampOf stamp ∷ map ValueOf values)
statement_of (commands.DelElem key stamp) = Call (codes "DelElem") (KeyOf key ∷ StampOf stamp ∷ [])
statement_of (commands.DelClip key from to) = Call (codes "DelClip") (KeyOf key ∷ StampOf from ∷ StampOf to ∷ [])
statement_of (commands.HideElem key stamp) = Call (codes "HideElem") (KeyOf key ∷ StampOf stamp ∷ [])
statement_of (commands.RevealElem key stamp) = Call (codes "RevealElem") (KeyOf key ∷ StampOf stamp ∷ [])
statement_of (commands.CalIndex calendar from to) =
    Call (codes "CalIndex") (NameOf calendar ∷ StampOf from ∷ StampOf to ∷ [])
statement_of (commands.CalStamp calendar after count) =
    Call (codes "CalStamp") (NameOf calendar ∷ StampOf after ∷ WholeOf (pos 1) (pos 4294967295) count ∷ [])
statement_of (commands.CalRange calendar from to) =
    Call (codes "CalRange") (NameOf calendar ∷ StampOf from ∷ StampOf to ∷ [])
statement_of (commands.GetElem key stamp) = Call (codes "GetElem") (KeyOf key ∷ StampOf stamp ∷ [])
statement_of (commands.GetLastElem key) = Call (codes "GetLastElem") (KeyOf key ∷ [])
statement_of (commands.GetNelems key) = Call (codes "GetNelems") (KeyOf key ∷ [])
statement_of (commands.GetFirstElem key) = Call (codes "GetFirstElem") (KeyOf key ∷ [])
statement_of (commands.GetNthElem key index) =
    Call (codes "GetNthElem") (KeyOf key ∷ WholeOf (pos 0) (pos 4294967295) index ∷ [])
statement_of (commands.Clip key from to) = Call (codes "Clip") (KeyOf key ∷ StampOf from ∷ StampOf to ∷ [])
statement_of (commands.ClipCount key stamp count) =
    Call (codes "ClipCount") (KeyOf key ∷ StampOf stamp ∷ WholeOf (neg_ℤ (pos 1000000)) (pos 1000000) count ∷ [])
statement_of (commands.ClipGetCount key from to) =
    Call (codes "ClipGetCount") (KeyOf key ∷ StampOf from ∷ StampOf to ∷ [])
statement_of (commands.Union first second from to) =
    Call (codes "Union") (KeyOf first ∷ KeyOf second ∷ StampOf from ∷ StampOf to ∷ [])
statement_of (commands.Intersect first second from to) =
    Call (codes "Intersect") (KeyOf first ∷ KeyOf second ∷ StampOf from ∷ StampOf to ∷ [])
statement_of (commands.Lag key by) =
    Call (codes "Lag") (KeyOf key ∷ WholeOf (neg_ℤ (pos 2147483647)) (pos 2147483647) by ∷ [])
statement_of (commands.AggregateBy text calendar key from to) =
    Call (codes "AggregateBy") (TextOf text ∷ NameOf calendar ∷ KeyOf key ∷ StampOf from ∷ StampOf to ∷ [])
statement_of (commands.AggregateRange text key from to) =
    Call (codes "AggregateRange") (TextOf text ∷ KeyOf key ∷ StampOf from ∷ StampOf to ∷ [])
statement_of (commands.AggregateAll text container from to) =
    Call (codes "AggregateAll") (TextOf text ∷ NameOf container ∷ StampOf from ∷ StampOf to ∷ [])
statement_of (commands.TSRunningSum text key span from to) =
    Call (codes "TSRunningSum")
    (TextOf text ∷ KeyOf key ∷ WholeOf (pos 1) (pos 65536) span ∷ StampOf from ∷ StampOf to ∷ [])
statement_of (commands.TSRunningAvg text key span from to) =
    Call (codes "TSRunningAvg")
    (TextOf text ∷ KeyOf key ∷ WholeOf (pos 1) (pos 65536) span ∷ StampOf from ∷ StampOf to ∷ [])
statement_of (commands.Apply text key from to) =
    Call (codes "Apply") (TextOf text ∷ KeyOf key ∷ StampOf from ∷ StampOf to ∷ [])
statement_of (commands.RollingCreate set calendar origin container kept) =
    Call (codes "RollingCreate")
    (SetOf set ∷ NameOf calendar ∷ StampOf origin ∷ NameOf container ∷ WholeOf (pos 1) (pos 1000) kept ∷ [])
statement_of (commands.RollingPut set stamp values) =
    Call (codes "RollingPut") (SetOf set ∷ StampOf stamp ∷ map ValueOf values)
statement_of (commands.RollingClip set from to) =
    Call (codes "RollingClip") (SetOf set ∷ StampOf from ∷ StampOf to ∷ [])
statement_of (commands.RollingDrop set) = Call (codes "RollingDrop") (SetOf set ∷ [])
statement_of commands.Begin = Alone (codes "Begin")
statement_of commands.Commit = Alone (codes "Commit")
statement_of commands.Rollback = Alone (codes "Rollback")

-- tokens are one of which this holds
abbrev pub One : (Lexeme → Type 0) → List Lexeme → Type 0
One P lexemes = (l : Lexeme) × (lexemes ≡ l ∷ []) × P l

-- no token stands there
abbrev pub Nothing : List Lexeme → Type 0
Nothing lexemes = lexemes ≡ []

-- of some of the first of them this holds, and that of the others
abbrev pub Then : (List Lexeme → Type 0) → (List Lexeme → Type 0) → List Lexeme → Type 0
Then P Q lexemes = (front : List Lexeme) × (back : List Lexeme) × (lexemes ≡ front ++ back) × P front × Q back

-- a token is this word, this sign, or a text that says this
abbrev pub IsWord : List ℕ → Lexeme → Type 0
IsWord word l = (l.kind ≡ Word) × (l.token ≡ word)

abbrev pub IsSign : ℕ → Lexeme → Type 0
IsSign sign l = (l.kind ≡ Sign) × (l.token ≡ sign ∷ [])

abbrev pub IsText : List ℕ → Lexeme → Type 0
IsText bytes l = (l.kind ≡ Text) × (said l.token ≡ bytes)

-- a token is a name
abbrev pub IsName : List ℕ → Lexeme → Type 0
IsName name l = IsWord name l × IsTrue (is_name name)

-- a token is a number of 1 to 3 digits
abbrev pub IsSmall : ℕ → Lexeme → Type 0
IsSmall n l =
    (l.kind ≡ Number) × (length l.token ≤ 3) × IsTrue (list_all is_ascii_digit l.token) × (magnitude_of l.token ≡ n)

-- a token is a whole number between two others
abbrev pub IsWhole : ℤ → ℤ → ℤ → Lexeme → Type 0
IsWhole least most n l =
    (l.kind ≡ Number) × (scale_of l.token ≡ 0) × (units_of l.token ≡ n) × (least ≤ℤ n) × (n ≤ℤ most)

-- a token is a value: the word `null`, a number with so many digits behind its point, or a text
abbrev pub IsValue : Literal → Lexeme → Type 0
IsValue literals.Null l = IsWord (codes "null") l
IsValue (literals.Number units scale) l = (l.kind ≡ Number) × (units_of l.token ≡ units) × (scale_of l.token ≡ scale)
IsValue (literals.Text text) l = IsText text l

-- tokens are the type of a value column, with its numbers in brackets
abbrev pub IsType : ColumnKind → List Lexeme → Type 0
IsType SmallInt = Then (One (IsWord (codes "smallint"))) Nothing
IsType Integer = Then (One (IsWord (codes "integer"))) Nothing
IsType BigInt = Then (One (IsWord (codes "bigint"))) Nothing
IsType (Decimal digits scale) =
    Then (One (IsWord (codes "decimal")))
    (Then (Then (One (IsSign 40)) (One (IsSmall digits)))
    (Then (Then (One (IsSign 44)) (One (IsSmall scale))) (One (IsSign 41))))
IsType (VarChar most) =
    Then (One (IsWord (codes "varchar"))) (Then (Then (One (IsSign 40)) (One (IsSmall most))) (One (IsSign 41)))

-- tokens are an argument
abbrev pub IsArgument : Argument → List Lexeme → Type 0
IsArgument (NameOf name) = One (IsName name)
IsArgument (KeyOf key) = One (λ l. IsText key l × IsTrue (is_key key))
IsArgument (SetOf set) = One (λ l. IsText set l × IsTrue (is_set set))
IsArgument (StampOf stamp) = One (λ l. (l.kind ≡ Text) × (read_stamp (said l.token) ≡ Some stamp))
IsArgument (TextOf text) = One (IsText text)
IsArgument (WholeOf least most n) = One (IsWhole least most n)
IsArgument (WordOf word) = One (IsWord word)
IsArgument (StampColumnOf name) = Then (One (IsName name)) (One (IsWord (codes "datetime")))
IsArgument (ColumnOf column) = Then (One (IsName column.name)) (IsType column.kind)
IsArgument (ValueOf literal) = One (IsValue literal)

-- tokens are arguments with commas between them, one at least, and the bracket that closes them
abbrev pub AreArguments : List Argument → List Lexeme → Type 0
AreArguments [] lexemes = ⊥
AreArguments (a ∷ []) lexemes = Then (IsArgument a) (One (IsSign 41)) lexemes
AreArguments (a ∷ b ∷ arguments) lexemes =
    Then (Then (IsArgument a) (One (IsSign 44))) (AreArguments (b ∷ arguments)) lexemes

-- tokens are a statement, without its end
abbrev pub AreStatement : Statement → List Lexeme → Type 0
AreStatement (Alone word) lexemes = One (IsWord word) lexemes
AreStatement (Call word arguments) lexemes =
    Then (One (IsWord word)) (Then (One (IsSign 40)) (AreArguments arguments)) lexemes

-- A text is the statement of a command: its tokens, each the longest that stands in its place, with blanks between
-- them, and then blanks and the `;` that ends the text.
pub record IsStatementOf (command : Command) (text : List ℕ) : Type 0 where
  pub tokens : List Lexeme
  pub rest : List ℕ
  pub spelled : Spells front text tokens rest
  pub ended : unblanked rest ≡ 59 ∷ []
  pub are : AreStatement (statement_of command) tokens
