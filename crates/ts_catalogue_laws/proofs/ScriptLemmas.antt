-- Each command that a script asks for has its form, and each stamp that it names is one.
use Rattle.std.proofs.Common.{◌≡◌, ℕ, ◌<◌, ◌≤◌, ◌==◌, ◌&&◌, ◌^◌, Bool, true, false, Option, Some, None, Ok, Err, Result, List, [], ◌∷◌, ◌++◌, length, map, length-append, refl, ap, arith}
use Rattle.std.specs.Prelude.{if◌then◌else◌, codes, pos, neg_ℤ}
use Rattle.std.specs.List.{AllByRecursion}
use Rattle.std.proofs.lemmas.Bool.Decides.{nat_tests}
use Rattle.ts_base.specs.Moment.{IsStamp}
use Rattle.ts_text.specs.Phrase.{Read, outcome}
use Rattle.ts_text.specs.Spelling.{Lexeme}
use Rattle.ts_tokens.specs.Tokens.{said}
use Rattle.ts_items.specs.Items.{Item, Statement, TooLong, Unended, quotes_match, all_blank, after, items_from, items, is_unended}
use Rattle.ts_command.specs.declared.command.Command.{Command}
use Rattle.ts_command.specs.declared.command.Command.TheVariants as commands
use Rattle.ts_command.specs.Grammar.{a_command, command_of, Request, or_syntax, request_of, requests, last_request}
use Rattle.ts_command.proofs.CommandLemmas.{command-form}
use Rattle.ts_answer.specs.Answer.{State, run_answer}
use Rattle.ts_answer_laws.specs.TransactionLaws.{behind}
use Rattle.ts_statement_laws.specs.Statements.{Argument, NameOf, KeyOf, SetOf, StampOf, TextOf, WholeOf, WordOf, StampColumnOf, ColumnOf, ValueOf, Call, statement_of, IsArgument, AreArguments, AreStatement}
use Rattle.ts_statement_laws.specs.Laws.{StatementsAreTokens}
use Rattle.ts_catalogue_laws.specs.Commands.{NamesStamps, IsFormed}
use Rattle.ts_catalogue_laws.specs.Laws.{HasCatalogues, RunsKeepCatalogues}
use Rattle.ts_catalogue_laws.specs.Scripts.{ScriptsAreFormed, ScriptsKeepCatalogues}
use Rattle.ts_catalogue_laws.proofs.StampLemmas.{stamp_read}

-- the stamps of arguments are stamps
abbrev StampsIn : List Argument → Type 0
StampsIn [] = Unit {0}
StampsIn (StampOf stamp ∷ arguments) = IsStamp stamp × StampsIn arguments
StampsIn (NameOf name ∷ arguments) = StampsIn arguments
StampsIn (KeyOf key ∷ arguments) = StampsIn arguments
StampsIn (SetOf set ∷ arguments) = StampsIn arguments
StampsIn (TextOf text ∷ arguments) = StampsIn arguments
StampsIn (WholeOf least most n ∷ arguments) = StampsIn arguments
StampsIn (WordOf word ∷ arguments) = StampsIn arguments
StampsIn (StampColumnOf name ∷ arguments) = StampsIn arguments
StampsIn (ColumnOf column ∷ arguments) = StampsIn arguments
StampsIn (ValueOf literal ∷ arguments) = StampsIn arguments

one_more : (a : Argument) (ls : List Lexeme) → IsArgument a ls → (arguments : List Argument) → StampsIn arguments → StampsIn (a ∷ arguments)
one_more (StampOf stamp) ls (l, lone, (quoted, read)) arguments others = (stamp_read (said l.token) stamp read, others)
one_more (NameOf name) ls is arguments others = others
one_more (KeyOf key) ls is arguments others = others
one_more (SetOf set) ls is arguments others = others
one_more (TextOf text) ls is arguments others = others
one_more (WholeOf least most n) ls is arguments others = others
one_more (WordOf word) ls is arguments others = others
one_more (StampColumnOf name) ls is arguments others = others
one_more (ColumnOf column) ls is arguments others = others
one_more (ValueOf literal) ls is arguments others = others

stamps_in : (arguments : List Argument) (ls : List Lexeme) → AreArguments arguments ls → StampsIn arguments
stamps_in [] ls none = absurd none
stamps_in (a ∷ []) ls (first, others, both, is, close) = one_more a first is [] tt
stamps_in (a ∷ b ∷ arguments) ls (first, others, both, (own, comma, split, is, sign), are) = one_more a own is (b ∷ arguments) (stamps_in (b ∷ arguments) others are)

in_call : (word : List ℕ) (arguments : List Argument) (ls : List Lexeme) → AreStatement (Call word arguments) ls → StampsIn arguments
in_call word arguments ls (first, others, both, is, (sign, inner, split, opened, are)) = stamps_in arguments inner are

-- each stamp that a command names is one
names : (command : Command) (ls : List Lexeme) → AreStatement (statement_of command) ls → NamesStamps command
names (commands.CreateRowType name stamp columns) ls are = tt
names (commands.DropRowType name) ls are = tt
names (commands.CreatePattern name text) ls are = tt
names (commands.NotOp name pattern) ls are = tt
names (commands.AndPatterns name first second) ls are = tt
names (commands.OrPatterns name first second) ls are = tt
names (commands.AndCalendars name first second) ls are = tt
names (commands.OrCalendars name first second) ls are = tt
names (commands.ShowPattern name) ls are = tt
names (commands.DropPattern name) ls are = tt
names (commands.CreateCalendar name text) ls are = tt
names (commands.ShowCalendar name) ls are = tt
names (commands.DropCalendar name) ls are = tt
names (commands.TSContainerCreate name row_type quota) ls are = tt
names (commands.TSContainerDestroy name) ls are = tt
names (commands.TSContainerUsage name) ls are = tt
names (commands.TSCreate key calendar origin container) ls are = let s = in_call (codes "TSCreate") (KeyOf key ∷ NameOf calendar ∷ StampOf origin ∷ NameOf container ∷ []) ls are in s.0
names (commands.TSCreateIrr key container) ls are = tt
names (commands.DropSeries key) ls are = tt
names (commands.ListSeries container) ls are = tt
names (commands.PutElem key stamp values) ls are = let s = in_call (codes "PutElem") (KeyOf key ∷ StampOf stamp ∷ map ValueOf values) ls are in s.0
names (commands.PutElemNoDups key stamp values) ls are = let s = in_call (codes "PutElemNoDups") (KeyOf key ∷ StampOf stamp ∷ map ValueOf values) ls are in s.0
names (commands.InsElem key stamp values) ls are = let s = in_call (codes "InsElem") (KeyOf key ∷ StampOf stamp ∷ map ValueOf values) ls are in s.0
names (commands.UpdElem key stamp values) ls are = let s = in_call (codes "UpdElem") (KeyOf key ∷ StampOf stamp ∷ map ValueOf values) ls are in s.0
names (commands.DelElem key stamp) ls are = let s = in_call (codes "DelElem") (KeyOf key ∷ StampOf stamp ∷ []) ls are in s.0
names (commands.DelClip key from to) ls are = let s = in_call (codes "DelClip") (KeyOf key ∷ StampOf from ∷ StampOf to ∷ []) ls are in (s.0, s.1.0)
names (commands.HideElem key stamp) ls are = let s = in_call (codes "HideElem") (KeyOf key ∷ StampOf stamp ∷ []) ls are in s.0
names (commands.RevealElem key stamp) ls are = let s = in_call (codes "RevealElem") (KeyOf key ∷ StampOf stamp ∷ []) ls are in s.0
names (commands.CalIndex calendar from to) ls are = let s = in_call (codes "CalIndex") (NameOf calendar ∷ StampOf from ∷ StampOf to ∷ []) ls are in (s.0, s.1.0)
names (commands.CalStamp calendar after count) ls are = let s = in_call (codes "CalStamp") (NameOf calendar ∷ StampOf after ∷ WholeOf (pos 1) (pos 4294967295) count ∷ []) ls are in s.0
names (commands.CalRange calendar from to) ls are = let s = in_call (codes "CalRange") (NameOf calendar ∷ StampOf from ∷ StampOf to ∷ []) ls are in (s.0, s.1.0)
names (commands.GetElem key stamp) ls are = let s = in_call (codes "GetElem") (KeyOf key ∷ StampOf stamp ∷ []) ls are in s.0
names (commands.GetLastElem key) ls are = tt
names (commands.GetNelems key) ls are = tt
names (commands.GetFirstElem key) ls are = tt
names (commands.GetNthElem key index) ls are = tt
names (commands.Clip key from to) ls are = let s = in_call (codes "Clip") (KeyOf key ∷ StampOf from ∷ StampOf to ∷ []) ls are in (s.0, s.1.0)
names (commands.ClipCount key stamp count) ls are = let s = in_call (codes "ClipCount") (KeyOf key ∷ StampOf stamp ∷ WholeOf (neg_ℤ (pos 1000000)) (pos 1000000) count ∷ []) ls are in s.0
names (commands.ClipGetCount key from to) ls are = let s = in_call (codes "ClipGetCount") (KeyOf key ∷ StampOf from ∷ StampOf to ∷ []) ls are in (s.0, s.1.0)
names (commands.Union first second from to) ls are = let s = in_call (codes "Union") (KeyOf first ∷ KeyOf second ∷ StampOf from ∷ StampOf to ∷ []) ls are in (s.0, s.1.0)
names (commands.Intersect first second from to) ls are = let s = in_call (codes "Intersect") (KeyOf first ∷ KeyOf second ∷ StampOf from ∷ StampOf to ∷ []) ls are in (s.0, s.1.0)
names (commands.Lag key by) ls are = tt
names (commands.AggregateBy text calendar key from to) ls are = let s = in_call (codes "AggregateBy") (TextOf text ∷ NameOf calendar ∷ KeyOf key ∷ StampOf from ∷ StampOf to ∷ []) ls are in (s.0, s.1.0)
names (commands.AggregateRange text key from to) ls are = let s = in_call (codes "AggregateRange") (TextOf text ∷ KeyOf key ∷ StampOf from ∷ StampOf to ∷ []) ls are in (s.0, s.1.0)
names (commands.AggregateAll text container from to) ls are = let s = in_call (codes "AggregateAll") (TextOf text ∷ NameOf container ∷ StampOf from ∷ StampOf to ∷ []) ls are in (s.0, s.1.0)
names (commands.TSRunningSum text key span from to) ls are = let s = in_call (codes "TSRunningSum") (TextOf text ∷ KeyOf key ∷ WholeOf (pos 1) (pos 65536) span ∷ StampOf from ∷ StampOf to ∷ []) ls are in (s.0, s.1.0)
names (commands.TSRunningAvg text key span from to) ls are = let s = in_call (codes "TSRunningAvg") (TextOf text ∷ KeyOf key ∷ WholeOf (pos 1) (pos 65536) span ∷ StampOf from ∷ StampOf to ∷ []) ls are in (s.0, s.1.0)
names (commands.Apply text key from to) ls are = let s = in_call (codes "Apply") (TextOf text ∷ KeyOf key ∷ StampOf from ∷ StampOf to ∷ []) ls are in (s.0, s.1.0)
names (commands.RollingCreate set calendar origin container kept) ls are =
    let s = in_call (codes "RollingCreate") (SetOf set ∷ NameOf calendar ∷ StampOf origin ∷ NameOf container ∷ WholeOf (pos 1) (pos 1000) kept ∷ []) ls are in
    s.0
names (commands.RollingPut set stamp values) ls are = let s = in_call (codes "RollingPut") (SetOf set ∷ StampOf stamp ∷ map ValueOf values) ls are in s.0
names (commands.RollingClip set from to) ls are = let s = in_call (codes "RollingClip") (SetOf set ∷ StampOf from ∷ StampOf to ∷ []) ls are in (s.0, s.1.0)
names (commands.RollingDrop set) ls are = tt
names commands.Begin ls are = tt
names commands.Commit ls are = tt
names commands.Rollback ls are = tt

read_ok : (size : ℕ) (read : Read Command) (c : Command) → outcome size read ≡ Ok c → (rest : List ℕ) × (read ≡ Ok (c, rest))
read_ok size (Ok (d, rest)) c is = let same : d ≡ c = cc in (rest, ap (λ (x : Command). Ok (x, rest)) same)
read_ok size (Err left) c is = absurd (let never : ⊥ = cc in never)

-- a command that is read has its form and names stamps
command_formed : StatementsAreTokens → (text : List ℕ) (command : Command) → length text < 2 ^ 32 → command_of text ≡ Ok command → IsFormed (Ok command)
command_formed tokens text command few is =
    let read = read_ok (length text) (a_command text) command is in
    let stated = (tokens text command).0 is in
    (command-form text (command, read.0) few read.1, names command stated.tokens stated.are)

-- items are short
abbrev IsShort : Item → Type 0
IsShort (Statement text) = length text ≤ 65536
IsShort TooLong = Unit {0}
IsShort Unended = Unit {0}

abbrev IsShortPlace : Option (List ℕ) → Type 0
IsShortPlace None = Unit {0}
IsShortPlace (Some text) = length text < 65536

abbrev Short : List Item × Option (List ℕ) → Type 0
Short found = AllByRecursion IsShort found.0 × IsShortPlace found.1

starts_short : length {A = ℕ} [] < 65536
starts_short = omega arith

short_after : (place : Option (List ℕ)) (b : ℕ) → IsShortPlace place → Short (after place b)
unfolding after
short_after None b short = by (b == 59) where
  by : (ends : Bool) → Short ([], if ends then Some [] else None)
  by true = (tt, starts_short)
  by false = (tt, tt)
short_after (Some text) b short = by (b == 59 && quotes_match text) (all_blank text) (length (text ++ b ∷ []) == 65536) (all_blank (text ++ b ∷ [])) refl (omega (arith, length-append text (b ∷ []), short)) where
  by : (ends blank full empty : Bool) → (length (text ++ b ∷ []) == 65536) ≡ full → length (text ++ b ∷ []) ≤ 65536
      → Short (if ends then (if blank then [] else Statement (text ++ b ∷ []) ∷ [], Some []) else (if full then (if empty then ([], Some []) else (TooLong ∷ [], None)) else ([], Some (text ++ b ∷ []))))
  by true true full empty is most = (tt, starts_short)
  by true false full empty is most = ((most, tt), starts_short)
  by false blank true true is most = (tt, starts_short)
  by false blank true false is most = ((tt, tt), tt)
  by false blank false empty is most = let few : length (text ++ b ∷ []) < 65536 = grind (arith, nat_tests) in (tt, few)

all_both : {A : Type 0} (P : A → Type 0) (xs ys : List A) → AllByRecursion P xs → AllByRecursion P ys → AllByRecursion P (xs ++ ys)
all_both P [] ys first second = second
all_both P (x ∷ xs) ys (one, first) second = (one, all_both P xs ys first second)

short_items : (place : Option (List ℕ)) (script : List ℕ) → IsShortPlace place → AllByRecursion IsShort (items_from place script)
short_items place [] short = tt
short_items place (b ∷ script) short =
    let next = short_after place b short in
    all_both IsShort (after place b).0 (items_from (after place b).1 script) next.0 (short_items (after place b).1 script next.1)

-- each asks for a command that is formed, or for none
module _ (tokens : StatementsAreTokens) where
  text_formed : (text : List ℕ) → length text ≤ 65536 → IsFormed (or_syntax (command_of text))
  text_formed text short = by (command_of text) refl where
    by : (found : Result Command ℕ) → command_of text ≡ found → IsFormed (or_syntax found)
    by (Ok command) is = command_formed tokens text command (omega (arith, short)) is
    by (Err place) is = tt

  item_formed : (item : Item) → IsShort item → IsFormed (request_of item)
  item_formed (Statement text) short = text_formed text short
  item_formed TooLong short = tt
  item_formed Unended short = tt

  items_formed : (each : List Item) → AllByRecursion IsShort each → AllByRecursion IsFormed (map request_of each)
  items_formed [] short = tt
  items_formed (item ∷ each) (one, short) = (item_formed item one, items_formed each short)

  last_formed : (cut : Bool) → AllByRecursion IsFormed (map request_of (if cut then Unended ∷ [] else []))
  last_formed true = (tt, tt)
  last_formed false = tt

pub scripts_formed : StatementsAreTokens → ScriptsAreFormed
scripts_formed tokens script =
    all_both IsFormed (requests script) (last_request script) (items_formed tokens (items script) (short_items (Some []) script starts_short)) (last_formed tokens (is_unended script))

-- and so each request is answered behind catalogues
kept : RunsKeepCatalogues → (each : List Request) (state : State) → AllByRecursion IsFormed each → HasCatalogues state → HasCatalogues (behind state each)
kept keeps [] state formed has = has
kept keeps (request ∷ each) state (one, formed) has = kept keeps each (run_answer state request).1 formed (keeps state request has one)

pub scripts_keep : RunsKeepCatalogues → ScriptsAreFormed → ScriptsKeepCatalogues
scripts_keep keeps formed state script has = kept keeps (requests script ++ last_request script) state (formed script) has
