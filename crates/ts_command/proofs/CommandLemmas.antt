-- The command that a statement is read as has its form.
use Rattle.std.proofs.Common.{◌≡◌, ℕ, ◌<◌, ◌^◌, List, [], ◌∷◌, length, Ok, codes, true, refl, arith, ℤ, pos, neg_ℤ, int_le}
use Rattle.ts_row.specs.declared.value.Literal.{Literal}
use Rattle.ts_text.specs.Phrase.{Phrase, ◌>>=◌, give, made, the_end}
use Rattle.ts_text.specs.declared.token.TokenKind.TheVariants.{Word}
use Rattle.ts_text.proofs.CallerLemmas.{Yields, Goes, Any, chain, given, shrinks_of, of_token, sign_yields, made_yields, bind-ok, pair-parts}
use Rattle.ts_tokens.specs.Tokens.{front}
use Rattle.ts_arguments.specs.declared.word.Joined.{Joined}
use Rattle.ts_arguments.specs.declared.word.Joined.TheVariants.{Patterns, Calendars}
use Rattle.ts_arguments.specs.Arguments.{before, two, name_before, key_before, text_before, two_names, joined_names, name_and_text, two_names_and_whole, key_and_name, key_and_whole, key_and_stamp, name_range, key_range, two_keys_range, name_key_range, text_key_range, text_name_range, text_name_key_range, key_whole_range, text_key_whole_range, key_name_stamp_and_name, name_stamp_and_whole, key_stamp_and_whole, key_stamp_and_values, name_and_columns, set_before, set_range, set_stamp_and_values, set_name_stamp_name_and_whole}
use Rattle.ts_command.specs.Form.{HasForm}
use Rattle.ts_command.specs.Routines.{routine_of, least_number, most_number}
use Rattle.ts_command.specs.Grammar.{a_routine, routine_in, of_name, of_key, of_stamp, of_row, of_text, of_join, of_range, of_clip, of_number, of_keys, of_series, of_running, of_lone, opening, arguments, a_call, a_command}
use Rattle.ts_command.specs.declared.routine.Routine.{Routine}
use Rattle.ts_command.specs.declared.routine.Routine.TheVariants as calls
use Rattle.ts_command.specs.declared.routine.NameRoutine.{NameRoutine}
use Rattle.ts_command.specs.declared.routine.NameRoutine.TheVariants as by_name
use Rattle.ts_command.specs.declared.routine.KeyRoutine.{KeyRoutine}
use Rattle.ts_command.specs.declared.routine.KeyRoutine.TheVariants as by_key
use Rattle.ts_command.specs.declared.routine.StampRoutine.{StampRoutine}
use Rattle.ts_command.specs.declared.routine.StampRoutine.TheVariants as at_stamp
use Rattle.ts_command.specs.declared.routine.RowRoutine.{RowRoutine}
use Rattle.ts_command.specs.declared.routine.RowRoutine.TheVariants as with_row
use Rattle.ts_command.specs.declared.routine.TextRoutine.{TextRoutine}
use Rattle.ts_command.specs.declared.routine.TextRoutine.TheVariants as with_text
use Rattle.ts_command.specs.declared.routine.JoinRoutine.{JoinRoutine}
use Rattle.ts_command.specs.declared.routine.JoinRoutine.TheVariants as joining
use Rattle.ts_command.specs.declared.routine.RangeRoutine.{RangeRoutine}
use Rattle.ts_command.specs.declared.routine.RangeRoutine.TheVariants as in_range
use Rattle.ts_command.specs.declared.routine.ClipRoutine.{ClipRoutine}
use Rattle.ts_command.specs.declared.routine.ClipRoutine.TheVariants as clipping
use Rattle.ts_command.specs.declared.routine.NumberRoutine.{NumberRoutine}
use Rattle.ts_command.specs.declared.routine.NumberRoutine.TheVariants as by_number
use Rattle.ts_command.specs.declared.routine.PairRoutine.{PairRoutine}
use Rattle.ts_command.specs.declared.routine.PairRoutine.TheVariants as of_pair
use Rattle.ts_command.specs.declared.routine.SeriesRoutine.{SeriesRoutine}
use Rattle.ts_command.specs.declared.routine.SeriesRoutine.TheVariants as in_series
use Rattle.ts_command.specs.declared.routine.RunningRoutine.{RunningRoutine}
use Rattle.ts_command.specs.declared.routine.RunningRoutine.TheVariants as running
use Rattle.ts_command.specs.declared.routine.LoneRoutine.{LoneRoutine}
use Rattle.ts_command.specs.declared.routine.LoneRoutine.TheVariants as alone
use Rattle.ts_command.specs.declared.command.Command.{Command}
use Rattle.ts_tokens.proofs.CallerLemmas.{front_laws, open_sign, close_sign}
use Rattle.ts_arguments.proofs.CallerLemmas.{IsName, IsKey, IsWithin, AreNames, IsKeyRange, IsNameRange, IsNameAndKey, IsKeyAndWhole, key_range_yields, name_range_yields, name_key_range_yields, with_text_yields, name_before_yields, two_names_yields, name_and_text_yields, joined_names_yields, name_stamp_and_whole_yields, key_before_yields, key_and_name_yields, key_name_stamp_and_name_yields, key_and_stamp_yields, two_names_and_whole_yields, key_stamp_and_values_yields, name_and_columns_yields, key_stamp_and_whole_yields, key_and_whole_yields, two_keys_range_yields, text_key_range_yields, text_name_range_yields, text_name_key_range_yields, key_whole_range_yields, text_key_whole_range_yields, set_before_yields, set_range_yields, set_stamp_and_values_yields, set_name_stamp_name_and_whole_yields, name_text-le, first_text-le}

-- the commands of each group have their form
of_name-form : (routine : NameRoutine) (name : List ℕ) → IsName name → HasForm (of_name routine name)
of_name-form by_name.DropRowType name form = form
of_name-form by_name.ShowPattern name form = form
of_name-form by_name.DropPattern name form = form
of_name-form by_name.ShowCalendar name form = form
of_name-form by_name.DropCalendar name form = form
of_name-form by_name.TSContainerDestroy name form = form
of_name-form by_name.TSContainerUsage name form = form
of_name-form by_name.ListSeries name form = form

of_key-form : (routine : KeyRoutine) (key : List ℕ) → IsKey key → HasForm (of_key routine key)
of_key-form by_key.DropSeries key form = form
of_key-form by_key.GetFirstElem key form = form
of_key-form by_key.GetLastElem key form = form
of_key-form by_key.GetNelems key form = form

of_stamp-form : (routine : StampRoutine) (key : List ℕ) (stamp : ℤ) → IsKey key → HasForm (of_stamp routine key stamp)
of_stamp-form at_stamp.DelElem key stamp form = form
of_stamp-form at_stamp.HideElem key stamp form = form
of_stamp-form at_stamp.RevealElem key stamp form = form
of_stamp-form at_stamp.GetElem key stamp form = form

of_row-form : (routine : RowRoutine) (key : List ℕ) (stamp : ℤ) (values : List Literal) → IsKey key → HasForm (of_row routine key stamp values)
of_row-form with_row.PutElem key stamp values form = form
of_row-form with_row.PutElemNoDups key stamp values form = form
of_row-form with_row.InsElem key stamp values form = form
of_row-form with_row.UpdElem key stamp values form = form

of_text-form : (routine : TextRoutine) (name text : List ℕ) → IsName name → length text < 2 ^ 32 → HasForm (of_text routine name text)
of_text-form with_text.CreatePattern name text form few = (form, few)
of_text-form with_text.CreateCalendar name text form few = (form, few)

of_join-form : (routine : JoinRoutine) (joined : Joined) (names : List ℕ × (List ℕ × List ℕ)) → AreNames names → HasForm (of_join routine joined names)
of_join-form joining.AndOp Patterns names form = (form.0, form.1.0, form.1.1)
of_join-form joining.AndOp Calendars names form = (form.0, form.1.0, form.1.1)
of_join-form joining.OrOp Patterns names form = (form.0, form.1.0, form.1.1)
of_join-form joining.OrOp Calendars names form = (form.0, form.1.0, form.1.1)

of_range-form : (routine : RangeRoutine) (calendar : List ℕ) (from to : ℤ) → IsName calendar → HasForm (of_range routine calendar from to)
of_range-form in_range.CalIndex calendar from to form = form
of_range-form in_range.CalRange calendar from to form = form

of_clip-form : (routine : ClipRoutine) (key : List ℕ) (from to : ℤ) → IsKey key → HasForm (of_clip routine key from to)
of_clip-form clipping.Clip key from to form = form
of_clip-form clipping.ClipGetCount key from to form = form
of_clip-form clipping.DelClip key from to form = form

of_number-form : (routine : NumberRoutine) (key : List ℕ) (number : ℤ) → IsKey key → IsWithin (least_number routine) (most_number routine) number → HasForm (of_number routine key number)
of_number-form by_number.GetNthElem key index form within = (form, within.0, within.1)
of_number-form by_number.Lag key by form within = (form, within.0, within.1)

of_keys-form : (routine : PairRoutine) (first second : List ℕ) (from to : ℤ) → IsKey first → IsKey second → HasForm (of_keys routine first second from to)
of_keys-form of_pair.Union first second from to one other = (one, other)
of_keys-form of_pair.Intersect first second from to one other = (one, other)

of_series-form : (routine : SeriesRoutine) (text key : List ℕ) (from to : ℤ) → length text < 2 ^ 32 → IsKey key → HasForm (of_series routine text key from to)
of_series-form in_series.AggregateRange text key from to few form = (few, form)
of_series-form in_series.Apply text key from to few form = (few, form)

of_running-form : (routine : RunningRoutine) (text key : List ℕ) (span from to : ℤ) → length text < 2 ^ 32 → IsKey key → IsWithin (pos 1) (pos 65536) span → HasForm (of_running routine text key span from to)
of_running-form running.TSRunningSum text key span from to few form within = (few, form, within.0, within.1)
of_running-form running.TSRunningAvg text key span from to few form within = (few, form, within.0, within.1)

of_lone-form : (routine : LoneRoutine) → HasForm (of_lone routine)
of_lone-form alone.Begin = tt
of_lone-form alone.Commit = tt
of_lone-form alone.Rollback = tt

-- 1 lies in the range of each routine that takes a number
number_below : (routine : NumberRoutine) → int_le (least_number routine) (pos 1) ≡ true
number_below by_number.GetNthElem = refl
number_below by_number.Lag = refl

number_above : (routine : NumberRoutine) → int_le (pos 1) (most_number routine) ≡ true
number_above by_number.GetNthElem = refl
number_above by_number.Lag = refl

-- what phrases alone tell of each routine's command: its form, and nothing where it has a text
abbrev FormOf : Routine → Command → Type 0
FormOf (calls.WithText routine) command = Any command
FormOf calls.AggregateBy command = Any command
FormOf calls.AggregateAll command = Any command
FormOf (calls.OfSeries routine) command = Any command
FormOf (calls.Running routine) command = Any command
FormOf routine command = HasForm command

-- and they tell it
arguments_yield : (routine : Routine) → Yields front (FormOf routine) (arguments routine)
unfolding arguments
arguments_yield calls.CreateRowType = made_yields front front_laws _ HasForm name_and_columns _ name_and_columns_yields (λ a form. (form.0, form.1.0, form.1.1.0, form.1.1.1))
arguments_yield calls.TSContainerCreate = made_yields front front_laws _ HasForm (two_names_and_whole (pos 1) (pos 65536)) _ (two_names_and_whole_yields (pos 1) (pos 65536) refl refl) (λ a form. (form.0, form.1.0, form.1.1.0, form.1.1.1))
arguments_yield calls.TSCreate = made_yields front front_laws _ HasForm key_name_stamp_and_name _ key_name_stamp_and_name_yields (λ a form. (form.0, form.1.0, form.1.1.1))
arguments_yield calls.TSCreateIrr = made_yields front front_laws _ HasForm key_and_name _ key_and_name_yields (λ a form. form)
arguments_yield calls.NotOp = made_yields front front_laws _ HasForm two_names _ two_names_yields (λ a form. form)
arguments_yield calls.CalStamp = made_yields front front_laws _ HasForm (name_stamp_and_whole (pos 1) (pos 4294967295)) _ (name_stamp_and_whole_yields (pos 1) (pos 4294967295) refl refl) (λ a form. (form.0, form.1.1.0, form.1.1.1))
arguments_yield calls.ClipCount = made_yields front front_laws _ HasForm (key_stamp_and_whole (neg_ℤ (pos 1000000)) (pos 1000000)) _ (key_stamp_and_whole_yields (neg_ℤ (pos 1000000)) (pos 1000000) refl refl) (λ a form. (form.0, form.1.1.0, form.1.1.1))
arguments_yield calls.AggregateBy = made_yields front front_laws _ Any text_name_key_range _ text_name_key_range_yields (λ a form. tt)
arguments_yield calls.AggregateAll = made_yields front front_laws _ Any text_name_range _ text_name_range_yields (λ a form. tt)
arguments_yield calls.RollingCreate = made_yields front front_laws _ HasForm (set_name_stamp_name_and_whole (pos 1) (pos 1000)) _ (set_name_stamp_name_and_whole_yields (pos 1) (pos 1000) refl refl) (λ a form. (form.0, form.1.0, form.1.1.1.0, form.1.1.1.1.0, form.1.1.1.1.1))
arguments_yield calls.RollingPut = made_yields front front_laws _ HasForm set_stamp_and_values _ set_stamp_and_values_yields (λ a form. form.0)
arguments_yield calls.RollingClip = made_yields front front_laws _ HasForm set_range _ set_range_yields (λ a form. form.0)
arguments_yield calls.RollingDrop = made_yields front front_laws _ HasForm (set_before 41) _ (set_before_yields 41 close_sign) (λ a form. form)
arguments_yield (calls.ByName routine) = made_yields front front_laws _ HasForm (name_before 41) _ (name_before_yields 41 close_sign) (of_name-form routine)
arguments_yield (calls.ByKey routine) = made_yields front front_laws _ HasForm (key_before 41) _ (key_before_yields 41 close_sign) (of_key-form routine)
arguments_yield (calls.AtStamp routine) = made_yields front front_laws _ HasForm key_and_stamp _ key_and_stamp_yields (λ a form. of_stamp-form routine a.0 a.1 form.0)
arguments_yield (calls.WithRow routine) = made_yields front front_laws _ HasForm key_stamp_and_values _ key_stamp_and_values_yields (λ a form. of_row-form routine a.0 a.1.0 a.1.1 form.0)
arguments_yield (calls.WithText routine) = made_yields front front_laws _ Any name_and_text _ name_and_text_yields (λ a form. tt)
arguments_yield (calls.Joining routine) = made_yields front front_laws _ HasForm joined_names _ joined_names_yields (λ a form. of_join-form routine a.0 a.1 form.1)
arguments_yield (calls.InRange routine) = made_yields front front_laws _ HasForm name_range _ name_range_yields (λ a form. of_range-form routine a.0 a.1.0 a.1.1 form.0)
arguments_yield (calls.Clipping routine) = made_yields front front_laws _ HasForm key_range _ key_range_yields (λ a form. of_clip-form routine a.0 a.1.0 a.1.1 form.0)
arguments_yield (calls.ByNumber routine) = made_yields front front_laws _ HasForm (key_and_whole (least_number routine) (most_number routine)) _ (key_and_whole_yields (least_number routine) (most_number routine) (number_below routine) (number_above routine)) (λ a form. of_number-form routine a.0 a.1 form.0 form.1)
arguments_yield (calls.OfPair routine) = made_yields front front_laws _ HasForm two_keys_range _ two_keys_range_yields (λ a form. of_keys-form routine a.0 a.1.0 a.1.1.0 a.1.1.1 form.0 form.1.0)
arguments_yield (calls.OfSeries routine) = made_yields front front_laws _ Any text_key_range _ text_key_range_yields (λ a form. tt)
arguments_yield (calls.Running routine) = made_yields front front_laws _ Any (text_key_whole_range (pos 1) (pos 65536)) _ (text_key_whole_range_yields (pos 1) (pos 65536) refl refl) (λ a form. tt)
arguments_yield (calls.Alone routine) = given front HasForm (of_lone routine) (of_lone-form routine)

-- the bracket that opens them, if one does
opening_yields : (routine : Routine) → Yields front Any (opening routine)
unfolding opening
opening_yields (calls.Alone routine) = given front Any tt tt
opening_yields routine = sign_yields front front_laws 40 open_sign

-- a phrase, with nothing told of what it gives
goes_on : {A : Type 0} (P : A → Type 0) (phrase : Phrase A) (before : List ℕ) → Goes P phrase before → Goes Any phrase before
goes_on P phrase before one = record { more = one.more; found = one.found; holds = tt; starts = one.starts; reads = one.reads }

loosely : {A : Type 0} (P : A → Type 0) (phrase : Phrase A) → Yields front P phrase → Yields front Any phrase
loosely P phrase one = record {
  ok = λ bytes found is. (tt, (one.ok bytes found is).1);
  err = one.err;
  fails = one.fails;
  keeps = one.keeps;
  goes = λ before here is. goes_on P phrase before (one.goes before here is);
  some = goes_on P phrase [] one.some;
}

-- the name of a routine
routine_yields : Yields front Any a_routine
unfolding a_routine front routine_of
routine_yields = of_token front front_laws Any routine_in (record { first = 71; more = codes "etElem"; kind = Word; found = calls.AtStamp at_stamp.GetElem; holds = tt; stands = refl; accepted = refl }) (λ kind text a e. tt)

-- a call
pub call_yields : Yields front Any a_call
unfolding a_call
call_yields =
    chain front front_laws Any Any a_routine (λ routine. opening routine >>= (λ opened. arguments routine)) routine_yields
    (λ routine any. chain front front_laws Any Any (opening routine) (λ opened. arguments routine) (opening_yields routine)
    (λ opened any. loosely (FormOf routine) (arguments routine) (arguments_yield routine)))

-- the command of a name and a text
text-form : (routine : TextRoutine) (bytes : List ℕ) (found : Command × List ℕ) → length bytes < 2 ^ 32 → arguments (calls.WithText routine) bytes ≡ Ok found → HasForm found.0
unfolding arguments
text-form routine bytes found few is =
    let read = bind-ok (name_and_text bytes) (λ a. give (of_text routine a.0 a.1)) found is in
    let same = (pair-parts (of_text routine read.0.0.0 read.0.0.1) found.0 read.0.1 found.1 read.2).0 in
    rw (← same) (of_text-form routine read.0.0.0 read.0.0.1 (name_and_text_yields.ok bytes read.0 read.1).0.0 (omega (arith, few, name_text-le bytes read.0 read.1)))

-- a command that is made of a text and of what else stands there has its form where these have theirs
first_text-form : {A : Type 0} (P : A → Type 0) (other : Phrase A) (make : List ℕ × A → Command) → Yields front P other
    → ((a : List ℕ × A) → length a.0 < 2 ^ 32 → P a.1 → HasForm (make a))
    → (bytes : List ℕ) (found : Command × List ℕ) → length bytes < 2 ^ 32 → made (two (text_before 44) other) make bytes ≡ Ok found → HasForm found.0
first_text-form P other make one forms bytes found few is =
    let read = bind-ok (two (text_before 44) other bytes) (λ a. give (make a)) found is in
    let same = (pair-parts (make read.0.0) found.0 read.0.1 found.1 read.2).0 in
    rw (← same) (forms read.0.0 (omega (arith, few, first_text-le other bytes read.0 read.1)) ((with_text_yields P other one).ok bytes read.0 read.1).0.1)

-- each routine's command, in so few bytes
arguments-form : (routine : Routine) (bytes : List ℕ) (found : Command × List ℕ) → length bytes < 2 ^ 32 → arguments routine bytes ≡ Ok found → HasForm found.0
unfolding arguments text_name_key_range text_key_range text_name_range text_key_whole_range
arguments-form (calls.WithText routine) bytes found few is = text-form routine bytes found few is
arguments-form calls.AggregateBy bytes found few is = first_text-form IsNameAndKey name_key_range _ name_key_range_yields (λ a short form. (short, form.0, form.1.0)) bytes found few is
arguments-form calls.AggregateAll bytes found few is = first_text-form IsNameRange name_range _ name_range_yields (λ a short form. (short, form.0)) bytes found few is
arguments-form (calls.OfSeries routine) bytes found few is =
    first_text-form IsKeyRange key_range _ key_range_yields (λ a short form. of_series-form routine a.0 a.1.0 a.1.1.0 a.1.1.1 short form.0) bytes found few is
arguments-form (calls.Running routine) bytes found few is =
    first_text-form (IsKeyAndWhole (pos 1) (pos 65536)) (key_whole_range (pos 1) (pos 65536)) _ (key_whole_range_yields (pos 1) (pos 65536) refl refl)
    (λ a short form. of_running-form routine a.0 a.1.0 a.1.1.0 a.1.1.1.0 a.1.1.1.1 short form.0 form.1.0) bytes found few is
arguments-form routine bytes found few is = ((arguments_yield routine).ok bytes found is).0

call-form : (bytes : List ℕ) (found : Command × List ℕ) → length bytes < 2 ^ 32 → a_call bytes ≡ Ok found → HasForm found.0
unfolding a_call
call-form bytes found few is =
    let routine = bind-ok (a_routine bytes) (λ r. opening r >>= (λ opened. arguments r)) found is in
    let opened = bind-ok (opening routine.0.0 routine.0.1) (λ opened. arguments routine.0.0) found routine.2 in
    let short : length opened.0.1 < 2 ^ 32 =
    omega (
      arith,
      few,
      shrinks_of front Any (opening routine.0.0) (opening_yields routine.0.0) routine.0.1 opened.0 opened.1,
      shrinks_of front Any a_routine routine_yields bytes routine.0 routine.1,
    ) in
    arguments-form routine.0.0 opened.0.1 found short opened.2

-- a statement
pub command-form : (text : List ℕ) (found : Command × List ℕ) → length text < 2 ^ 32 → a_command text ≡ Ok found → HasForm found.0
unfolding a_command
command-form text found few is =
    let call = bind-ok (a_call text) (λ command. the_end (59 ∷ []) >>= (λ end. give command)) found is in
    let end = bind-ok (the_end (59 ∷ []) call.0.1) (λ end. give call.0.0) found call.2 in
    rw (← (pair-parts call.0.0 found.0 end.0.1 found.1 end.2).0) (call-form text call.0 few call.1)
