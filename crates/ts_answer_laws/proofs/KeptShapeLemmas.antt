-- No command changes where the elements of a series can stand.
use Rattle.std.proofs.Common.{◌≡◌, ℕ, ℤ, Ok, Err, List, refl, sym, subst}
use Rattle.ts_base.specs.declared.refusal.Refusal.TheVariants as refusals
use Rattle.ts_command.specs.declared.command.Command.{Command}
use Rattle.ts_command.specs.declared.command.Command.TheVariants as commands
use Rattle.ts_model.specs.declared.kind.Kind.{Kind}
use Rattle.ts_model.specs.declared.kind.Kind.TheVariants as kinds
use Rattle.ts_model.specs.Catalogue.{Catalogue, is_used, without}
use Rattle.ts_answer.specs.Answer.{Answered, Tried, ◌>>=◌, settled, outcome, answer, carried_out, create_row_type, drop_definition, create_pattern, turn_pattern, join_patterns, show_pattern, create_calendar, join_calendars, show_calendar, count_starts, find_start, list_starts, create_container, container_usage, create_irregular, create_regular, drop_series, list_series, put_element, put_no_dups, insert_element, update_element, delete_element, delete_range, mark_element, get_element, get_last_element, count_elements, get_first_element, get_nth_element, clip_series, count_clip, clip_counted, join_series, lag_series, aggregate_by, aggregate_range, aggregate_all, running_values, apply_exprs}
use Rattle.ts_row.specs.declared.value.Literal.{Literal}
use Rattle.ts_rolling.specs.Sets.{window_key, control_key, live}
use Rattle.ts_rolling.specs.KeyLaws.{KeysAreReadExactly}
use Rattle.ts_answer.specs.Elements.{roll_create, roll_put, roll_clip, roll_drop}
use Rattle.ts_answer_laws.specs.SeriesLaws.{SeriesKeepTheirShapes}
use Rattle.ts_answer_laws.proofs.RollingLemmas.{less_is, purge_loose, put_keeps, drop_keeps}
use Rattle.ts_answer_laws.proofs.ShapeLemmas.{Keeps, not_so, shapes_stay, whole, edited, made, dropped}

module _ (cat : Catalogue) where
  -- what is tried keeps them
  Tries : Tried Answered → Type 0
  Tries (Ok answered) = Keeps cat answered.1
  Tries (Err refusal) = Unit {0}

  tries : {A : Type 0} (m : Tried A) (f : A → Tried Answered) → ((a : A) → m ≡ Ok a → Tries (f a)) → Tries (m >>= f)
  unfolding ◌>>=◌ Tries
  tries (Ok a) f each = each a refl
  tries (Err refusal) f each = tt

  settles : (m : Tried Answered) → Tries m → Keeps cat (settled cat m).1
  unfolding Tries
  settles (Ok answered) keeps = keeps
  settles (Err refusal) keeps = whole cat

  idle_goes : (kind : Kind) (name : List ℕ) → Tries (drop_definition kind name cat)
  unfolding Tries drop_definition
  idle_goes kind name = tries _ _ (λ there a. tries _ _ (λ done b. dropped cat kind name (not_so (is_used kind name cat) refusals.InUse done b)))

  -- a set is made, put into, read and dropped
  set_made : (set calendar : List ℕ) (origin : ℤ) (container : List ℕ) (n : ℕ) → Tries (roll_create set calendar origin container n cat)
  unfolding Tries roll_create create_regular
  set_made set calendar origin container n = tries _ _ (λ plan a. tries _ _ (λ there b. tries _ _ (λ free c. tries _ _ (λ found d. tries _ _ (λ home e. tries _ _ (λ done new. tries _ _ (λ grid f. made cat kinds.Series (control_key set n) _ done new)))))))

  set_put : (read : KeysAreReadExactly) (set : List ℕ) (stamp : ℤ) (literals : List Literal) → Tries (roll_put set stamp literals cat)
  unfolding Tries roll_put put_no_dups
  set_put read set stamp literals = tries _ _ (λ control a. tries _ _ (λ grid b. tries _ _ (λ row c. tries _ _ (λ plan d. tries _ _ (λ with e. tries _ _ (λ series is. tries _ _ (λ own f. tries _ _ (λ at g. tries _ _ (λ fits h.
      put_keeps cat set plan.purge (purge_loose cat set read grid control.0 control.1.container stamp plan d) plan.attach (window_key set plan.window) control.1.container with e series is _)))))))))

  set_read : (set : List ℕ) (from to : ℤ) → Tries (roll_clip set from to cat)
  unfolding Tries roll_clip
  set_read set from to = tries _ _ (λ control a. tries _ _ (λ grid b. tries _ _ (λ rows c. whole cat)))

  set_dropped : (set : List ℕ) → Tries (roll_drop set cat)
  unfolding Tries roll_drop
  set_dropped set = tries _ _ (λ control a. tries _ _ (λ grid b.
      subst (λ (c : Catalogue). Keeps cat (without kinds.Series (control_key set control.0) c)) (sym (less_is set (live set control.1.container cat) cat))
      (drop_keeps cat set (live set control.1.container cat) (control_key set control.0))))

  each : KeysAreReadExactly → (command : Command) → Tries (carried_out command cat)
  unfolding Tries carried_out create_row_type create_pattern turn_pattern join_patterns show_pattern create_calendar join_calendars show_calendar count_starts find_start list_starts create_container container_usage create_irregular create_regular drop_series list_series put_element put_no_dups insert_element update_element delete_element delete_range mark_element get_element get_last_element count_elements get_first_element get_nth_element clip_series count_clip clip_counted join_series lag_series aggregate_by aggregate_range aggregate_all running_values apply_exprs
  each read (commands.CreateRowType name stamp columns) = tries _ _ (λ good a. tries _ _ (λ has b. tries _ _ (made cat kinds.RowType name _)))
  each read (commands.DropRowType name) = idle_goes kinds.RowType name
  each read (commands.CreatePattern name text) = tries _ _ (λ pattern a. tries _ _ (made cat kinds.Pattern name _))
  each read (commands.NotOp name pattern) = tries _ _ (λ old a. tries _ _ (made cat kinds.Pattern name _))
  each read (commands.AndPatterns name first second) = tries _ _ (λ a b. tries _ _ (λ c d. tries _ _ (λ done new. tries _ _ (λ pattern e. made cat kinds.Pattern name _ done new))))
  each read (commands.OrPatterns name first second) = tries _ _ (λ a b. tries _ _ (λ c d. tries _ _ (λ done new. tries _ _ (λ pattern e. made cat kinds.Pattern name _ done new))))
  each read (commands.AndCalendars name first second) = tries _ _ (λ a b. tries _ _ (λ c d. tries _ _ (λ done new. tries _ _ (λ joined e. made cat kinds.Calendar name _ done new))))
  each read (commands.OrCalendars name first second) = tries _ _ (λ a b. tries _ _ (λ c d. tries _ _ (λ done new. tries _ _ (λ joined e. made cat kinds.Calendar name _ done new))))
  each read (commands.ShowPattern name) = tries _ _ (λ pattern a. whole cat)
  each read (commands.DropPattern name) = idle_goes kinds.Pattern name
  each read (commands.CreateCalendar name text) = tries _ _ (λ parsed a. tries _ _ (λ pattern b. tries _ _ (λ done new. tries _ _ (λ valid c. made cat kinds.Calendar name _ done new))))
  each read (commands.ShowCalendar name) = tries _ _ (λ text a. whole cat)
  each read (commands.DropCalendar name) = idle_goes kinds.Calendar name
  each read (commands.CalIndex calendar from to) = tries _ _ (λ plan a. whole cat)
  each read (commands.CalStamp calendar after count) = tries _ _ (λ plan a. tries _ _ (λ stamp b. whole cat))
  each read (commands.CalRange calendar from to) = tries _ _ (λ plan a. tries _ _ (λ starts b. whole cat))
  each read (commands.TSContainerCreate name row_type quota) = tries _ _ (λ heading a. tries _ _ (λ done new. tries _ _ (λ fits b. made cat kinds.Container name _ done new)))
  each read (commands.TSContainerDestroy name) = idle_goes kinds.Container name
  each read (commands.TSContainerUsage name) = tries _ _ (λ container a. whole cat)
  each read (commands.TSCreate key calendar origin container) = tries _ _ (λ plan a. tries _ _ (λ there b. tries _ _ (λ done new. tries _ _ (λ grid c. made cat kinds.Series key _ done new))))
  each read (commands.TSCreateIrr key container) = tries _ _ (λ there a. tries _ _ (made cat kinds.Series key _))
  each read (commands.DropSeries key) = tries _ _ (λ series a. dropped cat kinds.Series key refl)
  each read (commands.ListSeries container) = tries _ _ (λ there a. whole cat)
  each read (commands.PutElem key stamp literals) = tries _ _ (λ series is. tries _ _ (λ row a. tries _ _ (λ at b. tries _ _ (λ place c. tries _ _ (λ fits d. edited cat key series _ is)))))
  each read (commands.PutElemNoDups key stamp literals) = tries _ _ (λ series is. tries _ _ (λ row a. tries _ _ (λ at b. tries _ _ (λ fits c. edited cat key series _ is))))
  each read (commands.InsElem key stamp literals) = tries _ _ (λ series is. tries _ _ (λ row a. tries _ _ (λ at b. tries _ _ (λ free c. tries _ _ (λ fits d. edited cat key series _ is)))))
  each read (commands.UpdElem key stamp literals) = tries _ _ (λ series is. tries _ _ (λ row a. tries _ _ (λ at b. tries _ _ (λ old c. edited cat key series _ is))))
  each read (commands.DelElem key stamp) = tries _ _ (λ series is. edited cat key series _ is)
  each read (commands.DelClip key from to) = tries _ _ (λ series is. edited cat key series _ is)
  each read (commands.HideElem key stamp) = tries _ _ (λ series is. tries _ _ (λ marks a. tries _ _ (λ at b. tries _ _ (λ row c. edited cat key series _ is))))
  each read (commands.RevealElem key stamp) = tries _ _ (λ series is. tries _ _ (λ marks a. tries _ _ (λ at b. tries _ _ (λ row c. edited cat key series _ is))))
  each read (commands.GetElem key stamp) = tries _ _ (λ series a. whole cat)
  each read (commands.GetLastElem key) = tries _ _ (λ series a. whole cat)
  each read (commands.GetNelems key) = tries _ _ (λ series a. whole cat)
  each read (commands.GetFirstElem key) = tries _ _ (λ series a. whole cat)
  each read (commands.GetNthElem key index) = tries _ _ (λ series a. tries _ _ (λ all b. whole cat))
  each read (commands.Clip key from to) = tries _ _ (λ series a. tries _ _ (λ all b. tries _ _ (λ rows c. whole cat)))
  each read (commands.ClipCount key stamp count) = tries _ _ (λ series a. tries _ _ (λ all b. whole cat))
  each read (commands.ClipGetCount key from to) = tries _ _ (λ series a. tries _ _ (λ all b. whole cat))
  each read (commands.Union first second from to) = tries _ _ (λ a b. tries _ _ (λ c d. tries _ _ (λ shape e. tries _ _ (λ other f. tries _ _ (λ rows g. whole cat)))))
  each read (commands.Intersect first second from to) = tries _ _ (λ a b. tries _ _ (λ c d. tries _ _ (λ shape e. tries _ _ (λ other f. tries _ _ (λ rows g. whole cat)))))
  each read (commands.Lag key by) = tries _ _ (λ series a. tries _ _ (λ shape b. tries _ _ (λ rows c. whole cat)))
  each read (commands.AggregateBy text calendar key from to) = tries _ _ (λ items a. tries _ _ (λ plan b. tries _ _ (λ series c. tries _ _ (λ bound d. tries _ _ (λ rows e. whole cat)))))
  each read (commands.AggregateRange text key from to) = tries _ _ (λ items a. tries _ _ (λ series b. tries _ _ (λ bound c. whole cat)))
  each read (commands.AggregateAll text container from to) = tries _ _ (λ items a. tries _ _ (λ there b. tries _ _ (λ bound c. whole cat)))
  each read (commands.TSRunningSum text key span from to) = tries _ _ (λ column a. tries _ _ (λ series b. tries _ _ (λ bound c. tries _ _ (λ es d. whole cat))))
  each read (commands.TSRunningAvg text key span from to) = tries _ _ (λ column a. tries _ _ (λ series b. tries _ _ (λ bound c. tries _ _ (λ es d. whole cat))))
  each read (commands.Apply text key from to) = tries _ _ (λ exprs a. tries _ _ (λ series b. tries _ _ (λ bound c. tries _ _ (λ es d. tries _ _ (λ rows e. whole cat)))))
  each read (commands.RollingCreate set calendar origin container kept) = set_made set calendar origin container _
  each read (commands.RollingPut set stamp literals) = set_put read set stamp literals
  each read (commands.RollingClip set from to) = set_read set from to
  each read (commands.RollingDrop set) = set_dropped set
  each read commands.Begin = whole cat
  each read commands.Commit = tt
  each read commands.Rollback = tt

pub shapes_kept : KeysAreReadExactly → SeriesKeepTheirShapes
unfolding answer outcome
shapes_kept read cat command key s after shape there left gives = shapes_stay cat (settled cat (carried_out command cat)).1 (settles cat (carried_out command cat) (each cat read command)) key s after shape there left gives
