-- No command but HideElem hides an element.
use Rattle.std.proofs.Common.{◌≡◌, ℕ, ℤ, Option, Some, None, Ok, Err, List, refl, ap, sym, subst, ◌∙◌}
use Rattle.std.specs.FinMap.{entries, from_entries, get}
use Rattle.ts_row.specs.declared.value.Literal.{Literal}
use Rattle.ts_row.specs.Row.{Row}
use Rattle.ts_command.specs.declared.command.Command.{Command}
use Rattle.ts_command.specs.declared.command.Command.TheVariants as commands
use Rattle.ts_sheets.specs.Stamped.{without_range}
use Rattle.ts_model.specs.declared.kind.Kind.{Kind}
use Rattle.ts_model.specs.declared.kind.Kind.TheVariants as kinds
use Rattle.ts_model.specs.Catalogue.{Elements, Series, Catalogue, columns_of}
use Rattle.ts_rolling.specs.Sets.{window_key, control_key, live}
use Rattle.ts_answer.specs.Answer.{Answered, Tried, ◌>>=◌, outcome, carried_out, create_row_type, drop_definition, create_pattern, turn_pattern, join_patterns, show_pattern, create_calendar, join_calendars, show_calendar, count_starts, find_start, list_starts, create_container, container_usage, create_irregular, create_regular, drop_series, list_series, put_element, put_no_dups, insert_element, update_element, delete_element, delete_range, mark_element, get_element, get_last_element, count_elements, get_first_element, get_nth_element, clip_series, count_clip, clip_counted, join_series, lag_series, aggregate_by, aggregate_range, aggregate_all, running_values, apply_exprs, wanted, a_row, with_element, without_one}
use Rattle.ts_answer.specs.Elements.{roll_create, roll_put, roll_clip, roll_drop, without_windows}
use Rattle.ts_hidden.specs.Hidden.{AreShown, IsShown, OnlyHideElemHides, hidden_by}
use Rattle.ts_hidden.proofs.ElementLemmas.{none_hidden, put_shown, removed_shown, listed_shown, some_listed}
use Rattle.ts_hidden.proofs.SpareLemmas.{Spares, there_is, whole, series_put, edited, gone, row_shown}
use Rattle.ts_hidden.proofs.RollingLemmas.{windows_gone, window_made}

-- what is left at an address, and between two stamps
one_less : (o : Option ℤ) (elements : Elements) → AreShown elements → AreShown (without_one o elements)
one_less None elements none = none
one_less (Some stamp) elements none = removed_shown elements stamp none

range_less : (from to : ℤ) (elements : Elements) → AreShown elements → AreShown (from_entries (without_range from to (entries elements)))
range_less from to elements none = listed_shown (without_range from to (entries elements)) (some_listed _ (entries elements) none)

module _ (q : List ℕ) (cat : Catalogue) where
  Tries : Tried Answered → Type 0
  Tries (Ok answered) = Spares q cat answered.1
  Tries (Err refusal) = Unit {0}

  tries : {A : Type 0} (m : Tried A) (f : A → Tried Answered) → ((a : A) → m ≡ Ok a → Tries (f a)) → Tries (m >>= f)
  unfolding ◌>>=◌ Tries
  tries (Ok a) f each = each a refl
  tries (Err refusal) f each = tt

  -- what isn't a series is made, or goes
  idle_goes : (kind : Kind) (name : List ℕ) → Tries (drop_definition kind name cat)
  unfolding Tries drop_definition
  idle_goes kinds.RowType name = tries _ _ (λ there a. tries _ _ (λ done b. whole q cat))
  idle_goes kinds.Pattern name = tries _ _ (λ there a. tries _ _ (λ done b. whole q cat))
  idle_goes kinds.Calendar name = tries _ _ (λ there a. tries _ _ (λ done b. whole q cat))
  idle_goes kinds.Container name = tries _ _ (λ there a. tries _ _ (λ done b. whole q cat))
  idle_goes kinds.Series name = tries _ _ (λ there a. tries _ _ (λ done b. gone q cat name))

  regular_made : (key calendar : List ℕ) (origin : ℤ) (container : List ℕ) → Tries (create_regular key calendar origin container cat)
  unfolding Tries create_regular
  regular_made key calendar origin container = tries _ _ (λ plan a. tries _ _ (λ there b. tries _ _ (λ done new. tries _ _ (λ grid c. series_put q cat key _ (λ same shown. none_hidden)))))

  set_made : (set calendar : List ℕ) (origin : ℤ) (container : List ℕ) (n : ℕ) → Tries (roll_create set calendar origin container n cat)
  unfolding Tries roll_create
  set_made set calendar origin container n = tries _ _ (λ plan a. tries _ _ (λ there b. tries _ _ (λ free c. regular_made (control_key set n) calendar origin container)))

  set_put : (set : List ℕ) (stamp : ℤ) (literals : List Literal) → Tries (roll_put set stamp literals cat)
  unfolding Tries roll_put put_no_dups
  set_put set stamp literals = tries _ _ (λ control a. tries _ _ (λ grid b. tries _ _ (λ row c. tries _ _ (λ plan d. tries _ _ (λ with e. tries _ _ (λ series is. tries _ _ (λ own f. tries _ _ (λ at g. tries _ _ (λ fits h shown.
      edited q with (window_key set plan.window) series _ is (λ same none. put_shown series.elements at own (row_shown _ literals own f) none)
      (window_made q plan.attach (window_key set plan.window) control.1.container (without_windows set plan.purge cat) with e (windows_gone q set plan.purge cat shown)))))))))))

  set_dropped : (set : List ℕ) → Tries (roll_drop set cat)
  unfolding Tries roll_drop
  set_dropped set = tries _ _ (λ control a. tries _ _ (λ grid b shown.
      gone q (without_windows set (live set control.1.container cat) cat) (control_key set control.0) (windows_gone q set (live set control.1.container cat) cat shown)))

  set_read : (set : List ℕ) (from to : ℤ) → Tries (roll_clip set from to cat)
  unfolding Tries roll_clip
  set_read set from to = tries _ _ (λ control a. tries _ _ (λ grid b. tries _ _ (λ rows c. whole q cat)))

  -- a row is put
  put : (key : List ℕ) (series : Series) (stamp : ℤ) (literals : List Literal) → (is : wanted key cat.series ≡ Ok series) → (row : Row) → a_row (columns_of cat series) literals ≡ Ok row → Spares q cat (with_element key series stamp row cat)
  put key series stamp literals is row given = edited q cat key series _ is (λ same none. put_shown series.elements stamp row (row_shown _ literals row given) none)

  each : (command : Command) → (hidden_by command ≡ Some q → (s : Series) → get cat.series q ≡ Some s → ⊥) → Tries (carried_out command cat)
  unfolding Tries carried_out create_row_type create_pattern turn_pattern join_patterns show_pattern create_calendar join_calendars show_calendar count_starts find_start list_starts create_container container_usage create_irregular drop_series list_series put_element put_no_dups insert_element update_element delete_element delete_range mark_element get_element get_last_element count_elements get_first_element get_nth_element clip_series count_clip clip_counted join_series lag_series aggregate_by aggregate_range aggregate_all running_values apply_exprs
  each (commands.CreateRowType name stamp columns) other = tries _ _ (λ good a. tries _ _ (λ has b. tries _ _ (λ done c. whole q cat)))
  each (commands.DropRowType name) other = idle_goes kinds.RowType name
  each (commands.CreatePattern name text) other = tries _ _ (λ pattern a. tries _ _ (λ done b. whole q cat))
  each (commands.NotOp name pattern) other = tries _ _ (λ old a. tries _ _ (λ done b. whole q cat))
  each (commands.AndPatterns name first second) other = tries _ _ (λ a b. tries _ _ (λ c d. tries _ _ (λ done new. tries _ _ (λ pattern e. whole q cat))))
  each (commands.OrPatterns name first second) other = tries _ _ (λ a b. tries _ _ (λ c d. tries _ _ (λ done new. tries _ _ (λ pattern e. whole q cat))))
  each (commands.AndCalendars name first second) other = tries _ _ (λ a b. tries _ _ (λ c d. tries _ _ (λ done new. tries _ _ (λ joined e. whole q cat))))
  each (commands.OrCalendars name first second) other = tries _ _ (λ a b. tries _ _ (λ c d. tries _ _ (λ done new. tries _ _ (λ joined e. whole q cat))))
  each (commands.ShowPattern name) other = tries _ _ (λ pattern a. whole q cat)
  each (commands.DropPattern name) other = idle_goes kinds.Pattern name
  each (commands.CreateCalendar name text) other = tries _ _ (λ parsed a. tries _ _ (λ pattern b. tries _ _ (λ done new. tries _ _ (λ valid c. whole q cat))))
  each (commands.ShowCalendar name) other = tries _ _ (λ text a. whole q cat)
  each (commands.DropCalendar name) other = idle_goes kinds.Calendar name
  each (commands.CalIndex calendar from to) other = tries _ _ (λ plan a. whole q cat)
  each (commands.CalStamp calendar after count) other = tries _ _ (λ plan a. tries _ _ (λ stamp b. whole q cat))
  each (commands.CalRange calendar from to) other = tries _ _ (λ plan a. tries _ _ (λ starts b. whole q cat))
  each (commands.TSContainerCreate name row_type quota) other = tries _ _ (λ heading a. tries _ _ (λ done new. tries _ _ (λ fits b. whole q cat)))
  each (commands.TSContainerDestroy name) other = idle_goes kinds.Container name
  each (commands.TSContainerUsage name) other = tries _ _ (λ container a. whole q cat)
  each (commands.TSCreate key calendar origin container) other = regular_made key calendar origin container
  each (commands.TSCreateIrr key container) other = tries _ _ (λ there a. tries _ _ (λ done b. series_put q cat key _ (λ same shown. none_hidden)))
  each (commands.DropSeries key) other = tries _ _ (λ series a. gone q cat key)
  each (commands.ListSeries container) other = tries _ _ (λ there a. whole q cat)
  each (commands.PutElem key stamp literals) other = tries _ _ (λ series is. tries _ _ (λ row a. tries _ _ (λ at b. tries _ _ (λ place c. tries _ _ (λ fits d. put key series place literals is row a)))))
  each (commands.PutElemNoDups key stamp literals) other = tries _ _ (λ series is. tries _ _ (λ row a. tries _ _ (λ at b. tries _ _ (λ fits c. put key series at literals is row a))))
  each (commands.InsElem key stamp literals) other = tries _ _ (λ series is. tries _ _ (λ row a. tries _ _ (λ at b. tries _ _ (λ free c. tries _ _ (λ fits d. put key series at literals is row a)))))
  each (commands.UpdElem key stamp literals) other = tries _ _ (λ series is. tries _ _ (λ row a. tries _ _ (λ at b. tries _ _ (λ old c. put key series at literals is row a))))
  each (commands.DelElem key stamp) other = tries _ _ (λ series is. edited q cat key series _ is (λ same none. one_less _ series.elements none))
  each (commands.DelClip key from to) other = tries _ _ (λ series is. edited q cat key series _ is (λ same none. range_less from to series.elements none))
  each (commands.HideElem key stamp) other = tries _ _ (λ series is. tries _ _ (λ marks a. tries _ _ (λ at b. tries _ _ (λ row c. edited q cat key series _ is (λ same none. absurd (other (ap Some (sym same)) series (ap (get cat.series) same ∙ there_is key cat.series series is)))))))
  each (commands.RevealElem key stamp) other = tries _ _ (λ series is. tries _ _ (λ marks a. tries _ _ (λ at b. tries _ _ (λ row c. edited q cat key series _ is (λ same none. put_shown series.elements at _ refl none)))))
  each (commands.GetElem key stamp) other = tries _ _ (λ series a. whole q cat)
  each (commands.GetLastElem key) other = tries _ _ (λ series a. whole q cat)
  each (commands.GetNelems key) other = tries _ _ (λ series a. whole q cat)
  each (commands.GetFirstElem key) other = tries _ _ (λ series a. whole q cat)
  each (commands.GetNthElem key index) other = tries _ _ (λ series a. tries _ _ (λ all b. whole q cat))
  each (commands.Clip key from to) other = tries _ _ (λ series a. tries _ _ (λ all b. tries _ _ (λ rows c. whole q cat)))
  each (commands.ClipCount key stamp count) other = tries _ _ (λ series a. tries _ _ (λ all b. whole q cat))
  each (commands.ClipGetCount key from to) other = tries _ _ (λ series a. tries _ _ (λ all b. whole q cat))
  each (commands.Union first second from to) other = tries _ _ (λ a b. tries _ _ (λ c d. tries _ _ (λ shape e. tries _ _ (λ other f. tries _ _ (λ rows g. whole q cat)))))
  each (commands.Intersect first second from to) other = tries _ _ (λ a b. tries _ _ (λ c d. tries _ _ (λ shape e. tries _ _ (λ other f. tries _ _ (λ rows g. whole q cat)))))
  each (commands.Lag key by) other = tries _ _ (λ series a. tries _ _ (λ shape b. tries _ _ (λ rows c. whole q cat)))
  each (commands.AggregateBy text calendar key from to) other = tries _ _ (λ items a. tries _ _ (λ plan b. tries _ _ (λ series c. tries _ _ (λ bound d. tries _ _ (λ rows e. whole q cat)))))
  each (commands.AggregateRange text key from to) other = tries _ _ (λ items a. tries _ _ (λ series b. tries _ _ (λ bound c. whole q cat)))
  each (commands.AggregateAll text container from to) other = tries _ _ (λ items a. tries _ _ (λ there b. tries _ _ (λ bound c. whole q cat)))
  each (commands.TSRunningSum text key span from to) other = tries _ _ (λ column a. tries _ _ (λ series b. tries _ _ (λ bound c. tries _ _ (λ es d. whole q cat))))
  each (commands.TSRunningAvg text key span from to) other = tries _ _ (λ column a. tries _ _ (λ series b. tries _ _ (λ bound c. tries _ _ (λ es d. whole q cat))))
  each (commands.Apply text key from to) other = tries _ _ (λ exprs a. tries _ _ (λ series b. tries _ _ (λ bound c. tries _ _ (λ es d. tries _ _ (λ rows e. whole q cat)))))
  each (commands.RollingCreate set calendar origin container kept) other = set_made set calendar origin container _
  each (commands.RollingPut set stamp literals) other = set_put set stamp literals
  each (commands.RollingClip set from to) other = set_read set from to
  each (commands.RollingDrop set) other = set_dropped set
  each commands.Begin other = whole q cat
  each commands.Commit other = tt
  each commands.Rollback other = tt

  came_to : (m : Tried Answered) (answered : Answered) → m ≡ Ok answered → Tries m → Spares q cat answered.1
  unfolding Tries
  came_to (Ok own) answered is keeps = let same : own ≡ answered = cc in subst (λ (a : Answered). Spares q cat a.1) same keeps
  came_to (Err refusal) answered is keeps = absurd (cc)

-- the same where the series that it names isn't there
pub no_other_hides : (cat : Catalogue) (command : Command) (answered : Answered) (key : List ℕ) → outcome (Ok command) cat ≡ Ok answered
    → (hidden_by command ≡ Some key → (s : Series) → get cat.series key ≡ Some s → ⊥) → IsShown key cat → IsShown key answered.1
unfolding outcome
no_other_hides cat command answered key is other = came_to key cat (carried_out command cat) answered is (each key cat command other)

pub only_hide_elem_hides : OnlyHideElemHides
only_hide_elem_hides cat command answered key is other = no_other_hides cat command answered key is (λ hides s there. other hides)
