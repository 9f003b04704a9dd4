-- What a command doesn't write stays in the catalogue.
use Rattle.std.specs.Prelude.{Contains}
use Rattle.std.proofs.Common.{◌≡◌, ℕ, Bool, true, false, cond, Option, Some, None, Ok, Err, List, [], refl, sym, ◌∙◌, arith}
use Rattle.std.specs.FinMap.{get, insert, remove, get-insert, get-remove}
use Rattle.std.specs.Ordering.{eq_by_cmp}
use Rattle.ts_command.specs.declared.command.Command.{Command}
use Rattle.ts_command.specs.declared.command.Command.TheVariants as commands
use Rattle.ts_model.specs.declared.kind.Kind.{Kind}
use Rattle.ts_model.specs.declared.kind.Kind.TheVariants as kinds
use Rattle.ts_model.specs.Catalogue.{name_cmp, Named, Catalogue, In, named}
use Rattle.ts_model.proofs.OrderLemmas.{total, ties-same}
use Rattle.ts_answer.specs.Answer.{Answered, Tried, ◌>>=◌, settled, outcome, answer, carried_out, create_row_type, drop_definition, create_pattern, turn_pattern, join_patterns, show_pattern, create_calendar, join_calendars, show_calendar, count_starts, find_start, list_starts, create_container, container_usage, create_irregular, create_regular, drop_series, list_series, put_element, put_no_dups, insert_element, update_element, delete_element, delete_range, mark_element, get_element, get_last_element, count_elements, get_first_element, get_nth_element, clip_series, count_clip, clip_counted, join_series, lag_series, aggregate_by, aggregate_range, aggregate_all, running_values, apply_exprs}
use Rattle.ts_multi.specs.declared.object.Object.{Object}
use Rattle.ts_multi.specs.Touched.{one, objects}
use Rattle.ts_answer_laws.specs.Objects.{StaysBut, set_of}

-- a map with another value under one name, or none
apart : {X : Type 0} (b : Bool) (q name : List ℕ) (v m : Option X) → (b ≡ true → ⊥) → cond b v m ≡ m
apart true q name v m other = absurd (other refl)
apart false q name v m other = refl

pub inserted : {X : Type 0} (m : Named X) (name q : List ℕ) (v : X) → (q ≡ name → ⊥) → get (insert m name v) q ≡ get m q
inserted m name q v other = get-insert total m name v q ∙ apart (eq_by_cmp name_cmp q name) q name (Some v) (get m q) (λ same. other (ties-same q name same))

pub removed : {X : Type 0} (m : Named X) (name q : List ℕ) → (q ≡ name → ⊥) → get (remove m name) q ≡ get m q
removed {X} m name q other = get-remove total m name q ∙ apart (eq_by_cmp name_cmp q name) q name (let o : Option X = None in o) (get m q) (λ same. other (ties-same q name same))

-- another object than the one that is written
other_than : (kind : Kind) (name : List ℕ) (object : Object) → ¬ Contains (one kind name) object → object.kind ≡ kind → object.name ≡ name → ⊥
other_than kind name object none same also = none (0, omega arith, λ i. record { kind = sym same i; name = sym also i })

module _ (cat : Catalogue) where
  pub stays_whole : (wrote : List Object) → StaysBut wrote cat cat
  stays_whole wrote = record { format = refl; pages = refl; others = λ object none. refl }

  -- the catalogue with other names of a kind
  abbrev with_rows : (kind : Kind) → Named (In kind) → Catalogue
  with_rows kinds.RowType rows = record cat { row_types = rows }
  with_rows kinds.Pattern rows = record cat { patterns = rows }
  with_rows kinds.Calendar rows = record cat { calendars = rows }
  with_rows kinds.Container rows = record cat { containers = rows }
  with_rows kinds.Series rows = record cat { series = rows }

  -- they are the same but for one
  abbrev SameBut : (kind : Kind) → List ℕ → Named (In kind) → Type 0
  SameBut kind name rows = (q : List ℕ) → (q ≡ name → ⊥) → get rows q ≡ get (named kind cat) q

  others_stay : (kind k : Kind) (name q : List ℕ) (rows : Named (In kind)) → SameBut kind name rows → (k ≡ kind → q ≡ name → ⊥) → get (named k (with_rows kind rows)) q ≡ get (named k cat) q
  others_stay kinds.RowType kinds.RowType name q rows same other = same q (other refl)
  others_stay kinds.RowType k name q rows same other = refl
  others_stay kinds.Pattern kinds.Pattern name q rows same other = same q (other refl)
  others_stay kinds.Pattern k name q rows same other = refl
  others_stay kinds.Calendar kinds.Calendar name q rows same other = same q (other refl)
  others_stay kinds.Calendar k name q rows same other = refl
  others_stay kinds.Container kinds.Container name q rows same other = same q (other refl)
  others_stay kinds.Container k name q rows same other = refl
  others_stay kinds.Series kinds.Series name q rows same other = same q (other refl)
  others_stay kinds.Series k name q rows same other = refl

  stays_with : (kind : Kind) (name : List ℕ) (rows : Named (In kind)) → SameBut kind name rows → (with_rows kind rows).format ≡ cat.format → (with_rows kind rows).pages ≡ cat.pages → StaysBut (one kind name) cat (with_rows kind rows)
  stays_with kind name rows same format pages = record { format = format; pages = pages; others = λ object none. others_stay kind object.kind name object.name rows same (other_than kind name object none) }

  written : (kind : Kind) (name : List ℕ) (rows : Named (In kind)) → SameBut kind name rows → StaysBut (one kind name) cat (with_rows kind rows)
  written kinds.RowType name rows same = stays_with kinds.RowType name rows same refl refl
  written kinds.Pattern name rows same = stays_with kinds.Pattern name rows same refl refl
  written kinds.Calendar name rows same = stays_with kinds.Calendar name rows same refl refl
  written kinds.Container name rows same = stays_with kinds.Container name rows same refl refl
  written kinds.Series name rows same = stays_with kinds.Series name rows same refl refl

  made : (kind : Kind) (name : List ℕ) (value : In kind) → StaysBut (one kind name) cat (with_rows kind (insert (named kind cat) name value))
  made kind name value = written kind name (insert (named kind cat) name value) (λ q other. inserted (named kind cat) name q value other)

  dropped : (kind : Kind) (name : List ℕ) → StaysBut (one kind name) cat (with_rows kind (remove (named kind cat) name))
  dropped kind name = written kind name (remove (named kind cat) name) (λ q other. removed (named kind cat) name q other)

  -- what is tried stays but for these
  Tries : List Object → Tried Answered → Type 0
  Tries wrote (Ok answered) = StaysBut wrote cat answered.1
  Tries wrote (Err refusal) = Unit {0}

  tries : {A : Type 0} (wrote : List Object) (m : Tried A) (f : A → Tried Answered) → ((a : A) → Tries wrote (f a)) → Tries wrote (m >>= f)
  unfolding ◌>>=◌ Tries
  tries wrote (Ok a) f each = each a
  tries wrote (Err refusal) f each = tt

  settles : (wrote : List Object) (m : Tried Answered) → Tries wrote m → StaysBut wrote cat (settled cat m).1
  unfolding Tries
  settles wrote (Ok answered) stays = stays
  settles wrote (Err refusal) stays = stays_whole wrote

  each : (command : Command) → set_of command ≡ None → Tries (objects command).wrote (carried_out command cat)
  unfolding Tries carried_out create_row_type drop_definition create_pattern turn_pattern join_patterns show_pattern create_calendar join_calendars show_calendar count_starts find_start list_starts create_container container_usage create_irregular create_regular drop_series list_series put_element put_no_dups insert_element update_element delete_element delete_range mark_element get_element get_last_element count_elements get_first_element get_nth_element clip_series count_clip clip_counted join_series lag_series aggregate_by aggregate_range aggregate_all running_values apply_exprs
  each (commands.CreateRowType name stamp columns) other = tries _ _ _ (λ good. tries _ _ _ (λ has. tries _ _ _ (λ new. made kinds.RowType name _)))
  each (commands.DropRowType name) other = tries _ _ _ (λ there. tries _ _ _ (λ idle. dropped kinds.RowType name))
  each (commands.CreatePattern name text) other = tries _ _ _ (λ pattern. tries _ _ _ (λ new. made kinds.Pattern name _))
  each (commands.NotOp name pattern) other = tries _ _ _ (λ old. tries _ _ _ (λ new. made kinds.Pattern name _))
  each (commands.AndPatterns name first second) other = tries _ _ _ (λ a. tries _ _ _ (λ b. tries _ _ _ (λ new. tries _ _ _ (λ pattern. made kinds.Pattern name _))))
  each (commands.OrPatterns name first second) other = tries _ _ _ (λ a. tries _ _ _ (λ b. tries _ _ _ (λ new. tries _ _ _ (λ pattern. made kinds.Pattern name _))))
  each (commands.AndCalendars name first second) other = tries _ _ _ (λ a. tries _ _ _ (λ b. tries _ _ _ (λ new. tries _ _ _ (λ joined. made kinds.Calendar name _))))
  each (commands.OrCalendars name first second) other = tries _ _ _ (λ a. tries _ _ _ (λ b. tries _ _ _ (λ new. tries _ _ _ (λ joined. made kinds.Calendar name _))))
  each (commands.ShowPattern name) other = tries _ _ _ (λ pattern. stays_whole [])
  each (commands.DropPattern name) other = tries _ _ _ (λ there. tries _ _ _ (λ idle. dropped kinds.Pattern name))
  each (commands.CreateCalendar name text) other = tries _ _ _ (λ read. tries _ _ _ (λ pattern. tries _ _ _ (λ new. tries _ _ _ (λ valid. made kinds.Calendar name _))))
  each (commands.ShowCalendar name) other = tries _ _ _ (λ text. stays_whole [])
  each (commands.DropCalendar name) other = tries _ _ _ (λ there. tries _ _ _ (λ idle. dropped kinds.Calendar name))
  each (commands.CalIndex calendar from to) other = tries _ _ _ (λ plan. stays_whole [])
  each (commands.CalStamp calendar after count) other = tries _ _ _ (λ plan. tries _ _ _ (λ stamp. stays_whole []))
  each (commands.CalRange calendar from to) other = tries _ _ _ (λ plan. tries _ _ _ (λ starts. stays_whole []))
  each (commands.TSContainerCreate name row_type quota) other = tries _ _ _ (λ heading. tries _ _ _ (λ new. tries _ _ _ (λ fits. made kinds.Container name _)))
  each (commands.TSContainerDestroy name) other = tries _ _ _ (λ there. tries _ _ _ (λ idle. dropped kinds.Container name))
  each (commands.TSContainerUsage name) other = tries _ _ _ (λ container. stays_whole [])
  each (commands.TSCreate key calendar origin container) other = tries _ _ _ (λ plan. tries _ _ _ (λ there. tries _ _ _ (λ new. tries _ _ _ (λ grid. made kinds.Series key _))))
  each (commands.TSCreateIrr key container) other = tries _ _ _ (λ there. tries _ _ _ (λ new. made kinds.Series key _))
  each (commands.DropSeries key) other = tries _ _ _ (λ series. dropped kinds.Series key)
  each (commands.ListSeries container) other = tries _ _ _ (λ there. stays_whole [])
  each (commands.PutElem key stamp literals) other = tries _ _ _ (λ series. tries _ _ _ (λ row. tries _ _ _ (λ at. tries _ _ _ (λ place. tries _ _ _ (λ fits. made kinds.Series key _)))))
  each (commands.PutElemNoDups key stamp literals) other = tries _ _ _ (λ series. tries _ _ _ (λ row. tries _ _ _ (λ at. tries _ _ _ (λ fits. made kinds.Series key _))))
  each (commands.InsElem key stamp literals) other = tries _ _ _ (λ series. tries _ _ _ (λ row. tries _ _ _ (λ at. tries _ _ _ (λ free. tries _ _ _ (λ fits. made kinds.Series key _)))))
  each (commands.UpdElem key stamp literals) other = tries _ _ _ (λ series. tries _ _ _ (λ row. tries _ _ _ (λ at. tries _ _ _ (λ there. made kinds.Series key _))))
  each (commands.DelElem key stamp) other = tries _ _ _ (λ series. made kinds.Series key _)
  each (commands.DelClip key from to) other = tries _ _ _ (λ series. made kinds.Series key _)
  each (commands.HideElem key stamp) other = tries _ _ _ (λ series. tries _ _ _ (λ marks. tries _ _ _ (λ at. tries _ _ _ (λ row. made kinds.Series key _))))
  each (commands.RevealElem key stamp) other = tries _ _ _ (λ series. tries _ _ _ (λ marks. tries _ _ _ (λ at. tries _ _ _ (λ row. made kinds.Series key _))))
  each (commands.GetElem key stamp) other = tries _ _ _ (λ series. stays_whole [])
  each (commands.GetLastElem key) other = tries _ _ _ (λ series. stays_whole [])
  each (commands.GetNelems key) other = tries _ _ _ (λ series. stays_whole [])
  each (commands.GetFirstElem key) other = tries _ _ _ (λ series. stays_whole [])
  each (commands.GetNthElem key index) other = tries _ _ _ (λ series. tries _ _ _ (λ all. stays_whole []))
  each (commands.Clip key from to) other = tries _ _ _ (λ series. tries _ _ _ (λ all. tries _ _ _ (λ rows. stays_whole [])))
  each (commands.ClipCount key stamp count) other = tries _ _ _ (λ series. tries _ _ _ (λ all. stays_whole []))
  each (commands.ClipGetCount key from to) other = tries _ _ _ (λ series. tries _ _ _ (λ all. stays_whole []))
  each (commands.Union first second from to) other = tries _ _ _ (λ a. tries _ _ _ (λ b. tries _ _ _ (λ shape. tries _ _ _ (λ other. tries _ _ _ (λ rows. stays_whole [])))))
  each (commands.Intersect first second from to) other = tries _ _ _ (λ a. tries _ _ _ (λ b. tries _ _ _ (λ shape. tries _ _ _ (λ other. tries _ _ _ (λ rows. stays_whole [])))))
  each (commands.Lag key by) other = tries _ _ _ (λ series. tries _ _ _ (λ shape. tries _ _ _ (λ rows. stays_whole [])))
  each (commands.AggregateBy text calendar key from to) other = tries _ _ _ (λ items. tries _ _ _ (λ plan. tries _ _ _ (λ series. tries _ _ _ (λ b. tries _ _ _ (λ rows. stays_whole [])))))
  each (commands.AggregateRange text key from to) other = tries _ _ _ (λ items. tries _ _ _ (λ series. tries _ _ _ (λ b. stays_whole [])))
  each (commands.AggregateAll text container from to) other = tries _ _ _ (λ items. tries _ _ _ (λ there. tries _ _ _ (λ b. stays_whole [])))
  each (commands.TSRunningSum text key span from to) other = tries _ _ _ (λ column. tries _ _ _ (λ series. tries _ _ _ (λ b. tries _ _ _ (λ es. stays_whole []))))
  each (commands.TSRunningAvg text key span from to) other = tries _ _ _ (λ column. tries _ _ _ (λ series. tries _ _ _ (λ b. tries _ _ _ (λ es. stays_whole []))))
  each (commands.Apply text key from to) other = tries _ _ _ (λ exprs. tries _ _ _ (λ series. tries _ _ _ (λ b. tries _ _ _ (λ es. tries _ _ _ (λ rows. stays_whole [])))))
  each (commands.RollingCreate set calendar origin container kept) other = absurd (cc)
  each (commands.RollingPut set stamp literals) other = absurd (cc)
  each (commands.RollingClip set from to) other = absurd (cc)
  each (commands.RollingDrop set) other = absurd (cc)
  each commands.Begin other = stays_whole []
  each commands.Commit other = tt
  each commands.Rollback other = tt

  pub written_alone : (command : Command) → set_of command ≡ None → StaysBut (objects command).wrote cat (answer cat (Ok command)).1
  unfolding answer outcome
  written_alone command other = settles (objects command).wrote (carried_out command cat) (each command other)
