-- What is refused, and what only reads, leaves the catalogue.
use Rattle.std.proofs.Common.{◌≡◌, false, Ok, Err, refl, ap}
use Rattle.ts_base.specs.declared.refusal.Refusal.{Refusal}
use Rattle.ts_command.specs.declared.command.Command.{Command}
use Rattle.ts_command.specs.declared.command.Command.TheVariants as commands
use Rattle.ts_model.specs.Catalogue.{Catalogue}
use Rattle.ts_command.specs.Grammar.{Request}
use Rattle.ts_command.specs.Boundary.{is_writing}
use Rattle.ts_answer.specs.Reply.{refusal_line}
use Rattle.ts_answer.specs.Elements.{roll_clip}
use Rattle.ts_answer.specs.Answer.{Tried, Answered, ◌>>=◌, settled, outcome, answer, carried_out, show_pattern, show_calendar, count_starts, find_start, list_starts, container_usage, list_series, get_element, get_last_element, count_elements, get_first_element, get_nth_element, clip_series, count_clip, clip_counted, join_series, lag_series, aggregate_by, aggregate_range, aggregate_all, running_values, apply_exprs}

pub refused : (cat : Catalogue) (request : Request) (refusal : Refusal) → outcome request cat ≡ Err refusal → answer cat request ≡ (refusal_line refusal, cat)
unfolding answer
refused cat request refusal h = ap (settled cat) h

-- what is tried leaves it
Leaves : Catalogue → Tried Answered → Type 0
Leaves cat (Ok answered) = answered.1 ≡ cat
Leaves cat (Err refusal) = Unit {0}

tries : {A : Type 0} (cat : Catalogue) (m : Tried A) (f : A → Tried Answered) → ((a : A) → Leaves cat (f a)) → Leaves cat (m >>= f)
unfolding ◌>>=◌ Leaves
tries cat (Ok a) f each = each a
tries cat (Err refusal) f each = tt

settles : (cat : Catalogue) (m : Tried Answered) → Leaves cat m → (settled cat m).1 ≡ cat
unfolding Leaves
settles cat (Ok answered) same = same
settles cat (Err refusal) same = refl

-- each routine that only reads
each : (cat : Catalogue) (command : Command) → is_writing command ≡ false → Leaves cat (carried_out command cat)
unfolding Leaves carried_out roll_clip show_pattern show_calendar count_starts find_start list_starts container_usage list_series get_element get_last_element count_elements get_first_element get_nth_element clip_series count_clip clip_counted join_series lag_series aggregate_by aggregate_range aggregate_all running_values apply_exprs
each cat (commands.CreateRowType name stamp columns) reading = absurd (cc)
each cat (commands.DropRowType name) reading = absurd (cc)
each cat (commands.CreatePattern name text) reading = absurd (cc)
each cat (commands.NotOp name pattern) reading = absurd (cc)
each cat (commands.AndPatterns name first second) reading = absurd (cc)
each cat (commands.OrPatterns name first second) reading = absurd (cc)
each cat (commands.AndCalendars name first second) reading = absurd (cc)
each cat (commands.OrCalendars name first second) reading = absurd (cc)
each cat (commands.ShowPattern name) reading = tries cat _ _ (λ pattern. refl)
each cat (commands.DropPattern name) reading = absurd (cc)
each cat (commands.CreateCalendar name text) reading = absurd (cc)
each cat (commands.ShowCalendar name) reading = tries cat _ _ (λ text. refl)
each cat (commands.DropCalendar name) reading = absurd (cc)
each cat (commands.CalIndex calendar from to) reading = tries cat _ _ (λ plan. refl)
each cat (commands.CalStamp calendar after count) reading = tries cat _ _ (λ plan. tries cat _ _ (λ stamp. refl))
each cat (commands.CalRange calendar from to) reading = tries cat _ _ (λ plan. tries cat _ _ (λ starts. refl))
each cat (commands.TSContainerCreate name row_type quota) reading = absurd (cc)
each cat (commands.TSContainerDestroy name) reading = absurd (cc)
each cat (commands.TSContainerUsage name) reading = tries cat _ _ (λ container. refl)
each cat (commands.TSCreate key calendar origin container) reading = absurd (cc)
each cat (commands.TSCreateIrr key container) reading = absurd (cc)
each cat (commands.DropSeries key) reading = absurd (cc)
each cat (commands.ListSeries container) reading = tries cat _ _ (λ there. refl)
each cat (commands.PutElem key stamp literals) reading = absurd (cc)
each cat (commands.PutElemNoDups key stamp literals) reading = absurd (cc)
each cat (commands.InsElem key stamp literals) reading = absurd (cc)
each cat (commands.UpdElem key stamp literals) reading = absurd (cc)
each cat (commands.DelElem key stamp) reading = absurd (cc)
each cat (commands.DelClip key from to) reading = absurd (cc)
each cat (commands.HideElem key stamp) reading = absurd (cc)
each cat (commands.RevealElem key stamp) reading = absurd (cc)
each cat (commands.GetElem key stamp) reading = tries cat _ _ (λ series. refl)
each cat (commands.GetLastElem key) reading = tries cat _ _ (λ series. refl)
each cat (commands.GetNelems key) reading = tries cat _ _ (λ series. refl)
each cat (commands.GetFirstElem key) reading = tries cat _ _ (λ series. refl)
each cat (commands.GetNthElem key index) reading = tries cat _ _ (λ series. tries cat _ _ (λ all. refl))
each cat (commands.Clip key from to) reading = tries cat _ _ (λ series. tries cat _ _ (λ all. tries cat _ _ (λ rows. refl)))
each cat (commands.ClipCount key stamp count) reading = tries cat _ _ (λ series. tries cat _ _ (λ all. refl))
each cat (commands.ClipGetCount key from to) reading = tries cat _ _ (λ series. tries cat _ _ (λ all. refl))
each cat (commands.Union first second from to) reading = tries cat _ _ (λ a. tries cat _ _ (λ b. tries cat _ _ (λ shape. tries cat _ _ (λ other. tries cat _ _ (λ rows. refl)))))
each cat (commands.Intersect first second from to) reading = tries cat _ _ (λ a. tries cat _ _ (λ b. tries cat _ _ (λ shape. tries cat _ _ (λ other. tries cat _ _ (λ rows. refl)))))
each cat (commands.Lag key by) reading = tries cat _ _ (λ series. tries cat _ _ (λ shape. tries cat _ _ (λ rows. refl)))
each cat (commands.AggregateBy text calendar key from to) reading = tries cat _ _ (λ items. tries cat _ _ (λ plan. tries cat _ _ (λ series. tries cat _ _ (λ b. tries cat _ _ (λ rows. refl)))))
each cat (commands.AggregateRange text key from to) reading = tries cat _ _ (λ items. tries cat _ _ (λ series. tries cat _ _ (λ b. refl)))
each cat (commands.AggregateAll text container from to) reading = tries cat _ _ (λ items. tries cat _ _ (λ there. tries cat _ _ (λ b. refl)))
each cat (commands.TSRunningSum text key span from to) reading = tries cat _ _ (λ column. tries cat _ _ (λ series. tries cat _ _ (λ b. tries cat _ _ (λ es. refl))))
each cat (commands.TSRunningAvg text key span from to) reading = tries cat _ _ (λ column. tries cat _ _ (λ series. tries cat _ _ (λ b. tries cat _ _ (λ es. refl))))
each cat (commands.Apply text key from to) reading = tries cat _ _ (λ exprs. tries cat _ _ (λ series. tries cat _ _ (λ b. tries cat _ _ (λ es. tries cat _ _ (λ rows. refl)))))
each cat (commands.RollingCreate set calendar origin container kept) reading = absurd (cc)
each cat (commands.RollingPut set stamp literals) reading = absurd (cc)
each cat (commands.RollingClip set from to) reading = tries cat _ _ (λ control. tries cat _ _ (λ grid. tries cat _ _ (λ rows. refl)))
each cat (commands.RollingDrop set) reading = absurd (cc)
each cat commands.Begin reading = refl
each cat commands.Commit reading = tt
each cat commands.Rollback reading = tt

pub leaves : (cat : Catalogue) (command : Command) → is_writing command ≡ false → (answer cat (Ok command)).1 ≡ cat
unfolding answer outcome
leaves cat command reading = settles cat (carried_out command cat) (each cat command reading)
