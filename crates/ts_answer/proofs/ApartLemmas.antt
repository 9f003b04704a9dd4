-- No reply of a routine is taken for the memory line.
use Rattle.std.proofs.Common.{ℕ, ℤ, true, false, Bool, Ok, Err, List}
use Rattle.ts_pattern.specs.declared.junction.Junction.{Junction}
use Rattle.ts_pattern.specs.declared.junction.Junction.TheVariants.{And, Or}
use Rattle.ts_row.specs.declared.kind.Column.{Column}
use Rattle.ts_row.specs.declared.value.Literal.{Literal}
use Rattle.ts_command.specs.declared.command.Command.{Command}
use Rattle.ts_command.specs.declared.command.Command.TheVariants as commands
use Rattle.ts_replies.specs.Acknowledged.{AreApart}
use Rattle.ts_model.specs.declared.kind.Kind.{Kind}
use Rattle.ts_model.specs.declared.kind.Kind.TheVariants as kinds
use Rattle.ts_model.specs.Catalogue.{Catalogue}
use Rattle.ts_command.specs.Grammar.{Request}
use Rattle.ts_answer.specs.Answer.{Tried, Answered, ◌>>=◌, settled, outcome, carried_out, create_row_type, drop_definition, create_pattern, turn_pattern, join_patterns, show_pattern, create_calendar, join_calendars, show_calendar, count_starts, find_start, list_starts, create_container, container_usage, create_irregular, create_regular, drop_series, list_series, put_element, put_no_dups, insert_element, update_element, delete_element, delete_range, mark_element, get_element, get_last_element, count_elements, get_first_element, get_nth_element, clip_series, count_clip, clip_counted, join_series, lag_series, aggregate_by, aggregate_range, aggregate_all, running_values, apply_exprs, roll_create, roll_put, roll_clip, roll_drop, State, run_outcome, run_answer}
use Rattle.ts_answer.proofs.StateLemmas.{IsSaidSo, run_said}
use Rattle.ts_answer.proofs.ReplyLemmas.{IsApart, Begins, apart-begins, ok-begins, count-begins, counts-begins, number-begins, stamp-begins, pattern-begins, calendar-begins, stamps-begin, elements-begin, entries-begin, series_text-begins, folded-begin, series_folded-begin, refusal-apart}

-- what is said of a reply begins with another byte than the memory line
abbrev Differs : Tried Answered → Type 0
Differs tried = IsSaidSo Begins tried

then : {A : Type 0} (m : Tried A) (f : A → Tried Answered) → ((a : A) → Differs (f a)) → Differs (m >>= f)
unfolding ◌>>=◌
then (Ok a) f differs = differs a
then (Err refusal) f differs = tt

create_row_type-differs : (name stamp : List ℕ) (columns : List Column) (cat : Catalogue) → Differs (create_row_type name stamp columns cat)
unfolding create_row_type
create_row_type-differs name stamp columns cat = then _ _ (λ a. then _ _ (λ b. then _ _ (λ c. ok-begins)))

drop_definition-differs : (kind : Kind) (name : List ℕ) (cat : Catalogue) → Differs (drop_definition kind name cat)
unfolding drop_definition
drop_definition-differs kind name cat = then _ _ (λ a. then _ _ (λ b. ok-begins))

create_pattern-differs : (name text : List ℕ) (cat : Catalogue) → Differs (create_pattern name text cat)
unfolding create_pattern
create_pattern-differs name text cat = then _ _ (λ a. then _ _ (λ b. ok-begins))

turn_pattern-differs : (name pattern : List ℕ) (cat : Catalogue) → Differs (turn_pattern name pattern cat)
unfolding turn_pattern
turn_pattern-differs name pattern cat = then _ _ (λ a. then _ _ (λ b. ok-begins))

join_patterns-differs : (junction : Junction) (name first second : List ℕ) (cat : Catalogue) → Differs (join_patterns junction name first second cat)
unfolding join_patterns
join_patterns-differs junction name first second cat = then _ _ (λ a. then _ _ (λ b. then _ _ (λ c. then _ _ (λ d. ok-begins))))

show_pattern-differs : (name : List ℕ) (cat : Catalogue) → Differs (show_pattern name cat)
unfolding show_pattern
show_pattern-differs name cat = then _ _ pattern-begins

create_calendar-differs : (name text : List ℕ) (cat : Catalogue) → Differs (create_calendar name text cat)
unfolding create_calendar
create_calendar-differs name text cat = then _ _ (λ a. then _ _ (λ b. then _ _ (λ c. then _ _ (λ d. ok-begins))))

join_calendars-differs : (junction : Junction) (name first second : List ℕ) (cat : Catalogue) → Differs (join_calendars junction name first second cat)
unfolding join_calendars
join_calendars-differs junction name first second cat = then _ _ (λ a. then _ _ (λ b. then _ _ (λ c. then _ _ (λ d. ok-begins))))

show_calendar-differs : (name : List ℕ) (cat : Catalogue) → Differs (show_calendar name cat)
unfolding show_calendar
show_calendar-differs name cat = then _ _ calendar-begins

count_starts-differs : (calendar : List ℕ) (from to : ℤ) (cat : Catalogue) → Differs (count_starts calendar from to cat)
unfolding count_starts
count_starts-differs calendar from to cat = then _ _ (λ a. number-begins _)

find_start-differs : (calendar : List ℕ) (after : ℤ) (count : ℕ) (cat : Catalogue) → Differs (find_start calendar after count cat)
unfolding find_start
find_start-differs calendar after count cat = then _ _ (λ a. then _ _ stamp-begins)

list_starts-differs : (calendar : List ℕ) (from to : ℤ) (cat : Catalogue) → Differs (list_starts calendar from to cat)
unfolding list_starts
list_starts-differs calendar from to cat = then _ _ (λ a. then _ _ stamps-begin)

create_container-differs : (name row_type : List ℕ) (quota : ℕ) (cat : Catalogue) → Differs (create_container name row_type quota cat)
unfolding create_container
create_container-differs name row_type quota cat = then _ _ (λ a. then _ _ (λ b. then _ _ (λ c. ok-begins)))

container_usage-differs : (name : List ℕ) (cat : Catalogue) → Differs (container_usage name cat)
unfolding container_usage
container_usage-differs name cat = then _ _ (λ a. counts-begins _ _)

create_irregular-differs : (key container : List ℕ) (cat : Catalogue) → Differs (create_irregular key container cat)
unfolding create_irregular
create_irregular-differs key container cat = then _ _ (λ a. then _ _ (λ b. ok-begins))

create_regular-differs : (key calendar : List ℕ) (origin : ℤ) (container : List ℕ) (cat : Catalogue) → Differs (create_regular key calendar origin container cat)
unfolding create_regular
create_regular-differs key calendar origin container cat = then _ _ (λ a. then _ _ (λ b. then _ _ (λ c. then _ _ (λ grid. stamp-begins grid.origin))))

drop_series-differs : (key : List ℕ) (cat : Catalogue) → Differs (drop_series key cat)
unfolding drop_series
drop_series-differs key cat = then _ _ (λ a. ok-begins)

list_series-differs : (container : List ℕ) (cat : Catalogue) → Differs (list_series container cat)
unfolding list_series
list_series-differs container cat = then _ _ (λ a. series_text-begins _)

put_element-differs : (key : List ℕ) (stamp : ℤ) (literals : List Literal) (cat : Catalogue) → Differs (put_element key stamp literals cat)
unfolding put_element
put_element-differs key stamp literals cat = then _ _ (λ a. then _ _ (λ b. then _ _ (λ at. then _ _ (λ place. then _ _ (λ d. stamp-begins place)))))

put_no_dups-differs : (key : List ℕ) (stamp : ℤ) (literals : List Literal) (cat : Catalogue) → Differs (put_no_dups key stamp literals cat)
unfolding put_no_dups
put_no_dups-differs key stamp literals cat = then _ _ (λ a. then _ _ (λ b. then _ _ (λ at. then _ _ (λ c. stamp-begins at))))

insert_element-differs : (key : List ℕ) (stamp : ℤ) (literals : List Literal) (cat : Catalogue) → Differs (insert_element key stamp literals cat)
unfolding insert_element
insert_element-differs key stamp literals cat = then _ _ (λ a. then _ _ (λ b. then _ _ (λ at. then _ _ (λ c. then _ _ (λ d. stamp-begins at)))))

update_element-differs : (key : List ℕ) (stamp : ℤ) (literals : List Literal) (cat : Catalogue) → Differs (update_element key stamp literals cat)
unfolding update_element
update_element-differs key stamp literals cat = then _ _ (λ a. then _ _ (λ b. then _ _ (λ at. then _ _ (λ c. stamp-begins at))))

delete_element-differs : (key : List ℕ) (stamp : ℤ) (cat : Catalogue) → Differs (delete_element key stamp cat)
unfolding delete_element
delete_element-differs key stamp cat = then _ _ (λ a. count-begins _)

delete_range-differs : (key : List ℕ) (from to : ℤ) (cat : Catalogue) → Differs (delete_range key from to cat)
unfolding delete_range
delete_range-differs key from to cat = then _ _ (λ a. count-begins _)

mark_element-differs : (hidden : Bool) (key : List ℕ) (stamp : ℤ) (cat : Catalogue) → Differs (mark_element hidden key stamp cat)
unfolding mark_element
mark_element-differs hidden key stamp cat = then _ _ (λ a. then _ _ (λ b. then _ _ (λ at. then _ _ (λ c. stamp-begins at))))

get_element-differs : (key : List ℕ) (stamp : ℤ) (cat : Catalogue) → Differs (get_element key stamp cat)
unfolding get_element
get_element-differs key stamp cat = then _ _ (λ a. elements-begin _ _)

get_last_element-differs : (key : List ℕ) (cat : Catalogue) → Differs (get_last_element key cat)
unfolding get_last_element
get_last_element-differs key cat = then _ _ (λ a. elements-begin _ _)

count_elements-differs : (key : List ℕ) (cat : Catalogue) → Differs (count_elements key cat)
unfolding count_elements
count_elements-differs key cat = then _ _ (λ a. count-begins _)

get_first_element-differs : (key : List ℕ) (cat : Catalogue) → Differs (get_first_element key cat)
unfolding get_first_element
get_first_element-differs key cat = then _ _ (λ a. elements-begin _ _)

get_nth_element-differs : (key : List ℕ) (n : ℕ) (cat : Catalogue) → Differs (get_nth_element key n cat)
unfolding get_nth_element
get_nth_element-differs key n cat = then _ _ (λ a. then _ _ (λ all. entries-begin _ _))

clip_series-differs : (key : List ℕ) (from to : ℤ) (cat : Catalogue) → Differs (clip_series key from to cat)
unfolding clip_series
clip_series-differs key from to cat = then _ _ (λ a. then _ _ (λ all. then _ _ (λ rows. entries-begin _ rows)))

count_clip-differs : (key : List ℕ) (from to : ℤ) (cat : Catalogue) → Differs (count_clip key from to cat)
unfolding count_clip
count_clip-differs key from to cat = then _ _ (λ a. then _ _ (λ all. count-begins _))

clip_counted-differs : (key : List ℕ) (stamp n : ℤ) (cat : Catalogue) → Differs (clip_counted key stamp n cat)
unfolding clip_counted
clip_counted-differs key stamp n cat = then _ _ (λ a. then _ _ (λ all. entries-begin _ _))

join_series-differs : (junction : Junction) (first second : List ℕ) (from to : ℤ) (cat : Catalogue) → Differs (join_series junction first second from to cat)
unfolding join_series
join_series-differs junction first second from to cat = then _ _ (λ a. then _ _ (λ b. then _ _ (λ shape. then _ _ (λ other. then _ _ (λ rows. elements-begin _ rows)))))

lag_series-differs : (key : List ℕ) (by : ℤ) (cat : Catalogue) → Differs (lag_series key by cat)
unfolding lag_series
lag_series-differs key by cat = then _ _ (λ a. then _ _ (λ shape. then _ _ (λ rows. elements-begin _ rows)))

aggregate_by-differs : (text calendar key : List ℕ) (from to : ℤ) (cat : Catalogue) → Differs (aggregate_by text calendar key from to cat)
unfolding aggregate_by
aggregate_by-differs text calendar key from to cat = then _ _ (λ a. then _ _ (λ plan. then _ _ (λ c. then _ _ (λ b. then _ _ (λ rows. folded-begin _ rows)))))

aggregate_range-differs : (text key : List ℕ) (from to : ℤ) (cat : Catalogue) → Differs (aggregate_range text key from to cat)
unfolding aggregate_range
aggregate_range-differs text key from to cat = then _ _ (λ a. then _ _ (λ c. then _ _ (λ b. folded-begin _ _)))

aggregate_all-differs : (text container : List ℕ) (from to : ℤ) (cat : Catalogue) → Differs (aggregate_all text container from to cat)
unfolding aggregate_all
aggregate_all-differs text container from to cat = then _ _ (λ a. then _ _ (λ c. then _ _ (λ b. series_folded-begin _ _)))

running_values-differs : (function : _) (text key : List ℕ) (n : ℕ) (from to : ℤ) (cat : Catalogue) → Differs (running_values function text key n from to cat)
unfolding running_values
running_values-differs function text key n from to cat = then _ _ (λ column. then _ _ (λ series. then _ _ (λ b. then _ _ (λ es. folded-begin _ _))))

apply_exprs-differs : (text key : List ℕ) (from to : ℤ) (cat : Catalogue) → Differs (apply_exprs text key from to cat)
unfolding apply_exprs
apply_exprs-differs text key from to cat = then _ _ (λ exprs. then _ _ (λ series. then _ _ (λ b. then _ _ (λ es. then _ _ (λ rows. folded-begin _ rows)))))

roll_create-differs : (set calendar : List ℕ) (origin : ℤ) (container : List ℕ) (n : ℕ) (cat : Catalogue) → Differs (roll_create set calendar origin container n cat)
unfolding roll_create
roll_create-differs set calendar origin container n cat = then _ _ (λ a. then _ _ (λ b. then _ _ (λ c. create_regular-differs _ calendar origin container cat)))

roll_put-differs : (set : List ℕ) (stamp : ℤ) (literals : List Literal) (cat : Catalogue) → Differs (roll_put set stamp literals cat)
unfolding roll_put
roll_put-differs set stamp literals cat =
    then _ _ (λ a. then _ _ (λ b. then _ _ (λ c. then _ _ (λ d. then _ _ (λ made. put_no_dups-differs _ stamp literals made)))))

roll_clip-differs : (set : List ℕ) (from to : ℤ) (cat : Catalogue) → Differs (roll_clip set from to cat)
unfolding roll_clip
roll_clip-differs set from to cat = then _ _ (λ a. then _ _ (λ b. then _ _ (λ rows. elements-begin _ rows)))

roll_drop-differs : (set : List ℕ) (cat : Catalogue) → Differs (roll_drop set cat)
unfolding roll_drop
roll_drop-differs set cat = then _ _ (λ a. then _ _ (λ b. count-begins _))

carried_out-differs : (command : Command) (cat : Catalogue) → Differs (carried_out command cat)
unfolding carried_out
carried_out-differs (commands.CreateRowType name stamp columns) cat = create_row_type-differs name stamp columns cat
carried_out-differs (commands.DropRowType name) cat = drop_definition-differs kinds.RowType name cat
carried_out-differs (commands.CreatePattern name text) cat = create_pattern-differs name text cat
carried_out-differs (commands.NotOp name pattern) cat = turn_pattern-differs name pattern cat
carried_out-differs (commands.AndPatterns name first second) cat = join_patterns-differs And name first second cat
carried_out-differs (commands.OrPatterns name first second) cat = join_patterns-differs Or name first second cat
carried_out-differs (commands.AndCalendars name first second) cat = join_calendars-differs And name first second cat
carried_out-differs (commands.OrCalendars name first second) cat = join_calendars-differs Or name first second cat
carried_out-differs (commands.ShowPattern name) cat = show_pattern-differs name cat
carried_out-differs (commands.DropPattern name) cat = drop_definition-differs kinds.Pattern name cat
carried_out-differs (commands.CreateCalendar name text) cat = create_calendar-differs name text cat
carried_out-differs (commands.ShowCalendar name) cat = show_calendar-differs name cat
carried_out-differs (commands.DropCalendar name) cat = drop_definition-differs kinds.Calendar name cat
carried_out-differs (commands.CalIndex calendar from to) cat = count_starts-differs calendar from to cat
carried_out-differs (commands.CalStamp calendar after count) cat = find_start-differs calendar after _ cat
carried_out-differs (commands.CalRange calendar from to) cat = list_starts-differs calendar from to cat
carried_out-differs (commands.TSContainerCreate name row_type quota) cat = create_container-differs name row_type _ cat
carried_out-differs (commands.TSContainerDestroy name) cat = drop_definition-differs kinds.Container name cat
carried_out-differs (commands.TSContainerUsage name) cat = container_usage-differs name cat
carried_out-differs (commands.TSCreate key calendar origin container) cat = create_regular-differs key calendar origin container cat
carried_out-differs (commands.TSCreateIrr key container) cat = create_irregular-differs key container cat
carried_out-differs (commands.DropSeries key) cat = drop_series-differs key cat
carried_out-differs (commands.ListSeries container) cat = list_series-differs container cat
carried_out-differs (commands.PutElem key stamp literals) cat = put_element-differs key stamp literals cat
carried_out-differs (commands.PutElemNoDups key stamp literals) cat = put_no_dups-differs key stamp literals cat
carried_out-differs (commands.InsElem key stamp literals) cat = insert_element-differs key stamp literals cat
carried_out-differs (commands.UpdElem key stamp literals) cat = update_element-differs key stamp literals cat
carried_out-differs (commands.DelElem key stamp) cat = delete_element-differs key stamp cat
carried_out-differs (commands.DelClip key from to) cat = delete_range-differs key from to cat
carried_out-differs (commands.HideElem key stamp) cat = mark_element-differs true key stamp cat
carried_out-differs (commands.RevealElem key stamp) cat = mark_element-differs false key stamp cat
carried_out-differs (commands.GetElem key stamp) cat = get_element-differs key stamp cat
carried_out-differs (commands.GetLastElem key) cat = get_last_element-differs key cat
carried_out-differs (commands.GetNelems key) cat = count_elements-differs key cat
carried_out-differs (commands.GetFirstElem key) cat = get_first_element-differs key cat
carried_out-differs (commands.GetNthElem key index) cat = get_nth_element-differs key _ cat
carried_out-differs (commands.Clip key from to) cat = clip_series-differs key from to cat
carried_out-differs (commands.ClipCount key stamp count) cat = clip_counted-differs key stamp count cat
carried_out-differs (commands.ClipGetCount key from to) cat = count_clip-differs key from to cat
carried_out-differs (commands.Union first second from to) cat = join_series-differs Or first second from to cat
carried_out-differs (commands.Intersect first second from to) cat = join_series-differs And first second from to cat
carried_out-differs (commands.Lag key by) cat = lag_series-differs key by cat
carried_out-differs (commands.AggregateBy text calendar key from to) cat = aggregate_by-differs text calendar key from to cat
carried_out-differs (commands.AggregateRange text key from to) cat = aggregate_range-differs text key from to cat
carried_out-differs (commands.AggregateAll text container from to) cat = aggregate_all-differs text container from to cat
carried_out-differs (commands.TSRunningSum text key span from to) cat = running_values-differs _ text key _ from to cat
carried_out-differs (commands.TSRunningAvg text key span from to) cat = running_values-differs _ text key _ from to cat
carried_out-differs (commands.Apply text key from to) cat = apply_exprs-differs text key from to cat
carried_out-differs (commands.RollingCreate set calendar origin container kept) cat = roll_create-differs set calendar origin container _ cat
carried_out-differs (commands.RollingPut set stamp literals) cat = roll_put-differs set stamp literals cat
carried_out-differs (commands.RollingClip set from to) cat = roll_clip-differs set from to cat
carried_out-differs (commands.RollingDrop set) cat = roll_drop-differs set cat
carried_out-differs commands.Begin cat = ok-begins
carried_out-differs commands.Commit cat = tt
carried_out-differs commands.Rollback cat = tt

outcome-differs : (request : Request) (cat : Catalogue) → Differs (outcome request cat)
unfolding outcome
outcome-differs (Ok command) cat = carried_out-differs command cat
outcome-differs (Err refusal) cat = tt

settled-apart : (state : State) (t : Tried (List ℕ × State)) → IsSaidSo Begins t → IsApart (settled state t).0
settled-apart state (Ok stepped) differs = apart-begins stepped.0 differs
settled-apart state (Err refusal) differs = refusal-apart refusal

run-apart : (state : State) (request : Request) → IsApart (run_answer state request).0
unfolding run_answer
run-apart state request = settled-apart state (run_outcome request state) (run_said Begins ok-begins number-begins request state (outcome-differs request))

pub apart : AreApart run_answer
apart = record { memory = λ state request x. (run-apart state request).memory x; reply = λ state request. (run-apart state request).reply }
