-- A reply ends with an `ok` line exactly where its command isn't refused.
use Rattle.std.proofs.Common.{◌≡◌, ℕ, ◌+◌, ℤ, Bool, true, false, not, cond, Ok, Err, List, [], ◌∷◌, refl, ap, ◌∙◌}
use Rattle.std.specs.List.{fold}
use Rattle.ts_row.specs.declared.kind.Column.{Column}
use Rattle.ts_row.specs.declared.value.Literal.{Literal}
use Rattle.ts_command.specs.declared.command.Command.{Command}
use Rattle.ts_command.specs.declared.command.Command.TheVariants as commands
use Rattle.ts_model.specs.declared.kind.Kind.{Kind}
use Rattle.ts_model.specs.declared.kind.Kind.TheVariants as kinds
use Rattle.ts_model.specs.Catalogue.{Catalogue}
use Rattle.ts_answer.specs.Answer.{Tried, Answered, ◌>>=◌, settled, outcome, carried_out, create_row_type, drop_definition, create_pattern, turn_pattern, join_patterns, show_pattern, create_calendar, join_calendars, show_calendar, count_starts, find_start, list_starts, create_container, container_usage, create_irregular, create_regular, drop_series, list_series, put_element, put_no_dups, insert_element, update_element, delete_element, delete_range, mark_element, get_element, get_last_element, count_elements, get_first_element, get_nth_element, clip_series, count_clip, clip_counted, join_series, lag_series, aggregate_by, aggregate_range, aggregate_all, running_values, apply_exprs, roll_create, roll_put, roll_clip, roll_drop, State, run_outcome, run_answer, replies}
use Rattle.ts_answer.specs.Reply.{pattern_lines, calendar_lines}
use Rattle.ts_answer.proofs.LineLemmas.{EndsOk, ok-ends, count-ends, counts-ends, number-ends, stamp-ends, above-ends, stamps-end, elements-end, entries-end, series_text-ends, folded-end, series_folded-end, refusal-not}
use Rattle.ts_answer.specs.Outcomes.{ends_with_ok, is_answered, are_answered, OkLinesAreAnswers, CountsAreOfOutcomes}
use Rattle.ts_answer.proofs.StateLemmas.{IsSaidSo, run_said}

-- a reply ends with an `ok` line
abbrev Ends : Tried Answered → Type 0
Ends tried = IsSaidSo EndsOk tried

then : {A : Type 0} (m : Tried A) (f : A → Tried Answered) → ((a : A) → Ends (f a)) → Ends (m >>= f)
unfolding ◌>>=◌
then (Ok a) f ends = ends a
then (Err refusal) f ends = tt

create_row_type-ends : (name stamp : List ℕ) (columns : List Column) (cat : Catalogue) → Ends (create_row_type name stamp columns cat)
unfolding create_row_type
create_row_type-ends name stamp columns cat = then _ _ (λ a. then _ _ (λ b. then _ _ (λ c. ok-ends)))

drop_definition-ends : (kind : Kind) (name : List ℕ) (cat : Catalogue) → Ends (drop_definition kind name cat)
unfolding drop_definition
drop_definition-ends kind name cat = then _ _ (λ a. then _ _ (λ b. ok-ends))

create_pattern-ends : (name text : List ℕ) (cat : Catalogue) → Ends (create_pattern name text cat)
unfolding create_pattern
create_pattern-ends name text cat = then _ _ (λ a. then _ _ (λ b. ok-ends))

turn_pattern-ends : (name pattern : List ℕ) (cat : Catalogue) → Ends (turn_pattern name pattern cat)
unfolding turn_pattern
turn_pattern-ends name pattern cat = then _ _ (λ a. then _ _ (λ b. ok-ends))

join_patterns-ends : (junction : _) (name first second : List ℕ) (cat : Catalogue) → Ends (join_patterns junction name first second cat)
unfolding join_patterns
join_patterns-ends junction name first second cat = then _ _ (λ a. then _ _ (λ b. then _ _ (λ c. then _ _ (λ d. ok-ends))))

show_pattern-ends : (name : List ℕ) (cat : Catalogue) → Ends (show_pattern name cat)
unfolding show_pattern pattern_lines
show_pattern-ends name cat = then _ _ (λ a. search above-ends)

create_calendar-ends : (name text : List ℕ) (cat : Catalogue) → Ends (create_calendar name text cat)
unfolding create_calendar
create_calendar-ends name text cat = then _ _ (λ a. then _ _ (λ b. then _ _ (λ c. then _ _ (λ d. ok-ends))))

join_calendars-ends : (junction : _) (name first second : List ℕ) (cat : Catalogue) → Ends (join_calendars junction name first second cat)
unfolding join_calendars
join_calendars-ends junction name first second cat = then _ _ (λ a. then _ _ (λ b. then _ _ (λ c. then _ _ (λ d. ok-ends))))

show_calendar-ends : (name : List ℕ) (cat : Catalogue) → Ends (show_calendar name cat)
unfolding show_calendar calendar_lines
show_calendar-ends name cat = then _ _ (λ a. search above-ends)

count_starts-ends : (calendar : List ℕ) (from to : ℤ) (cat : Catalogue) → Ends (count_starts calendar from to cat)
unfolding count_starts
count_starts-ends calendar from to cat = then _ _ (λ a. number-ends _)

find_start-ends : (calendar : List ℕ) (after : ℤ) (count : ℕ) (cat : Catalogue) → Ends (find_start calendar after count cat)
unfolding find_start
find_start-ends calendar after count cat = then _ _ (λ a. then _ _ stamp-ends)

list_starts-ends : (calendar : List ℕ) (from to : ℤ) (cat : Catalogue) → Ends (list_starts calendar from to cat)
unfolding list_starts
list_starts-ends calendar from to cat = then _ _ (λ a. then _ _ stamps-end)

create_container-ends : (name row_type : List ℕ) (quota : ℕ) (cat : Catalogue) → Ends (create_container name row_type quota cat)
unfolding create_container
create_container-ends name row_type quota cat = then _ _ (λ a. then _ _ (λ b. then _ _ (λ c. ok-ends)))

container_usage-ends : (name : List ℕ) (cat : Catalogue) → Ends (container_usage name cat)
unfolding container_usage
container_usage-ends name cat = then _ _ (λ a. counts-ends _ _)

create_irregular-ends : (key container : List ℕ) (cat : Catalogue) → Ends (create_irregular key container cat)
unfolding create_irregular
create_irregular-ends key container cat = then _ _ (λ a. then _ _ (λ b. ok-ends))

create_regular-ends : (key calendar : List ℕ) (origin : ℤ) (container : List ℕ) (cat : Catalogue)
    → Ends (create_regular key calendar origin container cat)
unfolding create_regular
create_regular-ends key calendar origin container cat =
    then _ _ (λ a. then _ _ (λ b. then _ _ (λ c. then _ _ (λ grid. stamp-ends grid.origin))))

drop_series-ends : (key : List ℕ) (cat : Catalogue) → Ends (drop_series key cat)
unfolding drop_series
drop_series-ends key cat = then _ _ (λ a. ok-ends)

list_series-ends : (container : List ℕ) (cat : Catalogue) → Ends (list_series container cat)
unfolding list_series
list_series-ends container cat = then _ _ (λ a. series_text-ends _)

put_element-ends : (key : List ℕ) (stamp : ℤ) (literals : List Literal) (cat : Catalogue) → Ends (put_element key stamp literals cat)
unfolding put_element
put_element-ends key stamp literals cat =
    then _ _ (λ a. then _ _ (λ b. then _ _ (λ at. then _ _ (λ place. then _ _ (λ d. stamp-ends place)))))

put_no_dups-ends : (key : List ℕ) (stamp : ℤ) (literals : List Literal) (cat : Catalogue) → Ends (put_no_dups key stamp literals cat)
unfolding put_no_dups
put_no_dups-ends key stamp literals cat = then _ _ (λ a. then _ _ (λ b. then _ _ (λ at. then _ _ (λ c. stamp-ends at))))

insert_element-ends : (key : List ℕ) (stamp : ℤ) (literals : List Literal) (cat : Catalogue) → Ends (insert_element key stamp literals cat)
unfolding insert_element
insert_element-ends key stamp literals cat = then _ _ (λ a. then _ _ (λ b. then _ _ (λ at. then _ _ (λ c. then _ _ (λ d. stamp-ends at)))))

update_element-ends : (key : List ℕ) (stamp : ℤ) (literals : List Literal) (cat : Catalogue) → Ends (update_element key stamp literals cat)
unfolding update_element
update_element-ends key stamp literals cat = then _ _ (λ a. then _ _ (λ b. then _ _ (λ at. then _ _ (λ c. stamp-ends at))))

delete_element-ends : (key : List ℕ) (stamp : ℤ) (cat : Catalogue) → Ends (delete_element key stamp cat)
unfolding delete_element
delete_element-ends key stamp cat = then _ _ (λ a. count-ends _)

delete_range-ends : (key : List ℕ) (from to : ℤ) (cat : Catalogue) → Ends (delete_range key from to cat)
unfolding delete_range
delete_range-ends key from to cat = then _ _ (λ a. count-ends _)

mark_element-ends : (hidden : Bool) (key : List ℕ) (stamp : ℤ) (cat : Catalogue) → Ends (mark_element hidden key stamp cat)
unfolding mark_element
mark_element-ends hidden key stamp cat = then _ _ (λ a. then _ _ (λ b. then _ _ (λ at. then _ _ (λ c. stamp-ends at))))

get_element-ends : (key : List ℕ) (stamp : ℤ) (cat : Catalogue) → Ends (get_element key stamp cat)
unfolding get_element
get_element-ends key stamp cat = then _ _ (λ a. elements-end _ _)

get_last_element-ends : (key : List ℕ) (cat : Catalogue) → Ends (get_last_element key cat)
unfolding get_last_element
get_last_element-ends key cat = then _ _ (λ a. elements-end _ _)

count_elements-ends : (key : List ℕ) (cat : Catalogue) → Ends (count_elements key cat)
unfolding count_elements
count_elements-ends key cat = then _ _ (λ a. count-ends _)

get_first_element-ends : (key : List ℕ) (cat : Catalogue) → Ends (get_first_element key cat)
unfolding get_first_element
get_first_element-ends key cat = then _ _ (λ a. elements-end _ _)

get_nth_element-ends : (key : List ℕ) (n : ℕ) (cat : Catalogue) → Ends (get_nth_element key n cat)
unfolding get_nth_element
get_nth_element-ends key n cat = then _ _ (λ a. then _ _ (λ all. entries-end _ _))

clip_series-ends : (key : List ℕ) (from to : ℤ) (cat : Catalogue) → Ends (clip_series key from to cat)
unfolding clip_series
clip_series-ends key from to cat = then _ _ (λ a. then _ _ (λ all. then _ _ (λ rows. entries-end _ rows)))

count_clip-ends : (key : List ℕ) (from to : ℤ) (cat : Catalogue) → Ends (count_clip key from to cat)
unfolding count_clip
count_clip-ends key from to cat = then _ _ (λ a. then _ _ (λ all. count-ends _))

clip_counted-ends : (key : List ℕ) (stamp n : ℤ) (cat : Catalogue) → Ends (clip_counted key stamp n cat)
unfolding clip_counted
clip_counted-ends key stamp n cat = then _ _ (λ a. then _ _ (λ all. entries-end _ _))

join_series-ends : (junction : _) (first second : List ℕ) (from to : ℤ) (cat : Catalogue)
    → Ends (join_series junction first second from to cat)
unfolding join_series
join_series-ends junction first second from to cat =
    then _ _ (λ a. then _ _ (λ b. then _ _ (λ shape. then _ _ (λ other. then _ _ (λ rows. elements-end _ rows)))))

lag_series-ends : (key : List ℕ) (by : ℤ) (cat : Catalogue) → Ends (lag_series key by cat)
unfolding lag_series
lag_series-ends key by cat = then _ _ (λ a. then _ _ (λ shape. then _ _ (λ rows. elements-end _ rows)))

aggregate_by-ends : (text calendar key : List ℕ) (from to : ℤ) (cat : Catalogue) → Ends (aggregate_by text calendar key from to cat)
unfolding aggregate_by
aggregate_by-ends text calendar key from to cat =
    then _ _ (λ a. then _ _ (λ plan. then _ _ (λ c. then _ _ (λ b. then _ _ (λ rows. folded-end _ rows)))))

aggregate_range-ends : (text key : List ℕ) (from to : ℤ) (cat : Catalogue) → Ends (aggregate_range text key from to cat)
unfolding aggregate_range
aggregate_range-ends text key from to cat = then _ _ (λ a. then _ _ (λ c. then _ _ (λ b. folded-end _ _)))

aggregate_all-ends : (text container : List ℕ) (from to : ℤ) (cat : Catalogue) → Ends (aggregate_all text container from to cat)
unfolding aggregate_all
aggregate_all-ends text container from to cat = then _ _ (λ a. then _ _ (λ c. then _ _ (λ b. series_folded-end _ _)))

running_values-ends : (function : _) (text key : List ℕ) (n : ℕ) (from to : ℤ) (cat : Catalogue) → Ends (running_values function text key n from to cat)
unfolding running_values
running_values-ends function text key n from to cat =
    then _ _ (λ column. then _ _ (λ series. then _ _ (λ b. then _ _ (λ es. folded-end _ _))))

apply_exprs-ends : (text key : List ℕ) (from to : ℤ) (cat : Catalogue) → Ends (apply_exprs text key from to cat)
unfolding apply_exprs
apply_exprs-ends text key from to cat =
    then _ _ (λ exprs. then _ _ (λ series. then _ _ (λ b. then _ _ (λ es. then _ _ (λ rows. folded-end _ rows)))))

roll_create-ends : (set calendar : List ℕ) (origin : ℤ) (container : List ℕ) (n : ℕ) (cat : Catalogue) → Ends (roll_create set calendar origin container n cat)
unfolding roll_create
roll_create-ends set calendar origin container n cat = then _ _ (λ a. then _ _ (λ b. then _ _ (λ c. create_regular-ends _ calendar origin container cat)))

roll_put-ends : (set : List ℕ) (stamp : ℤ) (literals : List Literal) (cat : Catalogue) → Ends (roll_put set stamp literals cat)
unfolding roll_put
roll_put-ends set stamp literals cat =
    then _ _ (λ a. then _ _ (λ b. then _ _ (λ c. then _ _ (λ d. then _ _ (λ made. put_no_dups-ends _ stamp literals made)))))

roll_clip-ends : (set : List ℕ) (from to : ℤ) (cat : Catalogue) → Ends (roll_clip set from to cat)
unfolding roll_clip
roll_clip-ends set from to cat = then _ _ (λ a. then _ _ (λ b. then _ _ (λ rows. elements-end _ rows)))

roll_drop-ends : (set : List ℕ) (cat : Catalogue) → Ends (roll_drop set cat)
unfolding roll_drop
roll_drop-ends set cat = then _ _ (λ a. then _ _ (λ b. count-ends _))

carried_out-ends : (command : Command) (cat : Catalogue) → Ends (carried_out command cat)
unfolding carried_out
carried_out-ends (commands.CreateRowType name stamp columns) cat = create_row_type-ends name stamp columns cat
carried_out-ends (commands.DropRowType name) cat = drop_definition-ends kinds.RowType name cat
carried_out-ends (commands.CreatePattern name text) cat = create_pattern-ends name text cat
carried_out-ends (commands.NotOp name pattern) cat = turn_pattern-ends name pattern cat
carried_out-ends (commands.AndPatterns name first second) cat = join_patterns-ends _ name first second cat
carried_out-ends (commands.OrPatterns name first second) cat = join_patterns-ends _ name first second cat
carried_out-ends (commands.AndCalendars name first second) cat = join_calendars-ends _ name first second cat
carried_out-ends (commands.OrCalendars name first second) cat = join_calendars-ends _ name first second cat
carried_out-ends (commands.ShowPattern name) cat = show_pattern-ends name cat
carried_out-ends (commands.DropPattern name) cat = drop_definition-ends kinds.Pattern name cat
carried_out-ends (commands.CreateCalendar name text) cat = create_calendar-ends name text cat
carried_out-ends (commands.ShowCalendar name) cat = show_calendar-ends name cat
carried_out-ends (commands.DropCalendar name) cat = drop_definition-ends kinds.Calendar name cat
carried_out-ends (commands.CalIndex calendar from to) cat = count_starts-ends calendar from to cat
carried_out-ends (commands.CalStamp calendar after count) cat = find_start-ends calendar after _ cat
carried_out-ends (commands.CalRange calendar from to) cat = list_starts-ends calendar from to cat
carried_out-ends (commands.TSContainerCreate name row_type quota) cat = create_container-ends name row_type _ cat
carried_out-ends (commands.TSContainerDestroy name) cat = drop_definition-ends kinds.Container name cat
carried_out-ends (commands.TSContainerUsage name) cat = container_usage-ends name cat
carried_out-ends (commands.TSCreate key calendar origin container) cat = create_regular-ends key calendar origin container cat
carried_out-ends (commands.TSCreateIrr key container) cat = create_irregular-ends key container cat
carried_out-ends (commands.DropSeries key) cat = drop_series-ends key cat
carried_out-ends (commands.ListSeries container) cat = list_series-ends container cat
carried_out-ends (commands.PutElem key stamp literals) cat = put_element-ends key stamp literals cat
carried_out-ends (commands.PutElemNoDups key stamp literals) cat = put_no_dups-ends key stamp literals cat
carried_out-ends (commands.InsElem key stamp literals) cat = insert_element-ends key stamp literals cat
carried_out-ends (commands.UpdElem key stamp literals) cat = update_element-ends key stamp literals cat
carried_out-ends (commands.DelElem key stamp) cat = delete_element-ends key stamp cat
carried_out-ends (commands.DelClip key from to) cat = delete_range-ends key from to cat
carried_out-ends (commands.HideElem key stamp) cat = mark_element-ends true key stamp cat
carried_out-ends (commands.RevealElem key stamp) cat = mark_element-ends false key stamp cat
carried_out-ends (commands.GetElem key stamp) cat = get_element-ends key stamp cat
carried_out-ends (commands.GetLastElem key) cat = get_last_element-ends key cat
carried_out-ends (commands.GetNelems key) cat = count_elements-ends key cat
carried_out-ends (commands.GetFirstElem key) cat = get_first_element-ends key cat
carried_out-ends (commands.GetNthElem key index) cat = get_nth_element-ends key _ cat
carried_out-ends (commands.Clip key from to) cat = clip_series-ends key from to cat
carried_out-ends (commands.ClipCount key stamp count) cat = clip_counted-ends key stamp count cat
carried_out-ends (commands.ClipGetCount key from to) cat = count_clip-ends key from to cat
carried_out-ends (commands.Union first second from to) cat = join_series-ends _ first second from to cat
carried_out-ends (commands.Intersect first second from to) cat = join_series-ends _ first second from to cat
carried_out-ends (commands.Lag key by) cat = lag_series-ends key by cat
carried_out-ends (commands.AggregateBy text calendar key from to) cat = aggregate_by-ends text calendar key from to cat
carried_out-ends (commands.AggregateRange text key from to) cat = aggregate_range-ends text key from to cat
carried_out-ends (commands.AggregateAll text container from to) cat = aggregate_all-ends text container from to cat
carried_out-ends (commands.TSRunningSum text key span from to) cat = running_values-ends _ text key _ from to cat
carried_out-ends (commands.TSRunningAvg text key span from to) cat = running_values-ends _ text key _ from to cat
carried_out-ends (commands.Apply text key from to) cat = apply_exprs-ends text key from to cat
carried_out-ends (commands.RollingCreate set calendar origin container kept) cat = roll_create-ends set calendar origin container _ cat
carried_out-ends (commands.RollingPut set stamp literals) cat = roll_put-ends set stamp literals cat
carried_out-ends (commands.RollingClip set from to) cat = roll_clip-ends set from to cat
carried_out-ends (commands.RollingDrop set) cat = roll_drop-ends set cat
carried_out-ends commands.Begin cat = ok-ends
carried_out-ends commands.Commit cat = tt
carried_out-ends commands.Rollback cat = tt

-- what was tried, and the reply to it
settled-ends : (state : State) (t : Tried (List ℕ × State)) → IsSaidSo EndsOk t
    → ends_with_ok (settled state t).0 ≡ elim t [ Ok stepped ↦ true | Err refusal ↦ false ]
settled-ends state (Ok stepped) ends = ends.yes
settled-ends state (Err refusal) ends = refusal-not refusal

outcome-ends : (command : Command) (cat : Catalogue) → Ends (outcome (Ok command) cat)
unfolding outcome
outcome-ends command cat = carried_out-ends command cat

pub ok_lines_are_answers : OkLinesAreAnswers
unfolding run_answer
ok_lines_are_answers state command =
    settled-ends state (run_outcome (Ok command) state) (run_said EndsOk ok-ends number-ends (Ok command) state (outcome-ends command))

-- the same of all replies, where so many were counted before
counted : (test : Bool → Bool) (state : State) (commands : List Command) (n : ℕ)
    → fold (λ (m : ℕ) (r : List ℕ). m + cond (test (ends_with_ok r)) 1 0) n (replies state commands)
    ≡ fold (λ (m : ℕ) (b : Bool). m + cond (test b) 1 0) n (are_answered state commands)
counted test state [] n = refl
counted test state (c ∷ cs) n =
    let next = (run_answer state (Ok c)).1 in
    ap (λ (b : Bool). fold (λ (m : ℕ) (r : List ℕ). m + cond (test (ends_with_ok r)) 1 0) (n + cond (test b) 1 0) (replies next cs))
    (ok_lines_are_answers state c)
    ∙ counted test next cs (n + cond (test (is_answered state c)) 1 0)

pub counts_are_of_outcomes : CountsAreOfOutcomes
counts_are_of_outcomes = record {
  answered = λ state commands. counted (λ b. b) state commands 0;
  refused = λ state commands. counted not state commands 0;
}
