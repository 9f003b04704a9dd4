-- Calendars that are made keep the rules.
use Rattle.std.proofs.Common.{◌≡◌, ℕ, Bool, true, false, cond, Option, Some, None, Ok, Err, List, refl, ap, sym, ◌∙◌, subst}
use Rattle.std.specs.Option.{option_map}
use Rattle.std.specs.FinMap.{get, get-insert, insert}
use Rattle.ts_base.specs.declared.refusal.Refusal.TheVariants as refusals
use Rattle.ts_pattern.specs.declared.junction.Junction.{Junction}
use Rattle.ts_pattern.specs.declared.junction.Junction.TheVariants.{And, Or}
use Rattle.ts_pattern.specs.Patterns.{Plan, has_on}
use Rattle.ts_calendar.specs.Calendars.{CalendarPlan, is_late, is_apart, valid_calendar, joined_calendar, IsValid, IsLaid, calendar_text, read_calendar}
use Rattle.ts_calendar.specs.declared.text.PatternPart.{PatternPart}
use Rattle.ts_calendar.specs.declared.text.PatternPart.TheVariants.{Named as ByName, Own}
use Rattle.ts_calendar.specs.declared.text.CalendarText.{CalendarText}
use Rattle.ts_calendar.proofs.ValidLemmas.{joined-valid}
use Rattle.ts_command.specs.declared.command.Command.TheVariants as commands
use Rattle.ts_model.specs.declared.kind.Kind.TheVariants as kinds
use Rattle.ts_model.specs.Catalogue.{Catalogue, pattern_of, with_plan, calendar_of, with_named}
use Rattle.ts_model.proofs.OrderLemmas.{total, ties-refl}
use Rattle.ts_answer.specs.Answer.{Answered, known, wanted, given, a_calendar, a_new_name, outcome, carried_out, create_calendar, join_calendars}
use Rattle.ts_answer.specs.Reply.{ok_line}
use Rattle.ts_answer.proofs.CallerLemmas.{on_ok}
use Rattle.ts_answer_laws.specs.Laws.{HasValidCalendar}
use Rattle.ts_answer_laws.proofs.CameLemmas.{came, same_answer}

-- the pattern that a text gives is that of the calendar that is made
known_is : (o : Option Plan) (p : Plan) → known o ≡ Ok p → o ≡ Some p
known_is (Some q) p is = let same : q ≡ p = cc in ap Some same
known_is None p is = absurd (cc)

part_given : (part : PatternPart) (p : Plan) (name : List ℕ) (text : CalendarText) (cat : Catalogue) → given part cat ≡ Ok p → pattern_of (with_named kinds.Calendar name text cat) part ≡ Some p
unfolding wanted
part_given (ByName pattern) p name text cat is = known_is (get cat.patterns pattern) p is
part_given (Own pattern) p name text cat is = let same : pattern ≡ p = cc in ap Some same

-- what passes the rules is the calendar itself
passed_is : (late apart on : Bool) (c v : CalendarPlan)
    → cond late (Err (refusals.BadCalendar 0)) (cond apart (Err (refusals.BadCalendar 0)) (cond on (Ok c) (Err refusals.AllOff))) ≡ Ok v → v ≡ c
passed_is true apart on c v is = absurd (cc)
passed_is false true on c v is = absurd (cc)
passed_is false false true c v is = cc
passed_is false false false c v is = absurd (cc)

valid_is : (c v : CalendarPlan) → valid_calendar c ≡ Ok v → IsValid c
valid_is c v is = is ∙ ap Ok (passed_is (is_late c.pattern.unit c.patt_start) (is_apart c) (has_on c.pattern.runs) c v is)

-- the text that was put under a name
put_there : (name : List ℕ) (text : CalendarText) (cat : Catalogue) → get (insert cat.calendars name text) name ≡ Some text
put_there name text cat = get-insert total cat.calendars name text name ∙ ap (λ (b : Bool). cond b (Some text) (get cat.calendars name)) (ties-refl name)

has_valid : (name : List ℕ) (text : CalendarText) (plan : CalendarPlan) (cat : Catalogue) (answered : Answered) → calendar_of (with_named kinds.Calendar name text cat) text ≡ Some plan → IsValid plan
    → answered ≡ (ok_line, with_named kinds.Calendar name text cat) → HasValidCalendar name answered.1
has_valid name text plan cat answered stands valid is =
    subst (λ (a : Answered). HasValidCalendar name a.1) (sym is) (record { text = text; listed = put_there name text cat; plan = plan; stands = stands; valid = valid })

pub created_valid : (cat : Catalogue) (answered : Answered) (name text : List ℕ) → outcome (Ok (commands.CreateCalendar name text)) cat ≡ Ok answered → HasValidCalendar name answered.1
unfolding outcome carried_out create_calendar
created_valid cat answered name text is =
    let read = came (read_calendar text) _ answered is in
    let pattern = came (given read.0.part cat) _ answered read.2 in
    let new = came (a_new_name kinds.Calendar name cat) _ answered pattern.2 in
    let valid = came (valid_calendar (with_plan read.0 pattern.0)) _ answered new.2 in
    has_valid name read.0 (with_plan read.0 pattern.0) cat answered (ap (option_map (with_plan read.0)) (part_given read.0.part pattern.0 name read.0 cat pattern.1)) (valid_is (with_plan read.0 pattern.0) valid.0 valid.1)
    (same_answer (ok_line, with_named kinds.Calendar name read.0 cat) answered valid.2)

joined_is : (junction : Junction) (cat : Catalogue) (answered : Answered) (name one other : List ℕ) (a : CalendarPlan) → a_calendar one cat ≡ Ok a → IsLaid a → join_calendars junction name one other cat ≡ Ok answered → HasValidCalendar name answered.1
unfolding join_calendars
joined_is junction cat answered name one other a there laid is =
    let b = came (a_calendar other cat) _ answered (sym (on_ok (a_calendar one cat) a _ there) ∙ is) in
    let new = came (a_new_name kinds.Calendar name cat) _ answered b.2 in
    let joined = came (joined_calendar junction a b.0) _ answered new.2 in
    let text = calendar_text joined.0.start joined.0.patt_start (Own joined.0.pattern) in
    has_valid name text joined.0 cat answered (refl {a = Some joined.0}) (joined-valid junction a b.0 joined.0 laid.stamp laid.early joined.1) (same_answer (ok_line, with_named kinds.Calendar name text cat) answered joined.2)

pub both_valid : (cat : Catalogue) (answered : Answered) (name one other : List ℕ) (a : CalendarPlan) → a_calendar one cat ≡ Ok a → IsLaid a → outcome (Ok (commands.AndCalendars name one other)) cat ≡ Ok answered → HasValidCalendar name answered.1
unfolding outcome carried_out
both_valid cat answered name one other a there laid is = joined_is And cat answered name one other a there laid is

pub either_valid : (cat : Catalogue) (answered : Answered) (name one other : List ℕ) (a : CalendarPlan) → a_calendar one cat ≡ Ok a → IsLaid a → outcome (Ok (commands.OrCalendars name one other)) cat ≡ Ok answered → HasValidCalendar name answered.1
unfolding outcome carried_out
either_valid cat answered name one other a there laid is = joined_is Or cat answered name one other a there laid is
