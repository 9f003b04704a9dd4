-- What defines an object of a kind is answered, where its name is new.
use Rattle.std.proofs.Common.{◌≡◌, ℕ, ◌+◌, ◌<◌, ◌≤◌, ℤ, pos, Bool, true, false, ◌&&◌, is_some, Option, Some, None, Ok, List, [], ◌∷◌, ◌++◌, length, take, drop, refl, ap, sym, ◌∙◌, arith}
use Rattle.std.specs.Prelude.{nat_lt, ok_or}
use Rattle.std.specs.Option.{option_map, option_and_then}
use Rattle.std.specs.FinMap.{empty, get, len}
use Rattle.std.proofs.lemmas.Bool.{le-ltb, lt-leb}
use Rattle.std.proofs.lemmas.Bool.Decides.{nat_tests}
use Rattle.std.proofs.lemmas.List.{append-nil, append_assoc, take-append-drop}
use Rattle.ts_base.specs.declared.refusal.Refusal.TheVariants as refusals
use Rattle.ts_row.specs.declared.kind.Column.{Column}
use Rattle.ts_row.specs.Row.{Heading, keep_rules, may_follow, is_row_type, bad_column, has_long_decimal}
use Rattle.ts_row.proofs.RowTypeLemmas.{keep_rules-push, bad_column-none}
use Rattle.ts_pattern.specs.Patterns.{Plan, read_plan, printed_plan}
use Rattle.ts_calendar.specs.Calendars.{CalendarPlan, valid_calendar, IsValid, read_calendar, printed_calendar}
use Rattle.ts_calendar.specs.declared.text.CalendarText.{CalendarText}
use Rattle.ts_offset.specs.Grid.{GridPlan, grid_of, held_start, start_or_next}
use Rattle.ts_command.specs.declared.command.Command.TheVariants as commands
use Rattle.ts_model.specs.declared.kind.Kind.{Kind}
use Rattle.ts_model.specs.declared.kind.Kind.TheVariants as kinds
use Rattle.ts_model.specs.Definitions.{limit}
use Rattle.ts_model.specs.Catalogue.{named, with_named, Container, Irregular, Regular, Catalogue, newest_format, pattern_of, calendar_of, calendar_named, with_plan, quotas}
use Rattle.ts_answer.specs.Answer.{outcome, carried_out, create_row_type, create_pattern, create_calendar, create_container, create_irregular, create_regular}
use Rattle.ts_answer.specs.Answer.{◌>>=◌, known, wanted, unused, within_limit, a_new_name, within_pages, given, a_calendar, no_bad_column, beyond_old_format}
use Rattle.ts_answer.specs.Reply.{ok_line, stamp_line}
use Rattle.ts_answer.proofs.CallerLemmas.{passed, wanted-there, good-columns, format-has, on_ok}

-- a name that is new, where there may be one more
pub new_name : (kind : Kind) (name : List ℕ) (cat : Catalogue) → get (named kind cat) name ≡ None → len (named kind cat) < limit kind → a_new_name kind name cat ≡ Ok tt
unfolding a_new_name unused within_limit
new_name kind name cat free few =
    on_ok (unused name (named kind cat)) tt (λ _. within_limit (limit kind) (named kind cat)) (passed (is_some (get (named kind cat) name)) refusals.NameTaken (ap is_some free))
    ∙ passed _ refusals.TooMany (lt-leb (limit kind) (len (named kind cat)) few)

-- the columns before others keep the rules that all keep
first_true : (a b : Bool) → (a && b) ≡ true → a ≡ true
first_true true b is = refl
first_true false b is = is

second_true : (a b : Bool) → (a && b) ≡ true → b ≡ true
second_true true b is = is
second_true false b is = absurd (let no : ⊥ = cc in no)

kept_before : (stamp : List ℕ) (before behind : List Column) → keep_rules stamp (before ++ behind) ≡ true → keep_rules stamp before ≡ true
kept_before stamp before [] kept = ap (keep_rules stamp) (sym (append-nil before)) ∙ kept
kept_before stamp before (c ∷ behind) kept =
    let rest = kept_before stamp (before ++ c ∷ []) behind (ap (keep_rules stamp) (append_assoc before (c ∷ []) behind) ∙ kept) in
    first_true (keep_rules stamp before) (may_follow stamp before c) (sym (keep_rules-push stamp before c) ∙ rest)

pub good_row_type : (stamp : List ℕ) (columns : List Column) → is_row_type stamp columns ≡ true → bad_column stamp columns ≡ None
good_row_type stamp columns is =
    let some : 1 ≤ length columns = grind (arith, nat_tests) in
    let kept : keep_rules stamp columns ≡ true = second_true _ (keep_rules stamp columns) is in
    bad_column-none stamp columns some (λ k below. kept_before stamp (take k columns) (drop k columns) (ap (keep_rules stamp) (take-append-drop k columns) ∙ kept))

module _ (cat : Catalogue) (name : List ℕ) where
  pub row_type_made : (h : Heading) → cat.format ≡ newest_format → is_row_type h.stamp h.columns ≡ true → get cat.row_types name ≡ None → len cat.row_types < 64
      → outcome (Ok (commands.CreateRowType name h.stamp h.columns)) cat ≡ Ok (ok_line, with_named kinds.RowType name h cat)
  unfolding outcome carried_out create_row_type
  row_type_made h newest good free few =
      on_ok (no_bad_column (bad_column h.stamp h.columns)) tt _ (good-columns h.stamp h.columns (good_row_type h.stamp h.columns good))
      ∙ on_ok (beyond_old_format (has_long_decimal h.columns) cat.format) tt _
      (format-has (has_long_decimal h.columns) cat.format (λ old. absurd (let no : newest_format ≡ 1 = sym newest ∙ old in cc)))
      ∙ on_ok (a_new_name kinds.RowType name cat) tt _ (new_name kinds.RowType name cat free few)

  pub pattern_made : (p : Plan) → read_plan (printed_plan p) ≡ Ok p → get cat.patterns name ≡ None → len cat.patterns < 256
      → outcome (Ok (commands.CreatePattern name (printed_plan p))) cat ≡ Ok (ok_line, with_named kinds.Pattern name p cat)
  unfolding outcome carried_out create_pattern
  pattern_made p read free few =
      on_ok (read_plan (printed_plan p)) p _ read ∙ on_ok (a_new_name kinds.Pattern name cat) tt _ (new_name kinds.Pattern name cat free few)

  -- the pattern of a calendar that stands
  with_its_plan : (text : CalendarText) (plan : CalendarPlan) → calendar_of cat text ≡ Some plan → (p : Plan) × (pattern_of cat text.part ≡ Some p) × (with_plan text p ≡ plan)
  with_its_plan text plan stands =
      elim (pattern_of cat text.part) as (λ (o : Option Plan). option_map (with_plan text) o ≡ Some plan → (p : Plan) × (o ≡ Some p) × (with_plan text p ≡ plan)) [
        | None ↦ λ is. absurd (let no : ⊥ = cc in no)
        | Some p ↦ λ is. (p, refl, cc)
      ] stands

  pub calendar_made : (text : CalendarText) (plan : CalendarPlan) → read_calendar (printed_calendar text) ≡ Ok text → calendar_of cat text ≡ Some plan → IsValid plan
      → get cat.calendars name ≡ None → len cat.calendars < 256
      → outcome (Ok (commands.CreateCalendar name (printed_calendar text))) cat ≡ Ok (ok_line, with_named kinds.Calendar name text cat)
  unfolding outcome carried_out create_calendar
  calendar_made text plan read stands valid free few =
      let p = with_its_plan text plan stands in
      on_ok (read_calendar (printed_calendar text)) text _ read
      ∙ on_ok (given text.part cat) p.0 _ (ap known p.1)
      ∙ on_ok (a_new_name kinds.Calendar name cat) tt _ (new_name kinds.Calendar name cat free few)
      ∙ on_ok (valid_calendar (with_plan text p.0)) plan _ (ap valid_calendar p.2 ∙ valid)

  pub container_made : (row_type : List ℕ) (h : Heading) (quota : ℕ) → get cat.row_types row_type ≡ Some h → quotas cat + quota ≤ cat.pages → get cat.containers name ≡ None → len cat.containers < 64
      → outcome (Ok (commands.TSContainerCreate name row_type (pos quota))) cat ≡ Ok (ok_line, with_named kinds.Container name (record { row_type = row_type; quota = quota }) cat)
  unfolding outcome carried_out create_container within_pages
  container_made row_type h quota there fit free few =
      on_ok (wanted row_type cat.row_types) h _ (wanted-there row_type cat.row_types h there)
      ∙ on_ok (a_new_name kinds.Container name cat) tt _ (new_name kinds.Container name cat free few)
      ∙ on_ok (within_pages (quotas cat + quota) cat.pages) tt _ (passed (nat_lt cat.pages (quotas cat + quota)) _ (le-ltb cat.pages (quotas cat + quota) fit))

  pub irregular_made : (container : List ℕ) (c : Container) → get cat.containers container ≡ Some c → get cat.series name ≡ None → len cat.series < 4096
      → outcome (Ok (commands.TSCreateIrr name container)) cat ≡ Ok (ok_line, with_named kinds.Series name (record { container = container; kind = Irregular; elements = empty }) cat)
  unfolding outcome carried_out create_irregular
  irregular_made container c there free few =
      on_ok (wanted container cat.containers) c _ (wanted-there container cat.containers c there)
      ∙ on_ok (a_new_name kinds.Series name cat) tt _ (new_name kinds.Series name cat free few)

  -- a calendar by its name
  pub calendar_there : (calendar : List ℕ) (plan : CalendarPlan) → calendar_named cat calendar ≡ Some plan → a_calendar calendar cat ≡ Ok plan
  unfolding a_calendar wanted ◌>>=◌
  calendar_there calendar plan is =
      elim (get cat.calendars calendar) as (λ (o : Option CalendarText). option_and_then (calendar_of cat) o ≡ Some plan → (known o >>= λ text. known (calendar_of cat text)) ≡ Ok plan) [
        | None ↦ λ no. absurd (let never : ⊥ = cc in never)
        | Some text ↦ λ yes. ap known yes
      ] is

  -- an origin that is an on start stays
  pub origin_stays : (plan : CalendarPlan) (origin : ℤ) → held_start plan origin ≡ Some origin → grid_of plan origin ≡ Ok (record { calendar = plan; origin = origin })
  origin_stays plan origin held =
      ap (λ (o : Option ℤ). ok_or (option_map (λ (x : ℤ). let g : GridPlan = record { calendar = plan; origin = x } in g) (start_or_next plan origin o)) refusals.PastEnd) held

  pub regular_made : (calendar container : List ℕ) (origin : ℤ) (plan : CalendarPlan) (c : Container) → calendar_named cat calendar ≡ Some plan → held_start plan origin ≡ Some origin
      → get cat.containers container ≡ Some c → get cat.series name ≡ None → len cat.series < 4096
      → outcome (Ok (commands.TSCreate name calendar origin container)) cat
      ≡ Ok (stamp_line origin, with_named kinds.Series name (record { container = container; kind = Regular calendar origin; elements = empty }) cat)
  unfolding outcome carried_out create_regular
  regular_made calendar container origin plan c stands held there free few =
      on_ok (a_calendar calendar cat) plan _ (calendar_there calendar plan stands)
      ∙ on_ok (wanted container cat.containers) c _ (wanted-there container cat.containers c there)
      ∙ on_ok (a_new_name kinds.Series name cat) tt _ (new_name kinds.Series name cat free few)
      ∙ on_ok (grid_of plan origin) (record { calendar = plan; origin = origin }) _ (origin_stays plan origin held)
