-- Each command leaves a catalogue.
use Rattle.std.proofs.Common.{◌≡◌, ℕ, ℤ, pos, negsuc, ◌+◌, ◌-◌, ◌<◌, ◌≤◌, ◌==◌, nat_lt, nat_le, ◌+ℤ◌, ◌≤ℤ◌, ◌<ℤ◌, Bool, true, false, cond, not, ◌&&◌, Option, Some, None, is_some, option_map, option_and_then, Ok, Err, List, [], ◌∷◌, length, map, refl, sym, ap, subst, ◌∙◌, arith, IsTrue, unsigned_abs}
use Rattle.std.specs.Prelude.{Result, int_lt}
use Rattle.std.specs.Option.{IsSome}
use Rattle.std.specs.List.{AllByRecursion, list_all}
use Rattle.std.specs.Cmp.{int_cmp_total}
use Rattle.std.specs.Ordering.{eq_by_cmp, int_cmp}
use Rattle.std.specs.FinMap.{entries, from_entries, get, get-entries, get-remove, get-from_entries, int_cmp-IsAntisymmetric, len, empty, remove}
use Rattle.std.specs.FinMap.Entries.{find-where_key}
use Rattle.std.proofs.lemmas.Int.{ints}
use Rattle.std.proofs.lemmas.Bool.Decides.{nat_tests}
use Rattle.jiff_core.proofs.SignedLemmas.{signed_arith, int_div_euclid-parts}
use Rattle.ts_base.specs.Moment.{IsStamp}
use Rattle.ts_base.specs.Name.{is_name, is_key}
use Rattle.ts_base.specs.declared.refusal.Refusal.{Refusal}
use Rattle.ts_base.specs.declared.refusal.Refusal.TheVariants as refusals
use Rattle.ts_row.specs.declared.kind.Column.{Column}
use Rattle.ts_row.specs.declared.value.Literal.{Literal}
use Rattle.ts_row.specs.Row.{Row, Values, values_from, visible_if_any, row_of, fits, marked, bad_column, has_long_decimal, Element}
use Rattle.ts_row.proofs.RowLemmas.{given_fits}
use Rattle.ts_row.proofs.RowTypeLemmas.{is_row_type-good}
use Rattle.ts_pattern.specs.declared.junction.Junction.{Junction}
use Rattle.ts_pattern.specs.declared.junction.Junction.TheVariants.{And, Or}
use Rattle.ts_pattern.specs.Patterns.{Plan, has_on, is_pattern, turned}
use Rattle.ts_calendar.specs.Calendars.{CalendarPlan, is_late, is_apart, valid_calendar, IsValid, IsLaid, calendar_text}
use Rattle.ts_calendar.specs.declared.text.PatternPart.{PatternPart}
use Rattle.ts_calendar.specs.declared.text.PatternPart.TheVariants.{Named as ByName, Own}
use Rattle.ts_calendar.specs.declared.text.CalendarText.{CalendarText}
use Rattle.ts_calendar.proofs.StampLemmas.{int_lt-false, int_lt-true}
use Rattle.ts_calendar.proofs.ValidLemmas.{joined-valid}
use Rattle.ts_offset.specs.Grid.{GridPlan, held_start, IsOnStart}
use Rattle.ts_offset.specs.declared.shape.Shape.{Shape}
use Rattle.ts_offset.specs.declared.shape.Shape.TheVariants as shapes
use Rattle.ts_offset.proofs.OwnLemmas.{from-held}
use Rattle.ts_irregular.specs.Edit.{element_at, last_of}
use Rattle.ts_sheets.specs.Stamped.{earlier, last_before, next_second, unit_after, place_for, placed, without_range}
use Rattle.ts_command.specs.Form.{IsColumn, HasForm}
use Rattle.ts_command.specs.declared.command.Command.{Command}
use Rattle.ts_command.specs.declared.command.Command.TheVariants as commands
use Rattle.ts_model.specs.declared.kind.Kind.{Kind}
use Rattle.ts_model.specs.declared.kind.Kind.TheVariants as kinds
use Rattle.ts_model.specs.Catalogue.{Named, Elements, SeriesKind, Irregular, Regular, Series, Catalogue, old_format, pattern_of, with_plan, calendar_of, calendar_named, shape_of, columns_of, quotas, named, with_named, without, is_used}
use Rattle.ts_model.specs.Definitions.{limit}
use Rattle.ts_answer.specs.Answer.{Answered, Tried, ◌>>=◌, settled, outcome, answer, carried_out, known, wanted, refused_if, unused, within_limit, a_new_name, no_bad_column, beyond_old_format, row_or_mismatch, a_row, row_at, a_place, addressed, on_grid, an_address, reached, within_quota, within_pages, given, a_calendar, with_elements, without_one, create_row_type, drop_definition, create_pattern, turn_pattern, join_patterns, show_pattern, create_calendar, join_calendars, show_calendar, count_starts, find_start, list_starts, create_container, container_usage, create_irregular, create_regular, drop_series, list_series, put_element, put_no_dups, insert_element, update_element, delete_element, delete_range, mark_element, get_element, get_last_element, count_elements, get_first_element, get_nth_element, clip_series, count_clip, clip_counted, join_series, lag_series, aggregate_by, aggregate_range, aggregate_all, running_values, apply_exprs}
use Rattle.ts_answer.specs.Reply.{present}
use Rattle.ts_answer.specs.Elements.{roll_create, roll_put, roll_clip, roll_drop, without_windows, with_window}
use Rattle.ts_rolling.specs.Sets.{is_set, window_key, control_key, live}
use Rattle.ts_answer_laws.specs.ReadingLaws.{CanStand}
use Rattle.ts_offset.specs.Shape.{IsLaidOut}
use Rattle.ts_answer_laws.specs.SeriesLaws.{OriginsAreOnStarts}
use Rattle.ts_catalogue_laws.specs.Catalogue.{IsCatalogue}
use Rattle.ts_catalogue_laws.specs.Commands.{NamesStamps}
use Rattle.ts_catalogue_laws.proofs.ListLemmas.{one_of, mapped, entry_found, among_filtered, among_place}
use Rattle.ts_catalogue_laws.proofs.StampLemmas.{valid_laid, start_stamp}
use Rattle.ts_catalogue_laws.proofs.SetLemmas.{window_few, window_is_key, control_is_key}
use Rattle.ts_catalogue_laws.proofs.PatternLemmas.{pattern_read, pattern_turned, pattern_joined, IsText, text_read, calendar_joined}
use Rattle.ts_catalogue_laws.proofs.DefineLemmas.{row_type_made, pattern_made, calendar_made, container_made, dropped}
use Rattle.ts_catalogue_laws.proofs.EditLemmas.{element_put, row_put, elements_gone, elements_same, series_made}

-- what passed a test
pub came : {A B : Type 0} (m : Tried A) (f : A → Tried B) (b : B) → (m >>= f) ≡ Ok b → (a : A) × (m ≡ Ok a) × (f a ≡ Ok b)
unfolding ◌>>=◌
came (Ok a) f b is = (a, refl, is)
came (Err refusal) f b is = absurd (let never : ⊥ = cc in never)

pub known_is : {X : Type 0} (o : Option X) (x : X) → known o ≡ Ok x → o ≡ Some x
known_is (Some y) x is = let same : y ≡ x = cc in ap Some same
known_is None x is = absurd (let never : ⊥ = cc in never)

pub wanted_is : {X : Type 0} (name : List ℕ) (named : Named X) (x : X) → wanted name named ≡ Ok x → get named name ≡ Some x
unfolding wanted
wanted_is name named x is = known_is (get named name) x is

pub not_so : (test : Bool) (refusal : Refusal) (done : Unit {0}) → refused_if test refusal ≡ Ok done → test ≡ false
unfolding refused_if
not_so true refusal done is = absurd (let never : ⊥ = cc in never)
not_so false refusal done is = refl

pub none_there : {X : Type 0} (o : Option X) → is_some o ≡ false → o ≡ None
none_there None is = refl
none_there (Some x) is = absurd (let never : ⊥ = cc in never)

some_there : {X : Type 0} (o : Option X) (x : X) → o ≡ Some x → IsSome o
some_there o x is = ap is_some is

-- a new name, and room for it
record IsNew (kind : Kind) (name : List ℕ) (cat : Catalogue) : Type 0 where
  free : get (named kind cat) name ≡ None
  room : len (named kind cat) < limit kind

not_full : (most n : ℕ) → nat_le most n ≡ false → n < most
not_full most n is = grind (arith, nat_tests)

is_new : (kind : Kind) (name : List ℕ) (cat : Catalogue) (done : Unit {0}) → a_new_name kind name cat ≡ Ok done → IsNew kind name cat
unfolding a_new_name unused within_limit
is_new kind name cat done is =
    let free = came (unused name (named kind cat)) _ done is in
    record {
      free = none_there (get (named kind cat) name) (not_so (is_some (get (named kind cat) name)) refusals.NameTaken free.0 free.1);
      room = not_full (limit kind) (len (named kind cat)) (not_so (nat_le (limit kind) (len (named kind cat))) refusals.TooMany done free.2);
    }

good_columns : (o : Option ℕ) (done : Unit {0}) → no_bad_column o ≡ Ok done → o ≡ None
good_columns None done is = refl
good_columns (Some n) done is = absurd (let never : ⊥ = cc in never)

short_columns : (long : Bool) (format : ℕ) → (long && format == old_format) ≡ false → format ≡ old_format → long ≡ false
short_columns true format is old = absurd (let test : (format == old_format) ≡ true = grind (arith, nat_tests) in let never : ⊥ = cc in never)
short_columns false format is old = refl

of_format : (long : Bool) (format : ℕ) (done : Unit {0}) → beyond_old_format long format ≡ Ok done → format ≡ old_format → long ≡ false
unfolding beyond_old_format
of_format long format done is = short_columns long format (not_so (long && format == old_format) refusals.OldFormat done is)

all_words : (columns : List Column) → AllByRecursion IsColumn columns → list_all (λ (c : Column). is_name c.name) columns ≡ true
all_words [] all = refl
all_words (c ∷ columns) all = ap (λ (b : Bool). b && list_all (λ (d : Column). is_name d.name) columns) all.0 ∙ all_words columns all.1

-- a row that literals give fits, and is seen
row_seen : (r : Result Values ℕ) (row : Row) → visible_if_any r ≡ Ok row → row.hidden ≡ false
row_seen (Ok values) row is = ap hidden_in (sym is) where
  hidden_in : Result Row ℕ → Bool
  hidden_in (Ok row) = row.hidden
  hidden_in (Err n) = false
row_seen (Err n) row is = absurd (let never : ⊥ = cc in never)

matched : (r : Result Row ℕ) (row : Row) → row_or_mismatch r ≡ Ok row → r ≡ Ok row
matched (Ok other) row is = let same : other ≡ row = cc in ap Ok same
matched (Err n) row is = absurd (let never : ⊥ = cc in never)

pub row_is : (columns : List Column) (literals : List Literal) (row : Row) → a_row columns literals ≡ Ok row → row_of columns literals ≡ Ok row
unfolding a_row
row_is columns literals row is = matched (row_of columns literals) row is

row_fits : (columns : List Column) (literals : List Literal) (row : Row) → a_row columns literals ≡ Ok row → IsTrue (fits columns row) × (row.hidden ≡ false)
row_fits columns literals row is =
    let given = row_is columns literals row is in
    (given_fits columns literals row given, row_seen (values_from 1 columns literals) row given)

present_is : (o : Option Row) (row : Row) → present o ≡ Ok row → o ≡ Some row
present_is (Some other) row is = let same : other ≡ row = cc in ap Some same
present_is None row is = absurd (let never : ⊥ = cc in never)

pub row_there : (at : ℤ) (elements : Elements) (row : Row) → row_at at elements ≡ Ok row → get elements at ≡ Some row
unfolding row_at
row_there at elements row is = present_is (get elements at) row is

within : (charge quota : ℕ) (done : Unit {0}) → within_quota charge quota ≡ Ok done → charge ≤ quota
unfolding within_quota
within charge quota done is = let test : nat_lt quota charge ≡ false = not_so (nat_lt quota charge) (refusals.ContainerFull charge quota) done is in grind (arith, nat_tests)

within_all : (sum pages : ℕ) (done : Unit {0}) → within_pages sum pages ≡ Ok done → sum ≤ pages
unfolding within_pages
within_all sum pages done is = let test : nat_lt pages sum ≡ false = not_so (nat_lt pages sum) (refusals.VolumeFull sum pages) done is in grind (arith, nat_tests)

-- what passes the rules is the calendar itself
passed_is : (late apart on : Bool) (c v : CalendarPlan)
    → cond late (Err (refusals.BadCalendar 0)) (cond apart (Err (refusals.BadCalendar 0)) (cond on (Ok c) (Err refusals.AllOff))) ≡ Ok v → v ≡ c
passed_is true apart on c v is = absurd (let never : ⊥ = cc in never)
passed_is false true on c v is = absurd (let never : ⊥ = cc in never)
passed_is false false true c v is = cc
passed_is false false false c v is = absurd (let never : ⊥ = cc in never)

valid_is : (c v : CalendarPlan) → valid_calendar c ≡ Ok v → IsValid c
valid_is c v is = is ∙ ap Ok (passed_is (is_late c.pattern.unit c.patt_start) (is_apart c) (has_on c.pattern.runs) c v is)

-- where an element is put
second_end : (stamp : ℤ) → IsStamp stamp → next_second stamp ≤ℤ pos 25_340_230_080_000_000
second_end stamp is = let low = is.0 in let high = is.1 in let some : 0 < 100_000 = omega arith in omega (arith, signed_arith, int_div_euclid-parts stamp 100_000 some)

behind_stamp : (end last place : ℤ) → IsStamp last → end ≤ℤ pos 25_340_230_080_000_000 → unit_after end last ≡ Some place → IsStamp place
behind_stamp end last place stamp most is = by (int_lt (last +ℤ pos 1) end) refl is where
  by : (b : Bool) → int_lt (last +ℤ pos 1) end ≡ b → cond b (Some (last +ℤ pos 1)) None ≡ Some place → IsStamp place
  by true less is =
      let same : last +ℤ pos 1 ≡ place = cc in
      let before : (last +ℤ pos 1) <ℤ end = int_lt-true (last +ℤ pos 1) end less in
      let low = stamp.0 in
      subst IsStamp same (omega (arith, ints), omega (arith, ints))
  by false less is = absurd (let never : ⊥ = cc in never)

place_stamp : (stamp place : ℤ) (elements : Elements) → IsStamp stamp → ((at : ℤ) (row : Row) → get elements at ≡ Some row → IsStamp at) → place_for stamp (entries elements) ≡ Some place → IsStamp place
place_stamp stamp place elements is stamps given = by (is_some (element_at stamp (entries elements))) given where
  by_last : (o : Option Element) → last_of (earlier (next_second stamp) (entries elements)) ≡ o → option_and_then (unit_after (next_second stamp)) (option_map (λ (e : Element). e.0) o) ≡ Some place → IsStamp place
  by_last None at given = absurd (let never : ⊥ = cc in never)
  by_last (Some e) at given =
      let among = among_filtered (λ (f : Element). int_lt f.0 (next_second stamp)) (entries elements) e (among_place (earlier (next_second stamp) (entries elements)) (length (earlier (next_second stamp) (entries elements)) - 1) e at) in
      behind_stamp (next_second stamp) e.0 place (stamps e.0 e.1 (entry_found int_cmp_total elements e among)) (second_end stamp is) given

  by : (b : Bool) → cond b (option_and_then (unit_after (next_second stamp)) (last_before (next_second stamp) (entries elements))) (Some stamp) ≡ Some place → IsStamp place
  by true given = by_last (last_of (earlier (next_second stamp) (entries elements))) refl given
  by false given = let same : stamp ≡ place = cc in subst IsStamp same is

pub placed_at : (o : Option ℤ) (place : ℤ) → placed o ≡ Ok place → o ≡ Some place
placed_at (Some stamp) place is = let same : stamp ≡ place = cc in ap Some same
placed_at None place is = absurd (let never : ⊥ = cc in never)

-- where an addressed element stands
grid_stands : (grid : GridPlan) (stamp at : ℤ) → IsLaid grid.calendar → on_grid grid (held_start grid.calendar stamp) ≡ Ok at → IsStamp at × CanStand (shapes.Regular grid) at
grid_stands grid stamp at laid is = by (held_start grid.calendar stamp) refl is where
  by_test : (start : ℤ) (b : Bool) → held_start grid.calendar stamp ≡ Some start → int_lt start grid.origin ≡ b → cond b (Err refusals.BeforeOrigin) (Ok start) ≡ Ok at → IsStamp at × CanStand (shapes.Regular grid) at
  by_test start true held test is = absurd (let never : ⊥ = cc in never)
  by_test start false held test is =
      let same : start ≡ at = cc in
      let from = from-held grid.calendar stamp start held in
      let on : IsOnStart grid.calendar start = record { interval = from.interval; on = from.on; start = from.start } in
      subst (λ (z : ℤ). IsStamp z × CanStand (shapes.Regular grid) z) same (start_stamp grid.calendar start laid on, (on, int_lt-false start grid.origin test))

  by : (o : Option ℤ) → held_start grid.calendar stamp ≡ o → on_grid grid o ≡ Ok at → IsStamp at × CanStand (shapes.Regular grid) at
  by None held is = absurd (let never : ⊥ = cc in never)
  by (Some start) held is = by_test start (int_lt start grid.origin) held refl is

address_stands : (shape : Shape) (stamp at : ℤ) → IsLaidOut shape → IsStamp stamp → addressed shape stamp ≡ Ok at → IsStamp at × CanStand shape at
address_stands shapes.Irregular stamp at laid is given = let same : stamp ≡ at = cc in (subst IsStamp same is, tt)
address_stands (shapes.Regular grid) stamp at laid is given = grid_stands grid stamp at laid given

-- what is tried leaves a catalogue
Tries : Tried Answered → Type 0
Tries (Ok answered) = IsCatalogue answered.1
Tries (Err refusal) = Unit {0}

tries : {A : Type 0} (m : Tried A) (f : A → Tried Answered) → ((a : A) → m ≡ Ok a → Tries (f a)) → Tries (m >>= f)
unfolding ◌>>=◌ Tries
tries (Ok a) f each = each a refl
tries (Err refusal) f each = tt

module _ (cat : Catalogue) (good : IsCatalogue cat) where
  -- the calendar of a name
  pub record IsPlan (plan : CalendarPlan) : Type 0 where
    pub start : IsStamp plan.start
    pub runs : IsTrue (is_pattern plan.pattern.runs)
    pub valid : IsValid plan
    pub laid : IsLaid plan

  plan_in : (name : List ℕ) (text : CalendarText) (plan : CalendarPlan) → get cat.calendars name ≡ Some text → calendar_of cat text ≡ Some plan → IsPlan plan
  plan_in name text plan listed stands =
      let c = good.calendars name text listed in
      let same : c.plan ≡ plan = one_of (calendar_of cat text) c.plan plan c.stands stands in
      subst IsPlan same (record { start = c.start; runs = c.runs; valid = c.valid; laid = valid_laid c.plan c.patt_start c.valid })

  named_in : (name : List ℕ) (plan : CalendarPlan) → a_calendar name cat ≡ Ok plan → (text : CalendarText) × (get cat.calendars name ≡ Some text) × (calendar_of cat text ≡ Some plan)
  unfolding a_calendar
  named_in name plan is =
      let text = came (wanted name cat.calendars) _ plan is in
      (text.0, wanted_is name cat.calendars text.0 text.1, known_is (calendar_of cat text.0) plan text.2)

  pub plan_named : (name : List ℕ) (plan : CalendarPlan) → a_calendar name cat ≡ Ok plan → IsPlan plan
  plan_named name plan is = let text = named_in name plan is in plan_in name text.0 plan text.1 text.2

  chained : {A B : Type 0} (f : A → Option B) (o : Option A) (b : B) → option_and_then f o ≡ Some b → (a : A) × (o ≡ Some a) × (f a ≡ Some b)
  chained f None b is = absurd (let never : ⊥ = cc in never)
  chained f (Some a) b is = (a, refl, is)

  kind_laid : (kind : SeriesKind) (shape : Shape) → shape_of cat kind ≡ Some shape → IsLaidOut shape
  kind_laid Irregular shape lies = let same : shapes.Irregular ≡ shape = cc in subst IsLaidOut same tt
  kind_laid (Regular calendar origin) shape lies =
      let p = mapped (λ (plan : CalendarPlan). shapes.Regular (record { calendar = plan; origin = origin })) (calendar_named cat calendar) shape lies in
      let text = chained (calendar_of cat) (get cat.calendars calendar) p.0 p.1 in
      subst IsLaidOut p.2 (plan_in calendar text.0 p.0 text.1 text.2).laid

  -- the series of a key
  module _ (key : List ℕ) (s : Series) (listed : get cat.series key ≡ Some s) where
    pub shape_laid : IsLaidOut (good.series key s listed).shape
    shape_laid = let x = good.series key s listed in kind_laid s.kind x.shape x.shape_there

    pub stands_at : (stamp at : ℤ) → IsStamp stamp → an_address s stamp cat ≡ Ok at → IsStamp at × CanStand (good.series key s listed).shape at
    unfolding an_address
    stands_at stamp at is given =
        let x = good.series key s listed in
        let shape = came (known (shape_of cat s.kind)) _ at given in
        let same : shape.0 ≡ x.shape = one_of (shape_of cat s.kind) shape.0 x.shape (known_is (shape_of cat s.kind) shape.0 shape.1) x.shape_there in
        address_stands x.shape stamp at shape_laid is (ap (λ (y : Shape). addressed y stamp) (sym same) ∙ shape.2)

    place_of : (kind : SeriesKind) (shape : Shape) (at place : ℤ) → shape_of cat kind ≡ Some shape → IsStamp at × CanStand shape at → a_place kind at s.elements ≡ Ok place → IsStamp place × CanStand shape place
    unfolding a_place
    place_of Irregular shape at place lies stands given =
        let same : shapes.Irregular ≡ shape = cc in
        (place_stamp at place s.elements stands.0 (good.series key s listed).stamps (placed_at (place_for at (entries s.elements)) place given), subst (λ (y : Shape). CanStand y place) same tt)
    place_of (Regular calendar origin) shape at place lies stands given =
        let same : at ≡ place = cc in subst (λ (z : ℤ). IsStamp z × CanStand shape z) same stands

    pub place_stands : (stamp at place : ℤ) → IsStamp stamp → an_address s stamp cat ≡ Ok at → a_place s.kind at s.elements ≡ Ok place → IsStamp place × CanStand (good.series key s listed).shape place
    place_stands stamp at place is address given =
        let x = good.series key s listed in
        place_of s.kind x.shape at place x.shape_there (stands_at stamp at is address) given

    without_at : (o : Option ℤ) → IsCatalogue (with_elements key s (without_one o s.elements) cat)
    without_at None = elements_same cat good key s listed
    without_at (Some at) = elements_gone cat good key s listed (λ q. not (eq_by_cmp int_cmp q at)) (remove s.elements at) (λ q. get-remove int_cmp_total s.elements at q ∙ turned_cond (eq_by_cmp int_cmp q at) (get s.elements q)) where
      turned_cond : (b : Bool) (o : Option Row) → cond b None o ≡ cond (not b) o None
      turned_cond true o = refl
      turned_cond false o = refl

    out_of_range : (from to : ℤ) → IsCatalogue (with_elements key s (from_entries (without_range from to (entries s.elements))) cat)
    out_of_range from to =
        let p : ℤ → Bool = λ q. not (not (int_lt q from) && not (int_lt to q)) in
        elements_gone cat good key s listed p (from_entries (without_range from to (entries s.elements))) (λ q.
        get-from_entries int_cmp_total (without_range from to (entries s.elements)) q
        ∙ find-where_key int_cmp p q (λ x tie. ap p (sym (int_cmp-IsAntisymmetric q x tie))) (entries s.elements)
        ∙ ap (λ (o : Option Row). cond (p q) o None) (sym (get-entries s.elements q)))

  -- row types
  row_types_kept : (name stamp : List ℕ) (columns : List Column) → HasForm (commands.CreateRowType name stamp columns) → Tries (create_row_type name stamp columns cat)
  unfolding Tries create_row_type
  row_types_kept name stamp columns form =
      tries _ _ (λ good_ a. tries _ _ (λ has b. tries _ _ (λ done c.
      let new = is_new kinds.RowType name cat done c in
      row_type_made cat good name (record { stamp = stamp; columns = columns }) new.free
      (record {
        word = form.0;
        stamp_word = form.1;
        column_words = all_words columns form.3;
        rules = is_row_type-good stamp columns (good_columns (bad_column stamp columns) good_ a);
        digits = of_format (has_long_decimal columns) cat.format has b;
      }) new.room)))

  definitions_go : (kind : Kind) (name : List ℕ) → Tries (drop_definition kind name cat)
  unfolding Tries drop_definition
  definitions_go kind name = tries _ _ (λ there a. tries _ _ (λ done b. dropped cat good name kind (not_so (is_used kind name cat) refusals.InUse done b)))

  -- patterns
  pattern_comes : (name : List ℕ) (p : Plan) (done : Unit {0}) → IsTrue (is_name name) → IsTrue (is_pattern p.runs) → a_new_name kinds.Pattern name cat ≡ Ok done → IsCatalogue (with_named kinds.Pattern name p cat)
  pattern_comes name p done word runs is = let new = is_new kinds.Pattern name cat done is in pattern_made cat good name p new.free (record { word = word; runs = runs }) new.room

  patterns_kept : (name text : List ℕ) → IsTrue (is_name name) → Tries (create_pattern name text cat)
  unfolding Tries create_pattern
  patterns_kept name text word = tries _ _ (λ p a. tries _ _ (λ done b. pattern_comes name p done word (pattern_read text p a) b))

  turned_kept : (name pattern : List ℕ) → IsTrue (is_name name) → Tries (turn_pattern name pattern cat)
  unfolding Tries turn_pattern
  turned_kept name pattern word =
      tries _ _ (λ old a. tries _ _ (λ done b.
      pattern_comes name (record { unit = old.unit; runs = map turned old.runs }) done word (pattern_turned old.runs (good.patterns pattern old (wanted_is pattern cat.patterns old a)).runs) b))

  joined_kept : (junction : Junction) (name one other : List ℕ) → IsTrue (is_name name) → Tries (join_patterns junction name one other cat)
  unfolding Tries join_patterns
  joined_kept junction name one other word =
      tries _ _ (λ a x. tries _ _ (λ b y. tries _ _ (λ done new. tries _ _ (λ p is. pattern_comes name p done word (pattern_joined junction a b p (pos 0) (pos 0) is) new))))

  -- calendars
  calendar_comes : (name : List ℕ) (text : CalendarText) (plan : CalendarPlan) (done : Unit {0}) → IsTrue (is_name name) → calendar_of cat text ≡ Some plan → IsStamp plan.start → IsStamp plan.patt_start
      → IsTrue (is_pattern plan.pattern.runs) → IsValid plan → a_new_name kinds.Calendar name cat ≡ Ok done → IsCatalogue (with_named kinds.Calendar name text cat)
  calendar_comes name text plan done word stands start patt_start runs valid is =
      let new = is_new kinds.Calendar name cat done is in
      calendar_made cat good name text new.free (record { word = word; plan = plan; stands = stands; start = start; patt_start = patt_start; runs = runs; valid = valid }) new.room

  part_runs : (text : CalendarText) (part : PatternPart) (p : Plan) → IsText text → text.part ≡ part → pattern_of cat part ≡ Some p → IsTrue (is_pattern p.runs)
  part_runs text (ByName n) p is_text is there = (good.patterns n p there).runs
  part_runs text (Own q) p is_text is there = let same : q ≡ p = cc in subst (λ (x : Plan). IsTrue (is_pattern x.runs)) same (is_text.own q is)

  calendars_kept : (name text : List ℕ) → IsTrue (is_name name) → Tries (create_calendar name text cat)
  unfolding Tries create_calendar
  calendars_kept name text word =
      tries _ _ (λ read a. tries _ _ (λ p b. tries _ _ (λ done new. tries _ _ (λ valid c.
      let says = text_read text read a in
      let there = known_is (pattern_of cat read.part) p b in
      calendar_comes name read (with_plan read p) done word (ap (option_map (with_plan read)) there) says.start says.patt_start (part_runs read read.part p says refl there) (valid_is (with_plan read p) valid c) new))))

  joins_kept : (junction : Junction) (name one other : List ℕ) → IsTrue (is_name name) → Tries (join_calendars junction name one other cat)
  unfolding Tries join_calendars
  joins_kept junction name one other word =
      tries _ _ (λ a x. tries _ _ (λ b y. tries _ _ (λ done new. tries _ _ (λ joined is.
      let first = plan_named one a x in
      let second = plan_named other b y in
      let made = calendar_joined junction a b joined first.laid first.start second.start is in
      calendar_comes name (calendar_text joined.start joined.patt_start (Own joined.pattern)) joined done word refl made.start made.patt_start made.runs
      (joined-valid junction a b joined first.laid.stamp first.laid.early is) new))))

  -- containers
  some_pages : (quota : ℤ) → pos 1 ≤ℤ quota → 1 ≤ unsigned_abs quota
  some_pages (pos n) some = omega (arith, ints)
  some_pages (negsuc n) some = absurd (omega (arith, ints))

  containers_kept : (name row_type : List ℕ) (quota : ℤ) → HasForm (commands.TSContainerCreate name row_type quota) → Tries (create_container name row_type (unsigned_abs quota) cat)
  unfolding Tries create_container
  containers_kept name row_type quota form =
      tries _ _ (λ h a. tries _ _ (λ done b. tries _ _ (λ fits c.
      let new = is_new kinds.Container name cat done b in
      container_made cat good name (record { row_type = row_type; quota = unsigned_abs quota }) new.free form.0
      (some_there (get cat.row_types row_type) h (wanted_is row_type cat.row_types h a)) (some_pages quota form.2)
      (within_all (quotas cat + unsigned_abs quota) cat.pages fits c) new.room)))

  -- series
  irregular_kept : (key container : List ℕ) → IsTrue (is_key key) → Tries (create_irregular key container cat)
  unfolding Tries create_irregular
  irregular_kept key container text =
      tries _ _ (λ c a. tries _ _ (λ done b.
      let new = is_new kinds.Series key cat done b in
      series_made cat good key (record { container = container; kind = Irregular; elements = empty }) new.free text
      (some_there (get cat.containers container) c (wanted_is container cat.containers c a)) shapes.Irregular refl tt refl new.room))

  module _ (origins : OriginsAreOnStarts) where
    regular_comes : (key calendar container : List ℕ) (stamp : ℤ) (answered : Answered) → IsTrue (is_key key) → IsStamp stamp → create_regular key calendar stamp container cat ≡ Ok answered → IsCatalogue answered.1
    unfolding create_regular outcome carried_out
    regular_comes key calendar container stamp answered text is answers =
        let plan = came (a_calendar calendar cat) _ answered answers in
        let c = came (wanted container cat.containers) _ answered plan.2 in
        let done = came (a_new_name kinds.Series key cat) _ answered c.2 in
        let new = is_new kinds.Series key cat done.0 done.1 in
        let named = named_in calendar plan.0 plan.1 in
        let made = origins cat answered key calendar container stamp plan.0 plan.1 (plan_named calendar plan.0 plan.1).laid is answers in
        let lies : shape_of cat (Regular calendar made.origin) ≡ Some (shapes.Regular (record { calendar = plan.0; origin = made.origin })) =
        ap (λ (o : Option CalendarText). option_map (λ (p : CalendarPlan). shapes.Regular (record { calendar = p; origin = made.origin })) (option_and_then (calendar_of cat) o)) named.1
        ∙ ap (option_map (λ (p : CalendarPlan). shapes.Regular (record { calendar = p; origin = made.origin }))) named.2 in
        subst IsCatalogue (sym made.comes)
        (series_made cat good key (record { container = container; kind = Regular calendar made.origin; elements = empty }) new.free text
        (some_there (get cat.containers container) c.0 (wanted_is container cat.containers c.0 c.1))
        (shapes.Regular (record { calendar = plan.0; origin = made.origin })) lies made.moved.on refl new.room)

    regular_kept : (key calendar container : List ℕ) (stamp : ℤ) → IsTrue (is_key key) → IsStamp stamp → Tries (create_regular key calendar stamp container cat)
    unfolding Tries
    regular_kept key calendar container stamp text is = by (create_regular key calendar stamp container cat) refl where
      by : (r : Tried Answered) → create_regular key calendar stamp container cat ≡ r → Tries r
      by (Ok answered) at = regular_comes key calendar container stamp answered text is at
      by (Err refusal) at = tt

  -- elements
  put_kept : (key : List ℕ) (stamp : ℤ) (literals : List Literal) → IsStamp stamp → Tries (put_element key stamp literals cat)
  unfolding Tries put_element
  put_kept key stamp literals is =
      tries _ _ (λ s a. tries _ _ (λ row b. tries _ _ (λ at c. tries _ _ (λ place d. tries _ _ (λ done e.
      let listed = wanted_is key cat.series s a in
      let fit = row_fits (columns_of cat s) literals row b in
      let stands = place_stands key s listed stamp at place is c d in
      element_put cat good key s listed place row stands.0 fit.0 stands.1 (λ old. fit.1) (within _ _ done e))))))

  put_no_dups_kept : (key : List ℕ) (stamp : ℤ) (literals : List Literal) → IsStamp stamp → Tries (put_no_dups key stamp literals cat)
  unfolding Tries put_no_dups
  put_no_dups_kept key stamp literals is =
      tries _ _ (λ s a. tries _ _ (λ row b. tries _ _ (λ at c. tries _ _ (λ done d.
      let listed = wanted_is key cat.series s a in
      let fit = row_fits (columns_of cat s) literals row b in
      let stands = stands_at key s listed stamp at is c in
      element_put cat good key s listed at row stands.0 fit.0 stands.1 (λ old. fit.1) (within _ _ done d)))))

  insert_kept : (key : List ℕ) (stamp : ℤ) (literals : List Literal) → IsStamp stamp → Tries (insert_element key stamp literals cat)
  unfolding Tries insert_element
  insert_kept key stamp literals is =
      tries _ _ (λ s a. tries _ _ (λ row b. tries _ _ (λ at c. tries _ _ (λ free f. tries _ _ (λ done d.
      let listed = wanted_is key cat.series s a in
      let fit = row_fits (columns_of cat s) literals row b in
      let stands = stands_at key s listed stamp at is c in
      element_put cat good key s listed at row stands.0 fit.0 stands.1 (λ old. fit.1) (within _ _ done d))))))

  update_kept : (key : List ℕ) (stamp : ℤ) (literals : List Literal) → Tries (update_element key stamp literals cat)
  unfolding Tries update_element
  update_kept key stamp literals =
      tries _ _ (λ s a. tries _ _ (λ row b. tries _ _ (λ at c. tries _ _ (λ old d.
      let fit = row_fits (columns_of cat s) literals row b in
      row_put cat good key s (wanted_is key cat.series s a) at old row (row_there at s.elements old d) fit.0 (λ is. fit.1)))))

  mark_kept : (hidden : Bool) (key : List ℕ) (stamp : ℤ) → Tries (mark_element hidden key stamp cat)
  unfolding Tries mark_element
  mark_kept hidden key stamp =
      tries _ _ (λ s a. tries _ _ (λ done b. tries _ _ (λ at c. tries _ _ (λ row d.
      let listed = wanted_is key cat.series s a in
      let there = row_there at s.elements row d in
      row_put cat good key s listed at row (marked hidden row) there ((good.series key s listed).rows at row there)
      (λ old. absurd (let never : true ≡ false = of_format true cat.format done b old in let no : ⊥ = cc in no))))))

  delete_kept : (key : List ℕ) (stamp : ℤ) → Tries (delete_element key stamp cat)
  unfolding Tries delete_element
  delete_kept key stamp = tries _ _ (λ s a. without_at key s (wanted_is key cat.series s a) (reached (an_address s stamp cat)))

  range_kept : (key : List ℕ) (from to : ℤ) → Tries (delete_range key from to cat)
  unfolding Tries delete_range
  range_kept key from to = tries _ _ (λ s a. out_of_range key s (wanted_is key cat.series s a) from to)

-- what answered left a catalogue
left : (m : Tried Answered) (answered : Answered) → Tries m → m ≡ Ok answered → IsCatalogue answered.1
unfolding Tries
left (Ok other) answered kept is = let same : other ≡ answered = cc in subst (λ (a : Answered). IsCatalogue a.1) same kept
left (Err refusal) answered kept is = absurd (let never : ⊥ = cc in never)

-- windows go
windows_gone : (set js : List ℕ) (cat : Catalogue) → IsCatalogue cat → IsCatalogue (without_windows set js cat)
windows_gone set [] cat good = good
windows_gone set (j ∷ js) cat good = windows_gone set js (without kinds.Series (window_key set j) cat) (dropped cat good (window_key set j) kinds.Series refl)

-- one comes, if it is to be made
window_comes : (attach : Bool) (key container : List ℕ) (cat made : Catalogue) → IsCatalogue cat → IsTrue (is_key key) → with_window attach key container cat ≡ Ok made → IsCatalogue made
unfolding with_window
window_comes false key container cat made good text is = let same : cat ≡ made = cc in subst IsCatalogue same good
window_comes true key container cat made good text is =
    let answered = came (create_irregular key container cat) (λ (a : Answered). Ok a.1) made is in
    let same : answered.0.1 ≡ made = given_back answered.0.1 made answered.2 in
    subst IsCatalogue same (left (create_irregular key container cat) answered.0 (irregular_kept cat good key container text) answered.1) where
      given_back : (a b : Catalogue) → ◌≡◌ {A = Tried Catalogue} (Ok a) (Ok b) → a ≡ b
      given_back a b is = cc

module _ (cat : Catalogue) (good : IsCatalogue cat) where
  set_created : OriginsAreOnStarts → (set calendar container : List ℕ) (origin kept : ℤ) → IsTrue (is_set set) → pos 1 ≤ℤ kept → kept ≤ℤ pos 1000 → IsStamp origin
      → Tries (roll_create set calendar origin container (unsigned_abs kept) cat)
  unfolding Tries roll_create
  set_created origins set calendar container origin kept is some most stamp =
      tries _ _ (λ plan a. tries _ _ (λ there b. tries _ _ (λ free c.
      regular_kept cat good origins (control_key set (unsigned_abs kept)) calendar container origin (control_is_key set kept is some most) stamp)))

  set_put : (set : List ℕ) (stamp : ℤ) (literals : List Literal) → IsTrue (is_set set) → IsStamp stamp → Tries (roll_put set stamp literals cat)
  unfolding Tries roll_put
  set_put set stamp literals is at =
      tries _ _ (λ control a. tries _ _ (λ grid b. tries _ _ (λ row c. tries _ _ (λ plan d. tries _ _ (λ made e.
      let key = window_is_key set plan.window is (window_few grid control.0 (live set control.1.container cat) stamp plan d) in
      put_no_dups_kept made
      (window_comes plan.attach (window_key set plan.window) control.1.container (without_windows set plan.purge cat) made (windows_gone set plan.purge cat good) key e)
      (window_key set plan.window) stamp literals at)))))

  set_clipped : (set : List ℕ) (from to : ℤ) → Tries (roll_clip set from to cat)
  unfolding Tries roll_clip
  set_clipped set from to = tries _ _ (λ control a. tries _ _ (λ grid b. tries _ _ (λ rows c. good)))

  set_dropped : (set : List ℕ) → Tries (roll_drop set cat)
  unfolding Tries roll_drop
  set_dropped set =
      tries _ _ (λ control a. tries _ _ (λ grid b.
      let gone = live set control.1.container cat in
      dropped (without_windows set gone cat) (windows_gone set gone cat good) (control_key set control.0) kinds.Series refl))

module _ (cat : Catalogue) (good : IsCatalogue cat) where
  settles : (m : Tried Answered) → Tries m → IsCatalogue (settled cat m).1
  unfolding Tries
  settles (Ok answered) keeps = keeps
  settles (Err refusal) keeps = good

  each : OriginsAreOnStarts → (command : Command) → HasForm command → NamesStamps command → Tries (carried_out command cat)
  unfolding Tries carried_out show_pattern show_calendar count_starts find_start list_starts container_usage drop_series list_series get_element get_last_element count_elements get_first_element get_nth_element clip_series count_clip clip_counted join_series lag_series aggregate_by aggregate_range aggregate_all running_values apply_exprs
  each origins (commands.CreateRowType name stamp columns) form stamps = row_types_kept cat good name stamp columns form
  each origins (commands.DropRowType name) form stamps = definitions_go cat good kinds.RowType name
  each origins (commands.CreatePattern name text) form stamps = patterns_kept cat good name text form.0
  each origins (commands.NotOp name pattern) form stamps = turned_kept cat good name pattern form.0
  each origins (commands.AndPatterns name first second) form stamps = joined_kept cat good And name first second form.0
  each origins (commands.OrPatterns name first second) form stamps = joined_kept cat good Or name first second form.0
  each origins (commands.AndCalendars name first second) form stamps = joins_kept cat good And name first second form.0
  each origins (commands.OrCalendars name first second) form stamps = joins_kept cat good Or name first second form.0
  each origins (commands.ShowPattern name) form stamps = tries _ _ (λ pattern a. good)
  each origins (commands.DropPattern name) form stamps = definitions_go cat good kinds.Pattern name
  each origins (commands.CreateCalendar name text) form stamps = calendars_kept cat good name text form.0
  each origins (commands.ShowCalendar name) form stamps = tries _ _ (λ text a. good)
  each origins (commands.DropCalendar name) form stamps = definitions_go cat good kinds.Calendar name
  each origins (commands.CalIndex calendar from to) form stamps = tries _ _ (λ plan a. good)
  each origins (commands.CalStamp calendar after count) form stamps = tries _ _ (λ plan a. tries _ _ (λ stamp b. good))
  each origins (commands.CalRange calendar from to) form stamps = tries _ _ (λ plan a. tries _ _ (λ starts b. good))
  each origins (commands.TSContainerCreate name row_type quota) form stamps = containers_kept cat good name row_type quota form
  each origins (commands.TSContainerDestroy name) form stamps = definitions_go cat good kinds.Container name
  each origins (commands.TSContainerUsage name) form stamps = tries _ _ (λ container a. good)
  each origins (commands.TSCreate key calendar origin container) form stamps = regular_kept cat good origins key calendar container origin form.0 stamps
  each origins (commands.TSCreateIrr key container) form stamps = irregular_kept cat good key container form.0
  each origins (commands.DropSeries key) form stamps = tries _ _ (λ series a. dropped cat good key kinds.Series refl)
  each origins (commands.ListSeries container) form stamps = tries _ _ (λ there a. good)
  each origins (commands.PutElem key stamp literals) form stamps = put_kept cat good key stamp literals stamps
  each origins (commands.PutElemNoDups key stamp literals) form stamps = put_no_dups_kept cat good key stamp literals stamps
  each origins (commands.InsElem key stamp literals) form stamps = insert_kept cat good key stamp literals stamps
  each origins (commands.UpdElem key stamp literals) form stamps = update_kept cat good key stamp literals
  each origins (commands.DelElem key stamp) form stamps = delete_kept cat good key stamp
  each origins (commands.DelClip key from to) form stamps = range_kept cat good key from to
  each origins (commands.HideElem key stamp) form stamps = mark_kept cat good true key stamp
  each origins (commands.RevealElem key stamp) form stamps = mark_kept cat good false key stamp
  each origins (commands.GetElem key stamp) form stamps = tries _ _ (λ series a. good)
  each origins (commands.GetLastElem key) form stamps = tries _ _ (λ series a. good)
  each origins (commands.GetNelems key) form stamps = tries _ _ (λ series a. good)
  each origins (commands.GetFirstElem key) form stamps = tries _ _ (λ series a. good)
  each origins (commands.GetNthElem key index) form stamps = tries _ _ (λ series a. tries _ _ (λ all b. good))
  each origins (commands.Clip key from to) form stamps = tries _ _ (λ series a. tries _ _ (λ all b. tries _ _ (λ rows c. good)))
  each origins (commands.ClipCount key stamp count) form stamps = tries _ _ (λ series a. tries _ _ (λ all b. good))
  each origins (commands.ClipGetCount key from to) form stamps = tries _ _ (λ series a. tries _ _ (λ all b. good))
  each origins (commands.Union first second from to) form stamps = tries _ _ (λ a b. tries _ _ (λ c d. tries _ _ (λ shape e. tries _ _ (λ other f. tries _ _ (λ rows g. good)))))
  each origins (commands.Intersect first second from to) form stamps = tries _ _ (λ a b. tries _ _ (λ c d. tries _ _ (λ shape e. tries _ _ (λ other f. tries _ _ (λ rows g. good)))))
  each origins (commands.Lag key by) form stamps = tries _ _ (λ series a. tries _ _ (λ shape b. tries _ _ (λ rows c. good)))
  each origins (commands.AggregateBy text calendar key from to) form stamps = tries _ _ (λ items a. tries _ _ (λ plan b. tries _ _ (λ series c. tries _ _ (λ bound d. tries _ _ (λ rows e. good)))))
  each origins (commands.AggregateRange text key from to) form stamps = tries _ _ (λ items a. tries _ _ (λ series b. tries _ _ (λ bound c. good)))
  each origins (commands.AggregateAll text container from to) form stamps = tries _ _ (λ items a. tries _ _ (λ there b. tries _ _ (λ bound c. good)))
  each origins (commands.TSRunningSum text key span from to) form stamps = tries _ _ (λ column a. tries _ _ (λ series b. tries _ _ (λ bound c. tries _ _ (λ es d. good))))
  each origins (commands.TSRunningAvg text key span from to) form stamps = tries _ _ (λ column a. tries _ _ (λ series b. tries _ _ (λ bound c. tries _ _ (λ es d. good))))
  each origins (commands.Apply text key from to) form stamps = tries _ _ (λ exprs a. tries _ _ (λ series b. tries _ _ (λ bound c. tries _ _ (λ es d. tries _ _ (λ rows e. good)))))
  each origins (commands.RollingCreate set calendar origin container kept) form stamps = set_created cat good origins set calendar container origin kept form.0 form.3 form.4 stamps
  each origins (commands.RollingPut set stamp literals) form stamps = set_put cat good set stamp literals form stamps
  each origins (commands.RollingClip set from to) form stamps = set_clipped cat good set from to
  each origins (commands.RollingDrop set) form stamps = set_dropped cat good set
  each origins commands.Begin form stamps = good
  each origins commands.Commit form stamps = tt
  each origins commands.Rollback form stamps = tt

  pub command_keeps : OriginsAreOnStarts → (command : Command) → HasForm command → NamesStamps command → IsCatalogue (answer cat (Ok command)).1
  unfolding answer outcome
  command_keeps origins command form stamps = settles (carried_out command cat) (each origins command form stamps)

  pub refusal_keeps : (refusal : Refusal) → IsCatalogue (answer cat (Err refusal)).1
  unfolding answer outcome
  refusal_keeps refusal = good
