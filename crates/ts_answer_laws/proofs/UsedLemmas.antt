-- A pattern by whose name a calendar was made can't be dropped, nor the calendar of a regular series; every other can.
use Rattle.std.proofs.Common.{◌≡◌, ℕ, ℤ, Bool, true, false, cond, ◌||◌, T, Some, None, Ok, Err, List, [], ◌∷◌, map, refl, ap, sym, ◌∙◌}
use Rattle.std.proofs.Math.Bool.{or-true}
use Rattle.std.specs.Prelude.{◌↔◌}
use Rattle.std.specs.List.{list_any}
use Rattle.std.specs.FinMap.{entries, entries_sorted, find, get, get-entries, is_sorted}
use Rattle.std.specs.FinMap.Entries.{below_all}
use Rattle.std.specs.Cmp.{tied_itself}
use Rattle.std.specs.declared.cmp.Ordering.{Ordering}
use Rattle.std.specs.declared.cmp.Ordering.TheVariants.{Less, Equal, Greater}
use Rattle.std.specs.Ordering.{is_eq, is_lt, eq_by_cmp}
use Rattle.ts_base.specs.declared.refusal.Refusal.TheVariants as refusals
use Rattle.ts_pattern.specs.Patterns.{Plan}
use Rattle.ts_calendar.specs.declared.text.PatternPart.{PatternPart}
use Rattle.ts_calendar.specs.declared.text.PatternPart.TheVariants.{Named as ByName, Own}
use Rattle.ts_calendar.specs.declared.text.CalendarText.{CalendarText}
use Rattle.ts_command.specs.declared.command.Command.TheVariants as commands
use Rattle.ts_model.specs.Catalogue.{SeriesKind, Irregular, Regular, Series, Catalogue, name_cmp, is_named, has_calendar, is_on_calendar, has_regular}
use Rattle.ts_model.proofs.OrderLemmas.{total, eq_ties, ties-refl, ties-same}
use Rattle.ts_answer.specs.Answer.{Answered, ◌>>=◌, wanted, outcome, carried_out, drop_definition, refused_if}
use Rattle.ts_answer.proofs.CallerLemmas.{on_ok, on_err, refused, wanted-there}
use Rattle.ts_answer_laws.specs.Laws.{HasCalendarBy}
use Rattle.ts_answer_laws.specs.SeriesLaws.{HasSeriesOn}
use Rattle.ts_answer_laws.proofs.PlacedLemmas.{first, second}

-- entries in the order of their names: one that passes a test is found under its name
is_less : (r : Ordering) → T (is_lt r) → r ≡ Less
is_less Less lt = refl
is_less Equal lt = absurd lt
is_less Greater lt = absurd lt

module _ {X : Type 0} where
  none_below : (q : List ℕ) (es : List (List ℕ × X)) → T (below_all name_cmp q es) → find name_cmp q es ≡ None
  none_below q [] low = refl
  none_below q (e ∷ es) low = ap (λ (r : Ordering). cond (is_eq r) (Some e.1) (find name_cmp q es)) (is_less (name_cmp q e.0) (first _ _ low)) ∙ none_below q es (second _ _ low)

  found_behind : (e : List ℕ × X) (es : List (List ℕ × X)) (q : List ℕ) (v : X) → T (below_all name_cmp e.0 es) → find name_cmp q es ≡ Some v → find name_cmp q (e ∷ es) ≡ Some v
  found_behind e es q v low there =
      elim (eq_by_cmp name_cmp q e.0) as (λ (b : Bool). eq_by_cmp name_cmp q e.0 ≡ b → cond b (Some e.1) (find name_cmp q es) ≡ Some v) [
        | true ↦ λ same. absurd (let none = sym there ∙ ap (λ (n : List ℕ). find name_cmp n es) (ties-same q e.0 same) ∙ none_below e.0 es low in cc)
        | false ↦ λ other. there
      ] refl

  record Passes (test : X → Bool) (es : List (List ℕ × X)) : Type 0 where
    key : List ℕ
    value : X
    there : find name_cmp key es ≡ Some value
    is : test value ≡ true

  one_passes : (test : X → Bool) (es : List (List ℕ × X)) → T (is_sorted name_cmp es) → list_any test (map (λ e. e.1) es) ≡ true → Passes test es
  one_passes test [] sorted some = absurd (cc)
  one_passes test (e ∷ es) sorted some =
      elim (test e.1) as (λ (b : Bool). test e.1 ≡ b → (b || list_any test (map (λ f. f.1) es)) ≡ true → Passes test (e ∷ es)) [
        | true ↦ λ here some. record { key = e.0; value = e.1; there = ap (λ (r : Ordering). cond (is_eq r) (Some e.1) (find name_cmp e.0 es)) (tied_itself total e.0); is = here }
        | false ↦ λ here some. let rest = one_passes test es (second _ _ sorted) some in
            record { key = rest.key; value = rest.value; there = found_behind e es rest.key rest.value (first _ _ sorted) rest.there; is = rest.is }
      ] refl some

  any_passes : (test : X → Bool) (es : List (List ℕ × X)) (q : List ℕ) (v : X) → find name_cmp q es ≡ Some v → test v ≡ true → list_any test (map (λ e. e.1) es) ≡ true
  any_passes test [] q v there is = absurd (cc)
  any_passes test (e ∷ es) q v there is =
      elim (eq_by_cmp name_cmp q e.0) as (λ (b : Bool). cond b (Some e.1) (find name_cmp q es) ≡ Some v → (test e.1 || list_any test (map (λ f. f.1) es)) ≡ true) [
        | true ↦ λ here. let same : e.1 ≡ v = cc in ap (λ (b : Bool). b || list_any test (map (λ f. f.1) es)) (ap test same ∙ is)
        | false ↦ λ rest. ap (λ (b : Bool). test e.1 || b) (any_passes test es q v rest is) ∙ or-true (test e.1)
      ] there

-- a text gives a pattern by a name exactly where it has the name
named_so : (name : List ℕ) (part : PatternPart) → is_named name part ≡ true → part ≡ ByName name
named_so name (ByName other) is = ap ByName (ties-same other name (sym (eq_ties other name) ∙ is))
named_so name (Own pattern) is = absurd (cc)

so_named : (name : List ℕ) (part : PatternPart) → part ≡ ByName name → is_named name part ≡ true
so_named name part is = ap (is_named name) is ∙ eq_ties name name ∙ ties-refl name

-- a calendar was made by the name
calendar_by : (name : List ℕ) (cat : Catalogue) → has_calendar name cat ≡ true → HasCalendarBy name cat
calendar_by name cat some =
    let one = one_passes (λ (c : CalendarText). is_named name c.part) (entries cat.calendars) (entries_sorted cat.calendars) some in
    record { key = one.key; text = one.value; listed = get-entries cat.calendars one.key ∙ one.there; part = named_so name one.value.part one.is }

pub by_calendar : (name : List ℕ) (cat : Catalogue) → HasCalendarBy name cat → has_calendar name cat ≡ true
by_calendar name cat by = any_passes (λ (c : CalendarText). is_named name c.part) (entries cat.calendars) by.key by.text (sym (get-entries cat.calendars by.key) ∙ by.listed) (so_named name by.text.part by.part)

-- a series lies on the calendar of a name exactly where its kind says so
lies_on : (name : List ℕ) (kind : SeriesKind) → is_on_calendar name kind ≡ true → (origin : ℤ) × (kind ≡ Regular name origin)
lies_on name Irregular is = absurd (cc)
lies_on name (Regular calendar origin) is = (origin, ap (λ (q : List ℕ). Regular q origin) (ties-same calendar name (sym (eq_ties calendar name) ∙ is)))

on_lies : (name : List ℕ) (origin : ℤ) (kind : SeriesKind) → kind ≡ Regular name origin → is_on_calendar name kind ≡ true
on_lies name origin kind is = ap (is_on_calendar name) is ∙ eq_ties name name ∙ ties-refl name

series_on : (name : List ℕ) (cat : Catalogue) → has_regular name cat ≡ true → HasSeriesOn name cat
series_on name cat some =
    let one = one_passes (λ (s : Series). is_on_calendar name s.kind) (entries cat.series) (entries_sorted cat.series) some in
    let on = lies_on name one.value.kind one.is in
    record { key = one.key; series = one.value; listed = get-entries cat.series one.key ∙ one.there; origin = on.0; kind = on.1 }

pub on_series : (name : List ℕ) (cat : Catalogue) → HasSeriesOn name cat → has_regular name cat ≡ true
on_series name cat on = any_passes (λ (s : Series). is_on_calendar name s.kind) (entries cat.series) on.key on.series (sym (get-entries cat.series on.key) ∙ on.listed) (on_lies name on.origin on.series.kind on.kind)

in_use : (b : Bool) (answered : Answered) → (refused_if b refusals.InUse >>= (λ (idle : Unit {0}). Ok answered)) ≡ Err refusals.InUse → b ≡ true
unfolding refused_if ◌>>=◌
in_use true answered is = refl
in_use false answered is = absurd (cc)

pub pattern_dropped : (cat : Catalogue) (name : List ℕ) (pattern : Plan) → get cat.patterns name ≡ Some pattern → outcome (Ok (commands.DropPattern name)) cat ≡ Err refusals.InUse ↔ HasCalendarBy name cat
unfolding outcome carried_out drop_definition
pattern_dropped cat name pattern there =
    let tried = on_ok (wanted name cat.patterns) pattern _ (wanted-there name cat.patterns pattern there) in
    (λ is. calendar_by name cat (in_use (has_calendar name cat) _ (sym tried ∙ is)), λ by. tried ∙ on_err _ refusals.InUse _ (refused (has_calendar name cat) refusals.InUse (by_calendar name cat by)))

pub calendar_dropped : (cat : Catalogue) (name : List ℕ) (text : CalendarText) → get cat.calendars name ≡ Some text → outcome (Ok (commands.DropCalendar name)) cat ≡ Err refusals.InUse ↔ HasSeriesOn name cat
unfolding outcome carried_out drop_definition
calendar_dropped cat name text there =
    let tried = on_ok (wanted name cat.calendars) text _ (wanted-there name cat.calendars text there) in
    (λ is. series_on name cat (in_use (has_regular name cat) _ (sym tried ∙ is)), λ on. tried ∙ on_err _ refusals.InUse _ (refused (has_regular name cat) refusals.InUse (on_series name cat on)))
