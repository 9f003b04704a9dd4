-- The statements of a catalogue, kind by kind, make it of an empty one.
use Rattle.std.proofs.Common.{◌≡◌, ℕ, suc, ◌+◌, ◌/◌, ◌<◌, ◌≤◌, ℤ, Bool, true, false, ◌&&◌, T, IsTrue, Option, Some, None, Ok, List, [], ◌∷◌, ◌++◌, length, map, sum, refl, ap, sym, ◌∙◌, subst, arith}
use Rattle.std.specs.Option.{option_map, option_and_then, unwrap_or}
use Rattle.std.specs.List.{flat_map, list_all}
use Rattle.std.specs.Ordering.{int_cmp, is_lt}
use Rattle.std.specs.Cmp.{int_cmp_total}
use Rattle.std.specs.FinMap.{entries, entries_sorted, empty, insert, get, get-from_entries, get-from_sorted, len, len-entries, len-empty, is_sorted, from_entries, from_sorted, entries-from_sorted, same_map, same_entries_map}
use Rattle.std.specs.FinMap.Entries.{below_all}
use Rattle.std.proofs.lemmas.List.{append-nil, append_assoc, map-append, nil_from_length, length-append}
use Rattle.std.proofs.lemmas.List.Sums.{sum_by-cons}
use Rattle.std.specs.Prelude.{nat_le}
use Rattle.std.proofs.lemmas.Bool.{and_parts}
use Rattle.std.proofs.lemmas.Bool.Decides.{nat_tests}
use Rattle.std.proofs.lemmas.Nat.{le-div}
use Rattle.ts_row.specs.declared.kind.Column.{Column}
use Rattle.ts_row.specs.Row.{Heading, is_row_type, is_kind, keep_rules, width_of, Row, marked, Element}
use Rattle.ts_row.proofs.RowTypeLemmas.{width_of-kept}
use Rattle.ts_pattern.specs.Patterns.{Plan, is_pattern, read_plan, printed_plan}
use Rattle.ts_calendar.specs.Calendars.{CalendarPlan, IsSound, read_calendar, printed_calendar}
use Rattle.ts_calendar.specs.declared.text.CalendarText.{CalendarText}
use Rattle.ts_offset.specs.declared.shape.Shape.{Shape}
use Rattle.ts_offset.specs.declared.shape.Shape.TheVariants as shapes
use Rattle.ts_command.specs.declared.command.Command.{Command}
use Rattle.ts_command.specs.declared.command.Command.TheVariants as commands
use Rattle.ts_model.specs.declared.kind.Kind.TheVariants as kinds
use Rattle.ts_model.specs.Catalogue.{Named, name_cmp, Container, Elements, SeriesKind, Irregular, Regular, Series, Catalogue, newest_format, empty_catalogue, in_newest_format, calendar_named, shape_of, columns_of, quota_of, quotas}
use Rattle.ts_model.specs.Charge.{page_elements, container_charge}
use Rattle.ts_model.proofs.OrderLemmas.{total, same_name}
use Rattle.ts_answer.specs.Reply.{ok_line, stamp_line}
use Rattle.ts_dump_laws.specs.Statements.{row_type_statement, pattern_statement, calendar_statement, container_statement, made_as, series_statement, hiding, element_statements, elements_of_series, definitions_of, elements_of, statements_of, emptied, each_as, without_elements, Writing}
use Rattle.ts_dump_laws.specs.Laws.{GivesRows}
use Rattle.ts_dump_laws.specs.Rules.{HasRowType, HasPlaces, HasOrigin, KeepsRules}
use Rattle.ts_dump_laws.proofs.MapLemmas.{sorted_front, pushed, replaced}
use Rattle.ts_dump_laws.proofs.ChargeLemmas.{stamps, no_elements, elements_grow, none_charged, series_grow, charged, AreNoMore, charged_no_more, no_more_same, no_more_join}
use Rattle.ts_dump_laws.proofs.StepLemmas.{IsStep, Steps, one_step, steps_join, all_made, one_of_each}
use Rattle.ts_dump_laws.proofs.DefineLemmas.{row_type_made, pattern_made, calendar_made, container_made, irregular_made, regular_made}
use Rattle.ts_dump_laws.proofs.ElementLemmas.{held_itself, element_put, element_hidden}

no_entries : {X : Type 0} → entries (empty {X = X} {R = name_cmp}) ≡ []
no_entries {X} = nil_from_length (entries (empty {X = X} {R = name_cmp})) (sym (len-entries (empty {X = X} {R = name_cmp})) ∙ len-empty name_cmp X)

is_so : (b : Bool) → IsTrue b → b ≡ true
is_so b is = is

-- what a row type keeps
row_type_keeps : (stamp : List ℕ) (columns : List Column) → is_row_type stamp columns ≡ true → keep_rules stamp columns ≡ true
row_type_keeps stamp columns good = (and_parts (nat_le 1 (length columns)) (keep_rules stamp columns) good).1

row_type_some : (stamp : List ℕ) (columns : List Column) → is_row_type stamp columns ≡ true → 1 ≤ length columns
row_type_some stamp columns good = let some = (and_parts (nat_le 1 (length columns)) (keep_rules stamp columns) good).0 in grind (arith, nat_tests)

row_type_kinds : (stamp : List ℕ) (columns : List Column) → is_row_type stamp columns ≡ true → IsTrue (list_all (λ (k : Column). is_kind k.kind) columns)
row_type_kinds stamp columns good =
    let kept = row_type_keeps stamp columns good in
    grind (arith, nat_tests)

-- one entry after the other, each under a new name
module _ {X : Type 0} (target m : Named X) (pre : List (List ℕ × X)) (e : List ℕ × X) (post : List (List ℕ × X)) (made : entries m ≡ pre) (whole : entries target ≡ pre ++ e ∷ post) where
  in_order : T (is_sorted name_cmp (pre ++ e ∷ post))
  in_order = subst (λ (es : List (List ℕ × X)). T (is_sorted name_cmp es)) whole (entries_sorted target)

  new_there : get m e.0 ≡ None
  new_there = (pushed name_cmp total m pre e post made in_order).0

  one_further : entries (insert m e.0 e.1) ≡ pre ++ e ∷ []
  one_further = (pushed name_cmp total m pre e post made in_order).1

  its_value : get target e.0 ≡ Some e.1
  its_value = (replaced name_cmp total target pre e.0 e.1 e.1 post whole).0

  fewer_made : len m < len target
  fewer_made =
      let here = len-entries m ∙ ap (λ (es : List (List ℕ × X)). length es) made in
      let all = len-entries target ∙ ap (λ (es : List (List ℕ × X)). length es) whole ∙ length-append pre (e ∷ post) in
      omega (arith, here, all)

module _ {X : Type 0} (statement : List ℕ × X → Command) (target : Named X) (S : Named X → Catalogue) where
  abbrev MakesEach : Type 0
  MakesEach = (m : Named X) (pre : List (List ℕ × X)) (e : List ℕ × X) (post : List (List ℕ × X)) → entries m ≡ pre → entries target ≡ pre ++ e ∷ post
      → IsStep (statement e) (S m) (S (insert m e.0 e.1))

  abbrev IsSoFar : List (List ℕ × X) → List (List ℕ × X) → Named X → Type 0
  IsSoFar pre post m = (entries m ≡ pre) × (entries target ≡ pre ++ post)

  names_made : MakesEach → Steps (map statement (entries target)) (S empty) (S target)
  names_made makes =
      let all = all_made S IsSoFar (λ e. statement e ∷ [])
      (λ pre e post m here. (
        insert m e.0 e.1,
        one_step (statement e) (S m) (S (insert m e.0 e.1)) (makes m pre e post here.0 here.1),
        (one_further target m pre e post here.0 here.1, here.1 ∙ sym (append_assoc pre (e ∷ []) post)),
      ))
      [] (entries target) empty (no_entries, refl) in
      let same : all.0 ≡ target = same_entries_map all.0 target all.2.0 in
      subst (λ (k : Named X). Steps (map statement (entries target)) (S empty) (S k)) same
      (subst (λ (l : List Command). Steps l (S empty) (S all.0)) (one_of_each statement (entries target)) all.1)

-- the quotas of containers, one after the other
abbrev quotas_in : List (List ℕ × Container) → ℕ
quotas_in es = sum (map (λ c. c.quota) (map (λ e. e.1) es))

quotas_join : (xs ys : List (List ℕ × Container)) → quotas_in (xs ++ ys) ≡ quotas_in xs + quotas_in ys
quotas_join [] ys = omega arith
quotas_join (x ∷ xs) ys =
    let rest = quotas_join xs ys in
    let left = sum_by-cons (λ (n : ℕ). n) x.1.quota (map (λ (c : Container). c.quota) (map (λ (e : List ℕ × Container). e.1) (xs ++ ys))) in
    let right = sum_by-cons (λ (n : ℕ). n) x.1.quota (map (λ (c : Container). c.quota) (map (λ (e : List ℕ × Container). e.1) xs)) in
    omega (arith, rest, left, right)

-- the same names in order, whatever stands under them
sorted_as : {X Y : Type 0} (f : X → Y) (es : List (List ℕ × X)) → T (is_sorted name_cmp es) → T (is_sorted name_cmp (each_as f es))
sorted_as f es sorted = subst T (sym (same_order es)) sorted
  where
    same_below : (q : List ℕ) (es : List (List ℕ × _)) → below_all name_cmp q (each_as f es) ≡ below_all name_cmp q es
    same_below q [] = refl
    same_below q (e ∷ es) = ap (λ (b : Bool). is_lt (name_cmp q e.0) && b) (same_below q es)

    same_order : (es : List (List ℕ × _)) → is_sorted name_cmp (each_as f es) ≡ is_sorted name_cmp es
    same_order [] = refl
    same_order (e ∷ es) = (λ i. same_below e.0 es i && same_order es i)

pub entries_listed : {X : Type 0} (es : List (List ℕ × X)) → T (is_sorted name_cmp es) → entries (from_entries {R = name_cmp} es) ≡ es
entries_listed es sorted =
    ap entries (same_map total same_name (from_entries {R = name_cmp} es) (from_sorted {R = name_cmp} es) (λ q. get-from_entries total es q ∙ sym (get-from_sorted name_cmp es q sorted)))
    ∙ entries-from_sorted name_cmp es sorted

-- the series of a catalogue without their elements
abbrev pub bare_series : Named Series → Named Series
bare_series series = from_entries (each_as emptied (entries series))

pub bare_entries : (series : Named Series) → entries (bare_series series) ≡ each_as emptied (entries series)
bare_entries series = entries_listed (each_as emptied (entries series)) (sorted_as emptied (entries series) (entries_sorted series))

same_statements : (es : List (List ℕ × Series)) → map series_statement (each_as emptied es) ≡ map series_statement es
same_statements [] = refl
same_statements (e ∷ es) = ap (λ (l : List Command). series_statement e ∷ l) (same_statements es)

-- What a catalogue has is made of an empty one.
module _ (c : Catalogue) (rules : KeepsRules c) (patterns_read : (p : Plan) → IsTrue (is_pattern p.runs) → read_plan (printed_plan p) ≡ Ok p)
    (calendars_read : (text : CalendarText) → IsSound text → read_calendar (printed_calendar text) ≡ Ok text) where
  -- what stands before each kind: what was made up to there, and so much of the kind
  abbrev at_row_types : Named Heading → Catalogue
  at_row_types m = record (empty_catalogue newest_format c.pages) { row_types = m }

  abbrev at_patterns : Named Plan → Catalogue
  at_patterns m = record (at_row_types c.row_types) { patterns = m }

  abbrev at_calendars : Named CalendarText → Catalogue
  at_calendars m = record (at_patterns c.patterns) { calendars = m }

  abbrev at_containers : Named Container → Catalogue
  at_containers m = record (at_calendars c.calendars) { containers = m }

  abbrev at_series : Named Series → Catalogue
  at_series m = record (at_containers c.containers) { series = m }

  row_types_made : Steps (map row_type_statement (entries c.row_types)) (empty_catalogue newest_format c.pages) (at_row_types c.row_types)
  row_types_made = names_made row_type_statement c.row_types at_row_types (λ m pre e post made whole.
      let few : len m < 64 = let fewer = fewer_made c.row_types m pre e post made whole in let all = rules.few kinds.RowType in omega (arith, fewer, all) in
      record {
        reply = ok_line;
        comes = row_type_made (at_row_types m) e.0 e.1 refl (is_so (is_row_type e.1.stamp e.1.columns) (rules.row_types e.0 e.1 (its_value c.row_types m pre e post made whole)))
            (new_there c.row_types m pre e post made whole) few;
        plain = refl;
        writes = refl;
      })

  patterns_made : Steps (map pattern_statement (entries c.patterns)) (at_row_types c.row_types) (at_patterns c.patterns)
  patterns_made = names_made pattern_statement c.patterns at_patterns (λ m pre e post made whole.
      let few : len m < 256 = let fewer = fewer_made c.patterns m pre e post made whole in let all = rules.few kinds.Pattern in omega (arith, fewer, all) in
      record {
        reply = ok_line;
        comes = pattern_made (at_patterns m) e.0 e.1 (patterns_read e.1 (rules.patterns e.0 e.1 (its_value c.patterns m pre e post made whole)))
            (new_there c.patterns m pre e post made whole) few;
        plain = refl;
        writes = refl;
      })

  calendars_made : Steps (map calendar_statement (entries c.calendars)) (at_patterns c.patterns) (at_calendars c.calendars)
  calendars_made = names_made calendar_statement c.calendars at_calendars (λ m pre e post made whole.
      let few : len m < 256 = let fewer = fewer_made c.calendars m pre e post made whole in let all = rules.few kinds.Calendar in omega (arith, fewer, all) in
      let has = rules.calendars e.0 e.1 (its_value c.calendars m pre e post made whole) in
      record {
        reply = ok_line;
        comes = calendar_made (at_calendars m) e.0 e.1 has.plan (calendars_read e.1 has.sound) has.stands has.valid (new_there c.calendars m pre e post made whole) few;
        plain = refl;
        writes = refl;
      })

  containers_made : Steps (map container_statement (entries c.containers)) (at_calendars c.calendars) (at_containers c.containers)
  containers_made = names_made container_statement c.containers at_containers (λ m pre e post made whole.
      let few : len m < 64 = let fewer = fewer_made c.containers m pre e post made whole in let all = rules.few kinds.Container in omega (arith, fewer, all) in
      let has = rules.containers e.0 e.1 (its_value c.containers m pre e post made whole) in
      let here : quotas (at_containers m) ≡ quotas_in pre = ap quotas_in made in
      let all : quotas c ≡ quotas_in (pre ++ e ∷ post) = ap quotas_in whole in
      let joined = quotas_join pre (e ∷ post) in
      let first = sum_by-cons (λ (n : ℕ). n) e.1.quota (map (λ (x : Container). x.quota) (map (λ (x : List ℕ × Container). x.1) post)) in
      let within = rules.quotas in
      record {
        reply = ok_line;
        comes = container_made (at_containers m) e.0 e.1.row_type has.heading e.1.quota has.listed (omega (arith, here, all, joined, first, within))
            (new_there c.containers m pre e post made whole) few;
        plain = refl;
        writes = refl;
      })

  -- a series without elements
  series_made_as : (m : Named Series) (key container : List ℕ) (kind : SeriesKind) (k : Container) (shape : Shape) → get c.containers container ≡ Some k → shape_of c kind ≡ Some shape → HasOrigin shape
      → get m key ≡ None → len m < 4096 → IsStep (made_as kind key container) (at_series m) (at_series (insert m key (record { container = container; kind = kind; elements = empty })))
  series_made_as m key container Irregular k shape there lies origin new few =
      record { reply = ok_line; comes = irregular_made (at_series m) key container k there new few; plain = refl; writes = refl }
  series_made_as m key container (Regular calendar start) k shape there lies origin new few =
      let grid = on_calendar calendar start shape lies in
      let own = subst HasOrigin (sym grid.2) origin in
      record {
        reply = stamp_line start;
        comes = regular_made (at_series m) key calendar container start grid.0 k grid.1 (held_itself grid.0 start own.0 own.1) there new few;
        plain = refl;
        writes = refl;
      }
    where
      on_calendar : (calendar : List ℕ) (start : ℤ) (shape : Shape) → shape_of c (Regular calendar start) ≡ Some shape
          → (plan : CalendarPlan) × (calendar_named c calendar ≡ Some plan) × (shapes.Regular (record { calendar = plan; origin = start }) ≡ shape)
      on_calendar calendar start shape lies =
          elim (calendar_named c calendar) as (λ (o : Option CalendarPlan). option_map (λ (plan : CalendarPlan). shapes.Regular (record { calendar = plan; origin = start })) o ≡ Some shape
          → (plan : CalendarPlan) × (o ≡ Some plan) × (shapes.Regular (record { calendar = plan; origin = start }) ≡ shape)) [
            | None ↦ λ is. absurd (let no : ⊥ = cc in no)
            | Some plan ↦ λ is. (plan, refl, cc)
          ] lies

  abbrev bare : Named Series
  bare = bare_series c.series

  -- the series under a key, of one without elements
  bare_is : (e : List ℕ × Series) (pre post : List (List ℕ × Series)) → entries bare ≡ pre ++ e ∷ post → (s : Series) × (get c.series e.0 ≡ Some s) × (emptied s ≡ e.1)
  bare_is e pre post whole = found_bare (entries c.series) pre e post [] refl (sym (bare_entries c.series) ∙ whole)
    where
      found_bare : (es pre : List (List ℕ × Series)) (e : List ℕ × Series) (post before : List (List ℕ × Series)) → entries c.series ≡ before ++ es → each_as emptied es ≡ pre ++ e ∷ post
          → (s : Series) × (get c.series e.0 ≡ Some s) × (emptied s ≡ e.1)
      found_bare [] [] e post before all is = absurd (let no : ⊥ = cc in no)
      found_bare [] (p ∷ pre) e post before all is = absurd (let no : ⊥ = cc in no)
      found_bare (x ∷ es) [] e post before all is =
          let same : (x.0, emptied x.1) ≡ e = cc in
          (x.1, subst (λ (k : List ℕ). get c.series k ≡ Some x.1) (ap (λ (y : List ℕ × Series). y.0) same) (replaced name_cmp total c.series before x.0 x.1 x.1 es all).0, ap (λ (y : List ℕ × Series). y.1) same)
      found_bare (x ∷ es) (p ∷ pre) e post before all is =
          found_bare es pre e post (before ++ x ∷ []) (all ∙ sym (append_assoc before (x ∷ []) es)) (let rest : each_as emptied es ≡ pre ++ e ∷ post = cc in rest)

  bare_few : len bare ≤ 4096
  bare_few =
      let here = len-entries bare ∙ ap (λ (es : List (List ℕ × Series)). length es) (bare_entries c.series) ∙ same_length (entries c.series) in
      let all = rules.few kinds.Series in
      omega (arith, here, all, len-entries c.series)
    where
      same_length : (es : List (List ℕ × Series)) → length (each_as emptied es) ≡ length es
      same_length [] = refl
      same_length (e ∷ es) = ap suc (same_length es)

  series_made : Steps (map series_statement (entries c.series)) (at_containers c.containers) (at_series bare)
  series_made =
      subst (λ (l : List Command). Steps l (at_series empty) (at_series bare)) (ap (map series_statement) (bare_entries c.series) ∙ same_statements (entries c.series))
      (names_made series_statement bare at_series (λ m pre e post made whole.
      let is = bare_is e pre post whole in
      let has = rules.series e.0 is.0 is.1 in
      let few : len m < 4096 = let fewer = fewer_made bare m pre e post made whole in let all = bare_few in omega (arith, fewer, all) in
      subst (λ (s : Series). IsStep (series_statement (e.0, s)) (at_series m) (at_series (insert m e.0 s))) is.2
      (series_made_as m e.0 is.0.container is.0.kind has.container has.shape has.listed has.lies has.origin (new_there bare m pre e post made whole) few)))

  pub definitions_made : Steps (definitions_of c) (empty_catalogue newest_format c.pages) (in_newest_format (without_elements c))
  definitions_made =
      steps_join (map row_type_statement (entries c.row_types)) _ _ (at_row_types c.row_types) _ row_types_made
      (steps_join (map pattern_statement (entries c.patterns)) _ _ (at_patterns c.patterns) _ patterns_made
      (steps_join (map calendar_statement (entries c.calendars)) _ _ (at_calendars c.calendars) _ calendars_made
      (steps_join (map container_statement (entries c.containers)) _ _ (at_containers c.containers) _ containers_made series_made)))

-- The elements of a catalogue are put into its series, which have none.
module _ (written : Writing) (gives : GivesRows written) (c : Catalogue) (rules : KeepsRules c) where
  abbrev with_series : Named Series → Catalogue
  with_series m = record (in_newest_format c) { series = m }

  -- more elements of a series of a list, whose other series are those before it and, without elements, those behind it
  bare_no_more : (es : List (List ℕ × Series)) → AreNoMore c (each_as emptied es) es
  bare_no_more [] = tt
  bare_no_more (e ∷ es) = (
    record {
      container = refl;
      charge = series_grow c e.1 empty e.1.elements (λ shape. let none = none_charged (columns_of c e.1) shape in omega (arith, none));
    },
    bare_no_more es,
  )

  module _ (key : List ℕ) (s : Series) (there : get c.series key ≡ Some s) where
    has : HasPlaces c s
    has = rules.series key s there

    row_type : HasRowType c has.container
    row_type = rules.containers s.container has.container has.listed

    its_columns : columns_of c s ≡ row_type.heading.columns
    its_columns =
        ap (λ (o : Option Container). unwrap_or (option_map (λ (h : Heading). h.columns) (option_and_then (λ (k : Container). get c.row_types k.row_type) o)) []) has.listed
        ∙ ap (λ (o : Option Heading). unwrap_or (option_map (λ (h : Heading). h.columns) o) []) row_type.listed

    good : is_row_type row_type.heading.stamp row_type.heading.columns ≡ true
    good = is_so (is_row_type row_type.heading.stamp row_type.heading.columns) (rules.row_types has.container.row_type row_type.heading row_type.listed)

    wide : (width : ℕ) → width ≤ 1000 → 0 < 4064 / (width + 9)
    wide width narrow = let one = le-div 1 4064 (width + 9) (omega arith) (omega (arith, narrow)) in omega (arith, one)

    room : 0 < page_elements (columns_of c s)
    room =
        let kept = row_type_keeps row_type.heading.stamp row_type.heading.columns good in
        let narrow = width_of-kept row_type.heading.stamp row_type.heading.columns kept in
        subst (λ (cs : List Column). 0 < page_elements cs) (sym its_columns) (wide (width_of row_type.heading.columns) narrow)

    some_columns : 1 ≤ length (columns_of c s)
    some_columns = subst (λ (cs : List Column). 1 ≤ length cs) (sym its_columns) (row_type_some row_type.heading.stamp row_type.heading.columns good)

    kinds_good : IsTrue (list_all (λ (k : Column). is_kind k.kind) (columns_of c s))
    kinds_good = subst (λ (cs : List Column). IsTrue (list_all (λ (k : Column). is_kind k.kind) cs)) (sym its_columns) (row_type_kinds row_type.heading.stamp row_type.heading.columns good)

    module _ (before behind : List (List ℕ × Series)) (whole : entries c.series ≡ before ++ (key, s) ∷ behind) where
      -- the series of the catalogue, of which this one has these elements
      abbrev IsAt : Elements → Named Series → Type 0
      IsAt el m = entries m ≡ before ++ (key, record s { elements = el }) ∷ each_as emptied behind

      record IsFilledTo (pre post : List Element) (m : Named Series × Elements) : Type 0 where
        at : IsAt m.1 m.0
        made : entries m.1 ≡ pre
        all : entries s.elements ≡ pre ++ post

      -- charges never refuse
      module _ (m : Named Series) (el : Elements) (rest : List ℤ) (at : IsAt el m) (front : stamps (entries el) ++ rest ≡ stamps (entries s.elements)) where
        charge_fits : container_charge s.container (with_series m) ≤ quota_of c s
        charge_fits =
            let quota : quota_of c s ≡ has.container.quota = ap (λ (o : Option Container). unwrap_or (option_map (λ (k : Container). k.quota) o) 0) has.listed in
            let most = rules.charges s.container has.container has.listed in
            let one : AreNoMore c ((key, record s { elements = el }) ∷ each_as emptied behind) ((key, s) ∷ behind) = (
              record { container = refl; charge = series_grow c s el s.elements (λ shape. elements_grow (columns_of c s) shape el s.elements rest room front) },
              bare_no_more behind,
            ) in
            let all = charged_no_more c s.container (before ++ (key, record s { elements = el }) ∷ each_as emptied behind) (before ++ (key, s) ∷ behind)
            (no_more_join c before before _ _ (no_more_same c before) one) in
            let here : container_charge s.container (with_series m) ≡ charged c s.container (before ++ (key, record s { elements = el }) ∷ each_as emptied behind) = ap (charged c s.container) at in
            let there : container_charge s.container c ≡ charged c s.container (before ++ (key, s) ∷ behind) = ap (charged c s.container) whole in
            omega (arith, quota, most, all, here, there)

      -- one element more, which is seen, and which is then hidden
      module _ (pre : List Element) (e : Element) (post : List Element) (m : Named Series) (el : Elements) (filled : IsFilledTo pre (e ∷ post) (m, el)) where
        abbrev seen_row : Row
        seen_row = marked false e.1

        abbrev put : Elements
        put = insert el e.0 seen_row

        abbrev with_put : Named Series
        with_put = insert m key (record s { elements = put })

        row_there : get s.elements e.0 ≡ Some e.1
        row_there = (replaced int_cmp int_cmp_total s.elements pre e.0 e.1 e.1 post filled.all).0

        series_there : get m key ≡ Some (record s { elements = el })
        series_there = (replaced name_cmp total m before key (record s { elements = el }) (record s { elements = put }) (each_as emptied behind) filled.at).0

        put_at : IsAt put with_put
        put_at = (replaced name_cmp total m before key (record s { elements = el }) (record s { elements = put }) (each_as emptied behind) filled.at).1

        in_order_of : T (is_sorted int_cmp (pre ++ (e.0, seen_row) ∷ []))
        in_order_of = sorted_front int_cmp int_cmp_total pre e post seen_row (subst (λ (es : List Element). T (is_sorted int_cmp es)) filled.all (entries_sorted s.elements))

        put_last : (get el e.0 ≡ None) × (entries put ≡ pre ++ (e.0, seen_row) ∷ [])
        put_last = pushed int_cmp int_cmp_total el pre (e.0, seen_row) [] filled.made in_order_of

        front_stamps : stamps (entries put) ++ stamps post ≡ stamps (entries s.elements)
        front_stamps =
            ap (λ (es : List Element). stamps es ++ stamps post) put_last.1
            ∙ ap (λ (l : List ℤ). l ++ stamps post) (map-append (λ (x : Element). x.0) pre ((e.0, seen_row) ∷ []))
            ∙ append_assoc (stamps pre) (e.0 ∷ []) (stamps post)
            ∙ sym (map-append (λ (x : Element). x.0) pre (e ∷ post))
            ∙ ap stamps (sym filled.all)

        put_step : IsStep (commands.InsElem key e.0 (written (columns_of c s) e.1)) (with_series m) (with_series with_put)
        put_step = record {
          reply = stamp_line e.0;
          comes = element_put (with_series m) key (record s { elements = el }) has.shape e.0 series_there has.lies has.origin (has.places e.0 e.1 row_there) e.1 (written (columns_of c s) e.1)
              (gives (columns_of c s) e.1 some_columns kinds_good (has.rows e.0 e.1 row_there)) put_last.0 (charge_fits with_put put (stamps post) put_at front_stamps);
          plain = refl;
          writes = refl;
        }

        abbrev hidden_row : Row
        hidden_row = marked true seen_row

        abbrev hid : Elements
        hid = insert put e.0 hidden_row

        abbrev with_hid : Named Series
        with_hid = insert with_put key (record s { elements = hid })

        put_there : get with_put key ≡ Some (record s { elements = put })
        put_there = (replaced name_cmp total with_put before key (record s { elements = put }) (record s { elements = hid }) (each_as emptied behind) put_at).0

        hid_at : IsAt hid with_hid
        hid_at = (replaced name_cmp total with_put before key (record s { elements = put }) (record s { elements = hid }) (each_as emptied behind) put_at).1

        hid_last : (get put e.0 ≡ Some seen_row) × (entries hid ≡ pre ++ (e.0, hidden_row) ∷ [])
        hid_last = replaced int_cmp int_cmp_total put pre e.0 seen_row hidden_row [] put_last.1

        hide_step : IsStep (commands.HideElem key e.0) (with_series with_put) (with_series with_hid)
        hide_step = record {
          reply = stamp_line e.0;
          comes = element_hidden (with_series with_put) key (record s { elements = put }) has.shape e.0 put_there has.lies has.origin (has.places e.0 e.1 row_there) seen_row refl hid_last.0;
          plain = refl;
          writes = refl;
        }

        all_further : entries s.elements ≡ (pre ++ e ∷ []) ++ post
        all_further = filled.all ∙ sym (append_assoc pre (e ∷ []) post)

        one_element : (next : Named Series × Elements) × Steps (element_statements written key (columns_of c s) e) (with_series m) (with_series next.0) × IsFilledTo (pre ++ e ∷ []) post next
        one_element = by e.1.hidden refl
          where
            same_row : (hidden : Bool) → e.1.hidden ≡ hidden → marked hidden e.1 ≡ e.1
            same_row hidden is = ap (λ (b : Bool). marked b e.1) (sym is)

            by : (hidden : Bool) → e.1.hidden ≡ hidden
                → (next : Named Series × Elements) × Steps (commands.InsElem key e.0 (written (columns_of c s) e.1) ∷ hiding hidden key e) (with_series m) (with_series next.0)
                × IsFilledTo (pre ++ e ∷ []) post next
            by false seen = (
              (with_put, put),
              one_step (commands.InsElem key e.0 (written (columns_of c s) e.1)) (with_series m) (with_series with_put) put_step,
              record { at = put_at; made = put_last.1 ∙ ap (λ (r : Row). pre ++ (e.0, r) ∷ []) (same_row false seen); all = all_further },
            )
            by true hides = (
              (with_hid, hid),
              (with_series with_put, put_step, one_step (commands.HideElem key e.0) (with_series with_put) (with_series with_hid) hide_step),
              record { at = hid_at; made = hid_last.1 ∙ ap (λ (r : Row). pre ++ (e.0, r) ∷ []) (same_row true hides); all = all_further },
            )

      -- all elements of the series
      series_filled : (m : Named Series) → IsAt empty m
          → (next : Named Series) × Steps (flat_map (element_statements written key (columns_of c s)) (entries s.elements)) (with_series m) (with_series next)
          × (entries next ≡ before ++ (key, s) ∷ each_as emptied behind)
      series_filled m at =
          let all = all_made (λ (x : Named Series × Elements). with_series x.0) IsFilledTo (element_statements written key (columns_of c s))
          (λ pre e post x filled. one_element pre e post x.0 x.1 filled)
          [] (entries s.elements) (m, empty) (record { at = at; made = no_elements; all = refl }) in
          let same : all.0.1 ≡ s.elements = same_entries_map all.0.1 s.elements all.2.made in
          (all.0.0, all.1, all.2.at ∙ ap (λ (el : Elements). before ++ (key, record s { elements = el }) ∷ each_as emptied behind) same)

  abbrev AreFilledTo : List (List ℕ × Series) → List (List ℕ × Series) → Named Series → Type 0
  AreFilledTo pre post m = (entries m ≡ pre ++ each_as emptied post) × (entries c.series ≡ pre ++ post)

  pub elements_made : Steps (elements_of written c) (in_newest_format (without_elements c)) (in_newest_format c)
  elements_made =
      let all = all_made with_series AreFilledTo (elements_of_series written c)
      (λ pre e post m here.
      let there = (replaced name_cmp total c.series pre e.0 e.1 e.1 post here.1).0 in
      let one = series_filled e.0 e.1 there pre post here.1 m here.0 in
      (one.0, one.1, (one.2 ∙ sym (append_assoc pre (e ∷ []) (each_as emptied post)), here.1 ∙ sym (append_assoc pre (e ∷ []) post))))
      [] (entries c.series) (bare_series c.series) (bare_entries c.series, refl) in
      let same : all.0 ≡ c.series = same_entries_map all.0 c.series (all.2.0 ∙ append-nil (entries c.series)) in
      subst (λ (k : Named Series). Steps (elements_of written c) (with_series (bare_series c.series)) (with_series k)) same all.1

-- in one
module _ (written : Writing) (gives : GivesRows written) (c : Catalogue) (rules : KeepsRules c)
    (patterns_read : (p : Plan) → IsTrue (is_pattern p.runs) → read_plan (printed_plan p) ≡ Ok p)
    (calendars_read : (text : CalendarText) → IsSound text → read_calendar (printed_calendar text) ≡ Ok text) where
  pub all_made_of : Steps (statements_of written c) (empty_catalogue newest_format c.pages) (in_newest_format c)
  all_made_of =
      steps_join (definitions_of c) (elements_of written c) (empty_catalogue newest_format c.pages) (in_newest_format (without_elements c)) (in_newest_format c)
      (definitions_made c rules patterns_read calendars_read) (elements_made written gives c rules)
