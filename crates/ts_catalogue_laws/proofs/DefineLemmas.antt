-- A catalogue to which a definition of a new name comes, or from which one goes that nothing uses, is one.
use Rattle.std.proofs.Common.{◌≡◌, ℕ, ℤ, ◌+◌, ◌-◌, ◌<◌, ◌≤◌, Bool, true, false, cond, ◌||◌, Option, Some, None, is_some, option_map, option_and_then, List, [], ◌∷◌, map, refl, sym, ap, subst, ◌∙◌, arith, zero-add, IsTrue}
use Rattle.std.specs.Option.{IsSome}
use Rattle.std.specs.List.{list_any}
use Rattle.std.specs.Str.{bytes_eq}
use Rattle.std.specs.FinMap.{entries, get, insert, remove, len, values, len-remove, get-entries, find}
use Rattle.std.specs.Ordering.{eq_by_cmp}
use Rattle.ts_base.specs.Name.{is_name}
use Rattle.ts_row.specs.Row.{Heading}
use Rattle.ts_pattern.specs.Patterns.{Plan}
use Rattle.ts_calendar.specs.Calendars.{CalendarPlan}
use Rattle.ts_calendar.specs.declared.text.PatternPart.{PatternPart}
use Rattle.ts_calendar.specs.declared.text.PatternPart.TheVariants.{Named as ByName, Own}
use Rattle.ts_calendar.specs.declared.text.CalendarText.{CalendarText}
use Rattle.ts_offset.specs.declared.shape.Shape.{Shape}
use Rattle.ts_offset.specs.declared.shape.Shape.TheVariants as shapes
use Rattle.ts_model.specs.declared.kind.Kind.{Kind}
use Rattle.ts_model.specs.declared.kind.Kind.TheVariants as kinds
use Rattle.ts_model.specs.Catalogue.{Named, name_cmp, Container, Regular, Series, Catalogue, pattern_of, with_plan, calendar_of, shape_of, quotas, named, with_named, without, is_named, is_on_calendar, is_used}
use Rattle.ts_model.specs.Charge.{series_charge, container_charge}
use Rattle.ts_model.specs.Definitions.{limit}
use Rattle.ts_model.proofs.OrderLemmas.{total, same_name}
use Rattle.ts_catalogue_laws.specs.Catalogue.{IsRowType, IsPattern, IsCalendar, IsContainer, IsCatalogue}
use Rattle.ts_catalogue_laws.proofs.MapLemmas.{total_of, values_total, got_inserted, got_removed, others_inserted, others_removed, other_key, few_inserted, set_total, had_total, new_total, totals_same}
use Rattle.ts_catalogue_laws.proofs.OnceLemmas.{once}
use Rattle.ts_catalogue_laws.proofs.SameLemmas.{Same, there_is, series_stays, container_stays, charge_total, weight, bytes_same, same_bytes, charge_had, charge_new, charge_without}

-- one that passes a test is among the values
passes_found : {X : Type 0} (test : X → Bool) (q : List ℕ) (v : X) (es : List (List ℕ × X)) → find name_cmp q es ≡ Some v → test v ≡ true → list_any test (map (λ e. e.1) es) ≡ true
passes_found test q v [] there so = absurd (let never : ⊥ = cc in never)
passes_found {X} test q v (e ∷ es) there so = by (eq_by_cmp name_cmp q e.0) there (λ at. passes_found test q v es at so) where
  later : (a b : Bool) → b ≡ true → (a || b) ≡ true
  later true b is = refl
  later false b is = is

  by : (b : Bool) → cond b (Some e.1) (find name_cmp q es) ≡ Some v → (find name_cmp q es ≡ Some v → list_any test (map (λ (f : List ℕ × X). f.1) es) ≡ true) → (test e.1 || list_any test (map (λ (f : List ℕ × X). f.1) es)) ≡ true
  by true at rest = let same : e.1 ≡ v = cc in ap (λ (b : Bool). b || list_any test (map (λ (f : List ℕ × X). f.1) es)) (ap test same ∙ so)
  by false at rest = later (test e.1) (list_any test (map (λ (f : List ℕ × X). f.1) es)) (rest at)

passes : {X : Type 0} (test : X → Bool) (m : Named X) (q : List ℕ) (v : X) → get m q ≡ Some v → test v ≡ true → list_any test (values m) ≡ true
passes test m q v there so = passes_found test q v (entries m) (sym (get-entries m q) ∙ there) so

-- fewer where one goes
fewer : {X : Type 0} (m : Named X) (name : List ℕ) (most : ℕ) → len m ≤ most → len (remove m name) ≤ most
fewer m name most few = by (is_some (get m name)) (len-remove total m name) where
  by : (b : Bool) → len (remove m name) ≡ cond b (len m - 1) (len m) → len (remove m name) ≤ most
  by true is = omega (arith, is)
  by false is = omega (arith, is)

module _ (cat : Catalogue) (good : IsCatalogue cat) (name : List ℕ) where
  -- row types
  module _ (h : Heading) (new : get cat.row_types name ≡ None) (is : IsRowType cat.format name h) (room : len cat.row_types < limit kinds.RowType) where
    abbrev with_row_type : Catalogue
    with_row_type = with_named kinds.RowType name h cat

    row_type_same : Same cat with_row_type
    row_type_same = record {
      rows = λ n c listed.
          let r = there_is (get cat.row_types c.row_type) (good.containers n c listed).row_type_there in
          others_inserted total same_name cat.row_types name c.row_type h (other_key total same_name cat.row_types name c.row_type r.0 new r.1);
      plans = λ n text listed. refl;
      containers = λ key s listed. refl;
      calendars = λ key s calendar origin listed kind. refl;
    }

    row_type_few : (kind : Kind) → len (named kind with_row_type) ≤ limit kind
    row_type_few kinds.RowType = few_inserted total same_name cat.row_types name h (limit kinds.RowType) room
    row_type_few kinds.Pattern = good.few kinds.Pattern
    row_type_few kinds.Calendar = good.few kinds.Calendar
    row_type_few kinds.Container = good.few kinds.Container
    row_type_few kinds.Series = good.few kinds.Series

    pub row_type_made : IsCatalogue with_row_type
    row_type_made = record {
      format = good.format;
      some_pages = good.some_pages;
      most_pages = good.most_pages;
      few = row_type_few;
      once = once with_row_type;
      row_types = λ n x listed. got_inserted total same_name (IsRowType cat.format) cat.row_types name n h x (good.row_types n) is listed;
      patterns = good.patterns;
      calendars = good.calendars;
      containers = container_stays cat with_row_type good row_type_same refl;
      quotas = good.quotas;
      series = series_stays cat with_row_type good row_type_same;
    }

  -- patterns
  module _ (p : Plan) (new : get cat.patterns name ≡ None) (is : IsPattern name p) (room : len cat.patterns < limit kinds.Pattern) where
    abbrev with_pattern : Catalogue
    with_pattern = with_named kinds.Pattern name p cat

    part_stays : (text : CalendarText) (part : PatternPart) (plan : CalendarPlan) → option_map (with_plan text) (pattern_of cat part) ≡ Some plan → pattern_of with_pattern part ≡ pattern_of cat part
    part_stays text (ByName n) plan stands = by (get cat.patterns n) refl stands where
      by : (o : Option Plan) → get cat.patterns n ≡ o → option_map (with_plan text) o ≡ Some plan → get (insert cat.patterns name p) n ≡ get cat.patterns n
      by None at stands = absurd (let never : ⊥ = cc in never)
      by (Some x) at stands = others_inserted total same_name cat.patterns name n p (other_key total same_name cat.patterns name n x new at)
    part_stays text (Own q) plan stands = refl

    pattern_same : Same cat with_pattern
    pattern_same = record {
      rows = λ n c listed. refl;
      plans = λ n text listed. let c = good.calendars n text listed in ap (option_map (with_plan text)) (part_stays text text.part c.plan c.stands);
      containers = λ key s listed. refl;
      calendars = λ key s calendar origin listed kind. refl;
    }

    pattern_few : (kind : Kind) → len (named kind with_pattern) ≤ limit kind
    pattern_few kinds.RowType = good.few kinds.RowType
    pattern_few kinds.Pattern = few_inserted total same_name cat.patterns name p (limit kinds.Pattern) room
    pattern_few kinds.Calendar = good.few kinds.Calendar
    pattern_few kinds.Container = good.few kinds.Container
    pattern_few kinds.Series = good.few kinds.Series

    pub pattern_made : IsCatalogue with_pattern
    pattern_made = record {
      format = good.format;
      some_pages = good.some_pages;
      most_pages = good.most_pages;
      few = pattern_few;
      once = once with_pattern;
      row_types = good.row_types;
      patterns = λ n x listed. got_inserted total same_name IsPattern cat.patterns name n p x (good.patterns n) is listed;
      calendars = λ n text listed. subst (λ (o : Option CalendarPlan). IsCalendar o n) (sym (pattern_same.plans n text listed)) (good.calendars n text listed);
      containers = container_stays cat with_pattern good pattern_same refl;
      quotas = good.quotas;
      series = series_stays cat with_pattern good pattern_same;
    }

  -- calendars
  module _ (text : CalendarText) (new : get cat.calendars name ≡ None) (is : IsCalendar (calendar_of cat text) name) (room : len cat.calendars < limit kinds.Calendar) where
    abbrev with_calendar : Catalogue
    with_calendar = with_named kinds.Calendar name text cat

    calendar_stays : (calendar : List ℕ) (origin : ℤ) (shape : Shape) → shape_of cat (Regular calendar origin) ≡ Some shape → get (insert cat.calendars name text) calendar ≡ get cat.calendars calendar
    calendar_stays calendar origin shape lies = by (get cat.calendars calendar) refl lies where
      by : (o : Option CalendarText) → get cat.calendars calendar ≡ o → option_map (λ (plan : CalendarPlan). shapes.Regular (record { calendar = plan; origin = origin })) (option_and_then (calendar_of cat) o) ≡ Some shape
          → get (insert cat.calendars name text) calendar ≡ get cat.calendars calendar
      by None at lies = absurd (let never : ⊥ = cc in never)
      by (Some x) at lies = others_inserted total same_name cat.calendars name calendar text (other_key total same_name cat.calendars name calendar x new at)

    calendar_same : Same cat with_calendar
    calendar_same = record {
      rows = λ n c listed. refl;
      plans = λ n x listed. refl;
      containers = λ key s listed. refl;
      calendars = λ key s calendar origin listed kind.
          let x = good.series key s listed in
          calendar_stays calendar origin x.shape (ap (shape_of cat) (sym kind) ∙ x.shape_there);
    }

    calendar_few : (kind : Kind) → len (named kind with_calendar) ≤ limit kind
    calendar_few kinds.RowType = good.few kinds.RowType
    calendar_few kinds.Pattern = good.few kinds.Pattern
    calendar_few kinds.Calendar = few_inserted total same_name cat.calendars name text (limit kinds.Calendar) room
    calendar_few kinds.Container = good.few kinds.Container
    calendar_few kinds.Series = good.few kinds.Series

    pub calendar_made : IsCatalogue with_calendar
    calendar_made = record {
      format = good.format;
      some_pages = good.some_pages;
      most_pages = good.most_pages;
      few = calendar_few;
      once = once with_calendar;
      row_types = good.row_types;
      patterns = good.patterns;
      calendars = λ n x listed. got_inserted total same_name (λ n t. IsCalendar (calendar_of cat t) n) cat.calendars name n text x (good.calendars n) is listed;
      containers = container_stays cat with_calendar good calendar_same refl;
      quotas = good.quotas;
      series = series_stays cat with_calendar good calendar_same;
    }

  -- containers
  module _ (c : Container) (new : get cat.containers name ≡ None) (word : IsTrue (is_name name)) (row_type : IsSome (get cat.row_types c.row_type)) (some : 1 ≤ c.quota)
      (fits : quotas cat + c.quota ≤ cat.pages) (room : len cat.containers < limit kinds.Container) where
    abbrev with_container : Catalogue
    with_container = with_named kinds.Container name c cat

    container_same : Same cat with_container
    container_same = record {
      rows = λ n x listed. refl;
      plans = λ n text listed. refl;
      containers = λ key s listed.
          let x = there_is (get cat.containers s.container) (good.series key s listed).container_there in
          others_inserted total same_name cat.containers name s.container c (other_key total same_name cat.containers name s.container x.0 new x.1);
      calendars = λ key s calendar origin listed kind. refl;
    }

    container_few : (kind : Kind) → len (named kind with_container) ≤ limit kind
    container_few kinds.RowType = good.few kinds.RowType
    container_few kinds.Pattern = good.few kinds.Pattern
    container_few kinds.Calendar = good.few kinds.Calendar
    container_few kinds.Container = few_inserted total same_name cat.containers name c (limit kinds.Container) room
    container_few kinds.Series = good.few kinds.Series

    quotas_more : quotas with_container ≡ c.quota + quotas cat
    quotas_more =
        values_total (λ (x : Container). x.quota) (entries (insert cat.containers name c)) ∙ set_total total same_name (λ (x : Container). x.quota) cat.containers name c
        ∙ ap (λ (n : ℕ). c.quota + n) (new_total total same_name (λ (x : Container). x.quota) cat.containers name new ∙ sym (values_total (λ (x : Container). x.quota) (entries cat.containers)))

    -- no series stands in it
    nothing : (key : List ℕ) (s : Series) → get cat.series key ≡ Some s → weight with_container name s ≡ 0
    nothing key s listed = by (bytes_eq s.container name) refl where
      by : (b : Bool) → bytes_eq s.container name ≡ b → cond b (series_charge with_container s) 0 ≡ 0
      by true tie =
          let x = there_is (get cat.containers s.container) (good.series key s listed).container_there in
          absurd (other_key total same_name cat.containers name s.container x.0 new x.1 (same_bytes s.container name tie))
      by false other = refl

    zeros : {K : Type 0} (es : List (K × Series)) → total_of (λ s. 0) es ≡ 0
    zeros [] = refl
    zeros (e ∷ es) = zero-add (total_of (λ (s : Series). 0) es) ∙ zeros es

    none_charged : container_charge name with_container ≡ 0
    none_charged = charge_total with_container name ∙ totals_same total same_name (weight with_container name) (λ s. 0) cat.series nothing ∙ zeros (entries cat.series)

    quota_most : c.quota ≤ 65536
    quota_most = let pages : cat.pages ≤ 65536 = good.most_pages in omega (arith, fits, pages)

    pub container_made : IsCatalogue with_container
    container_made = record {
      format = good.format;
      some_pages = good.some_pages;
      most_pages = good.most_pages;
      few = container_few;
      once = once with_container;
      row_types = good.row_types;
      patterns = good.patterns;
      calendars = good.calendars;
      containers = λ n x listed. got_inserted total same_name (λ n x. IsContainer (get cat.row_types x.row_type) (container_charge n with_container) n x) cat.containers name n c x
          (container_stays cat with_container good container_same refl n)
          (record { word = word; row_type_there = row_type; some = some; most = quota_most; charge = omega (arith, none_charged) }) listed;
      quotas = omega (arith, quotas_more, fits);
      series = series_stays cat with_container good container_same;
    }

  -- what nothing uses goes
  row_type_idle : is_used kinds.RowType name cat ≡ false → Same cat (without kinds.RowType name cat)
  row_type_idle idle = record {
    rows = λ n c listed. others_removed total same_name cat.row_types name c.row_type (λ same.
        let used = passes (λ (x : Container). bytes_eq x.row_type name) cat.containers n c listed (bytes_same c.row_type name same) in
        let never = sym used ∙ idle in cc);
    plans = λ n text listed. refl;
    containers = λ key s listed. refl;
    calendars = λ key s calendar origin listed kind. refl;
  }

  row_type_fewer : (kind : Kind) → len (named kind (without kinds.RowType name cat)) ≤ limit kind
  row_type_fewer kinds.RowType = fewer cat.row_types name (limit kinds.RowType) (good.few kinds.RowType)
  row_type_fewer kinds.Pattern = good.few kinds.Pattern
  row_type_fewer kinds.Calendar = good.few kinds.Calendar
  row_type_fewer kinds.Container = good.few kinds.Container
  row_type_fewer kinds.Series = good.few kinds.Series

  row_type_dropped : is_used kinds.RowType name cat ≡ false → IsCatalogue (without kinds.RowType name cat)
  row_type_dropped idle = record {
    format = good.format;
    some_pages = good.some_pages;
    most_pages = good.most_pages;
    few = row_type_fewer;
    once = once (without kinds.RowType name cat);
    row_types = λ n x listed. good.row_types n x (got_removed total same_name cat.row_types name n x listed);
    patterns = good.patterns;
    calendars = good.calendars;
    containers = container_stays cat (without kinds.RowType name cat) good (row_type_idle idle) refl;
    quotas = good.quotas;
    series = series_stays cat (without kinds.RowType name cat) good (row_type_idle idle);
  }

  part_idle : is_used kinds.Pattern name cat ≡ false → (n : List ℕ) (text : CalendarText) (part : PatternPart) → get cat.calendars n ≡ Some text → text.part ≡ part → pattern_of (without kinds.Pattern name cat) part ≡ pattern_of cat part
  part_idle idle n text (ByName q) listed is = others_removed total same_name cat.patterns name q (λ same.
      let named : is_named name text.part ≡ true = ap (is_named name) is ∙ bytes_same q name same in
      let used = passes (λ (x : CalendarText). is_named name x.part) cat.calendars n text listed named in
      let never = sym used ∙ idle in cc)
  part_idle idle n text (Own q) listed is = refl

  pattern_idle : is_used kinds.Pattern name cat ≡ false → Same cat (without kinds.Pattern name cat)
  pattern_idle idle = record {
    rows = λ n c listed. refl;
    plans = λ n text listed. ap (option_map (with_plan text)) (part_idle idle n text text.part listed refl);
    containers = λ key s listed. refl;
    calendars = λ key s calendar origin listed kind. refl;
  }

  pattern_fewer : (kind : Kind) → len (named kind (without kinds.Pattern name cat)) ≤ limit kind
  pattern_fewer kinds.RowType = good.few kinds.RowType
  pattern_fewer kinds.Pattern = fewer cat.patterns name (limit kinds.Pattern) (good.few kinds.Pattern)
  pattern_fewer kinds.Calendar = good.few kinds.Calendar
  pattern_fewer kinds.Container = good.few kinds.Container
  pattern_fewer kinds.Series = good.few kinds.Series

  pattern_dropped : is_used kinds.Pattern name cat ≡ false → IsCatalogue (without kinds.Pattern name cat)
  pattern_dropped idle = record {
    format = good.format;
    some_pages = good.some_pages;
    most_pages = good.most_pages;
    few = pattern_fewer;
    once = once (without kinds.Pattern name cat);
    row_types = good.row_types;
    patterns = λ n x listed. good.patterns n x (got_removed total same_name cat.patterns name n x listed);
    calendars = λ n text listed. subst (λ (o : Option CalendarPlan). IsCalendar o n) (sym ((pattern_idle idle).plans n text listed)) (good.calendars n text listed);
    containers = container_stays cat (without kinds.Pattern name cat) good (pattern_idle idle) refl;
    quotas = good.quotas;
    series = series_stays cat (without kinds.Pattern name cat) good (pattern_idle idle);
  }

  calendar_idle : is_used kinds.Calendar name cat ≡ false → Same cat (without kinds.Calendar name cat)
  calendar_idle idle = record {
    rows = λ n c listed. refl;
    plans = λ n text listed. refl;
    containers = λ key s listed. refl;
    calendars = λ key s calendar origin listed kind. others_removed total same_name cat.calendars name calendar (λ same.
        let on : is_on_calendar name s.kind ≡ true = ap (is_on_calendar name) kind ∙ bytes_same calendar name same in
        let used = passes (λ (x : Series). is_on_calendar name x.kind) cat.series key s listed on in
        let never = sym used ∙ idle in cc);
  }

  calendar_fewer : (kind : Kind) → len (named kind (without kinds.Calendar name cat)) ≤ limit kind
  calendar_fewer kinds.RowType = good.few kinds.RowType
  calendar_fewer kinds.Pattern = good.few kinds.Pattern
  calendar_fewer kinds.Calendar = fewer cat.calendars name (limit kinds.Calendar) (good.few kinds.Calendar)
  calendar_fewer kinds.Container = good.few kinds.Container
  calendar_fewer kinds.Series = good.few kinds.Series

  calendar_dropped : is_used kinds.Calendar name cat ≡ false → IsCatalogue (without kinds.Calendar name cat)
  calendar_dropped idle = record {
    format = good.format;
    some_pages = good.some_pages;
    most_pages = good.most_pages;
    few = calendar_fewer;
    once = once (without kinds.Calendar name cat);
    row_types = good.row_types;
    patterns = good.patterns;
    calendars = λ n text listed. good.calendars n text (got_removed total same_name cat.calendars name n text listed);
    containers = container_stays cat (without kinds.Calendar name cat) good (calendar_idle idle) refl;
    quotas = good.quotas;
    series = series_stays cat (without kinds.Calendar name cat) good (calendar_idle idle);
  }

  container_idle : is_used kinds.Container name cat ≡ false → Same cat (without kinds.Container name cat)
  container_idle idle = record {
    rows = λ n c listed. refl;
    plans = λ n text listed. refl;
    containers = λ key s listed. others_removed total same_name cat.containers name s.container (λ same.
        let used = passes (λ (x : Series). bytes_eq x.container name) cat.series key s listed (bytes_same s.container name same) in
        let never = sym used ∙ idle in cc);
    calendars = λ key s calendar origin listed kind. refl;
  }

  container_fewer : (kind : Kind) → len (named kind (without kinds.Container name cat)) ≤ limit kind
  container_fewer kinds.RowType = good.few kinds.RowType
  container_fewer kinds.Pattern = good.few kinds.Pattern
  container_fewer kinds.Calendar = good.few kinds.Calendar
  container_fewer kinds.Container = fewer cat.containers name (limit kinds.Container) (good.few kinds.Container)
  container_fewer kinds.Series = good.few kinds.Series

  quotas_less : quotas (without kinds.Container name cat) ≤ quotas cat
  quotas_less = by (get cat.containers name) refl where
    now : quotas (without kinds.Container name cat) ≡ total_of (λ (x : Container). x.quota) (entries (remove cat.containers name))
    now = values_total (λ (x : Container). x.quota) (entries (remove cat.containers name))

    by : (o : Option Container) → get cat.containers name ≡ o → quotas (without kinds.Container name cat) ≤ quotas cat
    by None none =
        let then = values_total (λ (x : Container). x.quota) (entries cat.containers) ∙ sym (new_total total same_name (λ (x : Container). x.quota) cat.containers name none) in
        omega (arith, now, then)
    by (Some c) there =
        let then = values_total (λ (x : Container). x.quota) (entries cat.containers) ∙ had_total total same_name (λ (x : Container). x.quota) cat.containers name c there in
        omega (arith, now, then)

  container_dropped : is_used kinds.Container name cat ≡ false → IsCatalogue (without kinds.Container name cat)
  container_dropped idle = record {
    format = good.format;
    some_pages = good.some_pages;
    most_pages = good.most_pages;
    few = container_fewer;
    once = once (without kinds.Container name cat);
    row_types = good.row_types;
    patterns = good.patterns;
    calendars = good.calendars;
    containers = λ n c listed. container_stays cat (without kinds.Container name cat) good (container_idle idle) refl n c (got_removed total same_name cat.containers name n c listed);
    quotas = let most : quotas cat ≤ cat.pages = good.quotas in omega (arith, quotas_less, most);
    series = series_stays cat (without kinds.Container name cat) good (container_idle idle);
  }

  series_fewer : (kind : Kind) → len (named kind (without kinds.Series name cat)) ≤ limit kind
  series_fewer kinds.RowType = good.few kinds.RowType
  series_fewer kinds.Pattern = good.few kinds.Pattern
  series_fewer kinds.Calendar = good.few kinds.Calendar
  series_fewer kinds.Container = good.few kinds.Container
  series_fewer kinds.Series = fewer cat.series name (limit kinds.Series) (good.few kinds.Series)

  less_charged : (n : List ℕ) → container_charge n (without kinds.Series name cat) ≤ container_charge n cat
  less_charged n = by (get cat.series name) refl where
    by : (o : Option Series) → get cat.series name ≡ o → container_charge n (without kinds.Series name cat) ≤ container_charge n cat
    by None none = let now = charge_without cat name n in let then = charge_new cat name n none in omega (arith, now, then)
    by (Some s) there = let now = charge_without cat name n in let then = charge_had cat name n s there in omega (arith, now, then)

  series_dropped : IsCatalogue (without kinds.Series name cat)
  series_dropped = record {
    format = good.format;
    some_pages = good.some_pages;
    most_pages = good.most_pages;
    few = series_fewer;
    once = once (without kinds.Series name cat);
    row_types = good.row_types;
    patterns = good.patterns;
    calendars = good.calendars;
    containers = λ n c listed.
        let was = good.containers n c listed in
        let most : container_charge n cat ≤ c.quota = was.charge in
        record { word = was.word; row_type_there = was.row_type_there; some = was.some; most = was.most; charge = omega (arith, most, less_charged n) };
    quotas = good.quotas;
    series = λ key s listed. good.series key s (got_removed total same_name cat.series name key s listed);
  }

  pub dropped : (kind : Kind) → is_used kind name cat ≡ false → IsCatalogue (without kind name cat)
  dropped kinds.RowType idle = row_type_dropped idle
  dropped kinds.Pattern idle = pattern_dropped idle
  dropped kinds.Calendar idle = calendar_dropped idle
  dropped kinds.Container idle = container_dropped idle
  dropped kinds.Series idle = series_dropped
