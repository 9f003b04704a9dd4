-- A series with what it stands on is a catalogue.
use Rattle.std.specs.Prelude.{All, AllPairs}
use Rattle.std.proofs.lemmas.List.Elements.{All-nil, All-cons}
use Rattle.std.proofs.lemmas.List.Kept.{AllPairs-cons}
use Rattle.std.proofs.lemmas.List.{append_assoc}
use Rattle.std.proofs.Common.{◌≡◌, ℕ, suc, ◌+◌, ◌≤◌, Bool, true, false, cond, ◌||◌, ◌&&◌, T, ℤ, ◌++◌, Option, Some, None, List, [], ◌∷◌, length, map, sum, is_some, refl, ap, sym, ◌∙◌, subst, arith, inl, inr}
use Rattle.std.specs.Prelude.{bytes_eq, option_to_list}
use Rattle.std.specs.Option.{option_map, option_and_then, unwrap_or}
use Rattle.std.specs.List.{filter, flat_map}
use Rattle.std.specs.FinMap.{entries, entries_sorted, get, get-entries, get-from_entries, len, len-entries, is_sorted}
use Rattle.std.specs.FinMap.Entries.{find-where_key, is_sorted-where_key, below_all}
use Rattle.std.specs.Ordering.{is_lt}
use Rattle.std.specs.declared.cmp.Ordering.{Ordering}
use Rattle.std.specs.declared.cmp.Ordering.TheVariants.{Less, Equal, Greater}
use Rattle.std.proofs.lemmas.Bool.{cases_Bool}
use Rattle.std.proofs.lemmas.List.Sums.{sum_by-cons}
use Rattle.ts_row.specs.declared.kind.Column.{Column}
use Rattle.ts_row.specs.Row.{Heading}
use Rattle.ts_calendar.specs.Calendars.{CalendarPlan}
use Rattle.ts_calendar.specs.declared.text.PatternPart.{PatternPart}
use Rattle.ts_calendar.specs.declared.text.PatternPart.TheVariants.{Named as ByName, Own}
use Rattle.ts_calendar.specs.declared.text.CalendarText.{CalendarText}
use Rattle.ts_offset.specs.declared.shape.Shape.{Shape}
use Rattle.ts_offset.specs.declared.shape.Shape.TheVariants as shapes
use Rattle.ts_model.specs.declared.kind.Kind.{Kind}
use Rattle.ts_model.specs.declared.kind.Kind.TheVariants as kinds
use Rattle.ts_model.specs.Definitions.{limit}
use Rattle.ts_model.specs.Catalogue.{named, Named, name_cmp, Container, SeriesKind, Irregular, Regular, Series, Catalogue, with_plan, pattern_of, calendar_of, calendar_named, shape_of, columns_of, quotas}
use Rattle.ts_model.specs.Charge.{elements_charge, series_charge, container_charge}
use Rattle.ts_model.proofs.OrderLemmas.{total, same_name, eq_ties, ties-refl, ties-same}
use Rattle.ts_catalogue_laws.specs.Catalogue.{AreOnce, IsCalendar, IsContainer, IsSeries, IsCatalogue}
use Rattle.ts_dump_laws.specs.Alone.{is_among, only, row_type_named, calendar_named_by, pattern_named_by, pattern_of_calendar, alone, SeriesStandAlone}
use Rattle.ts_dump_laws.proofs.MadeLemmas.{entries_listed}
use Rattle.ts_dump_laws.proofs.ChargeLemmas.{charged, charged_cons}
use Rattle.ts_dump_laws.proofs.MapLemmas.{replaced}
use Rattle.ts_dump_laws.proofs.RuleLemmas.{something}

-- what is left of a map
module _ {X : Type 0} (names : List (List ℕ)) (m : Named X) where
  pub only_entries : entries (only names m) ≡ filter (λ e. is_among names e.0) (entries m)
  only_entries = entries_listed (filter (λ e. is_among names e.0) (entries m)) (is_sorted-where_key name_cmp (is_among names) (entries m) (entries_sorted m))

  only_get : (name : List ℕ) → get (only names m) name ≡ cond (is_among names name) (get m name) None
  only_get name =
      get-from_entries total (filter (λ e. is_among names e.0) (entries m)) name
      ∙ find-where_key name_cmp (is_among names) name (λ other tie. ap (is_among names) (sym (same_name name other tie))) (entries m)
      ∙ ap (λ (o : Option X). cond (is_among names name) o None) (sym (get-entries m name))

  -- what is found there was there, under one of the names
  only_was : (name : List ℕ) (x : X) → get (only names m) name ≡ Some x → (get m name ≡ Some x) × (is_among names name ≡ true)
  only_was name x is = elim (cases_Bool (is_among names name)) [
    | inl among ↦ (sym (only_get name ∙ ap (λ (b : Bool). cond b (get m name) None) among) ∙ is, among)
    | inr other ↦ absurd (let no : None ≡ Some x = sym (only_get name ∙ ap (λ (b : Bool). cond b (get m name) None) other) ∙ is in cc)
  ]

  pub only_there : (name : List ℕ) → is_among names name ≡ true → get (only names m) name ≡ get m name
  only_there name among = only_get name ∙ ap (λ (b : Bool). cond b (get m name) None) among

  filter_fewer : (p : List ℕ × X → Bool) (es : List (List ℕ × X)) → length (filter p es) ≤ length es
  filter_fewer p [] = omega arith
  filter_fewer p (e ∷ es) =
      let rest = filter_fewer p es in
      elim (p e) as (λ (b : Bool). length (cond b (e ∷ filter p es) (filter p es)) ≤ suc (length es)) [ true ↦ omega (arith, rest) | false ↦ omega (arith, rest) ]

  only_fewer : len (only names m) ≤ len m
  only_fewer =
      let here = len-entries (only names m) ∙ ap (λ (es : List (List ℕ × X)). length es) only_entries in
      let fewer = filter_fewer (λ e. is_among names e.0) (entries m) in
      omega (arith, here, fewer, len-entries m)

-- one name
among_one : (name other : List ℕ) → is_among (name ∷ []) other ≡ true → name ≡ other
among_one name other is = ties-same name other (sym (eq_ties name other) ∙ first (bytes_eq name other) is)
  where
    first : (b : Bool) → (b || false) ≡ true → b ≡ true
    first true is = refl
    first false is = is

pub one_among : (name : List ℕ) (names : List (List ℕ)) → is_among (name ∷ names) name ≡ true
one_among name names = ap (λ (b : Bool). b || is_among names name) (eq_ties name name ∙ ties-refl name)

-- the quotas of fewer are no more
quotas_filtered : (p : List ℕ × Container → Bool) (es : List (List ℕ × Container)) → sum (map (λ c. c.quota) (map (λ e. e.1) (filter p es))) ≤ sum (map (λ c. c.quota) (map (λ e. e.1) es))
quotas_filtered p [] = omega arith
quotas_filtered p (e ∷ es) =
    let rest = quotas_filtered p es in
    let all = sum_by-cons (λ (n : ℕ). n) e.1.quota (map (λ (c : Container). c.quota) (map (λ (x : List ℕ × Container). x.1) es)) in
    elim (p e) as (λ (b : Bool). sum (map (λ (c : Container). c.quota) (map (λ (x : List ℕ × Container). x.1) (cond b (e ∷ filter p es) (filter p es)))) ≤ sum (map (λ (c : Container). c.quota) (map (λ (x : List ℕ × Container). x.1) (e ∷ es)))) [
      | true ↦ let one = sum_by-cons (λ (n : ℕ). n) e.1.quota (map (λ (c : Container). c.quota) (map (λ (x : List ℕ × Container). x.1) (filter p es))) in omega (arith, rest, all, one)
      | false ↦ omega (arith, rest, all)
    ]

-- no name stands twice
both : (a b : Bool) → T (a && b) → T a × T b
both true b h = (tt, h)
both false b h = absurd h

less : (r : Ordering) → T (is_lt r) → r ≡ Less
less Less h = refl
less Equal h = absurd h
less Greater h = absurd h

module _ {X : Type 0} where
  all_behind : (q : List ℕ) (es : List (List ℕ × X)) → T (below_all name_cmp q es) → All (λ (e : List ℕ × X). name_cmp q e.0 ≡ Less) es
  all_behind q [] below = All-nil (λ (e : List ℕ × X). name_cmp q e.0 ≡ Less)
  all_behind q (e ∷ es) below = All-cons (λ (f : List ℕ × X). name_cmp q f.0 ≡ Less) e es (less _ (both _ _ below).0) (all_behind q es (both _ _ below).1)

  sorted_once : (es : List (List ℕ × X)) → T (is_sorted name_cmp es) → AllPairs (λ (a b : List ℕ × X). name_cmp a.0 b.0 ≡ Less) es
  sorted_once [] sorted = λ i j d low within. absurd (omega (arith, within))
  sorted_once (e ∷ es) sorted = AllPairs-cons (λ (a b : List ℕ × X). name_cmp a.0 b.0 ≡ Less) e es (all_behind e.0 es (both _ _ sorted).0) (sorted_once es (both _ _ sorted).1)

  once : (m : Named X) → AreOnce m
  once m = sorted_once (entries m) (entries_sorted m)

module _ (key : List ℕ) (s : Series) (cat : Catalogue) (is : IsCatalogue cat) (there : get cat.series key ≡ Some s) where
  abbrev sub : Catalogue
  sub = alone key s cat

  its : IsSeries cat.format (get cat.containers s.container) (shape_of cat s.kind) (columns_of cat s) key s
  its = is.series key s there

  holder : (c : Container) × (get cat.containers s.container ≡ Some c)
  holder = something (get cat.containers s.container) its.container_there

  -- its container, and the row type of this
  same_container : get sub.containers s.container ≡ get cat.containers s.container
  same_container = only_there (s.container ∷ []) cat.containers s.container (one_among s.container [])

  row_type_kept : get sub.row_types holder.0.row_type ≡ get cat.row_types holder.0.row_type
  row_type_kept = only_there (row_type_named cat s) cat.row_types holder.0.row_type
      (ap (λ (o : Option Container). is_among (option_to_list (option_map (λ (c : Container). c.row_type) o)) holder.0.row_type) holder.1 ∙ one_among holder.0.row_type [])

  same_columns : columns_of sub s ≡ columns_of cat s
  same_columns =
      ap (λ (o : Option Container). unwrap_or (option_map (λ (h : Heading). h.columns) (option_and_then (λ (c : Container). get sub.row_types c.row_type) o)) []) (same_container ∙ holder.1)
      ∙ ap (λ (o : Option Heading). unwrap_or (option_map (λ (h : Heading). h.columns) o) []) row_type_kept
      ∙ sym (ap (λ (o : Option Container). unwrap_or (option_map (λ (h : Heading). h.columns) (option_and_then (λ (c : Container). get cat.row_types c.row_type) o)) []) holder.1)

  -- its calendar, and the pattern of this
  module _ (calendar : List ℕ) (origin : ℤ) (regular : s.kind ≡ Regular calendar origin) where
    same_text : get sub.calendars calendar ≡ get cat.calendars calendar
    same_text = only_there (calendar_named_by s.kind) cat.calendars calendar (ap (λ (k : SeriesKind). is_among (calendar_named_by k) calendar) regular ∙ one_among calendar [])

    same_pattern : (text : CalendarText) (part : PatternPart) → get cat.calendars calendar ≡ Some text → text.part ≡ part → pattern_of sub part ≡ pattern_of cat part
    same_pattern text (Own pattern) at given = refl
    same_pattern text (ByName name) at given = only_there (flat_map (pattern_of_calendar cat) (calendar_named_by s.kind)) cat.patterns name
        (ap (λ (k : SeriesKind). is_among (flat_map (pattern_of_calendar cat) (calendar_named_by k)) name) regular
        ∙ ap (λ (o : Option CalendarText). is_among (flat_map (λ (t : CalendarText). pattern_named_by t.part) (option_to_list o) ++ []) name) at
        ∙ ap (λ (p : PatternPart). is_among ((pattern_named_by p ++ []) ++ []) name) given
        ∙ one_among name [])

    same_plan : (text : CalendarText) → get cat.calendars calendar ≡ Some text → calendar_of sub text ≡ calendar_of cat text
    same_plan text at = ap (option_map (with_plan text)) (same_pattern text text.part at refl)

    same_calendar : calendar_named sub calendar ≡ calendar_named cat calendar
    same_calendar = ap (option_and_then (calendar_of sub)) same_text ∙ by (get cat.calendars calendar) refl
      where
        by : (o : Option CalendarText) → get cat.calendars calendar ≡ o → option_and_then (calendar_of sub) o ≡ option_and_then (calendar_of cat) o
        by None at = refl
        by (Some text) at = same_plan text at

  same_shape : shape_of sub s.kind ≡ shape_of cat s.kind
  same_shape = by s.kind refl
    where
      by : (kind : SeriesKind) → s.kind ≡ kind → shape_of sub kind ≡ shape_of cat kind
      by Irregular of_kind = refl
      by (Regular calendar origin) of_kind = ap (option_map (λ (plan : CalendarPlan). shapes.Regular (record { calendar = plan; origin = origin }))) (same_calendar calendar origin of_kind)

  -- what it is charged
  same_charge : series_charge sub s ≡ series_charge cat s
  same_charge = λ i. unwrap_or (option_map (λ (shape : Shape). elements_charge (same_columns i) shape s.elements) (same_shape i)) 0

  one_series : (name : List ℕ) (other : Series) → get cat.series name ≡ Some other → is_among (key ∷ []) name ≡ true → other ≡ s
  one_series name other at among =
      let same : key ≡ name = among_one key name among in
      let both_there : Some other ≡ Some s = sym at ∙ ap (get cat.series) (sym same) ∙ there in
      cc

  charged_less : (name : List ℕ) (before es : List (List ℕ × Series)) → entries cat.series ≡ before ++ es → charged sub name (filter (λ (e : List ℕ × Series). is_among (key ∷ []) e.0) es) ≤ charged cat name es
  charged_less name before [] all = omega arith
  charged_less name before (e ∷ es) all =
      let rest = charged_less name (before ++ e ∷ []) es (all ∙ sym (append_assoc before (e ∷ []) es)) in
      let more = charged_cons cat name e es in
      let at = (replaced name_cmp total cat.series before e.0 e.1 e.1 es all).0 in
      by (is_among (key ∷ []) e.0) refl at rest more
    where
      by : (b : Bool) → is_among (key ∷ []) e.0 ≡ b → get cat.series e.0 ≡ Some e.1
          → charged sub name (filter (λ (x : List ℕ × Series). is_among (key ∷ []) x.0) es) ≤ charged cat name es
          → charged cat name (e ∷ es) ≡ cond (bytes_eq e.1.container name) (series_charge cat e.1) 0 + charged cat name es
          → charged sub name (cond b (e ∷ filter (λ (x : List ℕ × Series). is_among (key ∷ []) x.0) es) (filter (λ (x : List ℕ × Series). is_among (key ∷ []) x.0) es)) ≤ charged cat name (e ∷ es)
      by false among at rest more = omega (arith, rest, more)
      by true among at rest more =
          let one = charged_cons sub name e (filter (λ (x : List ℕ × Series). is_among (key ∷ []) x.0) es) in
          let mine : e.1 ≡ s = one_series e.0 e.1 at among in
          let same : series_charge sub e.1 ≡ series_charge cat e.1 = ap (series_charge sub) mine ∙ same_charge ∙ sym (ap (series_charge cat) mine) in
          let alike = ap (λ (n : ℕ). cond (bytes_eq e.1.container name) n 0) same in
          omega (arith, rest, more, one, alike)

  charge_less : (name : List ℕ) → container_charge name sub ≤ container_charge name cat
  charge_less name =
      let here : container_charge name sub ≡ charged sub name (filter (λ (e : List ℕ × Series). is_among (key ∷ []) e.0) (entries cat.series)) = ap (charged sub name) (only_entries (key ∷ []) cat.series) in
      let less = charged_less name [] (entries cat.series) refl in
      omega (arith, here, less)

  quotas_less : quotas sub ≤ quotas cat
  quotas_less =
      let here : quotas sub ≡ sum (map (λ (c : Container). c.quota) (map (λ (e : List ℕ × Container). e.1) (filter (λ (e : List ℕ × Container). is_among (s.container ∷ []) e.0) (entries cat.containers)))) =
      ap (λ (es : List (List ℕ × Container)). sum (map (λ (c : Container). c.quota) (map (λ (e : List ℕ × Container). e.1) es))) (only_entries (s.container ∷ []) cat.containers) in
      let less = quotas_filtered (λ (e : List ℕ × Container). is_among (s.container ∷ []) e.0) (entries cat.containers) in
      omega (arith, here, less)

  few_left : (kind : Kind) → len (named kind sub) ≤ limit kind
  few_left kinds.RowType = let less = only_fewer (row_type_named cat s) cat.row_types in let all = is.few kinds.RowType in omega (arith, less, all)
  few_left kinds.Pattern = let less = only_fewer (flat_map (pattern_of_calendar cat) (calendar_named_by s.kind)) cat.patterns in let all = is.few kinds.Pattern in omega (arith, less, all)
  few_left kinds.Calendar = let less = only_fewer (calendar_named_by s.kind) cat.calendars in let all = is.few kinds.Calendar in omega (arith, less, all)
  few_left kinds.Container = let less = only_fewer (s.container ∷ []) cat.containers in let all = is.few kinds.Container in omega (arith, less, all)
  few_left kinds.Series = let less = only_fewer (key ∷ []) cat.series in let all = is.few kinds.Series in omega (arith, less, all)

  once_left : (kind : Kind) → AreOnce (named kind sub)
  once_left kind = once (named kind sub)

  -- the calendar that is left is the one of the series
  calendar_left : (name : List ℕ) (text : CalendarText) → get sub.calendars name ≡ Some text → IsCalendar (calendar_of sub text) name
  calendar_left name text at = by s.kind refl
    where
      was : (get cat.calendars name ≡ Some text) × (is_among (calendar_named_by s.kind) name ≡ true)
      was = only_was (calendar_named_by s.kind) cat.calendars name text at

      by : (kind : SeriesKind) → s.kind ≡ kind → IsCalendar (calendar_of sub text) name
      by Irregular of_kind = absurd (let never : false ≡ true = sym (ap (λ (k : SeriesKind). is_among (calendar_named_by k) name) of_kind) ∙ was.1 in cc)
      by (Regular calendar origin) of_kind =
          let same : calendar ≡ name = among_one calendar name (sym (ap (λ (k : SeriesKind). is_among (calendar_named_by k) name) of_kind) ∙ was.1) in
          subst (λ (o : Option CalendarPlan). IsCalendar o name) (sym (same_plan calendar origin of_kind text (ap (get cat.calendars) same ∙ was.0))) (is.calendars name text was.0)

  container_left : (name : List ℕ) (c : Container) → get sub.containers name ≡ Some c → IsContainer (get sub.row_types c.row_type) (container_charge name sub) name c
  container_left name c at =
      let was = only_was (s.container ∷ []) cat.containers name c at in
      let its = is.containers name c was.0 in
      let mine : s.container ≡ name = among_one s.container name was.1 in
      let same : holder.0 ≡ c = (let both_there : Some holder.0 ≡ Some c = sym holder.1 ∙ ap (get cat.containers) mine ∙ was.0 in cc) in
      let kept : get sub.row_types c.row_type ≡ get cat.row_types c.row_type = subst (λ (x : Container). get sub.row_types x.row_type ≡ get cat.row_types x.row_type) same row_type_kept in
      let less = charge_less name in
      let charge = its.charge in
      record {
        word = its.word;
        row_type_there = ap (λ (o : Option Heading). is_some o) kept ∙ its.row_type_there;
        some = its.some;
        most = its.most;
        charge = omega (arith, less, charge);
      }

  series_left : (name : List ℕ) (other : Series) → get sub.series name ≡ Some other → IsSeries sub.format (get sub.containers other.container) (shape_of sub other.kind) (columns_of sub other) name other
  series_left name other at =
      let was = only_was (key ∷ []) cat.series name other at in
      let mine : other ≡ s = one_series name other was.0 was.1 in
      let same : key ≡ name = among_one key name was.1 in
      let here : IsSeries cat.format (get sub.containers s.container) (shape_of sub s.kind) (columns_of sub s) key s =
      subst (λ (o : Option Container). IsSeries cat.format o (shape_of sub s.kind) (columns_of sub s) key s) (sym same_container)
      (subst (λ (o : Option Shape). IsSeries cat.format (get cat.containers s.container) o (columns_of sub s) key s) (sym same_shape)
      (subst (λ (cs : List Column). IsSeries cat.format (get cat.containers s.container) (shape_of cat s.kind) cs key s) (sym same_columns) its)) in
      subst (λ (k : List ℕ). IsSeries cat.format (get sub.containers other.container) (shape_of sub other.kind) (columns_of sub other) k other) same
      (subst (λ (x : Series). IsSeries cat.format (get sub.containers x.container) (shape_of sub x.kind) (columns_of sub x) key x) (sym mine) here)

  left_is : IsCatalogue sub
  left_is = record {
    format = is.format;
    some_pages = is.some_pages;
    most_pages = is.most_pages;
    few = few_left;
    once = once_left;
    row_types = λ name h at. is.row_types name h (only_was (row_type_named cat s) cat.row_types name h at).0;
    patterns = λ name p at. is.patterns name p (only_was (flat_map (pattern_of_calendar cat) (calendar_named_by s.kind)) cat.patterns name p at).0;
    calendars = calendar_left;
    containers = container_left;
    quotas = let less = quotas_less in let all = is.quotas in omega (arith, less, all);
    series = series_left;
  }

pub stand_alone : SeriesStandAlone
stand_alone key s cat is there = record { is = left_is key s cat is there; has = only_there (key ∷ []) cat.series key (one_among key []) ∙ there }
