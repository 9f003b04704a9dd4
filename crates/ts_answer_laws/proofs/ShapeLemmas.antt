-- What of a catalogue stays where a definition is made or dropped, or elements are edited: so the shapes of its series stay.
use Rattle.std.proofs.Common.{◌≡◌, ℕ, ℤ, Bool, true, false, cond, Option, Some, None, is_some, Ok, List, refl, ap, sym, ◌∙◌}
use Rattle.std.specs.Option.{option_map, option_and_then}
use Rattle.std.specs.FinMap.{get, get-insert, get-remove}
use Rattle.std.specs.Ordering.{eq_by_cmp}
use Rattle.ts_base.specs.declared.refusal.Refusal.{Refusal}
use Rattle.ts_base.specs.declared.refusal.Refusal.TheVariants as refusals
use Rattle.ts_pattern.specs.Patterns.{Plan}
use Rattle.ts_calendar.specs.Calendars.{CalendarPlan}
use Rattle.ts_calendar.specs.declared.text.PatternPart.{PatternPart}
use Rattle.ts_calendar.specs.declared.text.PatternPart.TheVariants.{Named as ByName, Own}
use Rattle.ts_calendar.specs.declared.text.CalendarText.{CalendarText}
use Rattle.ts_offset.specs.declared.shape.Shape.{Shape}
use Rattle.ts_offset.specs.declared.shape.Shape.TheVariants as shapes
use Rattle.ts_model.specs.declared.kind.Kind.{Kind}
use Rattle.ts_model.specs.declared.kind.Kind.TheVariants as kinds
use Rattle.ts_model.specs.Catalogue.{name_cmp, Named, Elements, SeriesKind, Irregular, Regular, Series, Catalogue, pattern_of, with_plan, calendar_of, calendar_named, shape_of, In, named, with_named, without, is_used}
use Rattle.ts_model.proofs.OrderLemmas.{total, ties-same}
use Rattle.ts_answer.specs.Answer.{refused_if, known, wanted, unused, a_new_name, with_elements}
use Rattle.ts_answer_laws.proofs.CameLemmas.{came}
use Rattle.ts_answer_laws.proofs.UsedLemmas.{by_calendar, on_series}
use Rattle.ts_answer_laws.proofs.WrittenLemmas.{inserted, removed}

-- what a test that was passed says
known_is : {X : Type 0} (o : Option X) (x : X) → known o ≡ Ok x → o ≡ Some x
known_is (Some y) x is = let same : y ≡ x = cc in ap Some same
known_is None x is = absurd (cc)

pub there_is : {X : Type 0} (name : List ℕ) (named : Named X) (x : X) → wanted name named ≡ Ok x → get named name ≡ Some x
unfolding wanted
there_is name named x is = known_is (get named name) x is

pub not_so : (test : Bool) (refusal : Refusal) (done : Unit {0}) → refused_if test refusal ≡ Ok done → test ≡ false
unfolding refused_if
not_so true refusal done is = absurd (cc)
not_so false refusal done is = refl

none_there : {X : Type 0} (o : Option X) → is_some o ≡ false → o ≡ None
none_there None is = refl
none_there (Some x) is = absurd (cc)

pub is_new : (kind : Kind) (name : List ℕ) (cat : Catalogue) (done : Unit {0}) → a_new_name kind name cat ≡ Ok done → get (named kind cat) name ≡ None
unfolding a_new_name unused
is_new kind name cat done is =
    let free = came (unused name (named kind cat)) _ done is in
    none_there (get (named kind cat) name) (not_so (is_some (get (named kind cat) name)) refusals.NameTaken free.0 free.1)

-- what is found once is found as the same, and nothing where another name has none
same_found : {X : Type 0} (o : Option X) (a b : X) → o ≡ Some a → o ≡ Some b → b ≡ a
same_found o a b one other = let same = sym one ∙ other in cc

other_name : {X : Type 0} (m : Named X) (name q : List ℕ) (x : X) → get m name ≡ None → get m q ≡ Some x → q ≡ name → ⊥
other_name m name q x none there same = let never = sym there ∙ ap (get m) same ∙ none in cc

found_still : {X : Type 0} (b : Bool) (o : Option X) (x : X) → cond b None o ≡ Some x → o ≡ Some x
found_still true o x is = absurd (cc)
found_still false o x is = is

mapped : {A B : Type 0} (f : A → B) (o : Option A) (b : B) → option_map f o ≡ Some b → (a : A) × (o ≡ Some a) × (Some (f a) ≡ Some b)
mapped f None b is = absurd (cc)
mapped f (Some a) b is = (a, refl, is)

chained : {A B : Type 0} (f : A → Option B) (o : Option A) (b : B) → option_and_then f o ≡ Some b → (a : A) × (o ≡ Some a) × (f a ≡ Some b)
chained f None b is = absurd (cc)
chained f (Some a) b is = (a, refl, is)

-- What of a catalogue stays: the calendars of its series, the patterns of its calendars, and the kind of a series that stays.
pub record Keeps (cat after : Catalogue) : Type 0 where
  pub calendars : (key : List ℕ) (s : Series) (calendar : List ℕ) (origin : ℤ) (text : CalendarText) → get cat.series key ≡ Some s → s.kind ≡ Regular calendar origin
      → get cat.calendars calendar ≡ Some text → get after.calendars calendar ≡ Some text
  pub patterns : (calendar : List ℕ) (text : CalendarText) (pattern : List ℕ) (plan : Plan) → get cat.calendars calendar ≡ Some text → text.part ≡ ByName pattern
      → get cat.patterns pattern ≡ Some plan → get after.patterns pattern ≡ Some plan
  pub kinds : (key : List ℕ) (s t : Series) → get cat.series key ≡ Some s → get after.series key ≡ Some t → t.kind ≡ s.kind

-- so the shapes of its series stay
module _ (cat after : Catalogue) (keeps : Keeps cat after) where
  part_stays : (part : PatternPart) (plan : Plan) → ((pattern : List ℕ) → part ≡ ByName pattern → get cat.patterns pattern ≡ Some plan → get after.patterns pattern ≡ Some plan)
      → pattern_of cat part ≡ Some plan → pattern_of after part ≡ Some plan
  part_stays (ByName pattern) plan stays is = stays pattern refl is
  part_stays (Own pattern) plan stays is = is

  text_stays : (calendar : List ℕ) (text : CalendarText) (plan : CalendarPlan) → get cat.calendars calendar ≡ Some text → calendar_of cat text ≡ Some plan → calendar_of after text ≡ Some plan
  text_stays calendar text plan listed is =
      let of = mapped (with_plan text) (pattern_of cat text.part) plan is in
      ap (option_map (with_plan text)) (part_stays text.part of.0 (λ pattern part there. keeps.patterns calendar text pattern of.0 listed part there) of.1) ∙ of.2

  calendar_stays : (key : List ℕ) (s : Series) (calendar : List ℕ) (origin : ℤ) (plan : CalendarPlan) → get cat.series key ≡ Some s → s.kind ≡ Regular calendar origin
      → calendar_named cat calendar ≡ Some plan → calendar_named after calendar ≡ Some plan
  calendar_stays key s calendar origin plan there kind is =
      let of = chained (calendar_of cat) (get cat.calendars calendar) plan is in
      ap (option_and_then (calendar_of after)) (keeps.calendars key s calendar origin of.0 there kind of.1) ∙ text_stays calendar of.0 plan of.1 of.2

  shape_stays : (key : List ℕ) (s : Series) (kind : SeriesKind) (shape : Shape) → get cat.series key ≡ Some s → s.kind ≡ kind → shape_of cat kind ≡ Some shape → shape_of after kind ≡ Some shape
  shape_stays key s Irregular shape there is gives = gives
  shape_stays key s (Regular calendar origin) shape there is gives =
      let of = mapped (λ plan. shapes.Regular (record { calendar = plan; origin = origin })) (calendar_named cat calendar) shape gives in
      ap (option_map (λ plan. shapes.Regular (record { calendar = plan; origin = origin }))) (calendar_stays key s calendar origin of.0 there is of.1) ∙ of.2

  pub shapes_stay : (key : List ℕ) (s t : Series) (shape : Shape) → get cat.series key ≡ Some s → get after.series key ≡ Some t → shape_of cat s.kind ≡ Some shape
      → (t.kind ≡ s.kind) × (shape_of after t.kind ≡ Some shape)
  shapes_stay key s t shape there left gives =
      let kind = keeps.kinds key s t there left in
      (kind, ap (shape_of after) kind ∙ shape_stays key s s.kind shape there refl gives)

module _ (cat : Catalogue) where
  same_kind : (key : List ℕ) (s t : Series) → get cat.series key ≡ Some s → get cat.series key ≡ Some t → t.kind ≡ s.kind
  same_kind key s t there left = ap (λ (x : Series). x.kind) (same_found (get cat.series key) s t there left)

  pub whole : Keeps cat cat
  whole = record { calendars = λ key s calendar origin text there kind is. is; patterns = λ calendar text pattern plan listed part is. is; kinds = same_kind }

  -- a series is put under a key at which one of its kind stands, or none
  put_kind : (b : Bool) (o : Option Series) (value s t : Series) → (b ≡ true → value.kind ≡ s.kind) → o ≡ Some s → cond b (Some value) o ≡ Some t → t.kind ≡ s.kind
  put_kind true o value s t same there left = let is : value ≡ t = cc in sym (ap (λ (x : Series). x.kind) is) ∙ same refl
  put_kind false o value s t same there left = ap (λ (x : Series). x.kind) (same_found o s t there left)

  put : (key : List ℕ) (value : Series) → ((s : Series) → get cat.series key ≡ Some s → value.kind ≡ s.kind) → Keeps cat (with_named kinds.Series key value cat)
  put key value same = record {
    calendars = λ q s calendar origin text there kind is. is;
    patterns = λ calendar text pattern plan listed part is. is;
    kinds = λ q s t there left. put_kind (eq_by_cmp name_cmp q key) (get cat.series q) value s t (λ ties. same s (ap (get cat.series) (sym (ties-same q key ties)) ∙ there)) there (sym (get-insert total cat.series key value q) ∙ left);
  }

  pub edited : (key : List ℕ) (s : Series) (elements : Elements) → wanted key cat.series ≡ Ok s → Keeps cat (with_elements key s elements cat)
  edited key s elements is = put key (record s { elements = elements }) (λ other there. same_kind key other s there (there_is key cat.series s is))

  -- a definition of a new name
  pub made : (kind : Kind) (name : List ℕ) (value : In kind) (done : Unit {0}) → a_new_name kind name cat ≡ Ok done → Keeps cat (with_named kind name value cat)
  made kinds.RowType name value done new = record { calendars = λ key s calendar origin text there kind is. is; patterns = λ calendar text pattern plan listed part is. is; kinds = same_kind }
  made kinds.Pattern name value done new = record {
    calendars = λ key s calendar origin text there kind is. is;
    patterns = λ calendar text pattern plan listed part is. inserted cat.patterns name pattern value (other_name cat.patterns name pattern plan (is_new kinds.Pattern name cat done new) is) ∙ is;
    kinds = same_kind;
  }
  made kinds.Calendar name value done new = record {
    calendars = λ key s calendar origin text there kind is. inserted cat.calendars name calendar value (other_name cat.calendars name calendar text (is_new kinds.Calendar name cat done new) is) ∙ is;
    patterns = λ calendar text pattern plan listed part is. is;
    kinds = same_kind;
  }
  made kinds.Container name value done new = record { calendars = λ key s calendar origin text there kind is. is; patterns = λ calendar text pattern plan listed part is. is; kinds = same_kind }
  made kinds.Series name value done new = put name value (λ s there. absurd (let never = sym there ∙ is_new kinds.Series name cat done new in cc))

  -- one that nothing uses goes
  pub dropped : (kind : Kind) (name : List ℕ) → is_used kind name cat ≡ false → Keeps cat (without kind name cat)
  dropped kinds.RowType name idle = record { calendars = λ key s calendar origin text there kind is. is; patterns = λ calendar text pattern plan listed part is. is; kinds = same_kind }
  dropped kinds.Pattern name idle = record {
    calendars = λ key s calendar origin text there kind is. is;
    patterns = λ calendar text pattern plan listed part is. removed cat.patterns name pattern (λ same.
        let used = by_calendar name cat (record { key = calendar; text = text; listed = listed; part = part ∙ ap ByName same }) in
        let never = sym used ∙ idle in cc) ∙ is;
    kinds = same_kind;
  }
  dropped kinds.Calendar name idle = record {
    calendars = λ key s calendar origin text there kind is. removed cat.calendars name calendar (λ same.
        let used = on_series name cat (record { key = key; series = s; listed = there; origin = origin; kind = kind ∙ ap (λ (q : List ℕ). Regular q origin) same }) in
        let never = sym used ∙ idle in cc) ∙ is;
    patterns = λ calendar text pattern plan listed part is. is;
    kinds = same_kind;
  }
  dropped kinds.Container name idle = record { calendars = λ key s calendar origin text there kind is. is; patterns = λ calendar text pattern plan listed part is. is; kinds = same_kind }
  dropped kinds.Series name idle = record {
    calendars = λ key s calendar origin text there kind is. is;
    patterns = λ calendar text pattern plan listed part is. is;
    kinds = λ key s t there left. same_kind key s t there (found_still (eq_by_cmp name_cmp key name) (get cat.series key) t (sym (get-remove total cat.series name key) ∙ left));
  }
