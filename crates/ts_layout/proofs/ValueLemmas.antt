-- What definitions are in the catalogue, by names in place of slots; and series and containers without elements.
use Rattle.std.specs.Prelude.{IsPermutation}
use Rattle.std.proofs.Common.{◌≡◌, ◌≢◌, ℕ, ℤ, zero, suc, ◌+◌, ◌≤◌, ◌==◌, Bool, true, false, if◌then◌else◌, Option, Some, None, List, [], ◌∷◌, ◌++◌, map, length, set, refl, sym, ap, subst, ◌∙◌, arith, add-zero, lit≤}
use Rattle.std.specs.Option.{option_map, unwrap_or}
use Rattle.std.specs.FinMap.{insert, remove, empty, from_entries}
use Rattle.std.specs.Ordering.{int_cmp}
use Rattle.std.proofs.lemmas.Bool.Decides.{nat_tests}
use Rattle.std.proofs.lemmas.List.Sorted.{IsPermutation-refl}
use Rattle.ts_space.specs.Charge.{irregular_charge}
use Rattle.ts_cells.specs.IrregularPage.{Element}
use Rattle.ts_row.specs.declared.kind.Column.{Column}
use Rattle.ts_offset.specs.declared.shape.Shape.{Shape}
use Rattle.ts_offset.specs.declared.shape.Shape.TheVariants as shapes
use Rattle.ts_model.specs.declared.kind.Kind.{Kind}
use Rattle.ts_model.specs.declared.kind.Kind.TheVariants as kinds
use Rattle.ts_model.specs.declared.def.Def.{Def}
use Rattle.ts_calendar.specs.declared.text.PatternPart.TheVariants.{Named as ByName, Own}
use Rattle.ts_model.specs.Catalogue.{Irregular, Regular, In, with_named, without}
use Rattle.ts_model.specs.Definitions.{Definitions, RowTypeDef, PatternDef, CalendarDef, ContainerDef, SeriesDef, KindDef, to_def, table_of, name_of, slot_of, at_slot, calendar_reference, Refers}
use Rattle.ts_layout.specs.Meaning.{Layout, ElementPage, Free, Cells, elements_on, elements_of, elements_at, sheets_on, sheets_of, sum_filled, charge_on, charge_of_series, IsInSequence, name_at, part_of, text_of, container_of, kind_in, series_of, value_of, named_in, catalogue_of}
use Rattle.ts_layout.specs.Sheets.{Sheet, AreInSequence}
use Rattle.ts_layout.specs.Changed.{HasNoPage}
use Rattle.ts_layout.proofs.FilledLemmas.{slot_there}
use Rattle.ts_layout.proofs.ReferLemmas.{first_of, calendar_target, series_target}

-- the name of what stands in a slot
pub same_name_at : {A : Type 0} (name : A → List ℕ) (slot : ℕ) (table table' : List (Option A)) → at_slot slot table ≡ at_slot slot table' → name_at name slot table ≡ name_at name slot table'
same_name_at {A} name slot table table' same = ap (λ (o : Option A). unwrap_or (option_map name o) []) same

-- the name of what stands in the slot that has it
pub name_there : {A : Type 0} (name : A → List ℕ) (f : A → Def) (named : (a : A) → name_of (f a) ≡ name a) (table : List (Option A)) (q : List ℕ) (slot : ℕ) → slot_of q (map (option_map f) table) ≡ Some slot → name_at name slot table ≡ q
name_there {A} name f named table q slot is =
    let there = slot_there name f named table q slot is in
    ap (λ (o : Option A). unwrap_or (option_map name o) []) there.1 ∙ there.2

-- the part of a calendar is the same where the pattern by whose name it was made is the same
same_part : (l : Layout) (d : Definitions) (c : CalendarDef) (by : Option ℕ) → ((at : ℕ) → by ≡ Some at → at_slot at d.patterns ≡ at_slot at l.definitions.patterns) → part_of d c by ≡ part_of l.definitions c by
same_part l d c None same = refl
same_part l d c (Some at) same = ap (λ (n : List ℕ). ByName n) (same_name_at (λ (p : PatternDef). p.name) at d.patterns l.definitions.patterns (same at refl))

-- how the elements of a series lie is the same where its calendar is the same
same_kind : (l : Layout) (d : Definitions) (regular : Option (ℕ × ℤ)) → ((at : ℕ) (origin : ℤ) → regular ≡ Some (at, origin) → at_slot at d.calendars ≡ at_slot at l.definitions.calendars) → kind_in d regular ≡ kind_in l.definitions regular
same_kind l d None same = refl
same_kind l d (Some (at, origin)) same = ap (λ (n : List ℕ). Regular n origin) (same_name_at (λ (c : CalendarDef). c.name) at d.calendars l.definitions.calendars (same at origin refl))

-- a definition is the same in the catalogue where what it refers to is the same
pub same_value : (kind : Kind) (l : Layout) (d : Definitions) (i : ℕ) (a : KindDef kind) → ((target : Kind) (at : ℕ) → Refers (to_def kind a) target at → at_slot at (table_of target d) ≡ at_slot at (table_of target l.definitions))
    → value_of kind (record l { definitions = d }) i a ≡ value_of kind l i a
same_value kinds.RowType l d i r same = refl
same_value kinds.Pattern l d i p same = refl
same_value kinds.Calendar l d i c same =
    let part = same_part l d c c.by (λ at is. same kinds.Pattern at (calendar_target c at is)) in
    λ j. record { start = c.calendar.start; patt_start = c.calendar.patt_start; part = part j }
same_value kinds.Container l d i c same =
    λ j. record {
      row_type = same_name_at (λ (r : RowTypeDef). r.name) c.row_type d.row_types l.definitions.row_types (same kinds.RowType c.row_type (first_of (kinds.RowType, c.row_type) (kinds.RowType, c.row_type) [] refl)) j;
      quota = c.quota;
    }
same_value kinds.Series l d i s same =
    λ j. record {
      container = same_name_at (λ (c : ContainerDef). c.name) s.container d.containers l.definitions.containers (same kinds.Container s.container (first_of (kinds.Container, s.container) (kinds.Container, s.container) (calendar_reference s.regular) refl)) j;
      kind = same_kind l d s.regular (λ at origin is. same kinds.Calendar at (series_target s at origin is)) j;
      elements = elements_at i l.element_pages;
    }

-- a catalogue of which the names of one kind change
pub catalogue_with : (kind : Kind) (name : List ℕ) (value : In kind) (l l' : Layout) → l'.definitions.format ≡ l.definitions.format → l'.element_pages ≡ l.element_pages → named_in kind l' ≡ insert (named_in kind l) name value → ((k : Kind) → (k ≡ kind → ⊥) → named_in k l' ≡ named_in k l)
    → catalogue_of l' ≡ with_named kind name value (catalogue_of l)
catalogue_with kinds.RowType name value l l' format pages own others =
    λ j. record { format = format j; pages = length (pages j); row_types = own j; patterns = others kinds.Pattern (λ same. cc) j; calendars = others kinds.Calendar (λ same. cc) j; containers = others kinds.Container (λ same. cc) j; series = others kinds.Series (λ same. cc) j }
catalogue_with kinds.Pattern name value l l' format pages own others =
    λ j. record { format = format j; pages = length (pages j); row_types = others kinds.RowType (λ same. cc) j; patterns = own j; calendars = others kinds.Calendar (λ same. cc) j; containers = others kinds.Container (λ same. cc) j; series = others kinds.Series (λ same. cc) j }
catalogue_with kinds.Calendar name value l l' format pages own others =
    λ j. record { format = format j; pages = length (pages j); row_types = others kinds.RowType (λ same. cc) j; patterns = others kinds.Pattern (λ same. cc) j; calendars = own j; containers = others kinds.Container (λ same. cc) j; series = others kinds.Series (λ same. cc) j }
catalogue_with kinds.Container name value l l' format pages own others =
    λ j. record { format = format j; pages = length (pages j); row_types = others kinds.RowType (λ same. cc) j; patterns = others kinds.Pattern (λ same. cc) j; calendars = others kinds.Calendar (λ same. cc) j; containers = own j; series = others kinds.Series (λ same. cc) j }
catalogue_with kinds.Series name value l l' format pages own others =
    λ j. record { format = format j; pages = length (pages j); row_types = others kinds.RowType (λ same. cc) j; patterns = others kinds.Pattern (λ same. cc) j; calendars = others kinds.Calendar (λ same. cc) j; containers = others kinds.Container (λ same. cc) j; series = own j }

pub catalogue_without : (kind : Kind) (name : List ℕ) (l l' : Layout) → l'.definitions.format ≡ l.definitions.format → l'.element_pages ≡ l.element_pages → named_in kind l' ≡ remove (named_in kind l) name → ((k : Kind) → (k ≡ kind → ⊥) → named_in k l' ≡ named_in k l)
    → catalogue_of l' ≡ without kind name (catalogue_of l)
catalogue_without kinds.RowType name l l' format pages own others =
    λ j. record { format = format j; pages = length (pages j); row_types = own j; patterns = others kinds.Pattern (λ same. cc) j; calendars = others kinds.Calendar (λ same. cc) j; containers = others kinds.Container (λ same. cc) j; series = others kinds.Series (λ same. cc) j }
catalogue_without kinds.Pattern name l l' format pages own others =
    λ j. record { format = format j; pages = length (pages j); row_types = others kinds.RowType (λ same. cc) j; patterns = own j; calendars = others kinds.Calendar (λ same. cc) j; containers = others kinds.Container (λ same. cc) j; series = others kinds.Series (λ same. cc) j }
catalogue_without kinds.Calendar name l l' format pages own others =
    λ j. record { format = format j; pages = length (pages j); row_types = others kinds.RowType (λ same. cc) j; patterns = others kinds.Pattern (λ same. cc) j; calendars = own j; containers = others kinds.Container (λ same. cc) j; series = others kinds.Series (λ same. cc) j }
catalogue_without kinds.Container name l l' format pages own others =
    λ j. record { format = format j; pages = length (pages j); row_types = others kinds.RowType (λ same. cc) j; patterns = others kinds.Pattern (λ same. cc) j; calendars = others kinds.Calendar (λ same. cc) j; containers = own j; series = others kinds.Series (λ same. cc) j }
catalogue_without kinds.Series name l l' format pages own others =
    λ j. record { format = format j; pages = length (pages j); row_types = others kinds.RowType (λ same. cc) j; patterns = others kinds.Pattern (λ same. cc) j; calendars = others kinds.Calendar (λ same. cc) j; containers = others kinds.Container (λ same. cc) j; series = own j }

-- a container in which no series stands is charged nothing
pub no_charge : (pages : List ElementPage) (container room first : ℕ) (table : List (Option SeriesDef)) → ((i : ℕ) (s : SeriesDef) → at_slot i table ≡ Some s → s.container ≡ container → ⊥) → sum_filled (charge_of_series pages container room) first table ≡ 0
no_charge pages container room first [] none = refl
no_charge pages container room first (None ∷ table) none = no_charge pages container room (suc first) table (λ i s here. none (suc i) s here)
no_charge pages container room first (Some s ∷ table) none =
    let other : s.container ≢ container = none 0 s refl in
    let f : (s.container == container) ≡ false = grind (arith, nat_tests) in
    let here : charge_of_series pages container room first s ≡ 0 = rw f refl in
    omega (arith, here, no_charge pages container room (suc first) table (λ i t there. none (suc i) t there))

-- a series without a page has no elements
no_elements_on : (slot : ℕ) (e : ElementPage) → ((sheet : Sheet) → e ≡ Cells slot sheet → ⊥) → elements_on slot e ≡ []
no_elements_on slot Free none = refl
no_elements_on slot (Cells s sheet) none =
    let other : s ≢ slot = λ same. none sheet (ap (λ (n : ℕ). Cells n sheet) same) in
    let f : (s == slot) ≡ false = grind (arith, nat_tests) in
    rw f refl

pub no_elements_of : (slot : ℕ) (pages : List ElementPage) → HasNoPage slot pages → elements_of slot pages ≡ []
no_elements_of slot [] none = refl
no_elements_of slot (e ∷ pages) none = λ j. no_elements_on slot e (none 0) j ++ no_elements_of slot pages (λ i sheet is. none (suc i) sheet is) j

no_elements_at : (slot : ℕ) (pages : List ElementPage) → HasNoPage slot pages → elements_at slot pages ≡ empty
no_elements_at slot pages none = ap (λ (es : List Element). from_entries {R = int_cmp} es) (no_elements_of slot pages none)

no_sheets_on : (slot : ℕ) (e : ElementPage) → ((sheet : Sheet) → e ≡ Cells slot sheet → ⊥) → sheets_on slot e ≡ []
no_sheets_on slot Free none = refl
no_sheets_on slot (Cells s sheet) none =
    let other : s ≢ slot = λ same. none sheet (ap (λ (n : ℕ). Cells n sheet) same) in
    let f : (s == slot) ≡ false = grind (arith, nat_tests) in
    rw f refl

pub no_sheets_of : (slot : ℕ) (pages : List ElementPage) → HasNoPage slot pages → sheets_of slot pages ≡ []
no_sheets_of slot [] none = refl
no_sheets_of slot (e ∷ pages) none = λ j. no_sheets_on slot e (none 0) j ++ no_sheets_of slot pages (λ i sheet is. none (suc i) sheet is) j

none_in_sequence : (shape : Shape) (columns : List Column) → AreInSequence shape columns []
none_in_sequence shapes.Irregular columns = record { pages = tt; dense = tt }
none_in_sequence (shapes.Regular grid) columns = tt

pub no_sequence_in : (shape : Shape) (slot : ℕ) (columns : List Column) (pages : List ElementPage) → HasNoPage slot pages → IsInSequence shape slot columns pages
no_sequence_in shape slot columns pages none = record {
  sheets = [];
  is = none_in_sequence shape columns;
  all = subst (λ (sheets : List Sheet). IsPermutation [] sheets) (sym (no_sheets_of slot pages none)) (IsPermutation-refl []);
}

-- and is charged nothing
no_charge_on : (pages : List ElementPage) (room slot : ℕ) (regular : Option (ℕ × ℤ)) → HasNoPage slot pages → charge_on pages room slot regular ≡ 0
no_charge_on pages room slot None none = ap (λ (es : List Element). irregular_charge room (length es)) (no_elements_of slot pages none)
no_charge_on pages room slot (Some regular) none = ap length (no_sheets_of slot pages none)

pub no_series_charge : (pages : List ElementPage) (container room slot : ℕ) (s : SeriesDef) → HasNoPage slot pages → charge_of_series pages container room slot s ≡ 0
no_series_charge pages container room slot s none = if_zero (s.container == container) (charge_on pages room slot s.regular) (no_charge_on pages room slot s.regular none) where
  if_zero : (b : Bool) (n : ℕ) → n ≡ 0 → (if b then n else 0) ≡ 0
  if_zero true n is = is
  if_zero false n is = refl

-- a sum of which one slot adds nothing then
pub sum_filled_less : {A : Type 0} (f : ℕ → A → ℕ) (first slot : ℕ) (o : Option A) (table : List (Option A)) → ((a : A) → f (first + slot) a ≡ 0) → sum_filled f first (set table slot o) ≤ sum_filled f first table
sum_filled_less f first zero o [] none = lit≤ tt
sum_filled_less f first (suc slot) o [] none = lit≤ tt
sum_filled_less f first zero None (None ∷ table) none = omega arith
sum_filled_less f first zero None (Some b ∷ table) none = omega arith
sum_filled_less f first zero (Some a) (None ∷ table) none =
    let here : f first a ≡ 0 = subst (λ (n : ℕ). f n a ≡ 0) (add-zero first) (none a) in
    omega (arith, here)
sum_filled_less f first zero (Some a) (Some b ∷ table) none =
    let here : f first a ≡ 0 = subst (λ (n : ℕ). f n a ≡ 0) (add-zero first) (none a) in
    omega (arith, here)
sum_filled_less f first (suc slot) o (None ∷ table) none =
    let e : first + suc slot ≡ suc first + slot = omega arith in
    sum_filled_less f (suc first) slot o table (λ a. subst (λ (n : ℕ). f n a ≡ 0) e (none a))
sum_filled_less f first (suc slot) o (Some b ∷ table) none =
    let e : first + suc slot ≡ suc first + slot = omega arith in
    let rest = sum_filled_less f (suc first) slot o table (λ a. subst (λ (n : ℕ). f n a ≡ 0) e (none a)) in
    omega (arith, rest)

-- a calendar by the name of its pattern, and one with its own
pub text_named : (l : Layout) (c : CalendarDef) (slot : ℕ) (name : List ℕ) → c.by ≡ Some slot → slot_of name (map (option_map (to_def kinds.Pattern)) l.definitions.patterns) ≡ Some slot
    → text_of l.definitions c ≡ record { start = c.calendar.start; patt_start = c.calendar.patt_start; part = ByName name }
text_named l c slot name by is =
    let named = name_there (λ (p : PatternDef). p.name) (to_def kinds.Pattern) (λ p. refl) l.definitions.patterns name slot is in
    let part : part_of l.definitions c c.by ≡ ByName name = ap (part_of l.definitions c) by ∙ ap (λ (n : List ℕ). ByName n) named in
    λ j. record { start = c.calendar.start; patt_start = c.calendar.patt_start; part = part j }

pub text_own : (l : Layout) (c : CalendarDef) → c.by ≡ None → text_of l.definitions c ≡ record { start = c.calendar.start; patt_start = c.calendar.patt_start; part = Own c.calendar.pattern }
text_own l c by =
    let part : part_of l.definitions c c.by ≡ Own c.calendar.pattern = ap (part_of l.definitions c) by in
    λ j. record { start = c.calendar.start; patt_start = c.calendar.patt_start; part = part j }

-- a container by the name of its row type, and a series without a page by that of its container and, if it is regular, of its calendar
pub container_named : (l : Layout) (c : ContainerDef) (holder : List ℕ) → slot_of holder (map (option_map (to_def kinds.RowType)) l.definitions.row_types) ≡ Some c.row_type → container_of l.definitions c ≡ record { row_type = holder; quota = c.quota }
container_named l c holder is = λ j. record { row_type = name_there (λ (r : RowTypeDef). r.name) (to_def kinds.RowType) (λ r. refl) l.definitions.row_types holder c.row_type is j; quota = c.quota }

pub irregular_named : (l : Layout) (slot : ℕ) (s : SeriesDef) (holder : List ℕ) → HasNoPage slot l.element_pages → slot_of holder (map (option_map (to_def kinds.Container)) l.definitions.containers) ≡ Some s.container → s.regular ≡ None
    → series_of l slot s ≡ record { container = holder; kind = Irregular; elements = empty }
irregular_named l slot s holder none is kind =
    λ j. record {
      container = name_there (λ (c : ContainerDef). c.name) (to_def kinds.Container) (λ c. refl) l.definitions.containers holder s.container is j;
      kind = kind_in l.definitions (kind j);
      elements = no_elements_at slot l.element_pages none j;
    }

pub regular_named : (l : Layout) (slot at : ℕ) (origin : ℤ) (s : SeriesDef) (holder calendar : List ℕ) → HasNoPage slot l.element_pages
    → slot_of holder (map (option_map (to_def kinds.Container)) l.definitions.containers) ≡ Some s.container → s.regular ≡ Some (at, origin)
    → slot_of calendar (map (option_map (to_def kinds.Calendar)) l.definitions.calendars) ≡ Some at → series_of l slot s ≡ record { container = holder; kind = Regular calendar origin; elements = empty }
regular_named l slot at origin s holder calendar none is kind named =
    let name = name_there (λ (c : CalendarDef). c.name) (to_def kinds.Calendar) (λ c. refl) l.definitions.calendars calendar at named in
    let lies : kind_in l.definitions s.regular ≡ Regular calendar origin = ap (kind_in l.definitions) kind ∙ ap (λ (n : List ℕ). Regular n origin) name in
    λ j. record {
      container = name_there (λ (c : ContainerDef). c.name) (to_def kinds.Container) (λ c. refl) l.definitions.containers holder s.container is j;
      kind = lies j;
      elements = no_elements_at slot l.element_pages none j;
    }
