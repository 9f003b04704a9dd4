-- The definitions as five tables: what each is of the whole, and what a slot of one changes.
use Rattle.std.proofs.Common.{◌≡◌, ℕ, zero, suc, ◌<◌, Bool, true, Option, Some, None, List, [], ◌∷◌, length, set, map, replicate, inl, inr, ◌⊎◌, refl, ap, sym, ◌∙◌, subst, arith, length-set, set-set}
use Rattle.std.proofs.lemmas.List.{length-map, length-replicate}
use Rattle.std.specs.Option.{IfSome, IsSome, option_map, option_and_then}
use Rattle.ts_model.specs.declared.def.Def.{Def}
use Rattle.ts_model.specs.declared.def.Def.TheVariants as defs
use Rattle.ts_model.specs.declared.kind.Kind.{Kind}
use Rattle.ts_model.specs.declared.kind.Kind.TheVariants as kinds
use Rattle.ts_model.specs.declared.defs.Defs.TheInside.{Inside}
use Rattle.ts_model.specs.Definitions.{Definitions, Tables, KindDef, slots, has_room, at_slot, name_of, name_in, kind_of, to_def, from_def, table_of, with_table, with_format, with_slot, def_at, limit, no_definitions, IsTable, IsNewName, IsFormat, IsDefinitions}
use Rattle.ts_model.specs.Table.{Slots, AreApart}
use Rattle.ts_model.specs.Parts.{tables_of, AreOfKind, IsPart, AreParts}
use Rattle.ts_model.proofs.SlotLemmas.{some≢none, find-missing}
use Rattle.ts_model.proofs.TableLemmas.{slot_of-find, new-name, apart-clear, apart-fill, at-filled, at-other, none-in}

same-def : (a b : Def) → Some a ≡ Some b → a ≡ b
same-def a b e = cc

-- a definition as one of its kind, and back
back-own : (d : Def) → option_map (to_def (kind_of d)) (from_def (kind_of d) d) ≡ Some d
back-own (defs.RowType name kind) = refl
back-own (defs.Pattern name pattern) = refl
back-own (defs.Calendar name calendar by) = refl
back-own (defs.Container name row_type quota) = refl
back-own (defs.Series key container regular) = refl

pub back : (kind : Kind) (d : Def) → kind_of d ≡ kind → option_map (to_def kind) (from_def kind d) ≡ Some d
back kind d is = subst (λ (k : Kind). option_map (to_def k) (from_def k d) ≡ Some d) is (back-own d)

-- one of a kind as a definition, and back
pub forth : (kind : Kind) (a : KindDef kind) → from_def kind (to_def kind a) ≡ Some a
forth kinds.RowType a = refl
forth kinds.Pattern a = refl
forth kinds.Calendar a = refl
forth kinds.Container a = refl
forth kinds.Series a = refl

-- the tables of kinds, of which one is another
pub table-here : (kind : Kind) (table : List (Option (KindDef kind))) (d : Definitions) → table_of kind (with_table kind table d) ≡ table
table-here kinds.RowType table d = refl
table-here kinds.Pattern table d = refl
table-here kinds.Calendar table d = refl
table-here kinds.Container table d = refl
table-here kinds.Series table d = refl

pub table-other : (kind other : Kind) (table : List (Option (KindDef kind))) (d : Definitions) → (other ≡ kind → ⊥) → table_of other (with_table kind table d) ≡ table_of other d
table-other kinds.RowType kinds.RowType table d differs = absurd (differs refl)
table-other kinds.RowType kinds.Pattern table d differs = refl
table-other kinds.RowType kinds.Calendar table d differs = refl
table-other kinds.RowType kinds.Container table d differs = refl
table-other kinds.RowType kinds.Series table d differs = refl
table-other kinds.Pattern kinds.RowType table d differs = refl
table-other kinds.Pattern kinds.Pattern table d differs = absurd (differs refl)
table-other kinds.Pattern kinds.Calendar table d differs = refl
table-other kinds.Pattern kinds.Container table d differs = refl
table-other kinds.Pattern kinds.Series table d differs = refl
table-other kinds.Calendar kinds.RowType table d differs = refl
table-other kinds.Calendar kinds.Pattern table d differs = refl
table-other kinds.Calendar kinds.Calendar table d differs = absurd (differs refl)
table-other kinds.Calendar kinds.Container table d differs = refl
table-other kinds.Calendar kinds.Series table d differs = refl
table-other kinds.Container kinds.RowType table d differs = refl
table-other kinds.Container kinds.Pattern table d differs = refl
table-other kinds.Container kinds.Calendar table d differs = refl
table-other kinds.Container kinds.Container table d differs = absurd (differs refl)
table-other kinds.Container kinds.Series table d differs = refl
table-other kinds.Series kinds.RowType table d differs = refl
table-other kinds.Series kinds.Pattern table d differs = refl
table-other kinds.Series kinds.Calendar table d differs = refl
table-other kinds.Series kinds.Container table d differs = refl
table-other kinds.Series kinds.Series table d differs = absurd (differs refl)

-- another table leaves the format, and another format the tables
pub format-stays : (kind : Kind) (slot : ℕ) (def : Option Def) (d : Definitions) → (with_slot kind slot def d).format ≡ d.format
format-stays kinds.RowType slot def d = refl
format-stays kinds.Pattern slot def d = refl
format-stays kinds.Calendar slot def d = refl
format-stays kinds.Container slot def d = refl
format-stays kinds.Series slot def d = refl

pub tables-stay : (kind : Kind) (format : ℕ) (d : Definitions) → table_of kind (with_format format d) ≡ table_of kind d
tables-stay kinds.RowType format d = refl
tables-stay kinds.Pattern format d = refl
tables-stay kinds.Calendar format d = refl
tables-stay kinds.Container format d = refl
tables-stay kinds.Series format d = refl

-- a kind is another one or the same
pub same_or_other : (a b : Kind) → (a ≡ b) ⊎ (a ≡ b → ⊥)
same_or_other kinds.RowType kinds.RowType = inl refl
same_or_other kinds.RowType kinds.Pattern = inr (λ same. cc)
same_or_other kinds.RowType kinds.Calendar = inr (λ same. cc)
same_or_other kinds.RowType kinds.Container = inr (λ same. cc)
same_or_other kinds.RowType kinds.Series = inr (λ same. cc)
same_or_other kinds.Pattern kinds.RowType = inr (λ same. cc)
same_or_other kinds.Pattern kinds.Pattern = inl refl
same_or_other kinds.Pattern kinds.Calendar = inr (λ same. cc)
same_or_other kinds.Pattern kinds.Container = inr (λ same. cc)
same_or_other kinds.Pattern kinds.Series = inr (λ same. cc)
same_or_other kinds.Calendar kinds.RowType = inr (λ same. cc)
same_or_other kinds.Calendar kinds.Pattern = inr (λ same. cc)
same_or_other kinds.Calendar kinds.Calendar = inl refl
same_or_other kinds.Calendar kinds.Container = inr (λ same. cc)
same_or_other kinds.Calendar kinds.Series = inr (λ same. cc)
same_or_other kinds.Container kinds.RowType = inr (λ same. cc)
same_or_other kinds.Container kinds.Pattern = inr (λ same. cc)
same_or_other kinds.Container kinds.Calendar = inr (λ same. cc)
same_or_other kinds.Container kinds.Container = inl refl
same_or_other kinds.Container kinds.Series = inr (λ same. cc)
same_or_other kinds.Series kinds.RowType = inr (λ same. cc)
same_or_other kinds.Series kinds.Pattern = inr (λ same. cc)
same_or_other kinds.Series kinds.Calendar = inr (λ same. cc)
same_or_other kinds.Series kinds.Container = inr (λ same. cc)
same_or_other kinds.Series kinds.Series = inl refl

-- the rules of each table, and of all
pub table-rules : (d : Definitions) → IsDefinitions d → (kind : Kind) → IsTable (name_in kind) (limit kind) (table_of kind d)
table-rules d rules kinds.RowType = rules.row_types
table-rules d rules kinds.Pattern = rules.patterns
table-rules d rules kinds.Calendar = rules.calendars
table-rules d rules kinds.Container = rules.containers
table-rules d rules kinds.Series = rules.series

pub all-rules : (d : Definitions) → IsFormat d.format → ((kind : Kind) → IsTable (name_in kind) (limit kind) (table_of kind d)) → IsDefinitions d
all-rules d format each = record {
  format = format;
  row_types = each kinds.RowType;
  patterns = each kinds.Pattern;
  calendars = each kinds.Calendar;
  containers = each kinds.Container;
  series = each kinds.Series;
}

-- tables are one by one those of definitions
pub all-tables : (d e : Definitions) → d.format ≡ e.format → ((kind : Kind) → table_of kind d ≡ table_of kind e) → d ≡ e
all-tables d e format each = λ i. record {
  format = format i;
  row_types = each kinds.RowType i;
  patterns = each kinds.Pattern i;
  calendars = each kinds.Calendar i;
  containers = each kinds.Container i;
  series = each kinds.Series i;
}

-- a table of definitions of one kind, read as the kind's own
module _ (kind : Kind) where
  abbrev pub own-table : List (Option Def) → List (Option (KindDef kind))
  own-table table = map (option_and_then (from_def kind)) table

  of-kind-rest : (x : Option Def) (table : List (Option Def)) → AreOfKind kind (x ∷ table) → AreOfKind kind table
  of-kind-rest x table all i def here = all (suc i) def here

  -- what is read is written as the same table
  pub read-back : (table : List (Option Def)) → AreOfKind kind table → map (option_map (to_def kind)) (own-table table) ≡ table
  read-back [] all = refl
  read-back (None ∷ table) all = ap (λ (l : List (Option Def)). None ∷ l) (read-back table (of-kind-rest None table all))
  read-back (Some d ∷ table) all = λ i. back kind d (all 0 d refl) i ∷ read-back table (of-kind-rest (Some d) table all) i

  at-read : (table : List (Option Def)) (i : ℕ) → at_slot i (own-table table) ≡ option_and_then (from_def kind) (at_slot i table)
  at-read [] i = refl
  at-read (x ∷ table) zero = refl
  at-read (x ∷ table) (suc i) = at-read table i

  some-read : (o : Option Def) (a : KindDef kind) → option_and_then (from_def kind) o ≡ Some a → (d : Def) × (o ≡ Some d) × (from_def kind d ≡ Some a)
  some-read None a h = absurd (some≢none a (sym h))
  some-read (Some d) a h = (d, refl, h)

  -- what is read has the same name
  read-name : (d : Def) (a : KindDef kind) → kind_of d ≡ kind → from_def kind d ≡ Some a → name_of d ≡ name_in kind a
  read-name d a is h = ap name_of (same-def d (to_def kind a) (sym (back kind d is) ∙ ap (option_map (to_def kind)) h))

  -- no name twice, of what is read
  pub read-table : (count : ℕ) (table : List (Option Def)) → AreOfKind kind table → IsTable name_of count table → IsTable (name_in kind) count (own-table table)
  read-table count table all rules = record {
    size = length-map table (option_and_then (from_def kind)) ∙ rules.size;
    apart = λ i j a b here there same.
        let first = some-read (at_slot i table) a (sym (at-read table i) ∙ here) in
        let second = some-read (at_slot j table) b (sym (at-read table j) ∙ there) in
        rules.apart i j first.0 second.0 first.1 second.1
        (read-name first.0 a (all i first.0 first.1) first.2 ∙ same ∙ sym (read-name second.0 b (all j second.0 second.1) second.2));
  }

  pub read-set : (table : List (Option Def)) (i : ℕ) (x : Option Def) → own-table (set table i x) ≡ set (own-table table) i (option_and_then (from_def kind) x)
  read-set [] i x = refl
  read-set (y ∷ table) zero x = refl
  read-set (y ∷ table) (suc i) x = ap (λ (l : List (Option (KindDef kind))). option_and_then (from_def kind) y ∷ l) (read-set table i x)

  pub read-none : (n : ℕ) → own-table (replicate n None) ≡ replicate n None
  read-none zero = refl
  read-none (suc n) = ap (λ (l : List (Option (KindDef kind))). None ∷ l) (read-none n)

-- a table of one kind with one slot set
part-apart : (table : List (Option Def)) (slot : ℕ) (def : Option Def) → slot < length table → AreApart table → IfSome def (λ d. IsNewName (name_of d) slot table) → AreApart (set table slot def)
part-apart table slot None within apart new = apart-clear table slot apart
part-apart table slot (Some d) within apart new =
    let size = length-set table slot (let o : Option Def = None in o) in
    let none = slot_of-find (set table slot None) (name_of d) ∙ new-name table slot (name_of d) apart new in
    subst AreApart (set-set table slot None (Some d))
    (apart-fill (set table slot None) slot d (omega (arith, size, within)) (apart-clear table slot apart)
    (λ i b here same. find-missing name_of (λ slot def. slot) (set table slot None) 0 (name_of d) none i b here same))

part-kinds : (kind : Kind) (table : List (Option Def)) (slot : ℕ) (def : Option Def) → slot < length table → AreOfKind kind table → IfSome def (λ d. kind_of d ≡ kind) → AreOfKind kind (set table slot def)
part-kinds kind table slot None within all is i d here = all i d (at-other table slot i d here).1
part-kinds kind table slot (Some a) within all is i d here = elim (at-filled table slot i a d within here) [
  | inl one ↦ ap kind_of one.1 ∙ is
  | inr one ↦ all i d one.1
]

pub part-set : (kind : Kind) (t : Slots) (slot : ℕ) (def : Option Def) → IsPart kind t → slot < limit kind → IfSome def (λ d. kind_of d ≡ kind) → IfSome def (λ d. IsNewName (name_of d) slot t.slots) → IsPart kind (record t { slots = set t.slots slot def })
part-set kind t slot def part below is new =
    let size = part.rules.size in
    let within : slot < length t.slots = omega (arith, size, below) in
    record {
      count = part.count;
      kinds = part-kinds kind t.slots slot def within part.kinds is;
      rules = record { size = length-set t.slots slot def ∙ size; apart = part-apart t.slots slot def within part.rules.apart new };
    }

-- an empty table
pub part-new : (kind : Kind) (count : ℕ) (room : Bool) → count ≡ limit kind → IsPart kind (record { count = count; slots = replicate count None; room = room })
part-new kind count room is = record {
  count = is;
  kinds = λ i def here. absurd (some≢none def (sym here ∙ none-in count i));
  rules = record {
    size = length-replicate count (let o : Option Def = None in o) ∙ is;
    apart = λ i j a b here there same. absurd (some≢none a (sym here ∙ none-in count i));
  };
}

-- the table of a kind, among those that are kept, and the tables with another one of a kind
abbrev pub part : Kind → Inside → Slots
part kinds.RowType t = t.row_types
part kinds.Pattern t = t.patterns
part kinds.Calendar t = t.calendars
part kinds.Container t = t.containers
part kinds.Series t = t.series

abbrev pub with_part : Kind → Slots → Inside → Inside
with_part kinds.RowType table t = record t { row_types = table }
with_part kinds.Pattern table t = record t { patterns = table }
with_part kinds.Calendar table t = record t { calendars = table }
with_part kinds.Container table t = record t { containers = table }
with_part kinds.Series table t = record t { series = table }

-- what is kept as contracts see it, and its rules
abbrev pub read : Inside → Tables
read t = tables_of t.format t.row_types t.patterns t.calendars t.containers t.series

abbrev pub AreKept : Inside → Type 0
AreKept t = AreParts t.format t.row_types t.patterns t.calendars t.containers t.series

part-rules : (kind : Kind) (t : Inside) → AreKept t → IsPart kind (part kind t)
part-rules kinds.RowType t parts = parts.of_row_types
part-rules kinds.Pattern t parts = parts.of_patterns
part-rules kinds.Calendar t parts = parts.of_calendars
part-rules kinds.Container t parts = parts.of_containers
part-rules kinds.Series t parts = parts.of_series

part-put : (kind : Kind) (t : Inside) (table : Slots) → AreKept t → IsPart kind table → AreKept (with_part kind table t)
part-put kinds.RowType t table parts new = record { format = parts.format; of_row_types = new; of_patterns = parts.of_patterns; of_calendars = parts.of_calendars; of_containers = parts.of_containers; of_series = parts.of_series }
part-put kinds.Pattern t table parts new = record { format = parts.format; of_row_types = parts.of_row_types; of_patterns = new; of_calendars = parts.of_calendars; of_containers = parts.of_containers; of_series = parts.of_series }
part-put kinds.Calendar t table parts new = record { format = parts.format; of_row_types = parts.of_row_types; of_patterns = parts.of_patterns; of_calendars = new; of_containers = parts.of_containers; of_series = parts.of_series }
part-put kinds.Container t table parts new = record { format = parts.format; of_row_types = parts.of_row_types; of_patterns = parts.of_patterns; of_calendars = parts.of_calendars; of_containers = new; of_series = parts.of_series }
part-put kinds.Series t table parts new = record { format = parts.format; of_row_types = parts.of_row_types; of_patterns = parts.of_patterns; of_calendars = parts.of_calendars; of_containers = parts.of_containers; of_series = new }

part-read : (kind : Kind) (t : Inside) → table_of kind (read t).definitions ≡ own-table kind (part kind t).slots
part-read kinds.RowType t = refl
part-read kinds.Pattern t = refl
part-read kinds.Calendar t = refl
part-read kinds.Container t = refl
part-read kinds.Series t = refl

part-room : (kind : Kind) (t : Inside) → (part kind t).room ≡ has_room kind (read t).room
part-room kinds.RowType t = refl
part-room kinds.Pattern t = refl
part-room kinds.Calendar t = refl
part-room kinds.Container t = refl
part-room kinds.Series t = refl

part-write : (kind : Kind) (t : Inside) (table : Slots) → (read (with_part kind table t)).definitions ≡ with_table kind (own-table kind table.slots) (read t).definitions
part-write kinds.RowType t table = refl
part-write kinds.Pattern t table = refl
part-write kinds.Calendar t table = refl
part-write kinds.Container t table = refl
part-write kinds.Series t table = refl

-- the rules of all tables, as they are kept
pub parts-rules : (t : Inside) (seen : Tables) → AreKept t → read t ≡ seen → IsDefinitions seen.definitions
parts-rules t seen parts is = subst (λ (s : Tables). IsDefinitions s.definitions) is
    (all-rules (read t).definitions parts.format (λ kind.
    let here = part-rules kind t parts in
    subst (IsTable (name_in kind) (limit kind)) (sym (part-read kind t)) (read-table kind (limit kind) (part kind t).slots here.kinds here.rules)))

-- the slots of a kind, and what a slot that is set changes
module _ (kind given : Kind) (t : Inside) (seen : Tables) (parts : AreKept t) (same : given ≡ kind) (is : read t ≡ seen) where
  pub part-slots : (part kind t).slots ≡ slots given seen.definitions
  part-slots =
      sym (read-back kind (part kind t).slots (part-rules kind t parts).kinds)
      ∙ sym (ap (λ (l : List (Option (KindDef kind))). map (option_map (to_def kind)) l) (part-read kind t))
      ∙ (λ i. slots (sym same i) (is i).definitions)

  pub part-name : (slot : ℕ) (def : Option Def) → IfSome def (λ d. IsNewName (name_of d) slot (slots given seen.definitions)) → IfSome def (λ d. IsNewName (name_of d) slot (part kind t).slots)
  part-name slot def new = subst (λ (l : List (Option Def)). IfSome def (λ d. IsNewName (name_of d) slot l)) (sym part-slots) new

  pub part-has-room : (slot : ℕ) (def : Option Def) → (IsSome def → (has_room given seen.room ≡ true) ⊎ IsSome (at_slot slot (slots given seen.definitions))) → IsSome def → ((part kind t).room ≡ true) ⊎ IsSome (at_slot slot (part kind t).slots)
  part-has-room slot def room some = elim (room some) [
    | inl had ↦ inl (part-room kind t ∙ (λ i. has_room (sym same i) (is i).room) ∙ had)
    | inr filled ↦ inr (subst (λ (l : List (Option Def)). IsSome (at_slot slot l)) (sym part-slots) filled)
  ]

  pub part-kept : (slot : ℕ) (def : Option Def) (new : Slots) → slot < limit given → IfSome def (λ d. kind_of d ≡ given) → IfSome def (λ d. IsNewName (name_of d) slot (slots given seen.definitions)) → new ≡ record (part kind t) { slots = set (part kind t).slots slot def } → AreKept (with_part kind new t)
  part-kept slot def new below of name set-to =
      let near = subst (λ (k : Kind). slot < limit k) same below in
      let own = subst (λ (k : Kind). IfSome def (λ d. kind_of d ≡ k)) same of in
      part-put kind t new parts (subst (IsPart kind) (sym set-to) (part-set kind (part kind t) slot def (part-rules kind t parts) near own (part-name slot def name)))

  pub part-slot : (slot : ℕ) (def : Option Def) (new : Slots) → new ≡ record (part kind t) { slots = set (part kind t).slots slot def } → (read (with_part kind new t)).definitions ≡ with_slot given slot def seen.definitions
  part-slot slot def new set-to =
      part-write kind t new
      ∙ (λ i. with_table kind (own-table kind (set-to i).slots) (read t).definitions)
      ∙ (λ i. with_table kind (read-set kind (part kind t).slots slot def i) (read t).definitions)
      ∙ sym (λ i. with_table kind (set (part-read kind t i) slot (option_and_then (from_def kind) def)) (read t).definitions)
      ∙ (λ i. with_slot (sym same i) slot def (is i).definitions)

-- where nothing is defined, each table is empty
pub empty-table : (kind : Kind) → table_of kind no_definitions ≡ replicate (limit kind) None
empty-table kinds.RowType = refl
empty-table kinds.Pattern = refl
empty-table kinds.Calendar = refl
empty-table kinds.Container = refl
empty-table kinds.Series = refl

none-defined : (kind : Kind) (n slot : ℕ) → at_slot slot (map (option_map (to_def kind)) (replicate n None)) ≡ None
none-defined kind zero slot = refl
none-defined kind (suc n) zero = refl
none-defined kind (suc n) (suc slot) = none-defined kind n slot

pub nothing-defined : (kind : Kind) (slot : ℕ) → def_at kind slot no_definitions ≡ None
nothing-defined kind slot = ap (λ (t : List (Option (KindDef kind))). at_slot slot (map (option_map (to_def kind)) t)) (empty-table kind) ∙ none-defined kind (limit kind) slot
