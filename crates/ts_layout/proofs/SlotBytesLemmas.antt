-- No two definitions have one slot's bytes, but for the runs of calendars that were made by a pattern's name.
use Rattle.std.proofs.Common.{◌≡◌, ◌≢◌, ℕ, ℤ, ◌<◌, ◌≤◌, ◌^◌, Option, Some, None, List, [], ◌∷◌, ◌++◌, length, take, drop, get_or, ◌==◌, if◌then◌else◌, refl, sym, ap, ◌∙◌, arith, lit≤}
use Rattle.std.specs.Option.{IfSome, option_map}
use Rattle.std.specs.Int.{w32, from_be_bytes}
use Rattle.ts_page.specs.Pages.{zero_page}
use Rattle.ts_row.specs.Row.{Heading}
use Rattle.ts_row.specs.declared.kind.Column.{Column}
use Rattle.ts_row.specs.declared.kind.ColumnKind.{ColumnKind}
use Rattle.ts_row.specs.declared.kind.ColumnKind.TheVariants.{SmallInt, Integer, BigInt, Decimal, VarChar}
use Rattle.ts_model.specs.declared.kind.Kind.{Kind}
use Rattle.ts_model.specs.declared.kind.Kind.TheVariants as kinds
use Rattle.ts_model.specs.declared.def.Def.{Def}
use Rattle.ts_model.specs.declared.def.Def.TheVariants as defs
use Rattle.ts_model.specs.Definitions.{PatternDef, CalendarDef, SeriesDef, of_calendar, of_series, at_slot, kind_of}
use Rattle.ts_layout.specs.Slot.{kind_bytes, column_bytes, columns_bytes, row_type_bytes, pattern_bytes, calendar_bytes, container_bytes, padded, series_code, regular_bytes, series_bytes, def_bytes, slot_bytes}
use Rattle.ts_layout.specs.Meaning.{IsRowTypeDef, IsContainerDef, IsRegularPart, IsSeriesDef, IsDef, IsSlotOf, Follows}
use Rattle.ts_layout.proofs.FieldLemmas.{length-name, name_one, container_name, container_row_type, container_quota, series_first, series_length, series_key, series_container, series_regular, regular_calendar, regular_origin, row_type_name, row_type_stamp, row_type_count}
use Rattle.ts_layout.proofs.LimitLemmas.{length-key}
use Rattle.ts_layout.proofs.ColumnLemmas.{AreNamed, first_column, named_first, named_others, column_kind, column_name, behind_stamp}
use Rattle.ts_layout.proofs.SlotLemmas.{slot_filled}
use Rattle.ts_layout.proofs.CalendarBytesLemmas.{as_written, pattern_one, stamp_one, calendar_written, calendar_one}

-- of types of columns
kind_in : ℕ → ℕ → ℕ → ColumnKind
kind_in code first second =
    if code == 1 then SmallInt else (if code == 2 then Integer else (if code == 3 then BigInt else (if code == 4 then Decimal first second else VarChar first)))

kind_of_bytes : List ℕ → ColumnKind
kind_of_bytes bytes = kind_in (get_or bytes 0 0) (get_or bytes 1 0) (get_or bytes 2 0)

kind_back : (kind : ColumnKind) → kind_of_bytes (kind_bytes kind) ≡ kind
unfolding kind_of_bytes kind_in
kind_back SmallInt = refl
kind_back Integer = refl
kind_back BigInt = refl
kind_back (Decimal digits scale) = refl
kind_back (VarChar most) = refl

-- of columns
column_one : (a b : Column) → column_bytes a ≡ column_bytes b → a ≡ b
column_one a b same =
    let kinds : kind_bytes a.kind ≡ kind_bytes b.kind = column_kind a (column_bytes a) refl ∙ sym (column_kind b (column_bytes a) same) in
    let kind : a.kind ≡ b.kind = sym (kind_back a.kind) ∙ ap kind_of_bytes kinds ∙ kind_back b.kind in
    let name : a.name ≡ b.name = name_one a.name b.name (sym (column_name a (column_bytes a) refl) ∙ column_name b (column_bytes a) same) in
    λ i. record { name = name i; kind = kind i }

columns_one : (cs ds : List Column) (bytes rest more : List ℕ) → length cs ≡ length ds → AreNamed cs → AreNamed ds → bytes ≡ columns_bytes cs ++ rest → bytes ≡ columns_bytes ds ++ more → cs ≡ ds
columns_one [] [] bytes rest more long named named' is is' = refl
columns_one [] (d ∷ ds) bytes rest more long named named' is is' = absurd (omega arith)
columns_one (c ∷ cs) [] bytes rest more long named named' is is' = absurd (omega arith)
columns_one (c ∷ cs) (d ∷ ds) bytes rest more long named named' is is' =
    let first = first_column c cs rest bytes (named_first c cs named) is in
    let second = first_column d ds more bytes (named_first d ds named') is' in
    let same : c ≡ d = column_one c d (sym first.0 ∙ second.0) in
    let others : cs ≡ ds = columns_one cs ds (drop 36 bytes) rest more (omega arith) (named_others c cs named) (named_others d ds named') first.1 second.1 in
    λ i. same i ∷ others i

-- of definitions
row_type_one : {f g : ℕ} (name : List ℕ) (h : Heading) (name' : List ℕ) (h' : Heading) → IsRowTypeDef f (record { name = name; heading = h }) → IsRowTypeDef g (record { name = name'; heading = h' })
    → row_type_bytes name h ≡ row_type_bytes name' h' → defs.RowType name h ≡ defs.RowType name' h'
row_type_one name h name' h' is is' same =
    let short = length-name name is.name in
    let short' = length-name name' is'.name in
    let stamp = length-name h.stamp is.stamp in
    let stamp' = length-name h'.stamp is'.stamp in
    let names = name_one name name' (sym (row_type_name name h short) ∙ ap (λ (l : List ℕ). take 33 (drop 1 l)) same ∙ row_type_name name' h' short') in
    let stamps = name_one h.stamp h'.stamp (sym (row_type_stamp name h short stamp) ∙ ap (λ (l : List ℕ). take 33 (drop 34 l)) same ∙ row_type_stamp name' h' short' stamp') in
    let counts = sym (row_type_count name h short stamp) ∙ ap (λ (l : List ℕ). get_or l 67 0) same ∙ row_type_count name' h' short' stamp' in
    let columns = columns_one h.columns h'.columns _ _ _ counts is.columns is'.columns
    (behind_stamp (row_type_bytes name h) name h is refl) (behind_stamp (row_type_bytes name h) name' h' is' same) in
    λ i. defs.RowType (names i) (record { stamp = stamps i; columns = columns i })

container_one : (name : List ℕ) (row_type quota : ℕ) (name' : List ℕ) (row_type' quota' : ℕ) → IsContainerDef (record { name = name; row_type = row_type; quota = quota })
    → IsContainerDef (record { name = name'; row_type = row_type'; quota = quota' }) → container_bytes name row_type quota ≡ container_bytes name' row_type' quota'
    → defs.Container name row_type quota ≡ defs.Container name' row_type' quota'
container_one name row_type quota name' row_type' quota' is is' same =
    let short = length-name name is.name in
    let short' = length-name name' is'.name in
    let fits : quota < 2 ^ 32 = omega (arith, is.most) in
    let fits' : quota' < 2 ^ 32 = omega (arith, is'.most) in
    let names = name_one name name' (sym (container_name name row_type quota short) ∙ ap (λ (l : List ℕ). take 33 (drop 1 l)) same ∙ container_name name' row_type' quota' short') in
    let slots = sym (container_row_type name row_type quota short) ∙ ap (λ (l : List ℕ). get_or l 34 0) same ∙ container_row_type name' row_type' quota' short' in
    let quotas = sym (container_quota name row_type quota short fits)
    ∙ ap (λ (l : List ℕ). from_be_bytes w32 (get_or l 35 0 ∷ get_or l 36 0 ∷ get_or l 37 0 ∷ get_or l 38 0 ∷ [])) same ∙ container_quota name' row_type' quota' short' fits' in
    λ i. defs.Container (names i) (slots i) (quotas i)

regular_one : (a b : Option (ℕ × ℤ)) → IfSome a IsRegularPart → IfSome b IsRegularPart → series_code a ≡ series_code b → padded 27 (regular_bytes a) ≡ padded 27 (regular_bytes b) → a ≡ b
regular_one None None is is' code same = refl
regular_one None (Some b) is is' code same = absurd (omega (arith, code))
regular_one (Some a) None is is' code same = absurd (omega (arith, code))
regular_one (Some a) (Some b) is is' code same =
    let slots = sym (regular_calendar a.0 a.1) ∙ ap (λ (l : List ℕ). get_or l 0 0) same ∙ regular_calendar b.0 b.1 in
    let origins = stamp_one a.1 b.1 is.origin is'.origin (sym (regular_origin a.0 a.1) ∙ ap (λ (l : List ℕ). take 8 (drop 1 l)) same ∙ regular_origin b.0 b.1) in
    λ i. Some (slots i, origins i)

series_one : (s t : SeriesDef) → IsSeriesDef s → IsSeriesDef t → series_bytes s.key s.container s.regular ≡ series_bytes t.key t.container t.regular → of_series s ≡ of_series t
series_one s t is is' same =
    let short = length-key s.key is.key in
    let short' = length-key t.key is'.key in
    let counts = sym (series_length s.key s.container s.regular) ∙ ap (λ (l : List ℕ). get_or l 1 0) same ∙ series_length t.key t.container t.regular in
    let keys = sym (series_key s.key s.container s.regular short) ∙ (λ i. take (counts i) (drop 2 (same i))) ∙ series_key t.key t.container t.regular short' in
    let slots = sym (series_container s.key s.container s.regular short) ∙ ap (λ (l : List ℕ). get_or l 66 0) same ∙ series_container t.key t.container t.regular short' in
    let codes = sym (series_first s.key s.container s.regular) ∙ ap (λ (l : List ℕ). get_or l 0 0) same ∙ series_first t.key t.container t.regular in
    let parts = sym (series_regular s.key s.container s.regular short) ∙ ap (drop 67) same ∙ series_regular t.key t.container t.regular short' in
    let regulars = regular_one s.regular t.regular is.regular is'.regular codes parts in
    λ i. defs.Series (keys i) (slots i) (regulars i)

-- of one kind, as they are written
def_one : (f g : ℕ) (kind : Kind) (a b : Def) → kind_of a ≡ kind → kind_of b ≡ kind → IsDef f a → IsDef g b → def_bytes a ≡ def_bytes b → as_written a ≡ as_written b
def_one f g kinds.RowType (defs.RowType name h) (defs.RowType name' h') is is' good good' same = row_type_one name h name' h' good good' same
def_one f g kinds.Pattern (defs.Pattern name p) (defs.Pattern name' p') is is' good good' same = pattern_one name p name' p' good good' same
def_one f g kinds.Calendar (defs.Calendar name c by) (defs.Calendar name' c' by') is is' good good' same = calendar_written name c by name' c' by' good good' same
def_one f g kinds.Container (defs.Container name r q) (defs.Container name' r' q') is is' good good' same = container_one name r q name' r' q' good good' same
def_one f g kinds.Series (defs.Series key c r) (defs.Series key' c' r') is is' good good' same =
    series_one (record { key = key; container = c; regular = r }) (record { key = key'; container = c'; regular = r' }) good good' same
def_one f g kind a b is is' good good' same = absurd (cc)

-- a definition's first byte isn't 0, an empty slot's is
first_of_def : (def : Def) → 1 ≤ get_or (def_bytes def) 0 0
unfolding row_type_bytes pattern_bytes calendar_bytes container_bytes series_bytes
first_of_def (defs.RowType name h) = lit≤ tt
first_of_def (defs.Pattern name p) = lit≤ tt
first_of_def (defs.Calendar name c by) = lit≤ tt
first_of_def (defs.Container name row_type quota) = lit≤ tt
first_of_def (defs.Series key container None) = lit≤ tt
first_of_def (defs.Series key container (Some regular)) = lit≤ tt

first_of_empty : (kind : Kind) → get_or (slot_bytes kind None) 0 0 ≡ 0
unfolding zero_page
first_of_empty kinds.RowType = refl
first_of_empty kinds.Pattern = refl
first_of_empty kinds.Calendar = refl
first_of_empty kinds.Container = refl
first_of_empty kinds.Series = refl

pub filled_first : (kind : Kind) (def : Def) → 1 ≤ get_or (slot_bytes kind (Some def)) 0 0
filled_first kind def = omega (arith, first_of_def def, ap (λ (l : List ℕ). get_or l 0 0) (slot_filled kind def))

-- two slots with the same bytes are one as they are written, whatever the formats
pub slot_written : (f g : ℕ) (kind : Kind) (a b : Option Def) → IsSlotOf f kind a → IsSlotOf g kind b → slot_bytes kind a ≡ slot_bytes kind b → option_map as_written a ≡ option_map as_written b
slot_written f g kind None None is is' same = refl
slot_written f g kind None (Some b) is is' same = absurd (omega (arith, first_of_empty kind, filled_first kind b, ap (λ (l : List ℕ). get_or l 0 0) same))
slot_written f g kind (Some a) None is is' same = absurd (omega (arith, first_of_empty kind, filled_first kind a, ap (λ (l : List ℕ). get_or l 0 0) same))
slot_written f g kind (Some a) (Some b) is is' same =
    ap Some (def_one f g kind a b is.0 is'.0 is.1 is'.1 (sym (slot_filled kind a) ∙ same ∙ slot_filled kind b))

-- so slots of all kinds but calendars are one
pub slot_one : (f g : ℕ) (kind : Kind) (a b : Option Def) → kind ≢ kinds.Calendar → IsSlotOf f kind a → IsSlotOf g kind b → slot_bytes kind a ≡ slot_bytes kind b → a ≡ b
slot_one f g kind a b other is is' same = sym (of_other kind a f other is) ∙ slot_written f g kind a b is is' same ∙ of_other kind b g other is' where
  written_other : (def : Def) → kind_of def ≢ kinds.Calendar → as_written def ≡ def
  written_other (defs.RowType name h) other = refl
  written_other (defs.Pattern name p) other = refl
  written_other (defs.Calendar name c by) other = absurd (other refl)
  written_other (defs.Container name row_type quota) other = refl
  written_other (defs.Series key container regular) other = refl

  of_other : (kind : Kind) (o : Option Def) (f : ℕ) → kind ≢ kinds.Calendar → IsSlotOf f kind o → option_map as_written o ≡ o
  of_other kind None f other is = refl
  of_other kind (Some def) f other is = ap Some (written_other def (λ same. other (sym is.0 ∙ same)))

-- and those of calendars where each follows a table of patterns, with the same pattern in the slot by which it was made
pub calendar_slot_one : (f g : ℕ) (patterns patterns' : List (Option PatternDef)) (a b : Option CalendarDef) → IsSlotOf f kinds.Calendar (option_map of_calendar a) → IsSlotOf g kinds.Calendar (option_map of_calendar b)
    → ((c : CalendarDef) → a ≡ Some c → Follows patterns c) → ((c : CalendarDef) → b ≡ Some c → Follows patterns' c) → ((slot : ℕ) → at_slot slot patterns ≡ at_slot slot patterns')
    → slot_bytes kinds.Calendar (option_map of_calendar a) ≡ slot_bytes kinds.Calendar (option_map of_calendar b) → a ≡ b
calendar_slot_one f g patterns patterns' None None is is' follows follows' tables same = refl
calendar_slot_one f g patterns patterns' None (Some c) is is' follows follows' tables same =
    absurd (omega (arith, first_of_empty kinds.Calendar, filled_first kinds.Calendar (of_calendar c), ap (λ (l : List ℕ). get_or l 0 0) same))
calendar_slot_one f g patterns patterns' (Some c) None is is' follows follows' tables same =
    absurd (omega (arith, first_of_empty kinds.Calendar, filled_first kinds.Calendar (of_calendar c), ap (λ (l : List ℕ). get_or l 0 0) same))
calendar_slot_one f g patterns patterns' (Some c) (Some c') is is' follows follows' tables same =
    ap Some (calendar_one patterns patterns' c c' is.1 is'.1 (follows c refl) (follows' c' refl) (λ slot by. tables slot) same)
