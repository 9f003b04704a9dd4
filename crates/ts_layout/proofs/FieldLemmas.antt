-- The fields of a slot, as its bytes give them.
use Rattle.std.proofs.Common.{◌≡◌, ℕ, ℤ, suc, ◌+◌, ◌<◌, ◌≤◌, ◌^◌, List, [], ◌∷◌, ◌++◌, length, take, drop, get_or, IsTrue, Option, Some, refl, sym, ap, ◌∙◌, arith, append_assoc, length-append}
use Rattle.std.specs.Int.{w32, to_be_bytes, from_be_bytes}
use Rattle.std.proofs.lemmas.Bool.Decides.{nat_tests}
use Rattle.std.proofs.lemmas.List.{get_or-append-add, take_at, drop_at, drop-drop, length-replicate}
use Rattle.std.proofs.lemmas.Nat.{from_be_bytes-to_be_bytes_4}
use Rattle.std.proofs.Math.Seq.{take-append_seam}
use Rattle.ts_base.specs.Name.{is_name}
use Rattle.ts_row.specs.Row.{Heading}
use Rattle.ts_pattern.specs.Patterns.{Plan}
use Rattle.ts_calendar.specs.Calendars.{CalendarPlan}
use Rattle.ts_cells.specs.IrregularPage.{stamp_bytes}
use Rattle.ts_layout.specs.Slot.{padded, name_bytes, columns_bytes, row_type_bytes, plan_bytes, pattern_bytes, part_bytes, calendar_bytes, container_bytes, series_code, regular_bytes, series_bytes, header_bytes}

-- a name has at most 32 bytes
pub length-name : (name : List ℕ) → IsTrue (is_name name) → length name ≤ 32
length-name name form = grind (arith, nat_tests)

-- padded bytes are so many
pub length-padded : (size : ℕ) (bytes : List ℕ) → length bytes ≤ size → length (padded size bytes) ≡ size
unfolding padded
length-padded size bytes short = simp (length-append, length-replicate) (omega arith)

-- a name has 33 bytes
pub length-name_bytes : (name : List ℕ) → length name ≤ 32 → length (name_bytes name) ≡ 33
length-name_bytes name short = ap suc (length-padded 32 name short)

-- what stands behind the first part
behind : (w n : ℕ) (front rest : List ℕ) → length front ≡ w → get_or (front ++ rest) (w + n) 0 ≡ get_or rest n 0
behind w n front rest wide = ap (λ k. get_or (front ++ rest) (k + n) 0) (sym wide) ∙ get_or-append-add front rest n 0

-- padded bytes begin with these
take-padded : (size : ℕ) (bytes : List ℕ) → take (length bytes) (padded size bytes) ≡ bytes
unfolding padded
take-padded size bytes = take-append_seam bytes _

-- the text of a name
pub name_text : (name : List ℕ) → take (length name) (drop 1 (name_bytes name)) ≡ name
name_text name = take-padded 32 name

-- names with the same bytes are the same
pub name_one : (a b : List ℕ) → name_bytes a ≡ name_bytes b → a ≡ b
name_one a b same =
    let size : length a ≡ length b = ap (λ (l : List ℕ). get_or l 0 0) same in
    sym (name_text a) ∙ (λ i. take (size i) (drop 1 (same i))) ∙ name_text b

-- a container's name, the slot of its row type and its quota
pub container_name : (name : List ℕ) (row_type quota : ℕ) → length name ≤ 32 → take 33 (drop 1 (container_bytes name row_type quota)) ≡ name_bytes name
unfolding container_bytes
container_name name row_type quota short = take_at (name_bytes name) _ 33 (length-name_bytes name short)

pub container_row_type : (name : List ℕ) (row_type quota : ℕ) → length name ≤ 32 → get_or (container_bytes name row_type quota) 34 0 ≡ row_type
unfolding container_bytes
container_row_type name row_type quota short = behind 33 0 (name_bytes name) (row_type ∷ padded 25 (to_be_bytes w32 quota)) (length-name_bytes name short)

pub container_quota : (name : List ℕ) (row_type quota : ℕ) → length name ≤ 32 → quota < 2 ^ 32 →
    from_be_bytes w32 (get_or (container_bytes name row_type quota) 35 0 ∷ get_or (container_bytes name row_type quota) 36 0
    ∷ get_or (container_bytes name row_type quota) 37 0 ∷ get_or (container_bytes name row_type quota) 38 0 ∷ []) ≡ quota
unfolding container_bytes padded
container_quota name row_type quota short fits =
    let rest : List ℕ = row_type ∷ padded 25 (to_be_bytes w32 quota) in
    let wide = length-name_bytes name short in
    (λ i. from_be_bytes w32 (behind 33 1 (name_bytes name) rest wide i ∷ behind 33 2 (name_bytes name) rest wide i ∷ behind 33 3 (name_bytes name) rest wide i ∷ behind 33 4 (name_bytes name) rest wide i ∷ []))
    ∙ from_be_bytes-to_be_bytes_4 quota fits

-- whether a series is regular, its key and the slot of its container
pub series_first : (key : List ℕ) (container : ℕ) (regular : Option (ℕ × ℤ)) → get_or (series_bytes key container regular) 0 0 ≡ series_code regular
unfolding series_bytes
series_first key container regular = refl

pub series_length : (key : List ℕ) (container : ℕ) (regular : Option (ℕ × ℤ)) → get_or (series_bytes key container regular) 1 0 ≡ length key
unfolding series_bytes
series_length key container regular = refl

pub series_key : (key : List ℕ) (container : ℕ) (regular : Option (ℕ × ℤ)) → length key ≤ 64 → take (length key) (drop 2 (series_bytes key container regular)) ≡ key
unfolding series_bytes padded
series_key key container regular short = ap (take (length key)) (append_assoc key _ _) ∙ take-append_seam key _

pub series_container : (key : List ℕ) (container : ℕ) (regular : Option (ℕ × ℤ)) → length key ≤ 64 → get_or (series_bytes key container regular) 66 0 ≡ container
unfolding series_bytes
series_container key container regular short = behind 64 0 (padded 64 key) (container ∷ padded 27 (regular_bytes regular)) (length-padded 64 key short)

-- what a regular series has besides: the slot of its calendar, and its origin
pub series_regular : (key : List ℕ) (container : ℕ) (regular : Option (ℕ × ℤ)) → length key ≤ 64 → drop 67 (series_bytes key container regular) ≡ padded 27 (regular_bytes regular)
unfolding series_bytes
series_regular key container regular short =
    sym (drop-drop 1 64 (padded 64 key ++ (container ∷ padded 27 (regular_bytes regular))))
    ∙ ap (drop 1) (drop_at (padded 64 key) (container ∷ padded 27 (regular_bytes regular)) 64 (length-padded 64 key short))

pub regular_calendar : (slot : ℕ) (origin : ℤ) → get_or (padded 27 (regular_bytes (Some (slot, origin)))) 0 0 ≡ slot
unfolding padded
regular_calendar slot origin = refl

pub regular_origin : (slot : ℕ) (origin : ℤ) → take 8 (drop 1 (padded 27 (regular_bytes (Some (slot, origin))))) ≡ stamp_bytes origin
unfolding padded
regular_origin slot origin = refl

pub series_calendar : (key : List ℕ) (container slot : ℕ) (origin : ℤ) → length key ≤ 64 → get_or (series_bytes key container (Some (slot, origin))) 67 0 ≡ slot
unfolding series_bytes
series_calendar key container slot origin short =
    behind 64 1 (padded 64 key) (container ∷ padded 27 (regular_bytes (Some (slot, origin)))) (length-padded 64 key short) ∙ regular_calendar slot origin

pub series_origin : (key : List ℕ) (container slot : ℕ) (origin : ℤ) → length key ≤ 64 → take 8 (drop 68 (series_bytes key container (Some (slot, origin)))) ≡ stamp_bytes origin
series_origin key container slot origin short =
    ap (take 8) (sym (drop-drop 1 67 (series_bytes key container (Some (slot, origin)))))
    ∙ ap (λ (l : List ℕ). take 8 (drop 1 l)) (series_regular key container (Some (slot, origin)) short) ∙ regular_origin slot origin

-- a row type's name, the name of its stamp, the number of its columns and these
behind_name : (name rest : List ℕ) → length name ≤ 32 → drop 33 (name_bytes name ++ rest) ≡ rest
behind_name name rest short = drop_at (name_bytes name) rest 33 (length-name_bytes name short)

pub row_type_name : (name : List ℕ) (h : Heading) → length name ≤ 32 → take 33 (drop 1 (row_type_bytes name h)) ≡ name_bytes name
unfolding row_type_bytes
row_type_name name h short = take_at (name_bytes name) _ 33 (length-name_bytes name short)

pub row_type_stamp : (name : List ℕ) (h : Heading) → length name ≤ 32 → length h.stamp ≤ 32 → take 33 (drop 34 (row_type_bytes name h)) ≡ name_bytes h.stamp
unfolding row_type_bytes
row_type_stamp name h short stamp = ap (take 33) (behind_name name _ short) ∙ take_at (name_bytes h.stamp) _ 33 (length-name_bytes h.stamp stamp)

pub row_type_count : (name : List ℕ) (h : Heading) → length name ≤ 32 → length h.stamp ≤ 32 → get_or (row_type_bytes name h) 67 0 ≡ length h.columns
unfolding row_type_bytes
row_type_count name h short stamp =
    let columns : List ℕ = length h.columns ∷ padded 4028 (columns_bytes h.columns) in
    behind 33 33 (name_bytes name) (name_bytes h.stamp ++ columns) (length-name_bytes name short)
    ∙ behind 33 0 (name_bytes h.stamp) columns (length-name_bytes h.stamp stamp)

pub row_type_columns : (name : List ℕ) (h : Heading) → length name ≤ 32 → length h.stamp ≤ 32 → drop 68 (row_type_bytes name h) ≡ padded 4028 (columns_bytes h.columns)
unfolding row_type_bytes
row_type_columns name h short stamp =
    let columns : List ℕ = length h.columns ∷ padded 4028 (columns_bytes h.columns) in
    sym (drop-drop 34 33 (name_bytes name ++ (name_bytes h.stamp ++ columns)))
    ∙ ap (drop 34) (behind_name name (name_bytes h.stamp ++ columns) short)
    ∙ sym (drop-drop 1 33 (name_bytes h.stamp ++ columns)) ∙ ap (drop 1) (behind_name h.stamp columns stamp)

-- a pattern's name, and what it is
pub pattern_name : (name : List ℕ) (p : Plan) → length name ≤ 32 → take 33 (drop 1 (pattern_bytes name p)) ≡ name_bytes name
unfolding pattern_bytes
pattern_name name p short = take_at (name_bytes name) _ 33 (length-name_bytes name short)

pub pattern_plan : (name : List ℕ) (p : Plan) → length name ≤ 32 → drop 34 (pattern_bytes name p) ≡ padded 4062 (plan_bytes p)
unfolding pattern_bytes
pattern_plan name p short = behind_name name (padded 4062 (plan_bytes p)) short

-- a calendar's name, its two starts, and which pattern it has
pub calendar_name : (name : List ℕ) (c : CalendarPlan) (by : Option ℕ) → length name ≤ 32 → take 33 (drop 1 (calendar_bytes name c by)) ≡ name_bytes name
unfolding calendar_bytes
calendar_name name c by short = take_at (name_bytes name) _ 33 (length-name_bytes name short)

behind_calendar : (name : List ℕ) (c : CalendarPlan) (by : Option ℕ) → length name ≤ 32 → drop 34 (calendar_bytes name c by) ≡ stamp_bytes c.start ++ (stamp_bytes c.patt_start ++ padded 4046 (part_bytes c.pattern by))
unfolding calendar_bytes
behind_calendar name c by short = behind_name name (stamp_bytes c.start ++ (stamp_bytes c.patt_start ++ padded 4046 (part_bytes c.pattern by))) short

pub calendar_start : (name : List ℕ) (c : CalendarPlan) (by : Option ℕ) → length name ≤ 32 → take 8 (drop 34 (calendar_bytes name c by)) ≡ stamp_bytes c.start
calendar_start name c by short = ap (take 8) (behind_calendar name c by short)

pub calendar_patt_start : (name : List ℕ) (c : CalendarPlan) (by : Option ℕ) → length name ≤ 32 → take 8 (drop 42 (calendar_bytes name c by)) ≡ stamp_bytes c.patt_start
calendar_patt_start name c by short = ap (take 8) (sym (drop-drop 8 34 (calendar_bytes name c by))) ∙ ap (λ (l : List ℕ). take 8 (drop 8 l)) (behind_calendar name c by short)

pub calendar_part : (name : List ℕ) (c : CalendarPlan) (by : Option ℕ) → length name ≤ 32 → drop 50 (calendar_bytes name c by) ≡ padded 4046 (part_bytes c.pattern by)
calendar_part name c by short = sym (drop-drop 16 34 (calendar_bytes name c by)) ∙ ap (drop 16) (behind_calendar name c by short)

-- the format in a header
ninth_byte : (format pages : ℕ) → get_or (header_bytes format pages) 8 0 ≡ format
unfolding header_bytes padded
ninth_byte format pages = refl

pub header_format : (format other pages more : ℕ) → header_bytes format pages ≡ header_bytes other more → format ≡ other
header_format format other pages more same = sym (ninth_byte format pages) ∙ ap (λ (l : List ℕ). get_or l 8 0) same ∙ ninth_byte other more
