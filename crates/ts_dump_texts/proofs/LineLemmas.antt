-- The text of each statement is one line.
use Rattle.std.proofs.Common.{◌≡◌, ℕ, zero, suc, ◌+◌, ◌*◌, ◌/◌, ◌%◌, ◌^◌, ◌<◌, ◌≤◌, ◌==◌, ◌&&◌, nat_le, Bool, true, false, cond, IsTrue, List, [], ◌∷◌, ◌++◌, length, refl, ap, sym, ◌∙◌, subst, append_assoc, length-append, arith, ℤ, pos, negsuc, unsigned_abs, lit<}
use Rattle.std.specs.Prelude.{codes, int_lt}
use Rattle.std.specs.List.{list_all, flat_map}
use Rattle.std.specs.Char.{is_ascii_digit}
use Rattle.std.specs.Fmt.{decimal}
use Rattle.std.proofs.Math.Nat.{div-le_self, pow-le-pow_right}
use Rattle.std.proofs.lemmas.Bool.{and_parts}
use Rattle.std.proofs.lemmas.Bool.Decides.{nat_tests}
use Rattle.std.proofs.lemmas.Fmt.{decimal_by_steps_wide, length-decimal-le_wide}
use Rattle.std.proofs.lemmas.List.Folds.{list_all-append}
use Rattle.ts_base.specs.declared.unit.Unit as unit
use Rattle.ts_base.specs.declared.unit.Unit.TheVariants.{Second, Minute, Hour, Day, Week, Month, Year}
use Rattle.ts_base.specs.Name.{is_name, is_key, is_text}
use Rattle.ts_base.specs.Moment.{stamp_text}
use Rattle.ts_row.specs.declared.kind.ColumnKind.{ColumnKind}
use Rattle.ts_row.specs.declared.kind.ColumnKind.TheVariants.{SmallInt, Integer, BigInt, Decimal, VarChar}
use Rattle.ts_row.specs.declared.kind.Column.{Column}
use Rattle.ts_row.specs.declared.value.Value.{Value}
use Rattle.ts_row.specs.declared.value.Value.TheVariants as values
use Rattle.ts_row.specs.Row.{Heading, is_kind, scale_of, is_row_type, keep_rules, Values, Row, holds_size, holds, hold, fits, last_digits, fraction_text, size_text, number_text, quoted, value_text, values_text, row_text}
use Rattle.ts_pattern.specs.declared.run.Run.{Run}
use Rattle.ts_pattern.specs.Patterns.{Plan, is_pattern, is_count, unit_name, printed_run, printed_runs, printed_plan}
use Rattle.ts_pattern.specs.Spelling.{Word}
use Rattle.ts_pattern.proofs.PrintLemmas.{words_of, words-are}
use Rattle.ts_calendar.specs.declared.text.PatternPart.{PatternPart}
use Rattle.ts_calendar.specs.declared.text.PatternPart.TheVariants.{Named, Own}
use Rattle.ts_calendar.specs.declared.text.CalendarText.{CalendarText}
use Rattle.ts_calendar.specs.Calendars.{IsSoundPart, IsSound, printed_part, printed_calendar}
use Rattle.ts_dump_texts.specs.Texts.{end_of_call, quoted_before, comma_before, kind_before, columns_before, row_type_text, pattern_text, calendar_text, container_text, irregular_text, regular_text, element_text, hiding_text}
use Rattle.ts_dump_texts.specs.Script.{begins_so, IsLine}
use Rattle.ts_dump_texts.proofs.PrintedLemmas.{digits_of_number}
use Rattle.ts_dump_texts.proofs.EndLemmas.{EndsCall, the_end_of_call, is_plain, plain_before, comma_ends, more_room, quoted_ends, digits_plain, name_ends, key_ends}

-- a word in front of what ends a call
line : (word bytes : List ℕ) (few most : ℕ) → begins_so (word ++ bytes) ≡ true → list_all is_plain word ≡ true → length word ≤ few → few + most ≤ 65535 → EndsCall most bytes → IsLine (word ++ bytes)
line word bytes few most begins plain size room rest =
    let all = plain_before word bytes few most plain size rest in
    record { word = begins; once = all.once; short = let s = all.short in omega (arith, s, room) }

-- a stamp is 25 bytes
stamp_length : (t : ℤ) → length (stamp_text t) ≤ 25
unfolding stamp_text
stamp_length t = omega arith

stamp_ends : (t : ℤ) (bytes : List ℕ) (most : ℕ) → EndsCall most bytes → EndsCall (52 + most) (quoted_before (stamp_text t) bytes)
stamp_ends t bytes most rest = quoted_ends (stamp_text t) bytes 25 most (stamp_length t) rest

-- numbers of few digits
number_ends : (n : ℕ) (bytes : List ℕ) (most : ℕ) → n < 10 ^ 9 → EndsCall most bytes → EndsCall (9 + most) (decimal n ++ bytes)
number_ends n bytes most below rest =
    let wide : 10 ^ 9 < 2 ^ 64 = lit< tt in
    let is = digits_of_number n 9 (omega arith) below (omega (arith, below, wide)) in
    plain_before (decimal n) bytes 9 most (digits_plain (decimal n) is.all) is.few rest

-- a row type
kind_ends : (kind : ColumnKind) (bytes : List ℕ) (most : ℕ) → is_kind kind ≡ true → EndsCall most bytes → EndsCall (40 + most) (kind_before kind bytes)
kind_ends SmallInt bytes most good rest = plain_before (codes "smallint") bytes 40 most refl (omega arith) rest
kind_ends Integer bytes most good rest = plain_before (codes "integer") bytes 40 most refl (omega arith) rest
kind_ends BigInt bytes most good rest = plain_before (codes "bigint") bytes 40 most refl (omega arith) rest
kind_ends (Decimal digits scale) bytes most good rest =
    let few : digits ≤ 28 = grind (arith, nat_tests) in
    let part : scale ≤ digits = grind (arith, nat_tests) in
    let wide : 28 < 10 ^ 9 = lit< tt in
    let last = plain_before (41 ∷ []) bytes 1 most refl (omega arith) rest in
    let scaled = plain_before (44 ∷ []) (decimal scale ++ 41 ∷ bytes) 1 (9 + (1 + most)) refl (omega arith) (number_ends scale (41 ∷ bytes) (1 + most) (omega (arith, few, part, wide)) last) in
    let all = plain_before (codes "decimal(") (decimal digits ++ 44 ∷ (decimal scale ++ 41 ∷ bytes)) 8 (9 + (1 + (9 + (1 + most)))) refl (omega arith)
    (number_ends digits (44 ∷ (decimal scale ++ 41 ∷ bytes)) (1 + (9 + (1 + most))) (omega (arith, few, wide)) scaled) in
    more_room (8 + (9 + (1 + (9 + (1 + most))))) (40 + most) _ (omega arith) all
kind_ends (VarChar most_bytes) bytes most good rest =
    let few : most_bytes ≤ 255 = grind (arith, nat_tests) in
    let wide : 255 < 10 ^ 9 = lit< tt in
    let last = plain_before (41 ∷ []) bytes 1 most refl (omega arith) rest in
    let all = plain_before (codes "varchar(") (decimal most_bytes ++ 41 ∷ bytes) 8 (9 + (1 + most)) refl (omega arith) (number_ends most_bytes (41 ∷ bytes) (1 + most) (omega (arith, few, wide)) last) in
    more_room (8 + (9 + (1 + most))) (40 + most) _ (omega arith) all

columns_end : (columns : List Column) (bytes : List ℕ) (most : ℕ) → list_all (λ (c : Column). is_name c.name) columns ≡ true → list_all (λ (c : Column). is_kind c.kind) columns ≡ true → EndsCall most bytes
    → EndsCall (75 * length columns + most) (columns_before columns bytes)
columns_end [] bytes most named good rest = more_room most (75 * 0 + most) bytes (omega arith) rest
columns_end (c ∷ columns) bytes most named good rest =
    let names = and_parts (is_name c.name) (list_all (λ (x : Column). is_name x.name) columns) named in
    let kinds = and_parts (is_kind c.kind) (list_all (λ (x : Column). is_kind x.kind) columns) good in
    let others = columns_end columns bytes most names.1 kinds.1 rest in
    let room : ℕ = 75 * length columns + most in
    let typed = kind_ends c.kind (columns_before columns bytes) room kinds.0 others in
    let blank = plain_before (32 ∷ []) (kind_before c.kind (columns_before columns bytes)) 1 (40 + room) refl (omega arith) typed in
    let one = comma_ends (c.name ++ 32 ∷ kind_before c.kind (columns_before columns bytes)) (32 + (1 + (40 + room))) (name_ends c.name (32 ∷ kind_before c.kind (columns_before columns bytes)) (1 + (40 + room)) names.0 blank) in
    more_room (2 + (32 + (1 + (40 + room)))) (75 * suc (length columns) + most) _ (omega arith) one

pub row_type_line : (name : List ℕ) (h : Heading) → IsTrue (is_name name) → IsTrue (is_name h.stamp) → IsTrue (list_all (λ (c : Column). is_name c.name) h.columns) → IsTrue (is_row_type h.stamp h.columns) → IsLine (row_type_text name h)
row_type_line name h named stamped names good =
    let kept = (and_parts (nat_le 1 (length h.columns)) (keep_rules h.stamp h.columns) good).1 in
    let few : length h.columns ≤ 32 = grind (arith, nat_tests) in
    let types : list_all (λ (c : Column). is_kind c.kind) h.columns ≡ true = grind (arith, nat_tests) in
    let columns = columns_end h.columns end_of_call 2 names types the_end_of_call in
    let most : ℕ = 75 * length h.columns + 2 in
    let word = plain_before (codes " datetime") (columns_before h.columns end_of_call) 9 most refl (omega arith) columns in
    let stamp = comma_ends (h.stamp ++ (codes " datetime" ++ columns_before h.columns end_of_call)) (32 + (9 + most)) (name_ends h.stamp (codes " datetime" ++ columns_before h.columns end_of_call) (9 + most) stamped word) in
    line (codes "CreateRowType(") (name ++ comma_before (h.stamp ++ (codes " datetime" ++ columns_before h.columns end_of_call))) 14 (32 + (2 + (32 + (9 + most)))) refl refl (omega arith) (omega (arith, few))
    (name_ends name (comma_before (h.stamp ++ (codes " datetime" ++ columns_before h.columns end_of_call))) (2 + (32 + (9 + most))) named stamp)

-- a pattern: at most 512 runs, each of at most 14 bytes
run_length : (r : Run) → length (decimal r.count) ≤ 9 → length (printed_run r) ≤ 13
run_length r few =
    let l = length-append (decimal r.count) (32 ∷ cond r.on (codes "on") (codes "off")) in
    let word : length (32 ∷ cond r.on (codes "on") (codes "off")) ≤ 4 = elim r.on as (λ (t : Bool). length (32 ∷ cond t (codes "on") (codes "off")) ≤ 4) [ true ↦ omega arith | false ↦ omega arith ] in
    omega (arith, l, word, few)

count_length : (digits : List ℕ) → is_count digits ≡ true → length digits ≤ 9
count_length digits is = grind (arith, nat_tests)

runs_length : (rs : List Run) → list_all (λ (w : Word). is_count w.digits) (words_of rs) ≡ true → length (printed_runs rs) ≤ 14 * length rs
runs_length [] counts = omega arith
runs_length (r ∷ []) counts = let one = run_length r (count_length (decimal r.count) (and_parts (is_count (decimal r.count)) true counts).0) in omega (arith, one)
runs_length (r ∷ s ∷ rest) counts =
    let parts = and_parts (is_count (decimal r.count)) (list_all (λ (w : Word). is_count w.digits) (words_of (s ∷ rest))) counts in
    let one = run_length r (count_length (decimal r.count) parts.0) in
    let others = runs_length (s ∷ rest) parts.1 in
    let l = length-append (printed_run r) (44 ∷ printed_runs (s ∷ rest)) in
    omega (arith, one, others, l)

unit_length : (u : unit.Unit) → length (unit_name u) ≤ 6
unit_length Second = omega arith
unit_length Minute = omega arith
unit_length Hour = omega arith
unit_length Day = omega arith
unit_length Week = omega arith
unit_length Month = omega arith
unit_length Year = omega arith

few_runs : (rs : List Run) → is_pattern rs ≡ true → length rs ≤ 512
few_runs rs is = grind (arith, nat_tests)

plan_length : (p : Plan) → IsTrue (is_pattern p.runs) → length (printed_plan p) ≤ 7200
plan_length p is =
    let runs = runs_length p.runs (words-are p is).counts in
    let few = few_runs p.runs is in
    let u = unit_length p.unit in
    let l = length-append (123 ∷ printed_runs p.runs) (125 ∷ 44 ∷ unit_name p.unit) in
    omega (arith, runs, few, u, l)

pub pattern_line : (name : List ℕ) (p : Plan) → IsTrue (is_name name) → IsTrue (is_pattern p.runs) → IsLine (pattern_text name p)
pattern_line name p named good =
    line (codes "CreatePattern(") (name ++ comma_before (quoted_before (printed_plan p) end_of_call)) 14 (32 + (2 + (2 * 7200 + 2 + 2))) refl refl (omega arith) (omega arith)
    (name_ends name (comma_before (quoted_before (printed_plan p) end_of_call)) (2 + (2 * 7200 + 2 + 2)) named
    (comma_ends (quoted_before (printed_plan p) end_of_call) (2 * 7200 + 2 + 2) (quoted_ends (printed_plan p) end_of_call 7200 2 (plan_length p good) the_end_of_call)))

part_length : (part : PatternPart) → IsSoundPart part → length (printed_part part) ≤ 7210
part_length (Named name) is =
    let short : length name ≤ 32 = let named = is in grind (arith, nat_tests) in
    let l = length-append (codes "pattname(" ++ name) (41 ∷ []) in
    let m = length-append (codes "pattname(") name in
    omega (arith, l, m, short)
part_length (Own p) is =
    let short = plan_length p is in
    let l = length-append (codes "pattern(" ++ printed_plan p) (41 ∷ []) in
    let m = length-append (codes "pattern(") (printed_plan p) in
    omega (arith, l, m, short)

calendar_length : (c : CalendarText) → IsSound c → length (printed_calendar c) ≤ 7300
calendar_length c is =
    let s = stamp_text c.start in
    let p = stamp_text c.patt_start in
    let part = part_length c.part is.part_is in
    let a = length-append (codes "startdate(") s in
    let b = length-append (codes "startdate(" ++ s) (codes "), pattstart(") in
    let d = length-append (codes "startdate(" ++ s ++ codes "), pattstart(") p in
    let e = length-append (codes "startdate(" ++ s ++ codes "), pattstart(" ++ p) (codes "), ") in
    let f = length-append (codes "startdate(" ++ s ++ codes "), pattstart(" ++ p ++ codes "), ") (printed_part c.part) in
    omega (arith, part, a, b, d, e, f, stamp_length c.start, stamp_length c.patt_start)

pub calendar_line : (name : List ℕ) (c : CalendarText) → IsTrue (is_name name) → IsSound c → IsLine (calendar_text name c)
calendar_line name c named good =
    line (codes "CreateCalendar(") (name ++ comma_before (quoted_before (printed_calendar c) end_of_call)) 15 (32 + (2 + (2 * 7300 + 2 + 2))) refl refl (omega arith) (omega arith)
    (name_ends name (comma_before (quoted_before (printed_calendar c) end_of_call)) (2 + (2 * 7300 + 2 + 2)) named
    (comma_ends (quoted_before (printed_calendar c) end_of_call) (2 * 7300 + 2 + 2) (quoted_ends (printed_calendar c) end_of_call 7300 2 (calendar_length c good) the_end_of_call)))

pub container_line : (name row_type : List ℕ) (quota : ℕ) → IsTrue (is_name name) → IsTrue (is_name row_type) → quota ≤ 65536 → IsLine (container_text name row_type quota)
container_line name row_type quota named typed most =
    let wide : 65536 < 10 ^ 9 = lit< tt in
    let number = comma_ends (decimal quota ++ end_of_call) (9 + 2) (number_ends quota end_of_call 2 (omega (arith, most, wide)) the_end_of_call) in
    let row = comma_ends (row_type ++ comma_before (decimal quota ++ end_of_call)) (32 + (2 + (9 + 2))) (name_ends row_type (comma_before (decimal quota ++ end_of_call)) (2 + (9 + 2)) typed number) in
    line (codes "TSContainerCreate(") (name ++ comma_before (row_type ++ comma_before (decimal quota ++ end_of_call))) 18 (32 + (2 + (32 + (2 + (9 + 2))))) refl refl (omega arith) (omega arith)
    (name_ends name (comma_before (row_type ++ comma_before (decimal quota ++ end_of_call))) (2 + (32 + (2 + (9 + 2)))) named row)

pub irregular_line : (key container : List ℕ) → IsTrue (is_key key) → IsTrue (is_name container) → IsLine (irregular_text key container)
irregular_line key container keyed named =
    line (codes "TSCreateIrr(") (quoted_before key (comma_before (container ++ end_of_call))) 12 (130 + (2 + (32 + 2))) refl refl (omega arith) (omega arith)
    (key_ends key (comma_before (container ++ end_of_call)) (2 + (32 + 2)) keyed (comma_ends (container ++ end_of_call) (32 + 2) (name_ends container end_of_call 2 named the_end_of_call)))

pub regular_line : (key calendar : List ℕ) (origin : ℤ) (container : List ℕ) → IsTrue (is_key key) → IsTrue (is_name calendar) → IsTrue (is_name container) → IsLine (regular_text key calendar origin container)
regular_line key calendar origin container keyed dated named =
    let last = comma_ends (container ++ end_of_call) (32 + 2) (name_ends container end_of_call 2 named the_end_of_call) in
    let third = comma_ends (quoted_before (stamp_text origin) (comma_before (container ++ end_of_call))) (52 + (2 + (32 + 2))) (stamp_ends origin (comma_before (container ++ end_of_call)) (2 + (32 + 2)) last) in
    let second = comma_ends (calendar ++ comma_before (quoted_before (stamp_text origin) (comma_before (container ++ end_of_call)))) (32 + (2 + (52 + (2 + (32 + 2)))))
    (name_ends calendar (comma_before (quoted_before (stamp_text origin) (comma_before (container ++ end_of_call)))) (2 + (52 + (2 + (32 + 2)))) dated third) in
    line (codes "TSCreate(") (quoted_before key (comma_before (calendar ++ comma_before (quoted_before (stamp_text origin) (comma_before (container ++ end_of_call)))))) 9
    (130 + (2 + (32 + (2 + (52 + (2 + (32 + 2))))))) refl refl (omega arith) (omega arith) (key_ends key _ (2 + (32 + (2 + (52 + (2 + (32 + 2)))))) keyed second)

pub hiding_line : (key : List ℕ) (stamp : ℤ) → IsTrue (is_key key) → IsLine (hiding_text key stamp)
hiding_line key stamp keyed =
    line (codes "HideElem(") (quoted_before key (comma_before (quoted_before (stamp_text stamp) end_of_call))) 9 (130 + (2 + (52 + 2))) refl refl (omega arith) (omega arith)
    (key_ends key (comma_before (quoted_before (stamp_text stamp) end_of_call)) (2 + (52 + 2)) keyed (comma_ends (quoted_before (stamp_text stamp) end_of_call) (52 + 2) (stamp_ends stamp end_of_call 2 the_end_of_call)))

-- a number of a column: at most 29 digits before a point, and 28 behind it
digit_is : (n : ℕ) → n < 10 → is_ascii_digit (48 + n) ≡ true
digit_is n below = grind (arith, nat_tests)

all_digits_wide : (n : ℕ) → n < 10 ^ 64 → list_all is_ascii_digit (decimal n) ≡ true
all_digits_wide n below =
    decimal_by_steps_wide (λ m ds. list_all is_ascii_digit ds ≡ true)
    (λ m less. rw (digit_is m less) refl)
    (λ m ds more front. list_all-append is_ascii_digit ds ((48 + m % 10) ∷ []) ∙ rw (front, digit_is (m % 10) (omega arith)) refl)
    n below

last_digits_plain : (count n : ℕ) → (list_all is_ascii_digit (last_digits count n) ≡ true) × (length (last_digits count n) ≡ count)
last_digits_plain zero n = (refl, refl)
last_digits_plain (suc count) n =
    let front = last_digits_plain count (n / 10) in (
      list_all-append is_ascii_digit (last_digits count (n / 10)) ((48 + n % 10) ∷ []) ∙ rw (front.0, digit_is (n % 10) (omega arith)) refl,
      length-append (last_digits count (n / 10)) ((48 + n % 10) ∷ []) ∙ omega (arith, front.1),
    )

fraction_plain : (scale n : ℕ) → scale ≤ 28 → (list_all is_plain (fraction_text scale n) ≡ true) × (length (fraction_text scale n) ≤ 29)
fraction_plain zero n few = (refl, omega arith)
fraction_plain (suc scale) n few =
    let digits = last_digits_plain (suc scale) n in
    let some : (suc scale == 0) ≡ false = grind (arith, nat_tests) in
    rw some (digits_plain (last_digits (suc scale) n) digits.0, omega (arith, digits.1, few))

size_plain : (scale n : ℕ) → n < 10 ^ 29 → scale ≤ 28 → (list_all is_plain (size_text scale n) ≡ true) × (length (size_text scale n) ≤ 58)
size_plain scale n below few =
    let wide : 10 ^ 29 < 10 ^ 64 = lit< tt in
    let less : n / 10 ^ scale ≤ n = div-le_self n (10 ^ scale) in
    let whole = all_digits_wide (n / 10 ^ scale) (omega arith) in
    let short = length-decimal-le_wide 29 (n / 10 ^ scale) (omega arith) (omega arith) (omega arith) in
    let fraction = fraction_plain scale n few in (
      list_all-append is_plain (decimal (n / 10 ^ scale)) (fraction_text scale n) ∙ (λ i. digits_plain (decimal (n / 10 ^ scale)) whole i && fraction.0 i),
      (let l = length-append (decimal (n / 10 ^ scale)) (fraction_text scale n) in let f = fraction.1 in omega (arith, l, short, f)),
    )

number_plain : (scale : ℕ) (z : ℤ) → unsigned_abs z < 10 ^ 29 → scale ≤ 28 → (list_all is_plain (number_text scale z) ≡ true) × (length (number_text scale z) ≤ 59)
number_plain scale (pos n) below few =
    let plus : int_lt (pos n) (pos 0) ≡ false = grind (arith, nat_tests) in
    let size = size_plain scale n below few in
    rw plus (size.0, (let s = size.1 in omega (arith, s)))
number_plain scale (negsuc n) below few =
    let size = size_plain scale (suc n) below few in
    (size.0, (let s = size.1 in omega (arith, s)))

held_small : (kind : ColumnKind) (n : ℕ) → IsTrue (is_kind kind) → IsTrue (holds_size kind n) → (n < 10 ^ 29) × (scale_of kind ≤ 28)
held_small SmallInt n valid held = let most : 32_767 < 10 ^ 29 = lit< tt in (grind (arith, nat_tests), omega arith)
held_small Integer n valid held = let most : 2_147_483_647 < 10 ^ 29 = lit< tt in (grind (arith, nat_tests), omega arith)
held_small BigInt n valid held = let most : 9_223_372_036_854_775_807 < 10 ^ 29 = lit< tt in (grind (arith, nat_tests), omega arith)
held_small (Decimal digits scale) n valid held =
    let few : digits ≤ 28 = grind (arith, nat_tests) in
    let part : scale ≤ digits = grind (arith, nat_tests) in
    let below : n < 10 ^ digits = grind (arith, nat_tests) in
    let power : 10 ^ digits ≤ 10 ^ 28 = pow-le-pow_right (lit< tt) {i = digits} {j = 28} few in
    let wide : 10 ^ 28 < 10 ^ 29 = lit< tt in
    (omega arith, omega arith)
held_small (VarChar most) n valid held = absurd (cc)

value_ends : (kind : ColumnKind) (value : Value) (bytes : List ℕ) (most : ℕ) → IsTrue (is_kind kind) → IsTrue (holds kind value) → EndsCall most bytes → EndsCall (600 + most) (value_text (scale_of kind) value ++ bytes)
value_ends kind values.Null bytes most valid held rest = plain_before (codes "null") bytes 600 most refl (omega arith) rest
value_ends kind (values.Number z) bytes most valid held rest =
    let small = held_small kind (unsigned_abs z) valid held in
    let plain = number_plain (scale_of kind) z small.0 small.1 in
    plain_before (number_text (scale_of kind) z) bytes 600 most plain.0 (let l = plain.1 in omega (arith, l)) rest
value_ends (VarChar most_bytes) (values.Text text) bytes most valid held rest =
    let few : most_bytes ≤ 255 = grind (arith, nat_tests) in
    let fits = (and_parts (nat_le (length text) most_bytes) (is_text text) held).0 in
    let size : length text ≤ most_bytes = grind (arith, nat_tests) in
    subst (EndsCall (600 + most)) (ap (λ (l : List ℕ). 39 ∷ l) (sym (append_assoc (flat_map quoted text) (39 ∷ []) bytes)))
    (more_room (2 * 255 + 2 + most) (600 + most) (quoted_before text bytes) (omega arith) (quoted_ends text bytes 255 most (omega (arith, few, size)) rest))
value_ends SmallInt (values.Text text) bytes most valid held rest = absurd (cc)
value_ends Integer (values.Text text) bytes most valid held rest = absurd (cc)
value_ends BigInt (values.Text text) bytes most valid held rest = absurd (cc)
value_ends (Decimal digits scale) (values.Text text) bytes most valid held rest = absurd (cc)

values_end : (columns : List Column) (vs : Values) (bytes : List ℕ) (most : ℕ) → IsTrue (list_all (λ (c : Column). is_kind c.kind) columns) → IsTrue (hold columns vs) → EndsCall most bytes
    → EndsCall (601 * length columns + most) (values_text columns vs ++ bytes)
values_end [] [] bytes most valid fit rest = more_room most (601 * 0 + most) bytes (omega arith) rest
values_end [] (v ∷ vs) bytes most valid fit rest = absurd (cc)
values_end (c ∷ columns) [] bytes most valid fit rest = absurd (cc)
values_end (c ∷ []) (v ∷ []) bytes most valid fit rest =
    let kind = and_parts (is_kind c.kind) true valid in
    let held = and_parts (holds c.kind v) true fit in
    more_room (600 + most) (601 * 1 + most) _ (omega arith) (value_ends c.kind v bytes most kind.0 held.0 rest)
values_end (c ∷ []) (v ∷ u ∷ vs) bytes most valid fit rest = absurd (let no = (and_parts (holds c.kind v) (hold [] (u ∷ vs)) fit).1 in cc)
values_end (c ∷ d ∷ columns) (v ∷ []) bytes most valid fit rest = absurd (let no = (and_parts (holds c.kind v) (hold (d ∷ columns) []) fit).1 in cc)
values_end (c ∷ d ∷ columns) (v ∷ u ∷ vs) bytes most valid fit rest =
    let kind = and_parts (is_kind c.kind) (list_all (λ (x : Column). is_kind x.kind) (d ∷ columns)) valid in
    let held = and_parts (holds c.kind v) (hold (d ∷ columns) (u ∷ vs)) fit in
    let room : ℕ = 601 * suc (length columns) + most in
    let others = values_end (d ∷ columns) (u ∷ vs) bytes most kind.1 held.1 rest in
    let comma = plain_before (44 ∷ []) (values_text (d ∷ columns) (u ∷ vs) ++ bytes) 1 room refl (omega arith) others in
    let first = value_ends c.kind v (44 ∷ (values_text (d ∷ columns) (u ∷ vs) ++ bytes)) (1 + room) kind.0 held.0 comma in
    let most_of : 600 + (1 + room) ≤ 601 * suc (suc (length columns)) + most = omega arith in
    subst (EndsCall (601 * suc (suc (length columns)) + most)) (sym (append_assoc (value_text (scale_of c.kind) v) (44 ∷ values_text (d ∷ columns) (u ∷ vs)) bytes))
    (more_room (600 + (1 + room)) (601 * suc (suc (length columns)) + most) _ most_of first)

pub element_line : (key : List ℕ) (stamp : ℤ) (columns : List Column) (row : Row) → IsTrue (is_key key) → length columns ≤ 32 → IsTrue (list_all (λ (c : Column). is_kind c.kind) columns) → IsTrue (fits columns row)
    → IsLine (element_text key stamp columns row)
element_line key stamp columns row keyed few good fit =
    let most : ℕ = 601 * length columns + 2 in
    let values = plain_before (44 ∷ []) (row_text columns row ++ end_of_call) 1 most refl (omega arith) (values_end columns row.values end_of_call 2 good fit the_end_of_call) in
    let second = comma_ends (quoted_before (stamp_text stamp) (44 ∷ (row_text columns row ++ end_of_call))) (52 + (1 + most)) (stamp_ends stamp (44 ∷ (row_text columns row ++ end_of_call)) (1 + most) values) in
    line (codes "InsElem(") (quoted_before key (comma_before (quoted_before (stamp_text stamp) (44 ∷ (row_text columns row ++ end_of_call))))) 8 (130 + (2 + (52 + (1 + most)))) refl refl (omega arith) (omega (arith, few))
    (key_ends key (comma_before (quoted_before (stamp_text stamp) (44 ∷ (row_text columns row ++ end_of_call)))) (2 + (52 + (1 + most))) keyed second)
