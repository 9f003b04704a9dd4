-- What is printed of stamps, patterns and calendars is bytes of a text, and numbers are digits.
use Rattle.std.proofs.Common.{◌≡◌, ℕ, ◌<◌, ◌≤◌, ◌^◌, ◌&&◌, nat_le, Bool, true, false, cond, IsTrue, List, [], ◌∷◌, ◌++◌, length, refl, ap, ◌∙◌, arith, rules, ℤ, ◌/◌, ◌%◌}
use Rattle.std.specs.Prelude.{codes}
use Rattle.std.specs.List.{list_all, fold}
use Rattle.std.specs.Char.{is_ascii_digit}
use Rattle.std.specs.Fmt.{decimal}
use Rattle.std.proofs.lemmas.Bool.{and_parts}
use Rattle.std.proofs.lemmas.Bool.Decides.{nat_tests}
use Rattle.std.proofs.lemmas.List.Folds.{list_all-append}
use Rattle.std.proofs.lemmas.Str.Parse.{IsNumeralModel, numerals_by_fold}
use Rattle.std.proofs.lemmas.Fmt.{digits_decimal, digits_value-decimal, decimal_nonempty, length-decimal-le}
use Rattle.ts_base.specs.declared.unit.Unit as unit
use Rattle.ts_base.specs.declared.unit.Unit.TheVariants.{Second, Minute, Hour, Day, Week, Month, Year}
use Rattle.ts_base.specs.Moment.{Civil, civil_of, day_of, clock_of, all_digits, number_of, with_digit, digit, two_digits, four_digits, five_digits, text_of, stamp_text}
use Rattle.ts_base.specs.Name.{begins_word, continues_word, is_word, is_text_byte, is_text}
use Rattle.ts_pattern.specs.declared.run.Run.{Run}
use Rattle.ts_pattern.specs.Patterns.{Plan, is_pattern, is_count, unit_name, printed_run, printed_runs, printed_plan}
use Rattle.ts_pattern.specs.Spelling.{Word}
use Rattle.ts_pattern.proofs.PrintLemmas.{words_of, words-are}
use Rattle.ts_calendar.specs.declared.text.PatternPart.{PatternPart}
use Rattle.ts_calendar.specs.declared.text.PatternPart.TheVariants.{Named, Own}
use Rattle.ts_calendar.specs.declared.text.CalendarText.{CalendarText}
use Rattle.ts_calendar.specs.Calendars.{printed_part, printed_calendar, IsSoundPart, IsSound}

-- one byte of a text more
one_byte : (b : ℕ) (rest : List ℕ) → is_text_byte b ≡ true → is_text rest ≡ true → is_text (b ∷ rest) ≡ true
one_byte b rest first others = ap (λ (t : Bool). t && is_text rest) first ∙ others

digit_byte : (n : ℕ) → is_text_byte (digit n) ≡ true
digit_byte n = grind (arith, nat_tests)

one_digit : (n : ℕ) (rest : List ℕ) → is_text rest ≡ true → is_text (digit n ∷ rest) ≡ true
one_digit n rest others = one_byte (digit n) rest (digit_byte n) others

pub text_joined : (xs ys : List ℕ) → is_text xs ≡ true → is_text ys ≡ true → is_text (xs ++ ys) ≡ true
text_joined xs ys first second = list_all-append is_text_byte xs ys ∙ ap (λ (t : Bool). t && is_text ys) first ∙ second

-- a stamp
two_are_text : (sign n : ℕ) → is_text_byte sign ≡ true → is_text (sign ∷ two_digits n) ≡ true
two_are_text sign n first = one_byte sign (two_digits n) first (one_digit (n / 10) (digit n ∷ []) (one_digit n [] refl))

four_are_text : (n : ℕ) → is_text (four_digits n) ≡ true
four_are_text n =
    one_digit (n / 1000) (digit (n / 100) ∷ digit (n / 10) ∷ digit n ∷ []) (one_digit (n / 100) (digit (n / 10) ∷ digit n ∷ []) (one_digit (n / 10) (digit n ∷ []) (one_digit n [] refl)))

five_are_text : (sign n : ℕ) → is_text_byte sign ≡ true → is_text (sign ∷ five_digits n) ≡ true
five_are_text sign n first = one_byte sign (five_digits n) first (one_digit (n / 10_000) (four_digits n) (four_are_text n))

moment_is_text : (c : Civil) (clock : ℕ) → is_text (text_of c clock) ≡ true
moment_is_text c clock =
    let y : List ℕ = four_digits c.year in
    let m : List ℕ = 45 ∷ two_digits c.month in
    let d : List ℕ = 45 ∷ two_digits c.day in
    let h : List ℕ = 32 ∷ two_digits (clock / 360_000_000) in
    let n : List ℕ = 58 ∷ two_digits (clock / 6_000_000 % 60) in
    let s : List ℕ = 58 ∷ two_digits (clock / 100_000 % 60) in
    let f : List ℕ = 46 ∷ five_digits (clock % 100_000) in
    text_joined (y ++ m ++ d ++ h ++ n ++ s) f
    (text_joined (y ++ m ++ d ++ h ++ n) s
    (text_joined (y ++ m ++ d ++ h) n
    (text_joined (y ++ m ++ d) h
    (text_joined (y ++ m) d
    (text_joined y m (four_are_text c.year) (two_are_text 45 c.month refl))
    (two_are_text 45 c.day refl))
    (two_are_text 32 (clock / 360_000_000) refl))
    (two_are_text 58 (clock / 6_000_000 % 60) refl))
    (two_are_text 58 (clock / 100_000 % 60) refl))
    (five_are_text 46 (clock % 100_000) refl)

pub stamp_is_text : (t : ℤ) → is_text (stamp_text t) ≡ true
unfolding stamp_text
stamp_is_text t = moment_is_text (civil_of (day_of t)) (clock_of t)

-- digits
digit_passes : (b : ℕ) → is_ascii_digit b ≡ true → is_text_byte b ≡ true
digit_passes b is = grind (arith, nat_tests)

pub digits_are_text : (ds : List ℕ) → list_all is_ascii_digit ds ≡ true → is_text ds ≡ true
digits_are_text [] all = refl
digits_are_text (d ∷ ds) all =
    let parts = and_parts (is_ascii_digit d) (list_all is_ascii_digit ds) all in
    one_byte d ds (digit_passes d parts.0) (digits_are_text ds parts.1)

own : IsNumeralModel (λ ds. all_digits ds ≡ true) number_of
own = numerals_by_fold _ (search rules) (fold with_digit) (search rules)

-- a number of few digits
pub record IsDigits (n : ℕ) (most : ℕ) : Type 0 where
  pub all : list_all is_ascii_digit (decimal n) ≡ true
  pub some : 0 < length (decimal n)
  pub few : length (decimal n) ≤ most
  pub value : number_of (decimal n) ≡ n

pub digits_of_number : (n most : ℕ) → 0 < most → n < 10 ^ most → n < 2 ^ 64 → IsDigits n most
digits_of_number n most some below fits = record {
  all = digits_decimal own n fits;
  some = decimal_nonempty n fits;
  few = length-decimal-le most n some below fits;
  value = digits_value-decimal own n fits;
}

-- a pattern
run_is_text : (r : Run) → list_all is_ascii_digit (decimal r.count) ≡ true → is_text (printed_run r) ≡ true
run_is_text r all = text_joined (decimal r.count) (32 ∷ cond r.on (codes "on") (codes "off")) (digits_are_text (decimal r.count) all) (flag_is_text r.on)
  where
    flag_is_text : (on : Bool) → is_text (32 ∷ cond on (codes "on") (codes "off")) ≡ true
    flag_is_text true = refl
    flag_is_text false = refl

runs_are_text : (rs : List Run) → list_all (λ (w : Word). is_count w.digits) (words_of rs) ≡ true → is_text (printed_runs rs) ≡ true
runs_are_text [] all = refl
runs_are_text (r ∷ []) all =
    let counted = (and_parts (is_count (decimal r.count)) true all).0 in
    run_is_text r (and_parts (all_digits (decimal r.count)) _ counted).0
runs_are_text (r ∷ s ∷ rest) all =
    let parts = and_parts (is_count (decimal r.count)) (list_all (λ (w : Word). is_count w.digits) (words_of (s ∷ rest))) all in
    text_joined (printed_run r) (44 ∷ printed_runs (s ∷ rest)) (run_is_text r (and_parts (all_digits (decimal r.count)) _ parts.0).0) (one_byte 44 (printed_runs (s ∷ rest)) refl (runs_are_text (s ∷ rest) parts.1))

unit_is_text : (u : unit.Unit) → is_text (unit_name u) ≡ true
unit_is_text Second = refl
unit_is_text Minute = refl
unit_is_text Hour = refl
unit_is_text Day = refl
unit_is_text Week = refl
unit_is_text Month = refl
unit_is_text Year = refl

pub plan_is_text : (p : Plan) → IsTrue (is_pattern p.runs) → is_text (printed_plan p) ≡ true
plan_is_text p is =
    text_joined (123 ∷ printed_runs p.runs) (125 ∷ 44 ∷ unit_name p.unit)
    (one_byte 123 (printed_runs p.runs) refl (runs_are_text p.runs (words-are p is).counts))
    (one_byte 125 (44 ∷ unit_name p.unit) refl (one_byte 44 (unit_name p.unit) refl (unit_is_text p.unit)))

-- a calendar
word_byte : (b : ℕ) → continues_word b ≡ true → is_text_byte b ≡ true
word_byte b is = grind (arith, nat_tests)

word_bytes : (bs : List ℕ) → list_all continues_word bs ≡ true → is_text bs ≡ true
word_bytes [] all = refl
word_bytes (b ∷ bs) all =
    let parts = and_parts (continues_word b) (list_all continues_word bs) all in
    one_byte b bs (word_byte b parts.0) (word_bytes bs parts.1)

word_is_text : (word : List ℕ) → is_word word ≡ true → is_text word ≡ true
word_is_text [] is = absurd (let no : ⊥ = cc in no)
word_is_text (c ∷ more) is =
    let parts = and_parts (begins_word c) (list_all continues_word more) is in
    let first : is_text_byte c ≡ true = let begins = parts.0 in grind (arith, nat_tests) in
    one_byte c more first (word_bytes more parts.1)

part_is_text : (part : PatternPart) → IsSoundPart part → is_text (printed_part part) ≡ true
part_is_text (Named name) is =
    text_joined (codes "pattname(" ++ name) (41 ∷ []) (text_joined (codes "pattname(") name refl (word_is_text name (and_parts (is_word name) (nat_le (length name) 32) is).0)) refl
part_is_text (Own p) is =
    text_joined (codes "pattern(" ++ printed_plan p) (41 ∷ []) (text_joined (codes "pattern(") (printed_plan p) refl (plan_is_text p is)) refl

pub calendar_is_text : (c : CalendarText) → IsSound c → is_text (printed_calendar c) ≡ true
calendar_is_text c is =
    let s = stamp_text c.start in
    let p = stamp_text c.patt_start in
    text_joined (codes "startdate(" ++ s ++ codes "), pattstart(" ++ p ++ codes "), ") (printed_part c.part)
    (text_joined (codes "startdate(" ++ s ++ codes "), pattstart(" ++ p) (codes "), ")
    (text_joined (codes "startdate(" ++ s ++ codes "), pattstart(") p
    (text_joined (codes "startdate(" ++ s) (codes "), pattstart(")
    (text_joined (codes "startdate(") s refl (stamp_is_text c.start)) refl)
    (stamp_is_text c.patt_start)) refl)
    (part_is_text c.part is.part_is)
