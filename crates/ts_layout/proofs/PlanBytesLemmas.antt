-- Patterns in their bytes: the number of the unit, how many runs there are, the runs.
use Rattle.std.proofs.Common.{◌≡◌, ℕ, zero, suc, ◌+◌, ◌*◌, ◌-◌, ◌%◌, ◌^◌, ◌<◌, ◌==◌, Bool, true, false, nat_le, if◌then◌else◌, List, [], ◌∷◌, ◌++◌, length, take, drop, get_or, replicate, Option, Some, None, IsTrue, refl, sym, ap, ◌∙◌, arith, append_assoc, length-drop}
use Rattle.std.specs.Int.{w16, w32, from_be_bytes}
use Rattle.std.specs.List.{flat_map}
use Rattle.std.proofs.lemmas.Bool.Decides.{nat_tests}
use Rattle.std.proofs.lemmas.List.{take_at, drop_at, take_all, drop-drop}
use Rattle.std.proofs.lemmas.List.Concat.{flat_map-cons}
use Rattle.std.proofs.lemmas.Nat.{from_be_bytes-to_be_bytes_2, from_be_bytes-to_be_bytes_4}
use Rattle.ts_base.specs.declared.unit.Unit.{Unit}
use Rattle.ts_base.specs.declared.unit.Unit.TheVariants as units
use Rattle.ts_pattern.specs.declared.run.Run.{Run}
use Rattle.ts_pattern.specs.Patterns.{run, total, is_pattern, Plan}
use Rattle.ts_pattern.proofs.RunLemmas.{total-cons}
use Rattle.ts_pattern.proofs.PlanLemmas.{tested}
use Rattle.ts_calendar.specs.Calendars.{CalendarPlan}
use Rattle.ts_layout.specs.Slot.{padded, unit_code, run_number, run_bytes, plan_bytes, pattern_bytes, part_bytes, calendar_bytes}
use Rattle.ts_layout.specs.Meaning.{IsPatternDef, IsCalendarDef}
use Rattle.ts_layout.proofs.FieldLemmas.{length-name, pattern_plan, calendar_part}

-- the runs of a pattern, one after the other
abbrev pub runs_bytes : List Run → List ℕ
runs_bytes rs = flat_map run_bytes rs

-- what is short in all is short each
smaller : (r : Run) (rs : List Run) → total (r ∷ rs) < 2 ^ 31 → (r.count < 2 ^ 31) × (total rs < 2 ^ 31)
smaller r rs small = (omega (arith, small, total-cons r rs), omega (arith, small, total-cons r rs))

-- a number of 2 bytes, and one of 4, from a place on
abbrev pub number_2 : ℕ → List ℕ → ℕ
number_2 at bytes = from_be_bytes w16 (get_or bytes at 0 ∷ get_or bytes (at + 1) 0 ∷ [])

abbrev pub number_4 : ℕ → List ℕ → ℕ
number_4 at bytes = from_be_bytes w32 (get_or bytes at 0 ∷ get_or bytes (at + 1) 0 ∷ get_or bytes (at + 2) 0 ∷ get_or bytes (at + 3) 0 ∷ [])

-- a run by its number
pub run_on : (r : Run) → r.count < 2 ^ 31 → nat_le (2 ^ 31) (run_number r) ≡ r.on
run_on r small = of_flag r.on r.count small where
  of_flag : (on : Bool) (count : ℕ) → count < 2 ^ 31 → nat_le (2 ^ 31) (if on then 2 ^ 31 + count else count) ≡ on
  of_flag true count small = grind (arith, nat_tests)
  of_flag false count small = grind (arith, nat_tests)

pub run_count : (r : Run) → r.count < 2 ^ 31 → run_number r % 2 ^ 31 ≡ r.count
run_count r small = of_flag r.on r.count small where
  of_flag : (on : Bool) (count : ℕ) → count < 2 ^ 31 → (if on then 2 ^ 31 + count else count) % 2 ^ 31 ≡ count
  of_flag true count small = omega (arith, small)
  of_flag false count small = omega (arith, small)

run_fits : (r : Run) → r.count < 2 ^ 31 → run_number r < 2 ^ 32
run_fits r small = of_flag r.on r.count small where
  of_flag : (on : Bool) (count : ℕ) → count < 2 ^ 31 → (if on then 2 ^ 31 + count else count) < 2 ^ 32
  of_flag true count small = omega (arith, small)
  of_flag false count small = omega (arith, small)

run_of_number : ℕ → Run
run_of_number n = run (nat_le (2 ^ 31) n) (n % 2 ^ 31)

run_back : (r : Run) → r.count < 2 ^ 31 → run_of_number (run_number r) ≡ r
unfolding run_of_number
run_back r small = λ i. run (run_on r small i) (run_count r small i)

-- the first run in bytes that begin with runs
pub first_run : (r : Run) (rs : List Run) (rest bytes : List ℕ) → bytes ≡ runs_bytes (r ∷ rs) ++ rest → (take 4 bytes ≡ run_bytes r) × (drop 4 bytes ≡ runs_bytes rs ++ rest)
first_run r rs rest bytes is =
    let whole : bytes ≡ run_bytes r ++ (runs_bytes rs ++ rest) =
    is ∙ ap (λ (l : List ℕ). l ++ rest) (flat_map-cons run_bytes r rs) ∙ append_assoc (run_bytes r) (runs_bytes rs) rest in (
      ap (take 4) whole ∙ take_at (run_bytes r) (runs_bytes rs ++ rest) 4 refl,
      ap (drop 4) whole ∙ drop_at (run_bytes r) (runs_bytes rs ++ rest) 4 refl,
    )

pub first_number : (r : Run) (rs : List Run) (rest bytes : List ℕ) → r.count < 2 ^ 31 → bytes ≡ runs_bytes (r ∷ rs) ++ rest → number_4 0 bytes ≡ run_number r
first_number r rs rest bytes small is =
    let whole : bytes ≡ run_bytes r ++ (runs_bytes rs ++ rest) =
    is ∙ ap (λ (l : List ℕ). l ++ rest) (flat_map-cons run_bytes r rs) ∙ append_assoc (run_bytes r) (runs_bytes rs) rest in
    ap (number_4 0) whole ∙ from_be_bytes-to_be_bytes_4 (run_number r) (run_fits r small)

-- each run in such bytes
pub each_run : (k : ℕ) (r : Run) (rs : List Run) (rest bytes : List ℕ) → k < length rs → bytes ≡ runs_bytes rs ++ rest → take 4 (drop (4 * k) bytes) ≡ run_bytes (get_or rs k r)
each_run k r [] rest bytes within is = absurd (omega (arith, within))
each_run zero r (s ∷ rs) rest bytes within is = (first_run s rs rest bytes is).0
each_run (suc k) r (s ∷ rs) rest bytes within is =
    let at : 4 * suc k ≡ 4 + 4 * k = omega arith in
    ap (λ (n : ℕ). take 4 (drop n bytes)) at ∙ ap (take 4) (sym (drop-drop (4 * k) 4 bytes))
    ∙ each_run k r rs rest (drop 4 bytes) (omega (arith, within)) (first_run s rs rest bytes is).1

pub each_short : (k : ℕ) (r : Run) (rs : List Run) → k < length rs → total rs < 2 ^ 31 → (get_or rs k r).count < 2 ^ 31
each_short k r [] within small = absurd (omega (arith, within))
each_short zero r (s ∷ rs) within small = (smaller s rs small).0
each_short (suc k) r (s ∷ rs) within small = each_short k r rs (omega (arith, within)) (smaller s rs small).1

-- runs with the same bytes are the same
pub runs_one : (rs ss : List Run) (bytes rest more : List ℕ) → length rs ≡ length ss → total rs < 2 ^ 31 → total ss < 2 ^ 31 → bytes ≡ runs_bytes rs ++ rest → bytes ≡ runs_bytes ss ++ more → rs ≡ ss
runs_one [] [] bytes rest more long small small' is is' = refl
runs_one [] (s ∷ ss) bytes rest more long small small' is is' = absurd (omega arith)
runs_one (r ∷ rs) [] bytes rest more long small small' is is' = absurd (omega arith)
runs_one (r ∷ rs) (s ∷ ss) bytes rest more long small small' is is' =
    let low : r.count < 2 ^ 31 = (smaller r rs small).0 in
    let low' : s.count < 2 ^ 31 = (smaller s ss small').0 in
    let same : r ≡ s = sym (run_back r low) ∙ ap run_of_number (sym (first_number r rs rest bytes low is) ∙ first_number s ss more bytes low' is') ∙ run_back s low' in
    let others : rs ≡ ss = runs_one rs ss (drop 4 bytes) rest more (omega (arith, long)) (smaller r rs small).1 (smaller s ss small').1 (first_run r rs rest bytes is).1 (first_run s ss more bytes is').1 in
    λ i. same i ∷ others i

-- a unit by its number
unit_in : ℕ → Unit
unit_in code =
    if code == 0 then units.Second else (if code == 1 then units.Minute else (if code == 2 then units.Hour else (if code == 3 then units.Day
    else (if code == 4 then units.Week else (if code == 5 then units.Month else units.Year)))))

unit_back : (unit : Unit) → unit_in (unit_code unit) ≡ unit
unfolding unit_in
unit_back units.Second = refl
unit_back units.Minute = refl
unit_back units.Hour = refl
unit_back units.Day = refl
unit_back units.Week = refl
unit_back units.Month = refl
unit_back units.Year = refl

pub unit_one : (a b : Unit) → unit_code a ≡ unit_code b → a ≡ b
unit_one a b same = sym (unit_back a) ∙ ap unit_in same ∙ unit_back b

-- what bytes that begin with a pattern give: its unit, how many runs it has, and these
pub record PlanFields (bytes rest : List ℕ) (p : Plan) : Type 0 where
  pub unit : get_or bytes 0 0 ≡ unit_code p.unit
  pub count : number_2 1 bytes ≡ length p.runs
  pub runs : drop 3 bytes ≡ runs_bytes p.runs ++ rest

pub plan_fields : (bytes rest : List ℕ) (p : Plan) → IsTrue (is_pattern p.runs) → bytes ≡ plan_bytes p ++ rest → PlanFields bytes rest p
plan_fields bytes rest p is begins =
    let few : length p.runs < 2 ^ 16 = omega (arith, (tested p.runs is).few) in
    record {
      unit = ap (λ (l : List ℕ). get_or l 0 0) begins;
      count = ap (number_2 1) begins ∙ from_be_bytes-to_be_bytes_2 (length p.runs) few;
      runs = ap (drop 3) begins;
    }

-- patterns with the same bytes are the same
pub plan_one : (p q : Plan) (bytes rest more : List ℕ) → IsTrue (is_pattern p.runs) → IsTrue (is_pattern q.runs) → bytes ≡ plan_bytes p ++ rest → bytes ≡ plan_bytes q ++ more → p ≡ q
plan_one p q bytes rest more is is' begins begins' =
    let here = plan_fields bytes rest p is begins in
    let there = plan_fields bytes more q is' begins' in
    let unit : p.unit ≡ q.unit = unit_one p.unit q.unit (sym here.unit ∙ there.unit) in
    let small : total p.runs < 2 ^ 31 = omega (arith, (tested p.runs is).short) in
    let small' : total q.runs < 2 ^ 31 = omega (arith, (tested q.runs is').short) in
    let runs : p.runs ≡ q.runs = runs_one p.runs q.runs (drop 3 bytes) rest more (sym here.count ∙ there.count) small small' here.runs there.runs in
    λ i. record { unit = unit i; runs = runs i }

-- the bytes from 34 on of a pattern's page
pub behind_pattern : (page name : List ℕ) (p : Plan) → IsPatternDef (record { name = name; pattern = p }) → page ≡ pattern_bytes name p
    → take (length page - 34) (drop 34 page) ≡ plan_bytes p ++ replicate (4062 - length (plan_bytes p)) 0
unfolding padded
behind_pattern page name p is bytes =
    take_all (length page - 34) (drop 34 page) (omega (arith, length-drop 34 page))
    ∙ ap (drop 34) bytes ∙ pattern_plan name p (length-name name is.name)

-- those from 50 on of a calendar's page: 0 and the slot of a pattern, or 1, 0 and a pattern
pub behind_starts : (page name : List ℕ) (c : CalendarPlan) (by : Option ℕ) → IsCalendarDef (record { name = name; calendar = c; by = by }) → page ≡ calendar_bytes name c by
    → take (length page - 50) (drop 50 page) ≡ padded 4046 (part_bytes c.pattern by)
behind_starts page name c by is bytes =
    take_all (length page - 50) (drop 50 page) (omega (arith, length-drop 50 page))
    ∙ ap (drop 50) bytes ∙ calendar_part name c by (length-name name is.name)

pub part_named : (p : Plan) (slot : ℕ) → get_or (padded 4046 (part_bytes p (Some slot))) 0 0 ≡ 0
unfolding padded
part_named p slot = refl

pub part_slot : (p : Plan) (slot : ℕ) → get_or (padded 4046 (part_bytes p (Some slot))) 1 0 ≡ slot
unfolding padded
part_slot p slot = refl

pub part_own : (p : Plan) → get_or (padded 4046 (part_bytes p None)) 0 0 ≡ 1
unfolding padded
part_own p = refl

pub part_plan : (p : Plan) → drop 2 (padded 4046 (part_bytes p None)) ≡ plan_bytes p ++ replicate (4044 - length (plan_bytes p)) 0
unfolding padded
part_plan p =
    let size : 4046 - length (part_bytes p None) ≡ 4044 - length (plan_bytes p) = omega arith in
    ap (λ (n : ℕ). plan_bytes p ++ replicate n 0) size
