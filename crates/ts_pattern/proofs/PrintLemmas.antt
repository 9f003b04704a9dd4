-- What is printed is read again.
use Rattle.std.proofs.Common.{◌≡◌, ℕ, ◌+◌, ◌<◌, ◌≤◌, ◌^◌, true, ◌&&◌, nat_lt, nat_le, List, [], ◌∷◌, ◌++◌, length, map, refl, sym, ap, subst, ◌∙◌, arith, append_assoc, IsTrue, Ok, rules}
use Rattle.std.specs.List.{list_all, fold}
use Rattle.std.specs.Fmt.{decimal}
use Rattle.std.proofs.lemmas.Bool.{and_parts, ltb-true}
use Rattle.std.proofs.lemmas.Bool.Decides.{nat_tests}
use Rattle.std.proofs.lemmas.List.{append-nil}
use Rattle.std.proofs.lemmas.Str.Parse.{IsNumeralModel, numerals_by_fold}
use Rattle.std.proofs.lemmas.Fmt.{digits_decimal, digits_value-decimal, decimal_nonempty, length-decimal-le}
use Rattle.ts_base.specs.Moment.{all_digits, number_of, with_digit}
use Rattle.ts_text.specs.Parted.{IsParted}
use Rattle.ts_text.proofs.CallerLemmas.{parted-here, parted-space}
use Rattle.ts_pattern.specs.declared.run.Run.{Run}
use Rattle.ts_pattern.specs.Patterns.{Plan, total, flag_at, runs_of, are_merged, is_pattern, differs_from, is_count, are_counts, unit_name, written_plan, plan_of_written, plan_or_place, read_plan, printed_run, printed_runs, printed_plan}
use Rattle.ts_pattern.specs.Spelling.{Word, flag_word, runs_before, pattern_before, run_of, AreRuns}
use Rattle.ts_pattern.proofs.GrowLemmas.{runs_from-merged}
use Rattle.ts_pattern.proofs.PlanLemmas.{tested, plan-fits}
use Rattle.ts_pattern.proofs.RunLemmas.{total-cons, lt_yes}
use Rattle.ts_pattern.proofs.PatternTextLemmas.{read}

-- digits and their value, as std knows them
own : IsNumeralModel (λ ds. all_digits ds ≡ true) number_of
own = numerals_by_fold _ (search rules) (fold with_digit) (search rules)

le_yes : (a b : ℕ) → a ≤ b → nat_le a b ≡ true
le_yes a b h = grind (arith, nat_tests)

-- the words of runs as they are printed
abbrev pub word_of_run : Run → Word
word_of_run r = record { digits = decimal r.count; on = r.on }

abbrev pub words_of : List Run → List Word
words_of = map word_of_run

-- a printed count is a count, and writes its number
count-is : (n : ℕ) → 0 < n → n < 10 ^ 9 → (is_count (decimal n) ≡ true) × (number_of (decimal n) ≡ n)
count-is n positive small =
    let fits : n < 2 ^ 64 = omega arith in
    let value = digits_value-decimal own n fits in
    let some = decimal_nonempty n fits in
    let few = length-decimal-le 9 n (omega arith) small fits in
    (rw (digits_decimal own n fits, le_yes 1 (length (decimal n)) some, le_yes (length (decimal n)) 9 few, value, lt_yes 0 n positive) refl, value)

words-counts : (rs : List Run) → are_counts rs ≡ true → (list_all (λ (w : Word). is_count w.digits) (words_of rs) ≡ true) × (map run_of (words_of rs) ≡ rs)
words-counts [] c = (refl, refl)
words-counts (r ∷ rs) c =
    let parts = and_parts (nat_lt 0 r.count && nat_lt r.count (10 ^ 9)) (are_counts rs) c in
    let both = and_parts (nat_lt 0 r.count) (nat_lt r.count (10 ^ 9)) parts.0 in
    let one = count-is r.count (ltb-true 0 r.count both.0) (ltb-true r.count (10 ^ 9) both.1) in
    let others = words-counts rs parts.1 in
    let made : run_of (word_of_run r) ≡ r = ap (λ (n : ℕ). record { on = r.on; count = n }) one.1 in
    (rw one.0 others.0, ap (λ (x : Run). x ∷ map run_of (words_of rs)) made ∙ ap (λ (l : List Run). r ∷ l) others.1)

words-some : (rs : List Run) → 0 < length rs → 0 < length (words_of rs)
words-some [] some = absurd (omega arith)
words-some (r ∷ rs) some = omega arith

-- the counts of a pattern have few digits
counts-merged : (rs : List Run) → are_merged rs ≡ true → total rs ≤ 527_040 → are_counts rs ≡ true
counts-merged [] m h = refl
counts-merged (r ∷ rs) m h =
    let parts = and_parts (nat_lt 0 r.count && differs_from r rs) (are_merged rs) m in
    let first = and_parts (nat_lt 0 r.count) (differs_from r rs) parts.0 in
    let cons = total-cons r rs in
    let small : r.count < 10 ^ 9 = omega arith in
    rw (first.0, lt_yes r.count (10 ^ 9) small, counts-merged rs parts.1 (omega arith)) refl

-- the words write the runs of a pattern
pub words-are : (p : Plan) → IsTrue (is_pattern p.runs) → AreRuns (words_of p.runs) p.runs
words-are p h =
    let t = tested p.runs h in
    let words = words-counts p.runs (counts-merged p.runs t.merged t.short) in
    record { some = words-some p.runs t.some; counts = words.0; value = words.1 }

-- a printed run is its tokens
run-parted : (r : Run) (rest : List ℕ) (tokens : List (List ℕ)) → IsParted tokens rest → IsParted (decimal r.count ∷ flag_word r.on ∷ tokens) (printed_run r ++ rest)
run-parted r rest tokens p =
    subst (λ (l : List ℕ). IsParted (decimal r.count ∷ flag_word r.on ∷ tokens) l) (sym (append_assoc (decimal r.count) (32 ∷ flag_word r.on) rest))
    (parted-here (decimal r.count) (32 ∷ (flag_word r.on ++ rest)) (flag_word r.on ∷ tokens) (parted-space (flag_word r.on ++ rest) (flag_word r.on ∷ tokens) (parted-here (flag_word r.on) rest tokens p)))

-- and so are printed runs
runs-parted : (rs : List Run) (rest : List ℕ) (tokens : List (List ℕ)) → 0 < length rs → IsParted tokens rest → IsParted (runs_before (words_of rs) tokens) (printed_runs rs ++ rest)
runs-parted [] rest tokens some p = absurd (omega arith)
runs-parted (r ∷ []) rest tokens some p = run-parted r rest tokens p
runs-parted (r ∷ s ∷ rs) rest tokens some p =
    let more : List ℕ = printed_runs (s ∷ rs) ++ rest in
    let inner = parted-here (44 ∷ []) more (runs_before (words_of (s ∷ rs)) tokens) (runs-parted (s ∷ rs) rest tokens (omega arith) p) in
    subst (λ (l : List ℕ). IsParted (runs_before (words_of (r ∷ s ∷ rs)) tokens) l) (sym (append_assoc (printed_run r) (44 ∷ printed_runs (s ∷ rs)) rest))
    (run-parted r (44 ∷ more) ((44 ∷ []) ∷ runs_before (words_of (s ∷ rs)) tokens) inner)

-- and a printed pattern, before further tokens
pub plan-parted : (p : Plan) (rest : List ℕ) (tokens : List (List ℕ)) → IsTrue (is_pattern p.runs) → IsParted tokens rest → IsParted (pattern_before (words_of p.runs) p.unit tokens) (printed_plan p ++ rest)
plan-parted p rest tokens h parted =
    let behind : List ℕ = 125 ∷ 44 ∷ (unit_name p.unit ++ rest) in
    let more : List (List ℕ) = (125 ∷ []) ∷ (44 ∷ []) ∷ unit_name p.unit ∷ tokens in
    let end = parted-here (125 ∷ []) (44 ∷ (unit_name p.unit ++ rest)) ((44 ∷ []) ∷ unit_name p.unit ∷ tokens) (parted-here (44 ∷ []) (unit_name p.unit ++ rest) (unit_name p.unit ∷ tokens) (parted-here (unit_name p.unit) rest tokens parted)) in
    let inside = runs-parted p.runs behind more (tested p.runs h).some end in
    subst (λ (l : List ℕ). IsParted (pattern_before (words_of p.runs) p.unit tokens) l) (ap (λ (l : List ℕ). 123 ∷ l) (sym (append_assoc (printed_runs p.runs) (125 ∷ 44 ∷ unit_name p.unit) rest)))
    (parted-here (123 ∷ []) (printed_runs p.runs ++ behind) (runs_before (words_of p.runs) more) inside)

-- a printed pattern is written as it is
plan-printed : (p : Plan) → IsTrue (is_pattern p.runs) → written_plan (printed_plan p) ≡ Ok p
plan-printed p h = read (printed_plan p) p (record {
  words = words_of p.runs;
  written = words-are p h;
  parted = subst (λ (l : List ℕ). IsParted (pattern_before (words_of p.runs) p.unit []) l) (append-nil (printed_plan p)) (plan-parted p [] [] h refl);
})

-- a pattern is the one of its own runs
pub plan-itself : (p : Plan) → IsTrue (is_pattern p.runs) → plan_of_written p ≡ Ok p
plan-itself p h =
    let t = tested p.runs h in
    let n = total p.runs in
    let runs : runs_of (flag_at p.runs) n ≡ p.runs = runs_from-merged p.runs (flag_at p.runs) 0 t.merged (λ i lt. let same : 0 + i ≡ i = omega arith in ap (flag_at p.runs) same) in
    plan-fits p.unit (flag_at p.runs) n t.short (omega (arith, ap length runs, t.few))
    ∙ ap (λ (rs : List Run). Ok (record { unit = p.unit; runs = rs })) runs

-- what is printed is read as the same pattern
pub read-printed : (p : Plan) → IsTrue (is_pattern p.runs) → read_plan (printed_plan p) ≡ Ok p
read-printed p h = ap plan_or_place (plan-printed p h) ∙ plan-itself p h
