-- What is read or made as a pattern has merged runs within the limits; what is read or made as a calendar has such a
-- pattern, and starts at stamps.
use Rattle.std.proofs.Common.{◌≡◌, ℕ, ◌+◌, ◌<◌, ◌≤◌, nat_lt, Bool, true, false, cond, Option, Some, None, Ok, Err, List, [], ◌∷◌, length, map, refl, ap, subst, ◌∙◌, arith, ℤ, pos, ◌-ℤ◌, IsTrue}
use Rattle.std.specs.List.{list_all}
use Rattle.std.specs.Prelude.{Result, int_lt}
use Rattle.std.specs.Int.{int_max}
use Rattle.std.proofs.lemmas.Bool.{and_parts}
use Rattle.std.proofs.lemmas.Bool.Decides.{nat_tests}
use Rattle.ts_base.specs.Moment.{IsStamp, number_of}
use Rattle.ts_base.specs.declared.unit.Unit as unit
use Rattle.ts_base.specs.declared.refusal.Refusal.{Refusal}
use Rattle.ts_base.specs.declared.refusal.Refusal.TheVariants.{AllOff, UnitMismatch, NotAligned, PastEnd, PatternTooLong}
use Rattle.ts_pattern.specs.declared.run.Run.{Run}
use Rattle.ts_pattern.specs.declared.junction.Junction.{Junction}
use Rattle.ts_pattern.specs.Patterns.{Plan, total, flag_at, runs_of, turned, is_pattern, has_on, smaller_unit, plan_of_flags, joined_flag, joined_length, joined_in, joined_plan, is_count, written_plan, plan_of_written, plan_or_place, read_plan}
use Rattle.ts_pattern.specs.Spelling.{Word, run_of, AreRuns}
use Rattle.ts_pattern.proofs.RunLemmas.{total-cons}
use Rattle.ts_pattern.proofs.GrowLemmas.{is_pattern-runs_of}
use Rattle.ts_pattern.proofs.TurnLemmas.{is_pattern-turned}
use Rattle.ts_pattern.proofs.MultipleLemmas.{least-positive}
use Rattle.ts_pattern.proofs.PatternTextLemmas.{found as pattern_found}
use Rattle.ts_calendar.specs.declared.text.PatternPart.{PatternPart}
use Rattle.ts_calendar.specs.declared.text.PatternPart.TheVariants.{Named, Own}
use Rattle.ts_calendar.specs.declared.text.CalendarText.{CalendarText}
use Rattle.ts_calendar.specs.Calendars.{CalendarPlan, IsLaid, start_in, steps_between, first_step, found_or, with_pattern, joined_calendar, calendar_text, written_calendar, own_part, part_of_written, with_part, calendar_or_place, read_calendar}
use Rattle.ts_calendar.specs.Spelling.{IsPart, IsCalendarText}
use Rattle.ts_calendar.proofs.TextLemmas.{found as calendar_found}
use Rattle.ts_calendar.proofs.ValidLemmas.{early-smaller}
use Rattle.ts_offset.proofs.StartLemmas.{on-line}
use Rattle.ts_catalogue_laws.proofs.StampLemmas.{stamp_read}

-- flags, one at least, as a pattern
made_pattern : (u : unit.Unit) (f : ℕ → Bool) (n : ℕ) (p : Plan) → 0 < n → plan_of_flags u f n ≡ Ok p → IsTrue (is_pattern p.runs)
made_pattern u f n p some is = by (nat_lt 527_040 n) (nat_lt 512 (length (runs_of f n))) refl refl is where
  runs_in : Result Plan Refusal → List Run
  runs_in (Ok p) = p.runs
  runs_in (Err why) = []

  by : (long many : Bool) → nat_lt 527_040 n ≡ long → nat_lt 512 (length (runs_of f n)) ≡ many
      → cond long (Err (PatternTooLong n 0)) (cond many (Err (PatternTooLong n (length (runs_of f n)))) (Ok (record { unit = u; runs = runs_of f n }))) ≡ Ok p → IsTrue (is_pattern p.runs)
  by true many long few is = absurd (let never : ⊥ = cc in never)
  by false true long few is = absurd (let never : ⊥ = cc in never)
  by false false long few is =
      let small : n ≤ 527_040 = grind (arith, nat_tests) in
      let fewer : length (runs_of f n) ≤ 512 = grind (arith, nat_tests) in
      let same : runs_of f n ≡ p.runs = ap runs_in is in
      subst (λ (rs : List Run). IsTrue (is_pattern rs)) same (is_pattern-runs_of f n some small fewer)

-- runs as they are written have intervals
counted : (digits : List ℕ) → is_count digits ≡ true → 0 < number_of digits
counted digits is = grind (arith, nat_tests)

written_total : (words : List Word) (runs : List Run) → AreRuns words runs → 0 < total runs
written_total [] runs are = absurd (let some = are.some in omega (arith, some))
written_total (w ∷ words) runs are =
    let one = (and_parts (is_count w.digits) (list_all (λ (v : Word). is_count v.digits) words) are.counts).0 in
    let count : 0 < number_of w.digits = counted w.digits one in
    let more : total (run_of w ∷ map run_of words) ≡ number_of w.digits + total (map run_of words) = total-cons (run_of w) (map run_of words) in
    subst (λ (rs : List Run). 0 < total rs) are.value (omega (arith, count, more))

pub pattern_read : (text : List ℕ) (p : Plan) → read_plan text ≡ Ok p → IsTrue (is_pattern p.runs)
pattern_read text p is = by (written_plan text) refl is where
  by : (r : Result Plan ℕ) → written_plan text ≡ r → plan_or_place r ≡ Ok p → IsTrue (is_pattern p.runs)
  by (Err place) at is = absurd (let never : ⊥ = cc in never)
  by (Ok written) at is =
      let t = pattern_found text written at in
      made_pattern written.unit (flag_at written.runs) (total written.runs) p (written_total t.words written.runs t.written) is

pub pattern_turned : (rs : List Run) → IsTrue (is_pattern rs) → IsTrue (is_pattern (map turned rs))
pattern_turned rs is = is_pattern-turned rs ∙ is

pub pattern_joined : (junction : Junction) (a b p : Plan) (s t : ℤ) → joined_plan junction a s b t ≡ Ok p → IsTrue (is_pattern p.runs)
pattern_joined junction a b p s t is = by (smaller_unit a.unit b.unit) is where
  by : (o : Option unit.Unit) → joined_in o junction a s b t ≡ Ok p → IsTrue (is_pattern p.runs)
  by None is = absurd (let never : ⊥ = cc in never)
  by (Some u) is = made_pattern u (λ k. joined_flag junction u a s b t (pos k)) (joined_length u a b) p (least-positive _ _) is

-- what the text of a calendar says
pub record IsText (c : CalendarText) : Type 0 where
  pub start : IsStamp c.start
  pub patt_start : IsStamp c.patt_start
  pub own : (p : Plan) → c.part ≡ Own p → IsTrue (is_pattern p.runs)

own_read : (written : Plan) (words : List Word) (part : PatternPart) → AreRuns words written.runs → own_part (plan_of_written written) ≡ Ok part → (p : Plan) → part ≡ Own p → IsTrue (is_pattern p.runs)
own_read written words part are is p own = by (plan_of_written written) refl is where
  by : (r : Result Plan Refusal) → plan_of_written written ≡ r → own_part r ≡ Ok part → IsTrue (is_pattern p.runs)
  by (Err why) at is = absurd (let never : ⊥ = cc in never)
  by (Ok q) at is =
      let same : q ≡ p = cc in
      subst (λ (x : Plan). IsTrue (is_pattern x.runs)) same (made_pattern written.unit (flag_at written.runs) (total written.runs) q (written_total words written.runs are) at)

part_read : (written part : PatternPart) (words : List Word) → IsPart written words → part_of_written written ≡ Ok part → (p : Plan) → part ≡ Own p → IsTrue (is_pattern p.runs)
part_read (Named name) part words is_part is p own = absurd (let never : ⊥ = cc in never)
part_read (Own written) part words is_part is p own = own_read written words part is_part is p own

pub text_read : (text : List ℕ) (c : CalendarText) → read_calendar text ≡ Ok c → IsText c
text_read text c is = by (written_calendar text) refl is where
  by_part : (w : CalendarText) (t : IsCalendarText w text) (r : Result PatternPart Refusal) → part_of_written w.part ≡ r → with_part w r ≡ Ok c → IsText c
  by_part w t (Err why) at is = absurd (let never : ⊥ = cc in never)
  by_part w t (Ok part) at is =
      let same : calendar_text w.start w.patt_start part ≡ c = cc in
      subst IsText same (record {
        start = stamp_read t.start_text w.start t.start_is;
        patt_start = stamp_read t.patt_start_text w.patt_start t.patt_start_is;
        own = part_read w.part part t.words t.part_is at;
      })

  by : (r : Result CalendarText ℕ) → written_calendar text ≡ r → calendar_or_place r ≡ Ok c → IsText c
  by (Err place) at is = absurd (let never : ⊥ = cc in never)
  by (Ok w) at is = by_part w (calendar_found text w at) (part_of_written w.part) refl is

-- the parts of a calendar that was joined
greater : (a b : ℤ) → IsStamp a → IsStamp b → IsStamp (int_max a b)
greater a b one other = elim (int_lt b a) as (λ (x : Bool). IsStamp (cond x a b)) [ true ↦ one | false ↦ other ]

pub record IsMade (c : CalendarPlan) : Type 0 where
  pub start : IsStamp c.start
  pub patt_start : IsStamp c.patt_start
  pub runs : IsTrue (is_pattern c.pattern.runs)

module _ (junction : Junction) (a b c : CalendarPlan) (laid : IsLaid a) (start : IsStamp a.start) (other : IsStamp b.start) where
  in_grid : (u : unit.Unit) (k f : ℤ) → smaller_unit a.pattern.unit b.pattern.unit ≡ Some u → start_in u a.patt_start k ≡ Some f → IsStamp f
  in_grid u k f units is =
      let grid : CalendarPlan = record { start = a.start; patt_start = a.patt_start; pattern = record { unit = u; runs = a.pattern.runs } } in
      (on-line grid k f (record { stamp = laid.stamp; early = early-smaller a.pattern.unit b.pattern.unit u a.patt_start units laid.early }) is).1

  by_pattern : (u : unit.Unit) (between shift patt_start : ℤ) (r : Result Plan Refusal) → IsStamp patt_start → joined_plan junction a.pattern shift b.pattern (shift -ℤ between) ≡ r
      → with_pattern (int_max a.start b.start) patt_start r ≡ Ok c → IsMade c
  by_pattern u between shift patt_start (Err why) stamp at is = absurd (let never : ⊥ = cc in never)
  by_pattern u between shift patt_start (Ok p) stamp at is = by (has_on p.runs) is where
    by : (on : Bool) → cond on (Ok (record { start = int_max a.start b.start; patt_start = patt_start; pattern = p })) (Err AllOff) ≡ Ok c → IsMade c
    by true is =
        let plan : CalendarPlan = record { start = int_max a.start b.start; patt_start = patt_start; pattern = p } in
        let same : plan ≡ c = cc in
        subst IsMade same (record { start = greater a.start b.start start other; patt_start = stamp; runs = pattern_joined junction a.pattern b.pattern p shift (shift -ℤ between) at })
    by false is = absurd (let never : ⊥ = cc in never)

  by_start : (u : unit.Unit) (between shift : ℤ) (o : Option ℤ) → smaller_unit a.pattern.unit b.pattern.unit ≡ Some u → start_in u a.patt_start shift ≡ o
      → found_or PastEnd o (λ patt_start. with_pattern (int_max a.start b.start) patt_start (joined_plan junction a.pattern shift b.pattern (shift -ℤ between))) ≡ Ok c → IsMade c
  by_start u between shift None units at is = absurd (let never : ⊥ = cc in never)
  by_start u between shift (Some f) units at is = by_pattern u between shift f (joined_plan junction a.pattern shift b.pattern (shift -ℤ between)) (in_grid u shift f units at) refl is

  by_first : (u : unit.Unit) (between : ℤ) (o : Option ℤ) → smaller_unit a.pattern.unit b.pattern.unit ≡ Some u
      → found_or PastEnd o (λ shift. found_or PastEnd (start_in u a.patt_start shift) (λ patt_start. with_pattern (int_max a.start b.start) patt_start (joined_plan junction a.pattern shift b.pattern (shift -ℤ between)))) ≡ Ok c → IsMade c
  by_first u between None units is = absurd (let never : ⊥ = cc in never)
  by_first u between (Some shift) units is = by_start u between shift (start_in u a.patt_start shift) units refl is

  by_steps : (u : unit.Unit) (o : Option ℤ) → smaller_unit a.pattern.unit b.pattern.unit ≡ Some u
      → found_or NotAligned o (λ between. found_or PastEnd (first_step u a.patt_start (int_max a.start b.start)) (λ shift. found_or PastEnd (start_in u a.patt_start shift) (λ patt_start. with_pattern (int_max a.start b.start) patt_start (joined_plan junction a.pattern shift b.pattern (shift -ℤ between))))) ≡ Ok c → IsMade c
  by_steps u None units is = absurd (let never : ⊥ = cc in never)
  by_steps u (Some between) units is = by_first u between (first_step u a.patt_start (int_max a.start b.start)) units is

  by_unit : (o : Option unit.Unit) → smaller_unit a.pattern.unit b.pattern.unit ≡ o
      → found_or UnitMismatch o (λ u. found_or NotAligned (steps_between u a.patt_start b.patt_start) (λ between. found_or PastEnd (first_step u a.patt_start (int_max a.start b.start)) (λ shift. found_or PastEnd (start_in u a.patt_start shift) (λ patt_start. with_pattern (int_max a.start b.start) patt_start (joined_plan junction a.pattern shift b.pattern (shift -ℤ between)))))) ≡ Ok c → IsMade c
  by_unit None units is = absurd (let never : ⊥ = cc in never)
  by_unit (Some u) units is = by_steps u (steps_between u a.patt_start b.patt_start) units is

  pub calendar_joined : joined_calendar junction a b ≡ Ok c → IsMade c
  calendar_joined is = by_unit (smaller_unit a.pattern.unit b.pattern.unit) refl is
