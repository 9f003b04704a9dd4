-- The AND and the OR of two calendars are valid calendars.
use Rattle.std.proofs.Common.{◌≡◌, ℕ, ◌<◌, ◌≤◌, inl, inr, Bool, true, false, cond, ◌≢◌, length, nat_lt, refl, sym, ap, ◌∙◌, arith, Option, Some, None, Result, Ok, Err, IfOk, ℤ, pos, ◌+ℤ◌, ◌-ℤ◌, ◌*ℤ◌, ◌≤ℤ◌, ◌<ℤ◌}
use Rattle.std.specs.Prelude.{int_lt, neg_ℤ}
use Rattle.std.specs.Int.{int_max}
use Rattle.std.proofs.lemmas.Bool.{cases_Bool, cases_lt}
use Rattle.std.proofs.lemmas.Bool.Decides.{nat_tests}
use Rattle.std.proofs.lemmas.Int.{by_lt_z, ints}
use Rattle.jiff_core.proofs.SignedLemmas.{signed_arith}
use Rattle.ts_base.specs.declared.refusal.Refusal.{Refusal}
use Rattle.ts_base.specs.declared.refusal.Refusal.TheVariants.{UnitMismatch, NotAligned, PastEnd, PatternTooLong, BadCalendar, AllOff}
use Rattle.ts_base.specs.declared.fault.Trouble.{Trouble}
use Rattle.ts_base.specs.declared.fault.Trouble.TheVariants.{Refused, Memory}
use Rattle.ts_base.specs.declared.unit.Unit as unit
use Rattle.ts_base.specs.declared.unit.Unit.TheVariants.{Second, Minute, Hour, Day, Week, Month, Year}
use Rattle.ts_base.specs.Moment.{IsStamp, stamp_if_any, clock_of, day_of_month}
use Rattle.ts_pattern.specs.declared.junction.Junction.{Junction}
use Rattle.ts_pattern.specs.Patterns.{Plan, total, flag, has_on, runs_of, is_monthly, smaller_unit, joined_plan, joined_in, joined_flag, joined_length}
use Rattle.ts_base.specs.Answer.{Answers}
use Rattle.ts_pattern.proofs.PlanLemmas.{plan-is}
use Rattle.ts_pattern.proofs.JoinLemmas.{total-runs_from}
use Rattle.ts_pattern.proofs.GrowLemmas.{runs_of-zero}
use Rattle.ts_calendar.specs.Calendars.{CalendarPlan, IsEarly, IsLaid, start_in, starts_from, reach, near_count, is_late, IsValid, IsJoin, valid_calendar, steps_between, first_step, found_or, with_pattern, joined_calendar}
use Rattle.ts_calendar.specs.Line.{line_at, month_line}
use Rattle.ts_calendar.proofs.StampLemmas.{int_lt_yes, int_lt_no, int_lt-false, stamp-is}
use Rattle.ts_calendar.proofs.LineLemmas.{line-start, month_at, day-kept, date-moved}
use Rattle.ts_calendar.proofs.HeldLemmas.{start-is}
use Rattle.ts_calendar.proofs.FirstLemmas.{first_from-is}
use Rattle.ts_calendar.proofs.StepLemmas.{false-unless, from-some}
use Rattle.ts_calendar.proofs.LawLemmas.{start-near, start-zero, steps-lead, late-all, first-is}
use Rattle.ts_calendar.proofs.JoinedLemmas.{behind_shift, behind_steps, behind_unit, monthly-smaller}

-- intervals counted from the start of another one
line-moved : (u : unit.Unit) (first a b f : ℤ) → IsStamp first → IsEarly u first → start_in u first a ≡ Some f → line_at u f b ≡ line_at u first (a +ℤ b)
unfolding line_at
line-moved Second first a b f stamp early e = let is = stamp-is (first +ℤ a *ℤ pos 100_000) f e in omega (arith, signed_arith, is.0)
line-moved Minute first a b f stamp early e = let is = stamp-is (first +ℤ a *ℤ pos 6_000_000) f e in omega (arith, signed_arith, is.0)
line-moved Hour first a b f stamp early e = let is = stamp-is (first +ℤ a *ℤ pos 360_000_000) f e in omega (arith, signed_arith, is.0)
line-moved Day first a b f stamp early e = let is = stamp-is (first +ℤ a *ℤ pos 8_640_000_000) f e in omega (arith, signed_arith, is.0)
line-moved Week first a b f stamp early e = let is = stamp-is (first +ℤ a *ℤ pos 60_480_000_000) f e in omega (arith, signed_arith, is.0)
line-moved Month first a b f stamp early e =
    let is = date-moved Month first a f stamp early refl e in
    let number : month_at f +ℤ b *ℤ pos 1 ≡ month_at first +ℤ (a +ℤ b) *ℤ pos 1 = omega (arith, signed_arith, is.2) in
    ap (λ d. month_line d (clock_of f) (month_at f +ℤ b *ℤ pos 1)) is.0
    ∙ ap (λ t. month_line (day_of_month first) t (month_at f +ℤ b *ℤ pos 1)) is.1
    ∙ ap (month_line (day_of_month first) (clock_of first)) number
line-moved Year first a b f stamp early e =
    let is = date-moved Year first a f stamp early refl e in
    let number : month_at f +ℤ b *ℤ pos 12 ≡ month_at first +ℤ (a +ℤ b) *ℤ pos 12 = omega (arith, signed_arith, is.2) in
    ap (λ d. month_line d (clock_of f) (month_at f +ℤ b *ℤ pos 12)) is.0
    ∙ ap (λ t. month_line (day_of_month first) t (month_at f +ℤ b *ℤ pos 12)) is.1
    ∙ ap (month_line (day_of_month first) (clock_of first)) number

pub early-kept : (u : unit.Unit) (first a f : ℤ) → IsStamp first → IsEarly u first → start_in u first a ≡ Some f → IsEarly u f
early-kept u first a f stamp early e = λ monthly. let kept = day-kept u first a f stamp early monthly e in omega (arith, kept, early monthly)

start-moved : (u : unit.Unit) (first a b f : ℤ) → IsStamp first → IsEarly u first → start_in u first a ≡ Some f → start_in u f b ≡ start_in u first (a +ℤ b)
start-moved u first a b f stamp early e =
    let here = start-is u first a f stamp early e in
    let there : IsStamp f = rw (← here.0) at here.1 in
    line-start u f b there (early-kept u first a f stamp early e)
    ∙ ap stamp_if_any (line-moved u first a b f stamp early e) ∙ sym (line-start u first (a +ℤ b) stamp early)

-- the parts of a calendar that was joined
pub record IsJoined (junction : Junction) (a b c : CalendarPlan) : Type 0 where
  pub u : unit.Unit
  pub between : ℤ
  pub shift : ℤ
  pub units : smaller_unit a.pattern.unit b.pattern.unit ≡ Some u
  pub first : first_step u a.patt_start (int_max a.start b.start) ≡ Some shift
  pub start : start_in u a.patt_start shift ≡ Some c.patt_start
  pub from : c.start ≡ int_max a.start b.start
  pub pattern : joined_plan junction a.pattern shift b.pattern (shift -ℤ between) ≡ Ok c.pattern
  pub on : has_on c.pattern.runs ≡ true

joined-parts : (junction : Junction) (a b c : CalendarPlan) → joined_calendar junction a b ≡ Ok c → IsJoined junction a b c
joined-parts junction a b c h = by_unit (smaller_unit a.pattern.unit b.pattern.unit) refl h where
  by_pattern : (u : unit.Unit) (between shift patt_start : ℤ) (r : Result Plan Refusal) → smaller_unit a.pattern.unit b.pattern.unit ≡ Some u
      → first_step u a.patt_start (int_max a.start b.start) ≡ Some shift → start_in u a.patt_start shift ≡ Some patt_start
      → joined_plan junction a.pattern shift b.pattern (shift -ℤ between) ≡ r → with_pattern (int_max a.start b.start) patt_start r ≡ Ok c → IsJoined junction a b c
  by_pattern u between shift patt_start (Err why) units first start e h = absurd (cc)
  by_pattern u between shift patt_start (Ok p) units first start e h = elim (cases_Bool (has_on p.runs)) [
    | inl on ↦
        let there = rw on at h in
        let same : record { start = int_max a.start b.start; patt_start = patt_start; pattern = p } ≡ c = cc in
        let p_is : p ≡ c.pattern = ap (λ (x : CalendarPlan). x.pattern) same in
        record {
          u = u;
          between = between;
          shift = shift;
          units = units;
          first = first;
          start = start ∙ ap (λ (x : CalendarPlan). Some x.patt_start) same;
          from = sym (ap (λ (x : CalendarPlan). x.start) same);
          pattern = e ∙ ap Ok p_is;
          on = sym (ap (λ (x : Plan). has_on x.runs) p_is) ∙ on;
        }
    | inr off ↦ absurd (let wrong = rw off at h in cc)
  ]

  by_start : (u : unit.Unit) (between shift : ℤ) (o : Option ℤ) → smaller_unit a.pattern.unit b.pattern.unit ≡ Some u
      → first_step u a.patt_start (int_max a.start b.start) ≡ Some shift → start_in u a.patt_start shift ≡ o
      → found_or PastEnd o (λ patt_start. with_pattern (int_max a.start b.start) patt_start (joined_plan junction a.pattern shift b.pattern (shift -ℤ between))) ≡ Ok c
      → IsJoined junction a b c
  by_start u between shift None units first e h = absurd (cc)
  by_start u between shift (Some patt_start) units first e h =
      by_pattern u between shift patt_start (joined_plan junction a.pattern shift b.pattern (shift -ℤ between)) units first e refl h

  by_first : (u : unit.Unit) (between : ℤ) (o : Option ℤ) → smaller_unit a.pattern.unit b.pattern.unit ≡ Some u
      → first_step u a.patt_start (int_max a.start b.start) ≡ o → found_or PastEnd o (behind_shift junction a b u between) ≡ Ok c → IsJoined junction a b c
  by_first u between None units e h = absurd (cc)
  by_first u between (Some shift) units e h = by_start u between shift (start_in u a.patt_start shift) units e refl h

  by_steps : (u : unit.Unit) (o : Option ℤ) → smaller_unit a.pattern.unit b.pattern.unit ≡ Some u
      → found_or NotAligned o (behind_steps junction a b u) ≡ Ok c → IsJoined junction a b c
  by_steps u None units h = absurd (cc)
  by_steps u (Some between) units h = by_first u between (first_step u a.patt_start (int_max a.start b.start)) units refl h

  by_unit : (o : Option unit.Unit) → smaller_unit a.pattern.unit b.pattern.unit ≡ o → found_or UnitMismatch o (behind_unit junction a b) ≡ Ok c → IsJoined junction a b c
  by_unit None e h = absurd (cc)
  by_unit (Some u) e h = by_steps u (steps_between u a.patt_start b.patt_start) e h

-- a pattern with an on run that was joined has intervals
some-joined : (junction : Junction) (a b p : Plan) (s t : ℤ) (u : unit.Unit) → smaller_unit a.unit b.unit ≡ Some u → joined_plan junction a s b t ≡ Ok p → has_on p.runs ≡ true
    → (p.unit ≡ u) × (0 < total p.runs)
some-joined junction a b p s t u units e on =
    let f = λ (k : ℕ). joined_flag junction u a s b t (pos k) in
    let n = joined_length u a b in
    let is = plan-is u f n p (sym (ap (λ o. joined_in o junction a s b t) units) ∙ e) in
    let count : total p.runs ≡ n = ap total is.1 ∙ total-runs_from f 0 n in (
      is.0,
      elim (cases_lt 0 n) [
        | inl some ↦ omega (arith, count)
        | inr none ↦ absurd (let empty = is.1 ∙ runs_of-zero f n (omega arith) in let off = sym on ∙ ap has_on empty in cc)
      ],
    )

pub early-smaller : (a b u : unit.Unit) (first : ℤ) → smaller_unit a b ≡ Some u → IsEarly a first → IsEarly u first
early-smaller a b u first units early = λ m. early (monthly-smaller a b u units m)

not-late : (u : unit.Unit) (first : ℤ) → IsEarly u first → is_late u first ≡ false
not-late u first early = elim (cases_Bool (is_monthly u)) [
  | inl monthly ↦ rw monthly (small (day_of_month first) (early monthly))
  | inr other ↦ rw other refl
]
  where
    small : (d : ℕ) → d ≤ 28 → nat_lt 28 d ≡ false
    small d h = grind (arith, nat_tests)

not-before : (s f : ℤ) → starts_from s (Some f) ≡ true → int_lt f s ≡ false
not-before s f h = elim (cases_Bool (int_lt f s)) [
  | inl lt ↦ absurd (let wrong = rw lt at h in cc)
  | inr ge ↦ ge
]

pub joined-valid : (junction : Junction) (a b c : CalendarPlan) → IsStamp a.patt_start → IsEarly a.pattern.unit a.patt_start
    → joined_calendar junction a b ≡ Ok c → valid_calendar c ≡ Ok c
joined-valid junction a b c stamp early h =
    let j = joined-parts junction a b c h in
    let u = j.u in
    let s = int_max a.start b.start in
    let n = total c.pattern.runs in
    let early_u = early-smaller a.pattern.unit b.pattern.unit u a.patt_start j.units early in
    let pattern = some-joined junction a.pattern b.pattern c.pattern j.shift (j.shift -ℤ j.between) u j.units j.pattern j.on in
    let first = first_from-is (λ k. starts_from s (start_in u a.patt_start k)) (neg_ℤ (pos reach)) j.shift near_count j.first in
    let here : starts_from s (Some c.patt_start) ≡ true = sym (ap (starts_from s) j.start) ∙ first.0 in
    let before = j.shift +ℤ neg_ℤ (pos n) in
    let moved : start_in c.pattern.unit c.patt_start (neg_ℤ (pos n)) ≡ start_in u a.patt_start before =
    ap (λ v. start_in v c.patt_start (neg_ℤ (pos n))) pattern.0 ∙ start-moved u a.patt_start j.shift (neg_ℤ (pos n)) c.patt_start stamp early_u j.start in
    let earlier : starts_from s (start_in u a.patt_start before) ≡ false =
    false-unless (starts_from s (start_in u a.patt_start before)) (λ yes_.
    let there = from-some s (start_in u a.patt_start before) yes_ in
    let near = start-near u a.patt_start before there.0 stamp early_u there.1 in
    let no_ = first.1 before near.0 (omega (arith, ints, pattern.1)) in
    cc) in
    let late : is_late c.pattern.unit c.patt_start ≡ false =
    ap (λ v. is_late v c.patt_start) pattern.0 ∙ not-late u c.patt_start (early-kept u a.patt_start j.shift c.patt_start stamp early_u j.start) in
    let ordered : int_lt c.patt_start c.start ≡ false = ap (int_lt c.patt_start) j.from ∙ not-before s c.patt_start here in
    let round : starts_from c.start (start_in c.pattern.unit c.patt_start (neg_ℤ (pos n))) ≡ false =
    ap (λ x. starts_from x (start_in c.pattern.unit c.patt_start (neg_ℤ (pos n)))) j.from ∙ ap (starts_from s) moved ∙ earlier in
    rw (late, ordered, round, j.on) refl

-- an answer's value has what each such value has
pub answers-ok : (answer : Result CalendarPlan Refusal) (result : Result CalendarPlan Trouble) → Answers {A = CalendarPlan} answer result
    → ((c : CalendarPlan) → answer ≡ Ok c → valid_calendar c ≡ Ok c) → IfOk result (λ (c : CalendarPlan). valid_calendar c ≡ Ok c)
answers-ok answer (Ok c) h all = all c h
answers-ok answer (Err why) h all = tt

-- a valid calendar doesn't start after its pattern
pub valid-ordered : (c : CalendarPlan) → IsValid c → c.start ≤ℤ c.patt_start
valid-ordered c h = int_lt-false c.patt_start c.start (by (is_late c.pattern.unit c.patt_start) (int_lt c.patt_start c.start) _ (has_on c.pattern.runs) c h) where
  by : (late lt rest on : Bool) (c : CalendarPlan)
      → cond late (Err (BadCalendar 0)) (cond (cond lt true rest) (Err (BadCalendar 0)) (cond on (Ok c) (Err AllOff))) ≡ Ok c → lt ≡ false
  by true lt rest on c h = absurd (cc)
  by false true rest on c h = absurd (cc)
  by false false rest on c h = refl

-- patterns are never joined too late
plan-in-time : (junction : Junction) (a b : Plan) (s t : ℤ) → joined_plan junction a s b t ≡ Err PastEnd → ⊥
plan-in-time junction a b s t h = by (smaller_unit a.unit b.unit) h where
  by_tests : (many long : Bool) (n m : ℕ) (p : Plan) → cond many (Err (PatternTooLong n 0)) (cond long (Err (PatternTooLong n m)) (Ok p)) ≡ Err PastEnd → ⊥
  by_tests true long n m p h = cc
  by_tests false true n m p h = cc
  by_tests false false n m p h = cc

  by : (o : Option unit.Unit) → joined_in o junction a s b t ≡ Err PastEnd → ⊥
  by None h = cc
  by (Some u) h =
      let f = λ (k : ℕ). joined_flag junction u a s b t (pos k) in
      let n = joined_length u a b in
      by_tests (nat_lt 527_040 n) (nat_lt 512 (length (runs_of f n))) n (length (runs_of f n)) (record { unit = u; runs = runs_of f n }) h

max-right : (x y : ℤ) → x <ℤ y → int_max x y ≡ y
max-right x y lt = rw (int_lt_no y x (omega (arith, ints))) refl

max-left : (x y : ℤ) → y ≤ℤ x → int_max x y ≡ x
max-left x y le =
    by_lt_z y x
    (λ lt. rw (int_lt_yes y x lt) refl)
    (λ ge. rw (int_lt_no y x ge) (omega (arith, ints)))

-- the later start has a pattern start behind it on the common grid
pub grid-reaches : (a b : CalendarPlan) (u : unit.Unit) (between : ℤ) → IsLaid a → IsEarly u a.patt_start → IsValid a → IsValid b
    → steps_between u a.patt_start b.patt_start ≡ Some between → first_step u a.patt_start (int_max a.start b.start) ≡ None → ⊥
grid-reaches a b u between laid early valid_a valid_b aligned none =
    let all = late-all u a.patt_start (int_max a.start b.start) laid.stamp early none in
    let own = all (pos 0) a.patt_start (start-zero u a.patt_start laid.stamp early) in
    let other = all between b.patt_start (steps-lead u a.patt_start b.patt_start between aligned) in
    let a_order = valid-ordered a valid_a in
    let b_order = valid-ordered b valid_b in
    by_lt_z a.start b.start
    (λ lt. omega (arith, ints, max-right a.start b.start lt))
    (λ le. omega (arith, ints, max-left a.start b.start le))

-- so nothing is joined too late
pub joined-in-time : (junction : Junction) (a b : CalendarPlan) → IsLaid a → IsValid a → IsValid b → joined_calendar junction a b ≡ Err PastEnd → ⊥
joined-in-time junction a b laid valid_a valid_b h = by_unit (smaller_unit a.pattern.unit b.pattern.unit) refl h where
  by_pattern : (start patt_start : ℤ) (r : Result Plan Refusal) → (r ≡ Err PastEnd → ⊥) → with_pattern start patt_start r ≡ Err PastEnd → ⊥
  by_pattern start patt_start (Err why) never h = never (let same : why ≡ PastEnd = cc in ap Err same)
  by_pattern start patt_start (Ok p) never h = by_on (has_on p.runs) _ h where
    by_on : (on : Bool) (c : CalendarPlan) → cond on (Ok c) (Err AllOff) ≡ Err PastEnd → ⊥
    by_on true c h = cc
    by_on false c h = cc

  by_start : (u : unit.Unit) (between shift : ℤ) (o : Option ℤ) → o ≢ None
      → found_or PastEnd o (λ patt_start. with_pattern (int_max a.start b.start) patt_start (joined_plan junction a.pattern shift b.pattern (shift -ℤ between))) ≡ Err PastEnd → ⊥
  by_start u between shift None some h = some refl
  by_start u between shift (Some patt_start) some h =
      by_pattern (int_max a.start b.start) patt_start _ (plan-in-time junction a.pattern b.pattern shift (shift -ℤ between)) h

  by_first : (u : unit.Unit) (between : ℤ) (o : Option ℤ) → IsEarly u a.patt_start → steps_between u a.patt_start b.patt_start ≡ Some between
      → first_step u a.patt_start (int_max a.start b.start) ≡ o → found_or PastEnd o (behind_shift junction a b u between) ≡ Err PastEnd → ⊥
  by_first u between None early aligned e h = grid-reaches a b u between laid early valid_a valid_b aligned e
  by_first u between (Some shift) early aligned e h =
      let first = first-is u a.patt_start (int_max a.start b.start) shift laid.stamp early e in
      by_start u between shift (start_in u a.patt_start shift) (λ none. let some = first.exists_at in cc) h

  by_steps : (u : unit.Unit) (o : Option ℤ) → IsEarly u a.patt_start → steps_between u a.patt_start b.patt_start ≡ o
      → found_or NotAligned o (behind_steps junction a b u) ≡ Err PastEnd → ⊥
  by_steps u None early e h = cc
  by_steps u (Some between) early e h =
      by_first u between (first_step u a.patt_start (int_max a.start b.start)) early e refl h

  by_unit : (o : Option unit.Unit) → smaller_unit a.pattern.unit b.pattern.unit ≡ o → found_or UnitMismatch o (behind_unit junction a b) ≡ Err PastEnd → ⊥
  by_unit None e h = cc
  by_unit (Some u) e h =
      by_steps u (steps_between u a.patt_start b.patt_start) (early-smaller a.pattern.unit b.pattern.unit u a.patt_start e laid.early) refl h

pub answers-in-time : (answer : Result CalendarPlan Refusal) (result : Result CalendarPlan Trouble) → Answers {A = CalendarPlan} answer result
    → (answer ≡ Err PastEnd → ⊥) → result ≡ Err (Refused PastEnd) → ⊥
answers-in-time answer (Ok c) h never e = cc
answers-in-time answer (Err (Refused why)) h never e = never (let same : why ≡ PastEnd = cc in h ∙ ap Err same)
answers-in-time answer (Err (Memory error)) h never e = cc

-- a calendar with these parts is the join
join-of : (junction : Junction) (a b c : CalendarPlan) (u : unit.Unit) (between shift other patt_start start : ℤ) → IsLaid a → IsEarly u a.patt_start
    → smaller_unit a.pattern.unit b.pattern.unit ≡ Some u → steps_between u a.patt_start b.patt_start ≡ Some between
    → start_in u a.patt_start shift ≡ Some patt_start → start ≡ int_max a.start b.start → other ≡ shift -ℤ between
    → (c.start ≡ start) × (c.patt_start ≡ patt_start) → smaller_unit a.pattern.unit b.pattern.unit ≡ Some c.pattern.unit
    → ((k : ℤ) → flag c.pattern.runs k ≡ joined_flag junction c.pattern.unit a.pattern shift b.pattern other k)
    → total c.pattern.runs ≡ joined_length c.pattern.unit a.pattern b.pattern → IsJoin junction a b c
join-of junction a b c u between shift other patt_start start laid early units aligned lead start_is other_is parts unit flags length =
    let both : Some c.pattern.unit ≡ Some u = sym unit ∙ units in
    let u_is : c.pattern.unit ≡ u = cc in
    let whole : between +ℤ (shift -ℤ between) ≡ shift = omega (arith, ints) in
    record {
      units = unit;
      from = parts.0 ∙ start_is;
      steps = shift;
      steps_lead = ap (λ v. start_in v a.patt_start shift) u_is ∙ lead ∙ ap Some (sym parts.1);
      other_steps = other;
      other_steps_lead =
          ap (λ v. start_in v b.patt_start other) u_is ∙ ap (start_in u b.patt_start) other_is
          ∙ start-moved u a.patt_start between (shift -ℤ between) b.patt_start laid.stamp early (steps-lead u a.patt_start b.patt_start between aligned)
          ∙ ap (start_in u a.patt_start) whole ∙ lead ∙ ap Some (sym parts.1);
      flags = flags;
      length = length;
    }

pub join-ok : (junction : Junction) (a b : CalendarPlan) (u : unit.Unit) (between shift other patt_start start : ℤ) → IsLaid a → IsEarly u a.patt_start
    → smaller_unit a.pattern.unit b.pattern.unit ≡ Some u → steps_between u a.patt_start b.patt_start ≡ Some between
    → start_in u a.patt_start shift ≡ Some patt_start → start ≡ int_max a.start b.start → other ≡ shift -ℤ between
    → (r : Result CalendarPlan Trouble) → IfOk r (λ (c : CalendarPlan). (c.start ≡ start) × (c.patt_start ≡ patt_start))
    → IfOk r (λ (c : CalendarPlan). smaller_unit a.pattern.unit b.pattern.unit ≡ Some c.pattern.unit)
    → IfOk r (λ (c : CalendarPlan). (k : ℤ) → flag c.pattern.runs k ≡ joined_flag junction c.pattern.unit a.pattern shift b.pattern other k)
    → IfOk r (λ (c : CalendarPlan). total c.pattern.runs ≡ joined_length c.pattern.unit a.pattern b.pattern) → IfOk r (IsJoin junction a b)
join-ok junction a b u between shift other patt_start start laid early units aligned lead start_is other_is (Ok c) parts unit flags length =
    join-of junction a b c u between shift other patt_start start laid early units aligned lead start_is other_is parts unit flags length
join-ok junction a b u between shift other patt_start start laid early units aligned lead start_is other_is (Err why) parts unit flags length = tt
