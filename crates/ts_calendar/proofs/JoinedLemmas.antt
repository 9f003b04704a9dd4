-- The AND and the OR of calendars, part by part.
use Rattle.std.proofs.Common.{◌≡◌, true, false, refl, sym, ap, ◌∙◌, ℤ, pos, ◌-ℤ◌, Some, None, Option, Result, Ok, Err, Bool, nat_le}
use Rattle.std.proofs.lemmas.Bool.{and_parts}
use Rattle.std.specs.Int.{int_max}
use Rattle.ts_base.specs.declared.refusal.Refusal.{Refusal}
use Rattle.ts_base.specs.declared.refusal.Refusal.TheVariants.{AllOff, UnitMismatch, NotAligned, PastEnd}
use Rattle.ts_base.specs.declared.fault.Trouble.{Trouble}
use Rattle.ts_base.specs.declared.fault.Trouble.TheVariants.{Refused, Memory}
use Rattle.ts_base.specs.declared.unit.Unit as unit
use Rattle.ts_pattern.specs.declared.junction.Junction.{Junction}
use Rattle.ts_pattern.specs.Patterns.{Plan, has_on, same_flag, smaller_unit, is_monthly, size, joined_plan, joined_in, joined_flag, joined_length}
use Rattle.ts_base.specs.Answer.{Answers}
use Rattle.ts_pattern.proofs.PlanLemmas.{plan-is, smaller-made}
use Rattle.ts_calendar.specs.Calendars.{CalendarPlan, start_in, steps_between, first_step, found_or, common_grid, with_pattern, joined_calendar}
use Rattle.ts_calendar.specs.declared.grid.CommonGrid.{CommonGrid}

-- a grid of a unit
abbrev pub grid_of : unit.Unit → ℤ → Result CommonGrid Refusal
grid_of u n = Ok (record { unit = u; steps = n })

-- what comes behind each step of joining
abbrev pub behind_shift : Junction → CalendarPlan → CalendarPlan → unit.Unit → ℤ → ℤ → Result CalendarPlan Refusal
behind_shift junction a b u between shift = found_or PastEnd (start_in u a.patt_start shift) (λ patt_start.
    with_pattern (int_max a.start b.start) patt_start (joined_plan junction a.pattern shift b.pattern (shift -ℤ between)))

abbrev pub behind_steps : Junction → CalendarPlan → CalendarPlan → unit.Unit → ℤ → Result CalendarPlan Refusal
behind_steps junction a b u between =
    found_or PastEnd (first_step u a.patt_start (int_max a.start b.start)) (behind_shift junction a b u between)

abbrev pub behind_unit : Junction → CalendarPlan → CalendarPlan → unit.Unit → Result CalendarPlan Refusal
behind_unit junction a b u = found_or NotAligned (steps_between u a.patt_start b.patt_start) (behind_steps junction a b u)

-- all that comes before the pattern is there
pub joined-reaches : (junction : Junction) (a b : CalendarPlan) (u : unit.Unit) (between shift patt_start : ℤ)
    → smaller_unit a.pattern.unit b.pattern.unit ≡ Some u → steps_between u a.patt_start b.patt_start ≡ Some between
    → first_step u a.patt_start (int_max a.start b.start) ≡ Some shift → start_in u a.patt_start shift ≡ Some patt_start
    → joined_calendar junction a b
    ≡ with_pattern (int_max a.start b.start) patt_start (joined_plan junction a.pattern shift b.pattern (shift -ℤ between))
joined-reaches junction a b u between shift patt_start units aligned first start =
    ap (λ o. found_or UnitMismatch o (behind_unit junction a b)) units
    ∙ ap (λ o. found_or NotAligned o (behind_steps junction a b u)) aligned
    ∙ ap (λ o. found_or PastEnd o (behind_shift junction a b u between)) first
    ∙ ap (λ o. found_or PastEnd o (λ p. with_pattern (int_max a.start b.start) p (joined_plan junction a.pattern shift b.pattern (shift -ℤ between)))) start

-- the parts of a common grid
pub grid-parts : (a b : CalendarPlan) (g : CommonGrid) → common_grid a b ≡ Ok g
    → (smaller_unit a.pattern.unit b.pattern.unit ≡ Some g.unit) × (steps_between g.unit a.patt_start b.patt_start ≡ Some g.steps)
grid-parts a b g h = by_unit (smaller_unit a.pattern.unit b.pattern.unit) refl h where
  by_steps : (u : unit.Unit) (o : Option ℤ) → smaller_unit a.pattern.unit b.pattern.unit ≡ Some u → steps_between u a.patt_start b.patt_start ≡ o
      → found_or NotAligned o (grid_of u) ≡ Ok g
      → (smaller_unit a.pattern.unit b.pattern.unit ≡ Some g.unit) × (steps_between g.unit a.patt_start b.patt_start ≡ Some g.steps)
  by_steps u None units e h = absurd (cc)
  by_steps u (Some n) units e h =
      let same : grid_of u n ≡ Ok g = h in
      let there : record { unit = u; steps = n } ≡ g = cc in
      let u_is : u ≡ g.unit = ap (λ (x : CommonGrid). x.unit) there in (
        units ∙ ap Some u_is,
        ap (λ v. steps_between v a.patt_start b.patt_start) (sym u_is) ∙ e ∙ ap (λ (x : CommonGrid). Some x.steps) there,
      )

  by_unit : (o : Option unit.Unit) → smaller_unit a.pattern.unit b.pattern.unit ≡ o
      → found_or UnitMismatch o (λ u. found_or NotAligned (steps_between u a.patt_start b.patt_start) (grid_of u)) ≡ Ok g
      → (smaller_unit a.pattern.unit b.pattern.unit ≡ Some g.unit) × (steps_between g.unit a.patt_start b.patt_start ≡ Some g.steps)
  by_unit None e h = absurd (cc)
  by_unit (Some u) e h = by_steps u (steps_between u a.patt_start b.patt_start) e refl h

-- where there is no common grid, nothing is joined
pub grid-refused : (junction : Junction) (a b : CalendarPlan) (why : Refusal) → common_grid a b ≡ Err why → joined_calendar junction a b ≡ Err why
grid-refused junction a b why h = by_unit (smaller_unit a.pattern.unit b.pattern.unit) h where
  by_steps : (u : unit.Unit) (o : Option ℤ) → found_or NotAligned o (grid_of u) ≡ Err why → found_or NotAligned o (behind_steps junction a b u) ≡ Err why
  by_steps u None h = let same : NotAligned ≡ why = cc in ap Err same
  by_steps u (Some n) h = absurd (cc)

  by_unit : (o : Option unit.Unit) → found_or UnitMismatch o (λ u. found_or NotAligned (steps_between u a.patt_start b.patt_start) (grid_of u)) ≡ Err why
      → found_or UnitMismatch o (behind_unit junction a b) ≡ Err why
  by_unit None h = let same : UnitMismatch ≡ why = cc in ap Err same
  by_unit (Some u) h = by_steps u (steps_between u a.patt_start b.patt_start) h

-- the grid is that of the unit and the steps
pub grid-is : (a b : CalendarPlan) (u : unit.Unit) (n : ℤ) → smaller_unit a.pattern.unit b.pattern.unit ≡ Some u → steps_between u a.patt_start b.patt_start ≡ Some n
    → common_grid a b ≡ Ok (record { unit = u; steps = n })
grid-is a b u n units aligned =
    ap (λ o. found_or UnitMismatch o (λ v. found_or NotAligned (steps_between v a.patt_start b.patt_start) (grid_of v))) units
    ∙ ap (λ o. found_or NotAligned o (grid_of u)) aligned

pub grid-apart : (a b : CalendarPlan) (u : unit.Unit) → smaller_unit a.pattern.unit b.pattern.unit ≡ Some u → steps_between u a.patt_start b.patt_start ≡ None
    → common_grid a b ≡ Err NotAligned
grid-apart a b u units apart =
    ap (λ o. found_or UnitMismatch o (λ v. found_or NotAligned (steps_between v a.patt_start b.patt_start) (grid_of v))) units
    ∙ ap (λ o. found_or NotAligned o (grid_of u)) apart

pub grid-mismatch : (a b : CalendarPlan) → smaller_unit a.pattern.unit b.pattern.unit ≡ None → common_grid a b ≡ Err UnitMismatch
grid-mismatch a b units =
    ap (λ o. found_or UnitMismatch o (λ v. found_or NotAligned (steps_between v a.patt_start b.patt_start) (grid_of v))) units

-- a refusal of the pattern is the calendar's
pub answers-trouble : (start patt_start : ℤ) (plan : Result Plan Refusal) (trouble : Trouble)
    → Answers {A = Plan} plan (Err trouble) → Answers {A = CalendarPlan} (with_pattern start patt_start plan) (Err trouble)
answers-trouble start patt_start plan (Refused why) h = ap (with_pattern start patt_start) h
answers-trouble start patt_start plan (Memory error) h = tt

-- a pattern that is all off
pub with-off : (start patt_start : ℤ) (plan : Result Plan Refusal) (p : Plan) → plan ≡ Ok p → has_on p.runs ≡ false → with_pattern start patt_start plan ≡ Err AllOff
with-off start patt_start plan p e off = ap (with_pattern start patt_start) e ∙ rw off refl

-- and one that isn't
pub with-on : (start patt_start : ℤ) (plan : Result Plan Refusal) (p : Plan) → plan ≡ Ok p → has_on p.runs ≡ true
    → with_pattern start patt_start plan ≡ Ok (record { start = start; patt_start = patt_start; pattern = p })
with-on start patt_start plan p e on = ap (with_pattern start patt_start) e ∙ rw on refl

-- the joined pattern has the smaller unit
pub joined-unit : (junction : Junction) (a b p : Plan) (s t : ℤ) → joined_plan junction a s b t ≡ Ok p → smaller_unit a.unit b.unit ≡ Some p.unit
joined-unit junction a b p s t e = go (smaller_unit a.unit b.unit) refl where
  go : (o : Option unit.Unit) → smaller_unit a.unit b.unit ≡ o → smaller_unit a.unit b.unit ≡ Some p.unit
  go None h = absurd (let none = sym (ap (λ o. joined_in o junction a s b t) h) ∙ e in cc)
  go (Some u) h =
      let is = plan-is u (λ k. joined_flag junction u a s b t (pos k)) (joined_length u a b) p (sym (ap (λ o. joined_in o junction a s b t) h) ∙ e) in
      h ∙ ap Some (sym is.0)

same_flag-on : (a : Bool) → same_flag a true ≡ true → a ≡ true
same_flag-on true h = refl
same_flag-on false h = h

-- a unit that is made of months has a smaller one that is
pub monthly-smaller : (a b u : unit.Unit) → smaller_unit a b ≡ Some u → is_monthly u ≡ true → is_monthly a ≡ true
monthly-smaller a b u e monthly =
    let made = smaller-made a b u e in
    let parts = and_parts (same_flag (is_monthly a) (is_monthly u)) (nat_le (size u) (size a)) made.0 in
    same_flag-on (is_monthly a) (sym (ap (same_flag (is_monthly a)) monthly) ∙ parts.0)
