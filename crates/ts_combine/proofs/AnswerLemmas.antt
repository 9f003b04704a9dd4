-- What a call answers of the rows that were gathered.
use Rattle.std.proofs.Common.{◌≡◌, ◌∙◌, Bool, true, false, cond, ℤ, List, map, length, Result, Ok, Err, Vec, nat_lt, refl, sym, ap}
use Rattle.std.proofs.lemmas.List.{length-map}
use Rattle.ts_base.specs.declared.refusal.Refusal.{Refusal}
use Rattle.ts_base.specs.declared.refusal.Refusal.TheVariants.{TooLarge}
use Rattle.ts_base.specs.declared.fault.Trouble.{Trouble}
use Rattle.ts_base.specs.declared.fault.Trouble.TheVariants.{Refused, Memory}
use Rattle.ts_row.specs.Row.{Element}
use Rattle.ts_calendar.specs.Calendars.{CalendarPlan, common_grid}
use Rattle.ts_calendar.specs.declared.grid.CommonGrid.{CommonGrid}
use Rattle.ts_offset.specs.declared.shape.Shape.{Shape}
use Rattle.ts_offset.specs.declared.shape.Shape.TheVariants.{Irregular, Regular}
use Rattle.ts_offset.specs.Grid.{GridPlan, starts_between}
use Rattle.ts_pattern.specs.declared.junction.Junction.{Junction}
use Rattle.ts_combine.specs.Combine.{Side, every_start, joined_on, joined_of, joined}
use Rattle.ts_base.specs.Answer.{AnswersList, most_rows, within_rows}
use Rattle.ts_combine.specs.Call.{AnswersRows, HaveNoGrid}
use Rattle.ts_combine.specs.Reach.{IsOnCalendar, rows_held}

-- a bound on a list holds of the list that it is mapped to
within-map : {T : Type 0} (row : T → Element) (all : List T) → within_rows (map row all) ≡ cond (nat_lt most_rows (length all)) (Err (TooLarge (length all))) (Ok (map row all))
within-map row all = ap (λ n. cond (nat_lt most_rows n) (Err (TooLarge n)) (Ok (map row all))) (length-map all row)

-- the rows of a list that is answered
pub answers-rows : {T A : Type 0} (row : T → Element) (all : List T) (elements : List Element) (result : Result (Vec T A) Trouble)
    → map row all ≡ elements → AnswersList (within_rows all) result → AnswersRows row (within_rows elements) result
answers-rows row all elements (Ok rows) are answer =
    sym (ap within_rows are) ∙ within-map row all ∙ by (nat_lt most_rows (length all)) answer
  where
    by : (b : Bool) → cond b (Err (TooLarge (length all))) (Ok all) ≡ Ok rows.items → cond b (Err (TooLarge (length all))) (Ok (map row all)) ≡ Ok (map row rows.items)
    by true e = absurd (cc)
    by false e = let same : all ≡ rows.items = cc in ap (λ l. Ok (map row l)) same
answers-rows row all elements (Err (Refused why)) are answer =
    sym (ap within_rows are) ∙ within-map row all ∙ by (nat_lt most_rows (length all)) answer
  where
    by : (b : Bool) → cond b (Err (TooLarge (length all))) (Ok all) ≡ Err why → cond b (Err (TooLarge (length all))) (Ok (map row all)) ≡ Err why
    by true e = let same : TooLarge (length all) ≡ why = cc in ap Err same
    by false e = absurd (cc)
answers-rows row all elements (Err (Memory error)) are answer = tt

-- what two series on calendars have on the grid that these have in common
abbrev pub on_grid : Junction → Side → Side → CalendarPlan → CalendarPlan → ℤ → ℤ → Result CommonGrid Refusal → Result (List Element) Refusal
on_grid junction a b c d from to (Err why) = Err why
on_grid junction a b c d from to (Ok grid) = within_rows (rows_held junction a c b d (starts_between (every_start c d grid) from to))

on-grids : (junction : Junction) (a b : Side) (g h : GridPlan) (from to : ℤ) (grid : Result CommonGrid Refusal) → joined_on junction a g b h from to grid ≡ on_grid junction a b g.calendar h.calendar from to grid
on-grids junction a b g h from to (Err why) = refl
on-grids junction a b g h from to (Ok grid) = refl

-- two series on calendars are joined there
pub joined-regular : (junction : Junction) (a b : Side) (c d : CalendarPlan) (from to : ℤ) → IsOnCalendar a.shape c → IsOnCalendar b.shape d
    → joined junction a b from to ≡ on_grid junction a b c d from to (common_grid c d)
joined-regular junction a b c d from to a_on b_on = by a.shape b.shape a_on b_on where
  by : (s t : Shape) → IsOnCalendar s c → IsOnCalendar t d → joined_of junction a b s t from to ≡ on_grid junction a b c d from to (common_grid c d)
  by Irregular t a_on b_on = absurd a_on
  by (Regular g) Irregular a_on b_on = absurd b_on
  by (Regular g) (Regular h) a_on b_on =
      on-grids junction a b g h from to (common_grid g.calendar h.calendar)
      ∙ ap (λ (x : CalendarPlan). on_grid junction a b x h.calendar from to (common_grid x h.calendar)) (sym a_on)
      ∙ ap (λ (y : CalendarPlan). on_grid junction a b c y from to (common_grid c y)) (sym b_on)

-- calendars with no grid in common are those of grids
pub no-grid : (s t : Shape) (c d : CalendarPlan) (why : Refusal) → IsOnCalendar s c → IsOnCalendar t d → common_grid c d ≡ Err why → HaveNoGrid s t why
no-grid Irregular t c d why a_on b_on none = absurd a_on
no-grid (Regular g) Irregular c d why a_on b_on none = absurd b_on
no-grid (Regular g) (Regular h) c d why a_on b_on none =
    ap (λ (x : CalendarPlan). common_grid x h.calendar) (sym a_on) ∙ ap (λ (y : CalendarPlan). common_grid c y) (sym b_on) ∙ none
