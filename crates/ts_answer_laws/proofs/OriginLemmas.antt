-- To which on start an origin is moved.
use Rattle.std.proofs.Common.{◌≡◌, ℕ, zero, suc, ◌<◌, ℤ, ◌≤ℤ◌, ◌<ℤ◌, Bool, true, false, cond, Option, Some, None, Ok, List, [], ◌∷◌, filter, ap, sym, ◌∙◌, refl, arith}
use Rattle.std.specs.Prelude.{int_lt, slice_get}
use Rattle.std.specs.FinMap.{empty}
use Rattle.std.proofs.lemmas.Int.{ints}
use Rattle.ts_base.specs.Moment.{IsStamp}
use Rattle.ts_calendar.specs.Calendars.{CalendarPlan, IsLaid, IsOnStamp}
use Rattle.ts_calendar.proofs.StampLemmas.{int_lt_yes, int_lt-true}
use Rattle.ts_offset.specs.Grid.{IsOnStart, on_starts, cal_stamp, grid_of, held_start, start_or_next}
use Rattle.ts_offset.proofs.OwnLemmas.{held-from, from-held}
use Rattle.ts_offset.proofs.ListedLemmas.{listed-start, start-listed, listed-rise}
use Rattle.ts_command.specs.declared.command.Command.TheVariants as commands
use Rattle.ts_model.specs.declared.kind.Kind.TheVariants as kinds
use Rattle.ts_model.specs.Catalogue.{Regular, Catalogue, with_named}
use Rattle.ts_answer.specs.Answer.{Answered, outcome, carried_out, create_regular, wanted, a_calendar, a_new_name}
use Rattle.ts_answer.specs.Reply.{stamp_line}
use Rattle.ts_answer.proofs.CallerLemmas.{grid-start, on_ok}
use Rattle.ts_answer_laws.specs.SeriesLaws.{IsMovedTo, MakesRegular}
use Rattle.ts_answer_laws.proofs.CameLemmas.{came, same_answer}

-- the first of a list that passes a test
record IsFirst (test : ℤ → Bool) (xs : List ℤ) (x : ℤ) : Type 0 where
  at : ℕ
  there : slice_get xs at ≡ Some x
  is : test x ≡ true
  earlier : (m : ℕ) (y : ℤ) → m < at → slice_get xs m ≡ Some y → test y ≡ false

first_behind : (test : ℤ → Bool) (x y : ℤ) (xs : List ℤ) → test y ≡ false → IsFirst test xs x → IsFirst test (y ∷ xs) x
first_behind test x y xs off rest = record { at = suc rest.at; there = rest.there; is = rest.is; earlier = before }
  where
    before : (m : ℕ) (z : ℤ) → m < suc rest.at → slice_get (y ∷ xs) m ≡ Some z → test z ≡ false
    before zero z low there = let one : y ≡ z = cc in sym (ap test one) ∙ off
    before (suc m) z low there = rest.earlier m z (omega (arith, low)) there

first_there : (test : ℤ → Bool) (xs : List ℤ) (x : ℤ) → slice_get (filter test xs) 0 ≡ Some x → IsFirst test xs x
first_there test [] x is = absurd (cc)
first_there test (y ∷ xs) x is = by (test y) refl is (first_there test xs x)
  where
    by : (b : Bool) → test y ≡ b → slice_get (cond b (y ∷ filter test xs) (filter test xs)) 0 ≡ Some x
        → (slice_get (filter test xs) 0 ≡ Some x → IsFirst test xs x) → IsFirst test (y ∷ xs) x
    by true on found rest =
        let same : y ≡ x = cc in
        record { at = 0; there = ap Some same; is = ap test (sym same) ∙ on; earlier = λ m z low there. absurd (omega (arith, low)) }
    by false off found rest = first_behind test x y xs off (rest found)

-- a number is below another, the same or beyond it
parted : {P : Type 0} (m n : ℕ) → (m < n → P) → (m ≡ n → P) → (n < m → P) → P
parted zero zero low same high = same refl
parted zero (suc n) low same high = low (omega arith)
parted (suc m) zero low same high = high (omega arith)
parted (suc m) (suc n) low same high = parted m n (λ l. low (omega (arith, l))) (λ e. same (ap suc e)) (λ l. high (omega (arith, l)))

-- the next on start after a stamp
module _ (plan : CalendarPlan) (given origin : ℤ) (laid : IsLaid plan) (is : cal_stamp plan given 1 ≡ Some origin) where
  next_first : IsFirst (λ s. int_lt given s) (on_starts plan) origin
  next_first = first_there (λ s. int_lt given s) (on_starts plan) origin is

  next_on : IsOnStart plan origin
  next_on = start-listed plan origin next_first.at next_first.there

  next_later : given <ℤ origin
  next_later = int_lt-true given origin next_first.is

  next_least : (start : ℤ) → IsOnStart plan start → given <ℤ start → origin ≤ℤ start
  next_least start on after =
      let listed = listed-start plan start laid on in
      parted listed.0 next_first.at
      (λ low. absurd (let never = sym (int_lt_yes given start after) ∙ next_first.earlier listed.0 start low listed.1 in cc))
      (λ same. let one : Some start ≡ Some origin = sym listed.1 ∙ ap (slice_get (on_starts plan)) same ∙ next_first.there in
      let equal : start ≡ origin = cc in omega (arith, ints, equal))
      (λ high. let rises = listed-rise plan next_first.at listed.0 origin start laid high next_first.there listed.1 in omega (arith, ints, rises))

-- to what an origin is moved
moved_to : (plan : CalendarPlan) (given origin : ℤ) (o : Option ℤ) → IsLaid plan → IsStamp given → held_start plan given ≡ o → start_or_next plan given o ≡ Some origin → IsMovedTo plan given origin
moved_to plan given origin None laid stamp none is = record {
  on = next_on plan given origin laid is;
  held = λ start held. absurd (let some = sym none ∙ held-from plan given start laid stamp held in cc);
  later = λ off. next_later plan given origin laid is;
  next = λ off. next_least plan given origin laid is;
}
moved_to plan given origin (Some start) laid stamp there is =
    let same : start ≡ origin = cc in
    let from = from-held plan given origin (there ∙ ap Some same) in
    let on : IsOnStamp plan given = record { interval = from.interval; on = from.on; held = from.held } in
    record {
      on = record { interval = from.interval; on = from.on; start = from.start };
      held = λ other held. let one : Some origin ≡ Some other = ap Some (sym same) ∙ sym there ∙ held-from plan given other laid stamp held in cc;
      later = λ off. absurd (off on);
      next = λ off. absurd (off on);
    }

pub origin_made : (cat : Catalogue) (answered : Answered) (key calendar container : List ℕ) (given : ℤ) (plan : CalendarPlan) → a_calendar calendar cat ≡ Ok plan → IsLaid plan → IsStamp given
    → outcome (Ok (commands.TSCreate key calendar given container)) cat ≡ Ok answered → MakesRegular key calendar container given plan cat answered
unfolding outcome carried_out create_regular
origin_made cat answered key calendar container given plan there laid stamp is =
    let known = sym (on_ok (a_calendar calendar cat) plan _ there) ∙ is in
    let holder = came (wanted container cat.containers) _ answered known in
    let new = came (a_new_name kinds.Series key cat) _ answered holder.2 in
    let grid = came (grid_of plan given) _ answered new.2 in
    let origin = grid.0.origin in
    let same = same_answer (stamp_line origin, with_named kinds.Series key (record { container = container; kind = Regular calendar origin; elements = empty }) cat) answered grid.2 in
    record {
      origin = origin;
      moved = moved_to plan given origin (held_start plan given) laid stamp refl (grid-start plan given grid.0 grid.1);
      line = ap (λ (a : Answered). a.0) same;
      comes = ap (λ (a : Answered). a.1) same;
    }
