-- What a stamp addresses on a grid: the start of the on interval that holds it.
use Rattle.std.proofs.Common.{◌≡◌, ℤ, ◌≤ℤ◌, ◌<ℤ◌, Bool, true, false, cond, Option, Some, None, Ok, Err, ap, sym, ◌∙◌, subst, refl}
use Rattle.std.specs.Prelude.{◌↔◌, int_lt}
use Rattle.ts_base.specs.Moment.{IsStamp}
use Rattle.ts_base.specs.declared.refusal.Refusal.TheVariants as refusals
use Rattle.ts_calendar.specs.Calendars.{CalendarPlan, IsLaid, IsOnStamp}
use Rattle.ts_calendar.proofs.StampLemmas.{int_lt_yes, int_lt_no, int_lt-true, int_lt-false}
use Rattle.ts_offset.specs.Grid.{GridPlan, held_start, IsHeldBefore, IsHeldFrom}
use Rattle.ts_offset.specs.declared.shape.Shape.TheVariants as shapes
use Rattle.ts_offset.proofs.OwnLemmas.{held-from, from-held}
use Rattle.ts_model.specs.Catalogue.{Series, Catalogue, shape_of}
use Rattle.ts_answer.specs.Reply.{Tried, known, on_grid, an_address}
use Rattle.ts_answer.proofs.CallerLemmas.{on_ok}

-- what is told by a start that an origin lets through, by one that it doesn't, and by none
abbrev let_through : Bool → ℤ → Tried ℤ
let_through early start = cond early (Err refusals.BeforeOrigin) (Ok start)

is_late : (early : Bool) (start at : ℤ) → let_through early start ≡ Ok at → (early ≡ false) × (start ≡ at)
is_late true start at is = absurd (cc)
is_late false start at is = (refl, cc)

is_early : (early : Bool) (start : ℤ) → let_through early start ≡ Err refusals.BeforeOrigin → early ≡ true
is_early true start is = refl
is_early false start is = absurd (cc)

never_off : (early : Bool) (start : ℤ) → let_through early start ≡ Err refusals.OffStamp → ⊥
never_off true start is = cc
never_off false start is = cc

held_there : (grid : GridPlan) (held : Option ℤ) (at : ℤ) → on_grid grid held ≡ Ok at → (held ≡ Some at) × (grid.origin ≤ℤ at)
held_there grid None at is = absurd (cc)
held_there grid (Some start) at is =
    let late = is_late (int_lt start grid.origin) start at is in
    (ap Some late.1, subst (λ (s : ℤ). grid.origin ≤ℤ s) late.1 (int_lt-false start grid.origin late.0))

held_before : (grid : GridPlan) (held : Option ℤ) → on_grid grid held ≡ Err refusals.BeforeOrigin → (start : ℤ) × (held ≡ Some start) × (start <ℤ grid.origin)
held_before grid None is = absurd (cc)
held_before grid (Some start) is = (start, refl, int_lt-true start grid.origin (is_early (int_lt start grid.origin) start is))

held_nowhere : (grid : GridPlan) (held : Option ℤ) → on_grid grid held ≡ Err refusals.OffStamp → held ≡ None
held_nowhere grid None is = refl
held_nowhere grid (Some start) is = absurd (never_off (int_lt start grid.origin) start is)

none_held : (held : Option ℤ) → ((start : ℤ) → held ≡ Some start → ⊥) → held ≡ None
none_held None none = refl
none_held (Some start) none = absurd (none start refl)

-- an on interval that holds a stamp has a start
on_from : (c : CalendarPlan) (stamp : ℤ) (on : IsOnStamp c stamp) → IsHeldFrom c stamp on.held.from
on_from c stamp on = record { interval = on.interval; on = on.on; start = on.held.exists_from; held = on.held }

pub addressed_any : (cat : Catalogue) (s : Series) (stamp : ℤ) → shape_of cat s.kind ≡ Some shapes.Irregular → an_address s stamp cat ≡ Ok stamp
unfolding an_address
addressed_any cat s stamp is = on_ok (known (shape_of cat s.kind)) shapes.Irregular _ (ap known is)

-- the address on the grid of a series
on_its_grid : (cat : Catalogue) (s : Series) (grid : GridPlan) (stamp : ℤ) → shape_of cat s.kind ≡ Some (shapes.Regular grid)
    → an_address s stamp cat ≡ on_grid grid (held_start grid.calendar stamp)
unfolding an_address
on_its_grid cat s grid stamp is = on_ok (known (shape_of cat s.kind)) (shapes.Regular grid) _ (ap known is)

pub addressed_there : (cat : Catalogue) (s : Series) (grid : GridPlan) (stamp at : ℤ) → shape_of cat s.kind ≡ Some (shapes.Regular grid) → IsLaid grid.calendar → IsStamp stamp
    → an_address s stamp cat ≡ Ok at ↔ (IsHeldFrom grid.calendar stamp at × (grid.origin ≤ℤ at))
addressed_there cat s grid stamp at is laid of =
    let same = on_its_grid cat s grid stamp is in (
      λ reached. let held = held_there grid (held_start grid.calendar stamp) at (sym same ∙ reached) in (from-held grid.calendar stamp at held.0, held.1),
      λ held. same ∙ ap (on_grid grid) (held-from grid.calendar stamp at laid of held.0) ∙ ap (λ (early : Bool). let_through early at) (int_lt_no at grid.origin held.1),
    )

pub addressed_before : (cat : Catalogue) (s : Series) (grid : GridPlan) (stamp : ℤ) → shape_of cat s.kind ≡ Some (shapes.Regular grid) → IsLaid grid.calendar → IsStamp stamp
    → an_address s stamp cat ≡ Err refusals.BeforeOrigin ↔ IsHeldBefore grid stamp
addressed_before cat s grid stamp is laid of =
    let same = on_its_grid cat s grid stamp is in (
      λ refused.
          let held = held_before grid (held_start grid.calendar stamp) (sym same ∙ refused) in
          let from = from-held grid.calendar stamp held.0 held.1 in
          let one : Some from.held.from ≡ Some held.0 = sym from.held.exists_from ∙ from.start in
          let start : held.0 ≡ from.held.from = cc in
          record { interval = from.interval; on = from.on; held = from.held; early = subst (λ (s : ℤ). s <ℤ grid.origin) start held.2 },
      λ held.
          let from = held-from grid.calendar stamp held.held.from laid of (record { interval = held.interval; on = held.on; start = held.held.exists_from; held = held.held }) in
          same ∙ ap (on_grid grid) from ∙ ap (λ (early : Bool). let_through early held.held.from) (int_lt_yes held.held.from grid.origin held.early),
    )

pub addressed_off : (cat : Catalogue) (s : Series) (grid : GridPlan) (stamp : ℤ) → shape_of cat s.kind ≡ Some (shapes.Regular grid) → IsLaid grid.calendar → IsStamp stamp
    → an_address s stamp cat ≡ Err refusals.OffStamp ↔ (IsOnStamp grid.calendar stamp → ⊥)
addressed_off cat s grid stamp is laid of =
    let same = on_its_grid cat s grid stamp is in (
      λ refused on.
          let none = held_nowhere grid (held_start grid.calendar stamp) (sym same ∙ refused) in
          let some = sym none ∙ held-from grid.calendar stamp on.held.from laid of (on_from grid.calendar stamp on) in cc,
      λ off. same ∙ ap (on_grid grid) (none_held (held_start grid.calendar stamp) (λ start there.
          let from = from-held grid.calendar stamp start there in off (record { interval = from.interval; on = from.on; held = from.held }))),
    )
