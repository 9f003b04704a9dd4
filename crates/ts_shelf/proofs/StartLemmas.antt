-- Elements at offsets that have on starts, as those at these stamps.
use Rattle.std.proofs.Common.{◌≡◌, ℤ, Option, Some, None, IsSome, List, [], ◌∷◌, refl, sym, ap, subst, ◌∙◌}
use Rattle.std.specs.Option.{option_map}
use Rattle.std.specs.List.{cons_option}
use Rattle.std.proofs.lemmas.List.Elements.{All-head, All-tail}
use Rattle.ts_row.specs.Row.{Element}
use Rattle.ts_cells.specs.IrregularPage.{AreRising}
use Rattle.ts_calendar.specs.Calendars.{IsLaid}
use Rattle.ts_offset.specs.Grid.{GridPlan, stamp_of}
use Rattle.ts_regular.specs.RegularPage as offsets
use Rattle.ts_regular.specs.RegularPage.{OffsetElement}
use Rattle.ts_sheets.specs.Stamped.{stamped, HaveStarts}
use Rattle.ts_sheets.proofs.StartLemmas.{stamps_rise}

abbrev pub HasStart : GridPlan → OffsetElement → Type 0
HasStart grid e = IsSome (stamp_of grid e.0)

-- the start of an offset that has one
pub start_of : (o : Option ℤ) → IsSome o → (t : ℤ) × (o ≡ Some t)
start_of (Some t) some = (t, refl)
start_of None some = absurd (cc)

pub stamped_cons : (grid : GridPlan) (e : OffsetElement) (es : List OffsetElement) (t : ℤ) → stamp_of grid e.0 ≡ Some t → stamped grid (e ∷ es) ≡ (t, e.1) ∷ stamped grid es
stamped_cons grid e es t is = ap (λ (o : Option ℤ). cons_option (option_map (λ start. (start, e.1)) o) (stamped grid es)) is

-- the stamps rise with the offsets
pub stamps_rising : (grid : GridPlan) → IsLaid grid.calendar → (es : List OffsetElement) → offsets.AreRising es → HaveStarts grid es → AreRising (stamped grid es)
stamps_rising grid laid [] rising starts = tt
stamps_rising grid laid (e ∷ []) rising starts =
    let t = start_of (stamp_of grid e.0) (All-head (HasStart grid) e [] starts) in
    subst AreRising (sym (stamped_cons grid e [] t.0 t.1)) tt
stamps_rising grid laid (e ∷ f ∷ es) rising starts =
    let others = All-tail (HasStart grid) e (f ∷ es) starts in
    let t = start_of (stamp_of grid e.0) (All-head (HasStart grid) e (f ∷ es) starts) in
    let u = start_of (stamp_of grid f.0) (All-head (HasStart grid) f es others) in
    let rest = subst AreRising (stamped_cons grid f es u.0 u.1) (stamps_rising grid laid (f ∷ es) rising.1 others) in
    let both : AreRising ((t.0, e.1) ∷ (u.0, f.1) ∷ stamped grid es) = (stamps_rise grid laid e.0 f.0 t.0 u.0 rising.0 t.1 u.1, rest) in
    subst AreRising (sym (stamped_cons grid e (f ∷ es) t.0 t.1 ∙ ap (λ (l : List Element). (t.0, e.1) ∷ l) (stamped_cons grid f es u.0 u.1))) both
