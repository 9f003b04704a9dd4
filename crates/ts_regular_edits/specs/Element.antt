-- What is read, marked and taken away of a regular series at a stamp.
use Rattle.std.specs.Prelude.{◌≡◌, ℕ, ℤ, Bool, true, false, Option, None, option_map, Result, Ok, Err, List}
use Rattle.ts_base.specs.declared.refusal.Refusal.{Refusal}
use Rattle.ts_base.specs.declared.refusal.Refusal.TheVariants.{Missing}
use Rattle.ts_offset.specs.Grid.{GridPlan}
use Rattle.ts_space.specs.declared.place.Place.{Place}
use Rattle.ts_space.specs.declared.moved.Moved.{Moved}
use Rattle.ts_page.specs.Pages.{Contents}
use Rattle.ts_row.specs.declared.kind.Column.{Column}
use Rattle.ts_row.specs.Row.{Element}
use Rattle.ts_regular.specs.RegularPage.{element_at}
use Rattle.ts_regular.specs.Places.{all_in}
use Rattle.ts_regular.specs.Call.{Stays, IsTold, IsMarked, IsRemoved}
use Rattle.ts_regular_edits.specs.Address.{ByAddress}

-- this is the element that a stamp addresses, hidden or not, with the start of its interval; none where it addresses
-- none
abbrev pub IsFoundAt : Bool → ℕ → List Column → GridPlan → ℤ → List Place → Contents → Option Element → Type 0
IsFoundAt tells slot columns grid stamp places v found =
    ByAddress grid stamp (λ offset start. IsTold tells slot columns places v (λ ps. found
    ≡ option_map (λ row. (start, row)) (element_at offset (all_in ps))))
    (λ why. found ≡ None)

-- the element at an offset, whose interval starts here, is hidden or revealed; or it is refused, as none is there
abbrev pub IsMarkedFrom : Bool → ℕ → List Column → ℕ → ℤ → Bool → List Place → Contents → Contents → Result ℤ Refusal
    → Type 0
IsMarkedFrom tells slot columns offset start hidden places v w (Ok at) = (at ≡ start)
    × IsMarked tells slot columns offset hidden places v w true
IsMarkedFrom tells slot columns offset start hidden places v w (Err refusal) = (refusal ≡ Missing)
    × IsMarked tells slot columns offset hidden places v w false

-- the same of the element that a stamp addresses; where it addresses none, it is refused for that, and everything stays
abbrev pub IsMarkedAt : Bool → ℕ → List Column → GridPlan → ℤ → Bool → List Place → Contents → Contents
    → Result ℤ Refusal → Type 0
IsMarkedAt tells slot columns grid stamp hidden places v w done =
    ByAddress grid stamp (λ offset start. IsMarkedFrom tells slot columns offset start hidden places v w done)
    (λ why. (done ≡ Err why) × Stays tells v w)

-- the element that a stamp addresses is taken away, or none is there; where it addresses none, everything stays
abbrev pub IsRemovedAt : Bool → ℕ → List Column → GridPlan → ℤ → List Place → Contents → Contents → Option Moved
    → Type 0
IsRemovedAt tells slot columns grid stamp places v w moved =
    ByAddress grid stamp (λ offset start. IsRemoved tells slot columns offset places v w moved)
    (λ why. (moved ≡ None) × Stays tells v w)
