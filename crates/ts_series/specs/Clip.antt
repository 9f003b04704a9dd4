-- What the call that takes away all elements between two stamps does to the pages of a series.
use Rattle.std.specs.Prelude.{◌≡◌, ℕ, ◌≤◌, ℤ, Bool, Option, Some, None, List, [], length}
use Rattle.ts_space.specs.declared.place.Place.{Place}
use Rattle.ts_space.specs.declared.moved.Moved.{Moved}
use Rattle.ts_space.specs.Place.{count_of}
use Rattle.ts_space.specs.Moved.{moved_to}
use Rattle.ts_page.specs.Pages.{Contents}
use Rattle.ts_row.specs.declared.kind.Column.{Column}
use Rattle.ts_irregular.specs.Call.{Stays}
use Rattle.ts_sheets.specs.Stamped.{all_in, within_range, without_range}
use Rattle.ts_sheets.specs.Places.{AreMoved}
use Rattle.ts_chain.specs.Call.{IsTold, AreWritten}

-- so many elements from one stamp to another are taken away, and the places become these
pub record AreCleared (tells : Bool) (slot : ℕ) (columns : List Column) (from to : ℤ) (removed : ℕ)
    (old new : List Place) (v w : Contents) : Type 0 where
  pub places : AreMoved columns old new v w
  pub count : count_of new ≤ count_of old
  pub number : IsTold tells slot columns old v (λ chain. removed ≡ length (within_range from to (all_in chain)))
  pub left : IsTold tells slot columns old v
      (λ chain. AreWritten slot columns (without_range from to (all_in chain)) old new v w)

-- none of the told elements stands between them, and everything stays
pub record HasNoneWithin (tells : Bool) (slot : ℕ) (columns : List Column) (from to : ℤ) (removed : ℕ)
    (places : List Place) (v w : Contents) : Type 0 where
  pub number : removed ≡ 0
  pub none : IsTold tells slot columns places v (λ chain. within_range from to (all_in chain) ≡ [])
  pub same : Stays tells v w

-- elements are taken away, or none is there
abbrev pub IsCleared : Bool → ℕ → List Column → ℤ → ℤ → List Place → Contents → Contents → ℕ → Option Moved → Type 0
IsCleared tells slot columns from to places v w removed (Some moved) =
    AreCleared tells slot columns from to removed places (moved_to moved places) v w
IsCleared tells slot columns from to places v w removed None =
    HasNoneWithin tells slot columns from to removed places v w
