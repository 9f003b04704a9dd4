-- The elements in a range of offsets, and what the call that takes them away does to the pages of a series.
use Rattle.std.specs.Prelude.{◌≡◌, ℕ, ◌≤◌, nat_le, nat_lt, not, ◌&&◌, Bool, Option, Some, None, List, [], filter}
use Rattle.std.specs.Prelude.{length}
use Rattle.ts_space.specs.declared.place.Place.{Place}
use Rattle.ts_space.specs.declared.moved.Moved.{Moved}
use Rattle.ts_space.specs.Place.{count_of}
use Rattle.ts_space.specs.Moved.{moved_to}
use Rattle.ts_page.specs.Pages.{Contents}
use Rattle.ts_row.specs.declared.kind.Column.{Column}
use Rattle.ts_regular.specs.RegularPage.{OffsetElement}
use Rattle.ts_regular.specs.Places.{all_in, AreMoved}
use Rattle.ts_regular.specs.Call.{Stays, IsTold, AreWritten}

-- whether an offset is in a range: from one up to, not including, another; from a greater one to a lesser there are
-- none
abbrev pub is_between : ℕ → ℕ → ℕ → Bool
is_between from to offset = nat_le from offset && nat_lt offset to

-- the elements at the offsets of a range, hidden or not
abbrev pub within : ℕ → ℕ → List OffsetElement → List OffsetElement
within from to es = filter (λ e. is_between from to e.0) es

-- all others
abbrev pub outside : ℕ → ℕ → List OffsetElement → List OffsetElement
outside from to es = filter (λ e. not (is_between from to e.0)) es

-- so many elements, those in a range, are taken away, and the places become these
pub record AreCleared (tells : Bool) (slot : ℕ) (columns : List Column) (from to removed : ℕ) (old new : List Place)
    (v w : Contents) : Type 0 where
  pub places : AreMoved columns old new v w
  pub count : count_of new ≤ count_of old
  pub number : IsTold tells slot columns old v (λ ps. removed ≡ length (within from to (all_in ps)))
  pub left : IsTold tells slot columns old v (λ ps. AreWritten slot columns (outside from to (all_in ps)) old new v w)

-- none of the told elements is in it, and everything stays
pub record HasNoneWithin (tells : Bool) (slot : ℕ) (columns : List Column) (from to removed : ℕ) (places : List Place)
    (v w : Contents) : Type 0 where
  pub number : removed ≡ 0
  pub none : IsTold tells slot columns places v (λ ps. within from to (all_in ps) ≡ [])
  pub same : Stays tells v w

-- elements are taken away, or none is there
abbrev pub IsCleared : Bool → ℕ → List Column → ℕ → ℕ → List Place → Contents → Contents → ℕ → Option Moved → Type 0
IsCleared tells slot columns from to places v w removed (Some moved) =
    AreCleared tells slot columns from to removed places (moved_to moved places) v w
IsCleared tells slot columns from to places v w removed None =
    HasNoneWithin tells slot columns from to removed places v w
