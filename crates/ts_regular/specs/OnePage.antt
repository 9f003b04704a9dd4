-- What an edit does to one page of a series, whatever other pages the series has.
use Rattle.std.specs.Prelude.{◌≡◌, ◌≢◌, ℕ, ◌<◌, ◌≤◌, pos, not, Bool, true, false, IsTrue, Option, Some, None, IsSome}
use Rattle.std.specs.Prelude.{is_some, List, ◌∷◌, length, slice_set, slice_index_or, replicate}
use Rattle.std.specs.Option.{option_map}
use Rattle.ts_space.specs.declared.place.Place.{Place}
use Rattle.ts_space.specs.declared.moved.Come.{Come}
use Rattle.ts_space.specs.declared.moved.Come.TheVariants.{Nothing, One, Two}
use Rattle.ts_page.specs.Pages.{Contents}
use Rattle.ts_row.specs.declared.kind.Column.{Column}
use Rattle.ts_row.specs.Row.{Row, marked}
use Rattle.ts_regular.specs.RegularPage.{Cell, regular_room, filled_count}
use Rattle.ts_regular.specs.Places.{OffsetPage, IsOn, IsCounted}
use Rattle.ts_regular.specs.Call.{Stays}

-- the cell of a number, from 0 on
abbrev pub cell_at : List Cell → ℕ → Cell
cell_at cells index = slice_index_or cells index None

-- the cells with a row in one of them, without one there, and with its row hidden or visible
abbrev pub with_row : ℕ → Row → List Cell → List Cell
with_row index row cells = slice_set cells index (Some row)

abbrev pub without_row : ℕ → List Cell → List Cell
without_row index cells = slice_set cells index None

abbrev pub with_mark : ℕ → Bool → List Cell → List Cell
with_mark index hidden cells = slice_set cells index (option_map (marked hidden) (cell_at cells index))

-- a cell has an element that isn't hidden
abbrev pub is_seen : Cell → Bool
is_seen None = false
is_seen (Some row) = not row.hidden

-- this is the number of the last cell with an element that isn't hidden, or there is none
abbrev pub IsLastCell : List Cell → Option ℕ → Type 0
IsLastCell cells (Some index) = IsTrue (is_seen (cell_at cells index))
    × ((other : ℕ) → index < other → other < length cells → is_seen (cell_at cells other) ≡ false)
IsLastCell cells None = (other : ℕ) → other < length cells → is_seen (cell_at cells other) ≡ false

-- cells of which none has an element
abbrev pub no_cells : List Column → List Cell
no_cells columns = replicate (regular_room columns) None

-- where the pages are told and the page of a place has the cells that this tells of, this holds of them
abbrev pub IsToldOn : Bool → ℕ → List Column → Place → Contents → (OffsetPage → Type 0) → Type 0
IsToldOn tells slot columns place v P = IsTrue tells → (p : OffsetPage) → IsOn slot columns (v.page place.page) place p
    → P p

-- where the pages are told, those under other numbers stay
abbrev pub KeepsOthers : Bool → ℕ → Contents → Contents → Type 0
KeepsOthers tells number v w = IsTrue tells → (other : ℕ) → other ≢ number → w.page other ≡ v.page other

-- the cells of a page become others, and its place tells of these
pub record IsEditedOn (tells : Bool) (slot : ℕ) (columns : List Column) (edit : List Cell → List Cell) (old new : Place)
    (v w : Contents) : Type 0 where
  pub free : w.free ≡ v.free
  pub number : new.page ≡ old.page
  pub at : new.at ≡ old.at
  pub counted : IsCounted columns new
  pub on : IsToldOn tells slot columns old v (λ p. IsOn slot columns (w.page old.page) new (p.0, edit p.1))
  pub others : KeepsOthers tells old.page v w

-- a first element is put on a page that is taken
pub record IsPutAlone (tells : Bool) (slot : ℕ) (columns : List Column) (base index : ℕ) (row : Row) (new : Place)
    (v w : Contents) : Type 0 where
  pub free : v.free ≡ new.page ∷ w.free
  pub at : new.at ≡ pos base
  pub count : new.count ≡ 1
  pub on : IsTrue tells → IsOn slot columns (w.page new.page) new (base, with_row index row (no_cells columns))
  pub others : KeepsOthers tells new.page v w

-- there is no element in a cell, and everything stays
pub record IsEmptyOn (tells : Bool) (slot : ℕ) (columns : List Column) (index : ℕ) (place : Place)
    (v w : Contents) : Type 0 where
  pub absent : IsToldOn tells slot columns place v (λ p. cell_at p.1 index ≡ None)
  pub same : Stays tells v w

-- where the page of a place is told and has the cells that this tells of, it was read, and this tells whether a cell
-- has an element
abbrev pub IsThereOn : Bool → ℕ → List Column → ℕ → Place → List ℕ → Contents → Bool → Type 0
IsThereOn tells slot columns index place bytes v there =
    IsToldOn tells slot columns place v (λ p. IsOn slot columns bytes place p × (there ≡ is_some (cell_at p.1 index)))

-- the element in a cell is hidden or revealed
pub record IsMarkSet (tells : Bool) (slot : ℕ) (columns : List Column) (index : ℕ) (hidden : Bool) (place : Place)
    (v w : Contents) : Type 0 where
  pub there : IsToldOn tells slot columns place v (λ p. IsSome (cell_at p.1 index))
  pub edited : IsEditedOn tells slot columns (with_mark index hidden) place place v w

-- it is, or none is there
abbrev pub IsMarkedOn : Bool → ℕ → List Column → ℕ → Bool → Place → Contents → Contents → Bool → Type 0
IsMarkedOn tells slot columns index hidden place v w true = IsMarkSet tells slot columns index hidden place v w
IsMarkedOn tells slot columns index hidden place v w false = IsEmptyOn tells slot columns index place v w

-- the element in a cell is taken away, and others are left
pub record IsTakenFrom (tells : Bool) (slot : ℕ) (columns : List Column) (index : ℕ) (old new : Place)
    (v w : Contents) : Type 0 where
  pub there : IsToldOn tells slot columns old v (λ p. IsSome (cell_at p.1 index))
  pub fewer : new.count ≤ old.count
  pub edited : IsEditedOn tells slot columns (without_row index) old new v w

-- the last element of a page is taken away, and the page is free
pub record IsFreedOn (tells : Bool) (slot : ℕ) (columns : List Column) (index : ℕ) (place : Place)
    (v w : Contents) : Type 0 where
  pub there : IsToldOn tells slot columns place v (λ p. IsSome (cell_at p.1 index))
  pub left : IsToldOn tells slot columns place v (λ p. filled_count (without_row index p.1) ≡ 0)
  pub free : w.free ≡ place.page ∷ v.free
  pub others : KeepsOthers tells place.page v w

-- what comes in the stead of a place when an element is taken from its page, or none was there
abbrev pub IsTakenOn : Bool → ℕ → List Column → ℕ → Place → Contents → Contents → Option Come → Type 0
IsTakenOn tells slot columns index place v w None = IsEmptyOn tells slot columns index place v w
IsTakenOn tells slot columns index place v w (Some Nothing) = IsFreedOn tells slot columns index place v w
IsTakenOn tells slot columns index place v w (Some (One new)) = IsTakenFrom tells slot columns index place new v w
IsTakenOn tells slot columns index place v w (Some (Two first second)) = ⊥
