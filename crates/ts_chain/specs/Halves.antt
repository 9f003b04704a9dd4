-- The halves of a full page that got one more element, and the neighbours among which they stand.
use Rattle.std.specs.Prelude.{◌≡◌, ◌≢◌, ℕ, ◌+◌, ◌*◌, ◌<◌, ◌≤◌, ℤ, Bool, Option, None, Some, IfSome, List, [], ◌∷◌, ◌++◌}
use Rattle.std.specs.Prelude.{length, option_to_list}
use Rattle.std.specs.Int.{int_min}
use Rattle.ts_space.specs.declared.place.Place.{Place}
use Rattle.ts_page.specs.Pages.{Contents}
use Rattle.ts_row.specs.declared.kind.Column.{Column}
use Rattle.ts_row.specs.Row.{Element}
use Rattle.ts_cells.specs.IrregularPage.{page_room, AreElements, irregular_page, first_stamp}
use Rattle.ts_irregular.specs.OnePage.{IsPlace}
use Rattle.ts_chain.specs.declared.halves.Halves.{Halves}
use Rattle.ts_sheets.specs.Places.{FitsFirst, FitsLast, IsCounted}
use Rattle.ts_chain.specs.Window.{half_of, AreSpread, begin_of}

-- this is the last of the places, and its elements and so many more fit one page
pub record HasBefore (front : List Place) (b : Place) (q n : ℕ) : Type 0 where
  pub ahead : List Place
  pub parts : front ≡ ahead ++ b ∷ []
  pub fits : b.count + n ≤ q

-- this is the first of them, and they do
pub record HasBehind (back : List Place) (b : Place) (q n : ℕ) : Type 0 where
  pub after : List Place
  pub parts : back ≡ b ∷ after
  pub fits : n + b.count ≤ q

-- this is the place before, where so many elements fit one page with its own, and none where they don't
abbrev pub IsJoinedBefore : ℕ → ℕ → List Place → Option Place → Type 0
IsJoinedBefore q n front (Some b) = HasBefore front b q n
IsJoinedBefore q n front None = ¬ FitsLast q n front

-- and this is the place behind
abbrev pub IsJoinedBehind : ℕ → ℕ → List Place → Option Place → Type 0
IsJoinedBehind q n back (Some b) = HasBehind back b q n
IsJoinedBehind q n back None = ¬ FitsFirst q n back

-- The halves of the page of a place: the first stays on it, and begins where it did or at the stamp that was put before
-- all; the second has the others, and begins where these bytes say.
pub record AreHalved (slot : ℕ) (columns : List Column) (stamp : ℤ) (front : List Place) (place : Place)
    (back : List Place) (others : List ℕ) (h : Halves) : Type 0 where
  pub page : h.first.page ≡ place.page
  pub first_count : h.first.count ≡ half_of columns
  pub both_count : h.second.count + h.first.count ≡ page_room columns + 1
  pub first_at : h.first.at ≡ int_min place.at stamp
  pub second_at : (es : List Element) → AreElements columns es → length es ≡ h.second.count
      → others ≡ irregular_page slot columns es → first_stamp es ≡ Some h.second.at
  pub before : IsJoinedBefore (page_room columns) h.first.count front h.before
  pub behind : IsJoinedBehind (page_room columns) h.second.count back h.behind

-- both halves go together with no neighbour
pub record IsAlone (h : Halves) : Type 0 where
  pub before : h.before ≡ None
  pub behind : h.behind ≡ None

-- so many elements can go together with those of a neighbour, which is another page
pub record CanJoin (columns : List Column) (v : Contents) (own : Place) (count : ℕ) (near : Place) : Type 0 where
  pub place : IsPlace columns v near
  pub apart : near.page ≢ own.page
  pub room : near.count + count ≤ page_room columns

-- the halves can be put with their neighbours
pub record CanSpread (columns : List Column) (v : Contents) (h : Halves) : Type 0 where
  pub first : IsPlace columns v h.first
  pub second : IsCounted columns h.second
  pub before : IfSome h.before (CanJoin columns v h.first h.first.count)
  pub behind : IfSome h.behind (CanJoin columns v h.first h.second.count)
  pub apart : IfSome h.before (λ b. IfSome h.behind (λ c. b.page ≢ c.page))
  pub spare : IsAlone h → 0 < length v.free

-- They were put: two places come, of which the second begins where the second half does. A page that was freed pays
-- what it cost.
pub record IsSpread (tells : Bool) (slot : ℕ) (columns : List Column) (h : Halves) (page others : List ℕ) (come : Place
    × Place) (v w : Contents) : Type 0 where
  pub first_at : come.0.at ≡ begin_of (option_to_list h.before) h.first
  pub second_at : come.1.at ≡ h.second.at
  pub spread : AreSpread tells slot columns (option_to_list h.before) h.first h.second
      (option_to_list h.behind) page others come v w
  pub grows : w.change_bytes + 5 * length v.free ≤ v.change_bytes + 5 * length w.free + 8207
