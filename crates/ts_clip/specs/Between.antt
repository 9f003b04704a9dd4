-- The places whose pages have cells for the offsets of a range.
use Rattle.std.specs.Prelude.{◌≡◌, ℕ, pos, List, ◌++◌}
use Rattle.ts_space.specs.declared.place.Place.{Place}
use Rattle.ts_space.specs.Place.{AreBelow}
use Rattle.ts_row.specs.declared.kind.Column.{Column}
use Rattle.ts_regular.specs.RegularPage.{base_of}
use Rattle.ts_regular.specs.Cut.{AreNotBelow}

-- of some places those whose pages may have a cell for an offset from one up to, not including, another: they begin
-- from the page of the first such offset on, and below the end; all earlier ones begin below that page, and all later
-- ones not below the end
pub record AreBetween (columns : List Column) (lower upper : ℕ) (places among : List Place) : Type 0 where
  pub front : List Place
  pub back : List Place
  pub parts : places ≡ front ++ (among ++ back)
  pub before : AreBelow (pos (base_of columns lower)) front
  pub begins : AreNotBelow (pos (base_of columns lower)) among
  pub ends : AreBelow (pos upper) among
  pub behind : AreNotBelow (pos upper) back
