-- What a regular series is charged for: by its elements, and by its places.
use Rattle.std.specs.Prelude.{ℕ, ◌+◌, pos, if◌then◌else◌, is_some, List, length, map}
use Rattle.ts_space.specs.declared.place.Place.{Place}
use Rattle.ts_space.specs.Place.{place_at}
use Rattle.ts_space.specs.Charge.{regular_charge}
use Rattle.ts_row.specs.declared.kind.Column.{Column}
use Rattle.ts_regular.specs.RegularPage.{regular_room, base_of, OffsetElement}

-- the charge of a series with these elements: how many different pages their offsets belong to
abbrev pub charge_of : List Column → List OffsetElement → ℕ
charge_of columns es = regular_charge (regular_room columns) (map (λ e. e.0) es)

-- how many pages a series with these places has with an element at an offset
abbrev pub pages_with : List Column → ℕ → List Place → ℕ
pages_with columns offset places = if is_some (place_at (pos (base_of columns offset)) places) then length places
    else length places + 1
