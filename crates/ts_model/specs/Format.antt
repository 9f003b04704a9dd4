-- What the format of a volume asks of its catalogue.
use Rattle.std.specs.Prelude.{◌≡◌, false, ℕ, ℤ, List, Some}
use Rattle.std.specs.FinMap.{get}
use Rattle.ts_row.specs.Row.{Heading, has_long_decimal, Row}
use Rattle.ts_model.specs.Catalogue.{Series, Catalogue, old_format}
use Rattle.ts_model.specs.Definitions.{IsFormat}

-- the format is one that there is; in the old one no decimal has over 18 digits, and no element is hidden
pub record KeepsFormat (cat : Catalogue) : Type 0 where
  pub format : IsFormat cat.format
  pub short : cat.format ≡ old_format → (name : List ℕ) (h : Heading) → get cat.row_types name ≡ Some h
      → has_long_decimal h.columns ≡ false
  pub visible : cat.format ≡ old_format → (key : List ℕ) (s : Series) → get cat.series key ≡ Some s
      → (stamp : ℤ) (row : Row) → get s.elements stamp ≡ Some row → row.hidden ≡ false
