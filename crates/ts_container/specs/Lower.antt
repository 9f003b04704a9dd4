-- The lower of two pages.
use Rattle.std.specs.Prelude.{ℕ, min, Option, Some, None}

-- the lower of two pages, if there is one
abbrev pub lower_page : Option ℕ → Option ℕ → Option ℕ
lower_page None page = page
lower_page (Some first) None = Some first
lower_page (Some first) (Some second) = Some (min first second)
