-- What the container of a series has for it.
use Rattle.std.specs.Prelude.{◌≡◌, ℕ, ◌+◌}
use Rattle.ts_row.specs.Row.{Heading}
use Rattle.ts_space.specs.Directory.{Directory, places_of}
use Rattle.ts_cells.specs.IrregularPage.{page_room}
use Rattle.ts_model.specs.Definitions.{Definitions, ContainerDef, SeriesDef}
use Rattle.ts_layout.specs.Charges.{container_charge, places_charge}

-- what the other series of the container of one are charged, and the quota of that container
pub record IsBudget (slot : ℕ) (s : SeriesDef) (c : ContainerDef) (h : Heading) (d : Definitions) (space : Directory)
    (others quota : ℕ) : Type 0 where
  pub all : others + places_charge (page_room h.columns) s.regular (places_of slot space)
      ≡ container_charge d space s.container (page_room h.columns)
  pub quota_is : quota ≡ c.quota
