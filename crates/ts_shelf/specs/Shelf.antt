-- A series with its columns and its shape, for a key, and where it stands in a layout.
use Rattle.std.specs.Prelude.{◌≡◌, ℕ, Some, List}
use Rattle.ts_row.specs.Row.{Heading}
use Rattle.ts_model.specs.declared.kind.Kind.TheVariants as kinds
use Rattle.ts_offset.specs.declared.shape.Shape.{Shape}
use Rattle.ts_model.specs.Catalogue.{Series, columns_of, shape_of}
use Rattle.ts_model.specs.Definitions.{Definitions, ContainerDef, SeriesDef, at_slot}
use Rattle.ts_layout.specs.Meaning.{Layout, heading_at, shape_at, heading_of_container, catalogue_of}
use Rattle.ts_answer.specs.Slots.{IsSlotNamed, Stands}

-- the series of that key stands in a slot, and has these columns and this shape
pub record IsShelf (shape : Shape) (slot : ℕ) (h : Heading) (key : List ℕ) (d : Definitions) : Type 0 where
  pub named : IsSlotNamed kinds.Series slot key d
  pub columns : heading_at d slot ≡ Some h
  pub lies : shape_at d slot ≡ Some shape

-- for a layout: it stands there for this series, which has these columns and this shape
pub record IsShelfIn (l : Layout) (key : List ℕ) (shape : Shape) (slot : ℕ) (h : Heading)
    (series : Series) : Type 0 where
  pub stands : Stands kinds.Series key l slot series
  pub columns : columns_of (catalogue_of l) series ≡ h.columns
  pub lies : shape_of (catalogue_of l) series.kind ≡ Some shape

-- the series in a slot, its container and their columns
pub record IsSeries (slot : ℕ) (s : SeriesDef) (c : ContainerDef) (h : Heading) (d : Definitions) : Type 0 where
  pub there : at_slot slot d.series ≡ Some s
  pub container : at_slot s.container d.containers ≡ Some c
  pub heading : heading_of_container d c ≡ Some h
