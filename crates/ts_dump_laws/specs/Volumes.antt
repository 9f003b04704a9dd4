-- What the statements of volumes come to.
use Rattle.std.specs.Prelude.{ℕ, List}
use Rattle.ts_volume.specs.Volume.{MeansCatalogue}
use Rattle.ts_model.specs.Catalogue.{Catalogue, in_newest_format}
use Rattle.ts_dump_laws.specs.Statements.{Writing, definitions_of, elements_of, statements_of, in_transactions}
use Rattle.ts_dump_laws.specs.Statements.{without_elements}
use Rattle.ts_dump_laws.specs.CarriedOut.{Make}
use Rattle.ts_dump_laws.specs.Laws.{GivesRows, empty_as}

-- Whatever the bytes of a volume mean, its statements make it of an empty catalogue with as many element pages, in the
-- newest format, its definitions make it without elements, and the statements of its elements fill it then; so do they
-- in transactions of 32.
pub record StatementsMakeVolumes : Type 0 where
  pub all : (written : Writing) (bytes : List ℕ) (cat : Catalogue) → GivesRows written → MeansCatalogue bytes cat
      → Make (statements_of written cat) (empty_as cat) (in_newest_format cat)
  pub definitions : (bytes : List ℕ) (cat : Catalogue) → MeansCatalogue bytes cat
      → Make (definitions_of cat) (empty_as cat) (in_newest_format (without_elements cat))
  pub elements : (written : Writing) (bytes : List ℕ) (cat : Catalogue) → GivesRows written → MeansCatalogue bytes cat
      → Make (elements_of written cat) (in_newest_format (without_elements cat)) (in_newest_format cat)
  pub all_in_transactions : (written : Writing) (bytes : List ℕ) (cat : Catalogue) → GivesRows written
      → MeansCatalogue bytes cat
      → Make (in_transactions (statements_of written cat)) (empty_as cat) (in_newest_format cat)
  pub definitions_in_transactions : (bytes : List ℕ) (cat : Catalogue) → MeansCatalogue bytes cat
      → Make (in_transactions (definitions_of cat)) (empty_as cat) (in_newest_format (without_elements cat))
