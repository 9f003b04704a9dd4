-- What the laws of statements say.
use Rattle.std.specs.Prelude.{◌≡◌, ◌≤◌, false, IsTrue, Ok, List, length}
use Rattle.std.specs.List.{list_all}
use Rattle.ts_row.specs.declared.kind.Column.{Column}
use Rattle.ts_row.specs.Row.{is_kind, Row, row_of, fits, marked}
use Rattle.ts_model.specs.Catalogue.{Catalogue, newest_format, empty_catalogue, in_newest_format}
use Rattle.ts_dump_laws.specs.Statements.{Writing, definitions_of, elements_of, statements_of, in_transactions}
use Rattle.ts_dump_laws.specs.Statements.{without_elements}
use Rattle.ts_dump_laws.specs.Rules.{KeepsRules}
use Rattle.ts_dump_laws.specs.CarriedOut.{Make}

-- a store without anything, in the newest format, with as many element pages
abbrev pub empty_as : Catalogue → Catalogue
empty_as cat = empty_catalogue newest_format cat.pages

-- the literals of each row that fits some columns give that row, which is visible then
abbrev pub GivesRows : Writing → Type 0
GivesRows written =
    (columns : List Column) (row : Row) → 1 ≤ length columns → IsTrue (list_all (λ c. is_kind c.kind) columns)
    → IsTrue (fits columns row)
    → row_of columns (written columns row) ≡ Ok (marked false row)

-- The statements of a catalogue, carried out on an empty one, are answered, each by `ok`, and make it; so do its
-- definitions make it without elements, and the statements of its elements then fill it. It is made in the newest
-- format, whatever its own is.
pub record StatementsMakeCatalogues : Type 0 where
  pub all : (written : Writing) (cat : Catalogue) → GivesRows written → KeepsRules cat
      → Make (statements_of written cat) (empty_as cat) (in_newest_format cat)
  pub definitions : (cat : Catalogue) → KeepsRules cat
      → Make (definitions_of cat) (empty_as cat) (in_newest_format (without_elements cat))
  pub elements : (written : Writing) (cat : Catalogue) → GivesRows written → KeepsRules cat
      → Make (elements_of written cat) (in_newest_format (without_elements cat)) (in_newest_format cat)

-- so do they in transactions of 32
pub record TransactionsMakeCatalogues : Type 0 where
  pub all : (written : Writing) (cat : Catalogue) → GivesRows written → KeepsRules cat
      → Make (in_transactions (statements_of written cat)) (empty_as cat) (in_newest_format cat)
  pub definitions : (cat : Catalogue) → KeepsRules cat
      → Make (in_transactions (definitions_of cat)) (empty_as cat) (in_newest_format (without_elements cat))
  pub elements : (written : Writing) (cat : Catalogue) → GivesRows written → KeepsRules cat
      → Make (in_transactions (elements_of written cat)) (in_newest_format (without_elements cat))
      (in_newest_format cat)
