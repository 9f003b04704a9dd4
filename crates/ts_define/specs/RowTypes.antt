-- What is made of the columns that a command lists.
use Rattle.std.specs.Prelude.{◌≡◌, IsTrue, List, ℕ}
use Rattle.ts_row.specs.declared.kind.Column.{Column}
use Rattle.ts_row.specs.Row.{Heading, is_row_type}

-- the row type of these columns, of which none is bad
pub record MakesRowType (stamp : List ℕ) (columns : List Column) (heading : Heading) (good : Unit {0}) : Type 0 where
  pub made : heading ≡ record { stamp = stamp; columns = columns }
  pub rules : IsTrue (is_row_type stamp columns)
