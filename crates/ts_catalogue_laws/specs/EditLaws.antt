-- What edits put and mark, and where, in the words of one who asks for them.
use Rattle.std.specs.Prelude.{◌≡◌, ◌⊎◌, ℕ, ℤ, pos, ◌+ℤ◌, ◌-ℤ◌, ◌*ℤ◌, ◌≤ℤ◌, ◌<ℤ◌, Bool, true, false, None, Some}
use Rattle.std.specs.Prelude.{Ok, List}
use Rattle.std.specs.FinMap.{get}
use Rattle.ts_row.specs.declared.value.Literal.{Literal}
use Rattle.ts_row.specs.Row.{Row, row_of}
use Rattle.ts_offset.specs.Grid.{IsHeldFrom}
use Rattle.ts_offset.specs.declared.shape.Shape.{Shape}
use Rattle.ts_offset.specs.declared.shape.Shape.TheVariants as shapes
use Rattle.ts_command.specs.declared.command.Command.TheVariants as commands
use Rattle.ts_model.specs.declared.kind.Kind.TheVariants as kinds
use Rattle.ts_model.specs.Catalogue.{Series, Catalogue, columns_of}
use Rattle.ts_multi.specs.Touched.{one}
use Rattle.ts_answer.specs.Answer.{Answered, outcome}
use Rattle.ts_answer.specs.Reply.{stamp_line}
use Rattle.ts_answer_laws.specs.Objects.{StaysBut}
use Rattle.ts_catalogue_laws.specs.OfCatalogues.{Lies}

-- what a stamp addresses in a series that lies so: itself, or on a grid the start of the on interval that holds it,
-- where that isn't before the origin
abbrev pub Addresses : Shape → ℤ → ℤ → Type 0
Addresses shapes.Irregular stamp at = at ≡ stamp
Addresses (shapes.Regular grid) stamp at = IsHeldFrom grid.calendar stamp at × (grid.origin ≤ℤ at)

-- A row stands at a stamp of a series, in place of one that stood there, and this stamp is said. Everything else is as
-- it was: the other elements of the series, where they can stand and in which container, and all other objects.
pub record Stands (at : ℤ) (row : Row) (key : List ℕ) (s : Series) (cat : Catalogue)
    (answered : Answered) : Type 0 where
  pub line : answered.0 ≡ stamp_line at
  pub series : Series
  pub listed : get answered.1.series key ≡ Some series
  pub container : series.container ≡ s.container
  pub kind : series.kind ≡ s.kind
  pub here : get series.elements at ≡ Some row
  pub others : (stamp : ℤ) → (stamp ≡ at → ⊥) → get series.elements stamp ≡ get s.elements stamp
  pub rest : StaysBut (one kinds.Series key) cat answered.1

-- at a stamp of such a place stands the row that literals give
pub record PutsAt (Place : ℤ → Type 0) (literals : List Literal) (key : List ℕ) (s : Series) (cat : Catalogue)
    (answered : Answered) : Type 0 where
  pub at : ℤ
  pub place : Place at
  pub row : Row
  pub given : row_of (columns_of cat s) literals ≡ Ok row
  pub stands : Stands at row key s cat answered

-- no element stands at a stamp, hidden or not
abbrev pub IsFree : Series → ℤ → Type 0
IsFree s stamp = get s.elements stamp ≡ None

-- one does
abbrev pub IsTaken : Series → ℤ → Type 0
IsTaken s stamp = (row : Row) × (get s.elements stamp ≡ Some row)

-- One unit behind the last element of the second that a taken stamp lies in, and inside it. A second has 100000 units.
pub record IsBehind (s : Series) (stamp at : ℤ) : Type 0 where
  pub taken : IsTaken s stamp
  pub end : ℤ
  pub whole : (seconds : ℤ) × (end ≡ seconds *ℤ pos 100_000)
  pub inside : stamp <ℤ end
  pub near : end ≤ℤ (stamp +ℤ pos 100_000)
  pub later : stamp <ℤ at
  pub before : at <ℤ end
  pub behind : IsTaken s (at -ℤ pos 1)
  pub last : (other : ℤ) → at ≤ℤ other → other <ℤ end → IsFree s other

-- where PutElem puts an element: in an irregular series at the stamp itself where it is free, else behind the last
-- element of its second; in a regular one at what the stamp addresses
abbrev pub IsPlace : Series → Shape → ℤ → ℤ → Type 0
IsPlace s shapes.Irregular stamp at = ((at ≡ stamp) × IsFree s stamp) ⊎ IsBehind s stamp at
IsPlace s (shapes.Regular grid) stamp at = Addresses (shapes.Regular grid) stamp at

-- each routine puts the row of its literals: InsElem where nothing stands, UpdElem where something does, PutElemNoDups
-- in either case, and PutElem at its place
pub record RowsArePut : Type 0 where
  pub insert : (cat : Catalogue) (answered : Answered) (key : List ℕ) (stamp : ℤ) (literals : List Literal) (s : Series)
      → get cat.series key ≡ Some s → outcome (Ok (commands.InsElem key stamp literals)) cat ≡ Ok answered
      → Lies cat s (λ shape. PutsAt (λ at. Addresses shape stamp at × IsFree s at) literals key s cat answered)
  pub update : (cat : Catalogue) (answered : Answered) (key : List ℕ) (stamp : ℤ) (literals : List Literal) (s : Series)
      → get cat.series key ≡ Some s → outcome (Ok (commands.UpdElem key stamp literals)) cat ≡ Ok answered
      → Lies cat s (λ shape. PutsAt (λ at. Addresses shape stamp at × IsTaken s at) literals key s cat answered)
  pub no_dups : (cat : Catalogue) (answered : Answered) (key : List ℕ) (stamp : ℤ) (literals : List Literal)
      (s : Series)
      → get cat.series key ≡ Some s → outcome (Ok (commands.PutElemNoDups key stamp literals)) cat ≡ Ok answered
      → Lies cat s (λ shape. PutsAt (Addresses shape stamp) literals key s cat answered)
  pub put : (cat : Catalogue) (answered : Answered) (key : List ℕ) (stamp : ℤ) (literals : List Literal) (s : Series)
      → get cat.series key ≡ Some s → outcome (Ok (commands.PutElem key stamp literals)) cat ≡ Ok answered
      → Lies cat s (λ shape. PutsAt (IsPlace s shape stamp) literals key s cat answered)

-- the element that a stamp addresses has the same values and this mark
pub record Marks (hidden : Bool) (stamp : ℤ) (key : List ℕ) (s : Series) (cat : Catalogue) (shape : Shape)
    (answered : Answered) : Type 0 where
  pub at : ℤ
  pub addressed : Addresses shape stamp at
  pub old : Row
  pub there : get s.elements at ≡ Some old
  pub row : Row
  pub values : row.values ≡ old.values
  pub mark : row.hidden ≡ hidden
  pub stands : Stands at row key s cat answered

-- HideElem hides it, and RevealElem makes it visible
pub record ElementsAreMarked : Type 0 where
  pub hide : (cat : Catalogue) (answered : Answered) (key : List ℕ) (stamp : ℤ) (s : Series) → get cat.series key
      ≡ Some s
      → outcome (Ok (commands.HideElem key stamp)) cat ≡ Ok answered
      → Lies cat s (λ shape. Marks true stamp key s cat shape answered)
  pub reveal : (cat : Catalogue) (answered : Answered) (key : List ℕ) (stamp : ℤ) (s : Series) → get cat.series key
      ≡ Some s
      → outcome (Ok (commands.RevealElem key stamp)) cat ≡ Ok answered
      → Lies cat s (λ shape. Marks false stamp key s cat shape answered)
