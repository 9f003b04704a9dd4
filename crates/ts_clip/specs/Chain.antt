-- What is read of the pages of an irregular series: of its elements those of a range that aren't hidden, some of them
-- passed over and some taken.
use Rattle.std.specs.Prelude.{◌≡◌, ℕ, ◌+◌, ◌-◌, ◌≤◌, ℤ, pos, neg_ℤ, Bool, IsTrue, List, [], ◌∷◌, ◌++◌, length, map}
use Rattle.std.specs.Prelude.{take, drop}
use Rattle.ts_space.specs.declared.place.Place.{Place}
use Rattle.ts_space.specs.Directory.{Directory, places_of}
use Rattle.ts_page.specs.Pages.{Contents}
use Rattle.ts_row.specs.declared.kind.Column.{Column}
use Rattle.ts_row.specs.Row.{Element}
use Rattle.ts_row.specs.declared.row.Shelf.{Shelf}
use Rattle.ts_offset.specs.declared.shape.Shape.TheVariants.{Irregular}
use Rattle.ts_irregular.specs.Call as one_page
use Rattle.ts_cells.specs.IrregularPage.{AreElements, AreInOrder, behind_head}
use Rattle.ts_sheets.specs.Stamped.{all_in, ArePages, within_range}
use Rattle.ts_sheets.specs.Places.{AreChained}
use Rattle.ts_series.specs.Ends.{EndsAt, OthersAreAbove}
use Rattle.ts_entry.specs.Entry.{Entry, filled}
use Rattle.ts_clip.specs.Series.{IsTold}
use Rattle.ts_clip.specs.declared.chain_cells.Wanted.{Wanted}

-- of some elements the entries of those that are wanted
abbrev pub wanted_of : Wanted → List Element → List Entry
wanted_of want es = map filled (take want.most (drop want.skip es))

-- These elements were passed: the entries of those that were wanted were taken, and of the elements behind them so many
-- are wanted still.
pub record ArePassed (took : List Entry → Type 0) (before after : Wanted) (es : List Element) : Type 0 where
  pub entries : List Entry
  pub taken : took entries
  pub number : before.most ≡ after.most + length entries
  pub are : (rest : List Element) → wanted_of before (es ++ rest) ≡ entries ++ wanted_of after rest

-- this holds of the elements whose cells stand behind the head of a page, so many
abbrev pub HoldsOfCells : List Column → ℕ → List ℕ → (List Element → Type 0) → Type 0
HoldsOfCells columns count behind P =
    (es : List Element) → AreInOrder columns es → length es ≡ count → behind ≡ behind_head columns es → P es

-- this holds of the elements whose cells stand there, so many at least, in whatever order
abbrev pub HoldsOfMore : List Column → ℕ → List ℕ → (List Element → Type 0) → Type 0
HoldsOfMore columns least behind P =
    (es : List Element) → AreElements columns es → least ≤ length es → behind ≡ behind_head columns es → P es

-- where the pages are told, this holds of the elements of the series
abbrev pub HoldsOfChain : Bool → Shelf → Directory → Contents → (List Element → Type 0) → Type 0
HoldsOfChain tells shelf space v P = IsTold tells Irregular shelf.series shelf.kind.now.columns
    (places_of shelf.series space) v P

-- where they are told, this holds of the pages that places tell of, each the list of its elements
abbrev pub HoldsOfPages : Bool → Shelf → List Place → Contents → (List (List Element) → Type 0) → Type 0
HoldsOfPages tells shelf places v P =
    IsTrue tells → (chain : List (List Element)) → AreChained shelf.series shelf.kind.now.columns v.page places chain
    → P chain

-- where they are told, this holds of the elements of the page that a place tells of
abbrev pub HoldsOfPage : Bool → Shelf → Place → Contents → (List Element → Type 0) → Type 0
HoldsOfPage tells shelf place v P = one_page.IsTold tells shelf.series shelf.kind.now.columns (place ∷ []) v P

-- all elements from one stamp to another stand on the pages of these places from one index on and before another
abbrev pub HaveRange : ℤ → ℤ → List Place → ℕ → ℕ → Type 0
HaveRange from to places first stop =
    (slot : ℕ) (columns : List Column) (pages : ℕ → List ℕ) (chain : List (List Element))
    → AreChained slot columns pages places chain
    → ArePages columns chain → within_range from to (all_in chain)
    ≡ within_range from to (all_in (take (stop - first) (drop first chain)))

-- all of the places but the first begin above one stamp, and the last doesn't begin above another
pub record AreBounded (from to : ℤ) (places : List Place) : Type 0 where
  pub others : OthersAreAbove from places
  pub ends : EndsAt to places

-- the least of all stamps, and the greatest
abbrev pub first_moment : ℤ
first_moment = neg_ℤ (pos 6_213_559_680_000_000)

abbrev pub last_moment : ℤ
last_moment = pos 25_340_230_079_999_999
