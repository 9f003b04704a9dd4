-- The pages of the series of a container in memory: those that a range touches.
use Rattle.std.specs.Prelude.{◌≡◌, ℕ, ◌+◌, ◌<◌, ◌≤◌, ◌==◌, ℤ, Bool, false, IsTrue, Option, Some, None, IsSome, List, []}
use Rattle.std.specs.Prelude.{◌++◌, length, take, map}
use Rattle.std.specs.List.{filter, AllZip}
use Rattle.std.specs.Option.{option_map}
use Rattle.ts_row.specs.Row.{Row}
use Rattle.ts_page.specs.declared.page.Page.{Page}
use Rattle.ts_page.specs.Pages.{Contents}
use Rattle.ts_space.specs.declared.place.Place.{Place}
use Rattle.ts_space.specs.Directory.{places_of}
use Rattle.ts_clip.specs.Series.{HoldRange, ArePagesOf}
use Rattle.ts_offset.specs.Shape.{IsLaidOut}
use Rattle.ts_aggregate.specs.declared.series_pages.Stack.{Stack}
use Rattle.ts_aggregate.specs.Stacks.{pages_of}
use Rattle.ts_model.specs.Definitions.{Definitions, SeriesDef, at_slot, series_slots}
use Rattle.ts_layout.specs.Meaning.{heading_at, shape_at}
use Rattle.ts_answer.specs.View.{View, view}
use Rattle.ts_combined_rows.specs.declared.gathered.ContainerRange.{ContainerRange}
use Rattle.ts_combined_rows.specs.declared.gathered.Gathered.{Gathered}

-- a series stands in the container in a slot
abbrev pub stands_in : ℕ → Option SeriesDef → Bool
stands_in container None = false
stands_in container (Some s) = s.container == container

-- of some slots, those whose series stands in the container in a slot
abbrev pub inside : Definitions → ℕ → List ℕ → List ℕ
inside d container slots = filter (λ slot. stands_in container (at_slot slot d.series)) slots

-- a list has one page more for each of some places, in their order, and where the pages are told, their pages
pub record AreRead (tells : Bool) (pages : ℕ → List ℕ) (places : List Place) (old new : List Page) : Type 0 where
  pub more : List Page
  pub behind : new ≡ old ++ more
  pub all : length more ≡ length places
  pub read : IsTrue tells → ArePagesOf pages places more

-- A stack is that of the series in a slot: its columns, its shape, the places of the pages that a range touches, as
-- many pages of a list as there are places, and where the pages are told, the pages of these places.
pub record IsStackOf (tells : Bool) (x : View) (from to : ℤ) (read : List Page) (slot : ℕ)
    (stack : Stack) : Type 0 where
  pub series : stack.shelf.series ≡ slot
  pub columns : heading_at x.definitions slot ≡ Some stack.shelf.kind.now
  pub lies : shape_at x.definitions slot ≡ Some stack.shape
  pub laid : IsLaidOut stack.shape
  pub holds : HoldRange stack.shape stack.shelf.kind.now.columns from to (places_of slot x.space) stack.places.now
  pub within : stack.first + length stack.places.now ≤ length read
  pub pages : IsTrue tells → ArePagesOf x.pages.page stack.places.now (pages_of read stack)

-- what is seen of the definitions and the directory of a range over some pages
abbrev pub seen_by : ContainerRange → Contents → View
seen_by range pages = view range.defs.now.definitions range.space.now pages

-- nothing is gathered
pub record IsEmpty (gathered : Gathered) : Type 0 where
  pub pages : gathered.pages ≡ []
  pub stacks : gathered.stacks.items ≡ []
  pub passed : gathered.passed ≡ 0

-- the series of the range's container in the first of some slots have their stacks, whose pages are among those that
-- are gathered
pub record IsGathered (tells : Bool) (pages : Contents) (range : ContainerRange) (slots : List ℕ)
    (gathered : Gathered) : Type 0 where
  pub passed : gathered.passed ≤ length slots
  pub stacks : AllZip (IsStackOf tells (seen_by range pages) range.from range.to gathered.pages)
      (inside range.defs.now.definitions range.container (take gathered.passed slots)) gathered.stacks.items

-- the slot of a stack has a series
pub record HasSeries (d : Definitions) (stack : Stack) : Type 0 where
  pub within : stack.shelf.series < series_slots
  pub some : IsSome (at_slot stack.shelf.series d.series)

-- the lines that are said of some stacks with a row for each: the key of the stack's series, and its row
pub record AreLinesOf (d : Definitions) (stacks : List Stack) (rows : List Row)
    (lines : List (List ℕ × Row)) : Type 0 where
  pub keyed : AllZip (λ stack line. option_map (λ s. s.key) (at_slot stack.shelf.series d.series)
      ≡ Some line.0) stacks lines
  pub folded : map (λ line. line.1) lines ≡ rows
