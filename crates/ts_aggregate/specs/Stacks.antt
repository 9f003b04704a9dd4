-- Series whose pages were read, each folded by itself.
use Rattle.std.specs.Prelude.{◌≡◌, ℕ, ◌^◌, ◌<◌, ℤ, List, length, map, take, drop}
use Rattle.ts_page.specs.declared.page.Page.{Page}
use Rattle.ts_row.specs.Row.{Element, Row}
use Rattle.ts_expr.specs.Aggregates.{Binding, folded_row}
use Rattle.ts_sheets.specs.Stamped.{within_range}
use Rattle.ts_clip.specs.Series.{HaveOnPlaces, ArePagesOf}
use Rattle.ts_offset.specs.Shape.{IsLaidOut}
use Rattle.ts_space.specs.Place.{count_of}
use Rattle.ts_aggregate.specs.declared.series_pages.Stack.{Stack}

-- the pages of a stack among those that were read
abbrev pub pages_of : List Page → Stack → List Page
pages_of read stack = take (length stack.places.now) (drop stack.first read)

-- A list makes this row of the elements from one stamp to another that a stack's pages have and its places tell of,
-- where they have the list's columns and are few enough for their sums. Of pages that have none such it says nothing.
abbrev pub IsFoldOf : Binding → ℤ → ℤ → List Page → Stack → Row → Type 0
IsFoldOf b from to read stack row =
    IsLaidOut stack.shape → count_of stack.places.now < 2 ^ 32 → stack.shelf.kind.now.columns ≡ b.columns
    → (pages : ℕ → List ℕ) (es : List Element) → ArePagesOf pages stack.places.now (pages_of read stack)
    → HaveOnPlaces stack.shape stack.shelf.series stack.shelf.kind.now.columns pages stack.places.now es
    → row ≡ folded_row b.items (map (λ e. e.1) (within_range from to es))
