-- Elements at stamps: on the pages of an irregular series, between two stamps, put beside one another, and of offsets.
use Rattle.std.specs.Prelude.{Option, Some, None, is_some, Result, Ok, option_map, IsSome, List, [], ◌∷◌, ◌++◌, length}
use Rattle.std.specs.Prelude.{filter, All, filter_map, ℤ, ◌<ℤ◌, pos, ◌+ℤ◌, ◌*ℤ◌, int_lt, if◌then◌else◌, Bool, not, ℕ}
use Rattle.std.specs.Prelude.{◌+◌, ◌<◌, ◌≤◌, Err}
use Rattle.std.specs.Int.{int_div_euclid}
use Rattle.std.specs.Option.{option_and_then}
use Rattle.ts_base.specs.declared.refusal.Refusal.{Refusal}
use Rattle.ts_base.specs.declared.refusal.Refusal.TheVariants.{SecondFull}
use Rattle.ts_base.specs.Moment.{is_between}
use Rattle.ts_row.specs.declared.kind.Column.{Column}
use Rattle.ts_row.specs.Row.{Element}
use Rattle.ts_offset.specs.Grid.{GridPlan, stamp_of}
use Rattle.ts_cells.specs.IrregularPage.{page_room, FillPage}
use Rattle.ts_irregular.specs.Edit.{element_at, last_of}
use Rattle.ts_regular.specs.RegularPage.{OffsetElement}

-- Elements at offsets as elements at stamps: each at the on start of its offset.

-- an element at the on start of its offset, where there are as many
abbrev pub stamped_one : GridPlan → OffsetElement → Option Element
stamped_one grid e = option_map (λ start. (start, e.1)) (stamp_of grid e.0)

-- elements at the on starts of their offsets
abbrev pub stamped : GridPlan → List OffsetElement → List Element
stamped grid es = filter_map (stamped_one grid) es

-- each element has such a start
abbrev pub HaveStarts : GridPlan → List OffsetElement → Type 0
HaveStarts grid es = All (λ e. IsSome (stamp_of grid e.0)) es

-- The elements between two stamps, both included, and the others.

-- whether an element stands from one stamp to another, both included; from a later stamp to an earlier one none does
abbrev pub is_within : ℤ → ℤ → Element → Bool
is_within from to e = is_between from to e.0

-- the elements that do, hidden or not
abbrev pub within_range : ℤ → ℤ → List Element → List Element
within_range from to es = filter (is_within from to) es

-- all others
abbrev pub without_range : ℤ → ℤ → List Element → List Element
without_range from to es = filter (λ e. not (is_within from to e)) es

-- Where an element is put at a stamp that may be taken.

-- the units of a second
abbrev pub second_units : ℕ
second_units = 100_000

-- where the next whole second after a stamp begins
abbrev pub next_second : ℤ → ℤ
next_second stamp = (int_div_euclid stamp (pos second_units) *ℤ pos second_units) +ℤ pos second_units

-- the elements that are earlier than an end
abbrev pub earlier : ℤ → List Element → List Element
earlier end es = filter (λ e. int_lt e.0 end) es

-- the greatest stamp of an element that is earlier than an end, if there is one
abbrev pub last_before : ℤ → List Element → Option ℤ
last_before end es = option_map (λ e. e.0) (last_of (earlier end es))

-- one unit after a stamp, where that is before an end
abbrev pub unit_after : ℤ → ℤ → Option ℤ
unit_after end stamp = if int_lt (stamp +ℤ pos 1) end then Some (stamp +ℤ pos 1) else None

-- The stamp itself where no element stands at it; else the one behind the last element of its second, if one is left
-- there.
abbrev pub place_for : ℤ → List Element → Option ℤ
place_for stamp es =
    if is_some (element_at stamp es) then option_and_then (unit_after (next_second stamp))
    (last_before (next_second stamp) es)
    else Some stamp

-- the place that an element gets, if there is one; else its second is full
abbrev pub placed : Option ℤ → Result ℤ Refusal
placed (Some at) = Ok at
placed None = Err SecondFull

-- A chain: the pages of one irregular series, each a list of elements, in the order of their stamps.

-- the elements of all pages, one page after the other
abbrev pub all_in : List (List Element) → List Element
all_in [] = []
all_in (es ∷ chain) = es ++ all_in chain

-- each of the elements is earlier than a stamp
abbrev pub AreEarlier : ℤ → List Element → Type 0
AreEarlier stamp [] = Unit {0}
AreEarlier stamp (e ∷ es) = (e.0 <ℤ stamp) × AreEarlier stamp es

-- each of them is later
abbrev pub AreLater : ℤ → List Element → Type 0
AreLater stamp [] = Unit {0}
AreLater stamp (e ∷ es) = (stamp <ℤ e.0) × AreLater stamp es

-- each of the first is earlier than each of the others
abbrev pub AreBefore : List Element → List Element → Type 0
AreBefore [] fs = Unit {0}
AreBefore (e ∷ es) fs = AreLater e.0 fs × AreBefore es fs

-- each page is filled, and each stamp of a page is below all of the later pages
abbrev pub ArePages : List Column → List (List Element) → Type 0
ArePages columns [] = Unit {0}
ArePages columns (es ∷ chain) = FillPage columns es × AreBefore es (all_in chain) × ArePages columns chain

-- each page has some elements, and at most so many
abbrev pub AreSized : ℕ → List (List Element) → Type 0
AreSized q [] = Unit {0}
AreSized q (es ∷ chain) = (1 ≤ length es) × (length es ≤ q) × AreSized q chain

-- two neighbours hold more than so many elements together
abbrev pub IsDense : ℕ → List (List Element) → Type 0
IsDense q [] = Unit {0}
IsDense q (es ∷ []) = Unit {0}
IsDense q (es ∷ fs ∷ chain) = (q < length es + length fs) × IsDense q (fs ∷ chain)

-- the pages of a series: they are filled, in order, and two neighbours never fit one page
pub record IsChain (columns : List Column) (chain : List (List Element)) : Type 0 where
  pub pages : ArePages columns chain
  pub dense : IsDense (page_room columns) chain

-- The page between these is the one that a stamp belongs to: all elements before it are earlier, and all behind it
-- later.
pub record IsAround (stamp : ℤ) (front back : List (List Element)) : Type 0 where
  pub earlier : AreEarlier stamp (all_in front)
  pub later : AreLater stamp (all_in back)
