-- The pages side by side that elements between two stamps stand on: what is left at their two ends, and which pages it
-- goes to.
use Rattle.std.specs.Prelude.{◌≡◌, ◌≢◌, ℕ, zero, suc, ◌+◌, ◌<◌, ◌≤◌, ℤ, ◌≤ℤ◌, Bool, true, false, IsTrue, int_lt, All}
use Rattle.std.specs.Prelude.{AllPairs, Contains, IsPermutation, Some, List, [], ◌∷◌, ◌++◌, filter, length}
use Rattle.ts_space.specs.declared.place.Place.{Place}
use Rattle.ts_space.specs.declared.moved.Come.{Come}
use Rattle.ts_space.specs.declared.moved.Come.TheVariants.{Nothing, One, Two}
use Rattle.ts_space.specs.Place.{AreAbove, IsRising, pages_of}
use Rattle.ts_page.specs.Pages.{Contents}
use Rattle.ts_row.specs.declared.kind.Column.{Column}
use Rattle.ts_row.specs.Row.{Element}
use Rattle.ts_cells.specs.IrregularPage.{irregular_page, first_stamp}
use Rattle.ts_sheets.specs.Stamped.{all_in, ArePages, earlier}
use Rattle.ts_sheets.specs.Places.{CanBeFreed, AreChained, IsCounted}
use Rattle.ts_series.specs.declared.joins.Joins.{Joins}

-- the elements that are later than a stamp
abbrev pub later : ℤ → List Element → List Element
later to es = filter (λ e. int_lt to e.0) es

-- how many elements the last of the places has, and the first; 0 where there is none
abbrev pub last_count : List Place → ℕ
last_count [] = 0
last_count (p ∷ []) = p.count
last_count (p ∷ r ∷ places) = last_count (r ∷ places)

abbrev pub first_count : List Place → ℕ
first_count [] = 0
first_count (p ∷ places) = p.count

-- the last of the places begins at a stamp or before it
abbrev pub EndsAt : ℤ → List Place → Type 0
EndsAt to [] = Unit {0}
EndsAt to (p ∷ []) = p.at ≤ℤ to
EndsAt to (p ∷ r ∷ places) = EndsAt to (r ∷ places)

-- the first of them does
abbrev pub BeginsAt : ℤ → List Place → Type 0
BeginsAt from [] = Unit {0}
BeginsAt from (p ∷ places) = p.at ≤ℤ from

-- all but the first begin above a stamp
abbrev pub OthersAreAbove : ℤ → List Place → Type 0
OthersAreAbove from [] = Unit {0}
OthersAreAbove from (p ∷ places) = AreAbove from places

-- a page has these elements, so many
pub record HasElements (slot : ℕ) (columns : List Column) (es : List Element) (count : ℕ) (page : List ℕ) : Type 0 where
  pub number : length es ≡ count
  pub bytes : page ≡ irregular_page slot columns es

-- of some elements one page has those that are earlier than a stamp, and another those that are later than one
pub record AreEnds (slot : ℕ) (columns : List Column) (from to : ℤ) (es : List Element) (n m : ℕ)
    (page behind : List ℕ) : Type 0 where
  pub front : HasElements slot columns (earlier from es) n page
  pub back : HasElements slot columns (later to es) m behind

-- where the pages are told, this is so of what these places tell of
abbrev pub AreEndsOf : Bool → ℕ → List Column → ℤ → ℤ → List Place → Contents → ℕ → ℕ → List ℕ → List ℕ → Type 0
AreEndsOf tells slot columns from to places v n m page behind =
    IsTrue tells → (chain : List (List Element)) → AreChained slot columns v.page places chain → ArePages columns chain
    → AreEnds slot columns from to (all_in chain) n m page behind

-- the elements of a neighbour that is joined: all, or none
abbrev pub joined_count : ℕ → ℕ → ℕ
joined_count zero count = 0
joined_count (suc k) count = count

-- Two pieces of x and y elements stay apart: both have some, they don't fit one page, and neither fits one with a
-- neighbour that isn't joined to it.
pub record StayApart (room before x y behind joined_before joined_behind : ℕ) : Type 0 where
  pub first : x ≤ room
  pub second : y ≤ room
  pub full : room < x + y
  pub meets_before : joined_before ≡ 0 → 1 ≤ before → room < before + x
  pub meets_behind : joined_behind ≡ 0 → 1 ≤ behind → room < y + behind

-- They become one page, or none where they have no elements; nor does that fit one with such a neighbour, or the
-- neighbours each other.
pub record GoTogether (room before all behind joined_before joined_behind : ℕ) : Type 0 where
  pub fits : all ≤ room
  pub meets_before : 1 ≤ all → joined_before ≡ 0 → 1 ≤ before → room < before + all
  pub meets_behind : 1 ≤ all → joined_behind ≡ 0 → 1 ≤ behind → room < all + behind
  pub meet : all ≡ 0 → 1 ≤ before → 1 ≤ behind → room < before + behind

abbrev pub FitTheirPages : Bool → (room before x y behind joined_before joined_behind : ℕ) → Type 0
FitTheirPages true room before x y behind joined_before joined_behind =
    StayApart room before x y behind joined_before joined_behind
FitTheirPages false room before x y behind joined_before joined_behind =
    GoTogether room before (x + y) behind joined_before joined_behind

-- Which pieces are joined. `before` and `behind` are the elements of the pages beside the two ends, none where there is
-- no page; n and m are left of the ends.
pub record AreJoined (room before n m behind : ℕ) (joins : Joins) : Type 0 where
  pub one_before : joins.before ≤ 1
  pub one_behind : joins.behind ≤ 1
  pub there_before : 1 ≤ joins.before → 1 ≤ before
  pub there_behind : 1 ≤ joins.behind → 1 ≤ behind
  pub full : IsTrue joins.apart → room < n + m
  pub fit : FitTheirPages joins.apart room before (joined_count joins.before before + n)
      (m + joined_count joins.behind behind) behind joins.before joins.behind

-- The pages that hold elements from one stamp to another: `mid`, some side by side. All before them are earlier, and
-- all behind them later.
pub record IsRange (from to : ℤ) (places : List Place) (first stop : ℕ) : Type 0 where
  pub front : List Place
  pub mid : List Place
  pub back : List Place
  pub parts : places ≡ front ++ (mid ++ back)
  pub first_is : length front ≡ first
  pub stop_is : length front + length mid ≡ stop
  pub some : 1 ≤ length mid
  pub begins : 1 ≤ length front → BeginsAt from mid
  pub others : OthersAreAbove from mid
  pub ends : EndsAt to mid
  pub above : AreAbove to back

-- The same places, with the pages that are joined: those before and behind `mid`.
pub record AreParts (places : List Place) (first stop : ℕ) (joins : Joins) : Type 0 where
  pub front : List Place
  pub before : List Place
  pub mid : List Place
  pub behind : List Place
  pub back : List Place
  pub parts : places ≡ front ++ (before ++ (mid ++ (behind ++ back)))
  pub first_is : length front + length before ≡ first
  pub stop_is : length front + length before + length mid ≡ stop
  pub before_is : length before ≡ joins.before
  pub behind_is : length behind ≡ joins.behind
  pub some : 1 ≤ length mid

-- pages of some places that can be freed, each of one alone
pub record AreUsed (c : Contents) (places : List Place) : Type 0 where
  pub each : All (CanBeFreed c) (pages_of places)
  pub different : AllPairs (λ a b. a ≢ b) (pages_of places)

-- some places go and others come, before those that stay behind them: on every volume
pub record AreKept (tells : Bool) (columns : List Column) (gone come back : List Place) (v w : Contents) : Type 0 where
  pub pages : IsPermutation (v.free ++ pages_of gone) (w.free ++ pages_of come)
  pub counts : All (IsCounted columns) come
  pub rising : IsRising (come ++ back)
  pub begins : (at : ℤ) → AreAbove at gone → AreAbove at come
  pub others : IsTrue tells → (number : ℕ) → ¬ Contains (pages_of gone) number → w.page number ≡ v.page number

-- the pages that two pieces come to
abbrev pub pieces : Come → List Element → List Element → List (List Element)
pieces Nothing xs ys = []
pieces (One p) xs ys = (xs ++ ys) ∷ []
pieces (Two p r) xs ys = xs ∷ ys ∷ []

-- the places that come are two where the pieces stay apart, else one at most
abbrev pub HasShape : Bool → Come → Type 0
HasShape apart Nothing = apart ≡ false
HasShape apart (One p) = apart ≡ false
HasShape apart (Two p r) = apart ≡ true

-- a page with these elements can begin where the first of them stands: not before a place, and before those that stay
-- behind it
abbrev pub BeginsWithin : Place → List Place → List Element → Type 0
BeginsWithin place back es = (at : ℤ) → first_stamp es ≡ Some at → (place.at ≤ℤ at) × AreAbove at back

-- some elements can begin on the page of the first of the places that go
abbrev pub BeginTogether : List Place → List Place → List Element → Type 0
BeginTogether gone back es = (a : Place) (gs : List Place) → gone ≡ a ∷ gs → BeginsWithin a back es

-- two pieces can begin on the pages of the first two
pub record BeginApart (gone back : List Place) (xs ys : List Element) : Type 0 where
  pub first : (a : Place) (gs : List Place) → gone ≡ a ∷ gs → first_stamp xs ≡ Some a.at
  pub second : (a b : Place) (gs : List Place) → gone ≡ a ∷ b ∷ gs → BeginsWithin b back ys

abbrev pub CanBegin : Bool → List Place → List Place → List Element → List Element → Type 0
CanBegin true gone back xs ys = BeginApart gone back xs ys
CanBegin false gone back xs ys = BeginTogether gone back (xs ++ ys)
