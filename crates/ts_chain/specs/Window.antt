-- Pages side by side of a series that become others: what an edit does to these alone, whatever stands before and
-- behind them.
use Rattle.std.specs.Prelude.{◌≡◌, ℕ, ◌+◌, ◌*◌, ◌/◌, ◌≤◌, ℤ, Bool, IsTrue, Some, None, IsSome, All, IsPermutation}
use Rattle.std.specs.Prelude.{Contains, List, [], ◌∷◌, ◌++◌, take, drop, length}
use Rattle.ts_space.specs.declared.place.Place.{Place}
use Rattle.ts_page.specs.Pages.{zero_page, Contents, EqualPages, with_page}
use Rattle.ts_row.specs.declared.kind.Column.{Column}
use Rattle.ts_row.specs.Row.{Row, Element}
use Rattle.ts_cells.specs.IrregularPage.{page_room, AreElements, irregular_page, first_stamp}
use Rattle.ts_irregular.specs.Edit.{element_at, with_element, without_element}
use Rattle.ts_irregular.specs.OnePage.{IsOn}
use Rattle.ts_sheets.specs.Stamped.{ArePages, IsDense, all_in}
use Rattle.ts_space.specs.Place.{count_of, pages_of}
use Rattle.ts_sheets.specs.Places.{AreChained, IsCounted}
use Rattle.ts_chain.specs.Call.{ChangesOnlyPages}

-- how many elements the first half of a page has that was full and got one more
abbrev pub half_of : List Column → ℕ
half_of columns = (page_room columns + 1) / 2

-- two pages and their places have the halves of these elements
pub record AreHalves (slot : ℕ) (columns : List Column) (es : List Element) (first second : Place)
    (page others : List ℕ) : Type 0 where
  pub page_is : page ≡ irregular_page slot columns (take (half_of columns) es)
  pub others_are : others ≡ irregular_page slot columns (drop (half_of columns) es)
  pub first_at : first_stamp (take (half_of columns) es) ≡ Some first.at
  pub second_at : first_stamp (drop (half_of columns) es) ≡ Some second.at
  pub first_count : length (take (half_of columns) es) ≡ first.count
  pub second_count : length (drop (half_of columns) es) ≡ second.count

-- the first of the pages has so many elements at least
abbrev pub StartsWith : ℕ → List (List Element) → Type 0
StartsWith n [] = Unit {0}
StartsWith n (es ∷ chain) = n ≤ length es

-- the last of them has
abbrev pub EndsWith : ℕ → List (List Element) → Type 0
EndsWith n [] = Unit {0}
EndsWith n (es ∷ []) = n ≤ length es
EndsWith n (es ∷ fs ∷ chain) = EndsWith n (fs ∷ chain)

-- the pages have a part of a chain, of these elements, with so many on the first page and so many on the last at least
pub record HavePart (slot : ℕ) (columns : List Column) (es : List Element) (left right : ℕ) (places : List Place)
    (pages : ℕ → List ℕ) : Type 0 where
  pub chain : List (List Element)
  pub are : ArePages columns chain
  pub all : all_in chain ≡ es
  pub on : AreChained slot columns pages places chain
  pub dense : IsDense (page_room columns) chain
  pub starts : StartsWith left chain
  pub ends : EndsWith right chain

-- Some places go and others come: on every volume their pages and those that `take` can give are together the same ones
-- before and after, and no other page changes.
pub record IsWindow (tells : Bool) (columns : List Column) (gone come : List Place) (v w : Contents) : Type 0 where
  pub pages : IsPermutation (v.free ++ pages_of gone) (w.free ++ pages_of come)
  pub counts : All (IsCounted columns) come
  pub others : ChangesOnlyPages tells gone v w

-- one page has these elements of two, as many as its place tells, and the other is free
pub record AreOnOne (slot : ℕ) (columns : List Column) (es : List Element) (one : Place) (freed : ℕ)
    (v w : Contents) : Type 0 where
  pub count : length es ≡ one.count
  pub pages : EqualPages (with_page freed zero_page (with_page one.page (irregular_page slot columns es) v.page)) w.page

-- of the elements of a page that at a stamp is gone: so many are left, and these bytes have them
pub record IsRest (slot : ℕ) (columns : List Column) (stamp : ℤ) (es : List Element) (count : ℕ)
    (bytes : List ℕ) : Type 0 where
  pub there : IsSome (element_at stamp es)
  pub count_is : length (without_element stamp es) ≡ count
  pub bytes_are : bytes ≡ irregular_page slot columns (without_element stamp es)

-- where the pages are told, this is so of what the page of a place has
abbrev pub IsRestOf : Bool → ℕ → List Column → ℤ → Place → ℕ → List ℕ → Contents → Type 0
IsRestOf tells slot columns stamp place count bytes v =
    IsTrue tells → (es : List Element) → IsOn slot columns (v.page place.page) place es
    → IsRest slot columns stamp es count bytes

-- the first so many pages of these numbers are freed, and no other page changes
pub record AreFreedTo (tells : Bool) (numbers : List ℕ) (n : ℕ) (v w : Contents) : Type 0 where
  pub free : IsPermutation (v.free ++ take n numbers) w.free
  pub zero : IsTrue tells → (number : ℕ) → Contains (take n numbers) number → w.page number ≡ zero_page
  pub others : IsTrue tells → (number : ℕ) → ¬ Contains (take n numbers) number → w.page number ≡ v.page number
  pub count : w.count ≡ v.count
  pub faults : w.faults ≡ v.faults
  pub change_bytes : w.change_bytes ≤ v.change_bytes + 5 * n
  pub images : (number : ℕ) → ¬ Contains (take n numbers) number → IsTrue (v.imaged number) → IsTrue (w.imaged number)

-- Of the elements of a page none is at a stamp; with a row put there they are one more, and these bytes have their
-- halves.
pub record AreParted (slot : ℕ) (columns : List Column) (stamp : ℤ) (row : Row) (es : List Element)
    (page others : List ℕ) : Type 0 where
  pub absent : element_at stamp es ≡ None
  pub longer : length (with_element stamp row es) ≡ length es + 1
  pub page_is : page ≡ irregular_page slot columns (take (half_of columns) (with_element stamp row es))
  pub others_are : others ≡ irregular_page slot columns (drop (half_of columns) (with_element stamp row es))

-- where the pages are told, this is so of what the page of a place has
abbrev pub ArePartedOf : Bool → ℕ → List Column → ℤ → Row → Place → List ℕ → List ℕ → Contents → Type 0
ArePartedOf tells slot columns stamp row place page others v =
    IsTrue tells → (es : List Element) → IsOn slot columns (v.page place.page) place es
    → AreParted slot columns stamp row es page others

-- where the first of some places begins, or the one behind them
abbrev pub begin_of : List Place → Place → ℤ
begin_of [] next = next.at
begin_of (p ∷ places) next = p.at

-- two pages have these elements, as many as their places tell
pub record HaveBoth (slot : ℕ) (columns : List Column) (one two : List Element) (come : Place
    × Place) (w : Contents) : Type 0 where
  pub first_count : length one ≡ come.0.count
  pub second_count : length two ≡ come.1.count
  pub first_page : w.page come.0.page ≡ irregular_page slot columns one
  pub second_page : w.page come.1.page ≡ irregular_page slot columns two

-- Some places go, that of a page which is parted in two and those whose elements its halves go together with, and two
-- come: the first half stands behind all that was before it, and the second in front of all that was behind it.
pub record AreSpread (tells : Bool) (slot : ℕ) (columns : List Column) (before : List Place) (first second : Place)
    (behind : List Place) (page others : List ℕ) (come : Place × Place) (v w : Contents) : Type 0 where
  pub window : IsWindow tells columns (before ++ first ∷ behind) (come.0 ∷ come.1 ∷ []) v w
  pub count : come.0.count + come.1.count ≤ count_of before + (first.count + second.count) + count_of behind
  pub told : IsTrue tells → (xs ys : List (List Element)) (fs gs : List Element)
      → AreChained slot columns v.page before xs → AreChained slot columns v.page behind ys
      → AreElements columns fs → AreElements columns gs → length fs ≡ first.count → length gs ≡ second.count
      → page ≡ irregular_page slot columns fs → others ≡ irregular_page slot columns gs
      → HaveBoth slot columns (all_in xs ++ fs) (gs ++ all_in ys) come w
