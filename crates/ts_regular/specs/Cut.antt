-- What is left of pages of which the elements in a range of offsets go: of each page of some places.
use Rattle.std.specs.Prelude.{◌≡◌, ℕ, zero, suc, ◌+◌, ◌*◌, ◌<◌, ◌≤◌, if◌then◌else◌, Bool, IsTrue, ℤ, ◌≤ℤ◌, pos, All}
use Rattle.std.specs.Prelude.{Contains, IsPermutation, None, List, [], ◌∷◌, ◌++◌, length, take}
use Rattle.ts_space.specs.declared.place.Place.{Place}
use Rattle.ts_space.specs.Place.{AreBelow, pages_of}
use Rattle.ts_page.specs.Pages.{Contents, IsElementPage}
use Rattle.ts_row.specs.declared.kind.Column.{Column}
use Rattle.ts_regular.specs.RegularPage.{Cell, base_of, filled_count}
use Rattle.ts_regular.specs.Places.{OffsetPage, IsOn}
use Rattle.ts_regular.specs.OnePage.{IsToldOn}
use Rattle.ts_regular.specs.Call.{Stays, IsTold}
use Rattle.ts_regular.specs.Range.{is_between}

-- cells, of which the first has this offset, without the elements in a range
abbrev pub cells_outside : ℕ → ℕ → ℕ → List Cell → List Cell
cells_outside from to offset [] = []
cells_outside from to offset (cell ∷ cells) = (if is_between from to offset then None else cell)
    ∷ cells_outside from to (offset + 1) cells

-- each place begins here or above
abbrev pub AreNotBelow : ℤ → List Place → Type 0
AreNotBelow at [] = Unit {0}
AreNotBelow at (p ∷ places) = (at ≤ℤ p.at) × AreNotBelow at places

-- The places whose pages have a cell for an offset of a range: `mid`, some side by side, or none.
pub record IsRange (columns : List Column) (from to : ℕ) (places : List Place) (first stop : ℕ) : Type 0 where
  pub front : List Place
  pub mid : List Place
  pub back : List Place
  pub parts : places ≡ front ++ (mid ++ back)
  pub first_is : length front ≡ first
  pub stop_is : length front + length mid ≡ stop
  pub before : AreBelow (pos (base_of columns from)) front
  pub begins : AreNotBelow (pos (base_of columns from)) mid
  pub ends : AreBelow (pos to) mid
  pub behind : AreNotBelow (pos to) back

-- a place, and how many elements are left of its page's
abbrev pub Cut : Type 0
Cut = Place × ℕ

-- the place as it is then
abbrev pub recounted : Place → ℕ → Place
recounted place left = record { at = place.at; page = place.page; count = left }

-- some places, of whose pages these numbers of elements are left: of the first, of the last where it is another, and
-- none between
abbrev pub cuts_behind : ℕ → List Place → List Cut
cuts_behind back [] = []
cuts_behind back (p ∷ []) = (p, back) ∷ []
cuts_behind back (p ∷ q ∷ places) = (p, 0) ∷ cuts_behind back (q ∷ places)

abbrev pub cuts_of : ℕ → ℕ → List Place → List Cut
cuts_of front back [] = []
cuts_of front back (p ∷ places) = (p, front) ∷ cuts_behind back places

-- the places that stay, as they are then, and those that go
abbrev pub kept_of : List Cut → List Place
kept_of [] = []
kept_of ((place, zero) ∷ cuts) = kept_of cuts
kept_of ((place, suc n) ∷ cuts) = recounted place (suc n) ∷ kept_of cuts

abbrev pub gone_of : List Cut → List Place
gone_of [] = []
gone_of ((place, zero) ∷ cuts) = place ∷ gone_of cuts
gone_of ((place, suc n) ∷ cuts) = gone_of cuts

-- So many elements are left of a page, no more than it had; where some are, it has them.
pub record IsCutTo (tells : Bool) (slot : ℕ) (columns : List Column) (from to left : ℕ) (place : Place)
    (v w : Contents) : Type 0 where
  pub fewer : left ≤ place.count
  pub number : IsToldOn tells slot columns place v (λ p. filled_count (cells_outside from to p.0 p.1) ≡ left)
  pub on : 1 ≤ left
      → IsToldOn tells slot columns place v (λ p. IsOn slot columns (w.page place.page) (recounted place left)
      (p.0, cells_outside from to p.0 p.1))

-- So many elements are left of these cells of a page; where some are, it has them.
pub record IsRest (slot : ℕ) (columns : List Column) (from to : ℕ) (pages : ℕ → List ℕ) (cut : Cut)
    (p : OffsetPage) : Type 0 where
  pub number : filled_count (cells_outside from to p.0 p.1) ≡ cut.1
  pub on : 1 ≤ cut.1 → IsOn slot columns (pages cut.0.page) (recounted cut.0 cut.1) (p.0, cells_outside from to p.0 p.1)

-- it is so of each of some pages
abbrev pub AreRests : ℕ → List Column → ℕ → ℕ → (ℕ → List ℕ) → List Cut → List OffsetPage → Type 0
AreRests slot columns from to pages [] [] = Unit {0}
AreRests slot columns from to pages [] (p ∷ ps) = ⊥
AreRests slot columns from to pages (cut ∷ cuts) [] = ⊥
AreRests slot columns from to pages (cut ∷ cuts) (p ∷ ps) = IsRest slot columns from to pages cut p
    × AreRests slot columns from to pages cuts ps

-- it is so of the pages of these places; no other page changes, and none where all elements are left
pub record AreCutTo (tells : Bool) (slot : ℕ) (columns : List Column) (from to : ℕ) (places : List Place)
    (cuts : List Cut) (v w : Contents) : Type 0 where
  pub fewer : All (λ cut. cut.1 ≤ cut.0.count) cuts
  pub rests : IsTold tells slot columns places v (λ ps. AreRests slot columns from to w.page cuts ps)
  pub free : w.free ≡ v.free
  pub same : All (λ cut. cut.1 ≡ cut.0.count) cuts → Stays tells v w
  pub others : IsTrue tells → (number : ℕ) → ¬ Contains (pages_of places) number → w.page number ≡ v.page number

-- the page of that number can be freed: it is an element page which `take` can't give
pub record CanBeFreed (c : Contents) (number : ℕ) : Type 0 where
  pub element : IsElementPage number
  pub below : number < c.count
  pub used : ¬ Contains c.free number

-- the first so many pages of these numbers are freed, and no other page changes
pub record AreFreedTo (tells : Bool) (numbers : List ℕ) (n : ℕ) (v w : Contents) : Type 0 where
  pub free : IsPermutation (v.free ++ take n numbers) w.free
  pub others : IsTrue tells → (number : ℕ) → ¬ Contains (take n numbers) number → w.page number ≡ v.page number
  pub count : w.count ≡ v.count
  pub faults : w.faults ≡ v.faults
  pub change_bytes : w.change_bytes ≤ v.change_bytes + 5 * n
  pub images : (number : ℕ) → ¬ Contains (take n numbers) number → IsTrue (v.imaged number) → IsTrue (w.imaged number)

-- the pages of some places are freed, and no other page changes, nor loses its image in the open batch
pub record AreFreed (tells : Bool) (places : List Place) (v w : Contents) : Type 0 where
  pub free : IsPermutation (v.free ++ pages_of places) w.free
  pub others : IsTrue tells → (number : ℕ) → ¬ Contains (pages_of places) number → w.page number ≡ v.page number
  pub images : (number : ℕ) → ¬ Contains (pages_of places) number → IsTrue (v.imaged number) → IsTrue (w.imaged number)
