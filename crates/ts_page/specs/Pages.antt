-- The pages of a volume: its layout in numbers, the first bytes of an element page, and what pages hold.
use Rattle.std.specs.Prelude.{ℕ, ◌+◌, ◌<◌, ◌≤◌, ◌^◌, Bool, true, IsTrue, ◌&&◌, nat_le, ◌==◌, if◌then◌else◌, Option}
use Rattle.std.specs.Prelude.{Some, None, List, [], ◌∷◌, All, AllPairs, length, ◌++◌, ◌≡◌, ◌≢◌, ◌⊎◌, take, drop}
use Rattle.std.specs.Prelude.{replicate, slice_index, slice_index_or, Result, OnOk, OnErr, IsErrOf}
use Rattle.std.specs.Int.{from_be_bytes, to_be_bytes, w16, w64}
use Rattle.std.specs.List.{list_all}
use Rattle.ts_disk.specs.Device.{Rose}
use Rattle.ts_base.specs.declared.fault.StoreFault.{StoreFault}
use Rattle.ts_base.specs.declared.fault.StoreFault.TheVariants.{Failed}
use Rattle.ts_page.specs.declared.page.Page.{Page}
use Rattle.ts_page.specs.declared.page.Head.{Head}
use Rattle.ts_page.specs.declared.page.Head.TheVariants.{Free, Regular, Irregular}

-- The numbers of a volume's layout, which clauses and definitions of each layer import.

-- how many bytes a page has
abbrev pub page_size : ℕ
page_size = 4096

-- how many of them are the head of an element page
abbrev pub head_size : ℕ
head_size = 32

-- the last of the journal's pages, which begin at 1
abbrev pub last_region_page : ℕ
last_region_page = 256

-- where the journal's region begins in a volume
abbrev pub region_start : ℕ
region_start = 4096

-- how many bytes it has
abbrev pub region_size : ℕ
region_size = 1048576

-- the pages from this one on hold elements; before it stand as many others
abbrev pub first_element_page : ℕ
first_element_page = 930

-- how many of them a volume has at most
abbrev pub most_element_pages : ℕ
most_element_pages = 65536

-- how many bytes of a journal's record a page needs that is given other bytes: five and its image
abbrev pub image_entry_size : ℕ
image_entry_size = 4101

-- and one that is freed
abbrev pub free_entry_size : ℕ
free_entry_size = 5

-- The head of an element page: its first 32 bytes. A page whose first byte is 0 is free, whatever follows.

-- the bytes of a page of zeros
unfoldable pub zero_page : List ℕ
zero_page = replicate page_size 0

-- each byte is 0
abbrev pub are_zero : List ℕ → Bool
are_zero = list_all (λ byte. byte == 0)

-- so many bytes from this place on
abbrev pub bytes_at : ℕ → ℕ → List ℕ → List ℕ
bytes_at at n page = take n (drop at page)

-- The bytes of a head: its kind, the slot of its series in two bytes, the number of its elements in two, for a
-- regular page the offset of its first cell in eight, and zeros.
abbrev pub head_bytes : Head → List ℕ
head_bytes Free = replicate head_size 0
head_bytes (Regular series count base) =
    1 ∷ to_be_bytes w16 series ++ to_be_bytes w16 count ++ to_be_bytes w64 base ++ replicate 19 0
head_bytes (Irregular series count) =
    2 ∷ to_be_bytes w16 series ++ to_be_bytes w16 count ++ replicate 27 0

-- each number of a head fits its bytes
abbrev pub FitsHead : Head → Type 0
FitsHead Free = Unit {0}
FitsHead (Regular series count base) = (series < 2 ^ 16) × (count < 2 ^ 16) × (base < 2 ^ 64)
FitsHead (Irregular series count) = (series < 2 ^ 16) × (count < 2 ^ 16)

-- the head that a page begins with, if it begins with one
abbrev pub head_of : List ℕ → Option Head
head_of page =
    let kind = slice_index page 0 in
    let series = from_be_bytes w16 (bytes_at 1 2 page) in
    let count = from_be_bytes w16 (bytes_at 3 2 page) in
    if kind == 0 then Some Free
    else (if (kind == 1) && are_zero (bytes_at 13 19 page)
    then Some (Regular series count (from_be_bytes w64 (bytes_at 5 8 page)))
    else (if (kind == 2) && are_zero (bytes_at 5 27 page) then Some (Irregular series count) else None))

-- the page begins with this head as it is written; a free one is told by its first byte alone
abbrev pub HasHead : List ℕ → Head → Type 0
HasHead page Free = slice_index page 0 ≡ 0
HasHead page (Regular series count base) = take head_size page ≡ head_bytes (Regular series count base)
HasHead page (Irregular series count) = take head_size page ≡ head_bytes (Irregular series count)

-- Pages by their numbers, and what each call on a keeper of pages does to them.

-- All that is meant by a keeper of pages between two calls. What is not told is anything.
pub record Contents : Type 0 where
  -- how many pages there are, with those that it doesn't tell
  pub count : ℕ
  -- the bytes of the page of that number
  pub page : ℕ → List ℕ
  -- the element pages that `take` can give, the next one first
  pub free : List ℕ
  -- how many bytes of a journal's record the changes need that aren't committed yet
  pub change_bytes : ℕ
  -- the page of that number has its image among the changes of the open batch, and needs no bytes for another one
  pub imaged : ℕ → Bool
  -- how often the disk failed
  pub faults : ℕ

-- The pages 1 to 256 hold the journal: they are read and written by no one else, and what they hold is no page.
abbrev pub IsOutsideJournal : ℕ → Type 0
IsOutsideJournal number = (number ≡ 0) ⊎ (last_region_page < number)

-- the same as a test: the page is one of the journal's
abbrev pub is_region : ℕ → Bool
is_region number = nat_le 1 number && nat_le number last_region_page

-- the pages from the first element page on hold elements
abbrev pub IsElementPage : ℕ → Type 0
IsElementPage number = first_element_page ≤ number

-- an element page whose first byte is 0 is free, whatever follows
abbrev pub IsFreePage : List ℕ → Type 0
IsFreePage page = slice_index page 0 ≡ 0

-- the same bytes under each number: the wanted ones first
abbrev pub EqualPages : (ℕ → List ℕ) → (ℕ → List ℕ) → Type 0
EqualPages wanted pages = (number : ℕ) → pages number ≡ wanted number

-- the pages with other bytes under that number
abbrev pub with_page : ℕ → List ℕ → (ℕ → List ℕ) → ℕ → List ℕ
with_page changed bytes pages number = if changed == number then bytes else pages number

-- the head of a free page as it is written: 32 zeros
abbrev pub HasFreeHead : List ℕ → Type 0
HasFreeHead page = take head_size page ≡ replicate head_size 0

-- The same pages, but for the bytes behind the heads of free element pages. A free page is free whatever follows, so
-- the two mean the same. This is all that the emptying of a journal may change.
abbrev pub SameButFreed : (ℕ → List ℕ) → (ℕ → List ℕ) → Type 0
SameButFreed wanted pages =
    (number : ℕ) → (pages number ≡ wanted number) ⊎ (IsElementPage number × HasFreeHead (wanted number)
    × HasFreeHead (pages number))

-- what holds of each page that `take` can give
pub record IsListed (tells : Bool) (c : Contents) (number : ℕ) : Type 0 where
  pub element : IsElementPage number
  pub below : number < c.count
  pub free : IsTrue tells → IsFreePage (c.page number)

-- what holds of each keeper of pages
pub record IsLawful (tells : Bool) (c : Contents) : Type 0 where
  pub different : AllPairs (λ a b. a ≢ b) c.free
  pub listed : All (IsListed tells c) c.free

-- each page that has an image in the open batch still has one
abbrev pub StayImaged : Contents → Contents → Type 0
StayImaged v w = (number : ℕ) → IsTrue (v.imaged number) → IsTrue (w.imaged number)

-- what each call does besides
pub record Answered {T : Type 0} (result : Result T StoreFault) (v w : Contents) : Type 0 where
  pub count : w.count ≡ v.count
  pub faults : v.faults ≤ w.faults
  pub cause : IsErrOf result Failed → Rose v.faults w.faults
  -- any other answer leaves the count
  pub no_fault : ¬ IsErrOf result Failed → w.faults ≡ v.faults

-- a page is read
pub record Got (tells : Bool) (number : ℕ) (into : List ℕ) (result : Result Unit StoreFault)
    (v w : Contents) : Type 0 where
  pub call : Answered result v w
  pub read : OnOk result (IsTrue tells → IsOutsideJournal number → into ≡ v.page number)
  pub pages : IsTrue tells → EqualPages v.page w.page
  pub free : w.free ≡ v.free
  pub change_bytes : w.change_bytes ≡ v.change_bytes
  pub images : StayImaged v w

-- a page is given other bytes: five bytes and its image in a record, once for each page of the open batch
pub record Put (tells : Bool) (number : ℕ) (bytes : List ℕ) (result : Result Unit StoreFault)
    (v w : Contents) : Type 0 where
  pub call : Answered result v w
  pub put : OnOk result (IsTrue tells → EqualPages (with_page number bytes v.page) w.page)
  pub free : w.free ≡ v.free
  pub pages_stay : OnErr result (IsTrue tells → EqualPages v.page w.page)
  pub change_bytes : w.change_bytes ≤ v.change_bytes + image_entry_size
  -- the image of before makes room for this one
  pub again : IsTrue (v.imaged number) → w.change_bytes ≤ v.change_bytes
  pub images : StayImaged v w
  pub imaged : OnOk result (IsTrue (w.imaged number))

-- a page is freed, five bytes in a record: it reads as zeros, and is the next that `take` gives
pub record Freed (tells : Bool) (number : ℕ) (result : Result Unit StoreFault) (v w : Contents) : Type 0 where
  pub call : Answered result v w
  pub freed : OnOk result (IsTrue tells → EqualPages (with_page number zero_page v.page) w.page)
  pub listed : OnOk result (w.free ≡ number ∷ v.free)
  pub pages_stay : OnErr result (IsTrue tells → EqualPages v.page w.page)
  pub free_stays : OnErr result (w.free ≡ v.free)
  pub change_bytes : w.change_bytes ≤ v.change_bytes + free_entry_size
  -- its own may go
  pub images : (other : ℕ) → other ≢ number → IsTrue (v.imaged other) → IsTrue (w.imaged other)

-- a page leaves the list
pub record Taken (tells : Bool) (number : ℕ) (v w : Contents) : Type 0 where
  pub count : w.count ≡ v.count
  pub faults : w.faults ≡ v.faults
  pub pages : IsTrue tells → EqualPages v.page w.page
  pub listed : v.free ≡ number ∷ w.free
  pub change_bytes : w.change_bytes ≡ v.change_bytes
  pub images : StayImaged v w

-- the bytes of the page of that number in a list of pages
abbrev pub page_at : List Page → ℕ → List ℕ
page_at pages number = (slice_index_or pages number (record { bytes = [] })).bytes

-- what a list of pages means, of which these can be taken; there is no commit, so no image needs bytes, and no disk to
-- fail
abbrev pub kept : List Page → List ℕ → Contents
kept pages free = record {
  count = length pages;
  page = page_at pages;
  free = free;
  change_bytes = 0;
  imaged =
      λ number. true;
  faults = 0;
}
