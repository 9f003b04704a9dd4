-- What keeping an image, and a commit, do to what a view reads.
use Rattle.std.specs.Prelude.{◌≡◌, ◌⊎◌, ℕ, Option, List, [], ◌∷◌}
use Rattle.std.specs.Option.{IsSome}
use Rattle.ts_page.specs.declared.page.Page.{Page}
use Rattle.ts_page.specs.Pages.{EqualPages, SameButFreed}
use Rattle.ts_journal.specs.Journal.{Entry, change_of, over}
use Rattle.ts_views.specs.declared.view.View.{View}
use Rattle.ts_views.specs.Pages.{view_pages, keep_image}
use Rattle.ts_views.specs.View.{pages_of, HasImage, KeepsImage, MayKeepImage, OfEachOpen, EachTurns}

-- a view has an old image of each page that the batch names
abbrev pub Covers : List Entry → List Entry → Type 0
Covers old batch = (number : ℕ) → IsSome (change_of number batch) → IsSome (change_of number old)

-- old images with each of these in turn
abbrev pub keep_images : List (ℕ × Page) → List Entry → List Entry
keep_images [] old = old
keep_images (image ∷ images) old = keep_images images (keep_image image.0 image.1 old)

-- each image is the page of its number
abbrev pub AreOf : (ℕ → List ℕ) → List (ℕ × Page) → Type 0
AreOf pages [] = Unit {0}
AreOf pages (image ∷ images) = (image.1.bytes ≡ pages image.0) × AreOf pages images

-- one of the images is of that page
abbrev pub HasNumber : ℕ → List (ℕ × Page) → Type 0
HasNumber number [] = ⊥
HasNumber number (image ∷ images) = (number ≡ image.0) ⊎ HasNumber number images

-- To keep the image of a newest page leaves what a view reads.
abbrev pub KeepLeavesView : Type 0
KeepLeavesView =
    (old own : List Entry) (newest : ℕ → List ℕ) (number : ℕ) (page : Page) → page.bytes ≡ newest number
    → EqualPages (view_pages old own newest) (view_pages (keep_image number page old) own newest)

-- The view then has an image of that page, and still has each that it had.
abbrev pub KeepCovers : Type 0
KeepCovers =
    (old : List Entry) (number : ℕ) (page : Page)
    → IsSome (change_of number (keep_image number page old)) × Covers (keep_image number page old) old

-- A commit puts a batch over the newest pages, and may change bytes behind the heads of freed ones. A view that has an
-- old image of each page of the batch reads what it read, but for such bytes.
abbrev pub CommitLeavesView : Type 0
CommitLeavesView =
    (old own batch : List Entry) (before after : ℕ → List ℕ)
    → Covers old batch → SameButFreed (over batch before) after
    → SameButFreed (view_pages old own before) (view_pages old own after)

-- So where the old image of each page that the batch names was kept, the commit leaves what the view read before all
-- that.
abbrev pub KeptCommitLeavesView : Type 0
KeptCommitLeavesView =
    (old own batch : List Entry) (images : List (ℕ × Page)) (before after : ℕ → List ℕ)
    → AreOf before images → ((number : ℕ) → IsSome (change_of number batch) → HasNumber number images)
    → SameButFreed (over batch before) after
    → SameButFreed (view_pages old own before) (view_pages (keep_images images old) own after)

-- To keep the image of a newest page leaves what each open view reads, also where the memory ran out.
abbrev pub KeepLeavesViews : Type 0
KeepLeavesViews =
    (old new : List (Option View)) (newest : ℕ → List ℕ) (number : ℕ) (page : Page)
    → page.bytes ≡ newest number → EachTurns (MayKeepImage number page) old new
    → EachTurns (λ v w. EqualPages (pages_of v newest) (pages_of w newest)) old new

-- Where it didn't, each open view then has an image of that page. Of what other pages each had one, it has one.
abbrev pub KeepCoversViews : Type 0
KeepCoversViews =
    (old new : List (Option View)) (number : ℕ) (page : Page) → EachTurns (KeepsImage number page) old new
    → OfEachOpen (HasImage number) new
    × ((other : ℕ) → OfEachOpen (HasImage other) old → OfEachOpen (HasImage other) new)

-- A commit of a batch leaves what each open view reads, where each has an old image of each page of the batch.
abbrev pub CommitLeavesViews : Type 0
CommitLeavesViews =
    (views : List (Option View)) (batch : List Entry) (before after : ℕ → List ℕ)
    → ((number : ℕ) → IsSome (change_of number batch) → OfEachOpen (HasImage number) views)
    → SameButFreed (over batch before) after
    → OfEachOpen (λ v. SameButFreed (pages_of v before) (pages_of v after)) views
