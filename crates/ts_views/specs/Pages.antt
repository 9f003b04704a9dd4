-- What a view reads: its own changes, else the old images that it keeps, else the newest pages.
use Rattle.std.specs.Prelude.{ℕ, true, Option, List, if◌then◌else◌}
use Rattle.std.specs.Option.{is_some}
use Rattle.ts_page.specs.declared.page.Page.{Page}
use Rattle.ts_page.specs.Pages.{Contents}
use Rattle.ts_journal.specs.declared.batch.Change.{Change}
use Rattle.ts_journal.specs.declared.batch.Change.TheVariants.{Image}
use Rattle.ts_journal.specs.Journal.{Entry, change_of, change_or, over, put}

-- the change that a view shows of a page: of the command in hand, else of its own, else an old image
abbrev pub change_shown : ℕ → List Entry → List Entry → List Entry → Option Change
change_shown number old own changes =
    change_or (change_of number changes) (change_or (change_of number own) (change_of number old))

-- what a view reads over the newest pages
abbrev pub view_pages : List Entry → List Entry → (ℕ → List ℕ) → ℕ → List ℕ
view_pages old own newest = over own (over old newest)

-- The same as a keeper of pages, with the changes of the command in hand over them. Of the newest pages come their
-- count and the failures of their disk. A view is never committed as it stands, so no change counts for a record, and
-- no image needs bytes.
abbrev pub view_contents : List Entry → List Entry → List Entry → List ℕ → Contents → Contents
view_contents old own changes free newest = record {
  count = newest.count;
  page = over changes (view_pages old own newest.page);
  free = free;
  change_bytes = 0;
  imaged = λ number. true;
  faults = newest.faults;
}

-- old images with this one more: one that is there stays
abbrev pub keep_image : ℕ → Page → List Entry → List Entry
keep_image number page old = if is_some (change_of number old) then old else put number (Image page) old
