-- What is left of a view by others, and what one is that was opened.
use Rattle.std.specs.Prelude.{◌≡◌, ℕ, Bool, IsTrue, List, [], reverse}
use Rattle.std.specs.Option.{IsSome}
use Rattle.ts_page.specs.declared.page.Page.{Page}
use Rattle.ts_page.specs.Pages.{Contents, SameButFreed}
use Rattle.ts_journal.specs.Journal.{Entry, change_of, over}
use Rattle.ts_model.specs.Catalogue.{Catalogue}
use Rattle.ts_layout.specs.Meaning.{Means}
use Rattle.ts_views.specs.declared.view.View.{View}
use Rattle.ts_views.specs.View.{HasImage, MayKeepImage}
use Rattle.ts_answer.specs.View.{view, IsSeen}
use Rattle.ts_view_catalogues.specs.Catalogues.{IsViewReady, ViewMeans}

-- commands can be carried out on a view as before, and it means each catalogue that it meant
pub record CatalogueStays (tells : Bool) (v w : View) (before after : Contents) : Type 0 where
  pub ready : IsViewReady tells v before → IsViewReady tells w after
  pub means : IsTrue tells → (cat : Catalogue) → ViewMeans v before cat → ViewMeans w after cat

-- A commit of a batch leaves the catalogue of a view that has an old image of each page of the batch.
abbrev pub CommitsLeaveCatalogues : Type 0
CommitsLeaveCatalogues =
    (tells : Bool) (v : View) (batch : List Entry) (before after : Contents) → after.count ≡ before.count
    → ((number : ℕ) → IsSome (change_of number batch) → HasImage number v)
    → (IsTrue tells → SameButFreed (over batch before.page) after.page)
    → CatalogueStays tells v v before after

-- To keep the image of a newest page, or to fail at it for want of memory, leaves it too.
abbrev pub KeptImagesLeaveCatalogues : Type 0
KeptImagesLeaveCatalogues =
    (tells : Bool) (v w : View) (newest : Contents) (number : ℕ) (page : Page)
    → (IsTrue tells → page.bytes ≡ newest.page number)
    → MayKeepImage number page v w → CatalogueStays tells v w newest newest

-- A view without images is the newest catalogue, where it has its definitions, its directory and its free pages.
pub record OpenedViewsAreNewest : Type 0 where
  pub ready : (tells : Bool) (v : View) (newest : Contents) → v.old.entries ≡ [] → v.own.entries ≡ []
      → reverse v.free.items ≡ newest.free
      → IsSeen tells (view v.defs.definitions v.space newest) → IsViewReady tells v newest
  pub means : (v : View) (newest : Contents) (cat : Catalogue) → v.old.entries ≡ [] → v.own.entries ≡ []
      → Means newest.count newest.page cat → ViewMeans v newest cat
