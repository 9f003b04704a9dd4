-- The views of the sessions: which are open, and what keeping an image changes of them.
use Rattle.std.specs.Prelude.{◌≡◌, ◌⊎◌, ℕ, Bool, false, List, length, slice_index_or, Option, Some, None, IfSome}
use Rattle.std.specs.Option.{is_none, IsSome}
use Rattle.ts_page.specs.declared.page.Page.{Page}
use Rattle.ts_journal.specs.Journal.{change_of}
use Rattle.ts_views.specs.declared.view.View.{View}
use Rattle.ts_views.specs.Pages.{view_pages, keep_image}

-- the view of a session, if it is open
abbrev pub view_of : ℕ → List (Option View) → Option View
view_of who views = slice_index_or views who None

-- what it reads over the newest pages
abbrev pub pages_of : View → (ℕ → List ℕ) → ℕ → List ℕ
pages_of v = view_pages v.old.entries v.own.entries

-- nothing of a view changes but its old images
pub record SameBesideOld (v w : View) : Type 0 where
  pub defs : w.defs ≡ v.defs
  pub space : w.space ≡ v.space
  pub free : w.free ≡ v.free
  pub own : w.own ≡ v.own
  pub commands : w.commands ≡ v.commands

-- a view keeps this page as it is, where it has no image of that number
pub record KeepsImage (number : ℕ) (page : Page) (v w : View) : Type 0 where
  pub old : w.old.entries ≡ keep_image number page v.old.entries
  pub others : SameBesideOld v w

-- it does so, or stays as it is
pub record MayKeepImage (number : ℕ) (page : Page) (v w : View) : Type 0 where
  pub old : (w.old.entries ≡ v.old.entries) ⊎ (w.old.entries ≡ keep_image number page v.old.entries)
  pub others : SameBesideOld v w

-- an open view becomes one that stands in this relation to it, and a closed one stays closed
abbrev pub Turns : (View → View → Type 0) → Option View → Option View → Type 0
Turns R None None = Unit {0}
Turns R None (Some w) = ⊥
Turns R (Some v) None = ⊥
Turns R (Some v) (Some w) = R v w

-- each of them does, and there are as many
pub record EachTurns (R : View → View → Type 0) (old new : List (Option View)) : Type 0 where
  pub count : length new ≡ length old
  pub each : (who : ℕ) → Turns R (view_of who old) (view_of who new)

-- this holds of each open view
abbrev pub OfEachOpen : (View → Type 0) → List (Option View) → Type 0
OfEachOpen P views = (who : ℕ) → IfSome (view_of who views) P

-- a view has an image of its own of that page
abbrev pub HasImage : ℕ → View → Type 0
HasImage number v = IsSome (change_of number v.old.entries)

-- an open view has none
abbrev pub lacks_image : ℕ → Option View → Bool
lacks_image number None = false
lacks_image number (Some v) = is_none (change_of number v.old.entries)
