-- An engine with views beside it, and what a call leaves of the views.
use Rattle.std.specs.Prelude.{◌≡◌, ◌≢◌, ◌⊎◌, ℕ, Bool, IsTrue, None, Option, Result, Ok, Err, List, length}
use Rattle.std.specs.Option.{IsSome}
use Rattle.ts_disk.specs.Device.{Device}
use Rattle.ts_page.specs.Pages.{Contents, EqualPages}
use Rattle.ts_journal.specs.Journal.{change_of}
use Rattle.ts_store.specs.OpenBatch.{State as Store, contents_over}
use Rattle.ts_store.specs.OpenBatch.{rolled_back as store_rolled_back}
use Rattle.ts_views.specs.declared.view.View.{View}
use Rattle.ts_views.specs.View.{pages_of, view_of, HasImage, OfEachOpen, SameBesideOld, Turns, EachTurns}
use Rattle.ts_view_catalogues.specs.Catalogues.{IsViewReady}
use Rattle.ts_view_catalogues.specs.Laws.{CatalogueStays}
use Rattle.ts_engine.specs.declared.fault.StepFault.{StepFault}
use Rattle.ts_engine.specs.declared.fault.StepFault.TheVariants.{Disk, Memory, Closed}
use Rattle.ts_engine.specs.Engine.{Kept, IsReady}

-- The pages that views stand over: those of the volume as they were committed last, without the transaction and the
-- open batch of the engine.
abbrev pub newest : Kept → Device → Contents
newest e d = contents_over (store_rolled_back e.store) d

-- commands can be carried out on every open view
abbrev pub AreViewsReady : Bool → Kept → Device → List (Option View) → Type 0
AreViewsReady tells e d views = OfEachOpen (λ v. IsViewReady tells v (newest e d)) views

-- an engine without a transaction, and views over what its volume has
pub record AreBeside (tells : Bool) (e : Kept) (list : List (Option View)) (d : Device) : Type 0 where
  pub ready : IsReady tells e d
  pub rests : e.saved ≡ None
  pub views : AreViewsReady tells e d list

-- a view keeps all that it kept but for old images, commands can be carried out on it as before, and it means each
-- catalogue that it meant
pub record Stays (tells : Bool) (before after : Contents) (v w : View) : Type 0 where
  pub same : SameBesideOld v w
  pub catalogue : CatalogueStays tells v w before after

-- each view does
abbrev pub AllStay : Bool → Contents → Contents → List (Option View) → List (Option View) → Type 0
AllStay tells before after old new = EachTurns (Stays tells before after) old new

-- each but that of one session does
pub record OthersStay (tells : Bool) (who : ℕ) (before after : Contents) (old new : List (Option View)) : Type 0 where
  pub count : length new ≡ length old
  pub each : (other : ℕ) → other ≢ who → Turns (Stays tells before after) (view_of other old) (view_of other new)

-- this holds where the disk didn't fail, so that the engine goes on
abbrev pub GoesOn : {T : Type 0} → Result T StepFault → Type 0 → Type 0
GoesOn (Ok done) P = P
GoesOn (Err Disk) P = Unit {0}
GoesOn (Err (Memory error)) P = P
GoesOn (Err (Closed faults)) P = Unit {0}

-- a view has perhaps more old images of the pages that were committed, which leave what it reads
pub record HasMore (tells : Bool) (committed : ℕ → List ℕ) (v w : View) : Type 0 where
  pub same : SameBesideOld v w
  pub reads : IsTrue tells → EqualPages (pages_of v committed) (pages_of w committed)

-- each view has
abbrev pub AllHaveMore : Bool → (ℕ → List ℕ) → List (Option View) → List (Option View) → Type 0
AllHaveMore tells committed old new = EachTurns (HasMore tells committed) old new

-- each open view has an old image of each page that the transaction or the open batch of a store changes
abbrev pub AreCovered : Store → List (Option View) → Type 0
AreCovered s views =
    (number : ℕ) → IsSome (change_of number s.transaction) ⊎ IsSome (change_of number s.batch)
    → OfEachOpen (HasImage number) views

-- of what other pages each open view had an old image it still has one
abbrev pub AreStillCovered : List (Option View) → List (Option View) → Type 0
AreStillCovered old new = (number : ℕ) → OfEachOpen (HasImage number) old → OfEachOpen (HasImage number) new

-- as many pages, and the same ones
pub record SamePages (before after : Contents) : Type 0 where
  pub count : after.count ≡ before.count
  pub pages : EqualPages before.page after.page
