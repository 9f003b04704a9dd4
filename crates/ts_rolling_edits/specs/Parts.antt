-- Edits that are carried out one behind the other in one batch, on copies of what is in memory.
use Rattle.std.specs.Prelude.{◌≡◌, ℕ, zero, suc, ◌+◌, ◌*◌, ◌≤◌, if◌then◌else◌, Bool, IsTrue, Result, OnOk, IfErr, List}
use Rattle.std.specs.Prelude.{length}
use Rattle.ts_disk.specs.Device.{Rose}
use Rattle.ts_base.specs.declared.refusal.Refusal.{Refusal}
use Rattle.ts_page.specs.Pages.{image_entry_size, free_entry_size, Contents}
use Rattle.ts_model.specs.Catalogue.{Catalogue, without}
use Rattle.ts_model.specs.declared.kind.Kind.TheVariants as kinds
use Rattle.ts_layout.specs.Slot.{first_series_page}
use Rattle.ts_layout.specs.Meaning.{Layout, catalogue_of}
use Rattle.ts_container.specs.KeptCharges.{AreCharges}
use Rattle.ts_answer.specs.declared.stop.Stop.{Stop}
use Rattle.ts_answer.specs.declared.stop.Stop.TheVariants.{Refused, Failed, Memory}
use Rattle.ts_answer.specs.declared.effect.Effect.{Effect}
use Rattle.ts_answer.specs.declared.effect.Effect.TheVariants.{Whole}
use Rattle.ts_answer.specs.CarriedOut.{Grows}
use Rattle.ts_answer.specs.View.{View, view, Shows, KeepsRules}
use Rattle.ts_rolling_edits.specs.declared.copies.Copies.{Copies}

-- what is seen on copies, with these pages
abbrev pub seen_on : Copies → Contents → View
seen_on copies c = view copies.defs.definitions copies.space c

-- Edits were carried out, all of them: what is in memory keeps its rules, and where the pages are told, from each
-- layout that was seen one comes that is seen then, whose catalogue is what becomes of the first one's.
pub record Came (tells : Bool) (Becomes : Catalogue → Catalogue → Type 0) (x y : View) : Type 0 where
  pub keeps : KeepsRules x → KeepsRules y
  pub done : IsTrue tells → (l : Layout) → Shows tells x l
      → (m : Layout) × Shows tells y m × Becomes (catalogue_of l) (catalogue_of m)
  pub count : y.pages.count ≡ x.pages.count
  pub no_fault : y.pages.faults ≡ x.pages.faults

-- an edit wasn't carried out; where it is refused, this says why
abbrev pub IsPartStopped : Bool → (Refusal → Catalogue → Type 0) → Stop → View → Contents → Type 0
IsPartStopped tells Says (Refused refusal) x c =
    (c.faults ≡ x.pages.faults) × (IsTrue tells → (l : Layout) → Shows tells x l → Says refusal (catalogue_of l))
IsPartStopped tells Says Failed x c = Rose x.pages.faults c.faults
IsPartStopped tells Says (Memory error) x c = c.faults ≡ x.pages.faults

-- it is never refused
abbrev pub Never : Refusal → Catalogue → Type 0
Never refusal cat = ⊥

-- a series went, if it was there
abbrev pub IsWithout : List ℕ → Catalogue → Catalogue → Type 0
IsWithout key cat after = after ≡ without kinds.Series key cat

-- Edits on copies were carried out, or not.
pub record IsPart (tells : Bool) (Becomes : Catalogue → Catalogue → Type 0) (Says : Refusal → Catalogue → Type 0)
    (result : Result Unit Stop) (charges : List ℕ) (x y : View) : Type 0 where
  pub came : OnOk result (Came tells Becomes x y)
  pub charged : OnOk result (AreCharges charges y.definitions y.space)
  pub stopped : IfErr result (λ stop. IsPartStopped tells Says stop x y.pages)
  pub count : y.pages.count ≡ x.pages.count

-- how many pages hold the slots of series
abbrev pub series_pages : ℕ
series_pages = 96

-- how many of the first of them have no image in the open batch
unfoldable pub unimaged : ℕ → Contents → ℕ
unimaged zero c = 0
unimaged (suc n) c = (if c.imaged (first_series_page + n) then 0 else 1) + unimaged n c

-- Drops add an image for each of these pages that had none, whatever their number; the pages of elements that they free
-- need no more bytes than they gave.
abbrev pub GrowsByPages : Contents → Contents → Type 0
GrowsByPages v w = w.change_bytes + free_entry_size * length v.free + image_entry_size * unimaged series_pages w
    ≤ v.change_bytes + free_entry_size * length w.free + image_entry_size * unimaged series_pages v

-- by this effect what is in memory becomes what the copies are
abbrev pub IsWholeOf : Copies → Effect → Type 0
IsWholeOf copies (Whole tables space) = (tables.value ≡ copies.defs) × (space ≡ copies.space)
IsWholeOf copies effect = ⊥

-- all of them were, and so it becomes
pub record IsWholeDone (tells : Bool) (Becomes : Catalogue → Catalogue → Type 0) (effect : Effect) (x : View)
    (c : Contents) : Type 0 where
  pub copies : Copies
  pub whole : IsWholeOf copies effect
  pub came : Came tells Becomes x (seen_on copies c)
  pub grows : Grows 26 x.pages c
