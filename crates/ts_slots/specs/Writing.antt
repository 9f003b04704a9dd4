-- The calls that write a slot or the header, over what a keeper of pages means.
use Rattle.std.specs.Prelude.{◌≡◌, ℕ, ◌≤◌, Bool, IsTrue, Option, Result, OnOk, OnErr, IsErrOf}
use Rattle.ts_base.specs.declared.fault.StoreFault.{StoreFault}
use Rattle.ts_base.specs.declared.fault.StoreFault.TheVariants.{Failed as StoreFailed}
use Rattle.ts_disk.specs.Device.{Rose}
use Rattle.ts_page.specs.Pages.{Contents, EqualPages, StayImaged, with_page}
use Rattle.ts_model.specs.declared.kind.Kind.{Kind}
use Rattle.ts_model.specs.declared.def.Def.{Def}
use Rattle.ts_model.specs.Definitions.{Definitions, with_slot, IsDefinitions}
use Rattle.ts_layout.specs.Slot.{header_bytes, page_of_slot}
use Rattle.ts_layout.specs.Meaning.{HoldsDefinitions}
use Rattle.ts_layout.specs.Changed.{with_slot_bytes}

-- A slot is written: the other bytes of its page stay, and all other pages, so the pages that held some definitions
-- hold them with this slot changed.
pub record SlotWritten (tells : Bool) (kind : Kind) (slot : ℕ) (def : Option Def) (result : Result Unit StoreFault)
    (v w : Contents) : Type 0 where
  pub count : w.count ≡ v.count
  pub faults : v.faults ≤ w.faults
  pub free : w.free ≡ v.free
  pub cause : IsErrOf result StoreFailed → Rose v.faults w.faults
  pub written : OnOk result (IsTrue tells
      → EqualPages
      (with_page (page_of_slot kind slot)
      (with_slot_bytes kind slot def (v.page (page_of_slot kind slot))) v.page) w.page)
  pub definitions : OnOk result (IsTrue tells → (d : Definitions) → IsDefinitions d → HoldsDefinitions v.page d
      → HoldsDefinitions w.page (with_slot kind slot def d))
  pub pages_stay : OnErr result (IsTrue tells → EqualPages v.page w.page)
  -- any answer but the store's failure leaves the count
  pub no_fault : ¬ IsErrOf result StoreFailed → w.faults ≡ v.faults
  -- Slots of one page that are written in one batch need the bytes of one image together. No page loses its image.
  pub again : IsTrue (v.imaged (page_of_slot kind slot)) → w.change_bytes ≤ v.change_bytes
  pub images : StayImaged v w
  pub imaged : OnOk result (IsTrue (w.imaged (page_of_slot kind slot)))

-- The header is written: all other pages stay.
pub record HeaderWritten (tells : Bool) (format element_pages : ℕ) (result : Result Unit StoreFault)
    (v w : Contents) : Type 0 where
  pub count : w.count ≡ v.count
  pub faults : v.faults ≤ w.faults
  pub free : w.free ≡ v.free
  pub cause : IsErrOf result StoreFailed → Rose v.faults w.faults
  pub written : OnOk result (IsTrue tells → EqualPages (with_page 0 (header_bytes format element_pages) v.page) w.page)
  pub pages_stay : OnErr result (IsTrue tells → EqualPages v.page w.page)
  -- any answer but the store's failure leaves the count
  pub no_fault : ¬ IsErrOf result StoreFailed → w.faults ≡ v.faults
