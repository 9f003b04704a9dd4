-- What calls leave of the pages that change none of them.
use Rattle.std.specs.Prelude.{◌≡◌, ◌⊎◌, ℕ, Bool, IsTrue, Result, ◌∷◌}
use Rattle.ts_base.specs.declared.fault.StoreFault.{StoreFault}
use Rattle.ts_page.specs.Pages.{Contents, Answered, EqualPages, StayImaged}

-- pages are read
pub record Reads {T : Type 0} (tells : Bool) (result : Result T StoreFault) (v w : Contents) : Type 0 where
  pub call : Answered result v w
  pub pages : IsTrue tells → EqualPages v.page w.page
  pub free : w.free ≡ v.free
  pub change_bytes : w.change_bytes ≡ v.change_bytes
  pub images : StayImaged v w

-- all pages stay, and the free ones of them
pub record Stays (tells : Bool) (v w : Contents) : Type 0 where
  pub free : w.free ≡ v.free
  pub pages : IsTrue tells → EqualPages v.page w.page

-- an edit that fails leaves the pages; one may be taken
pub record AreLeft (tells : Bool) (v w : Contents) : Type 0 where
  pub pages : IsTrue tells → EqualPages v.page w.page
  pub free : (w.free ≡ v.free) ⊎ ((number : ℕ) × (v.free ≡ number ∷ w.free))
