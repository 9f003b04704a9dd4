-- What a call said on a device, and what it left there.
use Rattle.std.specs.Prelude.{◌≡◌, ℕ, List, ◌++◌}
use Rattle.ts_disk.specs.Device.{Device, Only}
use Rattle.ts_replies.specs.Acknowledged.{Protocol, IsFair, AllAnswered}

-- what was said is replies to the items in their order, the last of them perhaps in part
abbrev pub SaysFairly : {C I : Type 0} → Protocol C I → C → List I → Device → Device → Type 0
SaysFairly p cat asked v w = (gained : List ℕ) × (w.said ≡ v.said ++ gained) × IsFair p cat asked gained

-- every item has its whole reply, and the volume, with nothing pending, means what is committed after them
pub record AllDone {C I : Type 0} (p : Protocol C I) (cat : C) (asked : List I) (v w : Device) : Type 0 where
  pub gained : List ℕ
  pub last : C
  pub said : w.said ≡ v.said ++ gained
  pub answered : AllAnswered p cat asked gained last
  pub means : p.means w.held last
  pub only : Only w.held w.images
