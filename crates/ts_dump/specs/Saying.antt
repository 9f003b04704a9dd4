-- What is said while a volume is read, and what stays.
use Rattle.std.specs.Prelude.{◌≡◌, ℕ, ◌≤◌, Result, OnOk, OnErr, IsErrOf, List, ◌++◌}
use Rattle.ts_disk.specs.Device.{Device, Within, Rose, Saying}
use Rattle.ts_dump.specs.declared.ended.Fault.{Fault}
use Rattle.ts_dump.specs.declared.ended.Fault.TheVariants.{Output, Volume}

-- What stays while a volume is read and texts are said: the bytes held, the length, and what a stop may leave; no count
-- of faults falls.
pub record Stays (v w : Device) : Type 0 where
  pub held : w.held ≡ v.held
  pub size : w.size ≡ v.size
  pub no_more : Within v.images w.images
  pub no_fewer : Within w.images v.images
  pub faults : v.faults ≤ w.faults
  pub say_faults : v.say_faults ≤ w.say_faults

-- Why texts are said, or not: the output failed, or the volume, exactly where its count rose.
pub record Caused (result : Result Unit Fault) (v w : Device) : Type 0 where
  pub stays : Stays v w
  pub output : IsErrOf result Output → Rose v.say_faults w.say_faults
  pub volume : IsErrOf result Volume → Rose v.faults w.faults
  pub no_say_fault : ¬ IsErrOf result Output → w.say_faults ≡ v.say_faults
  pub no_fault : ¬ IsErrOf result Volume → w.faults ≡ v.faults

-- a text was said, or after an error a front of it
pub record SaysText (text : List ℕ) (result : Result Unit Fault) (v w : Device) : Type 0 where
  pub whole : OnOk result (w.said ≡ v.said ++ text)
  pub part : OnErr result (Saying v.said text w.said)
