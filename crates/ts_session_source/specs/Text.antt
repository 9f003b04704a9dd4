-- The whole text of a source, as it is taken.
use Rattle.std.specs.Prelude.{◌≡◌, ◌⊎◌, ℕ, ◌+◌, ◌≤◌, Bool, false, IsTrue, List, [], length, Result, Err, IfOk}
use Rattle.ts_disk.specs.Device.{Rose, Input}
use Rattle.ts_opening.specs.Opening.{HasEnded, TookTooMuch, TookEnough}
use Rattle.ts_session_source.specs.declared.fault.TextFault.{TextFault}
use Rattle.ts_session_source.specs.declared.fault.TextFault.TheVariants.{Pull, TooLong}

-- the most bytes of a source
abbrev pub most_text : ℕ
most_text = 1048576

-- The text was taken, or not.
pub record TakesText (told : Bool) (result : Result (List ℕ) TextFault) (i j : Input) : Type 0 where
  -- it is all that was left, up to the end, which each source, told or not, has answered
  pub short : IfOk result (λ text. length text ≤ most_text)
  pub whole : IfOk result (λ text. IsTrue told → (i.left ≡ text) × (j.left ≡ []))
  pub ended : IfOk result (λ text. HasEnded j)
  pub pull : result ≡ Err Pull → Rose i.pull_faults j.pull_faults
  pub no_pull_fault : ¬ (result ≡ Err Pull) → j.pull_faults ≡ i.pull_faults
  pub pull_faults : i.pull_faults ≤ j.pull_faults
  -- too long exactly where a pull gave bytes past the limit
  pub too_long : result ≡ Err TooLong → IsTrue told → TookTooMuch most_text i j
  pub enough : IsTrue told → (result ≡ Err TooLong) ⊎ TookEnough most_text i j
  -- as many pulls at most as bytes were taken, and one more
  pub pulls : IsTrue told → j.pulls + length j.left ≤ i.pulls + length i.left + 1
  pub pulls_most : j.pulls ≤ i.pulls + 1048577
  pub once : i.ended ≡ false → j.past_end ≡ i.past_end
