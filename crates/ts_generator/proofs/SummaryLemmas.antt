-- What ends the carrying out of the generated commands, and what is said of them.
use Rattle.std.proofs.Common.{◌≡◌, inl, inr, ℕ, ◌≤◌, Bool, IsTrue, List, ◌++◌, length, codes, Ok, Err, refl, arith}
use Rattle.std.specs.Fmt.{decimal}
use Rattle.ts_disk.specs.Device.{Device, Says}
use Rattle.ts_answer.specs.Answer.{State, replies}
use Rattle.ts_answer.proofs.CallerLemmas.{length-replies}
use Rattle.ts_opening.specs.Faults as faults
use Rattle.ts_opening.specs.Engine.{Kept, IsAt}
use Rattle.ts_generator.specs.declared.generator.Generator.{Generator}
use Rattle.ts_generator.specs.Generated.{generated}
use Rattle.ts_generator.specs.Generating.{summary, RanQuietly, IsBehind, OpenedGen}
use Rattle.ts_generator.proofs.GeneratedLemmas.{length-generated}
use Rattle.ts_generator.proofs.GeneratingLemmas.{summed_up, ended_unsaid, said_all, said_part}

-- there are two replies at least
two_replies : (state : State) (count seed : ℕ) → 2 ≤ length (replies state (generated count seed))
two_replies state count seed = omega (arith, length-replies state (generated count seed), length-generated count seed)

module _ (tells : Bool) (count seed : ℕ) (e : Kept) (v x : Device) where
  -- a command was not carried out, for want of memory or since the disk failed
  pub stopped_memory : (error : _) (f : Kept) → RanQuietly tells (generated count seed) (Err (faults.Memory error)) e f v x
      → OpenedGen tells (generated count seed) e 7 v x
  stopped_memory error f ran =
      ended_unsaid tells (generated count seed) e f v x 7 (Err (faults.Memory error)) ran (inr refl)
      (λ five. absurd (omega (arith, five))) (λ seven. ran.fault)

  pub stopped_disk : (f : Kept) → RanQuietly tells (generated count seed) (Err faults.Disk) e f v x → OpenedGen tells (generated count seed) e 5 v x
  stopped_disk f ran =
      ended_unsaid tells (generated count seed) e f v x 5 (Err faults.Disk) ran (inl refl)
      (λ five. ran.fault) (λ seven. absurd (omega (arith, seven)))

  module _ (hand : Generator) (behind : IsBehind tells (generated count seed) e v hand x) where
    -- there is no memory for what is to be said
    pub unsaid_memory : OpenedGen tells (generated count seed) e 7 v x
    unsaid_memory =
        ended_unsaid tells (generated count seed) e hand.engine v x 7 (Ok (tt {0})) behind.ran (inr refl)
        (λ five. absurd (omega (arith, five))) (λ seven. behind.ran.no_fault)

    module _ (text : List ℕ)
        (is : text ≡ hand.before ++ hand.reply ++ codes "done " ++ decimal hand.answered ++ codes " " ++ decimal hand.refused ++ codes "\n")
        (w : Device) where
      is_summary : IsTrue tells → (state : State) → IsAt tells e state v → text ≡ summary (replies state (generated count seed))
      is_summary told state at =
          summed_up (replies state (generated count seed)) hand.before hand.reply text hand.answered hand.refused
          (two_replies state count seed) (behind.tally told state at) is

      -- the summary was said, whole or in part
      pub said_whole : {E : Type 0} → Says {E = E} tells text (Ok (tt {0})) x w → OpenedGen tells (generated count seed) e 0 v w
      said_whole says = said_all tells (generated count seed) e hand.engine v x behind.ran text is_summary w says

      pub said_not_whole : {E : Type 0} (error : E) → Says tells text (Err error) x w → OpenedGen tells (generated count seed) e 4 v w
      said_not_whole error says = said_part tells (generated count seed) e hand.engine v x behind.ran text is_summary w error says
