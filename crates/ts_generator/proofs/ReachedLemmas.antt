-- How far the generated commands were carried out, by the number of the next and the number drawn last.
use Rattle.std.proofs.Common.{◌≡◌, ◌⊎◌, ℕ, ◌+◌, ◌^◌, ◌≤◌, ◌<◌, Bool, List, [], length, take, Ok, Err, sym, ◌∙◌, ap, subst, arith, length-take, take_all}
use Rattle.ts_disk.specs.Device.{Device}
use Rattle.ts_command.specs.declared.command.Command.{Command}
use Rattle.ts_opening.specs.Engine.{StepFault}
use Rattle.ts_opening.specs.Engine.{Kept, IsReady}
use Rattle.ts_generator.specs.declared.generator.Generator.{Generator}
use Rattle.ts_multi.specs.Picks.{drawn}
use Rattle.ts_generator.specs.Generated.{generated, edits_before}
use Rattle.ts_generator.specs.Generating.{RanQuietly, IsBehind, IsNextStep, IsUnmade}
use Rattle.ts_generator.proofs.GeneratedLemmas.{length-generated}
use Rattle.ts_generator.proofs.GeneratingLemmas.{behind_more, behind_stopped}

-- the first commands were carried out, and the last number drawn is that of these
pub HasReached : (tells : Bool) (count seed number random : ℕ) (e : Kept) (v : Device) (hand : Generator) (w : Device) → Type 0
HasReached tells count seed number random e v hand w =
    (number ≤ count + 8) × (random ≡ drawn seed (edits_before count number)) × IsBehind tells (take number (generated count seed)) e v hand w

none_before : (count : ℕ) → edits_before count 0 ≡ 0
none_before count = omega arith

module _ (tells : Bool) (count seed : ℕ) (e : Kept) (v : Device) where
  -- no command was carried out yet
  pub reached_first : (random : ℕ) (hand : Generator) (w : Device) → random ≡ drawn seed 0 → IsBehind tells [] e v hand w
      → HasReached tells count seed 0 random e v hand w
  unfolding HasReached
  reached_first random hand w first behind = (omega arith, first ∙ ap (drawn seed) (sym (none_before count)), behind)

  module _ (number random : ℕ) (hand : Generator) (x : Device) (reached : HasReached tells count seed number random e v hand x) where
    pub reached_ready : IsReady tells hand.engine x
    unfolding HasReached
    reached_ready = reached.2.ran.ready

    -- so many replies were counted as commands were carried out
    pub reached_few : count ≤ 1000000 → hand.answered + hand.refused < 2 ^ 31
    unfolding HasReached
    reached_few most =
        let within : number ≤ count + 8 = reached.0 in
        let total : hand.answered + hand.refused ≡ length (take number (generated count seed)) = reached.2.total in
        omega (arith, within, total, most, length-take number (generated count seed))

    -- the number drawn next is that of one command more
    pub reached_random : (next : ℕ) → ((s : ℕ) → random ≡ drawn s (edits_before count number) → next ≡ drawn s (edits_before count (number + 1)))
        → next ≡ drawn seed (edits_before count (number + 1))
    unfolding HasReached
    reached_random next draws = draws seed reached.1

    -- the next command was carried out
    pub reached_more : (next : ℕ) (more : Generator) (w : Device) → number < count + 8 → next ≡ drawn seed (edits_before count (number + 1))
        → IsNextStep tells (generated count seed) number (Ok (tt {0})) hand more x w → HasReached tells count seed (number + 1) next e v more w
    unfolding HasReached
    reached_more next more w less is step =
        (omega (arith, less), is, behind_more tells (generated count seed) number e v x w hand more reached.2 step)

    -- it wasn't, or not whole
    pub reached_stopped : (more : Generator) (w : Device) (fault : StepFault)
        → IsUnmade tells fault x w ⊎ IsNextStep tells (generated count seed) number (Err fault) hand more x w
        → RanQuietly tells (generated count seed) (Err fault) e more.engine v w
    unfolding HasReached
    reached_stopped more w fault which = behind_stopped tells (generated count seed) number e v x w hand more reached.2 fault which

    -- all were carried out
    pub reached_all : count + 8 ≤ number → IsBehind tells (generated count seed) e v hand x
    unfolding HasReached
    reached_all most =
        subst (λ (l : List Command). IsBehind tells l e v hand x)
        (take_all number (generated count seed) (omega (arith, most, length-generated count seed))) reached.2
