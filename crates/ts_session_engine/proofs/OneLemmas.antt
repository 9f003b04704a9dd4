-- One command of a view in a transaction of the engine, by what was carried out in its batch.
use Rattle.std.specs.declared.alloc.AllocError.{AllocError}
use Rattle.std.proofs.Common.{◌≡◌, ℕ, ◌<◌, Bool, true, false, Some, None, IfSome, Result, Ok, Err, IsErrAnd, List, [], ◌∷◌, ap, sym, ◌∙◌, subst}
use Rattle.ts_base.specs.declared.refusal.Refusal.{Refusal}
use Rattle.ts_command.specs.declared.command.Command.{Command}
use Rattle.ts_command.specs.Boundary.{boundary_of, is_between, is_writing}
use Rattle.ts_disk.specs.Device.{Device, Lawful}
use Rattle.ts_page.specs.Pages.{Contents}
use Rattle.ts_store.specs.OpenBatch.{State as Store, IsOver, contents_over}
use Rattle.ts_store.specs.Undisturbed.{Undisturbed}
use Rattle.ts_answer.specs.declared.effect.Effect.{Effect}
use Rattle.ts_answer.specs.declared.stop.Stop.TheVariants as stops
use Rattle.ts_answer.specs.CarriedOut.{CarriedOut, IsStopped, is_nothing}
use Rattle.ts_answer.specs.Reply.{refusal_line}
use Rattle.ts_answer.specs.View.{View as Seen, view}
use Rattle.ts_engine.specs.declared.fault.StepFault.{StepFault}
use Rattle.ts_engine.specs.declared.fault.StepFault.TheVariants.{Disk, Memory, Closed}
use Rattle.ts_engine.specs.declared.transaction.Saved.{Saved}
use Rattle.ts_engine.specs.Ended.{Joins, with_dropped}
use Rattle.ts_hidden.specs.Marks.{Include, IsNoted}
use Rattle.ts_engine.specs.Engine.{Kept, IsReady}
use Rattle.ts_engine.specs.Transaction.{misplaced_in, counted_in}
use Rattle.ts_engine.proofs.CallerLemmas.{accepted_by, failed_step, joined_step, memory_step, refused_step, unchanged_step, unjoined_step}
use Rattle.ts_session_engine.specs.Replayed.{IsOpenWith, Replays}
use Rattle.ts_session_engine.proofs.ReplayLemmas.{accepted_one, failed_one, open_some, placed_open, refused_one, wanting_one}

module _ (tells : Bool) (command : Command) (e g : Kept) (v x : Device) (lawful : Lawful tells v) (ready : IsReady tells e v) (room : IfSome e.saved (λ (s : Saved). s.accepted < 32)) (calls : Undisturbed tells e.store g.store v x)
    (between : boundary_of command ≡ None) (writes : is_writing command ≡ true) (lists : g.space.lists ≡ e.space.lists) (others : g ≡ record e { store = g.store; space = g.space; hidden = g.hidden }) (includes : Include g.hidden e.hidden) (n : ℕ) (open_n : IsOpenWith n e) where
  abbrev seen : Seen
  seen = view e.tables.definitions e.space (contents_over e.store v)

  abbrev left : Contents
  left = contents_over g.store x

  plain : is_between (boundary_of command) ≡ true
  plain = ap is_between between

  placed : misplaced_in (boundary_of command) (is_writing command) (accepted_by e.saved) ≡ None
  placed = (λ i. misplaced_in (between i) (is_writing command) (accepted_by e.saved)) ∙ placed_open command e.saved room

  definitions : g.tables.definitions ≡ e.tables.definitions
  definitions = ap (λ (k : Kept). k.tables.definitions) others

  charges : g.charges ≡ e.charges
  charges = ap (λ (k : Kept). k.charges) others

  saved : g.saved ≡ e.saved
  saved = ap (λ (k : Kept). k.saved) others

  spent : g.spent ≡ e.spent
  spent = ap (λ (k : Kept). k.spent) others

  one : e.saved ≡ None → ⊥
  one = open_some e.saved n open_n

  -- the batch is dropped
  module _ (f : Kept) (drop : f ≡ with_dropped g) (no_fault : x.faults ≡ v.faults) where
    pages : f.store.pages ≡ e.store.pages
    pages = ap (λ (k : Kept). k.store.pages) drop ∙ calls.pages

    overlay : f.store.overlay ≡ e.store.overlay
    overlay = ap (λ (k : Kept). k.store.overlay) drop ∙ calls.overlay

    kept : f.saved ≡ e.saved
    kept = ap (λ (k : Kept). k.saved) drop ∙ saved

    pub refused_of : (refusal : Refusal) → IsStopped tells command (stops.Refused refusal) seen left → Replays tells n (command ∷ []) (Ok false) (refusal_line refusal) e f v x
    refused_of refusal stopped =
        refused_one tells command n e f v x open_n pages overlay calls.reads ready plain placed refusal (λ told. stopped.3 told (ready.seen.layout told).0 (ready.seen.layout told).1) no_fault kept
        (refused_step tells command e g v x lawful ready calls plain placed definitions lists charges saved spent includes f drop no_fault refusal stopped)

    pub wanting_of : (error : AllocError) (out : List ℕ) → Replays tells n (command ∷ []) (Err (Memory error)) out e f v x
    wanting_of error out =
        wanting_one tells command n e f v x open_n pages overlay calls.reads error no_fault kept
        (memory_step tells command e g v x lawful ready calls plain placed definitions lists charges saved spent includes f drop no_fault error) out

    pub nothing_of : (effect : Effect) (out : List ℕ) → is_nothing effect ≡ true → CarriedOut tells command (Ok effect) out seen left → (h : Kept) → h ≡ record f { saved = counted_in command f.saved } → Replays tells n (command ∷ []) (Ok true) out e h v x
    nothing_of effect out is carried h counts =
        accepted_one tells command n e h v x open_n (ap (λ (k : Kept). k.store.pages) counts ∙ pages) (ap (λ (k : Kept). k.store.overlay) counts ∙ overlay) calls.reads ready plain placed writes effect out left carried no_fault
        (ap (λ (k : Kept). k.saved) counts ∙ ap (counted_in command) kept)
        (unchanged_step tells command e g v x lawful ready calls plain placed definitions lists charges saved spent includes f drop no_fault h counts effect out is carried)

  -- the disk failed
  pub failed_of : (f : Kept) → f ≡ record g { spent = Some x.faults } → IsStopped tells command stops.Failed seen left → (out : List ℕ) → Replays tells n (command ∷ []) (Err Disk) out e f v x
  failed_of f spends rose out =
      failed_one tells command n e f v x open_n (ap (λ (k : Kept). k.store.pages) spends ∙ calls.pages) (ap (λ (k : Kept). k.store.overlay) spends ∙ calls.overlay) calls.reads
      (failed_step tells command e g v x lawful ready calls plain placed definitions lists charges saved spent includes f rose (ap (λ (k : Kept). k.spent) spends)) out

  -- the batch is joined to the transaction's, or there is no memory for that
  module _ (effect : Effect) (out : List ℕ) (carried : CarriedOut tells command (Ok effect) out seen left) (noted : IsNoted command e.tables.definitions g.hidden) where
    pub joined_of : IsOver tells g.store x → is_nothing effect ≡ false → (h : Kept) → Joins effect (Ok tt) g h → (f : Kept) → f ≡ record h { saved = counted_in command h.saved } → Replays tells n (command ∷ []) (Ok true) out e f v x
    joined_of over some h joins f counts =
        accepted_one tells command n e f v x open_n (ap (λ (k : Kept). k.store.pages) counts ∙ ap (λ (s : Store). s.pages) joins.joined.store ∙ calls.pages) (ap (λ (k : Kept). k.store.overlay) counts ∙ ap (λ (s : Store). s.overlay) joins.joined.store ∙ calls.overlay) calls.reads
        ready plain placed writes effect out left carried carried.no_fault (ap (λ (k : Kept). k.saved) counts ∙ ap (counted_in command) (joins.saved ∙ saved))
        (joined_step tells command e g v x lawful ready calls plain placed definitions lists charges saved spent includes effect out carried noted over some one h joins f counts)

    pub unjoined_of : (fault : StepFault) (f : Kept) → Joins effect (Err fault) g f → (r : Result Bool StepFault) (said : List ℕ) → IsErrAnd r (λ k. k ≡ fault) → Replays tells n (command ∷ []) r said e f v x
    unjoined_of fault f joins (Ok done) said is = absurd is
    unjoined_of fault f joins (Err k) said is = subst (λ (z : StepFault). Replays tells n (command ∷ []) (Err z) said e f v x) (sym is) (by fault joins)
      where
        by : (fault : StepFault) → Joins effect (Err fault) g f → Replays tells n (command ∷ []) (Err fault) said e f v x
        by Disk joins = let is = joins.fault.1 in absurd (cc)
        by (Closed faults) joins = let is = joins.fault.1 in absurd (cc)
        by (Memory error) joins =
            wanting_one tells command n e f v x open_n (ap (λ (s : Store). s.pages) joins.dropped ∙ calls.pages) (ap (λ (s : Store). s.overlay) joins.dropped ∙ calls.overlay) calls.reads error carried.no_fault (joins.saved ∙ saved)
            (unjoined_step tells command e g v x lawful ready calls plain placed definitions lists charges saved spent includes effect out carried noted (Memory error) f joins) said

-- want of memory is passed on
pub wanting_by : (tells : Bool) (command : Command) (n : ℕ) (r : Result Bool StepFault) (out : List ℕ) (e f : Kept) (v x : Device) (error : AllocError) → IsErrAnd r (λ k. k ≡ Memory error) → Replays tells n (command ∷ []) (Err (Memory error)) out e f v x → Replays tells n (command ∷ []) r out e f v x
wanting_by tells command n (Ok done) out e f v x error is replays = absurd is
wanting_by tells command n (Err k) out e f v x error is replays = subst (λ (z : StepFault). Replays tells n (command ∷ []) (Err z) out e f v x) (sym is) replays
