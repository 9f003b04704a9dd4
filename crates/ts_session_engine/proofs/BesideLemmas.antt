-- A command that was carried out in an open batch beside views, and what the end of the batch makes of it.
use Rattle.std.specs.declared.alloc.AllocError.{AllocError}
use Rattle.std.proofs.Common.{◌≡◌, inr, ℕ, Bool, true, false, Option, Some, None, Result, Ok, Err, IsErrAnd, List, [], ap, sym, ◌∙◌, subst}
use Rattle.ts_base.specs.declared.refusal.Refusal.{Refusal}
use Rattle.ts_command.specs.declared.command.Command.{Command}
use Rattle.ts_command.specs.Boundary.{boundary_of, is_between, is_writing}
use Rattle.ts_disk.specs.Device.{Device, Lawful}
use Rattle.ts_page.specs.Pages.{Contents, SameButFreed}
use Rattle.ts_journal.specs.Journal.{over, own_page}
use Rattle.ts_store.specs.OpenBatch.{State as Store, committed_pages, read_pages, contents_over}
use Rattle.ts_store.specs.Undisturbed.{Undisturbed}
use Rattle.ts_store.proofs.CallerLemmas.{read_alone}
use Rattle.ts_answer.specs.declared.effect.Effect.{Effect}
use Rattle.ts_answer.specs.declared.stop.Stop.TheVariants as stops
use Rattle.ts_answer.specs.CarriedOut.{CarriedOut, IsStopped, is_nothing}
use Rattle.ts_answer.specs.Reply.{refusal_line}
use Rattle.ts_answer.specs.View.{View as Seen, view}
use Rattle.ts_views.specs.declared.view.View.{View}
use Rattle.ts_engine.specs.declared.fault.StepFault.{StepFault}
use Rattle.ts_engine.specs.declared.fault.StepFault.TheVariants.{Disk, Memory, Closed}
use Rattle.ts_engine.specs.declared.transaction.Saved.{Saved}
use Rattle.ts_engine.specs.Change.{reply_of}
use Rattle.ts_engine.specs.Ended.{Commits, with_dropped}
use Rattle.ts_hidden.specs.Marks.{Include, IsNoted}
use Rattle.ts_engine.specs.Engine.{Kept, IsReady}
use Rattle.ts_engine.specs.Step.{Stepped, state_after}
use Rattle.ts_engine.specs.Transaction.{misplaced_in, counted_in}
use Rattle.ts_engine.proofs.CallerLemmas.{accepted_by, changed_step, failed_step, memory_step, refused_step, unchanged_step}
use Rattle.ts_session_engine.specs.Beside.{newest, GoesOn, AllStay, AllHaveMore, AreCovered}
use Rattle.ts_session_engine.specs.Stepped.{StepsBeside}
use Rattle.ts_session_engine.proofs.ProceedLemmas.{proceeds_moved}
use Rattle.ts_session_engine.proofs.StayLemmas.{more_stay, same_stay, same_newest, stay_then, committed_stay}

-- a step beside views, of which it is known what becomes of them
pub steps_beside : (tells : Bool) (command : Command) (r : Result Unit StepFault) (out : List ℕ) (e f : Kept) (old new : List (Option View)) (v w : Device) → Stepped tells command r out e f v w → f.saved ≡ e.saved
    → GoesOn r (AllStay tells (newest e v) (newest f w) old new) → StepsBeside tells command r out e f old new v w
steps_beside tells command r out e f old new v w stepped rests views =
    record { stepped = stepped; proceeds = proceeds_moved tells (state_after command) r e f v w stepped.moves; rests = rests; views = views }

-- no transaction is open, so there is place for a command
placed_alone : (writes : Bool) (e : Kept) → e.saved ≡ None → misplaced_in None writes (accepted_by e.saved) ≡ None
placed_alone writes e rests = ap (λ (o : Option Saved). misplaced_in None writes (accepted_by o)) rests

module _ (tells : Bool) (command : Command) (e g : Kept) (v x : Device) (lawful : Lawful tells v) (ready : IsReady tells e v) (rests : e.saved ≡ None) (calls : Undisturbed tells e.store g.store v x)
    (between : boundary_of command ≡ None) (definitions : g.tables.definitions ≡ e.tables.definitions) (lists : g.space.lists ≡ e.space.lists) (charges : g.charges ≡ e.charges) (saved : g.saved ≡ e.saved) (spent : g.spent ≡ e.spent) (includes : Include g.hidden e.hidden)
    (old new : List (Option View)) (more : AllHaveMore tells (committed_pages e.store v.held) old new) where
  abbrev seen : Seen
  seen = view e.tables.definitions e.space (contents_over e.store v)

  abbrev left : Contents
  left = contents_over g.store x

  plain : is_between (boundary_of command) ≡ true
  plain = ap is_between between

  placed : misplaced_in (boundary_of command) (is_writing command) (accepted_by e.saved) ≡ None
  placed = (λ i. misplaced_in (between i) (is_writing command) (accepted_by e.saved)) ∙ placed_alone (is_writing command) e rests

  -- the views stay where the engine has what was committed before
  views_still : (f : Kept) → f.store.pages ≡ e.store.pages → f.store.overlay ≡ e.store.overlay → AllStay tells (newest e v) (newest f x) old new
  views_still f pages overlay =
      stay_then tells (newest e v) (newest e v) (newest f x) old new new (more_stay tells (newest e v) old new more)
      (same_stay tells (newest e v) (newest f x) new (same_newest e.store f.store v x pages overlay calls.reads.held))

  views_dropped : (f : Kept) → f ≡ with_dropped g → AllStay tells (newest e v) (newest f x) old new
  views_dropped f drop = views_still f (ap (λ (k : Kept). k.store.pages) drop ∙ calls.pages) (ap (λ (k : Kept). k.store.overlay) drop ∙ calls.overlay)

  saved_dropped : (f : Kept) → f ≡ with_dropped g → f.saved ≡ e.saved
  saved_dropped f drop = ap (λ (k : Kept). k.saved) drop ∙ saved

  pub refused_beside : (f : Kept) → f ≡ with_dropped g → x.faults ≡ v.faults → (refusal : Refusal) → IsStopped tells command (stops.Refused refusal) seen left → StepsBeside tells command (Ok tt) (refusal_line refusal) e f old new v x
  refused_beside f drop no_fault refusal stopped =
      steps_beside tells command (Ok tt) (refusal_line refusal) e f old new v x
      (refused_step tells command e g v x lawful ready calls plain placed definitions lists charges saved spent includes f drop no_fault refusal stopped) (saved_dropped f drop) (views_dropped f drop)

  pub memory_beside : (f : Kept) → f ≡ with_dropped g → x.faults ≡ v.faults → (error : AllocError) → StepsBeside tells command (Err (Memory error)) [] e f old new v x
  memory_beside f drop no_fault error =
      steps_beside tells command (Err (Memory error)) [] e f old new v x
      (memory_step tells command e g v x lawful ready calls plain placed definitions lists charges saved spent includes f drop no_fault error) (saved_dropped f drop) (views_dropped f drop)

  pub failed_beside : (f : Kept) → IsStopped tells command stops.Failed seen left → f ≡ record g { spent = Some x.faults } → StepsBeside tells command (Err Disk) [] e f old new v x
  failed_beside f rose is =
      steps_beside tells command (Err Disk) [] e f old new v x
      (failed_step tells command e g v x lawful ready calls plain placed definitions lists charges saved spent includes f rose (ap (λ (k : Kept). k.spent) is)) (ap (λ (k : Kept). k.saved) is ∙ saved) tt

  -- without a transaction nothing is counted
  uncounted : (f : Kept) → f.saved ≡ e.saved → f ≡ record f { saved = counted_in command f.saved }
  uncounted f same = let none : f.saved ≡ None = same ∙ rests in λ i. record f { saved = path none i }
    where
      path : f.saved ≡ None → f.saved ≡ counted_in command f.saved
      path none = none ∙ sym (ap (counted_in command) none)

  pub nothing_beside : (f : Kept) → f ≡ with_dropped g → x.faults ≡ v.faults → (effect : Effect) (out : List ℕ) → is_nothing effect ≡ true → CarriedOut tells command (Ok effect) out seen left → StepsBeside tells command (Ok tt) out e f old new v x
  nothing_beside f drop no_fault effect out is carried =
      steps_beside tells command (Ok tt) out e f old new v x
      (unchanged_step tells command e g v x lawful ready calls plain placed definitions lists charges saved spent includes f drop no_fault f (uncounted f (saved_dropped f drop)) effect out is carried) (saved_dropped f drop) (views_dropped f drop)

  -- the batch is committed, or dropped
  module _ (covered : AreCovered g.store new) (effect : Effect) (f : Kept) (w : Device) where
    committed_same : committed_pages g.store x.held ≡ committed_pages e.store v.held
    committed_same = λ i. over (calls.overlay i) (own_page (calls.reads.held i))

    -- no transaction is open
    alone : g.store.transaction ≡ []
    alone = calls.transaction ∙ (ready.closed rests).transaction

    views_then : (r : Result Unit StepFault) → Commits tells effect r g f x w → GoesOn r (AllStay tells (newest e v) (newest f w) old new)
    views_then (Ok done) commits =
        let fin = commits.finished in
        stay_then tells (newest e v) (newest g x) (newest f w) old old new
        (same_stay tells (newest e v) (newest g x) old (same_newest e.store g.store v x calls.pages calls.overlay calls.reads.held))
        (committed_stay tells g.store f.store x w g.store.batch (ap (λ (s : Store). s.pages) commits.now ∙ fin.count ∙ ap (λ (s : Store). s.pages) commits.store)
        (ap (λ (s : Store). s.transaction) commits.now ∙ fin.closed.transaction) (ap (λ (s : Store). s.batch) commits.now ∙ fin.batch)
        (λ told.
        subst (λ (s : Store). SameButFreed (read_pages s x.held) (read_pages f.store w.held)) commits.store
        (subst (λ (s : Store). SameButFreed (read_pages commits.ready.store x.held) (read_pages s w.held)) (sym commits.now) (fin.alike told)))
        (read_alone g.store x.held alone) old new
        (subst (λ (p : ℕ → List ℕ). AllHaveMore tells p old new) (sym committed_same) more) covered (λ number some. inr some))
    views_then (Err Disk) commits = tt
    views_then (Err (Closed faults)) commits = tt
    views_then (Err (Memory error)) commits =
        let drop = commits.finished.fault.0 in
        stay_then tells (newest e v) (newest e v) (newest f w) old new new (more_stay tells (newest e v) old new more)
        (same_stay tells (newest e v) (newest f w) new
        (same_newest e.store f.store v w
        (ap (λ (s : Store). s.pages) commits.now ∙ drop.pages ∙ ap (λ (s : Store). s.pages) commits.store ∙ calls.pages)
        (ap (λ (s : Store). s.overlay) commits.now ∙ drop.overlay ∙ ap (λ (s : Store). s.overlay) commits.store ∙ calls.overlay)
        (drop.reads.held ∙ calls.reads.held)))

    pub changed_beside : Lawful tells w → (out : List ℕ) → CarriedOut tells command (Ok effect) out seen left → IsNoted command e.tables.definitions g.hidden → is_nothing effect ≡ false → (r : Result Unit StepFault) → Commits tells effect r g f x w → StepsBeside tells command r (reply_of r out) e f old new v w
    changed_beside later out carried noted some r commits =
        steps_beside tells command r (reply_of r out) e f old new v w
        (changed_step tells command e g v x lawful ready calls plain placed definitions lists charges saved spent includes effect out carried noted f w later rests some r commits)
        (commits.saved ∙ saved) (views_then r commits)

-- the same, where want of memory is passed on
pub by_want : (tells : Bool) (command : Command) (r : Result Unit StepFault) (out : List ℕ) (e f : Kept) (old new : List (Option View)) (v w : Device) (error : AllocError) → IsErrAnd r (λ x. x ≡ Memory error) → StepsBeside tells command (Err (Memory error)) [] e f old new v w
    → StepsBeside tells command r (reply_of r out) e f old new v w
by_want tells command (Ok done) out e f old new v w error is steps = absurd is
by_want tells command (Err x) out e f old new v w error is steps = subst (λ (y : StepFault). StepsBeside tells command (Err y) [] e f old new v w) (sym is) steps
