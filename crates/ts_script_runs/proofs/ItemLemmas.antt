-- One request: what is said, and what a stop within it leaves.
use Rattle.std.proofs.Common.{◌≡◌, inl, inr, ℕ, Bool, IsTrue, codes, List, [], ◌∷◌, Option, Some, None, IfSome, Result, Ok, Err, IsErr, refl, sym, ap, ◌∙◌, subst, arith, IsErrOf}
use Rattle.std.specs.Option.{option_map}
use Rattle.std.specs.Fmt.{digits}
use Rattle.std.proofs.lemmas.List.{append-nil}
use Rattle.ts_disk.specs.Device.{Device, Lawful, Within, Says}
use Rattle.ts_disk.proofs.Moments.{leaves_map}
use Rattle.ts_journal.specs.Journal.{over, StandsOver}
use Rattle.ts_journal.proofs.CallerLemmas.{over_pages}
use Rattle.ts_store.specs.OpenBatch.{State as Store, IsIdle, committed_pages, read_pages, contents_over}
use Rattle.ts_store.specs.OpenBatch.{rolled_back as store_rolled_back}
use Rattle.ts_store.proofs.CallerLemmas.{over_kept}
use Rattle.ts_model.specs.Catalogue.{Catalogue}
use Rattle.ts_layout.specs.Meaning.{HoldsLayout, Means}
use Rattle.ts_command.specs.declared.command.Command.{Command}
use Rattle.ts_base.specs.declared.fault.Trouble.{Trouble}
use Rattle.ts_base.specs.declared.fault.Trouble.TheVariants.{Refused}
use Rattle.ts_base.specs.declared.refusal.Refusal.{Refusal}
use Rattle.ts_base.specs.declared.refusal.Refusal.TheVariants as refusals
use Rattle.ts_command.specs.Misfit.{IsCause}
use Rattle.ts_command.specs.Grammar.{Request, or_syntax}
use Rattle.ts_replies.specs.Acknowledged.{IsStep, memory_line, IsGoodMoment}
use Rattle.ts_replies.proofs.Steps.{one_waits, none_good}
use Rattle.ts_opening.specs.Engine.{StepFault}
use Rattle.ts_opening.specs.Faults as faults
use Rattle.ts_answer.specs.Reply.{refusal_line}
use Rattle.ts_answer.specs.Answer.{State, committed, newest, run_outcome, run_answer}
use Rattle.ts_answer.specs.View.{IsSeen}
use Rattle.ts_volume.specs.Volume.{MeansCatalogue}
use Rattle.ts_opening.specs.Engine.{Saved}
use Rattle.ts_opening.specs.Engine.{Kept, IsReady, IsAt, IsSmall, rolled_back, seen_by}
use Rattle.ts_opening.specs.Engine.{IsUntouched}
use Rattle.ts_opening.specs.Engine.{Stepped, state_after}
use Rattle.ts_carriers.specs.declared.fault.RunFault.{RunFault}
use Rattle.ts_carriers.specs.declared.fault.RunFault.TheVariants.{Disk, Output}
use Rattle.ts_script_runs.proofs.ApartLemmas.{apart}
use Rattle.ts_script_runs.specs.Script.{script, by_engine}
use Rattle.ts_carriers.specs.Run.{Ran}
use Rattle.ts_carriers.proofs.CallerLemmas.{IsSteady, Waits, Steps, said_line}

-- where nothing is written, an engine stands where it stood
module _ (tells : Bool) (v w : Device) (size : w.size ≡ v.size) (held : w.held ≡ v.held) (images : Within v.images w.images) where
  idle_same : (s : Store) → IsIdle tells s v → IsIdle tells s w
  idle_same s idle = record { over = over_kept tells s v idle.over w size held images; batch = idle.batch; kept_free = idle.kept_free }

  seen_same : (e : Kept) → IsSeen tells (seen_by e v) → IsSeen tells (seen_by e w)
  seen_same e seen = record {
    kept = seen.kept;
    layout = λ told.
        let known = seen.layout told in
        (known.0, record { kept = known.1.kept; holds = λ t. subst (λ (l : List ℕ). HoldsLayout (read_pages e.store l) known.0) (sym held) (known.1.holds t) });
  }

  held_means : (e : Kept) (cat : Catalogue) → Means e.store.pages (read_pages e.store w.held) cat → Means e.store.pages (read_pages e.store v.held) cat
  held_means e cat = subst (λ (l : List ℕ). Means e.store.pages (read_pages e.store l) cat) held

  small_same : (s back : Store) (o : Option Saved) → IfSome o (λ saved. IsSmall saved.accepted (contents_over back v) (contents_over s v))
      → IfSome o (λ saved. IsSmall saved.accepted (contents_over back w) (contents_over s w))
  small_same s back None small = tt
  small_same s back (Some saved) small = record { few = small.few; grown = small.grown }

  pub ready_same : (e : Kept) → IsReady tells e v → IsReady tells e w
  ready_same e ready = record {
    idle = idle_same e.store ready.idle;
    seen = seen_same e ready.seen;
    marked = λ told cat means. ready.marked told cat (held_means e cat means);
    base = record {
      idle = idle_same (rolled_back e).store ready.base.idle;
      seen = seen_same (rolled_back e) ready.base.seen;
      marked = λ told cat means. ready.base.marked told cat (held_means (rolled_back e) cat means);
    };
    closed = ready.closed;
    small = small_same e.store (store_rolled_back e.store) e.saved ready.small;
    charges = ready.charges;
    unspent = ready.unspent;
  }

  pub at_same : (e : Kept) (state : State) → IsAt tells e state v → IsAt tells e state w
  at_same e state at = record {
    ready = ready_same e at.ready;
    means = subst (λ (l : List ℕ). MeansCatalogue l state.base) (sym held) at.means;
    newest = subst (λ (l : List ℕ). Means e.store.pages (read_pages e.store l) (newest state)) (sym held) at.newest;
    accepted = at.accepted;
  }

-- two idle stores over the same bytes that have the same changes of a transaction read the same
module _ (s t : Store) (held : List ℕ) (stands : StandsOver s.journal s.overlay held) (other : StandsOver t.journal t.overlay held)
    (none : s.batch ≡ []) (without : t.batch ≡ []) (same : t.transaction ≡ s.transaction) where
  alike_pages : (k : ℕ) → committed_pages t held k ≡ committed_pages s held k
  alike_pages k = sym (over_pages t.journal t.overlay held other k) ∙ over_pages s.journal s.overlay held stands k

  alike_reads : read_pages t held ≡ read_pages s held
  alike_reads =
      (λ i. over (without i) (over (same i) (λ k. alike_pages k i)))
      ∙ sym (λ i. over (none i) (over s.transaction (committed_pages s held)))

-- an engine that keeps what it kept stands at the same state
pub at_untouched : (tells : Bool) (told : IsTrue tells) (e f : Kept) (v w : Device) → IsUntouched tells e f v w → IsReady tells f w → (state : State) → IsAt tells e state v → IsAt tells f state w
at_untouched tells told e f v w same ready state at =
    let s = e.store in
    let t = f.store in
    let held = same.disk.held in
    let stands = at.ready.idle.over.read.stands told in
    let other = subst (StandsOver t.journal t.overlay) held (ready.idle.over.read.stands told) in
    let reads : read_pages t v.held ≡ read_pages s v.held = alike_reads s t v.held stands other at.ready.idle.batch ready.idle.batch same.kept.transaction in
    let pages : t.pages ≡ s.pages = omega (arith, ready.idle.over.read.size, at.ready.idle.over.read.size, same.disk.keeps.size) in
    record {
      ready = ready;
      means = subst (λ (l : List ℕ). MeansCatalogue l state.base) (sym held) at.means;
      newest = subst (λ (l : List ℕ). Means t.pages (read_pages t l) (newest state)) (sym held)
          (subst (λ (n : ℕ). Means n (read_pages t v.held) (newest state)) (sym pages)
          (subst (λ (read : ℕ → List ℕ). Means s.pages read (newest state)) (sym reads) at.newest));
      accepted = ap (option_map (λ (saved : Saved). saved.accepted)) same.kept.saved ∙ at.accepted;
    }

-- a step that the disk doesn't fail leaves the count
step_leaves : (tells : Bool) (command : Command) (r : Result Unit StepFault) (out : List ℕ) (e f : Kept) (v x : Device) → Stepped tells command r out e f v x → ¬ IsErrOf r faults.Disk → x.faults ≡ v.faults
step_leaves tells command (Ok y) out e f v x stepped other = stepped.moves.no_fault
step_leaves tells command (Err faults.Disk) out e f v x stepped other = absurd (other refl)
step_leaves tells command (Err (faults.Memory error)) out e f v x stepped other = stepped.moves.fault.2
step_leaves tells command (Err (faults.Closed count)) out e f v x stepped other = absurd stepped.moves.fault

-- so an engine is steady
pub steady : (tells : Bool) → IsSteady (by_engine tells) script
steady tells = record {
  apart = apart;
  means = λ e state d at image now. subst (λ (l : List ℕ). MeansCatalogue l (committed state)) (sym (at.ready.idle.over.settled image now)) at.means;
  ready = λ e v w size held faults images ready. ready_same tells v w size held images e ready;
  stands = λ e state v w size held faults images at. at_same tells v w size held images e state at;
}

-- a command is carried out
pub steps_done : (tells : Bool) (command : Command) (out : List ℕ) (e f : Kept) (v x : Device) → Stepped tells command (Ok tt) out e f v x → Steps (by_engine tells) script (Ok command) out e f v x
steps_done tells command out e f v x stepped = record {
  ready = stepped.moves.ready;
  step = λ told state at. (state_after command state, inl (stepped.answered told state at, refl), stepped.moves.at told state at);
  waits = stepped.moves.moments;
  keeps = stepped.moves.others;
  no_fault = step_leaves tells command (Ok tt) out e f v x stepped (λ is. absurd (cc));
}

-- there is no memory for a command
pub steps_wanting : (tells : Bool) (command : Command) (r : Result Unit StepFault) (error : _) (out : List ℕ) (e f : Kept) (v x : Device) → r ≡ Err (faults.Memory error) → Stepped tells command r out e f v x → Steps (by_engine tells) script (Ok command) memory_line e f v x
steps_wanting tells command r error out e f v x is stepped =
    let P : Result Unit StepFault → Type 0 = λ s. Stepped tells command s out e f v x in
    let here : Stepped tells command (Err (faults.Memory error)) out e f v x = subst P is stepped in
    let moves = here.moves in
    record {
      ready = moves.fault.1;
      step = λ told state at. (state, inr (refl, refl), at_untouched tells told e f v x moves.fault.0 moves.fault.1 state at);
      waits = moves.moments;
      keeps = moves.others;
      no_fault = step_leaves tells command (Err (faults.Memory error)) out e f v x here (λ is. absurd (cc));
    }

-- a line is said, and nothing else is done
pub line_ran : (tells : Bool) (request : Request) (line : List ℕ) (e : Kept) (v w : Device) (q : Result Unit RunFault) → Lawful tells v → IsReady tells e v → ((state : State) → IsStep script state request line state) → Says tells line q v w → (IsErr q → q ≡ Err Output) → Ran (by_engine tells) script (request ∷ []) q e e v w
line_ran tells request line e v w q lawful ready step = said_line (by_engine tells) script (steady tells) request line e v w q lawful ready step

-- a request that is refused is answered by the line of its refusal
pub refused_step : (refusal : Refusal) (line : List ℕ) → refusal_line refusal ≡ line → (state : State) → IsStep script state (Err refusal) line state
unfolding run_answer run_outcome
refused_step refusal line same state = inl (sym same, refl)

-- the lines of refusals that are said without a reply
pub syntax_line : (place : ℕ) → refusal_line (refusals.Syntax place) ≡ codes "error 1 Syntax\n"
unfolding refusal_line digits
syntax_line place = refl

pub too_long_line : refusal_line refusals.TooLong ≡ codes "error 2 TooLong\n"
unfolding refusal_line digits
too_long_line = refl

pub unended_line : refusal_line refusals.Unended ≡ codes "error 3 Unended\n"
unfolding refusal_line digits
unended_line = refl

-- a statement that is refused isn't in the grammar
pub syntax_of : (refusal : Refusal) (read : Result Command ℕ) → IsCause (Refused refusal) read → (place : ℕ) × (read ≡ Err place)
syntax_of (refusals.Syntax place) read is = (place, is)
syntax_of other read is = absurd is

pub syntax_at : (trouble : Trouble) (refusal : Refusal) (read : Result Command ℕ) → trouble ≡ Refused refusal → IsCause trouble read → (place : ℕ) × (read ≡ Err place)
syntax_at trouble refusal read is cause = syntax_of refusal read (subst (λ (t : Trouble). IsCause t read) is cause)

-- the memory line may stand in the place of the reply to a statement
pub statement_stand_in : (r : Result Command ℕ) → script.stand_in (or_syntax r) ≡ Some memory_line
statement_stand_in (Ok command) = refl
statement_stand_in (Err place) = refl

-- the disk failed, and nothing was said
pub failed_ran : (tells : Bool) (command : Command) (r : Result Unit StepFault) (out : List ℕ) (e f : Kept) (v x : Device) → r ≡ Err faults.Disk → Stepped tells command r out e f v x → Ran {T = Unit} (by_engine tells) script (Ok command ∷ []) (Err Disk) e f v x
failed_ran tells command r out e f v x is stepped =
    let P : Result Unit StepFault → Type 0 = λ s. Stepped tells command s out e f v x in
    let here : Stepped tells command (Err faults.Disk) out e f v x = subst P is stepped in
    let moves = here.moves in
    record {
      ready = tt;
      answered = tt;
      fair = λ told state at. ([], moves.others.said ∙ sym (append-nil v.said), (none_good script apart (λ s. Unit {0}) state (Ok command ∷ []) tt).fair);
      moments = λ told state at.
          leaves_map v x (Waits script state (Ok command) v) (IsGoodMoment script state (Ok command ∷ []) v.said)
          (λ image said now. ([], now.1 ∙ sym (append-nil v.said), one_waits script apart (script.means image) state (Ok command) now.0))
          (moves.moments told state at);
      disk = λ e. moves.fault.0;
      output = λ e. absurd (cc);
      no_fault = λ no. absurd (no refl);
      no_say_fault = λ no. moves.others.say_faults;
      size = moves.others.size;
      faults = moves.others.faults;
      say_faults = omega (arith, moves.others.say_faults);
      syncs = moves.others.syncs;
    }

-- an engine that no call of the disk's failed before isn't closed
pub never_closed : (tells : Bool) (command : Command) (r : Result Unit StepFault) (count : ℕ) (out : List ℕ) (e f : Kept) (v x : Device) → r ≡ Err (faults.Closed count) → Stepped tells command r out e f v x → ⊥
never_closed tells command r count out e f v x is stepped =
    let P : Result Unit StepFault → Type 0 = λ s. Stepped tells command s out e f v x in
    let here : Stepped tells command (Err (faults.Closed count)) out e f v x = subst P is stepped in
    here.moves.fault
