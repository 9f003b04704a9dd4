-- The commit of a transaction beside views.
use Rattle.std.specs.declared.alloc.AllocError.{AllocError}
use Rattle.std.proofs.Common.{◌≡◌, ◌⊎◌, inl, ℕ, Bool, IsTrue, pos, Option, Some, None, Result, Ok, Err, OnOk, List, [], ◌++◌, refl, ap, sym, ◌∙◌, subst}
use Rattle.ts_command.specs.declared.command.Command.TheVariants as commands
use Rattle.ts_disk.specs.Device.{Device, Lawful, Rose, LeavesOnly}
use Rattle.ts_disk.proofs.Moments.{leaves_map, then_on}
use Rattle.ts_page.specs.Pages.{SameButFreed}
use Rattle.ts_journal.specs.Journal.{over, own_page}
use Rattle.ts_journal.specs.Moment.{OnlyReads}
use Rattle.ts_journal.proofs.CallerLemmas.{keeps_then}
use Rattle.ts_store.specs.OpenBatch.{State as Store, committed_pages, read_pages}
use Rattle.ts_store.proofs.CallerLemmas.{reads_then}
use Rattle.ts_model.specs.Catalogue.{Catalogue}
use Rattle.ts_volume.specs.Volume.{MeansCatalogue}
use Rattle.ts_answer.specs.Reply.{number_line}
use Rattle.ts_answer.specs.Answer.{State, resting, opened, run_answer}
use Rattle.ts_answer.proofs.CallerLemmas.{committed_inside}
use Rattle.ts_views.specs.declared.view.View.{View}
use Rattle.ts_engine.specs.declared.fault.StepFault.{StepFault}
use Rattle.ts_engine.specs.declared.fault.StepFault.TheVariants.{Disk, Memory, Closed}
use Rattle.ts_engine.specs.Change.{reply_of}
use Rattle.ts_engine.specs.Engine.{Kept, IsReady, IsAt}
use Rattle.ts_engine.specs.Moves.{BeforeOrAfter}
use Rattle.ts_engine.specs.Step.{Stepped, state_after}
use Rattle.ts_engine.specs.Transaction.{CommitsAll, accepted_in}
use Rattle.ts_engine.proofs.CallerLemmas.{commits_step, read_moments, run_answers}
use Rattle.ts_session_engine.specs.Beside.{newest, AllStay, AllHaveMore, AreCovered}
use Rattle.ts_session_engine.specs.Replayed.{CommitsKept}
use Rattle.ts_session_engine.proofs.ProceedLemmas.{at_untouched, at_same, ready_same}
use Rattle.ts_session_engine.proofs.StayLemmas.{more_stay, same_stay, same_newest, stay_then, committed_stay}

-- what the Commit of a transaction is answered, and where it leads
commit_answers : (base work : Catalogue) (count : ℕ) → run_answer (opened base work count) (Ok commands.Commit) ≡ (number_line (pos count), resting work)
commit_answers base work count = run_answers (opened base work count) commands.Commit (number_line (pos count), resting work) (committed_inside commands.Commit base work count refl)

commit_state : (base work : Catalogue) (count : ℕ) → state_after commands.Commit (opened base work count) ≡ resting work
commit_state base work count = ap (λ (a : List ℕ × State). a.1) (commit_answers base work count)

-- the old images were kept, and nothing was written for that
module _ (tells : Bool) (e : Kept) (v x : Device) (ready : IsReady tells e v) (reads : OnlyReads tells v x)
    (old new : List (Option View)) (more : AllHaveMore tells (committed_pages e.store v.held) old new) where
  ready_kept : IsReady tells e x
  ready_kept = ready_same tells v x reads.keeps.size reads.held reads.images e ready

  at_kept : (state : State) → IsAt tells e state v → IsAt tells e state x
  at_kept state at = at_same tells v x reads.keeps.size reads.held reads.images e state at

  read_only : (state after : State) → IsAt tells e state v → LeavesOnly v x (BeforeOrAfter state after v)
  read_only state after at = read_moments tells (λ s. after) e v x ready reads state at

  views_kept : (f : Kept) (w : Device) → f.store.pages ≡ e.store.pages → f.store.overlay ≡ e.store.overlay → w.held ≡ v.held → AllStay tells (newest e v) (newest f w) old new
  views_kept f w pages overlay held =
      stay_then tells (newest e v) (newest e v) (newest f w) old new new (more_stay tells (newest e v) old new more)
      (same_stay tells (newest e v) (newest f w) new (same_newest e.store f.store v w pages overlay held))

  -- there was no memory for them
  pub wanting_kept : (error : AllocError) (out : List ℕ) → x.faults ≡ v.faults → CommitsKept tells (Err (Memory error)) out e e old new v x
  wanting_kept error out no_fault = record {
    ready = ready_kept;
    rests = tt;
    ends = tt;
    stays = λ told state at. at_kept state at;
    disk = λ is. absurd (cc);
    closed = λ faults is. absurd (cc);
    moments = λ told base work count at. leaves_map v x (BeforeOrAfter (opened base work count) (resting work) v) (BeforeOrAfter (resting base) (resting work) v) (λ image said now. now) (read_only (opened base work count) (resting work) at);
    quiet = reads;
    others = reads.keeps;
    no_fault = no_fault;
    views = views_kept e x refl refl reads.held;
  }

  -- the disk failed
  pub failed_kept : (f : Kept) (out : List ℕ) → Rose v.faults x.faults → f.spent ≡ Some x.faults → CommitsKept tells (Err Disk) out e f old new v x
  failed_kept f out rose spent = record {
    ready = tt;
    rests = tt;
    ends = tt;
    stays = tt;
    disk = λ is. (rose, spent);
    closed = λ faults is. absurd (cc);
    moments = λ told base work count at. leaves_map v x (BeforeOrAfter (opened base work count) (resting work) v) (BeforeOrAfter (resting base) (resting work) v) (λ image said now. now) (read_only (opened base work count) (resting work) at);
    quiet = tt;
    others = reads.keeps;
    no_fault = tt;
    views = tt;
  }

  -- they were kept: the transaction is committed, or not
  module _ (lawful : Lawful tells x) (no_fault : x.faults ≡ v.faults) (one : e.saved ≡ None → ⊥) (covered : AreCovered e.store new) (f : Kept) (w : Device) (later : Lawful tells w) (out : List ℕ) where
    stepped : (r : Result Unit StepFault) → OnOk r (out ≡ number_line (pos (accepted_in e.saved))) → CommitsAll tells r e f x w → Stepped tells commands.Commit r (reply_of r out) e f x w
    stepped r said all = commits_step tells commands.Commit e f x lawful ready_kept r out w later refl one said all

    committed_same : committed_pages e.store x.held ≡ committed_pages e.store v.held
    committed_same = λ i. over e.store.overlay (own_page (reads.held i))

    moments_then : (r : Result Unit StepFault) (said : List ℕ) → Stepped tells commands.Commit r said e f x w → IsTrue tells → (base work : Catalogue) (count : ℕ) → IsAt tells e (opened base work count) v → LeavesOnly v w (BeforeOrAfter (resting base) (resting work) v)
    moments_then r said step told base work count at =
        then_on v x w (BeforeOrAfter (resting base) (resting work) v)
        (leaves_map v x (BeforeOrAfter (opened base work count) (resting work) v) (BeforeOrAfter (resting base) (resting work) v) (λ image s now. now) (read_only (opened base work count) (resting work) at))
        (leaves_map x w (BeforeOrAfter (opened base work count) (state_after commands.Commit (opened base work count)) x) (BeforeOrAfter (resting base) (resting work) v)
        (λ image s now. (subst (λ (t : State). MeansCatalogue image base ⊎ MeansCatalogue image t.base) (commit_state base work count) now.0, now.1 ∙ reads.keeps.said))
        (step.moves.moments told (opened base work count) (at_kept (opened base work count) at)))

    faults_stay : w.faults ≡ x.faults → w.faults ≡ v.faults
    faults_stay same = same ∙ no_fault

    rose_then : Rose x.faults w.faults → Rose v.faults w.faults
    rose_then rose = subst (λ (n : ℕ). Rose n w.faults) no_fault rose

    pub committed_kept : (r : Result Unit StepFault) → OnOk r (out ≡ number_line (pos (accepted_in e.saved))) → CommitsAll tells r e f x w → CommitsKept tells r out e f old new v w
    unfolding stepped
    committed_kept (Ok tt) said all =
        let step = stepped (Ok tt) said all in
        let now = ap (λ (k : Kept). k.store) all.now in
        let fin = all.finished in
        record {
          ready = step.moves.ready;
          rests = all.closed;
          ends = λ told base work count at.
              let here = at_kept (opened base work count) at in (
                step.answered told (opened base work count) here ∙ ap (λ (a : List ℕ × State). a.0) (commit_answers base work count),
                subst (λ (s : State). IsAt tells f s w) (commit_state base work count) (step.moves.at told (opened base work count) here),
              );
          stays = tt;
          disk = λ is. absurd (cc);
          closed = λ faults is. absurd (cc);
          moments = moments_then (Ok tt) out step;
          quiet = tt;
          others = keeps_then tells v x w reads.keeps step.moves.others;
          no_fault = faults_stay step.moves.no_fault;
          views = stay_then tells (newest e v) (newest e x) (newest f w) old old new (same_stay tells (newest e v) (newest e x) old (same_newest e.store e.store v x refl refl reads.held))
              (committed_stay tells e.store f.store x w e.store.transaction (ap (λ (s : Store). s.pages) now ∙ fin.count) (ap (λ (s : Store). s.transaction) now ∙ fin.closed.transaction) (ap (λ (s : Store). s.batch) now ∙ fin.batch)
              (λ told. subst (λ (s : Store). SameButFreed (read_pages e.store x.held) (read_pages s w.held)) (sym now) (fin.alike told))
              (λ k i. over (ready.idle.batch i) (over e.store.transaction (committed_pages e.store x.held)) k) old new
              (subst (λ (p : ℕ → List ℕ). AllHaveMore tells p old new) (sym committed_same) more) covered (λ number some. inl some));
        }
    committed_kept (Err Disk) said all =
        let step = stepped (Err Disk) said all in
        record {
          ready = tt;
          rests = tt;
          ends = tt;
          stays = tt;
          disk = λ is. (rose_then step.moves.fault.0, step.moves.fault.1);
          closed = λ faults is. absurd (cc);
          moments = moments_then (Err Disk) [] step;
          quiet = tt;
          others = keeps_then tells v x w reads.keeps step.moves.others;
          no_fault = tt;
          views = tt;
        }
    committed_kept (Err (Memory error)) said all =
        let step = stepped (Err (Memory error)) said all in
        let now = ap (λ (k : Kept). k.store) all.now in
        let drop = all.finished.fault.0 in
        record {
          ready = step.moves.fault.1;
          rests = tt;
          ends = tt;
          stays = λ told state at. at_untouched tells told e f x w step.moves.fault.0 step.moves.fault.1 state (at_kept state at);
          disk = λ is. absurd (cc);
          closed = λ faults is. absurd (cc);
          moments = moments_then (Err (Memory error)) [] step;
          quiet = reads_then tells v x w reads drop.reads;
          others = keeps_then tells v x w reads.keeps step.moves.others;
          no_fault = faults_stay step.moves.fault.2;
          views = views_kept f w (ap (λ (s : Store). s.pages) now ∙ drop.pages) (ap (λ (s : Store). s.overlay) now ∙ drop.overlay) (drop.reads.held ∙ reads.held);
        }
    committed_kept (Err (Closed faults)) said all = let step = stepped (Err (Closed faults)) said all in absurd step.moves.fault

-- what is said behind nothing
pub said_alone : {E : Type 0} (r : Result Unit E) (out before line : List ℕ) → before ≡ [] → OnOk r (out ≡ before ++ line) → OnOk r (out ≡ line)
said_alone r out before line none said = subst (λ (l : List ℕ). OnOk r (out ≡ l ++ line)) none said
