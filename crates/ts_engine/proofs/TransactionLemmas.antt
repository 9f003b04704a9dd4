-- The steps that begin and end a transaction, and those that it refuses before all else.
use Rattle.std.specs.declared.alloc.AllocError.{AllocError}
use Rattle.std.proofs.Common.{◌≡◌, inl, inr, ⊎_elim, ℕ, pos, Bool, true, false, IsTrue, Option, Some, None, IsSome, IfSome, Result, Ok, Err, OnOk, IfErr, IsErrAnd, List, [], length, refl, ap, sym, ◌∙◌, subst, arith}
use Rattle.ts_base.specs.declared.fault.StoreFault.{StoreFault}
use Rattle.ts_base.specs.declared.refusal.Refusal.{Refusal}
use Rattle.ts_command.specs.declared.command.Command.{Command}
use Rattle.ts_command.specs.declared.boundary.Boundary.{Boundary}
use Rattle.ts_command.specs.declared.boundary.Boundary.TheVariants.{Opens, Commits, RollsBack}
use Rattle.ts_command.specs.Boundary.{boundary_of, is_reading, is_between, is_writing}
use Rattle.ts_disk.specs.Device.{Device, Lawful, LeavesOnly}
use Rattle.ts_disk.proofs.Moments.{leaves_map}
use Rattle.ts_journal.specs.Journal.{Entry, entries_bytes}
use Rattle.ts_store.specs.OpenBatch.{AreInPlace, read_pages}
use Rattle.ts_store.specs.OpenBatch.{rolled_back as store_rolled_back}
use Rattle.ts_store.proofs.CallerLemmas.{reads_none}
use Rattle.ts_model.specs.Catalogue.{Catalogue}
use Rattle.ts_model.specs.Definitions.{Tables}
use Rattle.ts_space.specs.Directory.{Directory}
use Rattle.ts_layout.specs.Meaning.{Means, catalogue_of}
use Rattle.ts_answer.specs.Answer.{Answered, ◌>>=◌, State, Transaction, resting, opened, newest, newest_of, begun, outside, inside, carried_out_in, run_outcome, run_answer}
use Rattle.ts_answer.specs.Reply.{ok_line, number_line, refusal_line}
use Rattle.ts_engine.specs.declared.fault.StepFault.{StepFault}
use Rattle.ts_engine.specs.declared.fault.StepFault.TheVariants.{Disk, Memory, Closed}
use Rattle.ts_engine.specs.declared.transaction.Saved.{Saved}
use Rattle.ts_volume.specs.Volume.{MeansCatalogue}
use Rattle.ts_volume.proofs.CallerLemmas.{holds_still, same_means}
use Rattle.ts_answer.specs.View.{IsSeen}
use Rattle.ts_hidden.specs.Marks.{Cover, Include}
use Rattle.ts_hidden.proofs.CallerLemmas.{all_included}
use Rattle.ts_engine.specs.Engine.{Kept, AreMarked, IsStanding, IsReady, IsAt, seen_by, back_to}
use Rattle.ts_engine.specs.Moves.{BeforeOrAfter}
use Rattle.ts_engine.specs.Step.{state_after, ChangesNothing, IsCommit, Stepped}
use Rattle.ts_engine.specs.Change.{reply_of, IsStill, FinishLeaves, Finished, Dropped}
use Rattle.ts_engine.specs.Ended.{IsWant}
use Rattle.ts_engine.specs.Transaction.{misplaced_in, accepted_in, Begins, CommitsAll, RollsBackTo}
use Rattle.ts_engine.proofs.BoundaryLemmas.{begins_anew}
use Rattle.ts_effects.specs.Charged.{CanCount}
use Rattle.ts_effects.proofs.CallerLemmas.{charges_same, can_count}
use Rattle.ts_engine.proofs.StateLemmas.{accepted_of, accepted_by, misplaced_refused, run_answers, run_by, some_of}
use Rattle.ts_engine.proofs.StandLemmas.{kept_same, rules_same, still_none, standing_still, marked_of, seen_means, means_alike}
use Rattle.ts_engine.proofs.StepLemmas.{reads_between, never_nothing, stepped_refused, stepped_memory}
use Rattle.ts_engine.proofs.MovesLemmas.{read_moments, stands, rests, ready_resting, at_resting, at_meant}

-- What each comes to. One is begun where none is open.
begins_run : (command : Command) (base : Catalogue) (o : Option Transaction) → boundary_of command ≡ Some Opens → o ≡ None → carried_out_in command base o ≡ Ok (ok_line, opened base base 0)
unfolding outside ◌>>=◌
begins_run command base None is none =
    (λ i. begins_anew command is base i >>= λ (a : Answered). Ok (a.0, record { base = a.1; transaction = begun (boundary_of command) a.1 }))
    ∙ (λ i. Ok (ok_line, record { base = base; transaction = begun (is i) base }))
begins_run command base (Some t) is none = absurd (cc)

commits_run : (command : Command) (base : Catalogue) (p : Option Saved) (o : Option Transaction) → boundary_of command ≡ Some Commits → (p ≡ None → ⊥) → accepted_by p ≡ accepted_of o
    → carried_out_in command base o ≡ Ok (number_line (pos (accepted_in p)), resting (newest_of base o))
unfolding inside
commits_run command base None o is one same = absurd (one refl)
commits_run command base (Some s) None is one same = absurd (cc)
commits_run command base (Some s) (Some t) is one same =
    let count : t.accepted ≡ s.accepted = cc in
    (λ i. inside (is i) command base t.work t.accepted) ∙ (λ i. Ok (number_line (pos (count i)), resting t.work))

rolls_run : (command : Command) (base : Catalogue) (o : Option Transaction) → boundary_of command ≡ Some RollsBack → (o ≡ None → ⊥) → carried_out_in command base o ≡ Ok (ok_line, resting base)
unfolding inside
rolls_run command base None is one = absurd (one refl)
rolls_run command base (Some t) is one = λ i. inside (is i) command base t.work t.accepted

is_some_of : (o : Option Transaction) → (o ≡ None → ⊥) → IsSome o
is_some_of None one = absurd (one refl)
is_some_of (Some t) one = refl

-- what begins or ends a transaction doesn't only read
never_reads : (command : Command) (b : Boundary) → boundary_of command ≡ Some b → is_between (Some b) ≡ false → is_reading command ≡ true → ⊥
never_reads command b is not reads =
    let between = sym (ap is_between is) ∙ reads_between command reads in cc

module _ (tells : Bool) (command : Command) (e : Kept) (v : Device) (lawful : Lawful tells v) (ready : IsReady tells e v) where
  -- it is refused before all else, and nothing changes
  pub misplaced_step : (f : Kept) → f ≡ e → (refusal : Refusal) → misplaced_in (boundary_of command) (is_writing command) (accepted_by e.saved) ≡ Some refusal → Stepped tells command (Ok tt) (refusal_line refusal) e f v v
  misplaced_step f same refusal misplaced =
      subst (λ (k : Kept). Stepped tells command (Ok tt) (refusal_line refusal) e k v v) (sym same)
      (stepped_refused tells command e e v v ready (still_none tells e.store v lawful) ready.unspent refl refl refl (all_included e.hidden) refl refusal
      (λ told state at.
      run_by state command
      ∙ misplaced_refused command state.base (boundary_of command) refl state.transaction refusal
      (subst (λ (o : Option ℕ). misplaced_in (boundary_of command) (is_writing command) o ≡ Some refusal) at.accepted misplaced)))

  -- there is no memory for it
  pub wanting_step : (f : Kept) → f ≡ e → (error : AllocError) → Stepped tells command (Err (Memory error)) [] e f v v
  wanting_step f same error =
      subst (λ (k : Kept). Stepped tells command (Err (Memory error)) [] e k v v) (sym same)
      (stepped_memory tells command e e v v ready (still_none tells e.store v lawful) ready.unspent refl refl refl (all_included e.hidden) refl error)

  -- a transaction is begun
  module _ (opens : boundary_of command ≡ Some Opens) (none : e.saved ≡ None) (f : Kept) (begins : Begins e f) where
    abbrev begun_now : Kept
    begun_now = record e { saved = Some begins.copies }

    back_same : IsStill tells e.store (store_rolled_back e.store) v v
    back_same =
        let closed = ready.closed none in
        record {
          calls = record { pages = refl; journal = refl; overlay = refl; transaction = sym closed.transaction; kept_free = closed.base_free ∙ sym ready.idle.kept_free; base_free = refl; reads = reads_none tells v lawful; cached = λ told now. now };
          batch = sym ready.idle.batch;
          free = closed.base_free;
          no_fault = refl;
        }

    ready_begun : IsReady tells begun_now v
    ready_begun =
        let closed = ready.closed none in
        record {
          idle = ready.idle;
          seen = ready.seen;
          marked = ready.marked;
          base = standing_still tells e (back_to begun_now (Some begins.copies)) v v (record { idle = ready.idle; seen = ready.seen; marked = ready.marked }) back_same begins.definitions begins.lists (all_included e.hidden);
          closed = λ wrong. absurd (cc);
          small = record {
            few = omega (arith, begins.accepted);
            grown = omega (arith, ap (λ (es : List Entry). length (entries_bytes es)) closed.transaction, ap (λ (es : List Entry). length (entries_bytes es)) ready.idle.batch, ap (λ (ns : List ℕ). length ns) closed.base_free);
          };
          charges = ready.charges;
          unspent = ready.unspent;
        }

    run_begun : (state : State) → IsAt tells e state v → run_outcome (Ok command) state ≡ Ok (ok_line, opened state.base state.base 0)
    run_begun state at = run_by state command ∙ begins_run command state.base state.transaction opens (rests tells e v none state at)

    at_begun : (state : State) → IsAt tells e state v → IsAt tells begun_now (opened state.base state.base 0) v
    unfolding ready_begun
    at_begun state at = record {
      ready = ready_begun;
      means = at.means;
      newest = subst (Means e.store.pages (read_pages e.store v.held)) (ap (newest_of state.base) (rests tells e v none state at)) at.newest;
      accepted = ap (λ (n : ℕ). Some n) begins.accepted;
    }

    pub begun_step : Stepped tells command (Ok tt) ok_line e f v v
    unfolding ready_begun
    begun_step =
        let after : (state : State) → IsAt tells e state v → run_answer state (Ok command) ≡ (ok_line, opened state.base state.base 0) = λ state at. run_answers state command (ok_line, opened state.base state.base 0) (run_begun state at) in
        subst (λ (k : Kept). Stepped tells command (Ok tt) ok_line e k v v) (sym begins.now)
        (record {
          moves = record {
            ready = ready_begun;
            at = λ told state at. subst (λ (s : State). IsAt tells begun_now s v) (sym (ap (λ (a : List ℕ × State). a.1) (after state at))) (at_begun state at);
            fault = tt;
            moments = λ told. read_moments tells (state_after command) e v v ready (reads_none tells v lawful);
            others = (reads_none tells v lawful).keeps;
            no_fault = refl;
          };
          answered = λ told state at. sym (ap (λ (a : List ℕ × State). a.0) (after state at));
          reads = λ told state at nothing. reads_none tells v lawful;
          quiet = λ told state at no. reads_none tells v lawful;
          unchanged = λ told state at nothing. absurd (never_nothing state command (ok_line, opened state.base state.base 0) (run_begun state at) (never_reads command Opens opens refl) nothing);
          empty = λ err. absurd (cc);
        })

  -- it is rolled back
  module _ (ends : boundary_of command ≡ Some RollsBack) (s : Saved) (one : e.saved ≡ Some s) (f : Kept) (rolls : RollsBackTo e f s) where
    abbrev rolled_now : Kept
    rolled_now = record e {
      store = record (store_rolled_back e.store) { join_spare = f.store.join_spare };
      tables = s.defs;
      space = s.space;
      charges = f.charges;
      saved = None;
    }

    some : e.saved ≡ None → ⊥
    some none = cc

    ready_rolled : IsReady tells rolled_now v
    ready_rolled =
        ready_resting tells rolled_now v refl
        (standing_still tells (back_to e (Some s)) rolled_now v v (subst (λ (o : Option Saved). IsStanding tells (back_to e o) v) one ready.base)
        (record {
          calls = record { pages = refl; journal = refl; overlay = refl; transaction = refl; kept_free = refl; base_free = refl; reads = reads_none tells v lawful; cached = λ told now. now };
          batch = refl;
          free = refl;
          no_fault = refl;
        }) refl refl (all_included e.hidden))
        (record { transaction = refl; base_free = refl }) rolls.charges ready.unspent

    run_rolled : (state : State) → IsAt tells e state v → run_outcome (Ok command) state ≡ Ok (ok_line, resting state.base)
    run_rolled state at = run_by state command ∙ rolls_run command state.base state.transaction ends (some_of e.saved state.transaction at.accepted some)

    pub rolled_step : Stepped tells command (Ok tt) ok_line e f v v
    rolled_step =
        let after : (state : State) → IsAt tells e state v → run_answer state (Ok command) ≡ (ok_line, resting state.base) = λ state at. run_answers state command (ok_line, resting state.base) (run_rolled state at) in
        subst (λ (k : Kept). Stepped tells command (Ok tt) ok_line e k v v) (sym rolls.now)
        (record {
          moves = record {
            ready = ready_rolled;
            at = λ told state at. subst (λ (s : State). IsAt tells rolled_now s v) (sym (ap (λ (a : List ℕ × State). a.1) (after state at))) (at_meant tells rolled_now v lawful ready_rolled refl told state.base at.means);
            fault = tt;
            moments = λ told. read_moments tells (state_after command) e v v ready (reads_none tells v lawful);
            others = (reads_none tells v lawful).keeps;
            no_fault = refl;
          };
          answered = λ told state at. sym (ap (λ (a : List ℕ × State). a.0) (after state at));
          reads = λ told state at nothing. reads_none tells v lawful;
          quiet = λ told state at no. reads_none tells v lawful;
          unchanged = λ told state at nothing. absurd (never_nothing state command (ok_line, resting state.base) (run_rolled state at) (never_reads command RollsBack ends refl) nothing);
          empty = λ err. absurd (cc);
        })

  -- it is committed, or not
  module _ (ends : boundary_of command ≡ Some Commits) (one : e.saved ≡ None → ⊥) (f : Kept) (w : Device) (later : Lawful tells w) where
    abbrev line : List ℕ
    line = number_line (pos (accepted_in e.saved))

    run_committed : (state : State) → IsAt tells e state v → run_outcome (Ok command) state ≡ Ok (line, resting (newest state))
    run_committed state at = run_by state command ∙ commits_run command state.base e.saved state.transaction ends one at.accepted

    answer_committed : (state : State) → IsAt tells e state v → run_answer state (Ok command) ≡ (line, resting (newest state))
    answer_committed state at = run_answers state command (line, resting (newest state)) (run_committed state at)

    something : (state : State) → IsAt tells e state v → ChangesNothing state command → ⊥
    something state at nothing = never_nothing state command (line, resting (newest state)) (run_committed state at) (never_reads command Commits ends refl) nothing

    commits : (state : State) → IsAt tells e state v → IsCommit state command
    commits state at = inr (is_some_of state.transaction (some_of e.saved state.transaction at.accepted one), ends)

    -- the base before, or the work
    committed_moments : (said : Result Unit StoreFault) → (IsTrue tells → LeavesOnly v w (FinishLeaves said e.store v)) → IsTrue tells → (state : State) → IsAt tells e state v → LeavesOnly v w (BeforeOrAfter state (state_after command state) v)
    committed_moments said moments told state at =
        leaves_map v w (FinishLeaves said e.store v) (BeforeOrAfter state (state_after command state) v)
        (λ image said now. (
          ⊎_elim (λ old. inl (same_means v.held image state.base (old.size ∙ sym (lawful.size told)) old.sound old.alike at.means))
              (λ new.
              inr (subst (λ (s : State). MeansCatalogue image s.base) (sym (ap (λ (a : List ℕ × State). a.1) (answer_committed state at)))
              (means_alike tells e.store v (newest state) ready.idle image at.newest new.1))) now.0,
          now.1,
        )) (moments told)

    module _ (said : Result Unit StoreFault) (ended : Kept) (finished : Finished tells said (Ok tt) e ended v w) where
      abbrev done_now : Kept
      done_now = record ended { saved = None }

      same_definitions : ended.tables.definitions ≡ e.tables.definitions
      same_definitions = ap (λ (t : Tables). t.definitions) finished.tables

      same_lists : ended.space.lists ≡ e.space.lists
      same_lists = ap (λ (s : Directory). s.lists) finished.space

      seen_done : IsSeen tells (seen_by done_now w)
      seen_done = record {
        kept = rules_same e done_now ready.seen.kept same_definitions same_lists finished.count finished.free;
        layout = λ told.
            let known = ready.seen.layout told in (
              known.0,
              record {
                kept = kept_same e done_now known.0 known.1.kept same_definitions same_lists finished.count finished.free;
                holds = λ t. holds_still (read_pages e.store v.held) (read_pages ended.store w.held) known.0 (finished.alike t) (known.1.holds t);
              },
            );
      }

      marked_done : AreMarked tells done_now w
      unfolding seen_done
      marked_done =
          marked_of tells done_now w seen_done
          (λ told. subst (λ (marks : List (List ℕ)). Cover marks (catalogue_of (ready.seen.layout told).0)) (sym finished.hidden) (ready.marked told (catalogue_of (ready.seen.layout told).0) (seen_means tells e v ready.seen told)))

      standing_done : IsStanding tells done_now w
      standing_done = record {
        idle = record { over = finished.over; batch = finished.batch; kept_free = finished.kept_free ∙ sym finished.free };
        seen = seen_done;
        marked = marked_done;
      }

      ready_done : IsReady tells done_now w
      ready_done =
          ready_resting tells done_now w refl standing_done finished.closed
          (charges_same e.charges ended.charges e.tables.definitions ended.tables.definitions e.space ended.space ready.charges finished.charges same_definitions same_lists) (finished.spent ∙ ready.unspent)

      at_done : (told : IsTrue tells) (state : State) → IsAt tells e state v → IsAt tells done_now (resting (newest state)) w
      unfolding standing_done seen_done
      at_done told state at =
          at_resting tells done_now w later ready_done refl told (newest state)
          (subst (Means ended.store.pages (read_pages ended.store w.held)) (sym (stands tells e v ready told state at)) (seen_means tells done_now w standing_done.seen told))

      pub committed_step : f ≡ done_now → Stepped tells command (Ok tt) line e f v w
      committed_step is =
          subst (λ (k : Kept). Stepped tells command (Ok tt) line e k v w) (sym is)
          (record {
            moves = record {
              ready = ready_done;
              at = λ told state at. subst (λ (s : State). IsAt tells done_now s w) (sym (ap (λ (a : List ℕ × State). a.1) (answer_committed state at))) (at_done told state at);
              fault = tt;
              moments = committed_moments said finished.moments;
              others = finished.others;
              no_fault = finished.no_fault;
            };
            answered = λ told state at. sym (ap (λ (a : List ℕ × State). a.0) (answer_committed state at));
            reads = λ told state at nothing. absurd (something state at nothing);
            quiet = λ told state at no. absurd (no (commits state at));
            unchanged = λ told state at nothing. absurd (something state at nothing);
            empty = λ err. absurd (cc);
          })

    -- nothing was written
    still_uncommitted : (ended : Kept) → Dropped tells e ended v w → IsStill tells e.store ended.store v w
    still_uncommitted ended drop = record {
      calls = record {
        pages = drop.pages;
        journal = drop.journal;
        overlay = drop.overlay;
        transaction = drop.transaction;
        kept_free = drop.kept_free;
        base_free = drop.base_free;
        reads = drop.reads;
        cached = λ told now. subst (AreInPlace w.held) (sym drop.cache) (subst (λ (bytes : List ℕ). AreInPlace bytes e.store.cache) (sym drop.reads.held) now);
      };
      batch = drop.batch ∙ sym ready.idle.batch;
      free = drop.free ∙ ready.idle.kept_free;
      no_fault = drop.no_fault;
    }

    pub uncommitted_step : (fault : StepFault) → CommitsAll tells (Err fault) e f v w → Stepped tells command (Err fault) [] e f v w
    uncommitted_step Disk commits_all = record {
      moves = record {
        ready = tt;
        at = tt;
        fault = (⊎_elim (λ rose. rose) (λ failed. absurd (commits_all.cause failed)) commits_all.finished.fault.0, ap (λ (k : Kept). k.spent) commits_all.now ∙ commits_all.finished.fault.1);
        moments = committed_moments commits_all.said commits_all.finished.moments;
        others = commits_all.finished.others;
        no_fault = tt;
      };
      answered = tt;
      reads = λ told state at nothing. absurd (something state at nothing);
      quiet = λ told state at no. absurd (no (commits state at));
      unchanged = tt;
      empty = λ err. refl;
    }
    uncommitted_step (Memory error) commits_all =
        let ended = commits_all.ended in
        let f' : Kept = record ended { saved = f.saved } in
        let still = still_uncommitted ended commits_all.finished.fault.0 in
        subst (λ (k : Kept). Stepped tells command (Err (Memory error)) [] e k v w) (sym commits_all.now)
        (stepped_memory tells command e f' v w ready still (commits_all.finished.fault.0.spent ∙ ready.unspent)
        (ap (λ (t : Tables). t.definitions) commits_all.finished.tables) (ap (λ (s : Directory). s.lists) commits_all.finished.space) commits_all.finished.charges
        (subst (λ (marks : List (List ℕ)). Include marks e.hidden) (sym commits_all.finished.hidden) (all_included e.hidden)) commits_all.stays error)
    uncommitted_step (Closed faults) commits_all = absurd commits_all.finished.fault

-- the same, where the fault is passed on
pub by_fault : (tells : Bool) (command : Command) (r : Result Unit StepFault) (fault : StepFault) (out : List ℕ) (e f : Kept) (v w : Device) → IsErrAnd r (λ x. x ≡ fault) → Stepped tells command (Err fault) [] e f v w → Stepped tells command r (reply_of r out) e f v w
by_fault tells command (Ok done) fault out e f v w is stepped = absurd is
by_fault tells command (Err x) fault out e f v w is stepped = subst (λ (y : StepFault). Stepped tells command (Err y) [] e f v w) (sym is) stepped

-- where a command is in its place, none is open to begin one, and one to end it
pub opens_none : (w : Bool) (o : Option Saved) → misplaced_in (Some Opens) w (accepted_by o) ≡ None → o ≡ None
opens_none w None placed = refl
opens_none w (Some s) placed = absurd (cc)

pub commits_some : (w : Bool) (o : Option Saved) → misplaced_in (Some Commits) w (accepted_by o) ≡ None → o ≡ None → ⊥
commits_some w None placed none = absurd (cc)
commits_some w (Some s) placed none = cc

pub rolls_some : (w : Bool) (o : Option Saved) → misplaced_in (Some RollsBack) w (accepted_by o) ≡ None → o ≡ None → ⊥
rolls_some w None placed none = absurd (cc)
rolls_some w (Some s) placed none = cc

-- All that each answers.
module _ (tells : Bool) (command : Command) (e f : Kept) (v : Device) (lawful : Lawful tells v) (ready : IsReady tells e v) (r : Result Unit StepFault) (out : List ℕ) where
  wants : IfErr r (λ fault. IsWant fault × (f ≡ e)) → (stepped : OnOk r (Stepped tells command (Ok tt) out e f v v)) → Stepped tells command r (reply_of r out) e f v v
  wants err stepped = by r err stepped
    where
      by : (r : Result Unit StepFault) → IfErr r (λ fault. IsWant fault × (f ≡ e)) → OnOk r (Stepped tells command (Ok tt) out e f v v) → Stepped tells command r (reply_of r out) e f v v
      by (Ok tt) err stepped = stepped
      by (Err fault) err stepped = subst (λ (x : StepFault). Stepped tells command (Err x) [] e f v v) (sym err.0.1) (wanting_step tells command e v lawful ready f err.1 err.0.0)

  pub begins_step : boundary_of command ≡ Some Opens → e.saved ≡ None → OnOk r (out ≡ ok_line) → OnOk r (Begins e f) → IfErr r (λ fault. IsWant fault × (f ≡ e)) → Stepped tells command r (reply_of r out) e f v v
  begins_step opens none said begins err = wants err (by r said begins)
    where
      by : (r : Result Unit StepFault) → OnOk r (out ≡ ok_line) → OnOk r (Begins e f) → OnOk r (Stepped tells command (Ok tt) out e f v v)
      by (Ok tt) said begins = subst (λ (l : List ℕ). Stepped tells command (Ok tt) l e f v v) (sym said) (begun_step tells command e v lawful ready opens none f begins)
      by (Err fault) said begins = tt

  pub rolls_step : boundary_of command ≡ Some RollsBack → (e.saved ≡ None → ⊥) → OnOk r (out ≡ ok_line) → OnOk r (IfSome e.saved (RollsBackTo e f)) → IfErr r (λ fault. IsWant fault × (f ≡ e)) → Stepped tells command r (reply_of r out) e f v v
  rolls_step ends one said rolls err = wants err (by r said rolls)
    where
      there : (o : Option Saved) → e.saved ≡ o → IfSome o (RollsBackTo e f) → Stepped tells command (Ok tt) ok_line e f v v
      there None is rolls = absurd (one is)
      there (Some s) is rolls = rolled_step tells command e v lawful ready ends s is f rolls

      by : (r : Result Unit StepFault) → OnOk r (out ≡ ok_line) → OnOk r (IfSome e.saved (RollsBackTo e f)) → OnOk r (Stepped tells command (Ok tt) out e f v v)
      by (Ok tt) said rolls = subst (λ (l : List ℕ). Stepped tells command (Ok tt) l e f v v) (sym said) (there e.saved refl rolls)
      by (Err fault) said rolls = tt

  pub commits_step : (w : Device) → Lawful tells w → boundary_of command ≡ Some Commits → (e.saved ≡ None → ⊥) → OnOk r (out ≡ number_line (pos (accepted_in e.saved))) → CommitsAll tells r e f v w → Stepped tells command r (reply_of r out) e f v w
  commits_step w later ends one said all = by r said all
    where
      by : (r : Result Unit StepFault) → OnOk r (out ≡ number_line (pos (accepted_in e.saved))) → CommitsAll tells r e f v w → Stepped tells command r (reply_of r out) e f v w
      by (Ok tt) said all =
          subst (λ (l : List ℕ). Stepped tells command (Ok tt) l e f v w) (sym said)
          (committed_step tells command e v lawful ready ends one f w later all.said all.ended all.finished (all.now ∙ (λ i. record all.ended { saved = all.closed i })))
      by (Err fault) said all = uncommitted_step tells command e v lawful ready ends one f w later fault all

-- what containers are charged can be counted once it is rolled back
pub can_roll : (tells : Bool) (e : Kept) (v : Device) (o : Option Saved) → IsStanding tells (back_to e o) v → IfSome o (λ s. CanCount s.defs.definitions s.space.lists)
can_roll tells e v None standing = tt
can_roll tells e v (Some s) standing = can_count s.defs.definitions s.space e.store.base_free e.store.pages standing.seen.kept
