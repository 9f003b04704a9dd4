-- The transaction of a session is committed.
use Rattle.std.proofs.Common.{◌≡◌, inl, inr, ⊎_elim, ℕ, ◌+◌, ◌<◌, ◌≤◌, Bool, true, false, pos, IsTrue, Option, Some, None, is_some, IfSome, Result, Ok, Err, List, [], ◌∷◌, length, set, map, refl, ap, sym, ◌∙◌, subst, length-set, arith}
use Rattle.std.proofs.lemmas.List.{length-append}
use Rattle.ts_base.specs.declared.refusal.Refusal.{Refusal}
use Rattle.ts_disk.specs.Device.{Device, LeavesOnly}
use Rattle.ts_disk.proofs.Moments.{leaves_map}
use Rattle.ts_page.specs.Pages.{Contents}
use Rattle.ts_command.specs.declared.command.Command.{Command}
use Rattle.ts_command.specs.declared.boundary.Boundary.TheVariants.{Commits}
use Rattle.ts_command.specs.Boundary.{boundary_of}
use Rattle.ts_model.specs.Catalogue.{Catalogue}
use Rattle.ts_multi.specs.Objects.{written}
use Rattle.ts_multi.specs.Touched.{objects}
use Rattle.ts_multi.specs.Log.{Log, Pending, pending_at, conflict_of, wrote_of, after_commit, after_end}
use Rattle.ts_volume.specs.Volume.{MeansCatalogue}
use Rattle.ts_answer.specs.Reply.{Tried, number_line, refusal_line}
use Rattle.ts_answer.specs.Answer.{resting, committed}
use Rattle.ts_sessions.specs.Machine.{Snapshot, Machine, latest, snapshot_at, replayed, conflict}
use Rattle.ts_sessions.specs.Steps.{step_of, with_commit, with_snapshot}
use Rattle.ts_sessions.proofs.CallerLemmas.{behind_commits_more}
use Rattle.ts_views.specs.declared.view.View.{View}
use Rattle.ts_views.specs.View.{view_of}
use Rattle.ts_view_catalogues.specs.Catalogues.{IsViewReady}
use Rattle.ts_session_engine.specs.Engine.{StepFault}
use Rattle.ts_session_engine.specs.Faults.{Disk, Memory, Closed}
use Rattle.ts_session_engine.specs.Engine.{Kept, IsAt}
use Rattle.ts_session_engine.specs.Engine.{BeforeOrAfter}
use Rattle.ts_session_engine.specs.Beside.{newest, AllStay}
use Rattle.ts_session_engine.specs.Committed.{AreCommands, CommitsView, IsCommitReply, come_to, commands_of, listed, state_behind}
use Rattle.ts_session_turns.specs.Hand.{Hand, hand, IsHandReady, IsAtMachine, ShowsSnapshot}
use Rattle.ts_session_turns.specs.Turned.{BeforeOrBehind, Turned}
use Rattle.ts_session_turns.proofs.LogLemmas.{follows}
use Rattle.ts_session_turns.proofs.MachineLemmas.{commits_done, commits_refused}
use Rattle.ts_session_turns.proofs.OpenLemmas.{conflict_there, open_there, within_there}
use Rattle.ts_session_turns.proofs.ReadyLemmas.{all_alike, all_commands, all_of, all_ready, others_alike_with, others_commands, others_ready, pending_is}
use Rattle.ts_session_turns.proofs.StandLemmas.{all_show, begun_without, others_show_with, show_commit}
use Rattle.ts_session_turns.proofs.TurnedLemmas.{sound_then}

-- the commands of a view that shows a transaction are those of the transaction
listed_is : (m : Machine) (s : Snapshot) (a : Contents) (o : Option View) → ShowsSnapshot m a o (Some s) → listed o ≡ s.commands
listed_is m s a None shows = absurd shows
listed_is m s a (Some x) shows = shows.0

-- an open view has such commands as a transaction may have
pub commands_ready : (o : Option View) → IfSome o (λ x. AreCommands x.commands.items) → AreCommands (listed o)
commands_ready None are = record {
  few = omega arith;
  writing = λ k d within. absurd (omega (arith, within));
  between = λ k d within. absurd (omega (arith, within));
  form = λ k d within. absurd (omega (arith, within));
}
commands_ready (Some x) are = are

-- the log behind a commit that was made, or wasn't
abbrev pub log_behind : Bool → ℕ → Log → Log
log_behind true who log = after_commit who log
log_behind false who log = after_end who log

sessions_behind : (done : Bool) (who : ℕ) (log : Log) → (log_behind done who log).sessions ≡ set log.sessions who None
sessions_behind true who log = refl
sessions_behind false who log = refl

few_behind : (done : Bool) (who : ℕ) (log : Log) → length (log_behind done who log).commits ≤ length log.commits + 1
few_behind true who log = omega (arith, length-append log.commits (wrote_of (pending_at who log) ∷ []))
few_behind false who log = omega arith

-- what was committed last behind it is what the commands come to
module _ (who : ℕ) (command : Command) (m : Machine) (s : Snapshot) (commits : boundary_of command ≡ Some Commits) (at : snapshot_at who m ≡ Some s) (free : conflict m s ≡ None) where
  abbrev after_all : Catalogue → Machine
  after_all cat = with_commit cat (written (map objects s.commands)) (with_snapshot who None m)

  latest_after : (cat : Catalogue) → latest (after_all cat) ≡ cat
  latest_after cat = behind_commits_more m.first m.commits (record { catalogue = cat; wrote = written (map objects s.commands) })

  latest_by : (t : Tried Catalogue) → replayed (latest m) s.commands ≡ t → latest (step_of who (Ok command) m).1 ≡ come_to (latest m) t
  latest_by (Ok cat) is = ap latest (λ i. (commits_done who command m s commits at cat free is i).1) ∙ latest_after cat
  latest_by (Err refusal) is = ap latest (λ i. (commits_refused who command m s commits at refusal free is i).1)

module _ (tells : Bool) (who : ℕ) (command : Command) (e f : Kept) (old new : List (Option View)) (log : Log) (v w : Device) (commits : boundary_of command ≡ Some Commits) (within : who < length old) (ready : IsHandReady tells (hand e old log) v)
    (transaction : is_some (pending_at who log) ≡ true) (free : conflict_of (pending_at who log) log.commits ≡ None) where
  abbrev h : Hand
  h = hand e old log

  abbrev before : Contents
  before = newest e v

  abbrev after : Contents
  after = newest f w

  abbrev list : List Command
  list = commands_of who old

  module _ (told : IsTrue tells) (m : Machine) (at : IsAtMachine tells h m v) (s : Snapshot) (there : snapshot_at who m ≡ Some s) where
    same_list : list ≡ s.commands
    same_list = listed_is m s before (view_of who old) (subst (λ (q : Option Snapshot). ShowsSnapshot m before (view_of who old) q) there (at.views who))

    free_there : conflict m s ≡ None
    free_there = sym (conflict_there tells h m v at who s there) ∙ free

    replayed_is : replayed (latest m) list ≡ replayed (latest m) s.commands
    replayed_is = ap (replayed (latest m)) same_list

    -- the state behind it
    committed_is : committed (state_behind list (resting (latest m))) ≡ latest (step_of who (Ok command) m).1
    committed_is = ap (come_to (latest m)) replayed_is ∙ sym (latest_by who command m s commits there free_there (replayed (latest m) s.commands) refl)

    -- an image means what was committed last, before it or behind it
    moments_there : (r : Result Bool StepFault) (out : List ℕ) → CommitsView tells who list r out e f old new v w → LeavesOnly v w (BeforeOrBehind m (step_of who (Ok command) m).1 v)
    moments_there r out steps =
        leaves_map v w (BeforeOrAfter (resting (latest m)) (state_behind list (resting (latest m))) v) (BeforeOrBehind m (step_of who (Ok command) m).1 v)
        (λ image said now. (⊎_elim (λ was. inl was) (λ is. inr (subst (MeansCatalogue image) committed_is is)) now.0, now.1)) (steps.proceeds.moments told (resting (latest m)) at.at)

    -- it was made, or refused
    module _ (done : Bool) (out : List ℕ) (steps : CommitsView tells who list (Ok done) out e f old new v w) where
      replies : IsCommitReply (length list) (replayed (latest m) s.commands) done out
      replies = subst (λ (t : Tried Catalogue). IsCommitReply (length list) t done out) replayed_is (steps.answered told (latest m) at.at)

      engine : IsAt tells f (resting (come_to (latest m) (replayed (latest m) s.commands))) w
      engine = subst (λ (t : Tried Catalogue). IsAt tells f (resting (come_to (latest m) t)) w) replayed_is (steps.proceeds.at told (resting (latest m)) at.at)

      -- without that transaction
      shows_without : (k : ℕ) → ShowsSnapshot (with_snapshot who None m) after (view_of k new) (snapshot_at k (with_snapshot who None m))
      shows_without =
          others_show_with tells told m before after old new at.views who None (within_there tells h m v at who ready.count within) steps.others
          (subst (λ (o : Option View). ShowsSnapshot m after o None) (sym steps.closed) tt)

      made_at : (cat : Catalogue) → replayed (latest m) s.commands ≡ Ok cat → done ≡ true → out ≡ number_line (pos (length list)) → (out ≡ (step_of who (Ok command) m).0) × IsAtMachine tells (hand f new (log_behind done who log)) (step_of who (Ok command) m).1 w
      made_at cat is passes said =
          let step = commits_done who command m s commits there cat free_there is in
          let next = after_all who command m s commits there free_there cat in
          let stands : IsAtMachine tells (hand f new (after_commit who log)) next w = record {
            at = subst (λ (c : Catalogue). IsAt tells f (resting c) w) (ap (come_to (latest m)) is ∙ sym (latest_after who command m s commits there free_there cat)) engine;
            log = (false, ap (after_commit who) at.log.1 ∙ sym ((follows who m at.log.0).commits s cat there));
            views = show_commit (with_snapshot who None m) cat (written (map objects s.commands)) after new (begun_without m who at.sound) shows_without;
            sound = sound_then who (Ok command) m next (number_line (pos (length s.commands))) step at.sound;
          } in (
            said ∙ ap (λ (l : List Command). number_line (pos (length l))) same_list ∙ sym (λ i. (step i).0),
            subst (λ (n : Machine). IsAtMachine tells (hand f new (log_behind done who log)) n w) (sym (λ i. (step i).1))
                (subst (λ (b : Bool). IsAtMachine tells (hand f new (log_behind b who log)) next w) (sym passes) stands),
          )

      refused_at : (refusal : Refusal) → replayed (latest m) s.commands ≡ Err refusal → done ≡ false → out ≡ refusal_line refusal → (out ≡ (step_of who (Ok command) m).0) × IsAtMachine tells (hand f new (log_behind done who log)) (step_of who (Ok command) m).1 w
      refused_at refusal is fails said =
          let step = commits_refused who command m s commits there refusal free_there is in
          let next = with_snapshot who None m in
          let stands : IsAtMachine tells (hand f new (after_end who log)) next w = record {
            at = subst (λ (c : Catalogue). IsAt tells f (resting c) w) (ap (come_to (latest m)) is) engine;
            log = (at.log.0, ap (after_end who) at.log.1 ∙ sym (follows who m at.log.0).ends);
            views = shows_without;
            sound = sound_then who (Ok command) m next (refusal_line refusal) step at.sound;
          } in (
            said ∙ sym (λ i. (step i).0),
            subst (λ (n : Machine). IsAtMachine tells (hand f new (log_behind done who log)) n w) (sym (λ i. (step i).1))
                (subst (λ (b : Bool). IsAtMachine tells (hand f new (log_behind b who log)) next w) (sym fails) stands),
          )

      answered_by : (t : Tried Catalogue) → replayed (latest m) s.commands ≡ t → IsCommitReply (length list) t done out → (out ≡ (step_of who (Ok command) m).0) × IsAtMachine tells (hand f new (log_behind done who log)) (step_of who (Ok command) m).1 w
      answered_by (Ok cat) is reply = made_at cat is reply.0 reply.1
      answered_by (Err refusal) is reply = refused_at refusal is reply.0 reply.1

      answered_there : (out ≡ (step_of who (Ok command) m).0) × IsAtMachine tells (hand f new (log_behind done who log)) (step_of who (Ok command) m).1 w
      answered_there = answered_by (replayed (latest m) s.commands) refl replies

  -- it was made, or refused: the transaction has ended
  pub committed_turned : (done : Bool) (out : List ℕ) → CommitsView tells who list (Ok done) out e f old new v w → Turned tells who (Ok command) (Ok tt) out h (hand f new (log_behind done who log)) v w
  committed_turned done out steps = record {
    ready = record {
      beside = record {
        ready = steps.proceeds.ready;
        rests = steps.rests;
        views = others_ready tells who before after old new steps.others ready.beside.views (subst (λ (o : Option View). IfSome o (λ x. IsViewReady tells x after)) (sym steps.closed) tt);
      };
      count = ap length (sessions_behind done who log) ∙ length-set log.sessions who None ∙ ready.count ∙ sym steps.others.count;
      alike = λ k.
          ap (λ (l : List (Option Pending)). pending_is l k) (sessions_behind done who log)
          ∙ others_alike_with tells who before after old new steps.others log None (omega (arith, within, ready.count)) ready.alike (sym (ap is_some steps.closed)) k;
      commands = others_commands tells who before after old new steps.others ready.commands (subst (λ (o : Option View). IfSome o (λ x. AreCommands x.commands.items)) (sym steps.closed) tt);
    };
    count = steps.others.count;
    few = few_behind done who log;
    answered = λ told m at. let found = open_there tells h m v at who transaction in answered_there told m at found.0 found.1 done out steps;
    stays = tt;
    disk = λ is. absurd (cc);
    closed = λ faults is. absurd (cc);
    moments = λ told m at. let found = open_there tells h m v at who transaction in moments_there told m at found.0 found.1 (Ok done) out steps;
    others = steps.proceeds.others;
    no_fault = steps.proceeds.no_fault;
  }

  -- it wasn't done
  pub faulted_commit : (fault : StepFault) (out said : List ℕ) → CommitsView tells who list (Err fault) out e f old new v w → Turned tells who (Ok command) (Err fault) said h (hand f new log) v w
  faulted_commit Disk out said steps = record {
    ready = tt;
    count = tt;
    few = omega arith;
    answered = tt;
    stays = tt;
    disk = λ is. steps.proceeds.fault.0;
    closed = λ faults is. absurd (cc);
    moments = λ told m at. let found = open_there tells h m v at who transaction in moments_there told m at found.0 found.1 (Err Disk) out steps;
    others = steps.proceeds.others;
    no_fault = tt;
  }
  faulted_commit (Memory error) out said steps =
      let stay : AllStay tells before after old new = all_of tells who before after old new steps.others steps.kept in
      record {
        ready = record {
          beside = record { ready = steps.proceeds.fault.0; rests = steps.rests; views = all_ready tells before after old new stay ready.beside.views };
          count = ready.count ∙ sym stay.count;
          alike = λ k. ready.alike k ∙ sym (all_alike tells before after old new stay k);
          commands = all_commands tells before after old new stay ready.commands;
        };
        count = stay.count;
        few = omega arith;
        answered = tt;
        stays = λ told m at. record {
          at = steps.proceeds.fault.1 told (resting (latest m)) at.at;
          log = at.log;
          views = all_show tells told m before after old new at.views stay;
          sound = at.sound;
        };
        disk = λ is. absurd (cc);
        closed = λ faults is. absurd (cc);
        moments = λ told m at. let found = open_there tells h m v at who transaction in moments_there told m at found.0 found.1 (Err (Memory error)) out steps;
        others = steps.proceeds.others;
        no_fault = steps.proceeds.fault.2;
      }
  faulted_commit (Closed faults) out said steps = absurd steps.proceeds.fault
