-- A command of a session without a transaction.
use Rattle.std.proofs.Common.{◌≡◌, inl, inr, ⊎_elim, ℕ, Bool, true, false, if◌then◌else◌, IsTrue, Option, None, is_some, Result, Ok, Err, List, [], ◌∷◌, length, refl, ap, sym, ◌∙◌, subst, arith}
use Rattle.std.proofs.lemmas.List.{length-append}
use Rattle.ts_base.specs.declared.refusal.Refusal.{Refusal}
use Rattle.ts_disk.specs.Device.{Device, LeavesOnly}
use Rattle.ts_disk.proofs.Moments.{leaves_map}
use Rattle.ts_page.specs.Pages.{Contents}
use Rattle.ts_command.specs.declared.command.Command.{Command}
use Rattle.ts_command.specs.Boundary.{boundary_of, is_writing}
use Rattle.ts_model.specs.Catalogue.{Catalogue}
use Rattle.ts_multi.specs.declared.object.Object.{Object}
use Rattle.ts_multi.specs.Touched.{objects}
use Rattle.ts_multi.specs.Log.{Log, Pending, pending_at}
use Rattle.ts_multi.specs.Log.{with_commit as with_commit_in_log}
use Rattle.ts_volume.specs.Volume.{MeansCatalogue}
use Rattle.ts_answer.specs.Answer.{Answered, Tried, answer, outcome, State, resting, committed}
use Rattle.ts_answer.specs.Outcomes.{ends_with_ok}
use Rattle.ts_answer.proofs.CallerLemmas.{plain_answer}
use Rattle.ts_sessions.specs.Machine.{Machine, latest, snapshot_at}
use Rattle.ts_sessions.specs.Steps.{step_of, with_commit}
use Rattle.ts_sessions.proofs.CallerLemmas.{accepted_answer, behind_commits_more}
use Rattle.ts_views.specs.declared.view.View.{View}
use Rattle.ts_session_engine.specs.Engine.{StepFault}
use Rattle.ts_session_engine.specs.Faults.{Disk, Memory, Closed}
use Rattle.ts_session_engine.specs.Engine.{Kept, IsReady, IsAt}
use Rattle.ts_session_engine.specs.Engine.{BeforeOrAfter}
use Rattle.ts_session_engine.specs.Engine.{state_after}
use Rattle.ts_session_engine.specs.Beside.{newest, AllStay}
use Rattle.ts_session_engine.specs.Stepped.{StepsBeside}
use Rattle.ts_session_turns.specs.Hand.{Hand, hand, IsHandReady, IsAtMachine}
use Rattle.ts_session_turns.specs.Turned.{BeforeOrBehind, Turned}
use Rattle.ts_session_turns.proofs.AnswerLemmas.{ends_no, ends_yes, reads_only, refused_answer}
use Rattle.ts_session_turns.proofs.LogLemmas.{follows}
use Rattle.ts_session_turns.proofs.MachineLemmas.{outside_no, outside_yes}
use Rattle.ts_session_turns.proofs.OpenLemmas.{closed_there}
use Rattle.ts_session_turns.proofs.ReadyLemmas.{all_alike, all_commands, all_ready, pending_is}
use Rattle.ts_session_turns.proofs.StandLemmas.{all_show, have_begun, show_commit}
use Rattle.ts_session_turns.proofs.TurnedLemmas.{sound_then}

-- the state after a command that neither begins nor ends a transaction, where none is open
plain_after : (cat : Catalogue) (command : Command) → boundary_of command ≡ None → state_after command (resting cat) ≡ resting (answer cat (Ok command)).1
plain_after cat command plain = ap (λ (a : List ℕ × State). a.1) (plain_answer cat command plain)

-- what was committed last behind it is what the catalogue answers
module _ (who : ℕ) (command : Command) (m : Machine) (plain : boundary_of command ≡ None) (none : snapshot_at who m ≡ None) where
  by_outcome : (t : Tried Answered) → outcome (Ok command) (latest m) ≡ t → (writes : Bool) → is_writing command ≡ writes → latest (step_of who (Ok command) m).1 ≡ (answer (latest m) (Ok command)).1
  by_outcome (Ok a) is true writes =
      let step = outside_yes who command m plain none a is in
      ap latest ((λ i. (step i).1) ∙ ap (λ (b : Bool). if b then with_commit a.1 (objects command).wrote m else m) writes)
      ∙ behind_commits_more m.first m.commits (record { catalogue = a.1; wrote = (objects command).wrote })
      ∙ sym (λ i. (accepted_answer (latest m) command a is i).1)
  by_outcome (Ok a) is false reads =
      let step = outside_yes who command m plain none a is in
      ap latest ((λ i. (step i).1) ∙ ap (λ (b : Bool). if b then with_commit a.1 (objects command).wrote m else m) reads)
      ∙ sym (reads_only (latest m) command reads)
  by_outcome (Err refusal) is writes same =
      let step = outside_no who command m plain none refusal is in
      ap latest (λ i. (step i).1) ∙ sym (λ i. (refused_answer (latest m) command refusal is i).1)

  pub latest_behind : latest (step_of who (Ok command) m).1 ≡ (answer (latest m) (Ok command)).1
  latest_behind = by_outcome (outcome (Ok command) (latest m)) refl (is_writing command) refl

module _ (tells : Bool) (who : ℕ) (command : Command) (e f : Kept) (old new : List (Option View)) (log : Log) (v w : Device) (plain : boundary_of command ≡ None) (ready : IsHandReady tells (hand e old log) v) (closed : is_some (pending_at who log) ≡ false) where
  abbrev h : Hand
  h = hand e old log

  abbrev before : Contents
  before = newest e v

  abbrev after : Contents
  after = newest f w

  -- on every volume, with a log that has the same transactions
  kept_ready : (other : Log) → other.sessions ≡ log.sessions → AllStay tells before after old new → IsReady tells f w → f.saved ≡ None → IsHandReady tells (hand f new other) w
  kept_ready other same stay ready_f rests = record {
    beside = record { ready = ready_f; rests = rests; views = all_ready tells before after old new stay ready.beside.views };
    count = ap length same ∙ ready.count ∙ sym stay.count;
    alike = λ k. ap (λ (l : List (Option Pending)). pending_is l k) same ∙ ready.alike k ∙ sym (all_alike tells before after old new stay k);
    commands = all_commands tells before after old new stay ready.commands;
  }

  -- an image means what was committed last, before it or behind it
  moments_of : (r : Result Unit StepFault) (out : List ℕ) → StepsBeside tells command r out e f old new v w → IsTrue tells → (m : Machine) → IsAtMachine tells h m v → LeavesOnly v w (BeforeOrBehind m (step_of who (Ok command) m).1 v)
  moments_of r out steps told m at =
      let none = closed_there tells h m v at who closed in
      let same : committed (state_after command (resting (latest m))) ≡ latest (step_of who (Ok command) m).1 = ap committed (plain_after (latest m) command plain) ∙ sym (latest_behind who command m plain none) in
      leaves_map v w (BeforeOrAfter (resting (latest m)) (state_after command (resting (latest m))) v) (BeforeOrBehind m (step_of who (Ok command) m).1 v)
      (λ image said now. (⊎_elim (λ was. inl was) (λ is. inr (subst (MeansCatalogue image) same is)) now.0, now.1)) (steps.proceeds.moments told (resting (latest m)) at.at)

  -- it was carried out
  module _ (out : List ℕ) (steps : StepsBeside tells command (Ok tt) out e f old new v w) where
    module _ (told : IsTrue tells) (m : Machine) (at : IsAtMachine tells h m v) where
      none : snapshot_at who m ≡ None
      none = closed_there tells h m v at who closed

      said : out ≡ (answer (latest m) (Ok command)).0
      said = steps.stepped.answered told (resting (latest m)) at.at ∙ ap (λ (a : List ℕ × State). a.0) (plain_answer (latest m) command plain)

      engine : IsAt tells f (resting (answer (latest m) (Ok command)).1) w
      engine = subst (λ (s : State). IsAt tells f s w) (plain_after (latest m) command plain) (steps.proceeds.at told (resting (latest m)) at.at)

      -- the machine stays
      stands_still : (answer (latest m) (Ok command)).1 ≡ latest m → IsAtMachine tells (hand f new log) m w
      stands_still same = record {
        at = subst (λ (c : Catalogue). IsAt tells f (resting c) w) same engine;
        log = at.log;
        views = all_show tells told m before after old new at.views steps.views;
        sound = at.sound;
      }

      refused_at : (refusal : Refusal) → outcome (Ok command) (latest m) ≡ Err refusal → (out ≡ (step_of who (Ok command) m).0) × IsAtMachine tells (hand f new log) (step_of who (Ok command) m).1 w
      refused_at refusal is =
          let step = outside_no who command m plain none refusal is in
          let answers = refused_answer (latest m) command refusal is in (
            said ∙ (λ i. (answers i).0) ∙ sym (λ i. (step i).0),
            subst (λ (n : Machine). IsAtMachine tells (hand f new log) n w) (sym (λ i. (step i).1)) (stands_still (λ i. (answers i).1)),
          )

      read_at : is_writing command ≡ false → (a : Answered) → outcome (Ok command) (latest m) ≡ Ok a → (out ≡ (step_of who (Ok command) m).0) × IsAtMachine tells (hand f new log) (step_of who (Ok command) m).1 w
      read_at reads a is =
          let step = outside_yes who command m plain none a is in
          let answers = accepted_answer (latest m) command a is in
          let left : (step_of who (Ok command) m).1 ≡ m = (λ i. (step i).1) ∙ ap (λ (b : Bool). if b then with_commit a.1 (objects command).wrote m else m) reads in (
            said ∙ (λ i. (answers i).0) ∙ sym (λ i. (step i).0),
            subst (λ (n : Machine). IsAtMachine tells (hand f new log) n w) (sym left) (stands_still (reads_only (latest m) command reads)),
          )

      -- one commit more
      commit_at : is_writing command ≡ true → (wrote : List Object) → wrote ≡ (objects command).wrote → (a : Answered) → outcome (Ok command) (latest m) ≡ Ok a
          → (out ≡ (step_of who (Ok command) m).0) × IsAtMachine tells (hand f new (with_commit_in_log wrote log)) (step_of who (Ok command) m).1 w
      commit_at writes wrote same a is =
          let step = outside_yes who command m plain none a is in
          let answers = accepted_answer (latest m) command a is in
          let next = with_commit a.1 (objects command).wrote m in
          let left : (step_of who (Ok command) m).1 ≡ next = (λ i. (step i).1) ∙ ap (λ (b : Bool). if b then with_commit a.1 (objects command).wrote m else m) writes in
          let newest_is : (answer (latest m) (Ok command)).1 ≡ latest next = (λ i. (answers i).1) ∙ sym (behind_commits_more m.first m.commits (record { catalogue = a.1; wrote = (objects command).wrote })) in (
            said ∙ (λ i. (answers i).0) ∙ sym (λ i. (step i).0),
            subst (λ (n : Machine). IsAtMachine tells (hand f new (with_commit_in_log wrote log)) n w) (sym left)
                (record {
                  at = subst (λ (c : Catalogue). IsAt tells f (resting c) w) newest_is engine;
                  log = (
                    false,
                    ap (λ (l : List Object). with_commit_in_log l log) same ∙ ap (with_commit_in_log (objects command).wrote) at.log.1 ∙ sym ((follows who m at.log.0).alone command a.1),
                  );
                  views = show_commit m a.1 (objects command).wrote after new (have_begun m at.sound) (all_show tells told m before after old new at.views steps.views);
                  sound = sound_then who (Ok command) m next (step_of who (Ok command) m).0 (λ i. ((step_of who (Ok command) m).0, left i)) at.sound;
                }),
          )

      left_by : (t : Tried Answered) → outcome (Ok command) (latest m) ≡ t → (writes : Bool) → is_writing command ≡ writes → (is_writing command ≡ true → ends_with_ok out ≡ false)
          → (out ≡ (step_of who (Ok command) m).0) × IsAtMachine tells (hand f new log) (step_of who (Ok command) m).1 w
      left_by (Ok a) is true writes fails = let passes = ends_yes (latest m) command out a plain said is in let not = fails writes in absurd (cc)
      left_by (Ok a) is false reads fails = read_at reads a is
      left_by (Err refusal) is writes same fails = refused_at refusal is

      commit_by : (t : Tried Answered) → outcome (Ok command) (latest m) ≡ t → is_writing command ≡ true → ends_with_ok out ≡ true → (wrote : List Object) → wrote ≡ (objects command).wrote
          → (out ≡ (step_of who (Ok command) m).0) × IsAtMachine tells (hand f new (with_commit_in_log wrote log)) (step_of who (Ok command) m).1 w
      commit_by (Ok a) is writes passes wrote same = commit_at writes wrote same a is
      commit_by (Err refusal) is writes passes wrote same = let fails = ends_no (latest m) command out refusal plain said is in absurd (cc)

    -- it reads, or was refused
    pub left_outside : (is_writing command ≡ true → ends_with_ok out ≡ false) → Turned tells who (Ok command) (Ok tt) out h (hand f new log) v w
    left_outside fails = record {
      ready = kept_ready log refl steps.views steps.proceeds.ready (steps.rests ∙ ready.beside.rests);
      count = steps.views.count;
      few = omega arith;
      answered = λ told m at. left_by told m at (outcome (Ok command) (latest m)) refl (is_writing command) refl fails;
      stays = tt;
      disk = λ is. absurd (cc);
      closed = λ faults is. absurd (cc);
      moments = moments_of (Ok tt) out steps;
      others = steps.proceeds.others;
      no_fault = steps.proceeds.no_fault;
    }

    -- it writes and was accepted: a commit of its own
    pub commit_outside : is_writing command ≡ true → ends_with_ok out ≡ true → (wrote : List Object) → wrote ≡ (objects command).wrote → Turned tells who (Ok command) (Ok tt) out h (hand f new (with_commit_in_log wrote log)) v w
    commit_outside writes passes wrote same = record {
      ready = kept_ready (with_commit_in_log wrote log) refl steps.views steps.proceeds.ready (steps.rests ∙ ready.beside.rests);
      count = steps.views.count;
      few = omega (arith, length-append log.commits (wrote ∷ []));
      answered = λ told m at. commit_by told m at (outcome (Ok command) (latest m)) refl writes passes wrote same;
      stays = tt;
      disk = λ is. absurd (cc);
      closed = λ faults is. absurd (cc);
      moments = moments_of (Ok tt) out steps;
      others = steps.proceeds.others;
      no_fault = steps.proceeds.no_fault;
    }

  -- it wasn't carried out
  pub faulted_outside : (fault : StepFault) (out said : List ℕ) → StepsBeside tells command (Err fault) out e f old new v w → Turned tells who (Ok command) (Err fault) said h (hand f new log) v w
  faulted_outside Disk out said steps = record {
    ready = tt;
    count = tt;
    few = omega arith;
    answered = tt;
    stays = tt;
    disk = λ is. steps.proceeds.fault.0;
    closed = λ faults is. absurd (cc);
    moments = moments_of (Err Disk) out steps;
    others = steps.proceeds.others;
    no_fault = tt;
  }
  faulted_outside (Memory error) out said steps = record {
    ready = kept_ready log refl steps.views steps.proceeds.fault.0 (steps.rests ∙ ready.beside.rests);
    count = steps.views.count;
    few = omega arith;
    answered = tt;
    stays = λ told m at. record {
      at = steps.proceeds.fault.1 told (resting (latest m)) at.at;
      log = at.log;
      views = all_show tells told m before after old new at.views steps.views;
      sound = at.sound;
    };
    disk = λ is. absurd (cc);
    closed = λ faults is. absurd (cc);
    moments = moments_of (Err (Memory error)) out steps;
    others = steps.proceeds.others;
    no_fault = steps.proceeds.fault.2;
  }
  faulted_outside (Closed faults) out said steps = absurd steps.proceeds.fault

  -- one that only reads, whatever the call answers
  pub read_outside : (r : Result Unit StepFault) (out : List ℕ) → is_writing command ≡ false → StepsBeside tells command r out e f old new v w → Turned tells who (Ok command) r out h (hand f new log) v w
  read_outside (Ok done) out reads steps = left_outside out steps (λ writes. absurd (cc))
  read_outside (Err fault) out reads steps = faulted_outside fault out out steps
