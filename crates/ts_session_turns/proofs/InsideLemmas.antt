-- A command of a session inside its transaction.
use Rattle.std.specs.declared.alloc.AllocError.{AllocError}
use Rattle.std.proofs.Common.{◌≡◌, inl, ⊎_elim, ℕ, ◌<◌, ◌≤◌, Bool, true, false, if◌then◌else◌, IsTrue, Option, Some, None, is_some, IfSome, Result, Ok, Err, List, [], ◌∷◌, ◌++◌, length, refl, ap, sym, ◌∙◌, subst, length-set, arith}
use Rattle.ts_base.specs.declared.refusal.Refusal.{Refusal}
use Rattle.ts_base.specs.declared.refusal.Refusal.TheVariants as refusals
use Rattle.ts_disk.specs.Device.{Device, Lawful, LeavesOnly}
use Rattle.ts_disk.proofs.Moments.{leaves_map}
use Rattle.ts_page.specs.Pages.{Contents}
use Rattle.ts_command.specs.declared.command.Command.{Command}
use Rattle.ts_command.specs.Boundary.{boundary_of, is_writing}
use Rattle.ts_command.specs.Form.{HasForm}
use Rattle.ts_model.specs.Catalogue.{Catalogue}
use Rattle.ts_multi.specs.declared.object.Touched.{Touched}
use Rattle.ts_multi.specs.Touched.{objects}
use Rattle.ts_multi.specs.Log.{Log, Pending, pending_at, with_noted, after_note}
use Rattle.ts_answer.specs.Answer.{Answered, Tried, answer, outcome, resting}
use Rattle.ts_answer.specs.Outcomes.{ends_with_ok}
use Rattle.ts_answer.specs.Reply.{refusal_line}
use Rattle.ts_sessions.specs.Machine.{Snapshot, Machine, latest, seen, snapshot_at, begun_at}
use Rattle.ts_sessions.specs.Steps.{step_of, with_command, with_snapshot}
use Rattle.ts_sessions.proofs.CallerLemmas.{accepted_answer, carried_more}
use Rattle.ts_views.specs.declared.view.View.{View}
use Rattle.ts_views.specs.View.{view_of, Turns}
use Rattle.ts_view_catalogues.specs.Catalogues.{IsViewReady, ViewMeans}
use Rattle.ts_session_engine.specs.Engine.{StepFault}
use Rattle.ts_session_engine.specs.Faults.{Disk, Memory, Closed}
use Rattle.ts_session_engine.specs.Engine.{Kept, IsReady}
use Rattle.ts_session_engine.specs.Engine.{BeforeOrAfter}
use Rattle.ts_session_engine.specs.Beside.{newest, OthersStay}
use Rattle.ts_session_engine.specs.Committed.{AreCommands, listed}
use Rattle.ts_session_engine.specs.Stepped.{ViewTurns, StepsView, noted_in}
use Rattle.ts_session_turns.specs.Hand.{Hand, hand, IsHandReady, IsAtMachine, ShowsSnapshot}
use Rattle.ts_session_turns.specs.Turned.{BeforeOrBehind, Turned}
use Rattle.ts_session_turns.proofs.AnswerLemmas.{ends_no, ends_yes, reads_only, refused_answer}
use Rattle.ts_session_turns.proofs.LogLemmas.{follows}
use Rattle.ts_session_turns.proofs.MachineLemmas.{inside_came, inside_full, inside_refused}
use Rattle.ts_session_turns.proofs.OpenLemmas.{open_there, within_there}
use Rattle.ts_session_turns.proofs.ReadyLemmas.{if_both, more_commands, others_alike, others_alike_with, others_commands, others_ready, turns_has, turns_is, turns_some}
use Rattle.ts_session_turns.proofs.StandLemmas.{others_show, others_show_with}
use Rattle.ts_session_turns.proofs.TurnedLemmas.{sound_then, turned_said}

-- what a command on a view does to it, where the view means a catalogue and has these commands
record Goes (command : Command) (out : List ℕ) (cat : Catalogue) (list : List Command) (after : Contents) (p : Option View) : Type 0 where
  view : View
  is : p ≡ Some view
  means : ViewMeans view after (answer cat (Ok command)).1
  said : out ≡ (answer cat (Ok command)).0
  noted : view.commands.items ≡ noted_in command (outcome (Ok command) cat) list

goes : (tells : Bool) → IsTrue tells → (command : Command) (out : List ℕ) (m : Machine) (s : Snapshot) (a b : Contents) (o p : Option View) → ShowsSnapshot m a o (Some s) → Turns (ViewTurns tells command (Ok tt) out a b) o p
    → Goes command out (seen m s) s.commands b p
goes tells told command out m s a b None p shows turns = absurd shows
goes tells told command out m s a b (Some x) None shows turns = absurd turns
goes tells told command out m s a b (Some x) (Some y) shows turns =
    let is = turns.answered told (seen m s) shows.1 in
    record {
      view = y;
      is = refl;
      means = is.means;
      said = is.said;
      noted = is.noted ∙ ap (λ (l : List Command). noted_in command (outcome (Ok command) (seen m s)) l) shows.0;
    }

-- where it lacked memory
wants : (tells : Bool) → IsTrue tells → (command : Command) (error : AllocError) (out : List ℕ) (m : Machine) (a b : Contents) (o p : Option View) (q : Option Snapshot) → ShowsSnapshot m a o q → Turns (ViewTurns tells command (Err (Memory error)) out a b) o p
    → ShowsSnapshot m b p q
wants tells told command error out m a b None None None shows turns = tt
wants tells told command error out m a b None None (Some s) shows turns = absurd shows
wants tells told command error out m a b None (Some y) q shows turns = absurd turns
wants tells told command error out m a b (Some x) None q shows turns = absurd turns
wants tells told command error out m a b (Some x) (Some y) None shows turns = absurd shows
wants tells told command error out m a b (Some x) (Some y) (Some s) shows turns = (turns.unnoted ∙ shows.0, turns.means told (seen m s) shows.1)

-- a view that goes so far shows a transaction with these commands
shown : (m : Machine) (s : Snapshot) (b : Contents) (p : Option View) (view : View) → p ≡ Some view → view.commands.items ≡ s.commands → ViewMeans view b (seen m s) → ShowsSnapshot m b p (Some s)
shown m s b p view is list means = subst (λ (o : Option View). ShowsSnapshot m b o (Some s)) (sym is) (list, means)

-- a transaction is there, whatever is noted in it
noted_some : (touched : Touched) (p : Option Pending) → is_some (with_noted touched p) ≡ is_some p
noted_some touched None = refl
noted_some touched (Some p) = refl

-- a transaction that has all that it may have takes no more
full_there : (m : Machine) (s : Snapshot) (a : Contents) (o : Option View) → ShowsSnapshot m a o (Some s) → 32 ≤ length (listed o) → 32 ≤ length s.commands
full_there m s a None shows full = absurd shows
full_there m s a (Some x) shows full = subst (λ (l : List Command). 32 ≤ length l) shows.0 full

pub full_turned : (tells : Bool) (who : ℕ) (command : Command) (e : Kept) (views : List (Option View)) (log : Log) (v : Device) → Lawful tells v → boundary_of command ≡ None → IsHandReady tells (hand e views log) v → is_some (pending_at who log) ≡ true
    → is_writing command ≡ true → 32 ≤ length (listed (view_of who views)) → (out : List ℕ) → out ≡ refusal_line refusals.TransactionFull → Turned tells who (Ok command) (Ok tt) out (hand e views log) (hand e views log) v v
full_turned tells who command e views log v lawful plain ready transaction writes full out said =
    turned_said tells who (Ok command) (hand e views log) v lawful ready (refusal_line refusals.TransactionFull) out said
    (λ told m at.
    let found = open_there tells (hand e views log) m v at who transaction in
    let shows = subst (λ (q : Option Snapshot). ShowsSnapshot m (newest e v) (view_of who views) q) found.1 (at.views who) in
    inside_full who command m plain found.0 found.1 writes (full_there m found.0 (newest e v) (view_of who views) shows full))

module _ (tells : Bool) (who : ℕ) (command : Command) (e f : Kept) (old new : List (Option View)) (log : Log) (v w : Device) (plain : boundary_of command ≡ None) (form : HasForm command) (within : who < length old)
    (ready : IsHandReady tells (hand e old log) v) (transaction : is_some (pending_at who log) ≡ true) (room : is_writing command ≡ true → IfSome (view_of who old) (λ x. length x.commands.items < 32)) where
  abbrev h : Hand
  h = hand e old log

  abbrev before : Contents
  before = newest e v

  abbrev after : Contents
  after = newest f w

  -- the view of the session has room, where the command writes
  few_by : (writes : Bool) → is_writing command ≡ writes → IfSome (view_of who old) (λ x. is_writing command ≡ true → length x.commands.items < 32)
  few_by true writes = each_so (view_of who old) (room writes)
    where
      each_so : (o : Option View) → IfSome o (λ x. length x.commands.items < 32) → IfSome o (λ x. is_writing command ≡ true → length x.commands.items < 32)
      each_so None few = tt
      each_so (Some x) few = λ is. few
  few_by false writes = none_so (view_of who old)
    where
      none_so : (o : Option View) → IfSome o (λ x. is_writing command ≡ true → length x.commands.items < 32)
      none_so None = tt
      none_so (Some x) = λ is. absurd (cc)

  few_in : (m : Machine) (s : Snapshot) (o : Option View) → ShowsSnapshot m before o (Some s) → IfSome o (λ x. is_writing command ≡ true → length x.commands.items < 32) → is_writing command ≡ true → length s.commands < 32
  few_in m s None shows few = absurd shows
  few_in m s (Some x) shows few = λ writes. subst (λ (l : List Command). length l < 32) shows.0 (few writes)

  -- on every volume, by what becomes of the views
  module _ (r : Result Unit StepFault) (out : List ℕ) (others : OthersStay tells who before after old new) (own : Turns (ViewTurns tells command r out before after) (view_of who old) (view_of who new)) where
    own_ready : IfSome (view_of who new) (λ x. IsViewReady tells x after)
    own_ready = turns_is (ViewTurns tells command r out before after) (λ x. IsViewReady tells x after) (λ x y turns. turns.ready) (view_of who old) (view_of who new) own

    own_commands : IfSome (view_of who new) (λ x. AreCommands x.commands.items)
    own_commands =
        turns_has (ViewTurns tells command r out before after) (λ x. AreCommands x.commands.items × (is_writing command ≡ true → length x.commands.items < 32)) (λ x. AreCommands x.commands.items)
        (λ x y turns has. more_commands command x.commands.items y.commands.items plain form has.0 has.1 turns.one_more) (view_of who old) (view_of who new) own
        (if_both (λ x. AreCommands x.commands.items) (λ x. is_writing command ≡ true → length x.commands.items < 32) (view_of who old) (ready.commands who) (few_by (is_writing command) refl))

    own_some : is_some (pending_at who log) ≡ is_some (view_of who new)
    own_some = ready.alike who ∙ sym (turns_some (ViewTurns tells command r out before after) (view_of who old) (view_of who new) own)

    -- with the same log, and with the command noted
    same_ready : IsReady tells f w → f.saved ≡ None → IsHandReady tells (hand f new log) w
    same_ready ready_f rests = record {
      beside = record { ready = ready_f; rests = rests; views = others_ready tells who before after old new others ready.beside.views own_ready };
      count = ready.count ∙ sym others.count;
      alike = others_alike tells who before after old new others log ready.alike own_some;
      commands = others_commands tells who before after old new others ready.commands own_commands;
    }

    noted_ready : (touched : Touched) → IsReady tells f w → f.saved ≡ None → IsHandReady tells (hand f new (after_note who touched log)) w
    noted_ready touched ready_f rests = record {
      beside = record { ready = ready_f; rests = rests; views = others_ready tells who before after old new others ready.beside.views own_ready };
      count = length-set log.sessions who (with_noted touched (pending_at who log)) ∙ ready.count ∙ sym others.count;
      alike = others_alike_with tells who before after old new others log (with_noted touched (pending_at who log)) (omega (arith, within, ready.count)) ready.alike (noted_some touched (pending_at who log) ∙ own_some);
      commands = others_commands tells who before after old new others ready.commands own_commands;
    }

  -- an image means what was committed last, which stays
  before_or_behind : (m next : Machine) (image said : List ℕ) → BeforeOrAfter (resting (latest m)) (resting (latest m)) v image said → BeforeOrBehind m next v image said
  before_or_behind m next image said now = (⊎_elim (λ was. inl was) (λ is. inl is) now.0, now.1)

  moments_of : (r : Result Unit StepFault) (out : List ℕ) → StepsView tells who command r out e f old new v w → IsTrue tells → (m : Machine) → IsAtMachine tells h m v → LeavesOnly v w (BeforeOrBehind m (step_of who (Ok command) m).1 v)
  moments_of r out steps told m at =
      leaves_map v w (BeforeOrAfter (resting (latest m)) (resting (latest m)) v) (BeforeOrBehind m (step_of who (Ok command) m).1 v) (before_or_behind m (step_of who (Ok command) m).1) (steps.proceeds.moments told (resting (latest m)) at.at)

  -- it was carried out
  module _ (out : List ℕ) (steps : StepsView tells who command (Ok tt) out e f old new v w) where
    module _ (told : IsTrue tells) (m : Machine) (at : IsAtMachine tells h m v) (s : Snapshot) (there : snapshot_at who m ≡ Some s) where
      shows_s : ShowsSnapshot m before (view_of who old) (Some s)
      shows_s = subst (λ (q : Option Snapshot). ShowsSnapshot m before (view_of who old) q) there (at.views who)

      few : is_writing command ≡ true → length s.commands < 32
      few = few_in m s (view_of who old) shows_s (few_by (is_writing command) refl)

      so_goes : Goes command out (seen m s) s.commands after (view_of who new)
      so_goes = goes tells told command out m s before after (view_of who old) (view_of who new) shows_s steps.own

      -- it stays with its commands
      stands_still : so_goes.view.commands.items ≡ s.commands → (answer (seen m s) (Ok command)).1 ≡ seen m s → IsAtMachine tells (hand f new log) m w
      stands_still list same = record {
        at = steps.proceeds.at told (resting (latest m)) at.at;
        log = at.log;
        views = others_show tells told m before after old new at.views who steps.others
            (subst (λ (q : Option Snapshot). ShowsSnapshot m after (view_of who new) q) (sym there)
            (shown m s after (view_of who new) so_goes.view so_goes.is list (subst (ViewMeans so_goes.view after) same so_goes.means)));
        sound = at.sound;
      }

      -- it is refused
      refused_at : (refusal : Refusal) → outcome (Ok command) (seen m s) ≡ Err refusal → (out ≡ (step_of who (Ok command) m).0) × IsAtMachine tells (hand f new log) (step_of who (Ok command) m).1 w
      refused_at refusal is =
          let step = inside_refused who command m plain s there few refusal is in
          let answers = refused_answer (seen m s) command refusal is in (
            so_goes.said ∙ (λ i. (answers i).0) ∙ sym (λ i. (step i).0),
            subst (λ (n : Machine). IsAtMachine tells (hand f new log) n w) (sym (λ i. (step i).1))
                (stands_still (so_goes.noted ∙ ap (λ (t : Tried Answered). noted_in command t s.commands) is) (λ i. (answers i).1)),
          )

      -- it only reads
      read_at : is_writing command ≡ false → (a : Answered) → outcome (Ok command) (seen m s) ≡ Ok a → (out ≡ (step_of who (Ok command) m).0) × IsAtMachine tells (hand f new log) (step_of who (Ok command) m).1 w
      read_at reads a is =
          let step = inside_came who command m plain s there few a is in
          let answers = accepted_answer (seen m s) command a is in
          let left : (step_of who (Ok command) m).1 ≡ m = (λ i. (step i).1) ∙ ap (λ (b : Bool). if b then with_snapshot who (Some (with_command command s)) m else m) reads in (
            so_goes.said ∙ (λ i. (answers i).0) ∙ sym (λ i. (step i).0),
            subst (λ (n : Machine). IsAtMachine tells (hand f new log) n w) (sym left)
                (stands_still (so_goes.noted ∙ ap (λ (t : Tried Answered). noted_in command t s.commands) is ∙ ap (λ (b : Bool). if b then s.commands ++ command ∷ [] else s.commands) reads)
                (reads_only (seen m s) command reads)),
          )

      -- it is accepted and noted
      noted_at : is_writing command ≡ true → (touched : Touched) → touched ≡ objects command → (a : Answered) → outcome (Ok command) (seen m s) ≡ Ok a
          → (out ≡ (step_of who (Ok command) m).0) × IsAtMachine tells (hand f new (after_note who touched log)) (step_of who (Ok command) m).1 w
      noted_at writes touched same a is =
          let more = with_command command s in
          let step = inside_came who command m plain s there few a is in
          let answers = accepted_answer (seen m s) command a is in
          let left : (step_of who (Ok command) m).1 ≡ with_snapshot who (Some more) m = (λ i. (step i).1) ∙ ap (λ (b : Bool). if b then with_snapshot who (Some more) m else m) writes in
          let list : so_goes.view.commands.items ≡ more.commands =
          so_goes.noted ∙ ap (λ (t : Tried Answered). noted_in command t s.commands) is ∙ ap (λ (b : Bool). if b then s.commands ++ command ∷ [] else s.commands) writes in
          let means : ViewMeans so_goes.view after (seen m more) = subst (ViewMeans so_goes.view after) (sym (carried_more (begun_at m s) s.commands command)) so_goes.means in (
            so_goes.said ∙ (λ i. (answers i).0) ∙ sym (λ i. (step i).0),
            subst (λ (n : Machine). IsAtMachine tells (hand f new (after_note who touched log)) n w) (sym left)
                (record {
                  at = steps.proceeds.at told (resting (latest m)) at.at;
                  log = (
                    false,
                    ap (λ (t : Touched). after_note who t log) same ∙ ap (after_note who (objects command)) at.log.1 ∙ sym ((follows who m at.log.0).notes s command there),
                  );
                  views = others_show_with tells told m before after old new at.views who (Some more) (within_there tells h m v at who ready.count within) steps.others
                      (shown m more after (view_of who new) so_goes.view so_goes.is list means);
                  sound = sound_then who (Ok command) m (with_snapshot who (Some more) m) (step_of who (Ok command) m).0 (λ i. ((step_of who (Ok command) m).0, left i)) at.sound;
                }),
          )

      -- by what it comes to
      left_by : (t : Tried Answered) → outcome (Ok command) (seen m s) ≡ t → (writes : Bool) → is_writing command ≡ writes → (is_writing command ≡ true → ends_with_ok out ≡ false)
          → (out ≡ (step_of who (Ok command) m).0) × IsAtMachine tells (hand f new log) (step_of who (Ok command) m).1 w
      left_by (Ok a) is true writes fails = let passes = ends_yes (seen m s) command out a plain so_goes.said is in let not = fails writes in absurd (cc)
      left_by (Ok a) is false reads fails = read_at reads a is
      left_by (Err refusal) is writes same fails = refused_at refusal is

      noted_by : (t : Tried Answered) → outcome (Ok command) (seen m s) ≡ t → is_writing command ≡ true → ends_with_ok out ≡ true → (touched : Touched) → touched ≡ objects command
          → (out ≡ (step_of who (Ok command) m).0) × IsAtMachine tells (hand f new (after_note who touched log)) (step_of who (Ok command) m).1 w
      noted_by (Ok a) is writes passes touched same = noted_at writes touched same a is
      noted_by (Err refusal) is writes passes touched same = let fails = ends_no (seen m s) command out refusal plain so_goes.said is in absurd (cc)

    -- it reads, or was refused
    pub left_inside : (is_writing command ≡ true → ends_with_ok out ≡ false) → Turned tells who (Ok command) (Ok tt) out h (hand f new log) v w
    left_inside fails = record {
      ready = same_ready (Ok tt) out steps.others steps.own steps.proceeds.ready (steps.rests ∙ ready.beside.rests);
      count = steps.others.count;
      few = omega arith;
      answered = λ told m at.
          let found = open_there tells h m v at who transaction in
          left_by told m at found.0 found.1 (outcome (Ok command) (seen m found.0)) refl (is_writing command) refl fails;
      stays = tt;
      disk = λ is. absurd (cc);
      closed = λ faults is. absurd (cc);
      moments = moments_of (Ok tt) out steps;
      others = steps.proceeds.others;
      no_fault = steps.proceeds.no_fault;
    }

    -- it writes and was accepted
    pub noted_inside : is_writing command ≡ true → ends_with_ok out ≡ true → (touched : Touched) → touched ≡ objects command → Turned tells who (Ok command) (Ok tt) out h (hand f new (after_note who touched log)) v w
    noted_inside writes passes touched same = record {
      ready = noted_ready (Ok tt) out steps.others steps.own touched steps.proceeds.ready (steps.rests ∙ ready.beside.rests);
      count = steps.others.count;
      few = omega arith;
      answered = λ told m at.
          let found = open_there tells h m v at who transaction in
          noted_by told m at found.0 found.1 (outcome (Ok command) (seen m found.0)) refl writes passes touched same;
      stays = tt;
      disk = λ is. absurd (cc);
      closed = λ faults is. absurd (cc);
      moments = moments_of (Ok tt) out steps;
      others = steps.proceeds.others;
      no_fault = steps.proceeds.no_fault;
    }

  -- it wasn't carried out
  pub faulted_inside : (fault : StepFault) (out said : List ℕ) → StepsView tells who command (Err fault) out e f old new v w → Turned tells who (Ok command) (Err fault) said h (hand f new log) v w
  faulted_inside Disk out said steps = record {
    ready = tt;
    count = tt;
    few = omega arith;
    answered = tt;
    stays = tt;
    disk = λ is. steps.proceeds.fault.0;
    closed = λ faults is. absurd (cc);
    moments = moments_of (Err Disk) out steps;
    others = steps.proceeds.others;
    no_fault = tt;
  }
  faulted_inside (Memory error) out said steps = record {
    ready = same_ready (Err (Memory error)) out steps.others steps.own steps.proceeds.fault.0 (steps.rests ∙ ready.beside.rests);
    count = steps.others.count;
    few = omega arith;
    answered = tt;
    stays = λ told m at. record {
      at = steps.proceeds.fault.1 told (resting (latest m)) at.at;
      log = at.log;
      views = others_show tells told m before after old new at.views who steps.others (wants tells told command error out m before after (view_of who old) (view_of who new) (snapshot_at who m) (at.views who) steps.own);
      sound = at.sound;
    };
    disk = λ is. absurd (cc);
    closed = λ faults is. absurd (cc);
    moments = moments_of (Err (Memory error)) out steps;
    others = steps.proceeds.others;
    no_fault = steps.proceeds.fault.2;
  }
  faulted_inside (Closed faults) out said steps = absurd steps.proceeds.fault

  -- one that only reads, whatever the call answers
  pub read_inside : (r : Result Unit StepFault) (out : List ℕ) → is_writing command ≡ false → StepsView tells who command r out e f old new v w → Turned tells who (Ok command) r out h (hand f new log) v w
  read_inside (Ok done) out reads steps = left_inside out steps (λ writes. absurd (cc))
  read_inside (Err fault) out reads steps = faulted_inside fault out out steps
