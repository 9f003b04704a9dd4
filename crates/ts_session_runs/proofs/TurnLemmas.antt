-- A turn of a session is a run of one item.
use Rattle.std.specs.declared.alloc.AllocError.{AllocError}
use Rattle.std.proofs.Common.{◌≡◌, inl, inr, ⊎_elim, ℕ, ◌+◌, ◌-◌, ◌≤◌, Bool, Some, Result, Ok, Err, IsErr, IsErrAnd, List, [], ◌∷◌, ◌++◌, codes, length, refl, ap, sym, ◌∙◌, subst, arith}
use Rattle.std.specs.Fmt.{digits}
use Rattle.std.proofs.lemmas.List.{append-nil}
use Rattle.ts_base.specs.declared.fault.Trouble.{Trouble}
use Rattle.ts_base.specs.declared.fault.Trouble.TheVariants.{Refused}
use Rattle.ts_base.specs.declared.refusal.Refusal.{Refusal}
use Rattle.ts_base.specs.declared.refusal.Refusal.TheVariants as refusals
use Rattle.ts_disk.specs.Device.{Device, Lawful, LeavesOnly}
use Rattle.ts_disk.proofs.Moments.{leaves_map}
use Rattle.ts_command.specs.declared.command.Command.{Command}
use Rattle.ts_command.specs.Misfit.{IsCause}
use Rattle.ts_command.specs.Grammar.{Request, or_syntax}
use Rattle.ts_replies.specs.Acknowledged.{IsStep, memory_line, IsGoodMoment}
use Rattle.ts_replies.proofs.Steps.{none_good, one_waits}
use Rattle.ts_volume.specs.Volume.{MeansCatalogue}
use Rattle.ts_answer.specs.Reply.{refusal_line}
use Rattle.ts_sessions.specs.Machine.{Machine, latest}
use Rattle.ts_sessions.specs.Steps.{Turn, session_line, step_of, machine_answer}
use Rattle.ts_session_turns.specs.Faults as faults
use Rattle.ts_carriers.specs.declared.fault.RunFault.{RunFault}
use Rattle.ts_carriers.specs.declared.fault.RunFault.TheVariants.{Disk, Output}
use Rattle.ts_carriers.specs.Run.{Ran, SaysReply}
use Rattle.ts_carriers.proofs.CallerLemmas.{answered_line, answered_ran, Steps, Waits}
use Rattle.ts_session_turns.specs.Hand.{Hand, IsHandReady}
use Rattle.ts_session_turns.specs.Turned.{BeforeOrBehind, Turned}
use Rattle.ts_session_runs.specs.Carrier.{sessions, by_sessions, turn_of}
use Rattle.ts_session_runs.specs.Hall.{TurnsRan}
use Rattle.ts_session_runs.proofs.CarrierLemmas.{steady}

-- a fault that is passed on
pub err_by : (P : Result Unit RunFault → Type 0) (r : Result Unit RunFault) (fault : RunFault) → IsErrAnd r (λ z. z ≡ fault) → P (Err fault) → P r
err_by P (Ok done) fault is p = absurd is
err_by P (Err z) fault is p = subst (λ (y : RunFault). P (Err y)) (sym is) p

-- sessions are counted from 1 in what is said, and from 0 within
counted_back : (who : ℕ) → who + 1 - 1 ≡ who
counted_back who = omega arith

-- what a session's request is answered, with its line
answer_is : (who : ℕ) (request : Request) (m : Machine) → machine_answer m (turn_of who request) ≡ (session_line (who + 1) ++ (step_of who request m).0, (step_of who request m).1)
answer_is who request m = ap (λ (n : ℕ). (session_line (who + 1) ++ (step_of n request m).0, (step_of n request m).1)) (counted_back who)

module _ (tells : Bool) (who : ℕ) (request : Request) (h k : Hand) (v x : Device) where
  -- an image that means what was committed before the turn or behind it, and nothing said
  waits_of : (m : Machine) → LeavesOnly v x (BeforeOrBehind m (step_of who request m).1 v) → LeavesOnly v x (Waits sessions m (turn_of who request) v)
  waits_of m moments =
      leaves_map v x (BeforeOrBehind m (step_of who request m).1 v) (Waits sessions m (turn_of who request) v)
      (λ image said now. (⊎_elim (λ was. inl was) (λ is. inr (subst (λ (n : Machine). MeansCatalogue image (latest n)) (sym (λ i. (answer_is who request m i).1)) is)) now.0, now.1)) moments

  -- it is answered
  pub steps_done : (out : List ℕ) → Turned tells who request (Ok tt) out h k v x → Steps (by_sessions tells) sessions (turn_of who request) (session_line (who + 1) ++ out) h k v x
  steps_done out turned = record {
    ready = turned.ready;
    step = λ told m at.
        let is = turned.answered told m at in (
          (step_of who request m).1,
          inl (ap (λ (l : List ℕ). session_line (who + 1) ++ l) is.0 ∙ sym (λ i. (answer_is who request m i).0), sym (λ i. (answer_is who request m i).1)),
          is.1,
        );
    waits = λ told m at. waits_of m (turned.moments told m at);
    keeps = turned.others;
    no_fault = turned.no_fault;
  }

  -- there is no memory for it
  pub steps_wanting : (error : AllocError) (out : List ℕ) → sessions.stand_in (turn_of who request) ≡ Some (session_line (who + 1) ++ memory_line) → Turned tells who request (Err (faults.Memory error)) out h k v x
      → Steps (by_sessions tells) sessions (turn_of who request) (session_line (who + 1) ++ memory_line) h k v x
  steps_wanting error out stands turned = record {
    ready = turned.ready;
    step = λ told m at. (m, inr (stands, refl), turned.stays told m at);
    waits = λ told m at. waits_of m (turned.moments told m at);
    keeps = turned.others;
    no_fault = turned.no_fault;
  }

  -- the disk failed, and nothing was said
  pub failed_turn : (out : List ℕ) → Turned tells who request (Err faults.Disk) out h k v x → Ran {T = Unit} (by_sessions tells) sessions (turn_of who request ∷ []) (Err Disk) h k v x
  failed_turn out turned = record {
    ready = tt;
    answered = tt;
    fair = λ told m at. ([], turned.others.said ∙ sym (append-nil v.said), (none_good sessions (steady tells).apart (λ n. Unit {0}) m (turn_of who request ∷ []) tt).fair);
    moments = λ told m at.
        leaves_map v x (Waits sessions m (turn_of who request) v) (IsGoodMoment sessions m (turn_of who request ∷ []) v.said)
        (λ image said now. ([], now.1 ∙ sym (append-nil v.said), one_waits sessions (steady tells).apart (sessions.means image) m (turn_of who request) now.0))
        (waits_of m (turned.moments told m at));
    disk = λ is. turned.disk refl;
    output = λ is. absurd (cc);
    no_fault = λ no. absurd (no refl);
    no_say_fault = λ no. turned.others.say_faults;
    size = turned.others.size;
    faults = turned.others.faults;
    say_faults = omega (arith, turned.others.say_faults);
    syncs = turned.others.syncs;
  }

-- the turn of a session is a run of one item, with as many sessions as before and one commit more at most
module _ (tells : Bool) (who : ℕ) (request : Request) (h k : Hand) (v x w : Device) (q : Result Unit RunFault) where
  -- its reply was said
  reply_ran : (line : List ℕ) → Steps (by_sessions tells) sessions (turn_of who request) (session_line (who + 1) ++ line) h k v x
      → SaysReply tells (session_line (who + 1) ++ line) q x w → (IsErr q → q ≡ Err Output) → Ran (by_sessions tells) sessions (turn_of who request ∷ []) q h k v w
  reply_ran line steps says output = answered_ran (by_sessions tells) sessions (steady tells) (turn_of who request) (session_line (who + 1) ++ line) h k v x steps w q says output

pub turn_ran : (tells : Bool) (turn : Turn) (r : Result Unit RunFault) (h k : Hand) (v w : Device) → Ran (by_sessions tells) sessions (turn ∷ []) r h k v w → length k.views ≡ length h.views → length k.log.commits ≤ length h.log.commits + 1
    → TurnsRan tells (turn ∷ []) r h k v w
turn_ran tells turn (Ok done) h k v w ran count few = record { ran = ran; count = count; few = few }
turn_ran tells turn (Err fault) h k v w ran count few = record { ran = ran; count = tt; few = few }

module _ (tells : Bool) (who : ℕ) (request : Request) (h k : Hand) (v x : Device) where
  -- it was answered, and its reply was said
  pub turn_answered : (w : Device) (q : Result Unit RunFault) (out line : List ℕ) → line ≡ out → Turned tells who request (Ok tt) out h k v x → SaysReply tells (session_line (who + 1) ++ line) q x w → (IsErr q → q ≡ Err Output)
      → TurnsRan tells (turn_of who request ∷ []) q h k v w
  turn_answered w q out line same turned says output =
      turn_ran tells (turn_of who request) q h k v w
      (reply_ran tells who request h k v x w q line
      (subst (λ (l : List ℕ). Steps (by_sessions tells) sessions (turn_of who request) (session_line (who + 1) ++ l) h k v x) (sym same) (steps_done tells who request h k v x out turned)) says output)
      turned.count turned.few

  -- there was no memory for it, and that was said
  pub turn_wanting : (w : Device) (q : Result Unit RunFault) (error : AllocError) (out : List ℕ) → sessions.stand_in (turn_of who request) ≡ Some (session_line (who + 1) ++ memory_line) → Turned tells who request (Err (faults.Memory error)) out h k v x
      → SaysReply tells (session_line (who + 1) ++ memory_line) q x w → (IsErr q → q ≡ Err Output) → TurnsRan tells (turn_of who request ∷ []) q h k v w
  turn_wanting w q error out stands turned says output =
      turn_ran tells (turn_of who request) q h k v w
      (reply_ran tells who request h k v x w q memory_line (steps_wanting tells who request h k v x error out stands turned) says output)
      turned.count turned.few

  -- the disk failed in it
  pub turn_failed : (out : List ℕ) → Turned tells who request (Err faults.Disk) out h k v x → TurnsRan tells (turn_of who request ∷ []) (Err Disk) h k v x
  turn_failed out turned = record { ran = failed_turn tells who request h k v x out turned; count = tt; few = turned.few }

-- a line is said, and nothing else is done
pub turn_line : (tells : Bool) (who : ℕ) (request : Request) (line : List ℕ) (h : Hand) (v w : Device) (q : Result Unit RunFault) → Lawful tells v → IsHandReady tells h v
    → ((m : Machine) → IsStep sessions m (turn_of who request) (session_line (who + 1) ++ line) m) → SaysReply tells (session_line (who + 1) ++ line) q v w → (IsErr q → q ≡ Err Output) → TurnsRan tells (turn_of who request ∷ []) q h h v w
turn_line tells who request line h v w q lawful ready step says output =
    turn_ran tells (turn_of who request) q h h v w
    (answered_line (by_sessions tells) sessions (steady tells) (turn_of who request) (session_line (who + 1) ++ line) h v w q lawful ready step says output)
    refl (omega arith)

-- a request for which nothing is done: its refusal, or want of memory to read it
pub refused_step : (who : ℕ) (refusal : Refusal) (line : List ℕ) → refusal_line refusal ≡ line → (m : Machine) → IsStep sessions m (turn_of who (Err refusal)) (session_line (who + 1) ++ line) m
refused_step who refusal line same m = inl (ap (λ (l : List ℕ). session_line (who + 1) ++ l) (sym same), refl)

-- the lines of refusals for which nothing is done
pub syntax_line : (place : ℕ) → refusal_line (refusals.Syntax place) ≡ codes "error 1 Syntax\n"
unfolding refusal_line digits
syntax_line place = refl

pub too_long_line : refusal_line refusals.TooLong ≡ codes "error 2 TooLong\n"
unfolding refusal_line digits
too_long_line = refl

pub unended_line : refusal_line refusals.Unended ≡ codes "error 3 Unended\n"
unfolding refusal_line digits
unended_line = refl

-- a statement that is refused isn't in the grammar
syntax_of : (refusal : Refusal) (read : Result Command ℕ) → IsCause (Refused refusal) read → (place : ℕ) × (read ≡ Err place)
syntax_of (refusals.Syntax place) read is = (place, is)
syntax_of other read is = absurd is

pub syntax_at : (trouble : Trouble) (refusal : Refusal) (read : Result Command ℕ) → trouble ≡ Refused refusal → IsCause trouble read → (place : ℕ) × (read ≡ Err place)
syntax_at trouble refusal read is cause = syntax_of refusal read (subst (λ (t : Trouble). IsCause t read) is cause)

-- the memory line may stand in the place of the reply to a command, or to a statement
pub command_stand_in : (who : ℕ) (command : Command) → sessions.stand_in (turn_of who (Ok command)) ≡ Some (session_line (who + 1) ++ memory_line)
command_stand_in who command = refl

pub statement_stand_in : (who : ℕ) (read : Result Command ℕ) → sessions.stand_in (turn_of who (or_syntax read)) ≡ Some (session_line (who + 1) ++ memory_line)
statement_stand_in who (Ok command) = refl
statement_stand_in who (Err place) = refl
