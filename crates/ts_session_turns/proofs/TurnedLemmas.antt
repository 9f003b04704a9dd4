-- Turns that write nothing on the volume; and turns by another spelling.
use Rattle.std.specs.declared.alloc.AllocError.{AllocError}
use Rattle.std.proofs.Common.{◌≡◌, inl, ℕ, ◌+◌, ◌-◌, ◌≤◌, Bool, true, IsTrue, Option, Result, Ok, Err, OnOk, OnErr, IsErrAnd, List, length, refl, ap, sym, ◌∙◌, subst, arith}
use Rattle.ts_disk.specs.Device.{Device, Lawful, LeavesOnly}
use Rattle.ts_disk.proofs.Moments.{started}
use Rattle.ts_store.proofs.CallerLemmas.{reads_none}
use Rattle.ts_command.specs.Grammar.{Request}
use Rattle.ts_volume.specs.Volume.{MeansCatalogue}
use Rattle.ts_multi.specs.Log.{Log}
use Rattle.ts_sessions.specs.Machine.{Machine, latest}
use Rattle.ts_sessions.specs.Steps.{Turn, step_of}
use Rattle.ts_sessions.specs.Laws.{IsSound}
use Rattle.ts_sessions.proofs.CallerLemmas.{sound_step}
use Rattle.ts_views.specs.declared.view.View.{View}
use Rattle.ts_session_engine.specs.Engine.{StepFault}
use Rattle.ts_session_engine.specs.Faults.{Disk, Memory, Closed}
use Rattle.ts_session_engine.specs.Engine.{Kept}
use Rattle.ts_session_engine.specs.Beside.{GoesOn}
use Rattle.ts_session_turns.specs.Hand.{Hand, hand, IsHandReady, IsAtMachine}
use Rattle.ts_session_turns.specs.Turned.{BeforeOrBehind, Turned}

-- where the volume stays, each moment means what was committed last
still_means : (tells : Bool) (h : Hand) (m next : Machine) (v : Device) → Lawful tells v → IsAtMachine tells h m v → LeavesOnly v v (BeforeOrBehind m next v)
still_means tells h m next v lawful at =
    started tells v (BeforeOrBehind m next v) lawful
    (λ image now. (inl (subst (λ (bytes : List ℕ). MeansCatalogue bytes (latest m)) (sym (at.at.ready.idle.over.settled image now)) at.at.means), refl))

module _ (tells : Bool) (who : ℕ) (request : Request) (h k : Hand) (v : Device) (lawful : Lawful tells v) (count : length k.views ≡ length h.views) (few : length k.log.commits ≤ length h.log.commits + 1) where
  -- it is answered
  pub turned_quiet : (out : List ℕ) → IsHandReady tells k v → (IsTrue tells → (m : Machine) → IsAtMachine tells h m v → (out ≡ (step_of who request m).0) × IsAtMachine tells k (step_of who request m).1 v) → Turned tells who request (Ok tt) out h k v v
  turned_quiet out ready answered = record {
    ready = ready;
    count = count;
    few = few;
    answered = answered;
    stays = tt;
    disk = λ is. absurd (cc);
    closed = λ faults is. absurd (cc);
    moments = λ told m at. still_means tells h m (step_of who request m).1 v lawful at;
    others = (reads_none tells v lawful).keeps;
    no_fault = refl;
  }

  -- there is no memory
  pub turned_wanting : (error : AllocError) (out : List ℕ) → IsHandReady tells k v → (IsTrue tells → (m : Machine) → IsAtMachine tells h m v → IsAtMachine tells k m v) → Turned tells who request (Err (Memory error)) out h k v v
  turned_wanting error out ready stays = record {
    ready = ready;
    count = count;
    few = few;
    answered = tt;
    stays = stays;
    disk = λ is. absurd (cc);
    closed = λ faults is. absurd (cc);
    moments = λ told m at. still_means tells h m (step_of who request m).1 v lawful at;
    others = (reads_none tells v lawful).keeps;
    no_fault = refl;
  }

-- there is no memory, and nothing was done
pub turned_none : (tells : Bool) (who : ℕ) (request : Request) (h : Hand) (v : Device) → Lawful tells v → IsHandReady tells h v → (error : AllocError) (out : List ℕ) → Turned tells who request (Err (Memory error)) out h h v v
turned_none tells who request h v lawful ready error out = turned_wanting tells who request h h v lawful refl (omega arith) error out ready (λ told m at. at)

-- it is answered, and nothing is changed
pub turned_said : (tells : Bool) (who : ℕ) (request : Request) (h : Hand) (v : Device) → Lawful tells v → IsHandReady tells h v → (line out : List ℕ) → out ≡ line → (IsTrue tells → (m : Machine) → IsAtMachine tells h m v → step_of who request m ≡ (line, m)) → Turned tells who request (Ok tt) out h h v v
turned_said tells who request h v lawful ready line out said is =
    turned_quiet tells who request h h v lawful refl (omega arith) out ready
    (λ told m at. (
      said ∙ sym (λ i. (is told m at i).0),
      subst (λ (n : Machine). IsAtMachine tells h n v) (sym (λ i. (is told m at i).1)) at,
    ))

-- a fault is passed on
pub turned_by : (tells : Bool) (who : ℕ) (request : Request) (r : Result Unit StepFault) (fault : StepFault) (out : List ℕ) (h k : Hand) (v w : Device) → IsErrAnd r (λ z. z ≡ fault) → Turned tells who request (Err fault) out h k v w → Turned tells who request r out h k v w
turned_by tells who request (Ok done) fault out h k v w is turned = absurd is
turned_by tells who request (Err z) fault out h k v w is turned = subst (λ (y : StepFault). Turned tells who request (Err y) out h k v w) (sym is) turned

-- the machine that a turn comes to is sound
pub sound_then : (who : ℕ) (request : Request) (m next : Machine) (reply : List ℕ) → step_of who request m ≡ (reply, next) → IsSound m → IsSound next
sound_then who request m next reply is sound =
    let turn : Turn = (who + 1, request) in
    let there : who + 1 - 1 ≡ who = omega arith in
    subst IsSound (ap (λ (n : ℕ). (step_of n request m).1) there ∙ (λ i. (is i).1)) (sound_step m turn sound)

-- Room in the log plays no part.
module _ (tells : Bool) (e : Kept) (views : List (Option View)) (log : Log) (v : Device) where
  abbrev roomy : Hand
  roomy = hand e views (record log { room = true })

  pub roomy_ready : IsHandReady tells (hand e views log) v → IsHandReady tells roomy v
  roomy_ready ready = record { beside = ready.beside; count = ready.count; alike = ready.alike; commands = ready.commands }

  pub roomy_at : (m : Machine) → IsAtMachine tells (hand e views log) m v → IsAtMachine tells roomy m v
  roomy_at m at = record { at = at.at; log = (true, ap (λ (l : Log). record l { room = true }) at.log.1); views = at.views; sound = at.sound }

-- as each Ok and each want of memory is weakened
weaker_ok : (r : Result Unit StepFault) (P Q : Type 0) → (P → Q) → OnOk r P → OnOk r Q
weaker_ok (Ok done) P Q f p = f p
weaker_ok (Err fault) P Q f p = tt

weaker_memory : (r : Result Unit StepFault) (P Q : Type 0) → (P → Q) → GoesOn r (OnErr r P) → GoesOn r (OnErr r Q)
weaker_memory (Ok done) P Q f p = tt
weaker_memory (Err Disk) P Q f p = tt
weaker_memory (Err (Memory error)) P Q f p = f p
weaker_memory (Err (Closed faults)) P Q f p = tt

-- what a turn says of where it stands then
abbrev AnswersFrom : Bool → ℕ → Request → List ℕ → Hand → Hand → Device → Device → Type 0
AnswersFrom tells who request out h k v w =
    IsTrue tells → (m : Machine) → IsAtMachine tells h m v → (out ≡ (step_of who request m).0) × IsAtMachine tells k (step_of who request m).1 w

abbrev StaysFrom : Bool → Hand → Hand → Device → Device → Type 0
StaysFrom tells h k v w = IsTrue tells → (m : Machine) → IsAtMachine tells h m v → IsAtMachine tells k m w

-- a turn with room in the log is one without
pub turned_roomy : (tells : Bool) (who : ℕ) (request : Request) (r : Result Unit StepFault) (out : List ℕ) (e : Kept) (views : List (Option View)) (log : Log) (k : Hand) (v w : Device)
    → Turned tells who request r out (hand e views (record log { room = true })) k v w → Turned tells who request r out (hand e views log) k v w
turned_roomy tells who request r out e views log k v w turned = record {
  ready = turned.ready;
  count = turned.count;
  few = turned.few;
  answered = weaker_ok r (AnswersFrom tells who request out (roomy tells e views log v) k v w) (AnswersFrom tells who request out (hand e views log) k v w) (λ answered told m at. answered told m (roomy_at tells e views log v m at)) turned.answered;
  stays = weaker_memory r (StaysFrom tells (roomy tells e views log v) k v w) (StaysFrom tells (hand e views log) k v w) (λ stays told m at. stays told m (roomy_at tells e views log v m at)) turned.stays;
  disk = turned.disk;
  closed = turned.closed;
  moments = λ told m at. turned.moments told m (roomy_at tells e views log v m at);
  others = turned.others;
  no_fault = turned.no_fault;
}

-- the same where the log has got it
module _ (tells : Bool) (e : Kept) (views : List (Option View)) (log reserved : Log) (v : Device) (same : reserved ≡ record log { room = true }) where
  pub reserved_ready : IsHandReady tells (hand e views log) v → IsHandReady tells (hand e views reserved) v
  reserved_ready ready = subst (λ (l : Log). IsHandReady tells (hand e views l) v) (sym same) (roomy_ready tells e views log v ready)

  pub turned_reserved : (who : ℕ) (request : Request) (r : Result Unit StepFault) (out : List ℕ) (k : Hand) (w : Device) → Turned tells who request r out (hand e views reserved) k v w → Turned tells who request r out (hand e views log) k v w
  turned_reserved who request r out k w turned =
      turned_roomy tells who request r out e views log k v w (subst (λ (l : Log). Turned tells who request r out (hand e views l) k v w) same turned)

-- what is in hand by another spelling
pub turned_to : (tells : Bool) (who : ℕ) (request : Request) (r : Result Unit StepFault) (out : List ℕ) (h : Hand) (e : Kept) (views new : List (Option View)) (log next : Log) (v w : Device) → new ≡ views → next ≡ log → Turned tells who request r out h (hand e views log) v w
    → Turned tells who request r out h (hand e new next) v w
turned_to tells who request r out h e views new log next v w same logged turned = subst (λ (k : Hand). Turned tells who request r out h k v w) (λ i. hand e (sym same i) (sym logged i)) turned
