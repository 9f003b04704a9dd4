-- A run of sessions, by the run of their turns.
use Rattle.std.proofs.Common.{◌≡◌, inl, inr, ℕ, Bool, Result, Ok, Err, List, [], ◌∷◌, map, refl, ap, sym, arith}
use Rattle.std.proofs.lemmas.List.{append-nil}
use Rattle.ts_disk.specs.Device.{Device, Lawful}
use Rattle.ts_items.specs.Items.{items_to_end}
use Rattle.ts_command.specs.Grammar.{Request}
use Rattle.ts_replies.proofs.Steps.{none_good}
use Rattle.ts_store.proofs.CallerLemmas.{reads_none}
use Rattle.ts_sessions.specs.Machine.{start}
use Rattle.ts_sessions.specs.Steps.{Turn}
use Rattle.ts_sessions.specs.Turns.{requests_of}
use Rattle.ts_session_turns.specs.Engine.{Kept}
use Rattle.ts_carriers.specs.declared.fault.RunFault.{RunFault}
use Rattle.ts_carriers.specs.declared.fault.RunFault.TheVariants.{Disk, Output}
use Rattle.ts_carriers.specs.Run.{status_of_end}
use Rattle.ts_carriers.proofs.CallerLemmas.{good_now}
use Rattle.ts_session_scripts.specs.Script.{requests_left}
use Rattle.ts_session_turns.specs.Hand.{Hand}
use Rattle.ts_session_runs.specs.Carrier.{sessions, by_sessions}
use Rattle.ts_session_runs.specs.Hall.{TurnsRan}
use Rattle.ts_session_runs.specs.Ran.{SessionsOver}
use Rattle.ts_session_runs.proofs.CarrierLemmas.{steady}
use Rattle.ts_session_runs.proofs.StartLemmas.{at_start, start_at}

-- what all items ask for is what the scripts ask for
pub asked_same : (sections : List (List ℕ)) → requests_left (map items_to_end sections) ≡ map requests_of sections
asked_same [] = refl
asked_same (section ∷ sections) = ap (λ (l : List (List Request)). requests_of section ∷ l) (asked_same sections)

module _ (tells : Bool) (e : Kept) (count : ℕ) (v : Device) where
  -- there was no memory to begin
  pub sessions_none : Lawful tells v → (asked : List Turn) → SessionsOver tells e 7 count asked v v
  sessions_none lawful asked = record {
    fair = λ told cat at. ([], sym (append-nil v.said), (none_good sessions (steady tells).apart (λ n. Unit {0}) (start count cat) asked tt).fair);
    moments = λ told cat at. good_now (by_sessions tells) sessions (steady tells) (at_start e count) (start count cat) asked v lawful (start_at tells e count v cat at);
    all = λ is. absurd (omega (arith, is));
    output = λ is. absurd (omega (arith, is));
    disk = λ is. absurd (omega (arith, is));
    quiet = λ is. reads_none tells v lawful;
    statuses = inr (inr (inr refl));
    no_fault = λ other. refl;
    no_say_fault = λ other. refl;
    size = refl;
    faults = omega arith;
    say_faults = omega arith;
    syncs = λ told. omega arith;
  }

  -- the turns were carried out, or something ended them
  pub sessions_ran : (asked : List Turn) (r : Result Unit RunFault) (k : Hand) (w : Device) → TurnsRan tells asked r (at_start e count) k v w → SessionsOver tells e (status_of_end r) count asked v w
  sessions_ran asked (Ok done) k w turns = record {
    fair = λ told cat at. turns.ran.fair told (start count cat) (start_at tells e count v cat at);
    moments = λ told cat at. turns.ran.moments told (start count cat) (start_at tells e count v cat at);
    all = λ is told cat at.
        let here = turns.ran.answered told (start count cat) (start_at tells e count v cat at) in
        record { gained = here.gained; last = here.last; said = here.said; answered = here.all; means = here.at.at.means; only = here.at.at.ready.idle.over.settled };
    output = λ is. absurd (omega (arith, is));
    disk = λ is. absurd (omega (arith, is));
    quiet = λ is. absurd (omega (arith, is));
    statuses = inl refl;
    no_fault = λ other. turns.ran.no_fault (λ is. absurd (cc));
    no_say_fault = λ other. turns.ran.no_say_fault (λ is. absurd (cc));
    size = turns.ran.size;
    faults = turns.ran.faults;
    say_faults = turns.ran.say_faults;
    syncs = turns.ran.syncs;
  }
  sessions_ran asked (Err Disk) k w turns = record {
    fair = λ told cat at. turns.ran.fair told (start count cat) (start_at tells e count v cat at);
    moments = λ told cat at. turns.ran.moments told (start count cat) (start_at tells e count v cat at);
    all = λ is. absurd (omega (arith, is));
    output = λ is. absurd (omega (arith, is));
    disk = λ is. turns.ran.disk refl;
    quiet = λ is. absurd (omega (arith, is));
    statuses = inr (inr (inl refl));
    no_fault = λ other. absurd (other refl);
    no_say_fault = λ other. turns.ran.no_say_fault (λ is. absurd (cc));
    size = turns.ran.size;
    faults = turns.ran.faults;
    say_faults = turns.ran.say_faults;
    syncs = turns.ran.syncs;
  }
  sessions_ran asked (Err Output) k w turns = record {
    fair = λ told cat at. turns.ran.fair told (start count cat) (start_at tells e count v cat at);
    moments = λ told cat at. turns.ran.moments told (start count cat) (start_at tells e count v cat at);
    all = λ is. absurd (omega (arith, is));
    output = λ is. turns.ran.output refl;
    disk = λ is. absurd (omega (arith, is));
    quiet = λ is. absurd (omega (arith, is));
    statuses = inr (inl refl);
    no_fault = λ other. turns.ran.no_fault (λ is. absurd (cc));
    no_say_fault = λ other. absurd (other refl);
    size = turns.ran.size;
    faults = turns.ran.faults;
    say_faults = turns.ran.say_faults;
    syncs = turns.ran.syncs;
  }
