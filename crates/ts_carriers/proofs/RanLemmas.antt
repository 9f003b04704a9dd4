-- Runs of items, one behind another.
use Rattle.std.proofs.Common.{◌≡◌, ℕ, IsTrue, List, [], ◌++◌, length, Result, Ok, Err, refl, sym, ◌∙◌, ap, arith, append_assoc}
use Rattle.std.proofs.lemmas.List.{append-nil}
use Rattle.ts_disk.specs.Device.{Device, Lawful, LeavesOnly}
use Rattle.ts_disk.proofs.Moments.{started, then_on, leaves_map}
use Rattle.ts_replies.specs.Acknowledged.{Protocol, IsGoodMoment}
use Rattle.ts_replies.proofs.Steps.{none_good, answered_then, moment_more, moment_then}
use Rattle.ts_replies.proofs.Hearing.{fair_more, fair_then}
use Rattle.ts_carriers.specs.declared.fault.RunFault.{RunFault}
use Rattle.ts_carriers.specs.declared.fault.RunFault.TheVariants.{Disk, Output}
use Rattle.ts_carriers.specs.Run.{Carrier, Answered, Ran}
use Rattle.ts_replies.specs.Said.{SaysFairly}
use Rattle.ts_carriers.proofs.SayingLemmas.{IsSteady, rose_on}

-- a fault is the same of a run with another value
same_fault : {T : Type 0} {U : Type 0} (a b : RunFault) → ◌≡◌ {A = Result U RunFault} (Err a) (Err b) → ◌≡◌ {A = Result T RunFault} (Err a) (Err b)
same_fault a b is = let e : a ≡ b = cc in ap Err e

module _ {E C I : Type 0} (c : Carrier E C) (p : Protocol C I) (steady : IsSteady c p) where
  -- a moment in which nothing was done yet
  pub good_now : (e : E) (state : C) (asked : List I) (v : Device) → Lawful c.tells v → c.stands e state v → LeavesOnly v v (IsGoodMoment p state asked v.said)
  good_now e state asked v lawful at =
      started c.tells v (IsGoodMoment p state asked v.said) lawful (λ image now. (
        [],
        sym (append-nil v.said),
        none_good p steady.apart (p.means image) state asked (steady.means e state v at image now),
      ))

  -- no request at all
  pub ran_none : {T : Type 0} (done : T) (e : E) (v : Device) → Lawful c.tells v → c.ready e v → Ran c p [] (Ok done) e e v v
  ran_none done e v lawful ready = record {
    ready = ready;
    answered = λ told state at. record { gained = []; last = state; said = sym (append-nil v.said); all = refl; at = at };
    fair = λ told state at. ([], sym (append-nil v.said), refl);
    moments = λ told state at. good_now e state [] v lawful at;
    disk = λ is. absurd (cc);
    output = λ is. absurd (cc);
    no_fault = λ no. refl;
    no_say_fault = λ no. refl;
    size = refl;
    faults = omega arith;
    say_faults = omega arith;
    syncs = λ told. omega arith;
  }

  -- the same run with another value
  pub ran_as : {T U : Type 0} (asked : List I) (done : T) (value : U) (e f : E) (v w : Device) → Ran c p asked (Ok done) e f v w → Ran c p asked (Ok value) e f v w
  ran_as asked done value e f v w run = record {
    ready = run.ready;
    answered = run.answered;
    fair = run.fair;
    moments = run.moments;
    disk = λ is. absurd (cc);
    output = λ is. absurd (cc);
    no_fault = λ no. run.no_fault (λ is. absurd (cc));
    no_say_fault = λ no. run.no_say_fault (λ is. absurd (cc));
    size = run.size;
    faults = run.faults;
    say_faults = run.say_faults;
    syncs = run.syncs;
  }

  -- the same run that failed, of another value
  pub ran_failed_as : {T U : Type 0} (asked : List I) (fault : RunFault) (e f : E) (v w : Device) → Ran {T = T} c p asked (Err fault) e f v w → Ran {T = U} c p asked (Err fault) e f v w
  ran_failed_as {T} {U} asked fault e f v w run = record {
    ready = tt;
    answered = tt;
    fair = run.fair;
    moments = run.moments;
    disk = λ is. run.disk (same_fault {T = T} {U = U} fault Disk is);
    output = λ is. run.output (same_fault {T = T} {U = U} fault Output is);
    no_fault = λ no. run.no_fault (λ is. no (same_fault {T = U} {U = T} fault Disk is));
    no_say_fault = λ no. run.no_say_fault (λ is. no (same_fault {T = U} {U = T} fault Output is));
    size = run.size;
    faults = run.faults;
    say_faults = run.say_faults;
    syncs = run.syncs;
  }

  -- a run that ended before the others began
  pub ran_front : {T U : Type 0} (asked others : List I) (fault : RunFault) (e f : E) (v w : Device) → Ran {T = T} c p asked (Err fault) e f v w → Ran {T = U} c p (asked ++ others) (Err fault) e f v w
  ran_front {T} {U} asked others fault e f v w run = record {
    ready = tt;
    answered = tt;
    fair = λ told state at. let fair = run.fair told state at in (fair.0, fair.1, fair_more p steady.apart state asked others fair.0 fair.2);
    moments = λ told state at.
        leaves_map v w (IsGoodMoment p state asked v.said) (IsGoodMoment p state (asked ++ others) v.said) (λ image said. moment_more p steady.apart image said v.said state asked others) (run.moments told state at);
    disk = λ is. run.disk (same_fault {T = T} {U = U} fault Disk is);
    output = λ is. run.output (same_fault {T = T} {U = U} fault Output is);
    no_fault = λ no. run.no_fault (λ is. no (same_fault {T = U} {U = T} fault Disk is));
    no_say_fault = λ no. run.no_say_fault (λ is. no (same_fault {T = U} {U = T} fault Output is));
    size = run.size;
    faults = run.faults;
    say_faults = run.say_faults;
    syncs = run.syncs;
  }

  -- a run behind a run
  module _ {T : Type 0} (asked others : List I) (done : T) (e f h : E) (v x w : Device) (first : Ran c p asked (Ok done) e f v x) where
    module _ (told : IsTrue c.tells) (state : C) (at : c.stands e state v) where
      abbrev so_far : Answered c p state asked f v x
      so_far = first.answered told state at

      fair_behind : SaysFairly p so_far.last others x w → SaysFairly p state (asked ++ others) v w
      fair_behind fair = (
        so_far.gained ++ fair.0,
        fair.1 ∙ ap (λ (l : List ℕ). l ++ fair.0) so_far.said ∙ append_assoc v.said so_far.gained fair.0,
        fair_then p steady.apart state asked others so_far.gained fair.0 (length asked) so_far.last so_far.all fair.2,
      )

      good_behind : LeavesOnly x w (IsGoodMoment p so_far.last others x.said) → LeavesOnly v w (IsGoodMoment p state (asked ++ others) v.said)
      good_behind good =
          then_on v x w (IsGoodMoment p state (asked ++ others) v.said)
          (leaves_map v x (IsGoodMoment p state asked v.said) (IsGoodMoment p state (asked ++ others) v.said) (λ image said. moment_more p steady.apart image said v.said state asked others) (first.moments told state at))
          (leaves_map x w (IsGoodMoment p so_far.last others x.said) (IsGoodMoment p state (asked ++ others) v.said) (λ image said. moment_then p steady.apart image said v.said state asked others so_far.gained x.said so_far.last so_far.all so_far.said) good)

    pub ran_then : {U : Type 0} (r : Result U RunFault) → Ran c p others r f h x w → Ran c p (asked ++ others) r e h v w
    ran_then (Ok y) second = record {
      ready = second.ready;
      answered = λ told state at.
          let here = first.answered told state at in
          let more = second.answered told here.last here.at in
          record {
            gained = here.gained ++ more.gained;
            last = more.last;
            said = more.said ∙ ap (λ (l : List ℕ). l ++ more.gained) here.said ∙ append_assoc v.said here.gained more.gained;
            all = answered_then p steady.apart state asked others here.gained more.gained here.last more.last here.all more.all;
            at = more.at;
          };
      fair = λ told state at. let here = first.answered told state at in fair_behind told state at (second.fair told here.last here.at);
      moments = λ told state at. let here = first.answered told state at in good_behind told state at (second.moments told here.last here.at);
      disk = λ is. absurd (cc);
      output = λ is. absurd (cc);
      no_fault = λ no. second.no_fault no ∙ first.no_fault (λ is. absurd (cc));
      no_say_fault = λ no. second.no_say_fault no ∙ first.no_say_fault (λ is. absurd (cc));
      size = second.size ∙ first.size;
      faults = omega (arith, first.faults, second.faults);
      say_faults = omega (arith, first.say_faults, second.say_faults);
      syncs = λ told. omega (arith, first.syncs told, second.syncs told);
    }
    ran_then (Err y) second = record {
      ready = tt;
      answered = tt;
      fair = λ told state at. let here = first.answered told state at in fair_behind told state at (second.fair told here.last here.at);
      moments = λ told state at. let here = first.answered told state at in good_behind told state at (second.moments told here.last here.at);
      disk = λ is. rose_on v.faults x.faults w.faults first.faults (second.disk is);
      output = λ is. rose_on v.say_faults x.say_faults w.say_faults first.say_faults (second.output is);
      no_fault = λ no. second.no_fault no ∙ first.no_fault (λ is. absurd (cc));
      no_say_fault = λ no. second.no_say_fault no ∙ first.no_say_fault (λ is. absurd (cc));
      size = second.size ∙ first.size;
      faults = omega (arith, first.faults, second.faults);
      say_faults = omega (arith, first.say_faults, second.say_faults);
      syncs = λ told. omega (arith, first.syncs told, second.syncs told);
    }
