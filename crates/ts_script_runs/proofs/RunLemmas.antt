-- How a run over a script ends.
use Rattle.std.proofs.Common.{◌≡◌, ◌⊎◌, inl, inr, ⊎_elim, ℕ, ◌+◌, ◌≤◌, ◌<◌, Bool, true, false, IsTrue, List, [], ◌++◌, length, Result, Ok, Err, IsErr, refl, sym, ◌∙◌, ap, subst, arith, length-append}
use Rattle.std.proofs.lemmas.List.{append-nil, take_all, take_at}
use Rattle.ts_disk.specs.Device.{Device, LeavesOnly, Rose, Input}
use Rattle.ts_command.specs.Grammar.{Request, requests, last_request}
use Rattle.ts_answer.specs.Answer.{State}
use Rattle.ts_opening.specs.Engine.{Kept, IsAt}
use Rattle.ts_carriers.specs.declared.fault.RunFault.{RunFault}
use Rattle.ts_carriers.specs.declared.fault.RunFault.TheVariants.{Disk, Output}
use Rattle.ts_script_runs.specs.Script.{script, by_engine, asked_in, asked_of, most_script, IsScriptEnd, RanOn, OpenedRan}
use Rattle.ts_carriers.proofs.CallerLemmas.{never}
use Rattle.ts_carriers.specs.Run.{Answered, Ran, status_of, status_of_end}
use Rattle.ts_replies.specs.Said.{SaysFairly, AllDone}
use Rattle.ts_replies.specs.Acknowledged.{IsGoodMoment}
use Rattle.ts_opening.specs.Opening.{HasEnded, Took}

-- what bytes ask for that keep the limit
in_limit : (taken : List ℕ) → length taken ≤ 268435456 → requests taken ≡ asked_in taken
in_limit taken short = ap requests (sym (take_all 268435456 taken short))

asked_so_far : (taken : List ℕ) → length taken ≤ 268435456 → requests taken ≡ asked_of false taken
asked_so_far taken short = in_limit taken short ∙ sym (append-nil (asked_in taken))

asked_to_end : (taken : List ℕ) → length taken ≤ 268435456 → requests taken ++ last_request taken ≡ asked_of true taken
asked_to_end taken short = ap (λ (l : List Request). l ++ last_request taken) (in_limit taken short)

-- what bytes ask for that go past the limit
up_to_limit : (taken piece : List ℕ) → length taken ≡ 268435456 → requests taken ≡ asked_in (taken ++ piece)
up_to_limit taken piece full = ap requests (sym (take_at taken piece 268435456 full))

-- every request is answered
done : (tells : Bool) (state : State) (asked other : List Request) (f : Kept) (v w : Device) → asked ≡ other → Answered (by_engine tells) script state asked f v w → AllDone script state other v w
done tells state asked other f v w same all = subst (λ (l : List Request). AllDone script state l v w) same (record {
  gained = all.gained;
  last = all.last;
  said = all.said;
  answered = all.all;
  means = all.at.means;
  only = all.at.ready.idle.over.settled;
})

-- what was said and what a stop leaves
ran_on : (state : State) (status : ℕ) (asked : List Request) (v w : Device) (i j : Input) (took : Took most_script IsScriptEnd status i j) → asked ≡ asked_of took.ended took.taken → SaysFairly script state asked v w → LeavesOnly v w (IsGoodMoment script state asked v.said) → RanOn script most_script IsScriptEnd asked_of state status v w i j
ran_on state status asked v w i j took same fair moments = record {
  took = took;
  fair = subst (λ (l : List Request). SaysFairly script state l v w) same fair;
  moments = subst (λ (l : List Request). LeavesOnly v w (IsGoodMoment script state l v.said)) same moments;
}

abbrev took_part : (status : ℕ) (i j : Input) (taken : List ℕ) → i.left ≡ taken ++ j.left → Took most_script IsScriptEnd status i j
took_part status i j taken cut = record { taken = taken; ended = false; cut = cut; end = λ yes. never yes }

module _ (tells told : Bool) (e f : Kept) (v w : Device) (i j : Input) (faults : i.pull_faults ≤ j.pull_faults) (pulls : j.pulls ≤ i.pulls + 268435457) (taken : List ℕ) (each : j.pulls ≤ i.pulls + length taken + 1) (once : i.ended ≡ false → j.past_end ≡ i.past_end) where
  -- a pull took each byte, and one more was made
  pulls_of : (piece : List ℕ) → i.left ≡ piece ++ j.left → length taken ≤ length piece → j.pulls + length j.left ≤ i.pulls + length i.left + 1
  pulls_of piece cut le = omega (arith, each, le, ap length cut, length-append piece j.left)

  -- a pull failed
  pub stopped : (value : Unit {0}) → length taken ≤ 268435456 → (IsTrue told → i.left ≡ taken ++ j.left) → Rose i.pull_faults j.pull_faults → Ran (by_engine tells) script (requests taken) (Ok value) e f v w → OpenedRan tells told e 3 v w i j
  stopped value short cut rose run = record {
    fair = λ t s state at. ran_on state 3 (requests taken) v w i j (took_part 3 i j taken (cut s)) (asked_so_far taken short) (run.fair t state at) (run.moments t state at);
    all = λ zero. absurd (omega arith);
    so_far = λ which t s state at. record { taken = taken; cut = cut s; done = done tells state (requests taken) (asked_in taken) f v w (in_limit taken short) (run.answered t state at) };
    pull = λ three. rose;
    output = λ four. absurd (omega arith);
    disk = λ five. absurd (omega arith);
    too_long = λ eight. absurd (omega arith);
    short = λ s. inr (record { taken = taken; cut = cut s; short = short });
    statuses = inr (inl refl);
    size = run.size;
    syncs = run.syncs;
    faults = run.faults;
    say_faults = run.say_faults;
    pull_faults = faults;
    no_fault = λ no. run.no_fault (λ is. absurd (cc));
    no_say_fault = λ no. run.no_say_fault (λ is. absurd (cc));
    no_pull_fault = λ no. absurd (no refl);
    pulls = λ s. pulls_of taken (cut s) (omega arith);
    pulls_most = pulls;
    ended = λ zero. absurd (omega arith);
    once = once;
  }

  -- a pull went past the limit
  pub overlong : (value : Unit {0}) (piece : List ℕ) → length taken ≡ 268435456 → 0 < length piece → (IsTrue told → i.left ≡ (taken ++ piece) ++ j.left) → j.pull_faults ≡ i.pull_faults → Ran (by_engine tells) script (requests taken) (Ok value) e f v w → OpenedRan tells told e 8 v w i j
  overlong value piece full some cut same_pulls run =
      let whole : List ℕ = taken ++ piece in
      let same : requests taken ≡ asked_in whole = up_to_limit taken piece full in record {
        fair = λ t s state at. ran_on state 8 (requests taken) v w i j (took_part 8 i j whole (cut s)) (same ∙ sym (append-nil (asked_in whole))) (run.fair t state at) (run.moments t state at);
        all = λ zero. absurd (omega arith);
        so_far = λ which t s state at. record { taken = whole; cut = cut s; done = done tells state (requests taken) (asked_in whole) f v w same (run.answered t state at) };
        pull = λ three. absurd (omega arith);
        output = λ four. absurd (omega arith);
        disk = λ five. absurd (omega arith);
        too_long = λ eight s. record { taken = whole; cut = cut s; long = omega (arith, length-append taken piece, full, some) };
        short = λ s. inl refl;
        statuses = inr (inr (inr (inr refl)));
        size = run.size;
        syncs = run.syncs;
        faults = run.faults;
        say_faults = run.say_faults;
        pull_faults = faults;
        no_fault = λ no. run.no_fault (λ is. absurd (cc));
        no_say_fault = λ no. run.no_say_fault (λ is. absurd (cc));
        no_pull_fault = λ no. same_pulls;
        pulls = λ s. pulls_of whole (cut s) (omega (arith, length-append taken piece));
        pulls_most = pulls;
        ended = λ zero. absurd (omega arith);
        once = once;
      }

  -- an item failed
  module _ (short : length taken ≤ 268435456) (cut : IsTrue told → i.left ≡ taken ++ j.left) (same_pulls : j.pull_faults ≡ i.pull_faults) where
    pub failed : (fault : RunFault) → Ran {T = Unit {0}} (by_engine tells) script (requests taken) (Err fault) e f v w → OpenedRan tells told e (status_of fault) v w i j
    failed Disk run = record {
      fair = λ t s state at. ran_on state 5 (requests taken) v w i j (took_part 5 i j taken (cut s)) (asked_so_far taken short) (run.fair t state at) (run.moments t state at);
      all = λ zero. absurd (omega arith);
      so_far = λ which. absurd (⊎_elim (λ (is : 5 ≡ 3). omega arith) (λ (is : 5 ≡ 8). omega arith) which);
      pull = λ three. absurd (omega arith);
      output = λ four. absurd (omega arith);
      disk = λ five. run.disk refl;
      too_long = λ eight. absurd (omega arith);
      short = λ s. inr (record { taken = taken; cut = cut s; short = short });
      statuses = inr (inr (inr (inl refl)));
      size = run.size;
      syncs = run.syncs;
      faults = run.faults;
      say_faults = run.say_faults;
      pull_faults = faults;
      no_fault = λ no. absurd (no refl);
      no_say_fault = λ no. run.no_say_fault (λ is. absurd (cc));
      no_pull_fault = λ no. same_pulls;
      pulls = λ s. pulls_of taken (cut s) (omega arith);
      pulls_most = pulls;
      ended = λ zero. absurd (omega arith);
      once = once;
    }
    failed Output run = record {
      fair = λ t s state at. ran_on state 4 (requests taken) v w i j (took_part 4 i j taken (cut s)) (asked_so_far taken short) (run.fair t state at) (run.moments t state at);
      all = λ zero. absurd (omega arith);
      so_far = λ which. absurd (⊎_elim (λ (is : 4 ≡ 3). omega arith) (λ (is : 4 ≡ 8). omega arith) which);
      pull = λ three. absurd (omega arith);
      output = λ four. run.output refl;
      disk = λ five. absurd (omega arith);
      too_long = λ eight. absurd (omega arith);
      short = λ s. inr (record { taken = taken; cut = cut s; short = short });
      statuses = inr (inr (inl refl));
      size = run.size;
      syncs = run.syncs;
      faults = run.faults;
      say_faults = run.say_faults;
      pull_faults = faults;
      no_fault = λ no. run.no_fault (λ is. absurd (cc));
      no_say_fault = λ no. absurd (no refl);
      no_pull_fault = λ no. same_pulls;
      pulls = λ s. pulls_of taken (cut s) (omega arith);
      pulls_most = pulls;
      ended = λ zero. absurd (omega arith);
      once = once;
    }

    -- the script has ended
    module _ (ends : HasEnded j) (none : IsTrue told → j.left ≡ []) where
      abbrev took_all : (status : ℕ) → (status ≡ 0) ⊎ (status ≡ 4) → IsTrue told → Took most_script IsScriptEnd status i j
      took_all status last s = record { taken = taken; ended = true; cut = cut s; end = λ yes. (ends, none s, short, last) }

      whole : IsTrue told → i.left ≡ taken
      whole s = cut s ∙ ap (λ (l : List ℕ). taken ++ l) (none s) ∙ append-nil taken

      ended_fair : (status : ℕ) → (status ≡ 0) ⊎ (status ≡ 4) → (r : Result Unit RunFault) → Ran (by_engine tells) script (requests taken ++ last_request taken) r e f v w → IsTrue tells → IsTrue told → (state : State) → IsAt tells e state v → RanOn script most_script IsScriptEnd asked_of state status v w i j
      ended_fair status last r run t s state at = ran_on state status (requests taken ++ last_request taken) v w i j (took_all status last s) (asked_to_end taken short) (run.fair t state at) (run.moments t state at)

      pub ended : (r : Result Unit RunFault) → (IsErr r → r ≡ Err Output) → Ran (by_engine tells) script (requests taken ++ last_request taken) r e f v w → OpenedRan tells told e (status_of_end r) v w i j
      ended (Ok value) output run = record {
        fair = ended_fair 0 (inl refl) (Ok value) run;
        all = λ zero t s state at. record {
          ended = ends;
          none_left = none s;
          done = done tells state (requests taken ++ last_request taken) (requests i.left ++ last_request i.left) f v w (ap (λ (l : List ℕ). requests l ++ last_request l) (sym (whole s))) (run.answered t state at);
        };
        so_far = λ which. absurd (⊎_elim (λ (is : 0 ≡ 3). omega arith) (λ (is : 0 ≡ 8). omega arith) which);
        pull = λ three. absurd (omega arith);
        output = λ four. absurd (omega arith);
        disk = λ five. absurd (omega arith);
        too_long = λ eight. absurd (omega arith);
        short = λ s. inr (record { taken = taken; cut = cut s; short = short });
        statuses = inl refl;
        size = run.size;
        syncs = run.syncs;
        faults = run.faults;
        say_faults = run.say_faults;
        pull_faults = faults;
        no_fault = λ no. run.no_fault (λ is. absurd (cc));
        no_say_fault = λ no. run.no_say_fault (λ is. absurd (cc));
        no_pull_fault = λ no. same_pulls;
        pulls = λ s. pulls_of taken (cut s) (omega arith);
        pulls_most = pulls;
        ended = λ zero. ends;
        once = once;
      }
      ended (Err Disk) output run = absurd (let clash : ◌≡◌ {A = Result Unit RunFault} (Err Disk) (Err Output) = output refl in cc)
      ended (Err Output) output run = record {
        fair = ended_fair 4 (inr refl) (Err Output) run;
        all = λ zero. absurd (omega arith);
        so_far = λ which. absurd (⊎_elim (λ (is : 4 ≡ 3). omega arith) (λ (is : 4 ≡ 8). omega arith) which);
        pull = λ three. absurd (omega arith);
        output = λ four. run.output refl;
        disk = λ five. absurd (omega arith);
        too_long = λ eight. absurd (omega arith);
        short = λ s. inr (record { taken = taken; cut = cut s; short = short });
        statuses = inr (inr (inl refl));
        size = run.size;
        syncs = run.syncs;
        faults = run.faults;
        say_faults = run.say_faults;
        pull_faults = faults;
        no_fault = λ no. run.no_fault (λ is. absurd (cc));
        no_say_fault = λ no. absurd (no refl);
        no_pull_fault = λ no. same_pulls;
        pulls = λ s. pulls_of taken (cut s) (omega arith);
        pulls_most = pulls;
        ended = λ zero. absurd (omega arith);
        once = once;
      }
