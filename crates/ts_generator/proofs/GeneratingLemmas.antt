-- Commands carried out one behind the other, with nothing said, and what is said of them all.
use Rattle.std.proofs.Common.{◌≡◌, ◌⊎◌, inl, inr, ⊎_elim, ℕ, suc, ◌+◌, ◌-◌, ◌≤◌, Bool, not, IsTrue, cond, List, [], ◌∷◌, ◌++◌, length, take, drop, codes, Result, Ok, Err, OnOk, refl, sym, ◌∙◌, ap, subst, arith, append_assoc, length-append, take-append-drop}
use Rattle.std.specs.Fmt.{decimal}
use Rattle.std.specs.List.{count_by, flat_map}
use Rattle.std.proofs.lemmas.List.{append-nil, take-append-le, take_all}
use Rattle.std.proofs.lemmas.List.Sums.{sum_by-append}
use Rattle.std.proofs.Math.Seq.{drop-append_seam}
use Rattle.ts_disk.specs.Device.{Device, Lawful, LeavesOnly, Says, Rose}
use Rattle.ts_disk.proofs.Moments.{started, goes_on, then_on, leaves_map}
use Rattle.ts_command.specs.declared.command.Command.{Command}
use Rattle.ts_answer.specs.Answer.{State, committed, run_answer, after, replies}
use Rattle.ts_answer.specs.Outcomes.{ends_with_ok}
use Rattle.ts_answer.proofs.CallerLemmas.{after_more, replies_more}
use Rattle.ts_opening.specs.Engine.{StepFault}
use Rattle.ts_opening.specs.Faults as faults
use Rattle.ts_volume.specs.Volume.{MeansCatalogue}
use Rattle.ts_opening.specs.Engine.{Kept, IsReady, IsAt}
use Rattle.ts_opening.specs.Engine.{BeforeOrAfter}
use Rattle.ts_opening.specs.Engine.{Stepped, state_after}
use Rattle.ts_generator.specs.Generating.{last_two, summary, IsTally, IsAmong, QuietFault, RanQuietly, IsBehind, IsNextStep, IsUnmade, IsWithin, SaysSummary, OpenedGen}
use Rattle.ts_generator.specs.Generated.{IsNext}
use Rattle.ts_generator.specs.declared.generator.Generator.{Generator}
use Rattle.ts_carriers.proofs.CallerLemmas.{rose_on}

-- one reply more is counted where it passes the test
count_more : (test : List ℕ → Bool) (rs : List (List ℕ)) (r : List ℕ) → count_by test (rs ++ r ∷ []) ≡ count_by test rs + cond (test r) 1 0
count_more test rs r = sum_by-append (λ x. cond (test x) 1 0) rs (r ∷ []) ∙ omega arith

-- no reply yet
pub tally_none : (before reply : List ℕ) → before ≡ [] → reply ≡ [] → IsTally [] before reply 0 0
tally_none before reply first second = record { front = []; two = λ i. sym first i ∷ sym second i ∷ []; counted = refl; others = refl }

-- one reply more: the last becomes the one before it
pub tally_more : (rs : List (List ℕ)) (before reply next : List ℕ) (a b c d : ℕ) → c ≡ a + cond (ends_with_ok next) 1 0 → d ≡ b + cond (not (ends_with_ok next)) 1 0
    → IsTally rs before reply a b → IsTally (rs ++ next ∷ []) reply next c d
tally_more rs before reply next a b c d more other tally = record {
  front = tally.front ++ before ∷ [];
  two = ap (λ (l : List (List ℕ)). l ++ next ∷ []) tally.two ∙ append_assoc tally.front (before ∷ reply ∷ []) (next ∷ []) ∙ sym (append_assoc tally.front (before ∷ []) (reply ∷ next ∷ []));
  counted = omega (arith, more, tally.counted, count_more ends_with_ok rs next);
  others = omega (arith, other, tally.others, count_more (λ r. not (ends_with_ok r)) rs next);
}

-- the last two replies are those that are kept
two_kept : (rs front : List (List ℕ)) (before reply : List ℕ) → 2 ≤ length rs → [] ∷ [] ∷ rs ≡ front ++ before ∷ reply ∷ [] → drop (length rs - 2) rs ≡ before ∷ reply ∷ []
two_kept [] front before reply two is = absurd (omega (arith, two))
two_kept (r ∷ []) front before reply two is = absurd (omega (arith, two))
two_kept (q ∷ r ∷ rs) front before reply two is =
    let size : length front ≡ suc (suc (length rs)) = omega (arith, ap length is, length-append front (before ∷ reply ∷ [])) in
    let few : length (q ∷ r ∷ rs) - 2 ≡ length rs = omega arith in
    ap (λ (n : ℕ). drop n (q ∷ r ∷ rs)) few
    ∙ ap (λ (l : List (List ℕ)). drop (suc (suc (length rs))) l) is
    ∙ ap (λ (n : ℕ). drop n (front ++ before ∷ reply ∷ [])) (sym size)
    ∙ drop-append_seam front (before ∷ reply ∷ [])

-- what is said of all replies, by what is kept of them
pub summed_up : (rs : List (List ℕ)) (before reply text : List ℕ) (a b : ℕ) → 2 ≤ length rs → IsTally rs before reply a b
    → text ≡ before ++ reply ++ codes "done " ++ decimal a ++ codes " " ++ decimal b ++ codes "\n" → text ≡ summary rs
unfolding summary
summed_up rs before reply text a b two tally is =
    let front : last_two rs ≡ before ++ reply = ap (flat_map (λ r. r)) (two_kept rs tally.front before reply two tally.two) ∙ ap (λ (l : List ℕ). before ++ l) (append-nil reply) in
    let x : List ℕ = codes "done " in
    let y : List ℕ = codes " " in
    let z : List ℕ = codes "\n" in
    let p : List ℕ = decimal a in
    let q : List ℕ = decimal b in
    let w : List ℕ = before ++ reply in
    is
    ∙ (ap (λ (l : List ℕ). l ++ y ++ q ++ z) (append_assoc w x p)
    ∙ ap (λ (l : List ℕ). l ++ q ++ z) (append_assoc w (x ++ p) y)
    ∙ ap (λ (l : List ℕ). l ++ z) (append_assoc w (x ++ p ++ y) q)
    ∙ append_assoc w (x ++ p ++ y ++ q) z)
    ∙ ap (λ (l : List ℕ). l ++ (x ++ p ++ y ++ q ++ z)) (sym front)
    ∙ ap (λ (n : ℕ). last_two rs ++ (x ++ decimal n ++ y ++ q ++ z)) tally.counted
    ∙ ap (λ (n : ℕ). last_two rs ++ (x ++ decimal (count_by ends_with_ok rs) ++ y ++ decimal n ++ z)) tally.others

-- among more commands
among_more : (state : State) (xs ys : List Command) (before image said : List ℕ) → IsAmong state xs before image said → IsAmong state (xs ++ ys) before image said
among_more state xs ys before image said among = record {
  count = among.count;
  within = omega (arith, among.within, length-append xs ys);
  means = subst (λ (l : List Command). MeansCatalogue image (committed (after state l))) (sym (take-append-le among.count xs ys among.within)) among.means;
  silent = among.silent;
}

-- the state after all commands, or after one more
among_all : (state : State) (xs : List Command) (before image said : List ℕ) → MeansCatalogue image (committed (after state xs)) → said ≡ before → IsAmong state xs before image said
among_all state xs before image said means same = record {
  count = length xs;
  within = omega arith;
  means = subst (λ (l : List Command). MeansCatalogue image (committed (after state l))) (sym (take_all (length xs) xs (omega arith))) means;
  silent = same;
}

among_step : (state : State) (xs : List Command) (c : Command) (before : List ℕ) (x : Device) → x.said ≡ before → (image said : List ℕ) → BeforeOrAfter (after state xs) (state_after c (after state xs)) x image said
    → IsAmong state (xs ++ c ∷ []) before image said
among_step state xs c before x same image said now = ⊎_elim
    (λ means. among_more state xs (c ∷ []) before image said (among_all state xs before image said means (now.1 ∙ same)))
    (λ means. among_all state (xs ++ c ∷ []) before image said (subst (λ (s : State). MeansCatalogue image (committed s)) (sym (after_more state xs c)) means) (now.1 ∙ same))
    now.0

-- nothing was carried out yet
pub quiet_none : (tells : Bool) (e : Kept) (v : Device) → Lawful tells v → IsReady tells e v → RanQuietly tells [] (Ok (tt {0})) e e v v
quiet_none tells e v lawful ready = record {
  ready = ready;
  at = λ told state at. at;
  fault = tt;
  moments = λ told state at.
      started tells v (IsAmong state [] v.said) lawful
      (λ image now. among_all state [] v.said image v.said (subst (λ (l : List ℕ). MeansCatalogue l (committed state)) (sym (at.ready.idle.over.settled image now)) at.means) refl);
  others = record { size = refl; said = refl; say_faults = refl; faults = omega arith; syncs = λ told. omega arith };
  no_fault = refl;
}

-- a run that ended before the other commands
pub quiet_front : (tells : Bool) (n : ℕ) (all : List Command) (fault : StepFault) (e f : Kept) (v w : Device) → RanQuietly tells (take n all) (Err fault) e f v w → RanQuietly tells all (Err fault) e f v w
quiet_front tells n all fault e f v w ran = record {
  ready = tt;
  at = tt;
  fault = ran.fault;
  moments = λ told state at.
      leaves_map v w (IsAmong state (take n all) v.said) (IsAmong state all v.said)
      (λ image said among. subst (λ (l : List Command). IsAmong state l v.said image said) (take-append-drop n all) (among_more state (take n all) (drop n all) v.said image said among))
      (ran.moments told state at);
  others = ran.others;
  no_fault = tt;
}

-- a step behind a run
module _ (tells : Bool) (xs : List Command) (c : Command) (out : List ℕ) (e f h : Kept) (v x w : Device) (ran : RanQuietly tells xs (Ok (tt {0})) e f v x) where
  moments_behind : (r : Result Unit StepFault) → Stepped tells c r out f h x w → IsTrue tells → (state : State) → IsAt tells e state v → LeavesOnly v w (IsAmong state (xs ++ c ∷ []) v.said)
  moments_behind r stepped told state at =
      then_on v x w (IsAmong state (xs ++ c ∷ []) v.said)
      (leaves_map v x (IsAmong state xs v.said) (IsAmong state (xs ++ c ∷ []) v.said) (λ image said. among_more state xs (c ∷ []) v.said image said) (ran.moments told state at))
      (leaves_map x w (BeforeOrAfter (after state xs) (state_after c (after state xs)) x) (IsAmong state (xs ++ c ∷ []) v.said) (among_step state xs c v.said x ran.others.said)
      (stepped.moves.moments told (after state xs) (ran.at told state at)))

  pub quiet_step : Stepped tells c (Ok (tt {0})) out f h x w → RanQuietly tells (xs ++ c ∷ []) (Ok (tt {0})) e h v w
  quiet_step stepped = record {
    ready = stepped.moves.ready;
    at = λ told state at. subst (λ (s : State). IsAt tells h s w) (sym (after_more state xs c)) (stepped.moves.at told (after state xs) (ran.at told state at));
    fault = tt;
    moments = moments_behind (Ok (tt {0})) stepped;
    others = record {
      size = stepped.moves.others.size ∙ ran.others.size;
      said = stepped.moves.others.said ∙ ran.others.said;
      say_faults = stepped.moves.others.say_faults ∙ ran.others.say_faults;
      faults = omega (arith, stepped.moves.others.faults, ran.others.faults);
      syncs = λ told. omega (arith, stepped.moves.others.syncs told, ran.others.syncs told);
    };
    no_fault = stepped.moves.no_fault ∙ ran.no_fault;
  }

  pub quiet_stop : (fault : StepFault) → Stepped tells c (Err fault) out f h x w → RanQuietly tells (xs ++ c ∷ []) (Err fault) e h v w
  quiet_stop fault stepped = record {
    ready = tt;
    at = tt;
    fault = why fault stepped;
    moments = moments_behind (Err fault) stepped;
    others = record {
      size = stepped.moves.others.size ∙ ran.others.size;
      said = stepped.moves.others.said ∙ ran.others.said;
      say_faults = stepped.moves.others.say_faults ∙ ran.others.say_faults;
      faults = omega (arith, stepped.moves.others.faults, ran.others.faults);
      syncs = λ told. omega (arith, stepped.moves.others.syncs told, ran.others.syncs told);
    };
    no_fault = tt;
  } where
    why : (fault : StepFault) → Stepped tells c (Err fault) out f h x w → QuietFault fault v w
    why faults.Disk stepped = rose_on v.faults x.faults w.faults ran.others.faults stepped.moves.fault.0
    why (faults.Memory error) stepped = stepped.moves.fault.2 ∙ ran.no_fault
    why (faults.Closed count) stepped = absurd stepped.moves.fault

-- nothing is in hand but an engine
pub behind_none : (tells : Bool) (hand : Generator) (v : Device) → Lawful tells v → IsReady tells hand.engine v → IsTally [] hand.before hand.reply hand.answered hand.refused
    → hand.answered + hand.refused ≡ 0 → IsBehind tells [] hand.engine v hand v
behind_none tells hand v lawful ready tally total = record { ran = quiet_none tells hand.engine v lawful ready; tally = λ told state at. tally; total = total }

-- one command more of a list
module _ (tells : Bool) (all : List Command) (n : ℕ) (e : Kept) (v x w : Device) (hand more : Generator) (behind : IsBehind tells (take n all) e v hand x) where
  pub behind_more : IsNextStep tells all n (Ok (tt {0})) hand more x w → IsBehind tells (take (n + 1) all) e v more w
  behind_more step =
      subst (λ (l : List Command). IsBehind tells l e v more w) (sym step.next) (record {
        ran = quiet_step tells (take n all) step.command more.reply e hand.engine more.engine v x w behind.ran step.stepped;
        tally = λ told state at.
            let same : more.reply ≡ (run_answer (after state (take n all)) (Ok step.command)).0 = step.stepped.answered told (after state (take n all)) (behind.ran.at told state at) in
            subst (λ (rs : List (List ℕ)). IsTally rs more.before more.reply more.answered more.refused)
            (ap (λ (r : List ℕ). replies state (take n all) ++ r ∷ []) same ∙ sym (replies_more state (take n all) step.command))
            (step.tally (replies state (take n all)) (behind.tally told state at));
        total = omega (arith, step.total, behind.total, length-append (take n all) (step.command ∷ []));
      })

  stopped_step : (fault : StepFault) → IsNextStep tells all n (Err fault) hand more x w → RanQuietly tells all (Err fault) e more.engine v w
  stopped_step fault step =
      quiet_front tells (n + 1) all fault e more.engine v w
      (subst (λ (l : List Command). RanQuietly tells l (Err fault) e more.engine v w) (sym step.next) (quiet_stop tells (take n all) step.command more.reply e hand.engine more.engine v x w behind.ran fault step.stepped))

  -- nothing was done for want of memory
  unmade_step : (fault : StepFault) → IsUnmade tells fault x w → RanQuietly tells all (Err fault) e more.engine v w
  unmade_step faults.Disk unmade = absurd unmade.memory
  unmade_step (faults.Closed count) unmade = absurd unmade.memory
  unmade_step (faults.Memory error) unmade = quiet_front tells n all (faults.Memory error) e more.engine v w (record {
    ready = tt;
    at = tt;
    fault = unmade.no_fault ∙ behind.ran.no_fault;
    moments = λ told state at.
        let there = behind.ran.at told state at in
        then_on v x w (IsAmong state (take n all) v.said) (behind.ran.moments told state at)
        (leaves_map x w (λ image said. x.images image × (said ≡ x.said)) (IsAmong state (take n all) v.said)
        (λ image said now. among_all state (take n all) v.said image said
        (subst (λ (l : List ℕ). MeansCatalogue l (committed (after state (take n all)))) (sym (there.ready.idle.over.settled image now.0)) there.means)
        (now.1 ∙ behind.ran.others.said))
        unmade.reads.moments);
    others = record {
      size = unmade.reads.keeps.size ∙ behind.ran.others.size;
      said = unmade.reads.keeps.said ∙ behind.ran.others.said;
      say_faults = unmade.reads.keeps.say_faults ∙ behind.ran.others.say_faults;
      faults = omega (arith, unmade.reads.keeps.faults, behind.ran.others.faults);
      syncs = λ told. omega (arith, unmade.reads.keeps.syncs told, behind.ran.others.syncs told);
    };
    no_fault = tt;
  })

  pub behind_stopped : (fault : StepFault) → IsUnmade tells fault x w ⊎ IsNextStep tells all n (Err fault) hand more x w → RanQuietly tells all (Err fault) e more.engine v w
  behind_stopped fault which = ⊎_elim (unmade_step fault) (stopped_step fault) which

-- the next command was carried out
pub next_step : (tells : Bool) (all : List Command) (n : ℕ) (c : Command) (r : Result Unit StepFault) (hand more : Generator) (v w : Device) → IsNext all n c → Stepped tells c r more.reply hand.engine more.engine v w
    → OnOk r ((rs : List (List ℕ)) → IsTally rs hand.before hand.reply hand.answered hand.refused → IsTally (rs ++ more.reply ∷ []) more.before more.reply more.answered more.refused)
    → OnOk r (more.answered + more.refused ≡ hand.answered + hand.refused + 1) → IsNextStep tells all n r hand more v w
next_step tells all n c r hand more v w next stepped tally total = record { command = c; next = next; stepped = stepped; tally = tally; total = total }

-- where nothing was done
pub unmade_now : (tells : Bool) (error : _) (v : Device) → Lawful tells v → IsUnmade tells (faults.Memory error) v v
unmade_now tells error v lawful = record {
  memory = tt;
  reads = record {
    keeps = record { size = refl; said = refl; say_faults = refl; faults = omega arith; syncs = λ told. omega arith };
    held = refl;
    images = λ image now. now;
    no_fewer = λ image now. now;
    moments = started tells v (λ image said. v.images image × (said ≡ v.said)) lawful (λ image now. (now, refl));
  };
  no_fault = refl;
}

-- all commands were carried out, or not; what is said then
module _ (tells : Bool) (commands : List Command) (e f : Kept) (v x : Device) where
  still_within : (state : State) (image said : List ℕ) → IsAmong state commands v.said image said → IsWithin state commands v.said image said
  still_within state image said among = record {
    count = among.count;
    within = among.within;
    means = among.means;
    part = (0, among.silent ∙ sym (append-nil v.said));
    all = inl among.silent;
  }

  unsaid : (status : ℕ) (state : State) → x.said ≡ v.said → (status ≡ 5) ⊎ (status ≡ 7) → SaysSummary state commands status v x
  unsaid status state same which = record {
    part = (0, same ∙ sym (append-nil v.said));
    said = λ zero. absurd (omega (arith, which, zero));
    means = λ done. absurd (omega (arith, which, done));
  }

  -- not all, or there is no memory for what is to be said
  pub ended_unsaid : (status : ℕ) (r : Result Unit StepFault) → RanQuietly tells commands r e f v x → (status ≡ 5) ⊎ (status ≡ 7) → (status ≡ 5 → Rose v.faults x.faults) → (status ≡ 7 → x.faults ≡ v.faults)
      → OpenedGen tells commands e status v x
  ended_unsaid status r ran which disk memory = record {
    on = λ told state at. record {
      says = unsaid status state ran.others.said which;
      moments = leaves_map v x (IsAmong state commands v.said) (IsWithin state commands v.said) (still_within state) (ran.moments told state at);
    };
    settled = λ zero. absurd (omega (arith, which, zero));
    output = λ four. absurd (omega (arith, which, four));
    disk = disk;
    no_fault = λ no. ⊎_elim (λ five. absurd (no five)) memory which;
    no_say_fault = λ no. ran.others.say_faults;
    quiet = inr (inr ran.others.said);
    size = ran.others.size;
    faults = ran.others.faults;
    say_faults = omega (arith, ran.others.say_faults);
    syncs = ran.others.syncs;
    statuses = ⊎_elim (λ five. inr (inr (inl five))) (λ seven. inr (inr (inr seven))) which;
  }

  module _ (ran : RanQuietly tells commands (Ok (tt {0})) e f v x) (text : List ℕ)
      (same : IsTrue tells → (state : State) → IsAt tells e state v → text ≡ summary (replies state commands)) (w : Device) where
    saying_moments : {E : Type 0} (q : Result Unit E) → Says tells text q x w → IsTrue tells → (state : State) → IsAt tells e state v → LeavesOnly v w (IsWithin state commands v.said)
    saying_moments q says told state at =
        let behind = ran.at told state at in
        goes_on v x w (IsWithin state commands v.said) _
        (leaves_map v x (IsAmong state commands v.said) (IsWithin state commands v.said) (still_within state) (ran.moments told state at))
        says.time
        (λ image said now. record {
          count = length commands;
          within = omega arith;
          means =
              subst (λ (l : List Command). MeansCatalogue image (committed (after state l))) (sym (take_all (length commands) commands (omega arith)))
              (subst (λ (l : List ℕ). MeansCatalogue l (committed (after state commands))) (sym (behind.ready.idle.over.settled image (says.crash image now.0))) behind.means);
          part = (now.1.0, now.1.1 ∙ ap (λ (l : List ℕ). l ++ take now.1.0 text) ran.others.said ∙ ap (λ (l : List ℕ). v.said ++ take now.1.0 l) (same told state at));
          all = inr refl;
        })

    all_means : {E : Type 0} (q : Result Unit E) → Says tells text q x w → IsTrue tells → (state : State) → IsAt tells e state v → MeansCatalogue w.held (committed (after state commands))
    all_means q says told state at = subst (λ (l : List ℕ). MeansCatalogue l (committed (after state commands))) (sym says.held) (ran.at told state at).means

    pub said_all : {E : Type 0} → Says {E = E} tells text (Ok (tt {0})) x w → OpenedGen tells commands e 0 v w
    said_all says = record {
      on = λ told state at.
          let whole = says.said told ∙ ap (λ (l : List ℕ). l ++ text) ran.others.said ∙ ap (λ (l : List ℕ). v.said ++ l) (same told state at) in
          record {
            says = record {
              part = (length (summary (replies state commands)), whole ∙ ap (λ (l : List ℕ). v.said ++ l) (sym (take_all (length (summary (replies state commands))) (summary (replies state commands)) (omega arith))));
              said = λ zero. whole;
              means = λ done. all_means (Ok (tt {0})) says told state at;
            };
            moments = saying_moments (Ok (tt {0})) says told state at;
          };
      settled = λ zero image now. ran.ready.idle.over.settled image (says.crash image now) ∙ sym says.held;
      output = λ four. absurd (omega (arith, four));
      disk = λ five. absurd (omega (arith, five));
      no_fault = λ no. says.faults ∙ ran.no_fault;
      no_say_fault = λ no. says.no_fault refl ∙ ran.others.say_faults;
      quiet = inl refl;
      size = says.size ∙ ran.others.size;
      faults = omega (arith, says.faults, ran.others.faults);
      say_faults = omega (arith, says.say_faults, ran.others.say_faults);
      syncs = λ told. omega (arith, says.syncs, ran.others.syncs told);
      statuses = inl refl;
    }

    pub said_part : {E : Type 0} (error : E) → Says tells text (Err error) x w → OpenedGen tells commands e 4 v w
    said_part error says = record {
      on = λ told state at. record {
        says = record {
          part = (says.part.0, says.part.1 ∙ ap (λ (l : List ℕ). l ++ take says.part.0 text) ran.others.said ∙ ap (λ (l : List ℕ). v.said ++ take says.part.0 l) (same told state at));
          said = λ zero. absurd (omega (arith, zero));
          means = λ done. all_means (Err error) says told state at;
        };
        moments = saying_moments (Err error) says told state at;
      };
      settled = λ zero. absurd (omega (arith, zero));
      output = λ four. rose_on v.say_faults x.say_faults w.say_faults (omega (arith, ran.others.say_faults)) (says.cause refl);
      disk = λ five. absurd (omega (arith, five));
      no_fault = λ no. says.faults ∙ ran.no_fault;
      no_say_fault = λ no. absurd (no refl);
      quiet = inr (inl refl);
      size = says.size ∙ ran.others.size;
      faults = omega (arith, says.faults, ran.others.faults);
      say_faults = omega (arith, says.say_faults, ran.others.say_faults);
      syncs = λ told. omega (arith, says.syncs, ran.others.syncs told);
      statuses = inr (inl refl);
    }
