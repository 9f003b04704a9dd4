-- A run behind an opening.
use Rattle.std.proofs.Common.{◌≡◌, ◌⊎◌, inl, inr, ⊎_elim, ℕ, ◌≤◌, Bool, false, IsTrue, List, [], ◌++◌, length, Result, Ok, Err, refl, sym, ◌∙◌, ap, subst, arith, length-append}
use Rattle.ts_disk.specs.Device.{Device, Lawful, Within, FirstSync, LeavesOnly, Input}
use Rattle.ts_disk.proofs.Moments.{first_map}
use Rattle.ts_command.specs.Grammar.{Request}
use Rattle.ts_model.specs.Catalogue.{Catalogue}
use Rattle.ts_answer.specs.Answer.{resting}
use Rattle.ts_container.specs.declared.fault.SurveyFault.{SurveyFault}
use Rattle.ts_opening.specs.Engine.{Engine}
use Rattle.ts_volume.specs.Volume.{MeansCatalogue}
use Rattle.ts_opening.specs.Engine.{Started, StillMeans}
use Rattle.ts_script_runs.proofs.ApartLemmas.{apart}
use Rattle.ts_script_runs.specs.Script.{script, most_script, IsScriptEnd, asked_of, OpenedRan, ScriptFrom, ScriptRan}
use Rattle.ts_opening.specs.Opening.{status_of_opening, OpensStore, Took, TookEnough, TookTooMuch}
use Rattle.ts_carriers.proofs.CallerLemmas.{never, rose_on}
use Rattle.ts_replies.specs.Said.{SaysFairly, AllDone}
use Rattle.ts_replies.specs.Acknowledged.{IsGoodMoment}
use Rattle.ts_opening.proofs.CallerLemmas.{first_then, first_now, good_first, ran_from, silent, unopened_now, unopened_store, unopened_status, unopened_unwritten, is_unopened, opened_store}

-- nothing was taken of the source
abbrev nothing_taken : (status : ℕ) (i : Input) → Took most_script IsScriptEnd status i i
nothing_taken status i = record { taken = []; ended = false; cut = refl; end = λ yes. never yes }

taken_enough : (i : Input) → TookEnough most_script i i
taken_enough i = record { taken = []; cut = refl; short = omega arith }

-- what was said and what a stop leaves
script_from : (cat : Catalogue) (status : ℕ) (v w : Device) (i j : Input) → MeansCatalogue v.held cat → (took : Took most_script IsScriptEnd status i j) → SaysFairly script (resting cat) (asked_of took.ended took.taken) v w → FirstSync v w (IsGoodMoment script (resting cat) (asked_of took.ended took.taken) v.said) → ScriptFrom cat status v w i j
script_from cat status v w i j means took fair moments = ran_from script apart most_script IsScriptEnd asked_of (λ taken. resting cat) status v w i j took means fair moments

-- The run ends before the script is pulled, with nothing said.
unpulled : (tells told : Bool) (status : ℕ) (v w : Device) (i : Input) → OpensStore tells status v w → (status ≡ 5) ⊎ ((status ≡ 6) ⊎ (status ≡ 7)) → w.said ≡ v.said → w.say_faults ≡ v.say_faults
    → (IsTrue tells → (cat : Catalogue) → MeansCatalogue v.held cat → (asked : List Request) → FirstSync v w (IsGoodMoment script (resting cat) asked v.said))
    → (status ≡ 7 → (w.held ≡ v.held) × Within v.images w.images) → ScriptRan tells told status v w i i
unpulled tells told status v w i store which said say_faults first unwritten = record {
  store = store;
  fair = λ t s cat means. script_from cat status v w i i means (nothing_taken status i) (silent script apart (resting cat) (asked_of false []) v w said) (first t cat means (asked_of false []));
  all = λ zero. absurd (is_unopened status 0 which zero (inl (omega arith)));
  so_far = λ three. absurd (⊎_elim (λ is. is_unopened status 3 which is (inl (omega arith))) (λ is. is_unopened status 8 which is (inr (omega arith))) three);
  pull = λ three. absurd (is_unopened status 3 which three (inl (omega arith)));
  output = λ four. absurd (is_unopened status 4 which four (inl (omega arith)));
  too_long = λ eight. absurd (is_unopened status 8 which eight (inr (omega arith)));
  short = λ s. inr (taken_enough i);
  quiet = λ is. said;
  unwritten = unwritten;
  unread = λ is. refl;
  statuses = ⊎_elim (λ five. inr (inr (inr (inl five)))) (λ is. ⊎_elim (λ six. inr (inr (inr (inr (inl six))))) (λ seven. inr (inr (inr (inr (inr (inl seven)))))) is) which;
  say_faults = omega (arith, say_faults);
  pull_faults = omega arith;
  no_say_fault = λ no. say_faults;
  no_pull_fault = λ no. refl;
  pulls = λ s. omega arith;
  pulls_most = omega arith;
  ended = λ zero. absurd (is_unopened status 0 which zero (inl (omega arith)));
  once = λ live. refl;
  complete = λ t s cat means short not_disk not_output not_pull. elim which [
    | inl five ↦ absurd (not_disk (store.disk five))
    | inr (inl six) ↦ absurd (store.no_store six t cat means)
    | inr (inr seven) ↦ inr seven
  ];
}

-- want of memory for the buffers: nothing is done
pub unbuffered : (tells told : Bool) (v : Device) (i : Input) → Lawful tells v → ScriptRan tells told 7 v v i i
unbuffered tells told v i lawful =
    unpulled tells told 7 v v i (unopened_now tells v lawful) (inr (inr refl)) refl refl (λ t cat means asked. first_now tells v (IsGoodMoment script (resting cat) asked v.said) lawful) (λ seven. (refl, λ image now. now))

-- the opening, from its first sync on
opening : (tells : Bool) (r : Result Engine SurveyFault) (v y : Device) → Started tells r v y → IsTrue tells → (cat : Catalogue) → MeansCatalogue v.held cat → (asked : List Request) → FirstSync v y (IsGoodMoment script (resting cat) asked v.said)
opening tells r v y started told cat means asked =
    first_map v y (StillMeans cat v) (IsGoodMoment script (resting cat) asked v.said) (λ image said now. good_first script apart (resting cat) asked v.said image said now.0 now.1) (started.moments told cat means)

-- the volume was not opened
pub unopened : (tells told : Bool) (fault : SurveyFault) (v y : Device) (i : Input) → Started tells (Err fault) v y → ScriptRan tells told (status_of_opening fault) v y i i
unopened tells told fault v y i started =
    unpulled tells told (status_of_opening fault) v y i (unopened_store tells fault v y started) (unopened_status fault) started.others.said started.others.say_faults (opening tells (Err fault) v y started) (unopened_unwritten tells fault v y started)

-- the script behind the opening
module _ (tells told : Bool) (engine : Engine) (v y w : Device) (i j : Input) (status : ℕ) (started : Started tells (Ok engine) v y) (ran : OpenedRan tells told engine status y w i j) where
  said_first : y.said ≡ v.said
  said_first = started.others.said

  fair_from : IsTrue tells → IsTrue told → (cat : Catalogue) → MeansCatalogue v.held cat → ScriptFrom cat status v w i j
  fair_from t s cat means =
      let part = ran.fair t s (resting cat) (started.at t cat means) in
      let asked = asked_of part.took.ended part.took.taken in
      let good : LeavesOnly y w (IsGoodMoment script (resting cat) asked v.said) = subst (λ (l : List ℕ). LeavesOnly y w (IsGoodMoment script (resting cat) asked l)) said_first part.moments in
      script_from cat status v w i j means part.took
      (part.fair.0, part.fair.1 ∙ ap (λ (l : List ℕ). l ++ part.fair.0) said_first, part.fair.2)
      (first_then v y w (IsGoodMoment script (resting cat) asked v.said) (opening tells (Ok engine) v y started t cat means asked) (started.synced t) good (ran.syncs t))

  done_from : (cat : Catalogue) (asked : List Request) → AllDone script (resting cat) asked y w → AllDone script (resting cat) asked v w
  done_from cat asked done = record {
    gained = done.gained;
    last = done.last;
    said = done.said ∙ ap (λ (l : List ℕ). l ++ done.gained) said_first;
    answered = done.answered;
    means = done.means;
    only = done.only;
  }

  pub opened : ScriptRan tells told status v w i j
  opened = record {
    store = opened_store tells engine status v y w started (λ six. neither (inl six)) ran.disk ran.no_fault ran.size ran.faults;
    fair = fair_from;
    all = λ zero t s cat means. let done = ran.all zero t s (resting cat) (started.at t cat means) in record { ended = done.ended; none_left = done.none_left; done = done_from cat _ done.done };
    so_far = λ which t s cat means. let done = ran.so_far which t s (resting cat) (started.at t cat means) in record { taken = done.taken; cut = done.cut; done = done_from cat _ done.done };
    pull = ran.pull;
    output = λ four. rose_on v.say_faults y.say_faults w.say_faults (omega (arith, started.others.say_faults)) (ran.output four);
    too_long = ran.too_long;
    short = ran.short;
    quiet = λ which. absurd (neither which);
    unwritten = λ seven. absurd (neither (inr seven));
    unread = λ which. absurd (neither which);
    statuses = all_of ran.statuses;
    say_faults = omega (arith, started.others.say_faults, ran.say_faults);
    pull_faults = ran.pull_faults;
    no_say_fault = λ no. ran.no_say_fault no ∙ started.others.say_faults;
    no_pull_fault = ran.no_pull_fault;
    pulls = ran.pulls;
    pulls_most = ran.pulls_most;
    ended = ran.ended;
    once = ran.once;
    complete = λ t s cat means short not_disk not_output not_pull. elim ran.statuses [
      | inl zero ↦ inl zero
      | inr (inl three) ↦ absurd (not_pull (ran.pull three))
      | inr (inr (inl four)) ↦ absurd (not_output (rose_on v.say_faults y.say_faults w.say_faults (omega (arith, started.others.say_faults)) (ran.output four)))
      | inr (inr (inr (inl five))) ↦ absurd (not_disk (rose_on v.faults y.faults w.faults started.others.faults (ran.disk five)))
      | inr (inr (inr (inr eight))) ↦ absurd (overlong_not (ran.too_long eight s) short)
    ];
  } where
    overlong_not : TookTooMuch most_script i j → length i.left ≤ 268435456 → ⊥
    overlong_not much short = omega (arith, much.long, short, ap length much.cut, length-append much.taken j.left)

    neither : (status ≡ 6) ⊎ (status ≡ 7) → ⊥
    neither which = omega (arith, which, ran.statuses)

    all_of : (status ≡ 0) ⊎ ((status ≡ 3) ⊎ ((status ≡ 4) ⊎ ((status ≡ 5) ⊎ (status ≡ 8)))) → (status ≡ 0) ⊎ ((status ≡ 3) ⊎ ((status ≡ 4) ⊎ ((status ≡ 5) ⊎ ((status ≡ 6) ⊎ ((status ≡ 7) ⊎ (status ≡ 8))))))
    all_of (inl e) = inl e
    all_of (inr (inl e)) = inr (inl e)
    all_of (inr (inr (inl e))) = inr (inr (inl e))
    all_of (inr (inr (inr (inl e)))) = inr (inr (inr (inl e)))
    all_of (inr (inr (inr (inr e)))) = inr (inr (inr (inr (inr (inr e)))))
