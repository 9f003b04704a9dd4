-- Sessions behind an opening.
use Rattle.std.proofs.Common.{◌≡◌, ◌⊎◌, inl, inr, ⊎_elim, ℕ, ◌≤◌, Bool, true, IsTrue, List, [], ◌++◌, length, Ok, Err, refl, sym, ◌∙◌, ap, subst, arith}
use Rattle.ts_disk.specs.Device.{Device, FirstSync, LeavesOnly, Input}
use Rattle.ts_disk.proofs.Moments.{first_map, leaves_map}
use Rattle.ts_model.specs.Catalogue.{Catalogue}
use Rattle.ts_multi.specs.Sections.{sections}
use Rattle.ts_replies.specs.Acknowledged.{TellsApart, IsGoodMoment}
use Rattle.ts_sessions.specs.Steps.{Turn}
use Rattle.ts_sessions.proofs.CallerLemmas.{told_apart}
use Rattle.ts_container.specs.declared.fault.SurveyFault.{SurveyFault}
use Rattle.ts_volume.specs.Volume.{MeansCatalogue}
use Rattle.ts_opening.specs.Engine.{Engine}
use Rattle.ts_opening.specs.Engine.{Started, StillMeans}
use Rattle.ts_replies.specs.Said.{SaysFairly, AllDone}
use Rattle.ts_carriers.proofs.CallerLemmas.{rose_on}
use Rattle.ts_opening.specs.Opening.{status_of_opening, Took}
use Rattle.ts_opening.proofs.CallerLemmas.{first_then, good_first, is_unopened, opened_store, ran_from, silent, unopened_status, unopened_store}
use Rattle.ts_session_runs.specs.Carrier.{sessions as protocol}
use Rattle.ts_session_runs.specs.Ran.{SessionsOver}
use Rattle.ts_session_source.specs.Text.{most_text, TakesText}
use Rattle.ts_session_source.specs.Sessions.{turns_of, asked_of, begun, IsTextEnd, IsUnbegun, SessionsFrom, ShowsSource, SessionsRan}
use Rattle.ts_session_source.specs.Opened.{Rests, RanNone, OpenedSessions}
use Rattle.ts_session_source.proofs.CountLemmas.{each_turn, asked_all}
use Rattle.ts_session_source.proofs.SourceLemmas.{none_taken, unpulled, not_short, untaken, untaken_status, part_taken, whole_is, all_taken, taken_shows}

apart : TellsApart protocol
apart = told_apart MeansCatalogue

-- what was said and what a stop leaves
sessions_from : (seed : ℕ) (cat : Catalogue) (status : ℕ) (v w : Device) (i j : Input) → MeansCatalogue v.held cat → (took : Took most_text IsTextEnd status i j) → SaysFairly protocol (begun cat took.taken) (asked_of seed took.ended took.taken) v w
    → FirstSync v w (IsGoodMoment protocol (begun cat took.taken) (asked_of seed took.ended took.taken) v.said) → SessionsFrom seed cat status v w i j
sessions_from seed cat status v w i j means took fair moments = ran_from protocol apart most_text IsTextEnd (asked_of seed) (begun cat) status v w i j took means fair moments

-- as long as each image means the catalogue and nothing is said, all is good
good_still : (cat : Catalogue) (count : List ℕ) (asked : List Turn) (v w : Device) → FirstSync v w (StillMeans cat v) → FirstSync v w (IsGoodMoment protocol (begun cat count) asked v.said)
good_still cat count asked v w still =
    first_map v w (StillMeans cat v) (IsGoodMoment protocol (begun cat count) asked v.said) (λ image said now. good_first protocol apart (begun cat count) asked v.said image said now.0 now.1) still

-- the volume was not opened
pub unopened : (tells told : Bool) (seed : ℕ) (fault : SurveyFault) (v y : Device) (i : Input) → Started tells (Err fault) v y → SessionsRan tells told seed (status_of_opening fault) v y i i
unopened tells told seed fault v y i opens =
    let status = status_of_opening fault in
    let which = unopened_status fault in
    let store = unopened_store tells fault v y opens in
    record {
      store = store;
      source = unpulled told status i which;
      fair = λ t s cat means.
          sessions_from seed cat status v y i i means (none_taken status i) (silent protocol apart (begun cat []) [] v y opens.others.said) (good_still cat [] [] v y (opens.moments t cat means));
      all = λ zero. absurd (is_unopened status 0 which zero (inl (omega arith)));
      kept = λ same t cat means. opens.moments t cat means;
      quiet = λ same. opens.others.said;
      unread = λ six. refl;
      statuses = ⊎_elim (λ five. inr (inr (inl five))) (λ is. ⊎_elim (λ six. inr (inr (inr (inl six)))) (λ seven. inr (inr (inr (inr (inr (inl seven)))))) is) which;
      output = λ four. absurd (is_unopened status 4 which four (inl (omega arith)));
      no_say_fault = λ no. opens.others.say_faults;
      say_faults = omega (arith, opens.others.say_faults);
      complete = λ t s cat means short few not_disk not_output not_pull. elim which [
        | inl five ↦ absurd (not_disk (store.disk five))
        | inr (inl six) ↦ absurd (store.no_store six t cat means)
        | inr (inr seven) ↦ inr seven
      ];
    }

-- the volume was opened
module _ (tells told : Bool) (seed : ℕ) (engine : Engine) (v y w : Device) (i j : Input) (status : ℕ) (opens : Started tells (Ok engine) v y) where
  said_first : y.said ≡ v.said
  said_first = opens.others.said

  means_at : IsTrue tells → (cat : Catalogue) → MeansCatalogue v.held cat → (image : List ℕ) → y.images image → MeansCatalogue image cat
  means_at t cat means image now =
      let at = opens.at t cat means in
      subst (λ (l : List ℕ). MeansCatalogue l cat) (sym (at.ready.idle.over.settled image now)) at.means

  -- nothing was done since
  module _ (rests : Rests tells y w) where
    kept_since : IsTrue tells → (cat : Catalogue) → MeansCatalogue v.held cat → FirstSync v w (StillMeans cat v)
    kept_since t cat means =
        first_then v y w (StillMeans cat v) (opens.moments t cat means) (opens.synced t)
        (leaves_map y w (λ image said. y.images image × (said ≡ y.said)) (StillMeans cat v) (λ image said now. (means_at t cat means image now.0, now.1 ∙ said_first)) rests.reads.moments)
        (rests.reads.keeps.syncs t)

    said_since : w.said ≡ v.said
    said_since = rests.reads.keeps.said ∙ said_first

    rested : IsUnbegun status → ShowsSource told status i j → (IsTrue told → Took most_text IsTextEnd status i j) → SessionsRan tells told seed status v w i j
    rested which shows took = record {
      store = opened_store tells engine status v y w opens (λ six. omega (arith, which, six)) (λ five. absurd (omega (arith, which, five))) (λ no. rests.faults) rests.reads.keeps.size (omega (arith, rests.faults));
      source = shows;
      fair = λ t s cat means.
          let some = took s in
          sessions_from seed cat status v w i j means some (silent protocol apart (begun cat some.taken) (asked_of seed some.ended some.taken) v w said_since)
          (good_still cat some.taken (asked_of seed some.ended some.taken) v w (kept_since t cat means));
      all = λ zero. absurd (omega (arith, which, zero));
      kept = λ same. kept_since;
      quiet = λ same. said_since;
      unread = λ six. absurd (omega (arith, which, six));
      statuses = inr (inr (inr (inr which)));
      output = λ four. absurd (omega (arith, which, four));
      no_say_fault = λ no. rests.reads.keeps.say_faults ∙ opens.others.say_faults;
      say_faults = omega (arith, rests.reads.keeps.say_faults, opens.others.say_faults);
      complete = λ t s cat means short few not_disk not_output not_pull. elim which [
        | inl three ↦ absurd (not_pull (shows.pull three))
        | inr (inl seven) ↦ inr seven
        | inr (inr (inl eight)) ↦ absurd (not_short told i j (shows.too_long eight s) short)
        | inr (inr (inr nine)) ↦ absurd (let many = (shows.too_many nine s).many in omega (arith, many, few))
      ];
    }

  -- the text was taken to its end
  module _ (text : List ℕ) (takes : TakesText told (Ok text) i j) where
    none_ran : RanNone tells text status y w → SessionsRan tells told seed status v w i j
    none_ran none =
        let ends : IsTextEnd text status = ⊎_elim (λ seven. inl seven) (λ nine. inr (inr nine)) none.why in
        rested none.rests (⊎_elim (λ seven. inr (inl seven)) (λ nine. inr (inr (inr nine.1))) none.why) (taken_shows told i j text takes status ends) (all_taken told i j text takes status ends)

    -- and its sections were carried out
    module _ (few : length (sections text) ≤ 16) (over : SessionsOver tells engine status (length (sections text)) (turns_of seed text) y w) where
      module _ (t : IsTrue tells) (cat : Catalogue) (means : MeansCatalogue v.held cat) where
        fair_from : SaysFairly protocol (begun cat text) (asked_of seed true text) v w
        fair_from =
            let part = over.fair t cat (opens.at t cat means) in
            subst (λ (l : List Turn). SaysFairly protocol (begun cat text) l v w) (asked_all seed text few) (part.0, part.1 ∙ ap (λ (l : List ℕ). l ++ part.0) said_first, part.2)

        moments_from : FirstSync v w (IsGoodMoment protocol (begun cat text) (asked_of seed true text) v.said)
        moments_from =
            let good : LeavesOnly y w (IsGoodMoment protocol (begun cat text) (turns_of seed text) v.said) =
            subst (λ (l : List ℕ). LeavesOnly y w (IsGoodMoment protocol (begun cat text) (turns_of seed text) l)) said_first (over.moments t cat (opens.at t cat means))
            in
            subst (λ (l : List Turn). FirstSync v w (IsGoodMoment protocol (begun cat text) l v.said)) (asked_all seed text few)
            (first_then v y w (IsGoodMoment protocol (begun cat text) (turns_of seed text) v.said) (good_still cat text (turns_of seed text) v y (opens.moments t cat means)) (opens.synced t) good (over.syncs t))

        done_from : status ≡ 0 → AllDone protocol (begun cat text) (turns_of seed text) v w
        done_from zero =
            let done = over.all zero t cat (opens.at t cat means) in
            record { gained = done.gained; last = done.last; said = done.said ∙ ap (λ (l : List ℕ). l ++ done.gained) said_first; answered = done.answered; means = done.means; only = done.only }

      carried : (status ≡ 0) ⊎ ((status ≡ 4) ⊎ (status ≡ 5)) → SessionsRan tells told seed status v w i j
      carried which =
          let ends : IsTextEnd text status = inr (inl (few, which)) in
          record {
            store = opened_store tells engine status v y w opens (λ six. omega (arith, which, six)) over.disk over.no_fault over.size over.faults;
            source = taken_shows told i j text takes status ends;
            fair = λ t s cat means. sessions_from seed cat status v w i j means (all_taken told i j text takes status ends s) (fair_from t cat means) (moments_from t cat means);
            all = λ zero t s cat means. record {
              ended = takes.ended;
              none_left = (takes.whole s).1;
              few = subst (λ (l : List ℕ). length (sections l) ≤ 16) (sym (whole_is told i j text takes s)) few;
              each = each_turn seed i.left;
              done = subst (λ (l : List ℕ). AllDone protocol (begun cat l) (turns_of seed l) v w) (sym (whole_is told i j text takes s)) (done_from t cat means zero);
            };
            kept = λ same. absurd (omega (arith, which, same));
            quiet = λ same. absurd (omega (arith, which, same));
            unread = λ six. absurd (omega (arith, which, six));
            statuses = ⊎_elim (λ zero. inl zero) (λ is. ⊎_elim (λ four. inr (inl four)) (λ five. inr (inr (inl five))) is) which;
            output = λ four. rose_on v.say_faults y.say_faults w.say_faults (omega (arith, opens.others.say_faults)) (over.output four);
            no_say_fault = λ no. over.no_say_fault no ∙ opens.others.say_faults;
            say_faults = omega (arith, opens.others.say_faults, over.say_faults);
            complete = λ t s cat means short few not_disk not_output not_pull. elim which [
              | inl zero ↦ inl zero
              | inr (inl four) ↦ absurd (not_output (rose_on v.say_faults y.say_faults w.say_faults (omega (arith, opens.others.say_faults)) (over.output four)))
              | inr (inr five) ↦ absurd (not_disk (rose_on v.faults y.faults w.faults opens.others.faults (over.disk five)))
            ];
          }

      all_ran : SessionsRan tells told seed status v w i j
      all_ran = elim over.statuses [
        | inl zero ↦ carried (inl zero)
        | inr (inl four) ↦ carried (inr (inl four))
        | inr (inr (inl five)) ↦ carried (inr (inr five))
        | inr (inr (inr seven)) ↦ rested (record { reads = over.quiet seven; faults = over.no_fault (λ five. omega (arith, seven, five)) }) (inr (inl seven)) (taken_shows told i j text takes status (inl seven)) (all_taken told i j text takes status (inl seven))
      ]

  pub opened : OpenedSessions tells told seed engine status y w i j → SessionsRan tells told seed status v w i j
  opened (inl none) =
      rested none.rests (subst IsUnbegun (sym none.is) (untaken_status told i j none.fault))
      (subst (λ (n : ℕ). ShowsSource told n i j) (sym none.is) (untaken told i j none.fault none.takes))
      (λ s. subst (λ (n : ℕ). Took most_text IsTextEnd n i j) (sym none.is) (part_taken told i j none.fault none.takes s))
  opened (inr taken) = elim taken.ran [
    | inl none ↦ none_ran taken.text taken.takes none
    | inr all ↦ all_ran taken.text taken.takes all.few all.over
  ]
