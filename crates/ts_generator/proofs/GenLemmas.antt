-- The generated commands behind an opening.
use Rattle.std.proofs.Common.{◌≡◌, inl, inr, ⊎_elim, ℕ, Bool, IsTrue, List, ◌++◌, take, Result, Ok, Err, sym, ◌∙◌, ap, subst, arith}
use Rattle.std.proofs.lemmas.List.{append-nil}
use Rattle.ts_disk.specs.Device.{Device, Only, Rose, FirstSync, LeavesOnly}
use Rattle.ts_disk.proofs.Moments.{first_map}
use Rattle.ts_command.specs.declared.command.Command.{Command}
use Rattle.ts_model.specs.Catalogue.{Catalogue}
use Rattle.ts_container.specs.declared.fault.SurveyFault.{SurveyFault}
use Rattle.ts_answer.specs.Answer.{resting, replies}
use Rattle.ts_opening.specs.Engine.{Engine}
use Rattle.ts_volume.specs.Volume.{MeansCatalogue}
use Rattle.ts_opening.specs.Engine.{Started, StillMeans}
use Rattle.ts_opening.specs.Opening.{status_of_opening}
use Rattle.ts_generator.specs.Generated.{generated}
use Rattle.ts_generator.specs.Generating.{summary, IsWithin, OpenedGen, GeneratedFrom, GenRan}
use Rattle.ts_carriers.proofs.CallerLemmas.{rose_on}
use Rattle.ts_opening.proofs.CallerLemmas.{first_then, unopened_store, unopened_status, is_unopened, opened_store}

-- before the first command the volume means what it meant
at_first : (commands : List Command) (cat : Catalogue) (before image said : List ℕ) → MeansCatalogue image cat → said ≡ before → IsWithin (resting cat) commands before image said
at_first commands cat before image said means same = record {
  count = 0;
  within = omega arith;
  means = means;
  part = (0, same ∙ sym (append-nil before));
  all = inl same;
}

opening : (tells : Bool) (r : Result Engine SurveyFault) (v y : Device) (commands : List Command) → Started tells r v y → IsTrue tells → (cat : Catalogue) → MeansCatalogue v.held cat
    → FirstSync v y (IsWithin (resting cat) commands v.said)
opening tells r v y commands started told cat means =
    first_map v y (StillMeans cat v) (IsWithin (resting cat) commands v.said) (λ image said now. at_first commands cat v.said image said now.0 now.1) (started.moments told cat means)

-- where nothing was pending, each moment means it so
at_rest : (commands : List Command) (cat : Catalogue) (v w : Device) → MeansCatalogue v.held cat → FirstSync v w (IsWithin (resting cat) commands v.said)
    → Only v.held v.images → (image said : List ℕ) → w.since v.clock image said → IsWithin (resting cat) commands v.said image said
at_rest commands cat v w means moments only image said left = ⊎_elim
    (λ before. at_first commands cat v.said image said (subst (λ (l : List ℕ). MeansCatalogue l cat) (sym (only image before.0)) means) before.1)
    (λ now. now)
    (moments.each image said left)

-- the volume was not opened
pub ungenerated : (tells : Bool) (count seed : ℕ) (fault : SurveyFault) (v y : Device) → Started tells (Err fault) v y → GenRan tells count seed (status_of_opening fault) v y
ungenerated tells count seed fault v y started =
    let status = status_of_opening fault in
    let which = unopened_status fault in
    let store = unopened_store tells fault v y started in
    record {
      store = store;
      from = λ told cat means.
          let moments = opening tells (Err fault) v y (generated count seed) started told cat means in
          record {
            says = record {
              part = (0, started.others.said ∙ sym (append-nil v.said));
              said = λ zero. absurd (is_unopened status 0 which zero (inl (omega arith)));
              means = λ done. absurd (⊎_elim (λ zero. is_unopened status 0 which zero (inl (omega arith))) (λ four. is_unopened status 4 which four (inl (omega arith))) done);
            };
            moments = moments;
            at_rest = at_rest (generated count seed) cat v y means moments;
            complete = λ not_disk not_output. ⊎_elim (λ five. absurd (not_disk (store.disk five))) (⊎_elim (λ six. absurd (store.no_store six told cat means)) (λ seven. inr seven)) which;
          };
      settled = λ zero. absurd (is_unopened status 0 which zero (inl (omega arith)));
      output = λ four. absurd (is_unopened status 4 which four (inl (omega arith)));
      no_say_fault = λ no. started.others.say_faults;
      quiet = inr (inr started.others.said);
      say_faults = omega (arith, started.others.say_faults);
      statuses = inr (inr which);
    }

-- the volume was opened
pub generated_behind : (tells : Bool) (count seed status : ℕ) (engine : Engine) (v y w : Device) → Started tells (Ok engine) v y → OpenedGen tells (generated count seed) engine status y w → GenRan tells count seed status v w
generated_behind tells count seed status engine v y w started ran = record {
  store = opened_store tells engine status v y w started (λ six. omega (arith, six, ran.statuses)) ran.disk ran.no_fault ran.size ran.faults;
  from = from;
  settled = ran.settled;
  output = output;
  no_say_fault = λ no. ran.no_say_fault no ∙ started.others.say_faults;
  quiet = ⊎_elim (λ zero. inl zero) (⊎_elim (λ four. inr (inl four)) (λ same. inr (inr (same ∙ started.others.said)))) ran.quiet;
  say_faults = omega (arith, ran.say_faults, started.others.say_faults);
  statuses = ⊎_elim (λ zero. inl zero) (⊎_elim (λ four. inr (inl four)) (⊎_elim (λ five. inr (inr (inl five))) (λ seven. inr (inr (inr (inr seven)))))) ran.statuses;
} where
  output : status ≡ 4 → Rose v.say_faults w.say_faults
  output four = rose_on v.say_faults y.say_faults w.say_faults (omega (arith, started.others.say_faults)) (ran.output four)

  from : IsTrue tells → (cat : Catalogue) → MeansCatalogue v.held cat → GeneratedFrom (generated count seed) cat status v w
  from told cat means =
      let commands = generated count seed in
      let text = summary (replies (resting cat) commands) in
      let on = ran.on told (resting cat) (started.at told cat means) in
      let good : LeavesOnly y w (IsWithin (resting cat) commands v.said) = subst (λ (l : List ℕ). LeavesOnly y w (IsWithin (resting cat) commands l)) started.others.said on.moments in
      let moments = first_then v y w (IsWithin (resting cat) commands v.said) (opening tells (Ok engine) v y commands started told cat means) (started.synced told) good (ran.syncs told) in
      record {
        says = record {
          part = (on.says.part.0, on.says.part.1 ∙ ap (λ (l : List ℕ). l ++ take on.says.part.0 text) started.others.said);
          said = λ zero. on.says.said zero ∙ ap (λ (l : List ℕ). l ++ text) started.others.said;
          means = on.says.means;
        };
        moments = moments;
        at_rest = at_rest commands cat v w means moments;
        complete = λ not_disk not_output. ⊎_elim
            (λ zero. inl zero)
            (⊎_elim (λ four. absurd (not_output (output four))) (⊎_elim (λ five. absurd (not_disk (rose_on v.faults y.faults w.faults started.others.faults (ran.disk five)))) (λ seven. inr seven)))
            ran.statuses;
      }
