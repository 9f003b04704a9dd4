-- A store brought to the newest format, behind an opening.
use Rattle.std.proofs.Common.{◌≡◌, ◌⊎◌, inl, inr, ⊎_elim, ℕ, ◌≤◌, Bool, IsTrue, List, Result, Ok, Err, refl, sym, ◌∙◌, subst, arith}
use Rattle.ts_disk.specs.Device.{Device, Only, Rose, FirstSync, LeavesOnly}
use Rattle.ts_disk.proofs.Moments.{first_map, leaves_map}
use Rattle.ts_model.specs.Catalogue.{Catalogue, in_newest_format}
use Rattle.ts_answer.specs.Answer.{resting}
use Rattle.ts_volume.proofs.CallerLemmas.{nothing_meant}
use Rattle.ts_container.specs.declared.fault.SurveyFault.{SurveyFault}
use Rattle.ts_container.specs.declared.fault.SurveyFault.TheVariants.{NotAStore, Failed, Memory}
use Rattle.ts_opening.specs.Engine.{Engine}
use Rattle.ts_opening.specs.Engine.{StepFault}
use Rattle.ts_opening.specs.Faults as step
use Rattle.ts_volume.specs.Volume.{MeansCatalogue}
use Rattle.ts_opening.specs.Engine.{Kept}
use Rattle.ts_opening.specs.Engine.{Started, StillMeans}
use Rattle.ts_opening.specs.Engine.{Moves}
use Rattle.ts_opening.specs.Engine.{state_renewed}
use Rattle.ts_opening.specs.Opening.{status_of_opening}
use Rattle.ts_shell.specs.Migrating.{InEitherFormat, MigratedFrom, MigrateRan}
use Rattle.ts_carriers.proofs.CallerLemmas.{rose_on}
use Rattle.ts_opening.proofs.CallerLemmas.{first_then, unopened_store, unopened_status, is_unopened, opened_store}

-- a volume that means what it meant has it in either format
still_either : (cat : Catalogue) (v : Device) (image said : List ℕ) → StillMeans cat v image said → InEitherFormat cat v image said
still_either cat v image said still = (inl still.0, still.1)

-- where nothing was pending, the moments before the first sync mean what the volume meant
at_rest : (cat : Catalogue) (v w : Device) → MeansCatalogue v.held cat → FirstSync v w (InEitherFormat cat v) → Only v.held v.images → (image said : List ℕ) → w.since v.clock image said → InEitherFormat cat v image said
at_rest cat v w means moments only image said left = ⊎_elim
    (λ before. (inl (subst (λ (l : List ℕ). MeansCatalogue l cat) (sym (only image before.0)) means), before.1))
    (λ now. now)
    (moments.each image said left)

-- what holds at each status, over a volume that means this catalogue
module _ (cat : Catalogue) (v w : Device) (means : MeansCatalogue v.held cat) (moments : FirstSync v w (InEitherFormat cat v)) where
  at_zero : MeansCatalogue w.held (in_newest_format cat) → MigratedFrom cat 0 v w
  at_zero done = record {
    done = λ zero. done;
    kept = λ seven. absurd (omega arith);
    moments = moments;
    at_rest = at_rest cat v w means moments;
    complete = λ no. inl refl;
  }

  at_five : Rose v.faults w.faults → MigratedFrom cat 5 v w
  at_five rose = record {
    done = λ zero. absurd (omega arith);
    kept = λ seven. absurd (omega arith);
    moments = moments;
    at_rest = at_rest cat v w means moments;
    complete = λ no. absurd (no rose);
  }

  at_seven : MeansCatalogue w.held cat → FirstSync v w (StillMeans cat v) → MigratedFrom cat 7 v w
  at_seven held still = record {
    done = λ zero. absurd (omega arith);
    kept = λ seven. (held, still);
    moments = moments;
    at_rest = at_rest cat v w means moments;
    complete = λ no. inr refl;
  }

-- the volume was not opened
module _ (tells : Bool) (v y : Device) where
  unmigrated_from : (fault : SurveyFault) → Started tells (Err fault) v y → IsTrue tells → (cat : Catalogue) → MeansCatalogue v.held cat → FirstSync v y (InEitherFormat cat v) → MigratedFrom cat (status_of_opening fault) v y
  unmigrated_from Failed started t cat means moments = at_five cat v y means moments started.fault
  unmigrated_from (NotAStore page) started t cat means moments = absurd (nothing_meant.bytes v.held page (started.fault.0 t) cat means)
  unmigrated_from (Memory error) started t cat means moments =
      at_seven cat v y means moments (subst (λ (l : List ℕ). MeansCatalogue l cat) (sym started.fault.0) means) (started.moments t cat means)

  pub unmigrated : (fault : SurveyFault) → Started tells (Err fault) v y → MigrateRan tells (status_of_opening fault) v y
  unmigrated fault started = record {
    store = unopened_store tells fault v y started;
    from = λ t cat means. unmigrated_from fault started t cat means (first_map v y (StillMeans cat v) (InEitherFormat cat v) (still_either cat v) (started.moments t cat means));
    settled = λ zero. absurd (is_unopened (status_of_opening fault) 0 (unopened_status fault) zero (inl (omega arith)));
    said = started.others.said;
    say_faults = started.others.say_faults;
    statuses = inr (unopened_status fault);
  }

-- the volume was opened
module _ (tells : Bool) (engine : Engine) (v y w : Device) (started : Started tells (Ok engine) v y) where
  -- moments behind the opening
  behind : IsTrue tells → (cat : Catalogue) (P : List ℕ → Type 0) → MeansCatalogue v.held cat → ((image : List ℕ) → MeansCatalogue image cat → P image)
      → LeavesOnly y w (λ image said. P image × (said ≡ y.said)) → y.syncs ≤ w.syncs → FirstSync v w (λ image said. P image × (said ≡ v.said))
  behind t cat P means weaker moments syncs =
      let Q : List ℕ → List ℕ → Type 0 = λ image said. P image × (said ≡ v.said) in
      first_then v y w Q
      (first_map v y (StillMeans cat v) Q (λ image said still. (weaker image still.0, still.1)) (started.moments t cat means))
      (started.synced t)
      (leaves_map y w (λ image said. P image × (said ≡ y.said)) Q (λ image said now. (now.0, now.1 ∙ started.others.said)) moments)
      syncs

  module _ (r : Result Unit StepFault) (f : Kept) (moves : Moves tells state_renewed r engine f y w) where
    either : IsTrue tells → (cat : Catalogue) → MeansCatalogue v.held cat → FirstSync v w (InEitherFormat cat v)
    either t cat means =
        behind t cat (λ image. MeansCatalogue image cat ⊎ MeansCatalogue image (in_newest_format cat)) means (λ image now. inl now) (moves.moments t (resting cat) (started.at t cat means)) (moves.others.syncs t)

  pub all_migrated : (f : Kept) → Moves tells state_renewed (Ok tt) engine f y w → MigrateRan tells 0 v w
  all_migrated f moves = record {
    store = opened_store tells engine 0 v y w started (λ six. omega arith) (λ five. absurd (omega arith)) (λ no. moves.no_fault) moves.others.size moves.others.faults;
    from = λ t cat means. at_zero cat v w means (either (Ok tt) f moves t cat means) (moves.at t (resting cat) (started.at t cat means)).means;
    settled = λ zero. moves.ready.idle.over.settled;
    said = moves.others.said ∙ started.others.said;
    say_faults = moves.others.say_faults ∙ started.others.say_faults;
    statuses = inl refl;
  }

  pub disk_failed : (f : Kept) → Moves tells state_renewed (Err step.Disk) engine f y w → MigrateRan tells 5 v w
  disk_failed f moves = record {
    store = opened_store tells engine 5 v y w started (λ six. omega arith) (λ five. moves.fault.0) (λ no. absurd (no refl)) moves.others.size moves.others.faults;
    from = λ t cat means. at_five cat v w means (either (Err step.Disk) f moves t cat means) (rose_on v.faults y.faults w.faults started.others.faults moves.fault.0);
    settled = λ zero. absurd (omega arith);
    said = moves.others.said ∙ started.others.said;
    say_faults = moves.others.say_faults ∙ started.others.say_faults;
    statuses = inr (inl refl);
  }

  pub wanting : (error : _) (f : Kept) → Moves tells state_renewed (Err (step.Memory error)) engine f y w → MigrateRan tells 7 v w
  wanting error f moves =
      let reads = moves.fault.0.disk in
      record {
        store = opened_store tells engine 7 v y w started (λ six. omega arith) (λ five. absurd (omega arith)) (λ no. moves.fault.2) moves.others.size moves.others.faults;
        from = λ t cat means.
            let at = started.at t cat means in
            let held : (image : List ℕ) → y.images image → MeansCatalogue image cat = λ image now. subst (λ (l : List ℕ). MeansCatalogue l cat) (sym (at.ready.idle.over.settled image now)) at.means in
            at_seven cat v w means (either (Err (step.Memory error)) f moves t cat means)
            (subst (λ (l : List ℕ). MeansCatalogue l cat) (sym reads.held) at.means)
            (behind t cat (λ image. MeansCatalogue image cat) means (λ image now. now)
            (leaves_map y w (λ image said. y.images image × (said ≡ y.said)) (StillMeans cat y) (λ image said now. (held image now.0, now.1)) reads.moments)
            (moves.others.syncs t));
        settled = λ zero. absurd (omega arith);
        said = moves.others.said ∙ started.others.said;
        say_faults = moves.others.say_faults ∙ started.others.say_faults;
        statuses = inr (inr (inr refl));
      }
