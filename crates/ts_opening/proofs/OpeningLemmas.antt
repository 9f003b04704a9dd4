-- A volume that was opened, or not, and what follows.
use Rattle.std.proofs.Common.{◌≡◌, ◌≢◌, ◌⊎◌, inl, inr, ⊎_elim, ℕ, ◌+◌, ◌≤◌, ◌<◌, Bool, List, Ok, Err, refl, ◌∙◌, arith}
use Rattle.ts_disk.specs.Device.{Device, Lawful, Within, Rose, FirstSync, LeavesOnly}
use Rattle.ts_disk.proofs.Moments.{started as moments_now}
use Rattle.ts_container.specs.declared.fault.SurveyFault.{SurveyFault}
use Rattle.ts_container.specs.declared.fault.SurveyFault.TheVariants.{NotAStore, Failed, Memory}
use Rattle.ts_volume.proofs.CallerLemmas.{nothing_meant}
use Rattle.ts_engine.specs.declared.engine.Engine.{Engine}
use Rattle.ts_engine.specs.Start.{Started}
use Rattle.ts_opening.specs.Opening.{status_of_opening, OpensStore}
use Rattle.ts_carriers.proofs.CallerLemmas.{rose_on}

-- what follows the first sync
pub first_then : (v x w : Device) (P : List ℕ → List ℕ → Type 0) → FirstSync v x P → v.syncs < x.syncs → LeavesOnly x w P → x.syncs ≤ w.syncs → FirstSync v w P
first_then v x w P first synced second more = record {
  later = omega (arith, first.later, second.later);
  each = λ image said left. ⊎_elim (λ before. first.each image said before) (λ now. inr now) (second.before v.clock image said first.later left);
  none = λ none. absurd (omega (arith, none, synced, more));
  ends = λ rose. omega (arith, first.ends synced, second.later);
  from = λ rose image said left. ⊎_elim (λ before. first.from synced image said before) (λ now. now) (second.before (v.clock + 1) image said (first.ends synced) left);
}

-- nothing was done yet
pub first_now : (tells : Bool) (v : Device) (P : List ℕ → List ℕ → Type 0) → Lawful tells v → FirstSync v v P
first_now tells v P lawful = record {
  later = omega arith;
  each = λ image said left. inl (lawful.only image said left);
  none = λ none image said left. lawful.only image said left;
  ends = λ rose. absurd (omega arith);
  from = λ rose. absurd (omega arith);
}

-- nothing is done for want of memory
pub unopened_now : (tells : Bool) (v : Device) → Lawful tells v → OpensStore tells 7 v v
unopened_now tells v lawful = record {
  no_store = λ six. absurd (omega arith);
  not_a_store = λ t none. inr (inr refl);
  left = λ t none. record {
    held = refl;
    moments = moments_now tells v (λ image said. v.images image × (said ≡ v.said)) lawful (λ image now. (now, refl));
  };
  unwritten = λ six. absurd (omega arith);
  disk = λ five. absurd (omega arith);
  no_fault = λ no. refl;
  size = refl;
  faults = omega arith;
}

-- a volume that was not opened
pub unopened_store : (tells : Bool) (fault : SurveyFault) (v y : Device) → Started tells (Err fault) v y → OpensStore tells (status_of_opening fault) v y
unopened_store tells Failed v y started = record {
  no_store = λ six. absurd (omega arith);
  not_a_store = λ t none. inl refl;
  left = started.nothing;
  unwritten = λ six. absurd (omega arith);
  disk = λ five. started.fault;
  no_fault = λ no. absurd (no refl);
  size = started.others.size;
  faults = started.others.faults;
}
unopened_store tells (NotAStore page) v y started = record {
  no_store = λ six told. nothing_meant.bytes v.held page (started.fault.0 told);
  not_a_store = λ t none. inr (inl refl);
  left = started.nothing;
  unwritten = λ six. (started.fault.1, started.fault.2);
  disk = λ five. absurd (omega arith);
  no_fault = λ no. started.fault.3;
  size = started.others.size;
  faults = started.others.faults;
}
unopened_store tells (Memory error) v y started = record {
  no_store = λ six. absurd (omega arith);
  not_a_store = λ t none. inr (inr refl);
  left = started.nothing;
  unwritten = λ six. absurd (omega arith);
  disk = λ five. absurd (omega arith);
  no_fault = λ no. started.fault.2;
  size = started.others.size;
  faults = started.others.faults;
}

-- and then the status is one of three
pub unopened_status : (fault : SurveyFault) → (status_of_opening fault ≡ 5) ⊎ ((status_of_opening fault ≡ 6) ⊎ (status_of_opening fault ≡ 7))
unopened_status Failed = inl refl
unopened_status (NotAStore page) = inr (inl refl)
unopened_status (Memory error) = inr (inr refl)

-- no status of such a volume is another
pub is_unopened : (status n : ℕ) → (status ≡ 5) ⊎ ((status ≡ 6) ⊎ (status ≡ 7)) → status ≡ n → (n < 5) ⊎ (7 < n) → ⊥
is_unopened status n which is low = omega (arith, which, is, low)

-- where there was no memory nothing was written
pub unopened_unwritten : (tells : Bool) (fault : SurveyFault) (v y : Device) → Started tells (Err fault) v y → status_of_opening fault ≡ 7 → (y.held ≡ v.held) × Within v.images y.images
unopened_unwritten tells Failed v y started seven = absurd (omega (arith, seven))
unopened_unwritten tells (NotAStore page) v y started seven = absurd (omega (arith, seven))
unopened_unwritten tells (Memory error) v y started seven = (started.fault.0, started.fault.1)

-- a volume that was opened, and what was done with it
pub opened_store : (tells : Bool) (engine : Engine) (status : ℕ) (v y w : Device) → Started tells (Ok engine) v y → status ≢ 6 → (status ≡ 5 → Rose y.faults w.faults) → (status ≢ 5 → w.faults ≡ y.faults) → w.size ≡ y.size → y.faults ≤ w.faults → OpensStore tells status v w
opened_store tells engine status v y w started not_six disk no_fault size faults = record {
  no_store = λ six. absurd (not_six six);
  not_a_store = λ t none. let cat = started.means t in absurd (none cat.0 cat.1);
  left = λ t none. let cat = started.means t in absurd (none cat.0 cat.1);
  unwritten = λ six. absurd (not_six six);
  disk = λ five. rose_on v.faults y.faults w.faults started.others.faults (disk five);
  no_fault = λ no. no_fault no ∙ started.no_fault;
  size = size ∙ started.others.size;
  faults = omega (arith, started.others.faults, faults);
}
