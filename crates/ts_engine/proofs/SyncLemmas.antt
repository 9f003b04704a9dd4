-- The first sync of a run.
use Rattle.std.proofs.Common.{◌≡◌, inl, inr, ⊎_elim, ℕ, ◌+◌, ◌≤◌, ◌<◌, Bool, IsTrue, List, Result, Ok, Err, refl, sym, ◌∙◌, subst, arith}
use Rattle.ts_disk.specs.Device.{Device, Lawful, Only, Synced, FirstSync, LeavesOnly, LeavesAsItWas}
use Rattle.ts_disk.proofs.Moments.{started, calls_on, then_on, leaves_map}
use Rattle.ts_journal.specs.Moment.{Keeps, OnlyReads}
use Rattle.ts_store.proofs.CallerLemmas.{keeps_then}
use Rattle.ts_model.specs.Catalogue.{Catalogue}
use Rattle.ts_container.specs.declared.fault.SurveyFault.{SurveyFault}
use Rattle.ts_container.specs.declared.fault.SurveyFault.TheVariants.{NotAStore, Failed, Memory}
use Rattle.ts_engine.specs.declared.engine.Engine.{Engine}
use Rattle.ts_volume.specs.Volume.{MeansCatalogue, MeansNothing}
use Rattle.ts_volume.specs.FirstBad.{IsFirstBadOf}
use Rattle.ts_engine.proofs.OpenLemmas.{rose_on}
use Rattle.ts_engine.specs.Start.{StillMeans, StartFault, Opened, Started}

-- the first sync, where it answered Ok
sync_begins : {E : Type 0} (tells : Bool) (told : IsTrue tells) (v x : Device) (P : List ℕ → List ℕ → Type 0) → Lawful tells v → Lawful tells x → Synced {E = E} tells (Ok tt) v x → P v.held v.said → FirstSync v x P
sync_begins tells told v x P lawful later sync here =
    let at : (image said : List ℕ) → x.images image → said ≡ v.said → P image said = λ image said now same.
    let Q : List ℕ → Type 0 = λ l. P l said in
    let R : List ℕ → Type 0 = λ l. P v.held l in
    subst Q (sym (sync.durable image now)) (subst R (sym same) here) in
    record {
      later = sync.call.time.later;
      each = λ image said left. ⊎_elim (λ before. inl (lawful.only image said before)) (λ now. inr (at image said now.0 now.1)) (sync.call.time.nothing_else v.clock image said (omega arith) left);
      none = λ none. absurd (omega (arith, none, sync.syncs told));
      ends = λ rose. omega (arith, sync.call.tick told refl);
      from = λ rose image said left.
          let Q : ℕ → Type 0 = λ n. x.since n image said in
          let now = later.only image said (subst Q (sym (sync.call.tick told refl)) left) in
          at image said now.0 (now.1 ∙ sync.call.said);
    }

-- and where it failed
sync_fails : {E : Type 0} (tells : Bool) (e : E) (v x : Device) (P : List ℕ → List ℕ → Type 0) → Lawful tells v → Synced tells (Err e) v x → FirstSync v x P
sync_fails tells e v x P lawful sync =
    let entry : (image said : List ℕ) → x.since v.clock image said → v.images image × (said ≡ v.said) = λ image said left.
    ⊎_elim (λ before. lawful.only image said before) (λ now. (sync.crash image now.0, now.1)) (sync.call.time.nothing_else v.clock image said (omega arith) left) in
    record {
      later = sync.call.time.later;
      each = λ image said left. inl (entry image said left);
      none = λ none. entry;
      ends = λ rose. absurd (omega (arith, rose, sync.syncs_stay));
      from = λ rose. absurd (omega (arith, rose, sync.syncs_stay));
    }

-- what follows the first sync
first_then : (v x w : Device) (P : List ℕ → List ℕ → Type 0) → FirstSync v x P → v.syncs < x.syncs → LeavesOnly x w P → x.syncs ≤ w.syncs → FirstSync v w P
first_then v x w P first synced second more = record {
  later = omega (arith, first.later, second.later);
  each = λ image said left. ⊎_elim (λ before. first.each image said before) (λ now. inr now) (second.before v.clock image said first.later left);
  none = λ none. absurd (omega (arith, none, synced, more));
  ends = λ rose. omega (arith, first.ends synced, second.later);
  from = λ rose image said left. ⊎_elim (λ before. first.from synced image said before) (λ now. now) (second.before (v.clock + 1) image said (first.ends synced) left);
}

-- the same bytes mean the same
same_bytes : (a b : List ℕ) (cat : Catalogue) → a ≡ b → MeansCatalogue a cat → MeansCatalogue b cat
same_bytes a b cat same means = subst (λ (bytes : List ℕ). MeansCatalogue bytes cat) same means

-- a sync leaves what means the same, where nothing was pending
sync_means : {E : Type 0} (tells : Bool) (result : Result Unit E) (v x : Device) (cat : Catalogue) → Lawful tells v → Only v.held v.images → Synced tells result v x → MeansCatalogue v.held cat → LeavesOnly v x (StillMeans cat v)
sync_means tells result v x cat lawful only sync means =
    let here : (image : List ℕ) → v.images image → StillMeans cat v image v.said = λ image now. (same_bytes v.held image cat (sym (only image now)) means, refl) in
    calls_on tells result v v x (StillMeans cat v) (started tells v (StillMeans cat v) lawful here) sync.call (λ image now. here image (sync.crash image now))

-- a sync writes nothing
sync_only : {E : Type 0} (tells : Bool) (result : Result Unit E) (v x : Device) → Lawful tells v → Synced tells result v x → LeavesOnly v x (λ image said. v.images image × (said ≡ v.said))
sync_only tells result v x lawful sync =
    let P : List ℕ → List ℕ → Type 0 = λ image said. v.images image × (said ≡ v.said) in
    calls_on tells result v v x P (started tells v P lawful (λ image now. (now, refl))) sync.call (λ image now. (sync.crash image now, refl))

sync_keeps : {E : Type 0} (tells : Bool) (result : Result Unit E) (v x : Device) → Synced tells result v x → Keeps tells v x
sync_keeps tells (Ok done) v x sync = record { size = sync.size; said = sync.call.said; say_faults = sync.call.say_faults; faults = sync.call.faults; syncs = λ told. omega (arith, sync.syncs told) }
sync_keeps tells (Err e) v x sync = record { size = sync.size; said = sync.call.said; say_faults = sync.call.say_faults; faults = sync.call.faults; syncs = λ told. omega (arith, sync.syncs_stay) }

-- nothing was opened
pub unsynced : {E : Type 0} (tells : Bool) (e : E) (v x : Device) → Lawful tells v → Synced tells (Err e) v x → Started tells (Err Failed) v x
unsynced tells e v x lawful sync = record {
  ready = tt;
  rests = tt;
  means = tt;
  at = tt;
  fault = sync.call.cause refl;
  others = sync_keeps tells (Err e) v x sync;
  synced = tt;
  moments = λ told cat means. sync_fails tells e v x (StillMeans cat v) lawful sync;
  at_rest = λ told only cat means. sync_means tells (Err e) v x cat lawful only sync means;
  nothing = λ told none. record { held = sync.held; moments = sync_only tells (Err e) v x lawful sync };
  no_fault = tt;
}

-- what follows the sync
module _ {E : Type 0} (tells : Bool) (v x w : Device) (lawful : Lawful tells v) (later : Lawful tells x) (sync : Synced {E = E} tells (Ok tt) v x) where
  open_moments : (cat : Catalogue) → MeansCatalogue v.held cat → (MeansCatalogue x.held cat → LeavesOnly x w (StillMeans cat x)) → LeavesOnly x w (StillMeans cat v)
  open_moments cat means moments =
      leaves_map x w (StillMeans cat x) (StillMeans cat v) (λ image said now. (now.0, now.1 ∙ sync.call.said)) (moments (same_bytes v.held x.held cat (sym sync.held) means))

  start_moments : IsTrue tells → (cat : Catalogue) → MeansCatalogue v.held cat → Keeps tells x w → (MeansCatalogue x.held cat → LeavesOnly x w (StillMeans cat x)) → FirstSync v w (StillMeans cat v)
  start_moments told cat means keeps moments =
      first_then v x w (StillMeans cat v) (sync_begins tells told v x (StillMeans cat v) lawful later sync (means, refl)) (omega (arith, sync.syncs told))
      (open_moments cat means moments) (keeps.syncs told)

  start_at_rest : Only v.held v.images → (cat : Catalogue) → MeansCatalogue v.held cat → (MeansCatalogue x.held cat → LeavesOnly x w (StillMeans cat x)) → LeavesOnly v w (StillMeans cat v)
  start_at_rest only cat means moments = then_on v x w (StillMeans cat v) (sync_means tells (Ok tt) v x cat lawful only sync means) (open_moments cat means moments)

  as_it_was : OnlyReads tells x w → LeavesAsItWas v w
  as_it_was reads = record {
    held = reads.held ∙ sync.held;
    moments = then_on v x w (λ image said. v.images image × (said ≡ v.said)) (sync_only tells (Ok tt) v x lawful sync)
        (leaves_map x w (λ image said. x.images image × (said ≡ x.said)) (λ image said. v.images image × (said ≡ v.said)) (λ image said now. (sync.crash image now.0, now.1 ∙ sync.call.said)) reads.moments);
  }

  start_fault : (fault : SurveyFault) → StartFault tells fault x w → StartFault tells fault v w
  start_fault Failed cause = rose_on v.faults x.faults w.faults sync.call.faults cause
  start_fault (NotAStore page) cause = (λ told. subst (λ (bytes : List ℕ). IsFirstBadOf bytes page) sync.held (cause.0 told), cause.1 ∙ sync.held, λ image now. sync.crash image (cause.2 image now), cause.3 ∙ sync.call.no_fault refl)
  start_fault (Memory error) cause = (cause.0 ∙ sync.held, λ image now. sync.crash image (cause.1 image now), cause.2 ∙ sync.call.no_fault refl)

  pub synced_started : (result : Result Engine SurveyFault) → Opened tells result x w → Started tells result v w
  synced_started (Ok e) opened = record {
    ready = opened.ready;
    rests = opened.rests;
    means = λ told. let means = opened.means told in (means.0, same_bytes x.held v.held means.0 sync.held means.1);
    at = λ told cat means. opened.at told cat (same_bytes v.held x.held cat (sym sync.held) means);
    fault = tt;
    others = keeps_then tells v x w (sync_keeps tells (Ok tt) v x sync) opened.others;
    synced = λ told. omega (arith, sync.syncs told, opened.others.syncs told);
    moments = λ told cat means. start_moments told cat means opened.others (opened.moments told cat);
    at_rest = λ told only cat means. start_at_rest only cat means (opened.moments told cat);
    nothing = λ told none. as_it_was (opened.nothing told (subst MeansNothing (sym sync.held) none));
    no_fault = opened.no_fault ∙ sync.call.no_fault refl;
  }
  synced_started (Err fault) opened = record {
    ready = tt;
    rests = tt;
    means = tt;
    at = tt;
    fault = start_fault fault opened.fault;
    others = keeps_then tells v x w (sync_keeps tells (Ok tt) v x sync) opened.others;
    synced = tt;
    moments = λ told cat means. start_moments told cat means opened.others (opened.moments told cat);
    at_rest = λ told only cat means. start_at_rest only cat means (opened.moments told cat);
    nothing = λ told none. as_it_was (opened.nothing told (subst MeansNothing (sym sync.held) none));
    no_fault = tt;
  }
