-- What is found of a volume that is read through a store.
use Rattle.std.proofs.Common.{◌≡◌, inl, inr, ⊎_elim, ℕ, ◌*◌, Bool, IsTrue, Result, Ok, Err, IfOk, IfErr, None, List, [], length, refl, ap, sym, ◌∙◌, subst, arith}
use Rattle.ts_disk.specs.Device.{Device, Lawful, Rose}
use Rattle.ts_journal.specs.Journal.{Entry, AreAllowed, IsVolumeSize, page_count, pages, StandsOver}
use Rattle.ts_journal.specs.Moment.{OnlyReads}
use Rattle.ts_recover.specs.declared.replay.RecoverFault.{RecoverFault}
use Rattle.ts_recover.specs.declared.replay.RecoverFault.TheVariants as journal
use Rattle.ts_recover.specs.declared.replay.Replayed.{Replayed}
use Rattle.ts_recover.specs.Overlay.{RecoverCause}
use Rattle.ts_store.specs.OpenBatch.{State, IsReadOver, IsFresh, read_pages, contents_over}
use Rattle.ts_store.specs.Undisturbed.{Undisturbed}
use Rattle.ts_store.proofs.CallerLemmas.{read_recovered, read_closed, reads_then, counted}
use Rattle.ts_space.specs.Directory.{Directory}
use Rattle.ts_model.specs.Definitions.{Definitions}
use Rattle.ts_layout.specs.Meaning.{HoldsLayout, IsLaidOut, catalogue_of}
use Rattle.ts_container.specs.declared.fault.SurveyFault.{SurveyFault}
use Rattle.ts_container.specs.declared.fault.SurveyFault.TheVariants.{NotAStore, Failed, Memory}
use Rattle.ts_container.specs.declared.surveyed.Surveyed.{Surveyed}
use Rattle.ts_container.specs.Survey.{IfRefused, IsFound}
use Rattle.ts_volume.specs.FirstBad.{IsFirstBad, IsFirstBadOf}
use Rattle.ts_volume.proofs.CallerLemmas.{means_layout}
use Rattle.ts_check.specs.Checked.{IsKept, IsLaidIn, VolumeSurveyed, read_as}

-- the journal wasn't read
module _ (tells : Bool) (v w : Device) (lawful : Lawful tells v) (reads : OnlyReads tells v w) where
  none_laid : (fault : RecoverFault) → RecoverCause {T = Replayed} tells (Err fault) v w
      → IfErr {T = Surveyed} (Err (read_as fault)) (λ e. IfRefused e (λ page. IsTrue tells → IsFirstBadOf v.held page))
  none_laid journal.Failed cause = tt
  none_laid (journal.Memory error) cause = tt
  none_laid (journal.NotAStore page) cause = λ told. ⊎_elim
      (λ short. inl ((λ size. short.1 (subst IsVolumeSize (lawful.size told) size)), short.0))
      (λ malformed. inr (subst IsVolumeSize (sym (lawful.size told)) malformed.1, inl (malformed.2 told, malformed.0)))
      cause

  rose_failed : (fault : RecoverFault) → RecoverCause {T = Replayed} tells (Err fault) v w → ◌≡◌ {A = Result Surveyed SurveyFault} (Err (read_as fault)) (Err Failed) → Rose v.faults w.faults
  rose_failed journal.Failed cause is = cause
  rose_failed (journal.Memory error) cause is = absurd (cc)
  rose_failed (journal.NotAStore page) cause is = absurd (cc)

  never_failed : (fault : RecoverFault) → (◌≡◌ {A = Result Surveyed SurveyFault} (Err (read_as fault)) (Err Failed) → ⊥) → ◌≡◌ {A = Result Replayed RecoverFault} (Err fault) (Err journal.Failed) → ⊥
  never_failed journal.Failed other is = other refl
  never_failed (journal.Memory error) other is = cc
  never_failed (journal.NotAStore page) other is = cc

  pub unread : (fault : RecoverFault) → RecoverCause {T = Replayed} tells (Err fault) v w
      → ((◌≡◌ {A = Result Replayed RecoverFault} (Err fault) (Err journal.Failed) → ⊥) → w.faults ≡ v.faults)
      → VolumeSurveyed tells (Err (read_as fault)) v w
  unread fault cause quiet = record {
    kept = tt;
    laid = tt;
    refused = none_laid fault cause;
    cause = rose_failed fault cause;
    no_fault = λ other. quiet (never_failed fault other);
    others = reads;
  }

  -- there was no memory for what was read
  pub unkept : (error : _) → w.faults ≡ v.faults → VolumeSurveyed tells (Err (Memory error)) v w
  unkept error quiet = record {
    kept = tt;
    laid = tt;
    refused = tt;
    cause = λ failed. absurd (cc);
    no_fault = λ other. quiet;
    others = reads;
  }

-- The journal was read from `v` to `x`, and then the pages through a store that nothing was done with, to `w`.
module _ (tells : Bool) (v x w : Device) (lawful : Lawful tells v) (count position : ℕ) (entries : List Entry) (s t : State)
    (fresh : IsFresh count position entries s) (first : OnlyReads tells v x) (size : v.size ≡ 4096 * count) (volume : IsVolumeSize v.size)
    (stands : IsTrue tells → StandsOver position entries v.held) (allowed : AreAllowed (page_count v.size) entries)
    (calls : Undisturbed tells s t x w) (quiet : x.faults ≡ v.faults) where
  over : IsReadOver tells s x
  over = read_recovered tells count position entries s v x fresh first size volume stands allowed

  -- the pages that are read are those of the volume
  the_pages : IsTrue tells → read_pages s x.held ≡ pages v.held
  the_pages told = (λ i k. read_closed s x.held fresh.transaction fresh.batch (over.stands told) k i) ∙ ap pages first.held

  the_count : IsTrue tells → page_count (length v.held) ≡ count
  the_count told = ap page_count (lawful.size told) ∙ counted v.size count size

  laid_in : (d : Definitions) (space : Directory) (free : List ℕ) → IsFound tells count (contents_over s x) d space free → IsTrue tells → IsLaidIn v.held d space free
  laid_in d space free found told =
      let known = found.layout told in
      let l = known.0 in
      let same = the_pages told in
      let held : HoldsLayout (pages v.held) l = subst (λ (p : ℕ → List ℕ). HoldsLayout p l) same known.2.bytes in
      record {
        layout = l;
        found = known.1;
        laid = record { size = the_count told ∙ known.2.size; bytes = held; rules = known.2.rules };
        means = means_layout v.size (pages v.held) v.held l volume (lawful.size told) ((stands told).rs, (stands told).stands.records)
            (λ k. inl refl) (counted v.size count size ∙ known.2.size) held known.2.rules;
      }

  first_bad : (page : ℕ) → IsFirstBad count (read_pages s x.held) page → IsTrue tells → IsFirstBadOf v.held page
  first_bad page bad told = inr (
    subst IsVolumeSize (sym (lawful.size told)) volume,
    inr (record {
      sound = ((stands told).rs, (stands told).stands.records);
      first = subst (λ (n : ℕ). IsFirstBad n (pages v.held) page) (sym (the_count told)) (subst (λ (p : ℕ → List ℕ). IsFirstBad count p page) (the_pages told) bad);
    }),
  )

  refused_so : (r : Result Surveyed SurveyFault) → IfErr r (λ e. IfRefused e (λ page. IsTrue tells → IsFirstBad count (read_pages s x.held) page))
      → IfErr r (λ e. IfRefused e (λ page. IsTrue tells → IsFirstBadOf v.held page))
  refused_so (Ok found) refused = tt
  refused_so (Err (NotAStore page)) refused = λ told. first_bad page (refused told) told
  refused_so (Err Failed) refused = tt
  refused_so (Err (Memory error)) refused = tt

  kept_so : (r : Result Surveyed SurveyFault) → IfOk r (λ s'. IsFound tells count (contents_over s x) s'.defs.definitions s'.space s'.free.items) → IfOk r (λ s'. IsKept s'.defs.definitions s'.space s'.free.items)
  kept_so (Ok found) is = (count, is.kept)
  kept_so (Err e) is = tt

  laid_so : (r : Result Surveyed SurveyFault) → IfOk r (λ s'. IsFound tells count (contents_over s x) s'.defs.definitions s'.space s'.free.items) → IfOk r (λ s'. IsTrue tells → IsLaidIn v.held s'.defs.definitions s'.space s'.free.items)
  laid_so (Ok found) is = laid_in found.defs.definitions found.space found.free.items is
  laid_so (Err e) is = tt

  pub surveyed : (r : Result Surveyed SurveyFault) → IfOk r (λ s'. IsFound tells count (contents_over s x) s'.defs.definitions s'.space s'.free.items)
      → IfErr r (λ e. IfRefused e (λ page. IsTrue tells → IsFirstBad count (read_pages s x.held) page))
      → (r ≡ Err Failed → Rose x.faults w.faults) → ((r ≡ Err Failed → ⊥) → w.faults ≡ x.faults) → VolumeSurveyed tells r v w
  surveyed r found refused cause no_fault = record {
    kept = kept_so r found;
    laid = laid_so r found;
    refused = refused_so r refused;
    cause = λ failed. subst (λ (n : ℕ). Rose n w.faults) quiet (cause failed);
    no_fault = λ other. no_fault other ∙ quiet;
    others = reads_then tells v x w first calls.reads;
  }
