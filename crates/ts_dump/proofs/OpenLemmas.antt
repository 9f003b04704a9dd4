-- A volume that was read and judged can be read on.
use Rattle.std.proofs.Common.{◌≡◌, ℕ, ◌*◌, Bool, Result, Ok, Err, List, ap, sym, ◌∙◌, subst}
use Rattle.std.specs.Result.{IsErrAnd}
use Rattle.ts_disk.specs.Device.{Device}
use Rattle.ts_journal.specs.Journal.{Entry, over, own_page, pages}
use Rattle.ts_store.specs.OpenBatch.{State, IsFresh, IsReadOver, committed_pages}
use Rattle.ts_store.specs.Undisturbed.{Undisturbed}
use Rattle.ts_store.proofs.CallerLemmas.{read_closed}
use Rattle.ts_space.specs.Directory.{Directory}
use Rattle.ts_model.specs.Definitions.{Definitions}
use Rattle.ts_layout.specs.Placed.{AreKept}
use Rattle.ts_container.specs.declared.fault.SurveyFault.{SurveyFault}
use Rattle.ts_check.specs.Checked.{VolumeSurveyed}
use Rattle.ts_dump.specs.declared.opened.Opened.{Opened}
use Rattle.ts_dump.specs.Held.{IsStoreOf, VolumeOpened}

-- The journal was read from `v` to `x`, and then the pages through a store that nothing was done with, to `w`.
module _ (tells : Bool) (x w : Device) (count position : ℕ) (entries : List Entry) (s t : State) (fresh : IsFresh count position entries s)
    (over_it : IsReadOver tells s x) (calls : Undisturbed tells s t x w) where
  pub store_of : IsStoreOf tells t w
  store_of = record {
    size = calls.reads.keeps.size ∙ over_it.size ∙ ap (λ (n : ℕ). 4096 * n) (sym calls.pages);
    reads = λ told i k. (ap (λ (es : List Entry). over es (own_page w.held) k) calls.overlay
        ∙ ap (λ (held : List ℕ). over s.overlay (own_page held) k) calls.reads.held
        ∙ sym (λ j. over (fresh.batch j) (over (fresh.transaction j) (committed_pages s x.held)) k)
        ∙ read_closed s x.held fresh.transaction fresh.batch (over_it.stands told) k
        ∙ sym (ap (λ (held : List ℕ). pages held k) calls.reads.held)) i;
  }

  pub kept_by : (d : Definitions) (space : Directory) (free : List ℕ) → AreKept d space free count → AreKept d space free t.pages
  kept_by d space free = subst (AreKept d space free) (sym (calls.pages ∙ fresh.pages))

-- the store is still that of the volume where its bytes stay
pub store_still : (tells : Bool) (s : State) (v w : Device) → w.held ≡ v.held → w.size ≡ v.size → IsStoreOf tells s v → IsStoreOf tells s w
store_still tells s v w held size is = record {
  size = size ∙ is.size;
  reads = λ told. ap (committed_pages s) held ∙ is.reads told ∙ sym (ap pages held);
}

-- it wasn't found to be a store
pub opened_err : (tells : Bool) (r : Result Opened SurveyFault) (e : SurveyFault) (v w : Device) → IsErrAnd r (λ x. x ≡ e) → VolumeSurveyed tells (Err e) v w → VolumeOpened tells r v w
opened_err tells (Ok opened) e v w is s = absurd is
opened_err tells (Err other) e v w is s = subst (λ (x : SurveyFault). VolumeOpened tells (Err x) v w) (sym is) (record { surveyed = s; ready = tt })
