-- What carries sessions out is steady.
use Rattle.std.proofs.Common.{◌≡◌, ℕ, Bool, List, sym, subst}
use Rattle.ts_disk.specs.Device.{Device, Within}
use Rattle.ts_page.specs.Pages.{Contents}
use Rattle.ts_store.specs.OpenBatch.{contents_over}
use Rattle.ts_store.specs.OpenBatch.{rolled_back as store_rolled_back}
use Rattle.ts_answer.specs.Answer.{resting}
use Rattle.ts_volume.specs.Volume.{MeansCatalogue}
use Rattle.ts_sessions.specs.Machine.{Machine, latest, snapshot_at}
use Rattle.ts_sessions.proofs.CallerLemmas.{told_apart}
use Rattle.ts_views.specs.View.{view_of, OfEachOpen}
use Rattle.ts_view_catalogues.specs.Catalogues.{IsViewReady}
use Rattle.ts_session_turns.specs.Engine.{Kept}
use Rattle.ts_session_turns.specs.Passed.{newest}
use Rattle.ts_session_turns.proofs.CallerLemmas.{at_same, ready_same}
use Rattle.ts_session_turns.specs.Hand.{Hand, IsHandReady, IsAtMachine, ShowsSnapshot}
use Rattle.ts_carriers.proofs.CallerLemmas.{IsSteady}
use Rattle.ts_session_runs.specs.Carrier.{sessions, by_sessions}

-- where nothing is written, what views stand over is the same
newest_same : (e : Kept) (v w : Device) → w.held ≡ v.held → w.faults ≡ v.faults → newest e w ≡ newest e v
newest_same e v w held faults = λ i. record (contents_over (store_rolled_back e.store) v) { page = (contents_over (store_rolled_back e.store) (record v { held = held i })).page; faults = faults i }

module _ (tells : Bool) (h : Hand) (v w : Device) (size : w.size ≡ v.size) (held : w.held ≡ v.held) (faults : w.faults ≡ v.faults) (images : Within v.images w.images) where
  ready_still : IsHandReady tells h v → IsHandReady tells h w
  ready_still ready = record {
    beside = record {
      ready = ready_same tells v w size held images h.engine ready.beside.ready;
      rests = ready.beside.rests;
      views = subst (λ (c : Contents). OfEachOpen (λ x. IsViewReady tells x c) h.views) (sym (newest_same h.engine v w held faults)) ready.beside.views;
    };
    count = ready.count;
    alike = ready.alike;
    commands = ready.commands;
  }

  at_still : (m : Machine) → IsAtMachine tells h m v → IsAtMachine tells h m w
  at_still m at = record {
    at = at_same tells v w size held images h.engine (resting (latest m)) at.at;
    log = at.log;
    views = subst (λ (c : Contents). (who : ℕ) → ShowsSnapshot m c (view_of who h.views) (snapshot_at who m)) (sym (newest_same h.engine v w held faults)) at.views;
    sound = at.sound;
  }

pub steady : (tells : Bool) → IsSteady (by_sessions tells) sessions
unfolding ready_still at_still
steady tells = record {
  apart = told_apart MeansCatalogue;
  means = λ h m d at image now. subst (λ (l : List ℕ). MeansCatalogue l (latest m)) (sym (at.at.ready.idle.over.settled image now)) at.at.means;
  ready = λ h v w size held faults images ready. ready_still tells h v w size held faults images ready;
  stands = λ h m v w size held faults images at. at_still tells h v w size held faults images m at;
}
