-- Old images are kept while a batch is open.
use Rattle.std.specs.declared.alloc.AllocError.{AllocError}
use Rattle.std.proofs.Common.{◌≡◌, ℕ, ◌+◌, Bool, Option, Result, Ok, Err, OnOk, IsErrAnd, List, length, refl, sym, ◌∙◌, subst}
use Rattle.ts_base.specs.declared.fault.StoreFault.{StoreFault}
use Rattle.ts_base.specs.declared.fault.StoreFault.TheVariants.{Failed as StoreFailed, Memory as StoreMemory}
use Rattle.ts_command.specs.declared.command.Command.{Command}
use Rattle.ts_disk.specs.Device.{Device, Rose}
use Rattle.ts_page.specs.Pages.{Contents}
use Rattle.ts_journal.specs.Journal.{entries_bytes, is_image, change_of, over, own_page}
use Rattle.ts_journal.specs.Moment.{OnlyReads}
use Rattle.ts_store.specs.OpenBatch.{State as Store, AreInPlace, IsOver, committed_pages, read_pages, contents_over}
use Rattle.ts_store.specs.Undisturbed.{Undisturbed}
use Rattle.ts_store.proofs.CallerLemmas.{over_kept, reads_then}
use Rattle.ts_answer.specs.declared.effect.Effect.{Effect}
use Rattle.ts_answer.specs.declared.stop.Stop.{Stop}
use Rattle.ts_answer.specs.declared.stop.Stop.TheVariants as stops
use Rattle.ts_answer.specs.CarriedOut.{CarriedOut}
use Rattle.ts_answer.specs.Stop.{store_stop}
use Rattle.ts_answer.specs.View.{View as Seen}
use Rattle.ts_views.specs.declared.view.View.{View}
use Rattle.ts_session_engine.specs.Beside.{AllHaveMore}

-- where nothing is written, a store is over its volume as before
pub over_then : (tells : Bool) (s : Store) (v w : Device) → IsOver tells s v → OnlyReads tells v w → IsOver tells s w
over_then tells s v w over reads = over_kept tells s v over w reads.keeps.size reads.held reads.images

-- and what was read in an open batch is what is read then
pub undisturbed_then : (tells : Bool) (s t : Store) (v w x : Device) → Undisturbed tells s t v w → OnlyReads tells w x → Undisturbed tells s t v x
undisturbed_then tells s t v w x calls reads = record {
  pages = calls.pages;
  journal = calls.journal;
  overlay = calls.overlay;
  transaction = calls.transaction;
  kept_free = calls.kept_free;
  base_free = calls.base_free;
  reads = reads_then tells v w x calls.reads reads;
  cached = λ told now. subst (λ (bytes : List ℕ). AreInPlace bytes t.cache) (sym reads.held) (calls.cached told now);
}

contents_same : (s : Store) (v w : Device) → w.held ≡ v.held → w.faults ≡ v.faults → contents_over s v ≡ contents_over s w
contents_same s v w held faults = λ i. record {
  count = s.pages;
  page = read_pages s (sym held i);
  free = s.free;
  change_bytes = length (entries_bytes s.transaction) + length (entries_bytes s.batch);
  imaged = λ number. is_image (change_of number s.batch);
  faults = sym faults i;
}

pub carried_then : (tells : Bool) (command : Command) (effect : Effect) (out : List ℕ) (x : Seen) (s : Store) (v w : Device) → CarriedOut tells command (Ok effect) out x (contents_over s v) → OnlyReads tells v w → w.faults ≡ v.faults → CarriedOut tells command (Ok effect) out x (contents_over s w)
carried_then tells command effect out x s v w carried reads faults = subst (CarriedOut tells command (Ok effect) out x) (contents_same s v w reads.held faults) carried

-- a fault is passed on
pub carried_by : (tells : Bool) (command : Command) (r : Result Effect Stop) (stop : Stop) (out : List ℕ) (x : Seen) (c : Contents) → IsErrAnd r (λ k. k ≡ stop) → CarriedOut tells command (Err stop) out x c → CarriedOut tells command r out x c
carried_by tells command (Ok effect) stop out x c is carried = absurd is
carried_by tells command (Err k) stop out x c is carried = subst (λ (z : Stop). CarriedOut tells command (Err z) out x c) (sym is) carried

pub none_ok : {T E : Type 0} (r : Result T E) (P : Type 0) (Q : E → Type 0) → IsErrAnd r Q → OnOk r P
none_ok (Ok y) P Q is = absurd is
none_ok (Err k) P Q is = tt

-- there was no memory for old images, or the disk failed
module _ (tells : Bool) (command : Command) (effect : Effect) (out : List ℕ) (x : Seen) (s : Store) (v w : Device) (before : CarriedOut tells command (Ok effect) out x (contents_over s v)) where
  pub failed_then : Rose v.faults w.faults → CarriedOut tells command (Err stops.Failed) out x (contents_over s w)
  failed_then rose = record { keeps = tt; done = tt; applies = tt; reads = tt; stays = tt; stopped = subst (λ (n : ℕ). Rose n w.faults) before.no_fault rose; count = before.count; grows = tt; no_fault = tt }

  pub wanting_then : (error : AllocError) → w.faults ≡ v.faults → CarriedOut tells command (Err (stops.Memory error)) out x (contents_over s w)
  wanting_then error faults = record { keeps = tt; done = tt; applies = tt; reads = tt; stays = tt; stopped = faults ∙ before.no_fault; count = before.count; grows = tt; no_fault = tt }

  pub stopped_then : (fault : StoreFault) → (◌≡◌ {A = Result Unit StoreFault} (Err fault) (Err StoreFailed) → Rose v.faults w.faults) → (¬ (◌≡◌ {A = Result Unit StoreFault} (Err fault) (Err StoreFailed)) → w.faults ≡ v.faults)
      → CarriedOut tells command (Err (store_stop fault)) out x (contents_over s w)
  stopped_then StoreFailed cause no_fault = failed_then (cause refl)
  stopped_then (StoreMemory error) cause no_fault = wanting_then error (no_fault (λ failed. absurd (cc)))

-- what was committed before is what is committed still
pub more_before : (tells : Bool) (s t : Store) (v w : Device) (old new : List (Option View)) → Undisturbed tells s t v w → AllHaveMore tells (committed_pages t w.held) old new → AllHaveMore tells (committed_pages s v.held) old new
more_before tells s t v w old new calls more =
    subst (λ (p : ℕ → List ℕ). AllHaveMore tells p old new) (λ i. over (calls.overlay i) (own_page (calls.reads.held i))) more
