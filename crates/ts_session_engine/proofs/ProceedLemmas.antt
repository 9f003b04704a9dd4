-- How an engine goes on, by what its calls say.
use Rattle.std.proofs.Common.{◌≡◌, ℕ, Bool, IsTrue, Option, Some, None, IfSome, Result, Ok, Err, List, [], ap, sym, ◌∙◌, subst, arith}
use Rattle.std.specs.Option.{option_map}
use Rattle.ts_disk.specs.Device.{Device, Within}
use Rattle.ts_journal.specs.Journal.{over, StandsOver}
use Rattle.ts_journal.proofs.CallerLemmas.{over_pages}
use Rattle.ts_store.specs.OpenBatch.{State as Store, IsIdle, committed_pages, read_pages, contents_over}
use Rattle.ts_store.specs.OpenBatch.{rolled_back as store_rolled_back}
use Rattle.ts_store.proofs.CallerLemmas.{over_kept}
use Rattle.ts_layout.specs.Meaning.{HoldsLayout, Means}
use Rattle.ts_answer.specs.View.{IsSeen}
use Rattle.ts_answer.specs.Answer.{State, newest}
use Rattle.ts_volume.specs.Volume.{MeansCatalogue}
use Rattle.ts_engine.specs.declared.fault.StepFault.{StepFault}
use Rattle.ts_engine.specs.declared.fault.StepFault.TheVariants.{Disk, Memory, Closed}
use Rattle.ts_engine.specs.declared.transaction.Saved.{Saved}
use Rattle.ts_engine.specs.Engine.{Kept, AreMarked, IsReady, IsAt, IsSmall, rolled_back, seen_by}
use Rattle.ts_engine.specs.Moves.{IsUntouched, Moves}
use Rattle.ts_session_engine.specs.Proceeds.{Proceeds}

-- two idle stores over the same bytes that have the same changes of a transaction read the same
module _ (s t : Store) (held : List ℕ) (stands : StandsOver s.journal s.overlay held) (other : StandsOver t.journal t.overlay held)
    (none : s.batch ≡ []) (without : t.batch ≡ []) (same : t.transaction ≡ s.transaction) where
  alike_pages : (k : ℕ) → committed_pages t held k ≡ committed_pages s held k
  alike_pages k = sym (over_pages t.journal t.overlay held other k) ∙ over_pages s.journal s.overlay held stands k

  alike_reads : read_pages t held ≡ read_pages s held
  alike_reads =
      (λ i. over (without i) (over (same i) (λ k. alike_pages k i)))
      ∙ sym (λ i. over (none i) (over s.transaction (committed_pages s held)))

-- an engine that keeps what it kept stands at the same state
pub at_untouched : (tells : Bool) (told : IsTrue tells) (e f : Kept) (v w : Device) → IsUntouched tells e f v w → IsReady tells f w → (state : State) → IsAt tells e state v → IsAt tells f state w
at_untouched tells told e f v w same ready state at =
    let s = e.store in
    let t = f.store in
    let held = same.disk.held in
    let stands = at.ready.idle.over.read.stands told in
    let other = subst (StandsOver t.journal t.overlay) held (ready.idle.over.read.stands told) in
    let reads : read_pages t v.held ≡ read_pages s v.held = alike_reads s t v.held stands other at.ready.idle.batch ready.idle.batch same.kept.transaction in
    let pages : t.pages ≡ s.pages = omega (arith, ready.idle.over.read.size, at.ready.idle.over.read.size, same.disk.keeps.size) in
    record {
      ready = ready;
      means = subst (λ (l : List ℕ). MeansCatalogue l state.base) (sym held) at.means;
      newest = subst (λ (l : List ℕ). Means t.pages (read_pages t l) (newest state)) (sym held)
          (subst (λ (n : ℕ). Means n (read_pages t v.held) (newest state)) (sym pages)
          (subst (λ (read : ℕ → List ℕ). Means s.pages read (newest state)) (sym reads) at.newest));
      accepted = ap (option_map (λ (saved : Saved). saved.accepted)) same.kept.saved ∙ at.accepted;
    }

-- what moves goes on
pub proceeds_moved : (tells : Bool) (after : State → State) (r : Result Unit StepFault) (e f : Kept) (v w : Device) → Moves tells after r e f v w → Proceeds tells after r e f v w
proceeds_moved tells after (Ok done) e f v w moves = record { ready = moves.ready; at = moves.at; fault = tt; moments = moves.moments; others = moves.others; no_fault = moves.no_fault }
proceeds_moved tells after (Err Disk) e f v w moves = record { ready = tt; at = tt; fault = moves.fault; moments = moves.moments; others = moves.others; no_fault = tt }
proceeds_moved tells after (Err (Memory error)) e f v w moves = record {
  ready = tt;
  at = tt;
  fault = (moves.fault.1, λ told state at. at_untouched tells told e f v w moves.fault.0 moves.fault.1 state at, moves.fault.2);
  moments = moves.moments;
  others = moves.others;
  no_fault = tt;
}
proceeds_moved tells after (Err (Closed faults)) e f v w moves = absurd moves.fault

-- where nothing is written, an engine stands where it stood
module _ (tells : Bool) (v w : Device) (size : w.size ≡ v.size) (held : w.held ≡ v.held) (images : Within v.images w.images) where
  idle_same : (s : Store) → IsIdle tells s v → IsIdle tells s w
  idle_same s idle = record { over = over_kept tells s v idle.over w size held images; batch = idle.batch; kept_free = idle.kept_free }

  seen_same : (e : Kept) → IsSeen tells (seen_by e v) → IsSeen tells (seen_by e w)
  seen_same e seen = record {
    kept = seen.kept;
    layout = λ told.
        let known = seen.layout told in
        (known.0, record { kept = known.1.kept; holds = λ t. subst (λ (l : List ℕ). HoldsLayout (read_pages e.store l) known.0) (sym held) (known.1.holds t) });
  }

  marked_same : (e : Kept) → AreMarked tells e v → AreMarked tells e w
  marked_same e marked told cat means = marked told cat (subst (λ (l : List ℕ). Means e.store.pages (read_pages e.store l) cat) held means)

  small_same : (s back : Store) (o : Option Saved) → IfSome o (λ saved. IsSmall saved.accepted (contents_over back v) (contents_over s v))
      → IfSome o (λ saved. IsSmall saved.accepted (contents_over back w) (contents_over s w))
  small_same s back None small = tt
  small_same s back (Some saved) small = record { few = small.few; grown = small.grown }

  pub ready_same : (e : Kept) → IsReady tells e v → IsReady tells e w
  ready_same e ready = record {
    idle = idle_same e.store ready.idle;
    seen = seen_same e ready.seen;
    marked = marked_same e ready.marked;
    base = record {
      idle = idle_same (rolled_back e).store ready.base.idle;
      seen = seen_same (rolled_back e) ready.base.seen;
      marked = marked_same (rolled_back e) ready.base.marked;
    };
    closed = ready.closed;
    small = small_same e.store (store_rolled_back e.store) e.saved ready.small;
    charges = ready.charges;
    unspent = ready.unspent;
  }

  pub at_same : (e : Kept) (state : State) → IsAt tells e state v → IsAt tells e state w
  at_same e state at = record {
    ready = ready_same e at.ready;
    means = subst (λ (l : List ℕ). MeansCatalogue l state.base) (sym held) at.means;
    newest = subst (λ (l : List ℕ). Means e.store.pages (read_pages e.store l) (newest state)) (sym held) at.newest;
    accepted = at.accepted;
  }
