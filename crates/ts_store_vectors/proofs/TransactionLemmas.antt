-- What a drop, a keep and a rollback leave of a store between two batches of a transaction.
use Rattle.std.proofs.Common.{◌≡◌, ℕ, ◌≤◌, Bool, List, [], length, sym, ap, ◌∙◌, subst, arith}
use Rattle.ts_disk.specs.Device.{Device}
use Rattle.ts_journal.specs.Journal.{Entry, entries_bytes}
use Rattle.ts_store.specs.OpenBatch.{State, IsOver, IsIdle, IsClosed, to_commit, read_pages, rolled_back, contents_over}
use Rattle.ts_store.specs.Undisturbed.{Undisturbed}
use Rattle.ts_store.proofs.CallerLemmas.{over_prepared, idle_dropped, idle_joined, joined_counts, base_still, base_prepared, base_dropped, base_joined, over_rolled_back, idle_rolled_back, rolled_back_closed}
use Rattle.ts_store_vectors.specs.Transaction.{IsBetween}

-- calls on a batch, and then its end
module _ (tells : Bool) (free : List ℕ) (s e : State) (v w : Device) (before : IsBetween tells free s v) (calls : Undisturbed tells s e v w) where
  pub between_dropped : (t : State) → t ≡ record e { batch = []; free = e.kept_free } → IsBetween tells free t w
  between_dropped t is = record {
    idle = idle_dropped tells s e t v w before.idle calls is;
    base = base_dropped tells e t w is (base_still tells s e v w before.base calls);
    can_take = ap (λ (x : State). x.free) is ∙ calls.kept_free ∙ before.idle.kept_free ∙ before.can_take;
    base_free = ap (λ (x : State). x.base_free) is ∙ calls.base_free ∙ before.base_free;
  }

  pub bytes_dropped : (t : State) → t ≡ record e { batch = []; free = e.kept_free } → (contents_over t w).change_bytes ≤ (contents_over s v).change_bytes
  bytes_dropped t is = omega (
    arith,
    ap (λ (x : State). length (entries_bytes x.transaction)) is,
    ap (λ (x : State). length (entries_bytes x.batch)) is,
    ap (λ (es : List Entry). length (entries_bytes es)) calls.transaction,
  )

  module _ (p t : State) (room : p ≡ record e { spare = p.spare; join_spare = p.join_spare }) (is : t ≡ record p { transaction = to_commit p; batch = []; kept_free = p.free; join_spare = t.join_spare })
      (same : (held : List ℕ) → (k : ℕ) → read_pages t held k ≡ read_pages p held k) where
    pub between_kept : (left : List ℕ) → IsOver tells e w → e.free ≡ left → IsBetween tells left t w
    between_kept left over is_left = record {
      idle = idle_joined tells p t w is same (over_prepared tells e p w room over);
      base = base_joined tells p t w is (base_prepared tells e p w room (base_still tells s e v w before.base calls));
      can_take = ap (λ (x : State). x.free) is ∙ ap (λ (x : State). x.free) room ∙ is_left;
      base_free = ap (λ (x : State). x.base_free) is ∙ ap (λ (x : State). x.base_free) room ∙ calls.base_free ∙ before.base_free;
    }

    pub bytes_kept : (contents_over t w).change_bytes ≤ (contents_over e w).change_bytes
    bytes_kept = omega (
      arith,
      joined_counts tells p t w is same,
      ap (λ (x : State). length (entries_bytes x.transaction)) room,
      ap (λ (x : State). length (entries_bytes x.batch)) room,
    )

pub between_rolled_back : (tells : Bool) (free : List ℕ) (s t : State) (d : Device) → t ≡ record (rolled_back s) { join_spare = t.join_spare } → IsBetween tells free s d → IsBetween tells [] t d
between_rolled_back tells free s t d is before = record {
  idle = idle_rolled_back tells s t d is before.base;
  base = over_rolled_back tells s (rolled_back t) d (ap rolled_back is) before.base;
  can_take = ap (λ (x : State). x.free) is ∙ before.base_free;
  base_free = ap (λ (x : State). x.base_free) is ∙ before.base_free;
}

pub bytes_rolled_back : (s t : State) (d : Device) → t ≡ record (rolled_back s) { join_spare = t.join_spare } → (contents_over t d).change_bytes ≡ 0
bytes_rolled_back s t d is = omega (arith, ap (λ (x : State). length (entries_bytes x.transaction)) is, ap (λ (x : State). length (entries_bytes x.batch)) is)

-- a store that was just opened
pub between_closed : (tells : Bool) (s : State) (d : Device) → IsIdle tells s d → IsClosed s → s.free ≡ [] → IsBetween tells [] s d
between_closed tells s d idle closed none = record {
  idle = idle;
  base = subst (λ (x : State). IsOver tells x d) (sym (rolled_back_closed tells s d idle closed)) idle.over;
  can_take = none;
  base_free = closed.base_free ∙ none;
}

pub bytes_closed : (tells : Bool) (s : State) (d : Device) → IsIdle tells s d → IsClosed s → (contents_over s d).change_bytes ≡ 0
bytes_closed tells s d idle closed = omega (
  arith,
  ap (λ (es : List Entry). length (entries_bytes es)) closed.transaction,
  ap (λ (es : List Entry). length (entries_bytes es)) idle.batch,
)
