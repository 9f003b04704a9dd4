use Rattle.std.proofs.Common.{◌≡◌, ℕ, ◌<◌, Bool, List, [], length, refl, ap, sym, ◌∙◌, subst, arith}
use Rattle.ts_disk.specs.Device.{Device}
use Rattle.ts_store.specs.OpenBatch.{State, IsIdle}
use Rattle.ts_store_vectors.proofs.cached.caching.Goals as goal

-- no page can be taken
none_admitted : (tells : Bool) (s t : State) (d : Device) (free : List ℕ) → free ≡ [] → t ≡ record s { free = free; kept_free = free; base_free = free } → IsIdle tells s d → IsIdle tells t d
none_admitted tells s t d free none is idle =
    let over = idle.over in
    subst (λ (x : State). IsIdle tells x d) (sym (is ∙ ap (λ (l : List ℕ). record s { free = l; kept_free = l; base_free = l }) none))
    (record {
      over = record {
        read = record {
          size = over.read.size;
          volume = over.read.volume;
          stands = over.read.stands;
          allowed = over.read.allowed;
          lawful = record { different = λ i j e before within same. none_within j within; listed = λ k e within. absurd (none_within k within) };
          cached = over.read.cached;
        };
        settled = over.settled;
      };
      batch = idle.batch;
      kept_free = refl;
    })
  where
    none_within : (k : ℕ) → k < length {A = ℕ} [] → ⊥
    none_within k within = omega (arith, within)

pub returns-clause-idle : goal.returns-clause-idle
returns-clause-idle g c =
    none_admitted g.V.Volume.tells c.in_ok-store.store c.admit.new.self (g.V.Volume.device c.opened.new.vol) c.new.result.items c.new.ensures.items c.admit.ensures c.in_ok-store.ensures.idle

pub returns-clause-closed : goal.returns-clause-closed
returns-clause-closed g c = record {
  transaction = ap (λ (s : State). s.transaction) c.admit.ensures ∙ c.in_ok-store.ensures.closed.transaction;
  base_free = ap (λ (s : State). s.base_free) c.admit.ensures ∙ sym (ap (λ (s : State). s.free) c.admit.ensures);
}
