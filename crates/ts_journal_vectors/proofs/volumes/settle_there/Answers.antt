use Rattle.std.proofs.Common.{ℕ, List, sym, subst}
use Rattle.ts_journal.specs.Journal.{IsVolumeSize, page_count, StandsOver, AreAllowed}
use Rattle.ts_recover.proofs.CallerLemmas.{still_only}
use Rattle.ts_journal_vectors.proofs.volumes.settle_there.Goals as goal

pub settle-requires : goal.settle-requires
settle-requires g c =
    let found = c.in_ok-replayed.ensures in
    let reads = c.recover.ensures.others in
    record {
      over = record {
        size = subst IsVolumeSize (sym reads.keeps.size) found.size;
        settled = still_only g.V.Volume.tells (g.V.Volume.device c.args.vol.now) (g.V.Volume.device c.recover.new.vol) reads c.requires.settled;
        stands = λ told.
            subst (λ (h : List ℕ). StandsOver c.in_ok-replayed.replayed.journal c.in_ok-replayed.replayed.overlay.entries h) (sym reads.held) (found.ok told);
        allowed = subst (λ (n : ℕ). AreAllowed (page_count n) c.in_ok-replayed.replayed.overlay.entries) (sym reads.keeps.size) found.allowed;
      };
    }
