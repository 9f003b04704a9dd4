use Rattle.std.proofs.Common.{ℕ, ◌≡◌, ◌*◌, sym, subst, ◌∙◌, arith}
use Rattle.ts_journal.specs.Journal.{IsVolumeSize, page_count, IsAtEnd, AreAllowed}
use Rattle.ts_recover.proofs.CallerLemmas.{still_only}
use Rattle.ts_journal_vectors.proofs.volumes.commit_there.Goals as goal

counted : (size pages : ℕ) → size ≡ 4096 * pages → page_count size ≡ pages
counted size pages is = omega (arith, is)

pub commit-requires : goal.commit-requires
commit-requires g c =
    let found = c.in_ok-replayed.ensures in
    let reads = c.recover.ensures.others in
    let there = counted (g.V.Volume.device c.recover.new.vol).size c.in_ok-replayed.replayed.pages (reads.keeps.size ∙ found.count) in
    record {
      can = record {
        size = subst IsVolumeSize (sym reads.keeps.size) found.size;
        settled = still_only g.V.Volume.tells (g.V.Volume.device c.args.vol.now) (g.V.Volume.device c.recover.new.vol) reads c.requires.settled;
        stands = λ told. let over = found.ok told in subst (IsAtEnd c.in_ok-replayed.replayed.journal) (sym reads.held) (record { rs = over.rs; stands = over.stands });
        changes = c.requires.changes;
        allowed = subst (λ (n : ℕ). AreAllowed n c.args.batch.now.entries) (omega (arith, there)) c.requires.allowed;
      };
    }
