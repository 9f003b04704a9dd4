use Rattle.std.proofs.Common.{Err, length, ap, ◌∙◌, arith}
use Rattle.ts_journal.specs.Journal.{entries_bytes}
use Rattle.ts_store.specs.OpenBatch.{to_commit}
use Rattle.ts_store.proofs.CallerLemmas.{over_prepared}
use Rattle.ts_engine.specs.Engine.{Kept}
use Rattle.ts_engine.proofs.ChangeLemmas.{finished_prepared, unworked, dropped}
use Rattle.ts_engine.proofs.engine.Engine.finish.Goals as goal

pub commit-requires-clause-over : goal.commit-requires-clause-over
commit-requires-clause-over g c =
    over_prepared g.V.Volume.tells c.args.self.now.store c.prepare.new.self.store (g.V.Volume.device c.args.vol.now) (ap (λ (e : Kept). e.store) c.prepare.ensures.others) c.requires.over

pub commit-requires-clause-short : goal.commit-requires-clause-short
commit-requires-clause-short g c = omega (arith, ap (λ (e : Kept). length (entries_bytes (to_commit e.store))) c.prepare.ensures.others, c.requires.short)

pub returns-in-Ok : goal.returns-in-Ok
returns-in-Ok g c =
    record {
      finished = finished_prepared g.V.Volume.tells c.args.worked c.in-Ok.ensures.done c.args.self.now c.prepare.new.self c.commit.new.self (g.V.Volume.device c.args.vol.now) (g.V.Volume.device c.commit.new.vol)
          c.prepare.ensures.others c.commit.result c.commit.ensures.finished;
    }

pub returns-in-Err-Failed : goal.returns-in-Err-Failed
returns-in-Err-Failed g c =
    record {
      finished = unworked g.V.Volume.tells c.args.worked c.args.self.now c.prepare.new.self c.spend.new.self (g.V.Volume.device c.args.vol.now) (g.met.V.Volume.lawful c.args.vol.now) c.requires.over c.prepare.ensures.others
          (c.in-Err-Failed.ensures.failed (ap Err c.in-Err-Failed.field-0-is) ∙ ap Err c.in-Err-Failed.field-0-is) c.spend.ensures;
    }

pub returns-in-Err-Memory : goal.returns-in-Err-Memory
returns-in-Err-Memory g c =
    record {
      finished = dropped g.V.Volume.tells c.args.worked c.args.self.now c.prepare.new.self c.discard.new.self (g.V.Volume.device c.args.vol.now) (g.met.V.Volume.lawful c.args.vol.now) c.requires.over c.prepare.ensures.others
          _ (λ failed. let memory = c.in-Err-Memory.field-0-is in let same = c.in-Err-Memory.ensures.fails failed in cc) c.discard.ensures;
    }
