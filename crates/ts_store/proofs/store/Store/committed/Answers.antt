use Rattle.std.proofs.Common.{◌≡◌, IsTrue, OnOk, sym, subst, arith}
use Rattle.ts_page.specs.Pages.{IsOutsideJournal}
use Rattle.ts_recover.proofs.CallerLemmas.{reads_none}
use Rattle.ts_recover.proofs.ReadLemmas.{reads_one}
use Rattle.ts_store.specs.OpenBatch.{State, committed_pages}
use Rattle.ts_store.specs.contracts.store.Store.{the_view}
use Rattle.ts_store.proofs.GetLemmas.{committed_read, one_call}
use Rattle.ts_store.proofs.store.Store.committed.Goals as goal

pub returns-in-Some-clause-others : goal.returns-in-Some-clause-others
returns-in-Some-clause-others g c = reads_none g.V.Volume.tells (g.V.Volume.device c.args.vol.now) (g.met.V.Volume.lawful c.args.vol.now)

pub returns-in-None-clause-others : goal.returns-in-None-clause-others
returns-in-None-clause-others g c =
    reads_one g.V.Volume.tells _ c.read_at.new.into c.read_at.result (g.V.Volume.device c.args.vol.now) (g.V.Volume.device c.read_at.new.self) (g.met.V.Volume.lawful c.args.vol.now) c.read_at.ensures

pub returns-in-None-clause-once : goal.returns-in-None-clause-once
returns-in-None-clause-once g c =
    one_call g.V.Volume.tells _ c.read_at.new.into c.read_at.result (g.V.Volume.device c.args.vol.now) (g.V.Volume.device c.read_at.new.self) c.read_at.ensures

pub returns-in-None-clause-read : goal.returns-in-None-clause-read
returns-in-None-clause-read g c =
    let v = g.V.Volume.device c.args.vol.now in
    subst (λ (s : State). OnOk c.read_at.result (IsTrue g.V.Volume.tells → IsOutsideJournal c.args.no → c.read_at.new.into ≡ committed_pages s v.held c.args.no)) c.self.view_is
    (committed_read g.V.Volume.tells (the_view c.self.inside) c.args.no _ c.read_at.new.into c.read_at.result v (g.V.Volume.device c.read_at.new.self) (omega arith) (omega (arith, c.read_at.auto.into)) (sym c.in-None.ensures) c.read_at.ensures)
