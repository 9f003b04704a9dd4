use Rattle.std.proofs.Common.{sym, subst, ◌∙◌}
use Rattle.ts_store.proofs.CallerLemmas.{over_recovered, closed_recovered}
use Rattle.ts_engine.specs.Start.{ReadFault}
use Rattle.ts_engine.proofs.OpenLemmas.{journal_fault}
use Rattle.ts_engine.proofs.open.read_journal.Goals as goal

pub returns-in_ok-new-in-Ok-clause-idle : goal.returns-in_ok-new-in-Ok-clause-idle
returns-in_ok-new-in-Ok-clause-idle g c =
    let v = g.V.Volume.device c.args.vol.now in
    let w = g.V.Volume.device c.recover.new.vol in
    let found = c.in-Ok.ensures in
    let fresh = c.in_ok-new-in-Ok.ensures in
    record {
      over = over_recovered g.V.Volume.tells c.in-Ok.replayed.pages c.in-Ok.replayed.journal c.in-Ok.replayed.overlay.entries c.in_ok-new-in-Ok.field-0 v w fresh found.others found.count found.size c.requires.settled found.ok found.allowed;
      batch = fresh.batch;
      kept_free = fresh.kept_free ∙ sym fresh.free;
    }

pub returns-in_ok-new-in-Ok-clause-closed : goal.returns-in_ok-new-in-Ok-clause-closed
returns-in_ok-new-in-Ok-clause-closed g c =
    closed_recovered c.in-Ok.replayed.pages c.in-Ok.replayed.journal c.in-Ok.replayed.overlay.entries c.in_ok-new-in-Ok.field-0 c.in_ok-new-in-Ok.ensures

pub returns-in-Err-clause-fault : goal.returns-in-Err-clause-fault
returns-in-Err-clause-fault g c =
    let v = g.V.Volume.device c.args.vol.now in
    let w = g.V.Volume.device c.recover.new.vol in
    let quiet = c.in-Err.ensures.no_fault in
    subst (λ fault. ReadFault g.V.Volume.tells fault v w) (sym c.read_as.ensures)
    (journal_fault g.V.Volume.tells c.in-Err.fault v w (g.met.V.Volume.lawful c.args.vol.now) c.in-Err.ensures.cause (λ other. quiet (λ failed. other (cc))))
