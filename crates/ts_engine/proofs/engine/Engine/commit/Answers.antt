use Rattle.std.proofs.Common.{Ok, Err, Some, sym, ap, subst, refl}
use Rattle.ts_store.specs.OpenBatch.{IsOver, IsPrepared}
use Rattle.ts_engine.specs.declared.fault.StepFault.TheVariants.{Disk}
use Rattle.ts_engine.specs.contracts.engine.Engine.{the_view}
use Rattle.ts_engine.specs.Engine.{Kept}
use Rattle.ts_engine.specs.Change.{Finished}
use Rattle.ts_engine.proofs.ChangeLemmas.{committed, uncommitted}
use Rattle.ts_engine.proofs.engine.Engine.commit.Goals as goal

pub commit-requires-clause-ready : goal.commit-requires-clause-ready
commit-requires-clause-ready g c = subst (λ (e : Kept). IsPrepared e.store) (sym c.self.view_is) (record { prepared = c.requires.prepared; join = c.requires.join; short = c.requires.short })

pub returns-in-Ok : goal.returns-in-Ok
returns-in-Ok g c =
    let tells = g.V.Volume.tells in
    let v = g.V.Volume.device c.args.vol.now in
    let w = g.V.Volume.device c.commit.new.vol in
    let over = subst (λ (e : Kept). IsOver tells e.store v) (sym c.self.view_is) c.requires.over in
    let f : Kept = record { store = c.commit.new.self; tables = c.self.inside.defs; space = c.self.inside.space; charges = c.self.inside.charges; hidden = c.self.inside.hidden; saved = c.self.inside.saved; spent = c.self.inside.spent } in
    record {
      finished = subst (λ (e : Kept). Finished tells (Ok tt) (Ok tt) e f v w) c.self.view_is
          (committed tells (the_view c.self.inside) f v w over c.commit.ensures.lasts.moments c.commit.ensures.lasts.others refl refl refl refl refl refl c.in-Ok.ensures.closed c.in-Ok.ensures.over c.in-Ok.ensures.lasts.ok (c.in-Ok.ensures.lasts.no_fault (λ failed. absurd (cc))));
    }

pub returns-in-Err : goal.returns-in-Err
returns-in-Err g c =
    let tells = g.V.Volume.tells in
    let v = g.V.Volume.device c.args.vol.now in
    let w = g.V.Volume.device c.commit.new.vol in
    let over = subst (λ (e : Kept). IsOver tells e.store v) (sym c.self.view_is) c.requires.over in
    let f : Kept = record { store = c.commit.new.self; tables = c.self.inside.defs; space = c.self.inside.space; charges = c.self.inside.charges; hidden = c.self.inside.hidden; saved = c.self.inside.saved; spent = Some c.faults.result } in
    record {
      finished = subst (λ (e : Kept). Finished tells (Ok tt) (Err Disk) e f v w) c.self.view_is
          (uncommitted tells (the_view c.self.inside) f v w over c.commit.ensures.lasts.moments c.commit.ensures.lasts.others refl refl refl refl refl (ap Some c.faults.ensures) (c.in-Err.ensures.lasts.cause refl));
    }
