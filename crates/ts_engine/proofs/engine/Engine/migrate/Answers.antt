use Rattle.std.proofs.Common.{ap, sym, ◌∙◌}
use Rattle.ts_engine.specs.Engine.{Kept}
use Rattle.ts_engine.proofs.MigrateLemmas.{migrated_none}
use Rattle.ts_engine.proofs.engine.Engine.migrate.Goals as goal

pub returns-then-format-eq-FORMAT-clause-migrated : goal.returns-then-format-eq-FORMAT-clause-migrated
returns-then-format-eq-FORMAT-clause-migrated g c unspent =
    let newest = sym (ap (λ (k : Kept). k.tables.definitions.format) c.self.view_is) ∙ sym c.format.ensures.value ∙ c.if-format-eq-FORMAT.true in
    migrated_none g.V.Volume.tells c.args.self.now (g.V.Volume.device c.args.vol.now) (g.met.V.Volume.lawful c.args.vol.now) (c.requires.ready unspent) c.requires.rests newest
