use Rattle.std.proofs.Common.{ap, ◌∙◌}
use Rattle.ts_store.specs.OpenBatch.{State as Store}
use Rattle.ts_model.specs.Definitions.{Tables}
use Rattle.ts_space.specs.Directory.{Directory}
use Rattle.ts_session_engine.proofs.OpenLemmas.{newest_view}
use Rattle.ts_session_engine.proofs.open.newest.Goals as goal

pub returns : goal.returns
returns c =
    newest_view c.args.engine.now _ (ap (λ (t : Tables). t.definitions) (c.in_ok-defs.ensures ∙ c.defs.ensures)) (c.in_ok-space.ensures ∙ ap (λ (s : Directory). s.lists) c.space.ensures)
    (c.in_ok-free.ensures ∙ ap (λ (s : Store). s.free) c.store.ensures) c.new-old.ensures c.new-own.ensures c.new-commands.ensures.items
