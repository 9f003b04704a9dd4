use Rattle.ts_views.specs.View.{KeepsImage}
use Rattle.ts_views.proofs.TurnLemmas.{TurnsBelow}
use Rattle.ts_views.proofs.views.Views.keep.Given as goal

abbrev pub invariant-loop-who : goal.invariant-loop-who
invariant-loop-who l = TurnsBelow (KeepsImage l.no l.page) l.who l.fn.self l.self-inside.views.items
