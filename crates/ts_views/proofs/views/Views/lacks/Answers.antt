use Rattle.std.proofs.Common.{sym, ◌∙◌, ap}
use Rattle.std.specs.List.{list_any}
use Rattle.ts_views.specs.View.{lacks_image}
use Rattle.ts_views.proofs.TurnLemmas.{none_lacks}
use Rattle.ts_views.proofs.views.Views.lacks.Goals as goal

pub returns-clause-has : goal.returns-clause-has
returns-clause-has c = λ none. none_lacks c.args.no c.args.self.now
    (ap (list_any (lacks_image c.args.no)) (sym c.self.view_is ∙ sym c.deref.ensures.value) ∙ sym c.any_lacks.ensures ∙ none)
