use Rattle.std.proofs.Common.{◌≡◌, List, Option, None, Some, length, set, ap, sym, ◌∙◌}
use Rattle.std.proofs.lemmas.List.{set-get_or}
use Rattle.std.specs.Option.{option_copied_mut}
use Rattle.ts_command.specs.declared.command.Command.{Command}
use Rattle.ts_views.specs.declared.view.View.{View}
use Rattle.ts_views.specs.View.{view_of}
use Rattle.ts_session_engine.specs.Committed.{listed}
use Rattle.ts_session_turns.proofs.inside.commands_in.Goals as goal

pub returns-clause-count : goal.returns-clause-count
returns-clause-count c =
    let there : view_of c.args.who c.args.views.now ≡ Some c.in-Some.view.now = sym c.view.ensures.value ∙ ap option_copied_mut c.in-Some.is in
    let same : listed (view_of c.args.who c.args.views.now) ≡ c.as_slice.result.now = ap listed there ∙ sym c.as_slice.ensures.value in
    sym (ap (λ (l : List Command). length l) same)

pub returns-clause-same : goal.returns-clause-same
returns-clause-same c =
    let there : view_of c.args.who c.args.views.now ≡ Some c.in-Some.view.now = sym c.view.ensures.value ∙ ap option_copied_mut c.in-Some.is in
    ap (λ (o : Option View). set c.args.views.now c.args.who o) (sym there) ∙ set-get_or c.args.views.now c.args.who None
