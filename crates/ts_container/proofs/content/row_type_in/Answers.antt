use Rattle.std.proofs.Common.{Some, sym, ap, ◌∙◌}
use Rattle.std.specs.Option.{option_copied}
use Rattle.ts_layout.proofs.CallerLemmas.{container_limit}
use Rattle.ts_container.proofs.content.row_type_in.Goals as goal

pub get-requires-in-Some-Container : goal.get-requires-in-Some-Container
get-requires-in-Some-Container c =
    container_limit c.args.defs.now.definitions c.requires.limits c.args.container c.requires.slot _ c.in-Some-Container.row_type _
    (sym c.get.ensures ∙ ap option_copied c.in-Some-Container.is ∙ ap Some c.in-Some-Container.field-0-is)
