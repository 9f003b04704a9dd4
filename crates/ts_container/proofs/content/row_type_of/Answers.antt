use Rattle.std.proofs.Common.{Some, sym, ap, ◌∙◌, arith}
use Rattle.std.specs.Option.{option_copied}
use Rattle.ts_layout.proofs.CallerLemmas.{series_limit, heading_past}
use Rattle.ts_container.proofs.content.row_type_of.Goals as goal

pub returns-then-slot-limit-clause-value : goal.returns-then-slot-limit-clause-value
returns-then-slot-limit-clause-value c = heading_past c.args.defs.now.definitions c.requires.rules c.args.slot (omega arith)

pub row_type_in-requires-clause-slot : goal.row_type_in-requires-clause-slot
row_type_in-requires-clause-slot c =
    series_limit c.args.defs.now.definitions c.requires.limits c.args.slot (omega arith) _ c.in-Some-Series.container _
    (sym c.get.ensures ∙ ap option_copied c.in-Some-Series.is ∙ ap Some c.in-Some-Series.field-0-is)
