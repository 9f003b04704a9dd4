use Rattle.std.proofs.Common.{Some, sym, ap, ◌∙◌}
use Rattle.std.specs.Option.{option_copied}
use Rattle.ts_layout.proofs.CallerLemmas.{series_limit}
use Rattle.ts_effects.proofs.ChargedLemmas.{rate_is}
use Rattle.ts_effects.proofs.charge.rate_of.Goals as goal

pub row_type_in-requires-clause-slot : goal.row_type_in-requires-clause-slot
row_type_in-requires-clause-slot c =
    series_limit c.args.defs.now.definitions c.requires.limits c.args.slot c.requires.slot _ c.in-Some-Series.container c.in-Some-Series.regular
    (sym c.get.ensures ∙ ap option_copied c.in-Some-Series.is ∙ ap Some c.in-Some-Series.field-0-is)

pub returns : goal.returns
returns c =
    let there = sym c.get.ensures ∙ ap option_copied c.in-Some-Series.is ∙ ap Some c.in-Some-Series.field-0-is in
    rate_is c.args.defs.now.definitions c.args.slot _ (record { container = c.in-Some-Series.container; regular = c.in-Some-Series.regular; room = c.page_room.result }) c.in-Some.kind.now there
    (series_limit c.args.defs.now.definitions c.requires.limits c.args.slot c.requires.slot _ c.in-Some-Series.container c.in-Some-Series.regular there) c.in-Some.ensures c.page_room.ensures.value
