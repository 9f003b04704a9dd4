use Rattle.std.proofs.Common.{Some, ap, sym, ◌∙◌}
use Rattle.std.specs.Option.{option_copied}
use Rattle.ts_model.specs.Definitions.{of_series}
use Rattle.ts_layout.proofs.CallerLemmas.{one_of}
use Rattle.ts_rolling_sets.proofs.HomeLemmas.{series_as, container_is}
use Rattle.ts_rolling_sets.proofs.control.container_of.Goals as goal

pub unreachable-requires : goal.unreachable-requires
unreachable-requires c =
    let there = series_as c.args.defs.now.definitions c.args.slot c.requires.filled in
    let def = there.2 in
    let none = sym c.get.ensures ∙ ap option_copied c.in_default.is in
    cc

pub unreachable-requires-in_default-def : goal.unreachable-requires-in_default-def
unreachable-requires-in_default-def c =
    let there = series_as c.args.defs.now.definitions c.args.slot c.requires.filled in
    let def = one_of _ c.in-Some.def.now (of_series there.0) (sym c.get.ensures ∙ ap option_copied c.in-Some.is) there.2 in
    c.in_default-def.not-Series there.0.key there.0.container there.0.regular def

pub returns : goal.returns
returns c = container_is c.args.defs.now.definitions c.args.slot c.in-Series.key c.in-Series.container c.in-Series.regular (sym c.get.ensures ∙ ap option_copied c.in-Some.is ∙ ap Some c.in-Series.is)
