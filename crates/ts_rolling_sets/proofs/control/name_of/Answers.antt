use Rattle.std.proofs.Common.{Some, ap, sym, ◌∙◌}
use Rattle.std.specs.Option.{option_copied}
use Rattle.ts_model.specs.Definitions.{of_container}
use Rattle.ts_layout.proofs.CallerLemmas.{one_of}
use Rattle.ts_rolling_sets.proofs.HomeLemmas.{container_as, name_is}
use Rattle.ts_rolling_sets.proofs.control.name_of.Goals as goal

pub unreachable-requires : goal.unreachable-requires
unreachable-requires c =
    let there = container_as c.args.defs.now.definitions c.args.slot c.requires.filled in
    let def = there.2 in
    let none = sym c.get.ensures ∙ ap option_copied c.in_default.is in
    cc

pub unreachable-requires-in_default-def : goal.unreachable-requires-in_default-def
unreachable-requires-in_default-def c =
    let there = container_as c.args.defs.now.definitions c.args.slot c.requires.filled in
    let def = one_of _ c.in-Some.def.now (of_container there.0) (sym c.get.ensures ∙ ap option_copied c.in-Some.is) there.2 in
    c.in_default-def.not-Container there.0.name there.0.row_type there.0.quota def

pub returns : goal.returns
returns c = name_is c.args.defs.now.definitions c.args.slot c.in-Container.name c.in-Container.row_type c.in-Container.quota (sym c.get.ensures ∙ ap option_copied c.in-Some.is ∙ ap Some c.in-Container.is)
