use Rattle.std.proofs.Common.{sym, ◌∙◌}
use Rattle.ts_dump.proofs.SeriesLemmas.{key_there}
use Rattle.ts_dump.proofs.series.say_slot.Goals as goal

pub say_series-requires-clause-there : goal.say_series-requires-clause-there
say_series-requires-clause-there g c =
    let at = key_there c.args.opened.now.found.defs.definitions c.args.slot c.in-Some.def.now (sym c.in-Some.ensures) in
    (at.0, at.1, at.2 ∙ sym c.name.ensures)
