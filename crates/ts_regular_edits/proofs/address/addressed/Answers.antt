use Rattle.std.proofs.Common.{sym, ◌∙◌}
use Rattle.ts_sheets.proofs.StartLemmas.{few_starts}
use Rattle.ts_regular_edits.proofs.address.addressed.Goals as goal

-- the offset of a start is among the on starts, and these are few
pub returns-in-Some-clause-limit : goal.returns-in-Some-clause-limit
returns-in-Some-clause-limit c = few_starts c.args.grid.now c.in_ok-offset.offset c.in-Some.start (sym c.stamp_of.ensures.value ∙ c.in-Some.is)
