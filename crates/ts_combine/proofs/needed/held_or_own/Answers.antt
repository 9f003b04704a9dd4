-- A stamp that is addressed, and one that isn't.
use Rattle.std.proofs.Common.{◌∙◌, sym}
use Rattle.ts_combine.proofs.NeededLemmas.{held-enough, off-enough}
use Rattle.ts_combine.proofs.needed.held_or_own.Goals as goal

pub returns-in_default : goal.returns-in_default
returns-in_default c = off-enough c.args.grid.now c.args.stamp c.in_default.field-0 (sym c.offset_of.ensures.answer ∙ c.in_default.is)

pub returns-in-Some : goal.returns-in-Some
returns-in-Some c =
    held-enough c.args.grid.now c.args.stamp c.in-Ok.offset c.in-Some.start c.in-Ok.ensures.again (sym c.stamp_of.ensures.value ∙ c.in-Some.is)
