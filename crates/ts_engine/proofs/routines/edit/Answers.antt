use Rattle.std.proofs.Common.{subst}
use Rattle.ts_command.specs.Form.{HasForm}
use Rattle.ts_engine.proofs.routines.edit.Goals as goal

pub rolling_put-came-requires-clause-set : goal.rolling_put-came-requires-clause-set
rolling_put-came-requires-clause-set g c = subst HasForm c.in-RollingPut.is c.requires.form

pub rolling_drop-came-requires-clause-set : goal.rolling_drop-came-requires-clause-set
rolling_drop-came-requires-clause-set g c = subst HasForm c.in-RollingDrop.is c.requires.form
