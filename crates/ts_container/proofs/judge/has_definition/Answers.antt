use Rattle.std.proofs.Common.{sym, subst}
use Rattle.ts_container.specs.Reading.{StandsFor}
use Rattle.ts_container.proofs.judge.has_definition.Goals as goal

pub returns-in-Form : goal.returns-in-Form
returns-in-Form c = λ format. subst (StandsFor format) (sym c.in-Form.is) (c.form_has_definition.ensures format)
