use Rattle.std.proofs.Common.{rules, subst, IsTrue}
use Rattle.ts_base.specs.Moment.{IsStamp}
use Rattle.ts_pattern.specs.Patterns.{is_pattern}
use Rattle.ts_container.proofs.StandsLemmas.{own_stands, by_stands}
use Rattle.ts_container.proofs.judge.form_has_definition.Goals as goal

pub returns-in-Own : goal.returns-in-Own
returns-in-Own c = λ format.
    own_stands format c.args.form.now c.in-Own.pattern c.in-Own.is c.as_slice-name.ensures.form (subst IsStamp c.units-start.ensures.value c.units-start.ensures.within) (subst IsStamp c.units-patt_start.ensures.value c.units-patt_start.ensures.within)
    (subst (λ l. IsTrue (is_pattern l)) c.runs-runs.ensures.runs c.runs-runs.ensures.pattern)

pub returns-in-By : goal.returns-in-By
returns-in-By c = λ format.
    by_stands format c.args.form.now c.in-By.slot c.in-By.is (search rules) c.as_slice-name.ensures.form (subst IsStamp c.units-start.ensures.value c.units-start.ensures.within) (subst IsStamp c.units-patt_start.ensures.value c.units-patt_start.ensures.within)
