use Rattle.ts_model.specs.declared.kind.Kind.TheVariants as kinds
use Rattle.ts_model.proofs.PartsLemmas.{part-slots, parts-rules}
use Rattle.ts_model.proofs.defs.Defs.table.Goals as goal

pub returns-in-RowType-clause-slots : goal.returns-in-RowType-clause-slots
returns-in-RowType-clause-slots c = part-slots kinds.RowType c.args.kind c.self.inside c.args.self.now c.self.invariant c.in-RowType.is c.self.view_is

pub returns-in-RowType-clause-rules : goal.returns-in-RowType-clause-rules
returns-in-RowType-clause-rules c = parts-rules c.self.inside c.args.self.now c.self.invariant c.self.view_is

pub returns-in-Pattern-clause-slots : goal.returns-in-Pattern-clause-slots
returns-in-Pattern-clause-slots c = part-slots kinds.Pattern c.args.kind c.self.inside c.args.self.now c.self.invariant c.in-Pattern.is c.self.view_is

pub returns-in-Pattern-clause-rules : goal.returns-in-Pattern-clause-rules
returns-in-Pattern-clause-rules c = parts-rules c.self.inside c.args.self.now c.self.invariant c.self.view_is

pub returns-in-Calendar-clause-slots : goal.returns-in-Calendar-clause-slots
returns-in-Calendar-clause-slots c = part-slots kinds.Calendar c.args.kind c.self.inside c.args.self.now c.self.invariant c.in-Calendar.is c.self.view_is

pub returns-in-Calendar-clause-rules : goal.returns-in-Calendar-clause-rules
returns-in-Calendar-clause-rules c = parts-rules c.self.inside c.args.self.now c.self.invariant c.self.view_is

pub returns-in-Container-clause-slots : goal.returns-in-Container-clause-slots
returns-in-Container-clause-slots c = part-slots kinds.Container c.args.kind c.self.inside c.args.self.now c.self.invariant c.in-Container.is c.self.view_is

pub returns-in-Container-clause-rules : goal.returns-in-Container-clause-rules
returns-in-Container-clause-rules c = parts-rules c.self.inside c.args.self.now c.self.invariant c.self.view_is

pub returns-in-Series-clause-slots : goal.returns-in-Series-clause-slots
returns-in-Series-clause-slots c = part-slots kinds.Series c.args.kind c.self.inside c.args.self.now c.self.invariant c.in-Series.is c.self.view_is

pub returns-in-Series-clause-rules : goal.returns-in-Series-clause-rules
returns-in-Series-clause-rules c = parts-rules c.self.inside c.args.self.now c.self.invariant c.self.view_is
