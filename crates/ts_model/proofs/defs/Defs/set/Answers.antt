use Rattle.ts_model.specs.declared.kind.Kind.TheVariants as kinds
use Rattle.ts_model.proofs.PartsLemmas.{part-name, part-has-room, part-kept, part-slot}
use Rattle.ts_model.proofs.defs.Defs.set.Goals as goal

pub set-requires-clause-name : goal.set-requires-clause-name
set-requires-clause-name c = part-name kinds.RowType c.args.kind c.self.inside c.args.self.now c.self.invariant c.in-RowType.is c.self.view_is c.args.slot c.args.def c.requires.name

pub set-requires-clause-room : goal.set-requires-clause-room
set-requires-clause-room c = part-has-room kinds.RowType c.args.kind c.self.inside c.args.self.now c.self.invariant c.in-RowType.is c.self.view_is c.args.slot c.args.def c.requires.room

pub invariant_of-self : goal.invariant_of-self
invariant_of-self c = part-kept kinds.RowType c.args.kind c.self.inside c.args.self.now c.self.invariant c.in-RowType.is c.self.view_is c.args.slot c.args.def c.set.new.self c.requires.slot c.requires.kind c.requires.name c.set.ensures

pub returns-in-RowType-clause-slot : goal.returns-in-RowType-clause-slot
returns-in-RowType-clause-slot c = part-slot kinds.RowType c.args.kind c.self.inside c.args.self.now c.self.invariant c.in-RowType.is c.self.view_is c.args.slot c.args.def c.set.new.self c.set.ensures

pub set-requires-in-Pattern-clause-name : goal.set-requires-in-Pattern-clause-name
set-requires-in-Pattern-clause-name c = part-name kinds.Pattern c.args.kind c.self.inside c.args.self.now c.self.invariant c.in-Pattern.is c.self.view_is c.args.slot c.args.def c.requires.name

pub set-requires-in-Pattern-clause-room : goal.set-requires-in-Pattern-clause-room
set-requires-in-Pattern-clause-room c = part-has-room kinds.Pattern c.args.kind c.self.inside c.args.self.now c.self.invariant c.in-Pattern.is c.self.view_is c.args.slot c.args.def c.requires.room

pub invariant_of-self-in-Pattern : goal.invariant_of-self-in-Pattern
invariant_of-self-in-Pattern c = part-kept kinds.Pattern c.args.kind c.self.inside c.args.self.now c.self.invariant c.in-Pattern.is c.self.view_is c.args.slot c.args.def c.set-in-Pattern.new.self c.requires.slot c.requires.kind c.requires.name c.set-in-Pattern.ensures

pub returns-in-Pattern-clause-slot : goal.returns-in-Pattern-clause-slot
returns-in-Pattern-clause-slot c = part-slot kinds.Pattern c.args.kind c.self.inside c.args.self.now c.self.invariant c.in-Pattern.is c.self.view_is c.args.slot c.args.def c.set-in-Pattern.new.self c.set-in-Pattern.ensures

pub set-requires-in-Calendar-clause-name : goal.set-requires-in-Calendar-clause-name
set-requires-in-Calendar-clause-name c = part-name kinds.Calendar c.args.kind c.self.inside c.args.self.now c.self.invariant c.in-Calendar.is c.self.view_is c.args.slot c.args.def c.requires.name

pub set-requires-in-Calendar-clause-room : goal.set-requires-in-Calendar-clause-room
set-requires-in-Calendar-clause-room c = part-has-room kinds.Calendar c.args.kind c.self.inside c.args.self.now c.self.invariant c.in-Calendar.is c.self.view_is c.args.slot c.args.def c.requires.room

pub invariant_of-self-in-Calendar : goal.invariant_of-self-in-Calendar
invariant_of-self-in-Calendar c = part-kept kinds.Calendar c.args.kind c.self.inside c.args.self.now c.self.invariant c.in-Calendar.is c.self.view_is c.args.slot c.args.def c.set-in-Calendar.new.self c.requires.slot c.requires.kind c.requires.name c.set-in-Calendar.ensures

pub returns-in-Calendar-clause-slot : goal.returns-in-Calendar-clause-slot
returns-in-Calendar-clause-slot c = part-slot kinds.Calendar c.args.kind c.self.inside c.args.self.now c.self.invariant c.in-Calendar.is c.self.view_is c.args.slot c.args.def c.set-in-Calendar.new.self c.set-in-Calendar.ensures

pub set-requires-in-Container-clause-name : goal.set-requires-in-Container-clause-name
set-requires-in-Container-clause-name c = part-name kinds.Container c.args.kind c.self.inside c.args.self.now c.self.invariant c.in-Container.is c.self.view_is c.args.slot c.args.def c.requires.name

pub set-requires-in-Container-clause-room : goal.set-requires-in-Container-clause-room
set-requires-in-Container-clause-room c = part-has-room kinds.Container c.args.kind c.self.inside c.args.self.now c.self.invariant c.in-Container.is c.self.view_is c.args.slot c.args.def c.requires.room

pub invariant_of-self-in-Container : goal.invariant_of-self-in-Container
invariant_of-self-in-Container c = part-kept kinds.Container c.args.kind c.self.inside c.args.self.now c.self.invariant c.in-Container.is c.self.view_is c.args.slot c.args.def c.set-in-Container.new.self c.requires.slot c.requires.kind c.requires.name c.set-in-Container.ensures

pub returns-in-Container-clause-slot : goal.returns-in-Container-clause-slot
returns-in-Container-clause-slot c = part-slot kinds.Container c.args.kind c.self.inside c.args.self.now c.self.invariant c.in-Container.is c.self.view_is c.args.slot c.args.def c.set-in-Container.new.self c.set-in-Container.ensures

pub set-requires-in-Series-clause-name : goal.set-requires-in-Series-clause-name
set-requires-in-Series-clause-name c = part-name kinds.Series c.args.kind c.self.inside c.args.self.now c.self.invariant c.in-Series.is c.self.view_is c.args.slot c.args.def c.requires.name

pub set-requires-in-Series-clause-room : goal.set-requires-in-Series-clause-room
set-requires-in-Series-clause-room c = part-has-room kinds.Series c.args.kind c.self.inside c.args.self.now c.self.invariant c.in-Series.is c.self.view_is c.args.slot c.args.def c.requires.room

pub invariant_of-self-in-Series : goal.invariant_of-self-in-Series
invariant_of-self-in-Series c = part-kept kinds.Series c.args.kind c.self.inside c.args.self.now c.self.invariant c.in-Series.is c.self.view_is c.args.slot c.args.def c.set-in-Series.new.self c.requires.slot c.requires.kind c.requires.name c.set-in-Series.ensures

pub returns-in-Series-clause-slot : goal.returns-in-Series-clause-slot
returns-in-Series-clause-slot c = part-slot kinds.Series c.args.kind c.self.inside c.args.self.now c.self.invariant c.in-Series.is c.self.view_is c.args.slot c.args.def c.set-in-Series.new.self c.set-in-Series.ensures
