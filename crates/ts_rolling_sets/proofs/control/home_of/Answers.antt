use Rattle.ts_rolling_sets.proofs.HomeLemmas.{holder_there}
use Rattle.ts_rolling_sets.proofs.control.home_of.Goals as goal

pub name_of-requires-clause-within : goal.name_of-requires-clause-within
name_of-requires-clause-within c = (holder_there c.args.defs.now.definitions c.requires.tables c.requires.rules c.args.slot c.requires.within c.requires.filled c.container_of-container.result c.container_of-container.ensures).0

pub name_of-requires-clause-filled : goal.name_of-requires-clause-filled
name_of-requires-clause-filled c = (holder_there c.args.defs.now.definitions c.requires.tables c.requires.rules c.args.slot c.requires.within c.requires.filled c.container_of-container.result c.container_of-container.ensures).1
