use Rattle.ts_model.specs.declared.kind.Kind.TheVariants.{Pattern}
use Rattle.ts_define.proofs.PatternLemmas.{filled}
use Rattle.ts_define.proofs.patterns.pattern_named.Goals as goal

pub pattern_at-requires-clause-filled : goal.pattern_at-requires-clause-filled
pattern_at-requires-clause-filled c = filled Pattern c.in_ok-slot.slot c.args.name.now c.args.defs.now.definitions c.in_ok-slot.ensures.found
