use Rattle.ts_model.specs.declared.kind.Kind.TheVariants.{Calendar}
use Rattle.ts_answer.proofs.CallerLemmas.{calendar_tried}
use Rattle.ts_define.proofs.calendars.calendar_slot.Goals as goal

pub returns-clause-tried : goal.returns-clause-tried
returns-clause-tried c count l by = calendar_tried Calendar c.args.defs.now.definitions count l by c.args.name.now _ (c.slot_named.ensures.tried count l by)
