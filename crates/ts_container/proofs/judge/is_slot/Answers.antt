use Rattle.std.proofs.Common.{refl, subst}
use Rattle.ts_slots.specs.declared.slot.Reading.{Reading}
use Rattle.ts_slots.specs.Reading.{IsReadingOf}
use Rattle.ts_container.proofs.SlotReadLemmas.{is_slot}
use Rattle.ts_container.proofs.judge.is_slot.Goals as goal

pub returns-in-Filled : goal.returns-in-Filled
returns-in-Filled c = (
  λ told. is_slot c.args.format c.args.kind c.args.bytes.now c.in-Filled.written
      (subst (λ (r : Reading). IsReadingOf c.args.format c.args.kind c.args.bytes.now r) c.in-Filled.is c.in_ok-read_slot.ensures) (c.has_definition.ensures c.args.format),
  λ is. refl,
)
