use Rattle.std.proofs.Common.{sym, ap, ◌∙◌, arith}
use Rattle.ts_layout.specs.Slot.{padded}
use Rattle.ts_slots.specs.declared.calendar_slot.Part.{Part}
use Rattle.ts_slots.specs.Written.{said_bytes}
use Rattle.ts_slots.proofs.PartLemmas.{parts, front}
use Rattle.ts_slots.proofs.calendar_slot.CalendarForm.write.Goals as goal

pub slice_bounds-write_front-end-2 : goal.slice_bounds-write_front-end-2
slice_bounds-write_front-end-2 c = front 50 c.args.page.now (omega arith)

pub returns-in-By : goal.returns-in-By
returns-in-By c =
    parts 50 c.args.page.now c.write_front.new.into c.write_by.new.into _ _ c.write_front.ensures
    (c.write_by.ensures ∙ ap (λ (part : Part). padded 4046 (said_bytes part)) (sym c.in-By.is)) c.write_front.auto.into c.write_by.auto.into (omega arith)

pub returns-in-Own : goal.returns-in-Own
returns-in-Own c =
    parts 50 c.args.page.now c.write_front.new.into c.write_own.new.into _ _ c.write_front.ensures
    (c.write_own.ensures ∙ ap (λ (part : Part). padded 4046 (said_bytes part)) (sym c.in-Own.is)) c.write_front.auto.into c.write_own.auto.into (omega arith)
