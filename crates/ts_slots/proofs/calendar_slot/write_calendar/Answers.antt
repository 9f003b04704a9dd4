use Rattle.std.proofs.Common.{sym, ◌∙◌, arith}
use Rattle.ts_layout.specs.Slot.{padded, part_bytes}
use Rattle.ts_slots.specs.Written.{front_bytes}
use Rattle.ts_slots.proofs.PartLemmas.{front}
use Rattle.ts_slots.proofs.CalendarLemmas.{calendar_whole}
use Rattle.ts_slots.proofs.calendar_slot.write_calendar.Goals as goal

pub slice_bounds-write_front-end-2 : goal.slice_bounds-write_front-end-2
slice_bounds-write_front-end-2 c = front 50 c.args.page.now (omega arith)

pub returns-in-Some : goal.returns-in-Some
returns-in-Some c =
    calendar_whole c.args.name.now c.args.calendar.now c.args.by c.args.page.now c.write_front.new.into c.write_by.new.into
    (c.write_front.ensures ∙ (λ i. front_bytes c.args.name.now (c.start.ensures.value i) (c.patt_start.ensures.value i)))
    (c.write_by.ensures ∙ (λ i. padded 4046 (part_bytes c.args.calendar.now.pattern (sym c.in-Some.is i))))
    c.write_front.auto.into c.write_by.auto.into c.requires

pub returns-in-None : goal.returns-in-None
returns-in-None c =
    calendar_whole c.args.name.now c.args.calendar.now c.args.by c.args.page.now c.write_front.new.into c.write_own.new.into
    (c.write_front.ensures ∙ (λ i. front_bytes c.args.name.now (c.start.ensures.value i) (c.patt_start.ensures.value i)))
    (c.write_own.ensures ∙ (λ i. padded 4046 (part_bytes (c.pattern.ensures i) (sym c.in-None.is i))))
    c.write_front.auto.into c.write_own.auto.into c.requires
