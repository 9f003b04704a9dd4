use Rattle.std.proofs.Common.{ℕ, refl, subst}
use Rattle.std.proofs.lemmas.Result.{IfOk-weaker}
use Rattle.ts_slots.specs.declared.slot.Reading.{Reading}
use Rattle.ts_slots.specs.Reading.{IsReadingOf}
use Rattle.ts_container.proofs.SlotReadLemmas.{slot_read, empty_read}
use Rattle.ts_container.proofs.definitions.read_into.Goals as goal

pub returns-in-Empty : goal.returns-in-Empty
returns-in-Empty c =
    empty_read c.args.defs.now.definitions.format c.args.kind c.args.slot c.args.bytes.now c.args.defs.now.definitions c.args.broken.now.items c.requires.slot
    (subst (λ (r : Reading). IsReadingOf c.args.defs.now.definitions.format c.args.kind c.args.bytes.now r) c.in-Empty.is
    (subst (λ (n : ℕ). IsReadingOf n c.args.kind c.args.bytes.now c.in_ok-read_slot.field-0) c.format.ensures.value c.in_ok-read_slot.ensures)) c.requires.before

pub returns-in-Bad : goal.returns-in-Bad
returns-in-Bad c = λ slot.
    subst (λ (r : Reading). IsReadingOf c.args.defs.now.definitions.format c.args.kind c.args.bytes.now r) c.in-Bad.is
    (subst (λ (n : ℕ). IsReadingOf n c.args.kind c.args.bytes.now c.in_ok-read_slot.field-0) c.format.ensures.value c.in_ok-read_slot.ensures) slot.0 slot.1 slot.2

pub returns-in-Filled : goal.returns-in-Filled
returns-in-Filled c =
    IfOk-weaker c.admit.result _ _
    (λ g put. slot_read c.args.defs.now.definitions.format c.args.kind c.args.slot c.args.bytes.now c.in-Filled.written c.args.defs.now.definitions c.args.broken.now.items c.requires.slot
    (subst (λ (r : Reading). IsReadingOf c.args.defs.now.definitions.format c.args.kind c.args.bytes.now r) c.in-Filled.is
    (subst (λ (n : ℕ). IsReadingOf n c.args.kind c.args.bytes.now c.in_ok-read_slot.field-0) c.format.ensures.value c.in_ok-read_slot.ensures))
    (c.has_definition.ensures c.args.defs.now.definitions.format) refl c.requires.before g (c.admit.new.defs.definitions, c.admit.new.broken.items) put)
    c.admit.ensures
