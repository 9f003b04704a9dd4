use Rattle.std.proofs.Common.{◌≡◌, ◌+◌, ◌-◌, ◌*◌, length, take, drop, subst, rules}
use Rattle.ts_container.specs.declared.found.Found.{Found}
use Rattle.ts_container.specs.Reading.{SlotRead}
use Rattle.ts_container.proofs.ReadLemmas.{counted, zeros_to, zeros_from, so_far_none, read_before, so_far_more, page_unresolved, page_bad, page_read, no_zeros}
use Rattle.ts_slots.proofs.ParseLemmas.{both_ways}
use Rattle.ts_container.proofs.definitions.read_page.Goals as goal

pub loop-k-init : goal.loop-k-init
loop-k-init c = so_far_none c.args.defs.now.definitions.format c.args.number c.args.page.now.bytes (c.args.defs.now.definitions, c.args.broken.now.items) c.requires.before

pub read_into-requires-clause-before : goal.read_into-requires-clause-before
read_into-requires-clause-before c =
    read_before c.args.defs.now.definitions.format c.args.number c.loop-k.k c.slot_size-size.result c.args.page.now.bytes c.slots_in_page-on.result (c.args.defs.now.definitions, c.args.broken.now.items)
    (c.loop-k.defs.definitions, c.loop-k.broken.items) (c.loop-k.defs.definitions, c.loop-k.broken.items) c.slots_in_page-on.ensures c.requires.low c.requires.high c.loop-k-test.true c.slot_size-size.ensures.value c.loop-k.invariant

pub loop-k-preserved : goal.loop-k-preserved
loop-k-preserved c =
    so_far_more c.args.defs.now.definitions.format c.args.number c.loop-k.k c.slot_size-size.result c.args.page.now.bytes c.slots_in_page-on.result (c.args.defs.now.definitions, c.args.broken.now.items)
    (c.loop-k.defs.definitions, c.loop-k.broken.items) (c.read_into.new.defs.definitions, c.read_into.new.broken.items) c.slots_in_page-on.ensures c.requires.low c.requires.high c.loop-k-test.true c.slot_size-size.ensures.value c.loop-k.invariant
    (subst (λ (g : Found). SlotRead c.loop-k.defs.definitions.format c.slots_in_page-on.result.kind (c.slots_in_page-on.result.first + c.loop-k.k)
    (take (c.slot_size-size.result * c.loop-k.k + c.slot_size-size.result - c.slot_size-size.result * c.loop-k.k) (drop (c.slot_size-size.result * c.loop-k.k) c.args.page.now.bytes))
    (c.loop-k.defs.definitions, c.loop-k.broken.items) (c.read_into.new.defs.definitions, c.read_into.new.broken.items) g) c.in-Good.is c.in_ok-read_into.ensures)

pub returns-in-Unresolved : goal.returns-in-Unresolved
returns-in-Unresolved c =
    page_unresolved c.args.defs.now.definitions.format c.args.number c.loop-k.k c.slot_size-size.result c.args.page.now.bytes c.slots_in_page-on.result (c.args.defs.now.definitions, c.args.broken.now.items)
    (c.loop-k.defs.definitions, c.loop-k.broken.items) (c.read_into.new.defs.definitions, c.read_into.new.broken.items) c.slots_in_page-on.ensures c.requires.low c.requires.high c.loop-k-test.true c.slot_size-size.ensures.value c.loop-k.invariant
    (subst (λ (g : Found). SlotRead c.loop-k.defs.definitions.format c.slots_in_page-on.result.kind (c.slots_in_page-on.result.first + c.loop-k.k)
    (take (c.slot_size-size.result * c.loop-k.k + c.slot_size-size.result - c.slot_size-size.result * c.loop-k.k) (drop (c.slot_size-size.result * c.loop-k.k) c.args.page.now.bytes))
    (c.loop-k.defs.definitions, c.loop-k.broken.items) (c.read_into.new.defs.definitions, c.read_into.new.broken.items) g) c.in-Unresolved.is c.in_ok-read_into.ensures)

pub returns-in-Bad : goal.returns-in-Bad
returns-in-Bad c =
    page_bad c.args.defs.now.definitions.format c.args.number c.loop-k.k c.slot_size-size.result c.args.page.now.bytes c.slots_in_page-on.result (c.args.defs.now.definitions, c.args.broken.now.items)
    (c.loop-k.defs.definitions, c.loop-k.broken.items) (c.read_into.new.defs.definitions, c.read_into.new.broken.items) c.slots_in_page-on.ensures c.requires.low c.requires.high c.loop-k-test.true c.slot_size-size.ensures.value c.loop-k.invariant
    (subst (λ (g : Found). SlotRead c.loop-k.defs.definitions.format c.slots_in_page-on.result.kind (c.slots_in_page-on.result.first + c.loop-k.k)
    (take (c.slot_size-size.result * c.loop-k.k + c.slot_size-size.result - c.slot_size-size.result * c.loop-k.k) (drop (c.slot_size-size.result * c.loop-k.k) c.args.page.now.bytes))
    (c.loop-k.defs.definitions, c.loop-k.broken.items) (c.read_into.new.defs.definitions, c.read_into.new.broken.items) g) c.in-Bad.is c.in_ok-read_into.ensures)

pub returns-then-not-is_zero : goal.returns-then-not-is_zero
returns-then-not-is_zero c =
    no_zeros c.args.defs.now.definitions.format c.args.number c.args.page.now.bytes (λ zeros.
    both_ways (c.is_zero.ensures.zeros.1 (zeros_to _ _ c.args.page.now.bytes (counted c.args.number c.slot_size-size.result c.slots_in_page-on.result c.slots_in_page-on.ensures c.slot_size-size.ensures.value) zeros)) c.if-not-is_zero.true)

pub returns : goal.returns
returns c =
    let long : length c.args.page.now.bytes ≡ 4096 = search rules in
    page_read c.args.defs.now.definitions.format c.args.number c.loop-k.k c.args.page.now.bytes c.slots_in_page-on.result (c.args.defs.now.definitions, c.args.broken.now.items) (c.loop-k.defs.definitions, c.loop-k.broken.items)
    c.slots_in_page-on.ensures c.requires.low c.requires.high c.loop-k-test.false c.loop-k.auto.k-end c.loop-k.invariant
    (zeros_from _ _ c.args.page.now.bytes (counted c.args.number c.slot_size-size.result c.slots_in_page-on.result c.slots_in_page-on.ensures c.slot_size-size.ensures.value) long (c.is_zero.ensures.zeros.0 c.if-not-is_zero.false))
