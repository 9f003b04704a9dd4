use Rattle.std.proofs.Common.{◌≡◌, length, sym, subst, rules}
use Rattle.ts_slots.proofs.ParseLemmas.{both_ways}
use Rattle.ts_container.specs.Reading.{IsSlot}
use Rattle.ts_container.proofs.ReadLemmas.{piece, slots_more, no_page, page_judged}
use Rattle.ts_container.proofs.judge.is_page_of.Goals as goal

pub returns-then-not-branch : goal.returns-then-not-branch
returns-then-not-branch c =
    no_page c.args.format c.args.number c.loop-k.k c.args.page.now.bytes c.slots_in_page-on.result c.slots_in_page-on.ensures c.requires.low c.requires.high c.loop-k-test.true
    (λ slot. both_ways (c.in_ok-is_slot.ensures.1 (subst (IsSlot c.args.format c.slots_in_page-on.result.kind) (sym (piece c.loop-k.k c.slot_size-size.result c.args.page.now.bytes c.slots_in_page-on.result c.slot_size-size.ensures.value)) slot)) c.if-not-branch.true)

pub loop-k-preserved : goal.loop-k-preserved
loop-k-preserved c =
    slots_more c.args.format c.args.number c.loop-k.k c.args.page.now.bytes c.slots_in_page-on.result c.slots_in_page-on.ensures c.loop-k.invariant
    (subst (IsSlot c.args.format c.slots_in_page-on.result.kind) (piece c.loop-k.k c.slot_size-size.result c.args.page.now.bytes c.slots_in_page-on.result c.slot_size-size.ensures.value) (c.in_ok-is_slot.ensures.0 c.if-not-branch.false))

pub returns : goal.returns
returns c =
    let long : length c.args.page.now.bytes ≡ 4096 = search rules in
    page_judged c.args.format c.args.number c.loop-k.k c.slot_size-size.result c.args.page.now.bytes c.slots_in_page-on.result c.slots_in_page-on.ensures c.requires.low c.requires.high c.loop-k-test.false c.slot_size-size.ensures.value long c.loop-k.invariant
    c.is_zero.result c.is_zero.ensures.zeros.0 c.is_zero.ensures.zeros.1
