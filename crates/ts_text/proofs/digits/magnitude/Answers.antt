use Rattle.std.proofs.Common.{arith, sym}
use Rattle.std.proofs.lemmas.List.{take_all}
use Rattle.ts_text.proofs.DigitLemmas.{digit_room, whole_room}
use Rattle.ts_text.proofs.digits.magnitude.Goals as goal

pub overflow_mul-value : goal.overflow_mul-value
overflow_mul-value c =
    let room = digit_room c.loop-byte.value c.args.token.now c.loop-byte.byte-index c.loop-byte.invariant.bound c.requires c.loop-byte-test.true (sym c.if-is_ascii_digit.ensures.value) c.if-is_ascii_digit.ensures.cases.1 in
    omega (arith, room)

pub overflow_add-value : goal.overflow_add-value
overflow_add-value c =
    let room = digit_room c.loop-byte.value c.args.token.now c.loop-byte.byte-index c.loop-byte.invariant.bound c.requires c.loop-byte-test.true (sym c.if-is_ascii_digit.ensures.value) c.if-is_ascii_digit.ensures.cases.1 in
    omega (arith, room, c.from.ensures)

pub returns-clause-bound : goal.returns-clause-bound
returns-clause-bound c = rw (take_all c.loop-byte.byte-index c.args.token.now (omega arith)) at c.loop-byte.invariant.bound

pub returns-clause-most : goal.returns-clause-most
returns-clause-most c = whole_room c.loop-byte.value c.args.token.now c.loop-byte.byte-index c.loop-byte.invariant.bound c.requires
