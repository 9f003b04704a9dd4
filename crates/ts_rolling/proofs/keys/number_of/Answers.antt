use Rattle.ts_rolling.proofs.DigitLemmas.{digit_room, digit_at}
use Rattle.ts_rolling.proofs.keys.number_of.Goals as goal

pub overflow_mul-n : goal.overflow_mul-n
overflow_mul-n c =
    (digit_room c.loop-c.n c.loop-c.c-index _ _ c.loop-c.invariant.bound c.loop-c-test.true c.requires.short (digit_at c.args.text.now c.loop-c.c-index c.requires.digits c.loop-c-test.true)).0

pub overflow_add-n : goal.overflow_add-n
overflow_add-n c =
    (digit_room c.loop-c.n c.loop-c.c-index _ _ c.loop-c.invariant.bound c.loop-c-test.true c.requires.short (digit_at c.args.text.now c.loop-c.c-index c.requires.digits c.loop-c-test.true)).1
