-- At most ten digits stay below 64 bits.
use Rattle.std.proofs.Common.{◌≡◌, ◌^◌, ◌<◌, length, ◌∙◌, sym, ap, Some, arith, true}
use Rattle.std.proofs.lemmas.Bool.{le-leb}
use Rattle.ts_base.specs.Moment.{number_of, all_digits}
use Rattle.ts_text.proofs.CallerLemmas.{digits_kept, ten_room}
use Rattle.ts_shell.proofs.words.read_decimal.Goals as goal

pub overflow_cast-result : goal.overflow_cast-result
overflow_cast-result c =
    let below : c.magnitude-number.result < 10 ^ 10 = ten_room c.magnitude-number.result c.args.text.now c.magnitude-number.ensures.bound c.if-text-le10.true in
    omega (arith, below)

pub returns-then-are_digits : goal.returns-then-are_digits
returns-then-are_digits c =
    let digits : all_digits c.args.text.now ≡ true = sym c.are_digits.ensures ∙ c.if-are_digits.true in
    let some = le-leb 1 (length c.args.text.now) c.if-text-ge1.true in
    let few = le-leb (length c.args.text.now) 10 c.if-text-le10.true in
    rw some (rw few (rw digits (ap Some (c.magnitude-number.ensures.value ∙ ap number_of (digits_kept c.args.text.now digits)))))
