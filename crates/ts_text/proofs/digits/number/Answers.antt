use Rattle.std.proofs.Common.{◌∙◌, ap, arith}
use Rattle.ts_base.specs.Moment.{number_of}
use Rattle.ts_text.proofs.DigitLemmas.{nine_room, digits-le, digits_kept}
use Rattle.ts_text.proofs.digits.number.Goals as goal

pub magnitude-number-requires : goal.magnitude-number-requires
magnitude-number-requires c = omega (arith, digits-le c.args.digits.now, c.requires.few)

pub overflow_cast-result : goal.overflow_cast-result
overflow_cast-result c = omega (arith, nine_room c.magnitude-number.result c.args.digits.now c.magnitude-number.ensures.bound c.requires.few)

pub returns-clause-value : goal.returns-clause-value
returns-clause-value c = c.magnitude-number.ensures.value ∙ ap number_of (digits_kept c.args.digits.now c.requires.digits)

pub returns-clause-bound : goal.returns-clause-bound
returns-clause-bound c = nine_room c.magnitude-number.result c.args.digits.now c.magnitude-number.ensures.bound c.requires.few
