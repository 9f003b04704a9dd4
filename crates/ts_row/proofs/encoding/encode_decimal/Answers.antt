-- A number of at most 18 digits has 64 bits.
use Rattle.std.proofs.Common.{◌^◌, ◌<◌, unsigned_abs, sym, subst}
use Rattle.std.specs.Int.{w128}
use Rattle.std.proofs.lemmas.Int.{to_z-of_z}
use Rattle.ts_row.proofs.EncodingLemmas.{short_bound}
use Rattle.ts_row.proofs.encoding.encode_decimal.Goals as goal

pub encode_eight-requires-clause-fits : goal.encode_eight-requires-clause-fits
encode_eight-requires-clause-fits c =
    subst (λ z. unsigned_abs z < 2 ^ 63) (sym (to_z-of_z w128 c.args.number c.ranges.number))
    (short_bound c.args.digits (unsigned_abs c.args.number) c.requires.below c.if-digits-gt-SHORT_DIGITS.false)
