use Rattle.std.proofs.Common.{◌+◌, arith}
use Rattle.jiff_core.proofs.SignedLemmas.{signed_casts}
use Rattle.ts_offset.proofs.SpanLemmas.{until-rises}
use Rattle.ts_offset.proofs.sums.Sums.counted.Goals as goal

pub overflow_sub-result : goal.overflow_sub-result
overflow_sub-result c =
    let x = c.args.self.now in
    let f = x.facts in
    let some = until-rises x.calendar.pattern.runs (x.place + c.known.result) (x.place + x.existing) (omega (arith, f.whole, f.round_is)) (omega (arith, c.known.ensures.few)) in
    omega (arith, some, c.until-before.ensures.value, c.until.ensures.value)

pub returns-clause-counted : goal.returns-clause-counted
returns-clause-counted c =
    let x = c.args.self.now in
    let f = x.facts in
    let some = until-rises x.calendar.pattern.runs (x.place + c.known.result) (x.place + x.existing) (omega (arith, f.whole, f.round_is)) (omega (arith, c.known.ensures.few)) in
    record {
      near = (omega (arith, signed_casts, c.requires), omega (arith, signed_casts, c.requires));
      known = c.known.result;
      is_known = c.known.ensures;
      before_is = c.until-before.ensures.value;
      left_is = omega (arith, some, c.until-before.ensures.value, c.until.ensures.value);
      few = omega (arith, some, c.until-before.ensures.value, c.until.ensures.value, c.until.ensures.few);
    }
