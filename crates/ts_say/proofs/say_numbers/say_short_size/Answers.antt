-- What stands before the point, and the point; then the digits behind it.
use Rattle.std.proofs.Common.{arith}
use Rattle.std.proofs.lemmas.Result.{on_ok_weaker}
use Rattle.ts_say.proofs.NumberLemmas.{said_with}
use Rattle.ts_say.proofs.say_numbers.say_short_size.Goals as goal

pub returns-clause-ok : goal.returns-clause-ok
returns-clause-ok c =
    on_ok_weaker c.say_fraction.result
    (said_with c.args.scale c.args.size c.short_power-one.result c.args.behind c.args.out.now c.say_size-2.new.out c.say_fraction.new.out c.short_power-one.ensures c.if-scale-eq0.false (omega arith)
    c.in_ok-say_size.ensures.ok)
    c.say_fraction.ensures.ok
