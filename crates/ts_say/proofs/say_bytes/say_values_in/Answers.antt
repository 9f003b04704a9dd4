-- The value of one column and a line feed.
use Rattle.std.proofs.Common.{arith}
use Rattle.std.proofs.lemmas.Grind.{common_steps}
use Rattle.std.proofs.lemmas.Result.{on_ok_weaker}
use Rattle.ts_say.proofs.BytesLemmas.{whole_last, last_said}
use Rattle.ts_say.proofs.say_bytes.say_values_in.Goals as goal

pub say_value_in-requires-clause-size : goal.say_value_in-requires-clause-size
say_value_in-requires-clause-size c =
    (whole_last c.args.columns.now c.in-Some.others.now c.in-Some.column.now c.args.bytes.now c.in-Some.ensures.cases.0 (grind (arith, common_steps)) c.requires.size).0

pub returns-then-is_empty-clause-ok : goal.returns-then-is_empty-clause-ok
returns-then-is_empty-clause-ok c =
    on_ok_weaker c.say_value_in.result
    (λ one values is. last_said c.args.columns.now c.in-Some.others.now c.in-Some.column.now c.args.bytes.now c.args.bytes.now
    c.args.out.now c.say_value_in.new.out values c.in-Some.ensures.cases.0 (grind (arith, common_steps))
    (whole_last c.args.columns.now c.in-Some.others.now c.in-Some.column.now c.args.bytes.now c.in-Some.ensures.cases.0 (grind (arith, common_steps)) c.requires.size).1
    one is) c.say_value_in.ensures.ok
