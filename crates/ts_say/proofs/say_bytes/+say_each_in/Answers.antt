-- One value, and a line feed or a comma and the others.
use Rattle.std.proofs.Common.{ℕ, take, drop, ap, ◌∙◌, arith}
use Rattle.std.proofs.lemmas.Grind.{common_steps}
use Rattle.std.proofs.lemmas.Result.{on_ok_weaker}
use Rattle.ts_say.proofs.BytesLemmas.{last_said, more_said}
use Rattle.ts_say.proofs.say_bytes.+say_each_in.Goals as goal

pub returns-then-is_empty-clause-ok : goal.returns-then-is_empty-clause-ok
returns-then-is_empty-clause-ok t c =
    on_ok_weaker c.say_value_in.result
    (λ one values is. last_said c.args.columns.now c.in-Some.columns.now c.in-Some.column.now c.args.bytes.now c.split_at.result.0.now
    c.args.out.now c.say_value_in.new.out values c.in-Some.ensures.cases.0 (grind (arith, common_steps))
    (c.split_at.ensures.front ∙ ap (λ (w : ℕ). take w c.args.bytes.now) c.width.ensures) one is) c.say_value_in.ensures.ok

pub returns-clause-ok : goal.returns-clause-ok
returns-clause-ok t c =
    on_ok_weaker c.say_each_in.result
    (λ others values is. more_said c.args.columns.now c.in-Some.columns.now c.in-Some.column.now c.args.bytes.now c.split_at.result.0.now c.split_at.result.1.now
    c.args.out.now c.say_value_in-2.new.out c.say_each_in.new.out values c.in-Some.ensures.cases.0 (grind (arith, common_steps))
    (c.split_at.ensures.front ∙ ap (λ (w : ℕ). take w c.args.bytes.now) c.width.ensures) (c.split_at.ensures.back ∙ ap (λ (w : ℕ). drop w c.args.bytes.now) c.width.ensures)
    c.in_ok-say_value_in.ensures.ok others is) c.say_each_in.ensures.ok
