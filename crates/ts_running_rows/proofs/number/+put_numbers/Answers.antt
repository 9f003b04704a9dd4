-- The first number, and the others.
use Rattle.std.proofs.Common.{ℕ, take, drop, ap, ◌∙◌, arith, rules}
use Rattle.std.proofs.lemmas.Grind.{common_steps}
use Rattle.std.proofs.lemmas.Result.{on_ok_weaker}
use Rattle.ts_running_rows.proofs.NumberLemmas.{numbers_more, no_numbers}
use Rattle.ts_running_rows.proofs.number.+put_numbers.Goals as goal

pub returns : goal.returns
returns t c =
    on_ok_weaker c.put_numbers.result
    (λ more values is. numbers_more c.args.columns.now c.in-Some.others.now c.in-Some.first.now c.args.bytes.now c.split_at.result.0.now c.split_at.result.1.now
    values (search rules)
    (c.split_at.ensures.front ∙ ap (λ (w : ℕ). take w c.args.bytes.now) c.width.ensures) (c.split_at.ensures.back ∙ ap (λ (w : ℕ). drop w c.args.bytes.now) c.width.ensures)
    is c.operand_of_cell.result c.args.numbers.now.items c.push.new.self.items c.put_numbers.new.numbers.items c.operand_of_cell.ensures c.in_ok-push.ensures.items more)
    c.put_numbers.ensures
