-- The first column, or one of the others.
use Rattle.std.proofs.Common.{ℕ, take, drop, ap, ◌∙◌, arith, rules}
use Rattle.ts_running_rows.proofs.NumberLemmas.{place_first, place_more}
use Rattle.ts_running_rows.proofs.number.+place_at.Goals as goal

pub returns-then-column-gt0-clause-value : goal.returns-then-column-gt0-clause-value
returns-then-column-gt0-clause-value t c = λ values is.
    place_more c.args.columns.now c.in-Some.others.now c.in-Some.first.now c.args.bytes.now c.split_at.result.0.now c.split_at.result.1.now
    values (search rules)
    (c.split_at.ensures.front ∙ ap (λ (w : ℕ). take w c.args.bytes.now) c.width.ensures) (c.split_at.ensures.back ∙ ap (λ (w : ℕ). drop w c.args.bytes.now) c.width.ensures)
    is c.args.column c.place_at.result c.if-column-gt0.true c.place_at.ensures.value

pub returns-clause-value : goal.returns-clause-value
returns-clause-value t c = λ values is.
    place_first c.args.columns.now c.in-Some.others.now c.in-Some.first.now c.args.bytes.now c.split_at.result.0.now c.split_at.result.1.now
    values (search rules)
    (c.split_at.ensures.front ∙ ap (λ (w : ℕ). take w c.args.bytes.now) c.width.ensures) (c.split_at.ensures.back ∙ ap (λ (w : ℕ). drop w c.args.bytes.now) c.width.ensures)
    is c.args.column c.place_of_cell.result (omega (arith, c.if-column-gt0.false)) c.place_of_cell.ensures.value
