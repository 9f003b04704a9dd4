-- One column's value, and those of the others.
use Rattle.std.proofs.Common.{◌-◌, ℕ, List, is_some, sym, ap, ◌∙◌}
use Rattle.ts_row.specs.Decoding.{values_in}
use Rattle.ts_row.proofs.DecodingLemmas.{judge_more, judge_none, at_end}
use Rattle.ts_row.proofs.judging.+are_values.Goals as goal

pub returns-then-not-is_value : goal.returns-then-not-is_value
returns-then-not-is_value t c =
    ap is_some (sym (judge_none c.args.columns.now c.in-Some.columns.now c.in-Some.column.now c.args.flag _ c.args.behind.now c.split_at.result.0.now c.is_value.result
    c.in-Some.ensures.cases.0 (ap (λ w. w - 1) c.width-size.ensures) c.if-behind-size.false c.split_at.ensures.front c.is_value.ensures c.if-not-is_value.true))

pub returns-in_default-split_first : goal.returns-in_default-split_first
returns-in_default-split_first t c =
    judge_more c.args.columns.now c.in-Some.columns.now c.in-Some.column.now c.args.flag _ c.args.behind.now c.split_at.result.0.now c.split_at.result.1.now c.is_value.result c.is_empty.result
    c.in-Some.ensures.cases.0 (ap (λ w. w - 1) c.width-size.ensures) c.if-behind-size.false c.split_at.ensures.front c.split_at.ensures.back c.is_value.ensures c.if-not-is_value.false
    (at_end c.in-Some.columns.now c.split_at.result.1.now c.is_empty.result c.in_default-split_first.ensures.cases c.is_empty.ensures)

pub returns : goal.returns
returns t c =
    judge_more c.args.columns.now c.in-Some.columns.now c.in-Some.column.now c.args.flag _ c.args.behind.now c.split_at.result.0.now c.split_at.result.1.now c.is_value.result c.are_values.result
    c.in-Some.ensures.cases.0 (ap (λ w. w - 1) c.width-size.ensures) c.if-behind-size.false c.split_at.ensures.front c.split_at.ensures.back c.is_value.ensures c.if-not-is_value.false
    (c.are_values.ensures ∙ ap (λ (l : List ℕ). is_some (values_in c.in-Some.columns.now l)) (sym c.in-Some-split_first.ensures.cases.0))
