-- One column's value, and those of the others.
use Rattle.std.proofs.Common.{◌-◌, ◌∷◌, is_some, sym, ap, ◌∙◌, refl}
use Rattle.std.proofs.lemmas.Result.{IfOk-weaker}
use Rattle.ts_row.specs.Decoding.{values_in}
use Rattle.ts_row.proofs.DecodingLemmas.{judge_none, decode_more, decoded_end, decoded_none}
use Rattle.ts_row.proofs.decoding.+decode_values.Goals as goal

pub returns-in_default-2 : goal.returns-in_default-2
returns-in_default-2 t c =
    decoded_none (values_in c.args.columns.now (c.args.flag ∷ c.args.behind.now)) c.args.values.now.items _
    (judge_none c.args.columns.now c.in-Some.columns.now c.in-Some.column.now c.args.flag _ c.args.behind.now c.split_at.result.0.now _
    c.in-Some.ensures.cases.0 (ap (λ w. w - 1) c.width-size.ensures) c.if-behind-size.false c.split_at.ensures.front (ap is_some (sym c.in_default-2.is ∙ c.in_ok-value.ensures)) refl)

pub returns-in_default-split_first : goal.returns-in_default-split_first
returns-in_default-split_first t c =
    decode_more c.args.columns.now c.in-Some.columns.now c.in-Some.column.now c.args.flag _ c.args.behind.now c.split_at.result.0.now c.split_at.result.1.now c.in-Some-2.value c.is_empty.result c.args.values.now.items c.push.new.self.items c.push.new.self.items
    c.in-Some.ensures.cases.0 (ap (λ w. w - 1) c.width-size.ensures) c.if-behind-size.false c.split_at.ensures.front c.split_at.ensures.back (sym c.in-Some-2.is ∙ c.in_ok-value.ensures) c.in_ok-push.ensures.items
    (decoded_end c.in-Some.columns.now c.split_at.result.1.now c.is_empty.result c.push.new.self.items c.in_default-split_first.ensures.cases c.is_empty.ensures)

pub returns : goal.returns
returns t c =
    IfOk-weaker c.decode_values.result _ _
    (λ found others. decode_more c.args.columns.now c.in-Some.columns.now c.in-Some.column.now c.args.flag _ c.args.behind.now c.split_at.result.0.now
    (c.in-Some-split_first.flag.now ∷ c.in-Some-split_first.behind.now) c.in-Some-2.value found c.args.values.now.items _ _
    c.in-Some.ensures.cases.0 (ap (λ w. w - 1) c.width-size.ensures) c.if-behind-size.false c.split_at.ensures.front (sym c.in-Some-split_first.ensures.cases.0 ∙ c.split_at.ensures.back)
    (sym c.in-Some-2.is ∙ c.in_ok-value.ensures) c.in_ok-push.ensures.items others) c.decode_values.ensures
