use Rattle.std.proofs.Common.{◌∷◌, ◌++◌, [], ap, ◌∙◌, arith}
use Rattle.std.proofs.lemmas.Result.{on_ok_weaker}
use Rattle.ts_row.specs.declared.value.Value.{Value}
use Rattle.ts_row.specs.Row.{scale_of, value_text}
use Rattle.ts_say.proofs.BytesLemmas.{null_there}
use Rattle.ts_say.proofs.say_bytes.say_value_in.Goals as goal

pub returns-then-flag-eq0-clause-ok : goal.returns-then-flag-eq0-clause-ok
returns-then-flag-eq0-clause-ok c =
    on_ok_weaker c.say_null.result
    (λ said value is. said ∙ ap (λ (v : Value). c.args.out.now ++ value_text (scale_of c.args.kind.now) v ++ c.args.behind ∷ [])
    (null_there c.args.kind.now c.args.cell.now c.in-Some.flag.now c.in-Some.bytes.now value c.in-Some.ensures.cases.0 (omega (arith, c.if-flag-eq0.true)) is))
    c.say_null.ensures.ok
