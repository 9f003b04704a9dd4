-- NULL, a comma and the others.
use Rattle.std.proofs.Common.{ℕ, List, [], ◌∷◌, ◌++◌, length, replicate, refl, ap, ◌∙◌, arith}
use Rattle.std.proofs.lemmas.Grind.{common_steps}
use Rattle.std.proofs.lemmas.Result.{on_ok_weaker}
use Rattle.ts_row.specs.declared.value.Value.TheVariants.{Null}
use Rattle.ts_row.specs.Row.{value_text, values_text}
use Rattle.ts_say.proofs.RowsLemmas.{nulls_said}
use Rattle.ts_say.proofs.say_rows.+say_nulls.Goals as goal

pub returns-clause-ok : goal.returns-clause-ok
returns-clause-ok t c =
    on_ok_weaker c.say_nulls.result
    (λ is. is ∙ ap (λ (l : List ℕ). l ++ c.args.behind ∷ []) (nulls_said c.args.columns.now c.in-Some.columns.now c.in-Some.field-0-0.now c.args.out.now (c.args.out.now ++ value_text 0 Null) c.say_null-2.new.out
    (c.say_null-2.new.out ++ values_text c.in-Some.columns.now (replicate (length c.in-Some.columns.now) Null))
    c.in-Some.ensures.cases.0 (grind (arith, common_steps)) refl c.in_ok-say_null.ensures.ok refl))
    c.say_nulls.ensures.ok
