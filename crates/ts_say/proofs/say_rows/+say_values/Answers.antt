-- One value, and the byte behind it or a comma and the others.
use Rattle.std.proofs.Common.{ℕ, List, [], ◌∷◌, ◌++◌, length, refl, ap, ◌∙◌, rules}
use Rattle.std.proofs.lemmas.Result.{on_ok_weaker}
use Rattle.ts_row.specs.Row.{scale_of, value_text, values_text}
use Rattle.ts_row.proofs.PrintLemmas.{print_last, print_more, both_some}
use Rattle.ts_say.proofs.say_rows.+say_values.Goals as goal

pub returns-then-is_end-clause-ok : goal.returns-then-is_end-clause-ok
returns-then-is_end-clause-ok t c =
    on_ok_weaker c.say_value.result
    (λ said. said ∙ ap (λ (n : ℕ). c.args.out.now ++ value_text n c.in-Some-split_first.value.now ++ c.args.behind ∷ []) c.scale-scale.ensures
    ∙ ap (λ (l : List ℕ). l ++ c.args.behind ∷ []) (print_last c.args.columns.now c.in-Some.columns.now c.in-Some.column.now c.args.values.now c.in-Some-split_first.values.now c.in-Some-split_first.value.now
    c.args.out.now (c.args.out.now ++ value_text (scale_of c.in-Some.column.now.kind) c.in-Some-split_first.value.now) (search rules) (search rules) (c.is_end.ensures.0 c.if-is_end.true) refl)) c.say_value.ensures.ok

pub returns-clause-ok : goal.returns-clause-ok
returns-clause-ok t c =
    let some = both_some (length c.in-Some.columns.now) (length c.in-Some-split_first.values.now) _ c.is_end.ensures.1 c.if-is_end.false in
    on_ok_weaker c.say_values.result
    (λ is. is ∙ ap (λ (l : List ℕ). l ++ c.args.behind ∷ []) (print_more c.args.columns.now c.in-Some.columns.now c.in-Some.column.now c.args.values.now c.in-Some-split_first.values.now c.in-Some-split_first.value.now
    c.args.out.now (c.args.out.now ++ value_text (scale_of c.in-Some.column.now.kind) c.in-Some-split_first.value.now) c.say_value-2.new.out (c.say_value-2.new.out ++ values_text c.in-Some.columns.now c.in-Some-split_first.values.now)
    (search rules) (search rules) some.0 some.1 refl
    (c.in_ok-say_value.ensures.ok ∙ ap (λ (n : ℕ). c.args.out.now ++ value_text n c.in-Some-split_first.value.now ++ 44 ∷ []) c.scale-scale.ensures) refl)) c.say_values.ensures.ok
