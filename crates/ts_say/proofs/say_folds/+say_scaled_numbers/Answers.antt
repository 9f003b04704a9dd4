-- One number, and a line feed or a comma and the others.
use Rattle.std.proofs.Common.{ℕ, List, [], ◌∷◌, ◌++◌, length, map, refl, ap, ◌∙◌, rules}
use Rattle.std.proofs.lemmas.Result.{on_ok_weaker}
use Rattle.ts_row.specs.Row.{value_text}
use Rattle.ts_row.proofs.PrintLemmas.{both_some}
use Rattle.ts_running.specs.Binding.{value_if_any}
use Rattle.ts_answer.specs.Reply.{scaled_text}
use Rattle.ts_say.proofs.FoldsLemmas.{last_number, more_numbers}
use Rattle.ts_say.proofs.say_folds.+say_scaled_numbers.Goals as goal

pub returns-then-is_end-clause-ok : goal.returns-then-is_end-clause-ok
returns-then-is_end-clause-ok t c =
    on_ok_weaker c.say_number_if_any.result
    (λ said. said ∙ ap (λ (l : List ℕ). l ++ 10 ∷ []) (last_number c.args.scales.now c.in-Some.scales.now c.in-Some.scale.now c.args.numbers.now c.in-Some-split_first.numbers.now c.in-Some-split_first.number.now
    c.args.out.now (c.args.out.now ++ value_text c.in-Some.scale.now (value_if_any c.in-Some-split_first.number.now)) (search rules) (search rules) (c.is_end.ensures.0 c.if-is_end.true) refl)) c.say_number_if_any.ensures.ok

pub returns-clause-ok : goal.returns-clause-ok
returns-clause-ok t c =
    let some = both_some (length c.in-Some.scales.now) (length c.in-Some-split_first.numbers.now) _ c.is_end.ensures.1 c.if-is_end.false in
    on_ok_weaker c.say_scaled_numbers.result
    (λ is. is ∙ ap (λ (l : List ℕ). l ++ 10 ∷ []) (more_numbers c.args.scales.now c.in-Some.scales.now c.in-Some.scale.now c.args.numbers.now c.in-Some-split_first.numbers.now c.in-Some-split_first.number.now
    c.args.out.now (c.args.out.now ++ value_text c.in-Some.scale.now (value_if_any c.in-Some-split_first.number.now)) c.say_number_if_any-2.new.out (c.say_number_if_any-2.new.out ++ scaled_text c.in-Some.scales.now (map value_if_any c.in-Some-split_first.numbers.now))
    (search rules) (search rules) some.0 some.1 refl c.in_ok-say_number_if_any.ensures.ok refl)) c.say_scaled_numbers.ensures.ok
