-- A stamp, the values of one side, a comma, those of the other.
use Rattle.std.proofs.Common.{ℕ, List, [], ◌∷◌, ◌++◌, length, refl, ap, ◌∙◌, append_assoc}
use Rattle.std.proofs.lemmas.Result.{on_ok_weaker, on_err_weaker}
use Rattle.std.specs.Option.{option_copied}
use Rattle.ts_base.specs.Moment.{stamp_text}
use Rattle.ts_row.specs.declared.kind.Column.{Column}
use Rattle.ts_row.specs.Row.{values_text}
use Rattle.ts_combine.specs.Combine.{values_or_nulls}
use Rattle.ts_say.proofs.RowsLemmas.{some_columns, joined_said, extends_then}
use Rattle.ts_say.proofs.say_rows.say_joined.Goals as goal

pub returns-clause-ok : goal.returns-clause-ok
returns-clause-ok c =
    on_ok_weaker c.say_side-2.result
    (λ last left right. joined_said c.args.first_kind.now.columns c.args.second_kind.now.columns c.args.first c.args.second c.args.stamp
    c.args.out.now c.say.new.out (c.say.new.out ++ values_text c.args.first_kind.now.columns (values_or_nulls (length c.args.first_kind.now.columns) (option_copied c.args.first))) c.say_side.new.out
    (c.say_side.new.out ++ values_text c.args.second_kind.now.columns (values_or_nulls (length c.args.second_kind.now.columns) (option_copied c.args.second))) c.say_side-2.new.out
    (some_columns c.args.first_kind.now.stamp c.args.first_kind.now.columns c.columns.ensures.rules)
    (some_columns c.args.second_kind.now.stamp c.args.second_kind.now.columns c.columns-2.ensures.rules) left right
    c.in_ok-say.ensures.ok refl
    (c.in_ok-say_side.ensures.ok ∙ ap (λ (l : List Column). c.say.new.out ++ values_text l (values_or_nulls (length l) (option_copied c.args.first)) ++ 44 ∷ []) c.columns.ensures.value) refl
    (last ∙ ap (λ (l : List Column). c.say_side.new.out ++ values_text l (values_or_nulls (length l) (option_copied c.args.second)) ++ 10 ∷ []) c.columns-2.ensures.value))
    c.say_side-2.ensures.ok

pub returns-clause-err : goal.returns-clause-err
returns-clause-err c =
    let first : List ℕ = values_text c.columns.result.now (values_or_nulls (length c.columns.result.now) (option_copied c.args.first)) in
    on_err_weaker c.say_side-2.result
    (λ more. extends_then c.args.out.now c.say.new.out c.say_side-2.new.out (stamp_text c.args.stamp ++ 32 ∷ [], c.in_ok-say.ensures.ok ∙ append_assoc c.args.out.now (stamp_text c.args.stamp) (32 ∷ []))
    (extends_then c.say.new.out c.say_side.new.out c.say_side-2.new.out (first ++ 44 ∷ [], c.in_ok-say_side.ensures.ok ∙ append_assoc c.say.new.out first (44 ∷ [])) more))
    c.say_side-2.ensures.err
