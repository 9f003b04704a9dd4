use Rattle.std.proofs.Common.{◌≡◌, List, [], Option, Some, None, Result, Ok, sym, ap, ◌∙◌, subst}
use Rattle.std.proofs.lemmas.Result.{err_from_is_err_and}
use Rattle.std.specs.Prelude.{reverse, IfSome}
use Rattle.std.specs.Option.{option_map}
use Rattle.ts_base.specs.declared.refusal.Refusal.{Refusal}
use Rattle.ts_row.specs.declared.kind.Column.{Column as TheColumn}
use Rattle.ts_base.specs.Answer.{Fails}
use Rattle.ts_running.specs.declared.step.Step.{Step}
use Rattle.ts_running.specs.declared.bind.Source.{Source}
use Rattle.ts_running.specs.Grammar.{all_steps}
use Rattle.ts_running.specs.Binding.{made_of_all, after_steps, Sourced, part_scales, bound_steps}
use Rattle.ts_running.specs.declared.instruction.Instruction.{Instruction}
use Rattle.ts_running.specs.declared.scale.ScaledExprs.{ScaledExprs}
use Rattle.ts_running.specs.Instructions.{instructions_of}
use Rattle.ts_running.proofs.InstructionLemmas.{exprs_again, kept_again}
use Rattle.ts_running.proofs.StepLemmas.{kept}
use Rattle.ts_running.proofs.BindLemmas.{is_bound, scales_there, list_bound, scales_refused, steps_fail}
use Rattle.ts_running.proofs.list.ExprList.bind.Goals as goal

pub returns-in_err-steps : goal.returns-in_err-steps
returns-in_err-steps c =
    let p = err_from_is_err_and c.from_residual.result c.from_residual.ensures.1 in
    let columns = c.args.kind.now.columns in
    let here : bound_steps c.columns.result.now c.steps.result.now ≡ bound_steps columns (all_steps c.args.self.now) =
    ap (λ (l : List TheColumn). bound_steps l c.steps.result.now) c.columns.ensures.value ∙ ap (bound_steps columns) c.steps.ensures in
    rw (p.1, p.2) (steps_fail columns c.args.self.now c.in_err-steps.field-0.0
    (subst (λ (r : Result (List (Step Source)) Refusal). Fails r c.in_err-steps.field-0.0) here c.in_err-steps.ensures.cause))

pub returns-in_default : goal.returns-in_default
returns-in_default c =
    let columns = c.args.kind.now.columns in
    let steps = c.in_ok-steps.steps.items in
    let is : bound_steps columns (all_steps c.args.self.now) ≡ Ok steps =
    sym (ap (λ (l : List TheColumn). bound_steps l c.steps.result.now) c.columns.ensures.value ∙ ap (bound_steps columns) c.steps.ensures) ∙ c.in_ok-steps.ensures.ok in
    let at : after_steps part_scales steps [] ≡ None =
    ap (λ (l : List (Step Source)). after_steps part_scales l []) (sym c.as_slice.ensures.value) ∙ c.in_ok-exprs.ensures.scales ∙ ap (option_map (λ e. reverse e.scales.items)) c.in_default.is in
    scales_refused columns c.args.self.now steps is at

pub invariant_of-result : goal.invariant_of-result
invariant_of-result c =
    let columns = c.args.kind.now.columns in
    let steps = c.in_ok-steps.steps.items in
    let is : bound_steps columns (all_steps c.args.self.now) ≡ Ok steps =
    sym (ap (λ (l : List TheColumn). bound_steps l c.steps.result.now) c.columns.ensures.value ∙ ap (bound_steps columns) c.steps.ensures) ∙ c.in_ok-steps.ensures.ok in
    let at : after_steps part_scales steps [] ≡ Some (reverse c.in-Some.exprs.scales.items) =
    ap (λ (l : List (Step Source)). after_steps part_scales l []) (sym c.as_slice.ensures.value) ∙ c.in_ok-exprs.ensures.scales ∙ ap (option_map (λ e. reverse e.scales.items)) c.in-Some.is in
    let instructions : List Instruction = c.in-Some.exprs.instructions.items in
    let made : instructions ≡ instructions_of [] steps =
    subst (λ (o : Option ScaledExprs). IfSome o (λ e. e.instructions.items ≡ instructions_of [] c.as_slice.result.now)) c.in-Some.is
    c.in_ok-exprs.ensures.instructions ∙ ap (instructions_of []) c.as_slice.ensures.value in
    let list = is_bound columns c.args.self.now steps is in (
      kept_again instructions steps made (kept steps list.list list.steps_are),
      ap (made_of_all part_scales) (exprs_again instructions steps made)
          ∙ scales_there columns c.args.self.now steps is c.in-Some.exprs.scales.items at,
    )

pub returns : goal.returns
returns c =
    let columns = c.args.kind.now.columns in
    let steps = c.in_ok-steps.steps.items in
    let is : bound_steps columns (all_steps c.args.self.now) ≡ Ok steps =
    sym (ap (λ (l : List TheColumn). bound_steps l c.steps.result.now) c.columns.ensures.value ∙ ap (bound_steps columns) c.steps.ensures) ∙ c.in_ok-steps.ensures.ok in
    let at : after_steps part_scales steps [] ≡ Some (reverse c.in-Some.exprs.scales.items) =
    ap (λ (l : List (Step Source)). after_steps part_scales l []) (sym c.as_slice.ensures.value) ∙ c.in_ok-exprs.ensures.scales ∙ ap (option_map (λ e. reverse e.scales.items)) c.in-Some.is in
    let instructions : List Instruction = c.in-Some.exprs.instructions.items in
    let made : instructions ≡ instructions_of [] steps =
    subst (λ (o : Option ScaledExprs). IfSome o (λ e. e.instructions.items ≡ instructions_of [] c.as_slice.result.now)) c.in-Some.is
    c.in_ok-exprs.ensures.instructions ∙ ap (instructions_of []) c.as_slice.ensures.value in
    list_bound columns c.args.self.now steps is c.in-Some.exprs.scales.items at
    ∙ ap (λ (l : List Sourced). Ok l) (sym (exprs_again instructions steps made))
