use Rattle.std.proofs.Common.{◌≡◌, ◌+◌, ◌-◌, ℕ, Result, Ok, Err, IfOk, sym, ◌∙◌, ap, subst, arith}
use Rattle.ts_command.specs.declared.command.Command.{Command}
use Rattle.ts_multi.specs.Picks.{drawn}
use Rattle.ts_generator.specs.Generated.{edit, generated, edits_before, IsNext}
use Rattle.ts_generator.proofs.GeneratedLemmas.{next_of_opening, next_of_edits, next_of_closing}
use Rattle.ts_generator.proofs.generated.make_command.Goals as goal

-- what holds of a command that was made
made : {E : Type 0} (P Q : Command → Type 0) (r : Result Command E) → ((c : Command) → P c → Q c) → IfOk r P → IfOk r Q
made P Q (Ok c) more holds = more c holds
made P Q (Err e) more holds = tt

pub returns-then-number-lt-OPENING-clause-next : goal.returns-then-number-lt-OPENING-clause-next
returns-then-number-lt-OPENING-clause-next c =
    made _ _ c.make_opening.result (λ command next seed is. next_of_opening c.args.count seed c.args.number command (omega (arith, c.if-number-lt-OPENING.true)) next) c.make_opening.ensures.next

pub returns-then-number-count-clause-next : goal.returns-then-number-count-clause-next
returns-then-number-count-clause-next c =
    let k = c.args.number - 6 in
    made _ _ c.make_edit.result
    (λ command same seed is.
    let number : edits_before c.args.count (c.args.number + 1) ≡ k + 1 = omega (arith, c.if-number-lt-OPENING.false, c.if-number-count.true) in
    let drew : c.args.random ≡ drawn seed (k + 1) = is ∙ ap (λ (i : ℕ). drawn seed i) number in
    let made_edit : command ≡ edit (k + 1) (drawn seed (k + 1)) = same ∙ ap (λ (x : ℕ). edit (k + 1) x) drew in
    subst (λ (a : Command). IsNext (generated c.args.count seed) c.args.number a) (sym made_edit)
    (next_of_edits c.args.count seed c.args.number k (omega (arith, c.if-number-lt-OPENING.false)) (omega (arith, c.if-number-lt-OPENING.false, c.if-number-count.true))))
    c.make_edit.ensures.edit

pub returns-clause-next : goal.returns-clause-next
returns-clause-next c =
    made _ _ c.make_closing.result
    (λ command next seed is. next_of_closing c.args.count seed c.args.number (c.args.number - 6 - c.args.count) command (omega (arith, c.if-number-lt-OPENING.false, c.if-number-count.false)) next)
    c.make_closing.ensures.next
