use Rattle.std.proofs.Common.{◌∙◌, ◌+◌, ◌%◌, ◌/◌, ◌++◌, ◌∷◌, [], sym, ap, arith, append_assoc, List, ℕ}
use Rattle.std.specs.Fmt.{decimal}
use Rattle.std.proofs.lemmas.Fmt.{decimal_digit, decimal_step}
use Rattle.std.proofs.lemmas.Result.{on_ok_weaker}
use Rattle.ts_text.proofs.digits.+print_number.Goals as goal

pub returns-then-number-lt10-clause-ok : goal.returns-then-number-lt10-clause-ok
returns-then-number-lt10-clause-ok t c =
    on_ok_weaker c.push.result (λ e. e ∙ ap (λ (l : List ℕ). c.args.out.now ++ l) (sym (decimal_digit c.args.number c.if-number-lt10.true))) c.push.ensures.ok

pub returns-clause-ok : goal.returns-clause-ok
returns-clause-ok t c =
    let n = c.args.number in
    on_ok_weaker c.push-2.result
    (λ e. e ∙ ap (λ (l : List ℕ). l ++ (48 + n % 10) ∷ []) c.in_ok-print_number.ensures.ok
    ∙ append_assoc c.args.out.now (decimal (n / 10)) ((48 + n % 10) ∷ [])
    ∙ ap (λ (l : List ℕ). c.args.out.now ++ l) (sym (decimal_step n c.if-number-lt10.false (omega arith))))
    c.push-2.ensures.ok
