-- All digits but the last, and that one.
use Rattle.std.proofs.Common.{◌∷◌, [], ◌++◌, ◌+◌, ◌%◌, ◌/◌, append_assoc, ◌∙◌, ap, sym, arith, rules}
use Rattle.std.specs.Fmt.{decimal}
use Rattle.std.proofs.lemmas.Result.{on_ok_weaker}
use Rattle.ts_row.proofs.PrintLemmas.{decimal-more}
use Rattle.ts_row.proofs.print.+print_decimal.Goals as goal

pub returns-clause-ok : goal.returns-clause-ok
returns-clause-ok t c =
    on_ok_weaker c.push-2.result
    (λ is. is ∙ ap (λ l. l ++ (48 + c.args.number % 10) ∷ []) c.in_ok-print_decimal.ensures.ok
    ∙ append_assoc c.args.out.now (decimal (c.args.number / 10)) ((48 + c.args.number % 10) ∷ [])
    ∙ ap (λ l. c.args.out.now ++ l) (sym (decimal-more c.args.number (omega arith) (search rules)))) c.push-2.ensures.ok
