use Rattle.std.proofs.Common.{ℕ, List, ◌++◌, ap, sym, ◌∙◌}
use Rattle.std.proofs.lemmas.Result.{on_ok_weaker}
use Rattle.ts_dump.proofs.TextLemmas.{plain_quoted}
use Rattle.ts_dump.proofs.texts.print_doubled.Goals as goal

pub returns : goal.returns
returns c = on_ok_weaker c.extend_from_slice.result
    (λ is. is ∙ ap (λ (l : List ℕ). c.args.out.now ++ l) (sym (plain_quoted c.args.text.now (sym c.contains.ensures.value ∙ c.if-contains.false))))
    c.extend_from_slice.ensures.ok
