use Rattle.std.proofs.Common.{ℕ, List, ap, sym, subst, ◌∙◌, arith}
use Rattle.ts_dump.specs.Listed.{text_if, text_in}
use Rattle.ts_dump.specs.Placed.{ArePut, none_put}
use Rattle.ts_dump.proofs.ListedLemmas.{none_past}
use Rattle.ts_dump.proofs.definitions.print_in.Goals as goal

pub returns-in_default : goal.returns-in_default
returns-in_default c =
    let kind = c.args.kind in
    let d = c.args.defs.now.definitions in
    let g = c.args.grouping.now in
    let o = c.args.out.now in
    let past = none_past kind c.in-Some.slot d c.requires.rules (omega (arith, c.if-slot-limit.false, c.limit.ensures)) in
    subst (λ (texts : List (List ℕ)). ArePut g texts g o o) (ap (text_if d) past ∙ ap (text_in kind d) (sym c.in-Some.is)) (none_put g o)
