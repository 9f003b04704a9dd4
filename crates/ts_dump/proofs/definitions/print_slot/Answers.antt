use Rattle.std.proofs.Common.{ℕ, List, ap, sym, subst}
use Rattle.std.proofs.lemmas.Result.{on_ok_weaker}
use Rattle.ts_dump.specs.Listed.{text_if, text_of_def}
use Rattle.ts_dump.specs.Placed.{ArePut}
use Rattle.ts_dump.proofs.GroupingLemmas.{one_put}
use Rattle.ts_dump.proofs.definitions.print_slot.Goals as goal

pub print_definition-requires-clause-there : goal.print_definition-requires-clause-there
print_definition-requires-clause-there c = c.requires.there c.args.kind c.args.slot c.in-Some.def.now c.requires.slot (sym c.in-Some.ensures)

pub returns : goal.returns
returns c = on_ok_weaker c.push.result (λ last.
    let d = c.args.defs.now.definitions in
    subst (λ (texts : List (List ℕ)). ArePut c.args.grouping.now texts c.begin.new.self c.args.out.now c.push.new.self) (ap (text_if d) c.in-Some.ensures)
    (one_put c.args.grouping.now c.begin.new.self (text_of_def d c.in-Some.def.now) c.args.out.now c.begin.new.out c.print_definition.new.out c.push.new.self
    c.in_ok-begin.ensures.next c.in_ok-begin.ensures.put c.in_ok-print_definition.ensures last))
    c.push.ensures.ok
