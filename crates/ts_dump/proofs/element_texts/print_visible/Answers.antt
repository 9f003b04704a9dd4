use Rattle.std.proofs.lemmas.Result.{on_ok_weaker}
use Rattle.ts_dump_texts.specs.Texts.{element_text}
use Rattle.ts_dump.proofs.GroupingLemmas.{one_put}
use Rattle.ts_dump.proofs.element_texts.print_visible.Goals as goal

pub returns : goal.returns
returns c = on_ok_weaker c.push.result (λ last.
    one_put c.args.grouping.now c.begin.new.self (element_text c.args.key.now c.args.stamp c.args.kind.now.columns c.args.row.now) c.args.out.now c.begin.new.out c.print_element.new.out c.push.new.self
    c.in_ok-begin.ensures.next c.in_ok-begin.ensures.put c.in_ok-print_element.ensures last)
    c.push.ensures.ok
