use Rattle.std.proofs.lemmas.Result.{on_ok_weaker}
use Rattle.ts_dump_texts.specs.Texts.{hiding_text}
use Rattle.ts_dump.proofs.GroupingLemmas.{one_put}
use Rattle.ts_dump.proofs.element_texts.print_hidden.Goals as goal

pub returns : goal.returns
returns c = on_ok_weaker c.push.result (λ last.
    one_put c.args.grouping.now c.begin.new.self (hiding_text c.args.key.now c.args.stamp) c.args.out.now c.begin.new.out c.print_hiding.new.out c.push.new.self
    c.in_ok-begin.ensures.next c.in_ok-begin.ensures.put c.in_ok-print_hiding.ensures last)
    c.push.ensures.ok
