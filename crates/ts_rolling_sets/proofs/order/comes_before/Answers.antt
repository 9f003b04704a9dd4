use Rattle.std.proofs.Common.{sym, ap, ◌∙◌}
use Rattle.std.specs.Ordering.{is_lt}
use Rattle.ts_rolling_sets.proofs.SearchLemmas.{behind_front, outside_front}
use Rattle.ts_rolling_sets.proofs.order.comes_before.Goals as goal

pub returns-in-Some : goal.returns-in-Some
returns-in-Some c =
    let e = c.in-Some.ensures.cases in
    c.is_lt.ensures ∙ ap is_lt (c.cmp.ensures ∙ sym (behind_front c.args.key.now c.args.front.now c.args.rest.now c.in-Some.tail.now e.0 e.1))

pub returns-in-None : goal.returns-in-None
returns-in-None c =
    c.is_lt-in-None.ensures ∙ ap is_lt (c.cmp-in-None.ensures ∙ sym (outside_front c.args.key.now c.args.front.now c.args.rest.now c.in-None.ensures.cases))
