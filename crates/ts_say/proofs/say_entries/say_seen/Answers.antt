-- A stamp, a blank, the values and a line feed.
use Rattle.std.proofs.lemmas.Result.{on_ok_weaker}
use Rattle.ts_say.proofs.BytesLemmas.{seen_said, line_said}
use Rattle.ts_say.proofs.say_entries.say_seen.Goals as goal

pub returns-clause-ok : goal.returns-clause-ok
returns-clause-ok c =
    on_ok_weaker c.say_values_in.result
    (λ said row seen. line_said c.args.kind.now.columns c.args.stamp row c.args.out.now c.say.new.out c.say_values_in.new.out
    c.in_ok-say.ensures.ok
    (seen_said c.args.kind.now.stamp c.args.kind.now.columns c.columns.result.now c.args.row.now row c.say.new.out c.say_values_in.new.out c.columns.ensures.rules c.columns.ensures.value seen said))
    c.say_values_in.ensures.ok
