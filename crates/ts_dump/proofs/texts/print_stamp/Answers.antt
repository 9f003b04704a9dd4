use Rattle.std.proofs.lemmas.Result.{on_ok_weaker}
use Rattle.ts_dump.proofs.TextLemmas.{stamp_put}
use Rattle.ts_dump.proofs.texts.print_stamp.Goals as goal

pub returns : goal.returns
returns c = on_ok_weaker c.push-2.result
    (λ last. stamp_put c.args.out.now c.push.new.self c.extend_from_slice.new.self c.push-2.new.self c.write_into.new.into c.args.stamp
    c.in_ok-push.ensures.ok c.in_ok-extend_from_slice.ensures.ok last c.write_into.ensures.text)
    c.push-2.ensures.ok
