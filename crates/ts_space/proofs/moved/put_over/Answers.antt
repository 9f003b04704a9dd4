use Rattle.std.proofs.Common.{◌+◌, ◌∙◌, take, drop, ap, arith}
use Rattle.ts_space.proofs.MovedLemmas.{inserted_front, inserted_back}
use Rattle.ts_space.proofs.moved.put_over.Goals as goal

pub returns-clause-front : goal.returns-clause-front
returns-clause-front c =
    let ps = c.args.list.now.items in
    let known = c.args.list.now.ok.0 in
    let order = c.requires.order in
    let within = c.requires.within in
    ap (take (c.args.start + 1)) c.in-Ok.ensures.items ∙ inserted_front ps c.args.start c.args.place (omega (arith, known, order, within))

pub returns-clause-back : goal.returns-clause-back
returns-clause-back c =
    let ps = c.args.list.now.items in
    let known = c.args.list.now.ok.0 in
    let order = c.requires.order in
    let within = c.requires.within in
    let past = c.if-start-end.false in
    ap (drop (c.args.start + 1)) c.in-Ok.ensures.items ∙ inserted_back ps c.args.start c.args.place (omega (arith, known, order, within)) ∙ ap (λ n. drop n ps) (omega (arith, past, order))
