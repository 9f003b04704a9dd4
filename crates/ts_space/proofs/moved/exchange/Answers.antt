use Rattle.std.proofs.Common.{◌+◌, ◌-◌, ◌∙◌, take, drop, ap, arith}
use Rattle.ts_space.specs.Place.{count_of, kept_count}
use Rattle.ts_space.specs.Moved.{list_of}
use Rattle.ts_space.proofs.MovedLemmas.{count_exchanged, moved_within}
use Rattle.ts_space.proofs.moved.exchange.Goals as goal

pub returns-clause-ok : goal.returns-clause-ok
returns-clause-ok c =
    let ps = c.args.list.now.items in
    let known = c.args.list.now.ok.0 in
    let one = c.len.ensures in let two = c.len-2.ensures in let start = c.min-start.ensures in let gone = c.min.ensures in
    c.replace.ensures.ok ∙ moved_within c.args.moved.now ps c.min-start.result (c.min-start.result + c.min.result) (omega (arith, known, one, start)) (omega (arith, known, one, two, start, gone))

pub returns-clause-count : goal.returns-clause-count
returns-clause-count c =
    let ps = c.args.list.now.items in
    let come = list_of c.args.moved.now.come in
    let start = c.min-start.result in
    let end = start + c.min.result in
    c.exchanged.ensures (count_of ps) (count_of c.replace.new.list.items) (count_of (take (end - start) (drop start ps))) (count_of come)
    (ap (λ l. count_of l + count_of (take (end - start) (drop start ps))) c.replace.ensures.ok ∙ count_exchanged ps come start end (omega arith))
    c.requires.count (c.counted-gone.ensures ∙ ap (λ l. kept_count (take (end - start) (drop start l))) c.deref.ensures.value) c.come_count.ensures
