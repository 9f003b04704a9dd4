use Rattle.std.proofs.Common.{arith}
use Rattle.ts_chain.proofs.FindLemmas.{holder_get}
use Rattle.ts_chain.proofs.RestLemmas.{none_at, rest_at, missing_on}
use Rattle.ts_chain.proofs.AnswerLemmas.{freed_answer}
use Rattle.ts_chain.proofs.remove.remove_read.Goals as goal

pub returns-then-count-had-clause-ok : goal.returns-then-count-had-clause-ok
returns-then-count-had-clause-ok g c =
    let h = c.requires.holder in
    missing_on g.P.Pages.tells c.args.shelf.now.series c.args.shelf.now.kind.now.columns c.args.stamp c.args.places.now c.args.index (g.P.Pages.contents c.args.pages.now) h c.requires.rising c.requires.places
    (none_at g.P.Pages.tells c.args.shelf.now.series c.args.shelf.now.kind.now.columns c.args.stamp _ h.place (holder_get c.args.stamp c.args.places.now c.args.index _ h) (g.P.Pages.contents c.args.pages.now) c.args.page.now.bytes c.count_taken-had.new.page.bytes c.take_out-count.new.page.bytes
    c.count_taken-had.result c.take_out-count.result (c.requires.read h) c.count_taken-had.ensures.told c.take_out-count.ensures.count c.if-count-had.true)

pub keep_rest-requires-clause-rest : goal.keep_rest-requires-clause-rest
keep_rest-requires-clause-rest g c = λ h.
    rest_at g.P.Pages.tells c.args.shelf.now.series c.args.shelf.now.kind.now.columns c.args.stamp _ h.place (holder_get c.args.stamp c.args.places.now c.args.index _ h) (g.P.Pages.contents c.args.pages.now) c.args.page.now.bytes c.count_taken-had.new.page.bytes c.take_out-count.new.page.bytes
    c.count_taken-had.result c.take_out-count.result (c.requires.read h) c.count_taken-had.ensures.told c.take_out-count.ensures.count c.take_out-count.ensures.bytes c.if-count-had.false

pub returns-clause-ok : goal.returns-clause-ok
returns-clause-ok g c =
    let h = c.requires.holder in
    freed_answer g.P.Pages.tells c.args.shelf.now.series c.args.shelf.now.kind.now.columns c.args.stamp c.args.places.now c.args.index (g.P.Pages.contents c.args.pages.now) (g.P.Pages.contents c.free.new.self) h c.requires.rising c.requires.places
    c.take_out-count.result c.take_out-count.new.page.bytes
    (rest_at g.P.Pages.tells c.args.shelf.now.series c.args.shelf.now.kind.now.columns c.args.stamp _ h.place (holder_get c.args.stamp c.args.places.now c.args.index _ h) (g.P.Pages.contents c.args.pages.now) c.args.page.now.bytes c.count_taken-had.new.page.bytes c.take_out-count.new.page.bytes
    c.count_taken-had.result c.take_out-count.result (c.requires.read h) c.count_taken-had.ensures.told c.take_out-count.ensures.count c.take_out-count.ensures.bytes c.if-count-had.false)
    _ (omega arith) c.in_ok-free.ensures.freed.listed c.in_ok-free.ensures.freed.freed
