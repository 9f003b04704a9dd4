use Rattle.ts_chain.proofs.JoinLemmas.{are_behind}
use Rattle.ts_series.proofs.ends.read_later.Goals as goal

pub returns-clause-told : goal.returns-clause-told
returns-clause-told g c = λ told es on.
    let b = are_behind g.P.Pages.tells c.args.shelf.now.series c.args.shelf.now.kind.now.columns c.args.place.now (g.P.Pages.contents c.args.pages.now) (g.P.Pages.contents c.get.new.self)
    c.get.new.into.bytes c.count_taken-count.new.page.bytes c.count_taken-count.result c.requires.readable.element c.in_ok-get.ensures.got c.count_taken-count.ensures.told told es on in
    c.keep_later.ensures.kept es on.bytes.fill.elements b.count b.behind
