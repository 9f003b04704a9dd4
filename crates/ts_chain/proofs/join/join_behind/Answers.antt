use Rattle.std.proofs.Common.{ap, ◌+◌, ℕ}
use Rattle.ts_chain.proofs.JoinLemmas.{are_behind}
use Rattle.ts_chain.proofs.join.join_behind.Goals as goal

pub returns-clause-joined : goal.returns-clause-joined
returns-clause-joined g c = λ told fs es on are count same.
    let b = are_behind g.P.Pages.tells c.args.shelf.now.series c.args.shelf.now.kind.now.columns c.args.behind.now (g.P.Pages.contents c.args.pages.now) (g.P.Pages.contents c.get.new.self)
    c.get.new.into.bytes c.count_taken-own.new.page.bytes c.count_taken-own.result c.requires.readable.element c.in_ok-get.ensures.got c.count_taken-own.ensures.told told es on in
    (ap (λ (n : ℕ). c.args.count + n) b.told, c.append_page.ensures fs es are b.each count b.count same b.behind)
