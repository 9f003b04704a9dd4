use Rattle.std.proofs.Common.{ap, ◌+◌, ℕ}
use Rattle.ts_chain.proofs.JoinLemmas.{are_behind}
use Rattle.ts_chain.proofs.join.join_before.Goals as goal

pub returns-clause-joined : goal.returns-clause-joined
returns-clause-joined g c = λ told es fs on are count same.
    let b = are_behind g.P.Pages.tells c.args.shelf.now.series c.args.shelf.now.kind.now.columns c.args.before.now (g.P.Pages.contents c.args.pages.now) (g.P.Pages.contents c.get.new.self)
    c.get.new.into.bytes c.count_taken-own.new.page.bytes c.count_taken-own.result c.requires.readable.element c.in_ok-get.ensures.got c.count_taken-own.ensures.told told es on in
    (ap (λ (n : ℕ). n + c.args.count) b.told, c.append_page.ensures es fs b.each are b.count count b.behind same)
