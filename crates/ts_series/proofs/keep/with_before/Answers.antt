use Rattle.ts_chain.proofs.ChangeLemmas.{if_ok}
use Rattle.ts_series.proofs.EndsLemmas.{with_front}
use Rattle.ts_series.proofs.keep.with_before.Goals as goal

pub returns-in-len1-clause-told : goal.returns-in-len1-clause-told
returns-in-len1-clause-told g c =
    if_ok _ _ c.join_before.result
    (λ all joined. with_front g.P.Pages.tells c.args.shelf.now.series c.args.shelf.now.kind.now.columns (g.P.Pages.contents c.args.pages.now) c.args.before.now _ c.args.count all c.args.page.now.bytes c.join_before.new.page.bytes
    c.in-len1.len_at_least c.in-len1.len_below joined) c.join_before.ensures.joined
