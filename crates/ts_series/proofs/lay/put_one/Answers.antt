use Rattle.ts_chain.proofs.ChangeLemmas.{if_ok}
use Rattle.ts_series.proofs.LayLemmas.{put_first, put_others, rest_each, rest_different, rest_freed}
use Rattle.ts_series.proofs.lay.put_one.Goals as goal

pub free_pages-requires-clause-each : goal.free_pages-requires-clause-each
free_pages-requires-clause-each g c =
    rest_each (g.P.Pages.contents c.args.pages.now) (g.P.Pages.contents c.put.new.self) 1 c.args.gone.now c.in_ok-put.ensures.put.call.count c.in_ok-put.ensures.put.free c.requires.places

pub free_pages-requires-clause-different : goal.free_pages-requires-clause-different
free_pages-requires-clause-different g c = rest_different (g.P.Pages.contents c.args.pages.now) 1 c.args.gone.now c.requires.places

pub returns-clause-put : goal.returns-clause-put
returns-clause-put g c =
    if_ok _ _ c.free_pages.result
    (λ u freed told. put_first (g.P.Pages.contents c.args.pages.now).page (g.P.Pages.contents c.put.new.self).page (g.P.Pages.contents c.free_pages.new.pages).page c.args.page.now.bytes c.args.gone.now _ c.requires.some c.requires.places.different (c.in_ok-put.ensures.put.put told)
    ((rest_freed g.P.Pages.tells (g.P.Pages.contents c.put.new.self) (g.P.Pages.contents c.free_pages.new.pages) 1 c.args.gone.now freed).others told)) c.free_pages.ensures.freed

pub returns-clause-others : goal.returns-clause-others
returns-clause-others g c =
    if_ok _ _ c.free_pages.result
    (λ u freed told. put_others (g.P.Pages.contents c.args.pages.now).page (g.P.Pages.contents c.put.new.self).page (g.P.Pages.contents c.free_pages.new.pages).page c.args.page.now.bytes c.args.gone.now _ c.requires.some (c.in_ok-put.ensures.put.put told)
    ((rest_freed g.P.Pages.tells (g.P.Pages.contents c.put.new.self) (g.P.Pages.contents c.free_pages.new.pages) 1 c.args.gone.now freed).others told)) c.free_pages.ensures.freed
