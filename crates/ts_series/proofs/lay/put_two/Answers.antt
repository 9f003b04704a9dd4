use Rattle.std.proofs.Common.{◌∙◌, arith}
use Rattle.ts_chain.proofs.ChangeLemmas.{if_ok}
use Rattle.ts_series.proofs.LayLemmas.{put_both, both_others, rest_each, rest_different, rest_freed, put_within, put_outside, put_used}
use Rattle.ts_series.proofs.lay.put_two.Goals as goal

pub put-requires-2-clause-within : goal.put-requires-2-clause-within
put-requires-2-clause-within g c =
    let two = c.requires.two in
    put_within (g.P.Pages.contents c.args.pages.now) (g.P.Pages.contents c.put.new.self) c.args.gone.now 1 _ c.requires.places.each (omega (arith, two)) c.in_ok-put.ensures.put.call.count

pub put-requires-2-clause-outside : goal.put-requires-2-clause-outside
put-requires-2-clause-outside g c =
    let two = c.requires.two in
    put_outside (g.P.Pages.contents c.args.pages.now) c.args.gone.now 1 _ c.requires.places.each (omega (arith, two))

pub put-requires-2-clause-used : goal.put-requires-2-clause-used
put-requires-2-clause-used g c =
    let two = c.requires.two in
    put_used (g.P.Pages.contents c.args.pages.now) (g.P.Pages.contents c.put.new.self) c.args.gone.now 1 _ c.requires.places.each (omega (arith, two)) c.in_ok-put.ensures.put.free

pub free_pages-requires-clause-each : goal.free_pages-requires-clause-each
free_pages-requires-clause-each g c =
    rest_each (g.P.Pages.contents c.args.pages.now) (g.P.Pages.contents c.put-2.new.self) 2 c.args.gone.now (c.in_ok-put-2.ensures.put.call.count ∙ c.in_ok-put.ensures.put.call.count) (c.in_ok-put-2.ensures.put.free ∙ c.in_ok-put.ensures.put.free) c.requires.places

pub free_pages-requires-clause-different : goal.free_pages-requires-clause-different
free_pages-requires-clause-different g c = rest_different (g.P.Pages.contents c.args.pages.now) 2 c.args.gone.now c.requires.places

pub returns-clause-put : goal.returns-clause-put
returns-clause-put g c =
    if_ok _ _ c.free_pages.result
    (λ u freed told. put_both (g.P.Pages.contents c.args.pages.now).page (g.P.Pages.contents c.put.new.self).page (g.P.Pages.contents c.put-2.new.self).page (g.P.Pages.contents c.free_pages.new.pages).page c.args.page.now.bytes c.args.behind.now.bytes c.args.gone.now _ _ c.requires.two c.requires.places.different
    (c.in_ok-put.ensures.put.put told) (c.in_ok-put-2.ensures.put.put told)
    ((rest_freed g.P.Pages.tells (g.P.Pages.contents c.put-2.new.self) (g.P.Pages.contents c.free_pages.new.pages) 2 c.args.gone.now freed).others told)) c.free_pages.ensures.freed

pub returns-clause-others : goal.returns-clause-others
returns-clause-others g c =
    if_ok _ _ c.free_pages.result
    (λ u freed told. both_others (g.P.Pages.contents c.args.pages.now).page (g.P.Pages.contents c.put.new.self).page (g.P.Pages.contents c.put-2.new.self).page (g.P.Pages.contents c.free_pages.new.pages).page c.args.page.now.bytes c.args.behind.now.bytes c.args.gone.now _ _ c.requires.two
    (c.in_ok-put.ensures.put.put told) (c.in_ok-put-2.ensures.put.put told)
    ((rest_freed g.P.Pages.tells (g.P.Pages.contents c.put-2.new.self) (g.P.Pages.contents c.free_pages.new.pages) 2 c.args.gone.now freed).others told)) c.free_pages.ensures.freed
