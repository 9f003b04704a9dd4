use Rattle.std.proofs.Common.{arith}
use Rattle.ts_series.proofs.EndsLemmas.{ends_many}
use Rattle.ts_series.proofs.ends.ends_of.Goals as goal

pub returns-clause-told : goal.returns-clause-told
returns-clause-told g c =
    let some = c.requires.some in
    ends_many g.P.Pages.tells c.args.shelf.now.series c.args.shelf.now.kind.now.columns c.args.from c.args.to (g.P.Pages.contents c.args.pages.now) (g.P.Pages.contents c.read_earlier.new.pages)
    c.in_ok-front.front c.in_ok-back.back c.read_earlier.new.page.bytes c.read_later.new.page.bytes c.args.places.now _ _ _ some (omega (arith, some)) c.if-last-eq0.false c.requires.others c.requires.ends c.in_ok-front.ensures.call.pages
    c.in_ok-front.ensures.told c.in_ok-back.ensures.told
