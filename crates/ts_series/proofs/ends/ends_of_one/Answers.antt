use Rattle.std.proofs.Common.{arith, length-append}
use Rattle.ts_sheets.specs.Stamped.{earlier}
use Rattle.ts_chain.proofs.JoinLemmas.{are_behind}
use Rattle.ts_series.specs.Ends.{later}
use Rattle.ts_series.proofs.RangeLemmas.{parts_fit}
use Rattle.ts_series.proofs.ends.ends_of_one.Goals as goal

pub returns-then-front-back-clause-told : goal.returns-then-front-back-clause-told
returns-then-front-back-clause-told g c = λ told es on.
    let b = are_behind g.P.Pages.tells c.args.shelf.now.series c.args.shelf.now.kind.now.columns c.args.place.now (g.P.Pages.contents c.args.pages.now) (g.P.Pages.contents c.get.new.self)
    c.get.new.into.bytes c.count_taken-count.new.page.bytes c.count_taken-count.result c.requires.readable.element c.in_ok-get.ensures.got c.count_taken-count.ensures.told told es on in
    let order = on.bytes.fill.elements in
    let front = (c.keep_earlier-front.ensures.kept es order b.count b.behind).number in
    let back = (c.keep_later-back.ensures.kept es order b.count b.behind).number in
    let fit = parts_fit c.args.from c.args.to c.requires.order es order.rising in
    let both = length-append (earlier c.args.from es) (later c.args.to es) in
    absurd (omega (arith, front, back, fit, both, b.count, c.if-front-back.true))

pub returns-clause-told : goal.returns-clause-told
returns-clause-told g c = λ told es on.
    let b = are_behind g.P.Pages.tells c.args.shelf.now.series c.args.shelf.now.kind.now.columns c.args.place.now (g.P.Pages.contents c.args.pages.now) (g.P.Pages.contents c.get.new.self)
    c.get.new.into.bytes c.count_taken-count.new.page.bytes c.count_taken-count.result c.requires.readable.element c.in_ok-get.ensures.got c.count_taken-count.ensures.told told es on in
    let order = on.bytes.fill.elements in
    record { front = c.keep_earlier-front.ensures.kept es order b.count b.behind; back = c.keep_later-back.ensures.kept es order b.count b.behind }
