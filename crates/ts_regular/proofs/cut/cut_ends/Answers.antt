-- The pages of the ends are cut, and those between have nothing that is left.
use Rattle.std.proofs.Common.{◌-◌, pos, List, length, arith}
use Rattle.std.proofs.lemmas.Int.{ints}
use Rattle.ts_space.specs.declared.place.Place.{Place}
use Rattle.ts_regular.proofs.RestLemmas.{alone_cut, ends_cut, not_below_at}
use Rattle.ts_regular.proofs.cut.cut_ends.Goals as goal

pub returns-then-last-eq0-clause-cut : goal.returns-then-last-eq0-clause-cut
returns-then-last-eq0-clause-cut g c =
    let done = c.in_ok-front.ensures in
    alone_cut g.P.Pages.tells c.args.shelf.now.series c.args.shelf.now.kind.now.columns c.args.from c.args.to c.in_ok-front.front c.args.places.now _ (g.P.Pages.contents c.args.pages.now) (g.P.Pages.contents c.cut.new.pages)
    c.requires.some c.if-last-eq0.true done.cut done.same done.others done.free

pub cut-requires-2-clause-low : goal.cut-requires-2-clause-low
cut-requires-2-clause-low g c =
    let places : List Place = c.args.places.now in
    let low = not_below_at _ places (length places - 1) (record { at = pos 0; page = 0; count = 0 }) c.requires.begins (omega (arith, c.requires.some)) in
    omega (arith, ints, low)

pub returns-clause-cut : goal.returns-clause-cut
returns-clause-cut g c =
    let one = c.in_ok-front.ensures in
    let two = c.in_ok-back.ensures in
    ends_cut g.P.Pages.tells c.args.shelf.now.series c.args.shelf.now.kind.now.columns c.args.from c.args.to c.in_ok-front.front c.in_ok-back.back c.args.places.now _ (g.P.Pages.contents c.args.pages.now)
    (g.P.Pages.contents c.cut.new.pages) (g.P.Pages.contents c.cut-2.new.pages) c.if-last-eq0.false c.requires.rising c.requires.begins c.requires.ends c.requires.places.different one.cut one.same one.others one.free two.cut two.same two.others two.free
