use Rattle.std.proofs.Common.{ℕ, None, Some, List, [], ◌∷◌, length, ap, ◌∙◌, arith, rules}
use Rattle.ts_space.specs.declared.place.Place.{Place}
use Rattle.ts_row.specs.declared.kind.Column.{Column}
use Rattle.ts_chain.specs.Halves.{CanJoin}
use Rattle.ts_chain.proofs.TakenLemmas.{none_moved}
use Rattle.ts_chain.proofs.PartLemmas.{two_put, first_joined, second_alone, is_spread, joined, spread_made, none_of_two}
use Rattle.ts_chain.proofs.spread.spread_before.Goals as goal

pub returns-clause-spread : goal.returns-clause-spread
returns-clause-spread g c =
    let tells = g.P.Pages.tells in
    let slot : ℕ = c.args.shelf.now.series in
    let columns : List Column = c.args.shelf.now.kind.now.columns in
    let v = g.P.Pages.contents c.args.pages.now in
    let u = g.P.Pages.contents c.join_before.new.pages in
    let w = g.P.Pages.contents c.put_two.new.pages in
    let before : Place = c.args.before in
    let first : Place = c.args.halves.now.first in
    let second : Place = c.args.halves.now.second in
    let page = c.args.page.now.bytes in
    let others = c.args.others.now.bytes in
    let one = c.join_before.new.page.bytes in
    let join = c.in_ok-count.ensures in
    let least = join.least in
    let most = join.most in
    let some = c.requires.fits.first.some in
    let near = joined (CanJoin columns v first first.count) c.args.halves.now.before before c.requires.before c.requires.fits.before in
    let room = near.room in
    is_spread tells slot columns c.args.halves.now (Some before) None page others _ v w c.requires.before c.requires.behind (search rules) (search rules) (omega (arith, ap length (c.in_ok-put_two.ensures.free ∙ join.call.free), c.in_ok-put_two.ensures.change, join.call.change_bytes))
    (spread_made tells slot columns (before ∷ []) first second [] page others one others _ v w
    (none_moved v.free w.free (before.page ∷ first.page ∷ []) (c.in_ok-put_two.ensures.free ∙ join.call.free))
    (record { some = omega (arith, least, some); room = omega (arith, most, room) }) (record { some = c.requires.fits.second.some; room = c.requires.fits.second.room }) (omega (arith, most))
    (λ told. two_put first one others _ v.page u.page w.page near.apart (join.call.pages told) (c.in_ok-put_two.ensures.put told))
    (λ n not free. let other = none_of_two before.page first.page n not in (other.0, other.1, other.1))
    (first_joined tells slot columns before first page one c.in_ok-count.count v join.joined) (second_alone tells slot columns second others v))
