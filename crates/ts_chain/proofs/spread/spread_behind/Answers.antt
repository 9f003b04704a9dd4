use Rattle.std.proofs.Common.{ℕ, None, Some, List, [], ◌∷◌, length, refl, sym, ap, ◌∙◌, arith, rules}
use Rattle.ts_space.specs.declared.place.Place.{Place}
use Rattle.ts_row.specs.declared.kind.Column.{Column}
use Rattle.ts_chain.specs.Halves.{CanJoin}
use Rattle.ts_chain.proofs.TakenLemmas.{none_moved}
use Rattle.ts_chain.proofs.PartLemmas.{two_put, first_alone, second_joined, is_spread, joined, spread_made, none_of_two}
use Rattle.ts_chain.proofs.spread.spread_behind.Goals as goal

pub returns-clause-spread : goal.returns-clause-spread
returns-clause-spread g c =
    let tells = g.P.Pages.tells in
    let slot : ℕ = c.args.shelf.now.series in
    let columns : List Column = c.args.shelf.now.kind.now.columns in
    let v = g.P.Pages.contents c.args.pages.now in
    let u = g.P.Pages.contents c.join_behind.new.pages in
    let w = g.P.Pages.contents c.put_two.new.pages in
    let first : Place = c.args.halves.now.first in
    let second : Place = c.args.halves.now.second in
    let behind : Place = c.args.behind in
    let page = c.args.page.now.bytes in
    let others = c.args.others.now.bytes in
    let two = c.join_behind.new.page.bytes in
    let join = c.in_ok-count.ensures in
    let least = join.least in
    let most = join.most in
    let some = c.requires.fits.second.some in
    let near = joined (CanJoin columns v first second.count) c.args.halves.now.behind behind c.requires.behind c.requires.fits.behind in
    let room = near.room in
    is_spread tells slot columns c.args.halves.now None (Some behind) page others _ v w c.requires.before c.requires.behind (search rules) (search rules) (omega (arith, ap length (c.in_ok-put_two.ensures.free ∙ join.call.free), c.in_ok-put_two.ensures.change, join.call.change_bytes))
    (spread_made tells slot columns [] first second (behind ∷ []) page others page two _ v w
    (none_moved v.free w.free (first.page ∷ behind.page ∷ []) (c.in_ok-put_two.ensures.free ∙ join.call.free))
    (record { some = c.requires.fits.first.some; room = c.requires.fits.first.room }) (record { some = omega (arith, least, some); room = omega (arith, most, room) }) (omega (arith, most))
    (λ told. two_put first page two _ v.page u.page w.page (λ same. near.apart (sym same)) (join.call.pages told) (c.in_ok-put_two.ensures.put told))
    (λ n not free. let other = none_of_two first.page behind.page n not in (other.0, other.1, other.0))
    (first_alone tells slot columns first page v) (second_joined tells slot columns second behind others two c.in_ok-count.count v v (λ told n. refl) join.joined))
