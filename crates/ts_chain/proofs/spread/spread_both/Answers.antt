use Rattle.std.proofs.Common.{◌≢◌, ℕ, Some, List, [], ◌∷◌, length, ap, ◌∙◌, arith, rules}
use Rattle.ts_space.specs.declared.place.Place.{Place}
use Rattle.ts_row.specs.declared.kind.Column.{Column}
use Rattle.ts_chain.specs.Halves.{CanJoin}
use Rattle.ts_chain.proofs.PartLemmas.{two_put, one_less, first_joined, second_joined, is_spread, joined, joined_both, spread_made, none_of_three, moved_both_freed}
use Rattle.ts_chain.proofs.spread.spread_both.Goals as goal

pub returns-clause-spread : goal.returns-clause-spread
returns-clause-spread g c =
    let tells = g.P.Pages.tells in
    let slot : ℕ = c.args.shelf.now.series in
    let columns : List Column = c.args.shelf.now.kind.now.columns in
    let v = g.P.Pages.contents c.args.pages.now in
    let u = g.P.Pages.contents c.join_before.new.pages in
    let x = g.P.Pages.contents c.join_behind.new.pages in
    let y = g.P.Pages.contents c.put_two.new.pages in
    let w = g.P.Pages.contents c.free.new.self in
    let before : Place = c.args.near.0 in
    let first : Place = c.args.halves.now.first in
    let second : Place = c.args.halves.now.second in
    let behind : Place = c.args.near.1 in
    let page = c.args.page.now.bytes in
    let others = c.args.others.now.bytes in
    let one = c.join_before.new.page.bytes in
    let two = c.join_behind.new.page.bytes in
    let join1 = c.in_ok-one.ensures in
    let join2 = c.in_ok-two.ensures in
    let least1 = join1.least in
    let most1 = join1.most in
    let least2 = join2.least in
    let most2 = join2.most in
    let some1 = c.requires.fits.first.some in
    let some2 = c.requires.fits.second.some in
    let near1 = joined (CanJoin columns v first first.count) c.args.halves.now.before before c.requires.before c.requires.fits.before in
    let near2 = joined (CanJoin columns v first second.count) c.args.halves.now.behind behind c.requires.behind c.requires.fits.behind in
    let apart = joined_both (λ b c. b.page ≢ c.page) c.args.halves.now.before c.args.halves.now.behind before behind c.requires.before c.requires.behind c.requires.fits.apart in
    let room1 = near1.room in
    let room2 = near2.room in
    let freed = c.in_ok-free.ensures.freed in
    is_spread tells slot columns c.args.halves.now (Some before) (Some behind) page others _ v w c.requires.before c.requires.behind (search rules) (search rules)
    (omega (arith, ap length (c.in_ok-put_two.ensures.free ∙ join2.call.free ∙ join1.call.free), ap length freed.listed, c.in_ok-put_two.ensures.change, join1.call.change_bytes, join2.call.change_bytes, freed.change_bytes))
    (spread_made tells slot columns (before ∷ []) first second (behind ∷ []) page others one two _ v w
    (moved_both_freed v w before.page first.page behind.page (freed.listed ∙ ap (λ (l : List ℕ). first.page ∷ l) (c.in_ok-put_two.ensures.free ∙ join2.call.free ∙ join1.call.free)))
    (record { some = omega (arith, least1, some1); room = omega (arith, most1, room1) }) (record { some = omega (arith, least2, some2); room = omega (arith, most2, room2) }) (omega (arith, most1, most2))
    (λ told. one_less first one two _ v.page y.page w.page near1.apart near2.apart
    (two_put first one two _ v.page x.page y.page apart (λ n. join2.call.pages told n ∙ join1.call.pages told n) (c.in_ok-put_two.ensures.put told)) (freed.freed told))
    (λ n not free. let other = none_of_three before.page first.page behind.page n not in (other.0, other.2, other.1))
    (first_joined tells slot columns before first page one c.in_ok-one.one v join1.joined) (second_joined tells slot columns second behind others two c.in_ok-two.two v u join1.call.pages join2.joined))
