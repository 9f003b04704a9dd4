use Rattle.std.proofs.Common.{ℕ, None, List, [], length, ap, arith, rules}
use Rattle.ts_space.specs.declared.place.Place.{Place}
use Rattle.ts_row.specs.declared.kind.Column.{Column}
use Rattle.ts_irregular.proofs.KeptLemmas.{taken_element}
use Rattle.ts_chain.proofs.PartLemmas.{two_put, first_alone, second_alone, is_spread, spread_made, none_of_one, moved_apart, taken_apart, taken_used}
use Rattle.ts_chain.proofs.spread.spread_apart.Goals as goal

pub put_two-requires-clause-second_element : goal.put_two-requires-clause-second_element
put_two-requires-clause-second_element g c =
    (taken_element g.P.Pages.tells c.take-number.result (g.P.Pages.contents c.args.pages.now) (g.P.Pages.contents c.take-number.new.self) (g.met.P.Pages.lawful c.args.pages.now) c.take-number.ensures.taken).0

pub put_two-requires-clause-second_below : goal.put_two-requires-clause-second_below
put_two-requires-clause-second_below g c =
    (taken_element g.P.Pages.tells c.take-number.result (g.P.Pages.contents c.args.pages.now) (g.P.Pages.contents c.take-number.new.self) (g.met.P.Pages.lawful c.args.pages.now) c.take-number.ensures.taken).1

pub put_two-requires-clause-first_used : goal.put_two-requires-clause-first_used
put_two-requires-clause-first_used g c =
    taken_used g.P.Pages.tells c.take-number.result c.args.halves.now.first.page (g.P.Pages.contents c.args.pages.now) (g.P.Pages.contents c.take-number.new.self) c.take-number.ensures.taken c.requires.fits.first.used

pub put_two-requires-clause-second_used : goal.put_two-requires-clause-second_used
put_two-requires-clause-second_used g c =
    (taken_element g.P.Pages.tells c.take-number.result (g.P.Pages.contents c.args.pages.now) (g.P.Pages.contents c.take-number.new.self) (g.met.P.Pages.lawful c.args.pages.now) c.take-number.ensures.taken).2

pub returns-clause-spread : goal.returns-clause-spread
returns-clause-spread g c =
    let tells = g.P.Pages.tells in
    let slot : ℕ = c.args.shelf.now.series in
    let columns : List Column = c.args.shelf.now.kind.now.columns in
    let v = g.P.Pages.contents c.args.pages.now in
    let u = g.P.Pages.contents c.take-number.new.self in
    let w = g.P.Pages.contents c.put_two.new.pages in
    let first : Place = c.args.halves.now.first in
    let second : Place = c.args.halves.now.second in
    let page = c.args.page.now.bytes in
    let others = c.args.others.now.bytes in
    let taken = c.take-number.ensures.taken in
    is_spread tells slot columns c.args.halves.now None None page others _ v w c.requires.before c.requires.behind (search rules) (search rules) (omega (arith, ap length c.in_ok-put_two.ensures.free, ap length taken.listed, c.in_ok-put_two.ensures.change, taken.change_bytes))
    (spread_made tells slot columns [] first second [] page others page others _ v w
    (moved_apart v u w c.take-number.result first.page taken.listed c.in_ok-put_two.ensures.free)
    (record { some = c.requires.fits.first.some; room = c.requires.fits.first.room }) (record { some = c.requires.fits.second.some; room = c.requires.fits.second.room }) (omega arith)
    (λ told. two_put first page others _ v.page u.page w.page (taken_apart tells c.take-number.result first.page v u taken c.requires.fits.first.used) (taken.pages told) (c.in_ok-put_two.ensures.put told))
    (λ n not free. (none_of_one first.page n not, taken_apart tells c.take-number.result n v u taken free, none_of_one first.page n not))
    (first_alone tells slot columns first page v) (second_alone tells slot columns second others v))
