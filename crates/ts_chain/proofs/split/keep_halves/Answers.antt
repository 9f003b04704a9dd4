use Rattle.std.proofs.Common.{refl, ap, length, arith}
use Rattle.ts_chain.proofs.EndLemmas.{room_some, near_within, can_spread, stands_not, spares_not, halves_put}
use Rattle.ts_chain.proofs.split.keep_halves.Goals as goal

pub returns-then-not-stands_between-clause-ok : goal.returns-then-not-stands_between-clause-ok
returns-then-not-stands_between-clause-ok g c = λ row element parted.
    let t = c.requires.target in
    stands_not g.P.Pages.tells c.args.shelf.now.series c.args.shelf.now.kind.now.columns c.args.target.stamp c.args.places.now c.args.target.index (g.P.Pages.contents c.args.pages.now) t c.requires.rising c.requires.places row element c.halves_of-halves.result c.args.page.now.bytes c.args.others.now.bytes
    (c.halves_of-halves.ensures t.front t.place t.back t.parts t.index_is) (parted t) (c.requires.full t) (room_some _ _ _ _ _ t c.requires.places) c.unmoved.result (c.unmoved.ensures c.args.places.now)
    (λ less beyond. let hit = c.if-not-stands_between.ensures.no t.front t.place t.back t.parts t.index_is less beyond in cc)

pub returns-then-not-has_page-clause-ok : goal.returns-then-not-has_page-clause-ok
returns-then-not-has_page-clause-ok g c = λ row element parted.
    let t = c.requires.target in
    let none = c.if-not-has_page.ensures.none (λ hit. cc) in
    spares_not g.P.Pages.tells c.args.shelf.now.series c.args.shelf.now.kind.now.columns c.args.target.stamp c.args.places.now c.args.target.index (g.P.Pages.contents c.args.pages.now) t c.requires.rising c.requires.places row element c.halves_of-halves.result c.args.page.now.bytes c.args.others.now.bytes
    (c.halves_of-halves.ensures t.front t.place t.back t.parts t.index_is) (parted t) (c.requires.full t) (room_some _ _ _ _ _ t c.requires.places) c.unmoved-then-not-has_page.result (c.unmoved-then-not-has_page.ensures c.args.places.now)
    (c.if-not-has_page.ensures.alone (λ hit. cc)) (omega (arith, c.requires.room, ap length none))

pub spread-requires : goal.spread-requires
spread-requires g c =
    let t = c.requires.target in
    record {
      fits = can_spread c.args.shelf.now.series c.args.shelf.now.kind.now.columns c.args.target.stamp c.args.places.now c.args.target.index (g.P.Pages.contents c.args.pages.now) t c.requires.places c.args.others.now.bytes c.halves_of-halves.result
          (c.halves_of-halves.ensures t.front t.place t.back t.parts t.index_is) (room_some _ _ _ _ _ t c.requires.places) (λ alone. c.if-not-has_page.ensures.yes refl alone);
    }

pub moved-requires : goal.moved-requires
moved-requires g c =
    let t = c.requires.target in
    let halved = c.halves_of-halves.ensures t.front t.place t.back t.parts t.index_is in
    near_within _ _ c.args.target.index t.front c.halves_of-halves.result.before t.index_is halved.before

pub returns-clause-ok : goal.returns-clause-ok
returns-clause-ok g c = λ row element parted.
    let t = c.requires.target in
    halves_put g.P.Pages.tells c.args.shelf.now.series c.args.shelf.now.kind.now.columns c.args.target.stamp c.args.places.now c.args.target.index (g.P.Pages.contents c.args.pages.now) t c.requires.rising c.requires.places row element c.halves_of-halves.result c.args.page.now.bytes c.args.others.now.bytes
    (c.halves_of-halves.ensures t.front t.place t.back t.parts t.index_is) (parted t) (c.requires.full t) (room_some _ _ _ _ _ t c.requires.places)
    (c.if-not-stands_between.ensures.low refl) (c.if-not-stands_between.ensures.yes refl t.front t.place t.back t.parts t.index_is) c.in_ok-come.come (g.P.Pages.contents c.spread.new.pages) c.in_ok-come.ensures.spread c.moved.result c.moved.ensures
