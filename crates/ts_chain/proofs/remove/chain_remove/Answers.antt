use Rattle.std.proofs.Common.{Bool, Option, List, ℕ, subst, refl}
use Rattle.ts_space.specs.declared.place.Place.{Place}
use Rattle.ts_space.specs.Place.{AreAbove}
use Rattle.ts_space.specs.declared.moved.Moved.{Moved}
use Rattle.ts_chain.specs.Call.{IsRemoved}
use Rattle.ts_chain.proofs.ChangeLemmas.{if_ok, none_changed}
use Rattle.ts_chain.proofs.RestLemmas.{removed_since}
use Rattle.ts_chain.proofs.remove.chain_remove.Goals as goal

pub returns-in_default-clause-ok : goal.returns-in_default-clause-ok
returns-in_default-clause-ok g c =
    none_changed g.P.Pages.tells c.args.shelf.now.series c.args.shelf.now.kind.now.columns c.args.stamp _ (g.P.Pages.contents c.args.pages.now)
    (subst (AreAbove c.args.stamp) c.places-places.ensures.ok (c.in_default.ensures.none refl))

pub returns-clause-ok : goal.returns-clause-ok
returns-clause-ok g c =
    let tells : Bool = g.P.Pages.tells in
    let slot : ℕ = c.args.shelf.now.series in
    let columns = c.args.shelf.now.kind.now.columns in
    let places : List Place = c.places-places.result.now in
    let v = g.P.Pages.contents c.args.pages.now in
    let u = g.P.Pages.contents c.get.new.self in
    let w = g.P.Pages.contents c.remove_read.new.pages in
    if_ok (λ (o : Option Moved). IsRemoved tells slot columns c.args.stamp places u w o) (λ (o : Option Moved). IsRemoved tells slot columns c.args.stamp _ v w o) c.remove_read.result
    (λ o r. subst (λ (ps : List Place). IsRemoved tells slot columns c.args.stamp ps v w o) c.places-places.ensures.ok
    (removed_since tells slot columns c.args.stamp places v u w o c.in_ok-get.ensures.got.free c.in_ok-get.ensures.got.pages r)) c.remove_read.ensures.ok
