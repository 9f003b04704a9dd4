use Rattle.std.proofs.Common.{refl, subst}
use Rattle.ts_space.specs.Place.{AreAbove}
use Rattle.ts_series.proofs.WrittenLemmas.{none_turned, none_before}
use Rattle.ts_series.proofs.clip.del_clip.Goals as goal

pub returns-then-is_earlier-clause-ok : goal.returns-then-is_earlier-clause-ok
returns-then-is_earlier-clause-ok g c =
    none_turned g.P.Pages.tells c.args.shelf.now.series c.args.shelf.now.kind.now.columns c.args.from c.args.to _ (g.P.Pages.contents c.args.pages.now) (c.if-is_earlier.ensures.yes refl)

pub returns-in_default-clause-ok : goal.returns-in_default-clause-ok
returns-in_default-clause-ok g c =
    none_before g.P.Pages.tells c.args.shelf.now.series c.args.shelf.now.kind.now.columns c.args.from c.args.to _ (g.P.Pages.contents c.args.pages.now) (c.if-is_earlier.ensures.no refl)
    (subst (AreAbove c.args.to) c.places-places.ensures.ok (c.in_default.ensures.none refl))
