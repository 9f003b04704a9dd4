use Rattle.std.proofs.Common.{◌≤◌, ap, sym, ◌∙◌, Option, Some, arith}
use Rattle.std.specs.Option.{option_copied, option_map, unwrap_or}
use Rattle.std.proofs.lemmas.Bool.Decides.{nat_tests}
use Rattle.ts_row.specs.Row.{Heading}
use Rattle.ts_cells.specs.IrregularPage.{page_room}
use Rattle.ts_layout.specs.Charges.{container_charge}
use Rattle.ts_layout.proofs.CallerLemmas.{container_at, heading_there, quota_kept}
use Rattle.ts_container.proofs.charges.keeps_quota.Goals as goal

pub returns : goal.returns
returns c =
    let d = c.args.defs.now.definitions in
    let slot = c.args.slot in
    let space = c.args._space.now in
    let def = sym c.get.ensures ∙ ap option_copied c.in-Some-Container.is ∙ ap Some c.in-Some-Container.field-0-is in
    let at = container_at d slot _ _ c.in-Some-Container.quota def in
    let h = c.in-Some._kind.now in
    let heading = heading_there d slot at.0 h at.1 c.in-Some.ensures in
    let charge = c.of.ensures.ok ∙ c.requires.charged slot c.requires.slot
    ∙ ap (λ (o : Option Heading). unwrap_or (option_map (λ k. container_charge d space slot (page_room k.columns)) o) 0) (sym c.in-Some.ensures) in
    let kept = quota_kept d space slot at.0 h c.of.result c.in-Some-Container.quota at.1 heading charge at.2 in (
      λ within. kept.0 (let z : c.of.result ≤ c.in-Some-Container.quota = grind (arith, nat_tests, within) in z),
      λ all. let z : c.of.result ≤ c.in-Some-Container.quota = kept.1 all in grind (arith, nat_tests, z),
    )
