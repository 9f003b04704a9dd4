use Rattle.std.proofs.Common.{subst}
use Rattle.ts_base.specs.Moment.{IsStamp}
use Rattle.ts_combined_rows.specs.Combining.{side_with}
use Rattle.ts_combined_rows.proofs.PairLemmas.{part_said}
use Rattle.ts_combined_rows.proofs.pairs.say_part.Goals as goal

pub returns-clause-said : goal.returns-clause-said
returns-clause-said g c =
    let pair = c.args.pair.now in
    let a = pair.first.now in
    let b = pair.second.now in
    part_said pair g.P.Pages.tells (g.P.Pages.contents c.args.pages.now) _ c.requires.pair c.in_ok-ones.ones c.in_ok-ones.ensures.call c.args.from c.args.to c.first_needed-low.result c.first_needed-low-2.result
    c.in_ok-ones.ones c.in_ok-others.others c.in_ok-ones.ensures.kept c.in_ok-others.ensures.kept
    (λ es fs is is'. c.elements_outside_play_no_part.ensures.joined pair.junction (side_with a.1 a.0.kind.now.columns es) (side_with b.1 b.0.kind.now.columns fs) c.args.from c.args.to _ _
    (subst IsStamp c.units-units.ensures.value c.units-units.ensures.within) c.requires.pair.first.laid c.requires.pair.second.laid is is' c.first_needed-low.ensures c.first_needed-low-2.ensures)
    c.args.count c.in_ok-all.all c.args.out.now c.say_kept.new.out c.in_ok-all.ensures
