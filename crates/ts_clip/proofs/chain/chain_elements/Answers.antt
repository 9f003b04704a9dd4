use Rattle.std.proofs.Common.{◌^◌, ◌-◌, List, ◌∙◌, arith}
use Rattle.std.proofs.lemmas.List.{take_all}
use Rattle.ts_row.specs.Row.{Element, seen}
use Rattle.ts_space.specs.Directory.{places_of}
use Rattle.ts_sheets.specs.Stamped.{within_range}
use Rattle.ts_clip.proofs.ChainReadingLemmas.{elements_filled}
use Rattle.ts_clip.proofs.ChainToldLemmas.{few_told}
use Rattle.ts_clip.proofs.chain.chain_elements.Goals as goal

pub returns-clause-read : goal.returns-clause-read
returns-clause-read g c = λ told es have.
    let taken = c.in_ok-visit_range.ensures.taken told es have in
    let within : List Element = within_range c.args.from c.args.to (seen es) in
    let few = few_told c.args.shelf.now.series c.args.shelf.now.kind.now.columns (g.P.Pages.contents c.args.pages.now).page (places_of c.args.shelf.now.series c.args.space.now) c.args.from c.args.to es have in
    record { entries = _; taken = taken.taken; are = elements_filled _ ∙ take_all (2 ^ 64 - 1) within (omega (arith, few)) }
