use Rattle.std.proofs.Common.{◌≡◌, Some, ◌∙◌}
use Rattle.ts_page.specs.declared.page.Head.TheVariants.{Regular}
use Rattle.ts_page.specs.Pages.{head_of}
use Rattle.ts_regular.proofs.HeadLemmas.{head_told}
use Rattle.ts_regular.proofs.page.count_taken.Goals as goal

pub returns-clause-told : goal.returns-clause-told
returns-clause-told c = λ cells is count.
    let told : head_of c.args.page.now.bytes ≡ Some (Regular c.args.shelf.now.series c.args.count c.args.base) =
    head_told c.args.shelf.now.series c.args.shelf.now.kind.now.columns c.args.base cells c.args.page.now.bytes is ∙ (λ j. Some (Regular c.args.shelf.now.series (count j) c.args.base)) in
    let yes = c.agrees.ensures.1 told in
    absurd (cc)
