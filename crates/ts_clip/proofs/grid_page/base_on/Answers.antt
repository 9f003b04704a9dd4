use Rattle.std.proofs.Common.{◌≡◌, ℕ, Some, List, ◌∙◌}
use Rattle.ts_page.specs.Pages.{head_of}
use Rattle.ts_page.specs.declared.page.Head.TheVariants.{Regular}
use Rattle.ts_row.specs.declared.kind.Column.{Column}
use Rattle.ts_regular.proofs.HeadLemmas.{head_told}
use Rattle.ts_regular.proofs.KeptLemmas.{page_from}
use Rattle.ts_clip.proofs.grid_page.base_on.Goals as goal

-- a page of the series has a head that agrees
pub returns-else-agrees-clause-base : goal.returns-else-agrees-clause-base
returns-else-agrees-clause-base c = λ p on.
    let slot : ℕ = c.args.shelf.now.series in
    let columns : List Column = c.args.shelf.now.kind.now.columns in
    let place = c.args.place.now in
    let base : ℕ = c.in_ok-base.base in
    let bytes : List ℕ = c.args.page.now.bytes in
    let is = page_from slot columns base bytes place p (c.in_ok-base.ensures.found) on in
    let told : head_of bytes ≡ Some (Regular slot place.count base) = head_told slot columns base p.1 bytes is ∙ (λ j. Some (Regular slot (on.count j) base)) in
    let yes = c.agrees.ensures.1 told in
    absurd (cc)
