use Rattle.std.proofs.Common.{◌≡◌, ◌<◌, Some, ℕ, List, length, ◌∙◌, arith}
use Rattle.ts_page.specs.Pages.{head_of}
use Rattle.ts_page.specs.declared.page.Head.TheVariants.{Regular}
use Rattle.ts_row.specs.declared.kind.Column.{Column}
use Rattle.ts_regular.proofs.HeadLemmas.{behind_told, head_told, length-page, part_behind}
use Rattle.ts_regular.proofs.KeptLemmas.{page_from, read_on}
use Rattle.ts_regular.proofs.mark.is_there.Goals as goal

pub returns-then-not-agrees-clause-there : goal.returns-then-not-agrees-clause-there
returns-then-not-agrees-clause-there g c = λ t p on.
    let slot : ℕ = c.args.shelf.now.series in
    let columns : List Column = c.args.shelf.now.kind.now.columns in
    let place = c.args.place.now in
    let bytes : List ℕ = c.get.new.into.bytes in
    let read = read_on g.P.Pages.tells slot columns place bytes (g.P.Pages.contents c.args.pages.now) (g.P.Pages.contents c.get.new.self) c.requires.place.readable.element c.in_ok-get.ensures.got t p on in
    let is = page_from slot columns c.args.base bytes place p c.requires.at read in
    let told : head_of bytes ≡ Some (Regular slot place.count c.args.base) = head_told slot columns c.args.base p.1 bytes is ∙ (λ j. Some (Regular slot (read.count j) c.args.base)) in
    let yes = c.agrees.ensures.1 told in
    absurd (cc)

pub returns-clause-there : goal.returns-clause-there
returns-clause-there g c = λ t p on.
    let slot : ℕ = c.args.shelf.now.series in
    let columns : List Column = c.args.shelf.now.kind.now.columns in
    let place = c.args.place.now in
    let bytes : List ℕ = c.get.new.into.bytes in
    let read = read_on g.P.Pages.tells slot columns place bytes (g.P.Pages.contents c.args.pages.now) (g.P.Pages.contents c.get.new.self) c.requires.place.readable.element c.in_ok-get.ensures.got t p on in
    let behind = behind_told slot columns p.0 p.1 bytes read.bytes in
    let long = length-page columns p.1 bytes read.bytes.fill.each read.bytes.fill.room behind in
    let within : c.args.index < length p.1 = omega (arith, read.bytes.fill.room, c.requires.index) in
    (read, c.has_element_at.ensures p.1 read.bytes.fill.each within (part_behind 4064 bytes long ∙ behind))
