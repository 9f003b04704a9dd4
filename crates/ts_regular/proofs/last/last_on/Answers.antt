-- The page is read once.
use Rattle.std.proofs.Common.{◌≡◌, Some, None, List, ℕ, ap, ◌∙◌, arith}
use Rattle.std.proofs.lemmas.Int.{ints}
use Rattle.ts_space.specs.declared.place.Place.{Place}
use Rattle.ts_page.specs.Pages.{head_of}
use Rattle.ts_page.specs.declared.page.Head.TheVariants.{Regular}
use Rattle.ts_row.specs.declared.kind.Column.{Column}
use Rattle.ts_regular.specs.RegularPage.{elements_from, last_seen}
use Rattle.ts_regular.proofs.HeadLemmas.{behind_told, head_told, length-page, part_behind}
use Rattle.ts_regular.proofs.KeptLemmas.{page_from, pos_one, read_on}
use Rattle.ts_regular.proofs.LastLemmas.{alone}
use Rattle.ts_regular.proofs.last.last_on.Goals as goal

pub returns-in_default-clause-last : goal.returns-in_default-clause-last
returns-in_default-clause-last g c =
    alone g.P.Pages.tells c.args.shelf.now.series c.args.shelf.now.kind.now.columns c.args.place.now (g.P.Pages.contents c.args.pages.now) None
    (λ t p on. let low = c.in_default.ensures.none in let at = on.at in absurd (omega (arith, ints, low, at)))

pub returns-then-not-agrees-clause-last : goal.returns-then-not-agrees-clause-last
returns-then-not-agrees-clause-last g c =
    let tells = g.P.Pages.tells in
    let slot : ℕ = c.args.shelf.now.series in
    let columns : List Column = c.args.shelf.now.kind.now.columns in
    let place : Place = c.args.place.now in
    let v = g.P.Pages.contents c.args.pages.now in
    let bytes : List ℕ = c.get.new.into.bytes in
    let base : ℕ = c.in-Some.base in
    alone tells slot columns place v None (λ t p on.
    let read = read_on tells slot columns place bytes v (g.P.Pages.contents c.get.new.self) c.requires.readable.element c.in_ok-get.ensures.got t p on in
    let is = page_from slot columns base bytes place p c.in-Some.ensures.found read in
    let told : head_of bytes ≡ Some (Regular slot place.count base) = head_told slot columns base p.1 bytes is ∙ (λ j. Some (Regular slot (read.count j) base)) in
    let yes = c.agrees.ensures.1 told in
    absurd (cc))

pub returns-clause-last : goal.returns-clause-last
returns-clause-last g c =
    let tells = g.P.Pages.tells in
    let slot : ℕ = c.args.shelf.now.series in
    let columns : List Column = c.args.shelf.now.kind.now.columns in
    let place : Place = c.args.place.now in
    let v = g.P.Pages.contents c.args.pages.now in
    let bytes : List ℕ = c.get.new.into.bytes in
    let base : ℕ = c.in-Some.base in
    alone tells slot columns place v c.in_ok-last_among.field-0 (λ t p on.
    let read = read_on tells slot columns place bytes v (g.P.Pages.contents c.get.new.self) c.requires.readable.element c.in_ok-get.ensures.got t p on in
    let behind = behind_told slot columns p.0 p.1 bytes read.bytes in
    let long = length-page columns p.1 bytes read.bytes.fill.each read.bytes.fill.room behind in
    c.in_ok-last_among.ensures.last p.1 read.bytes.fill.each read.bytes.fill.room (part_behind 4064 bytes long ∙ behind)
    ∙ ap (λ (b : ℕ). last_seen (elements_from b p.1)) (pos_one base p.0 place.at c.in-Some.ensures.found on.at))
