use Rattle.std.proofs.Common.{◌≡◌, ◌≤◌, ◌<◌, ℕ, Option, Ok, Err, List, length, map, sym, subst, ◌∙◌, arith}
use Rattle.std.specs.Prelude.{IfSome}
use Rattle.std.proofs.lemmas.List.{length-map, take_all}
use Rattle.ts_base.specs.declared.refusal.Refusal.TheVariants.{TooLarge}
use Rattle.ts_space.specs.Directory.{places_of}
use Rattle.ts_row.specs.declared.kind.Column.{Column}
use Rattle.ts_row.specs.Row.{Element, seen}
use Rattle.ts_offset.specs.declared.shape.Shape.TheVariants.{Irregular}
use Rattle.ts_sheets.specs.Stamped.{within_range}
use Rattle.ts_entry.specs.Entry.{Entry, filled, AreTaken}
use Rattle.ts_base.specs.Answer.{most_rows, within_rows}
use Rattle.ts_clip.specs.Call.{IsRead}
use Rattle.ts_clip.specs.Series.{IsTold}
use Rattle.ts_clip.proofs.ChainReadingLemmas.{clipped_filled, read_over, read_all}
use Rattle.ts_clip.proofs.ChainToldLemmas.{have_since}
use Rattle.ts_clip.proofs.chain.chain_clip.Goals as goal

pub returns-in-Some-clause-read : goal.returns-in-Some-clause-read
returns-in-Some-clause-read g c = λ told es have.
    let v = g.P.Pages.contents c.args.pages.now in
    let columns : List Column = c.args.shelf.now.kind.now.columns in
    let within : List Element = within_range c.args.from c.args.to (seen es) in
    let over =
    subst (λ (o : Option ℕ). IfSome o (λ (rows : ℕ). IsTold g.P.Pages.tells Irregular c.args.shelf.now.series columns (places_of c.args.shelf.now.series c.args.space.now) v
    (λ (fs : List Element). (rows ≡ length (within_range c.args.from c.args.to (seen fs))) × (most_rows < rows)))) c.in-Some.is c.in_ok-rows.ensures.many told es have in
    let same = clipped_filled c.args.from c.args.to (seen es) in
    subst (λ (l : List Entry). IsRead (λ (entries : List Entry). g.V.EntryVisitor.took columns c.args.visitor.now entries c.args.visitor.now) (within_rows l) (Err (TooLarge c.in-Some.rows))) (sym same)
    (read_over _ (map filled within) c.in-Some.rows (g.met.V.EntryVisitor.none columns c.args.visitor.now) (over.0 ∙ sym (length-map within filled)) over.1)

pub returns-clause-read : goal.returns-clause-read
returns-clause-read g c = λ told es have.
    let v = g.P.Pages.contents c.args.pages.now in
    let u = g.P.Pages.contents c.rows_over.new.pages in
    let slot : ℕ = c.args.shelf.now.series in
    let columns : List Column = c.args.shelf.now.kind.now.columns in
    let within : List Element = within_range c.args.from c.args.to (seen es) in
    let few : length within ≤ most_rows = c.in_ok-rows.ensures.few c.in_default.is told es have in
    let same = clipped_filled c.args.from c.args.to (seen es) in
    let took = λ (entries : List Entry). g.V.EntryVisitor.took columns c.args.visitor.now entries c.visit_range.new.visitor in
    let taken : AreTaken took (map filled within) c.in_ok-count.count =
    subst (λ (l : List Element). AreTaken took (map filled l) c.in_ok-count.count) (take_all most_rows within few)
    (c.in_ok-count.ensures.taken told es (have_since g.P.Pages.tells (Ok c.in_ok-rows.field-0) slot columns v u (places_of slot c.args.space.now) es c.in_ok-rows.ensures.call told have)) in
    subst (λ (l : List Entry). IsRead took (within_rows l) (Ok c.in_ok-count.count)) (sym same) (read_all took (map filled within) c.in_ok-count.count taken (omega (arith, length-map within filled, few)))
