use Rattle.std.proofs.Common.{◌≡◌, ◌<◌, ℕ, List, [], length, refl, sym, ap, subst, arith}
use Rattle.std.specs.Option.{option_to_list}
use Rattle.std.proofs.lemmas.Option.{slice_get_past}
use Rattle.std.proofs.lemmas.Result.{IfOk-weaker}
use Rattle.ts_space.specs.Directory.{places_of}
use Rattle.ts_row.specs.declared.kind.Column.{Column}
use Rattle.ts_offset.specs.declared.shape.Shape.TheVariants.{Regular}
use Rattle.ts_entry.specs.Entry.{Entry, AreTaken, entry_number, reading}
use Rattle.ts_clip.proofs.GridFilterLemmas.{part_one}
use Rattle.ts_clip.proofs.GridReadLemmas.{cells_kept}
use Rattle.ts_clip.proofs.grid.grid_nth.Goals as goal

pub returns-then-n-count-clause-read : goal.returns-then-n-count-clause-read
returns-then-n-count-clause-read g c = λ t es have.
    let columns : List Column = c.args.shelf.now.kind.now.columns in
    let entries : List Entry = reading (Regular c.args.grid.now) es in
    let count : c.in_ok-count.count ≡ length entries = c.in_ok-count.ensures.count t es have in
    let none : entry_number c.args.n entries ≡ [] = ap option_to_list (slice_get_past entries c.args.n (omega (arith, count, c.if-n-count.true))) in
    subst (λ (l : List Entry). AreTaken (λ l. g.V.EntryVisitor.took columns c.args.visitor.now l c.args.visitor.now) l 0) (sym none)
    (record { taken = g.met.V.EntryVisitor.none columns c.args.visitor.now; number = refl })

pub returns-clause-read : goal.returns-clause-read
returns-clause-read g c =
    let slot : ℕ = c.args.shelf.now.series in
    let columns : List Column = c.args.shelf.now.kind.now.columns in
    let grid = c.args.grid.now in
    let places = places_of slot c.args.space.now in
    let n : ℕ = c.args.n in
    let u = g.P.Pages.contents c.args.pages.now in
    let v = g.P.Pages.contents c.entry_count.new.pages in
    let took = λ (l : List Entry). g.V.EntryVisitor.took columns c.args.visitor.now l c.visit_range.new.visitor in
    IfOk-weaker c.visit_range.result _ _
    (λ rows taken t es have.
    let entries : List Entry = reading (Regular grid) es in
    let count : c.in_ok-count.count ≡ length entries = c.in_ok-count.ensures.count t es have in
    let within : n < length entries = omega (arith, count, c.if-n-count.false) in
    subst (λ (l : List Entry). AreTaken took l rows) (sym (part_one entries n within))
    (taken t es (cells_kept grid slot columns u.page v.page places es (c.in_ok-count.ensures.call.pages t) have) (omega (arith, within)))) c.visit_range.ensures.taken
