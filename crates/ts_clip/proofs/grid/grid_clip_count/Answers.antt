use Rattle.std.proofs.Common.{◌≡◌, ◌≤◌, ℕ, ℤ, w64, List, length, sym, ap, subst, ◌∙◌, arith}
use Rattle.std.proofs.lemmas.Int.{to_z-of_z}
use Rattle.std.proofs.lemmas.Result.{IfOk-weaker}
use Rattle.ts_space.specs.Directory.{places_of}
use Rattle.ts_row.specs.declared.kind.Column.{Column}
use Rattle.ts_offset.specs.declared.shape.Shape.TheVariants.{Regular}
use Rattle.ts_entry.specs.Entry.{Entry, AreTaken, counted, reading}
use Rattle.ts_clip.specs.Grid.{between}
use Rattle.ts_clip.proofs.GridReadingLemmas.{reading_starts}
use Rattle.ts_clip.proofs.GridReadLemmas.{cells_kept, reading_of}
use Rattle.ts_clip.proofs.grid.grid_clip_count.Goals as goal

pub returns-clause-read : goal.returns-clause-read
returns-clause-read g c =
    let slot : ℕ = c.args.shelf.now.series in
    let columns : List Column = c.args.shelf.now.kind.now.columns in
    let grid = c.args.grid.now in
    let places = places_of slot c.args.space.now in
    let u = g.P.Pages.contents c.args.pages.now in
    let v = g.P.Pages.contents c.entry_count.new.pages in
    let n : ℤ = c.args.n in
    let o = c.offsets_counted-offsets.result in
    let found = c.offsets_counted-offsets.ensures in
    let took = λ (l : List Entry). g.V.EntryVisitor.took columns c.args.visitor.now l c.visit_range.new.visitor in
    IfOk-weaker c.visit_range.result _ _
    (λ rows taken t es have.
    let entries : List Entry = reading (Regular grid) es in
    let is = reading_of grid c.requires.laid slot columns u.page places es have in
    let count : c.in_ok-count.count ≡ length entries = c.in_ok-count.ensures.count t es have in
    let within : o.upper ≤ length entries = omega (arith, found.within, count) in
    let same : counted c.args.stamp n entries ≡ between o.lower o.upper entries = ap (λ (z : ℤ). counted c.args.stamp z entries) (sym (to_z-of_z w64 n c.ranges.n)) ∙ found.entries entries (reading_starts grid es (length entries) is) (sym count) in
    subst (λ (l : List Entry). AreTaken took l rows) (sym same)
    (taken t es (cells_kept grid slot columns u.page v.page places es (c.in_ok-count.ensures.call.pages t) have) within)) c.visit_range.ensures.taken
