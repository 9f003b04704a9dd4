use Rattle.std.proofs.Common.{◌≡◌, ◌-◌, ◌≤◌, ℕ, List, length, sym, ap, subst, ◌∙◌, arith}
use Rattle.ts_space.specs.Directory.{places_of}
use Rattle.ts_row.specs.declared.kind.Column.{Column}
use Rattle.ts_offset.specs.declared.shape.Shape.TheVariants.{Regular}
use Rattle.ts_entry.specs.Entry.{Entry, AreTaken, clipped, reading}
use Rattle.ts_clip.proofs.GridFilterLemmas.{length-part}
use Rattle.ts_clip.proofs.GridReadingLemmas.{reading_starts}
use Rattle.ts_clip.proofs.GridReadLemmas.{cells_kept, read_refused, read_taken, reading_of}
use Rattle.ts_clip.proofs.grid.grid_clip.Goals as goal

pub returns-then-rows-gt-MOST_ROWS-clause-read : goal.returns-then-rows-gt-MOST_ROWS-clause-read
returns-then-rows-gt-MOST_ROWS-clause-read g c = λ t es have.
    let slot : ℕ = c.args.shelf.now.series in
    let columns : List Column = c.args.shelf.now.kind.now.columns in
    let grid = c.args.grid.now in
    let entries : List Entry = reading (Regular grid) es in
    let is = reading_of grid c.requires.laid slot columns (g.P.Pages.contents c.args.pages.now).page (places_of slot c.args.space.now) es have in
    let count : c.in_ok-count.count ≡ length entries = c.in_ok-count.ensures.count t es have in
    let o = c.offsets_between-offsets.result in
    let found = c.offsets_between-offsets.ensures in
    let within : o.upper ≤ length entries = omega (arith, found.within, count) in
    let same = found.entries entries (reading_starts grid es (length entries) is) (sym count) in
    let long = ap length same ∙ length-part entries o.lower o.upper o.order within in
    read_refused (λ (l : List Entry). g.V.EntryVisitor.took columns c.args.visitor.now l c.args.visitor.now) (clipped c.args.from c.args.to entries) (o.upper - o.lower) (omega (arith, long, c.if-rows-gt-MOST_ROWS.true)) (sym long)
    (g.met.V.EntryVisitor.none columns c.args.visitor.now)

pub returns-clause-read : goal.returns-clause-read
returns-clause-read g c = λ t es have.
    let slot : ℕ = c.args.shelf.now.series in
    let columns : List Column = c.args.shelf.now.kind.now.columns in
    let grid = c.args.grid.now in
    let places = places_of slot c.args.space.now in
    let u = g.P.Pages.contents c.args.pages.now in
    let v = g.P.Pages.contents c.entry_count.new.pages in
    let entries : List Entry = reading (Regular grid) es in
    let is = reading_of grid c.requires.laid slot columns u.page places es have in
    let count : c.in_ok-count.count ≡ length entries = c.in_ok-count.ensures.count t es have in
    let o = c.offsets_between-offsets.result in
    let found = c.offsets_between-offsets.ensures in
    let within : o.upper ≤ length entries = omega (arith, found.within, count) in
    let same = found.entries entries (reading_starts grid es (length entries) is) (sym count) in
    let long = ap length same ∙ length-part entries o.lower o.upper o.order within in
    let took = λ (l : List Entry). g.V.EntryVisitor.took columns c.args.visitor.now l c.visit_range.new.visitor in
    read_taken took (clipped c.args.from c.args.to entries) c.in_ok-rows.rows (omega (arith, long, c.if-rows-gt-MOST_ROWS.false))
    (subst (λ (l : List Entry). AreTaken took l c.in_ok-rows.rows) (sym same)
    (c.in_ok-rows.ensures.taken t es (cells_kept grid slot columns u.page v.page places es (c.in_ok-count.ensures.call.pages t) have) within))
