use Rattle.std.proofs.Common.{◌≡◌, ◌≤◌, ℕ, List, length, sym, ap, ◌∙◌, arith}
use Rattle.ts_space.specs.Directory.{places_of}
use Rattle.ts_row.specs.declared.kind.Column.{Column}
use Rattle.ts_offset.specs.declared.shape.Shape.TheVariants.{Regular}
use Rattle.ts_entry.specs.Entry.{Entry, reading}
use Rattle.ts_clip.proofs.GridFilterLemmas.{length-part}
use Rattle.ts_clip.proofs.GridReadingLemmas.{reading_starts}
use Rattle.ts_clip.proofs.GridReadLemmas.{reading_of}
use Rattle.ts_clip.proofs.grid.grid_clip_len.Goals as goal

pub returns-clause-read : goal.returns-clause-read
returns-clause-read g c = λ t es have.
    let slot : ℕ = c.args.shelf.now.series in
    let columns : List Column = c.args.shelf.now.kind.now.columns in
    let grid = c.args.grid.now in
    let entries : List Entry = reading (Regular grid) es in
    let is = reading_of grid c.requires.laid slot columns (g.P.Pages.contents c.args.pages.now).page (places_of slot c.args.space.now) es have in
    let count : c.in_ok-count.count ≡ length entries = c.in_ok-count.ensures.count t es have in
    let o = c.offsets_between-offsets.result in
    let found = c.offsets_between-offsets.ensures in
    let within : o.upper ≤ length entries = omega (arith, found.within, count) in
    sym (ap length (found.entries entries (reading_starts grid es (length entries) is) (sym count)) ∙ length-part entries o.lower o.upper o.order within)
