use Rattle.std.proofs.Common.{◌≡◌, ℕ, List, [], length, take, drop, refl, sym, ap, subst}
use Rattle.ts_space.specs.Directory.{places_of}
use Rattle.ts_row.specs.declared.kind.Column.{Column}
use Rattle.ts_offset.specs.declared.shape.Shape.TheVariants.{Regular}
use Rattle.ts_entry.specs.Entry.{Entry, AreTaken, reading}
use Rattle.ts_clip.specs.Grid.{between}
use Rattle.ts_clip.proofs.GridFilterLemmas.{length-part}
use Rattle.ts_clip.proofs.GridReadingLemmas.{reading_between}
use Rattle.ts_clip.proofs.GridReadLemmas.{reading_of}
use Rattle.ts_clip.proofs.grid.visit_range.Goals as goal

pub returns-then-rows-eq0-clause-taken : goal.returns-then-rows-eq0-clause-taken
returns-then-rows-eq0-clause-taken g c = λ t es have within.
    let columns : List Column = c.args.shelf.now.kind.now.columns in
    let entries : List Entry = reading (Regular c.args.grid.now) es in
    let none : between c.args.offsets.lower c.args.offsets.upper entries ≡ [] = ap (λ (n : ℕ). take n (drop c.args.offsets.lower entries)) c.if-rows-eq0.true in
    subst (λ (l : List Entry). AreTaken (λ (k : List Entry). g.V.EntryVisitor.took columns c.args.visitor.now k c.args.visitor.now) l 0) (sym none)
    (record { taken = g.met.V.EntryVisitor.none columns c.args.visitor.now; number = refl })

pub returns-clause-taken : goal.returns-clause-taken
returns-clause-taken g c = λ t es have within.
    let slot : ℕ = c.args.shelf.now.series in
    let columns : List Column = c.args.shelf.now.kind.now.columns in
    let grid = c.args.grid.now in
    let entries : List Entry = reading (Regular grid) es in
    let order = c.args.offsets.order in
    let is = reading_of grid c.requires.laid slot columns (g.P.Pages.contents c.args.pages.now).page (places_of slot c.args.space.now) es have in
    record {
      taken = subst (λ (l : List Entry). g.V.EntryVisitor.took columns c.args.visitor.now l c.visit_offsets.new.visitor) (reading_between grid es (length entries) is c.args.offsets.lower c.args.offsets.upper order within) (c.in_ok-visit_offsets.ensures.took t es have);
      number = sym (length-part entries c.args.offsets.lower c.args.offsets.upper order within);
    }
