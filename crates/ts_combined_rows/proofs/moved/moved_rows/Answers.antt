use Rattle.std.proofs.Common.{◌≡◌, ℕ, List, Err, map, sym, subst, refl, to_z, of_z, w64}
use Rattle.std.proofs.lemmas.Int.{to_z-of_z}
use Rattle.ts_base.specs.declared.refusal.Refusal.TheVariants.{NotRegular}
use Rattle.ts_row.specs.Row.{Element, seen}
use Rattle.ts_space.specs.Directory.{places_of}
use Rattle.ts_offset.specs.declared.shape.Shape.{Shape}
use Rattle.ts_entry.specs.Entry.{filled}
use Rattle.ts_entry.specs.Handed.{AreHanded}
use Rattle.ts_clip.specs.Series.{HaveElements}
use Rattle.ts_combine.specs.Combine.{lagged}
use Rattle.ts_combined_rows.proofs.moved.moved_rows.Goals as goal

pub returns-in_default-clause-read : goal.returns-in_default-clause-read
returns-in_default-clause-read g c = λ told es have.
    subst (λ (s : Shape). AreHanded (λ (rows : List Element). g.V.EntryVisitor.took c.args.shelf.now.kind.now.columns c.args.visitor.now (map filled rows) c.args.visitor.now) (lagged s c.args.by (seen es)) (Err NotRegular))
    (sym c.in_default.is) refl

pub returns-clause-read : goal.returns-clause-read
returns-clause-read g c = λ told es have.
    let by : to_z w64 (of_z w64 c.args.by) ≡ c.args.by = to_z-of_z w64 c.args.by c.ranges.by in
    let shelf = c.args.shelf.now in
    rw by at (c.in_ok-done.ensures.read told es
    (subst (λ (p : ℕ → List ℕ). HaveElements c.args.shape.now shelf.series shelf.kind.now.columns p (places_of shelf.series c.args.space.now) es) (sym (λ i k. c.in_ok-last.ensures.call.pages told k i)) have)
    (c.in_ok-last.ensures.last told es have))
