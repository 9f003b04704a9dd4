use Rattle.std.proofs.Common.{◌≡◌, ℕ, ℤ, pos, w64, true, false, List, map, take, sym, ap, subst, ◌∙◌}
use Rattle.std.specs.Prelude.{int_lt, unsigned_abs}
use Rattle.std.proofs.lemmas.Int.{to_z-of_z}
use Rattle.std.proofs.lemmas.Result.{IfOk-weaker}
use Rattle.ts_space.specs.Directory.{places_of}
use Rattle.ts_row.specs.declared.kind.Column.{Column}
use Rattle.ts_row.specs.Row.{seen}
use Rattle.ts_sheets.specs.Stamped.{within_range}
use Rattle.ts_entry.specs.Entry.{Entry, filled, AreTaken, last_ones}
use Rattle.ts_clip.specs.Chain.{first_moment}
use Rattle.ts_clip.proofs.ChainReadingLemmas.{counted_first, counted_last}
use Rattle.ts_clip.proofs.ChainToldLemmas.{order_told}
use Rattle.ts_clip.proofs.chain.chain_clip_count.Goals as goal

pub returns-then-n-lt0-clause-read : goal.returns-then-n-lt0-clause-read
returns-then-n-lt0-clause-read g c =
    let slot : ℕ = c.args.shelf.now.series in
    let columns : List Column = c.args.shelf.now.kind.now.columns in
    let took = λ (entries : List Entry). g.V.EntryVisitor.took columns c.args.visitor.now entries c.visit_last.new.visitor in
    let less : int_lt c.args.n (pos 0) ≡ true = sym (ap (λ (z : ℤ). int_lt z (pos 0)) (to_z-of_z w64 c.args.n c.ranges.n)) ∙ c.if-n-lt0.true in
    let number : c.unsigned_abs-most.result ≡ unsigned_abs c.args.n = c.unsigned_abs-most.ensures.value ∙ ap unsigned_abs (to_z-of_z w64 c.args.n c.ranges.n) in
    IfOk-weaker c.visit_last.result _ _
    (λ count taken told es have.
    let order = order_told slot columns (g.P.Pages.contents c.args.pages.now).page (places_of slot c.args.space.now) es have in
    subst (λ (l : List Entry). AreTaken took l count)
    (ap (λ (k : ℕ). map filled (last_ones k (within_range first_moment c.args.stamp (seen es)))) number ∙ sym (counted_last columns c.args.stamp c.args.n (seen es) less order.each)) (taken told es have))
    c.visit_last.ensures.taken

pub returns-else-n-lt0-clause-read : goal.returns-else-n-lt0-clause-read
returns-else-n-lt0-clause-read g c =
    let slot : ℕ = c.args.shelf.now.series in
    let columns : List Column = c.args.shelf.now.kind.now.columns in
    let took = λ (entries : List Entry). g.V.EntryVisitor.took columns c.args.visitor.now entries c.visit_range.new.visitor in
    let more : int_lt c.args.n (pos 0) ≡ false = sym (ap (λ (z : ℤ). int_lt z (pos 0)) (to_z-of_z w64 c.args.n c.ranges.n)) ∙ c.if-n-lt0.false in
    let number : c.unsigned_abs-most.result ≡ unsigned_abs c.args.n = c.unsigned_abs-most.ensures.value ∙ ap unsigned_abs (to_z-of_z w64 c.args.n c.ranges.n) in
    IfOk-weaker c.visit_range.result _ _
    (λ count taken told es have.
    let order = order_told slot columns (g.P.Pages.contents c.args.pages.now).page (places_of slot c.args.space.now) es have in
    subst (λ (l : List Entry). AreTaken took l count)
    ((λ j. map filled (take (number j) (within_range c.args.stamp (c.greatest-end.ensures j) (seen es)))) ∙ sym (counted_first columns c.args.stamp c.args.n (seen es) more order.each)) (taken told es have))
    c.visit_range.ensures.taken
