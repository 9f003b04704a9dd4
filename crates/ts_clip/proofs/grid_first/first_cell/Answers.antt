use Rattle.std.proofs.Common.{◌≡◌, ◌<◌, ℕ, false, length, inl, inr, sym, subst, ◌∙◌, arith}
use Rattle.std.proofs.lemmas.Bool.{cases_lt}
use Rattle.ts_regular.specs.OnePage.{cell_at, is_seen}
use Rattle.ts_regular.proofs.BytesLemmas.{around}
use Rattle.ts_clip.proofs.grid_first.first_cell.Goals as goal

pub loop-index-preserved : goal.loop-index-preserved
loop-index-preserved c = λ cells are room same other below.
    let index : ℕ = c.loop-index.index in
    let small : index < length cells = omega (arith, room, c.loop-index-test.true, c.regular_room-index-end.ensures.value) in
    let a = around c.args.kind.now.columns index cells are small in
    elim (cases_lt other index) [
      | inl before ↦ c.loop-index.invariant cells are room same other before
      | inr after ↦
          let one : index ≡ other = omega (arith, below, after) in
          subst (λ (n : ℕ). is_seen (cell_at cells n) ≡ false) one (sym (c.is_seen.ensures (cell_at cells index) a.fit (c.cell_of.ensures.bytes cells are small same)) ∙ c.if-is_seen.false)
    ]

pub returns-then-is_seen-clause-first : goal.returns-then-is_seen-clause-first
returns-then-is_seen-clause-first c = λ cells are room same.
    let index : ℕ = c.loop-index.index in
    let small : index < length cells = omega (arith, room, c.loop-index-test.true, c.regular_room-index-end.ensures.value) in
    let a = around c.args.kind.now.columns index cells are small in
    (sym (c.is_seen.ensures (cell_at cells index) a.fit (c.cell_of.ensures.bytes cells are small same)) ∙ c.if-is_seen.true, c.loop-index.invariant cells are room same)
