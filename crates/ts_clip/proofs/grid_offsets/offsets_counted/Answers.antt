use Rattle.std.proofs.Common.{◌≡◌, ℕ, ◌+◌, ◌-◌, min, ℤ, pos, w64, SFits, to_z, of_z, ap, sym, ◌∙◌}
use Rattle.std.specs.Prelude.{int_lt, unsigned_abs}
use Rattle.std.proofs.lemmas.Int.{to_z-of_z}
use Rattle.ts_clip.proofs.GridOffsetLemmas.{counted_from, counted_to}
use Rattle.ts_clip.proofs.grid_offsets.offsets_counted.Goals as goal

-- a number as it was passed
size : (n : ℤ) (many : ℕ) → SFits w64 n → many ≡ unsigned_abs (to_z w64 (of_z w64 n)) → many ≡ unsigned_abs n
size n many fits is = is ∙ ap unsigned_abs (to_z-of_z w64 n fits)

pub returns-then-n-lt0-clause-entries : goal.returns-then-n-lt0-clause-entries
returns-then-n-lt0-clause-entries c = λ entries at count.
    let n : ℤ = c.args.n in
    let many = size n c.unsigned_abs-many.result c.ranges.n c.unsigned_abs-many.ensures.value in
    counted_to c.args.grid.now c.requires.laid entries at c.args.stamp n c.offset_after.result c.saturating_sub-lower.result c.min-upper.result (ap (λ (z : ℤ). int_lt z (pos 0)) (sym (to_z-of_z w64 n c.ranges.n)) ∙ c.if-n-lt0.true) c.offset_after.ensures.after
    (c.min-upper.ensures ∙ ap (min c.offset_after.result) (sym count)) (c.saturating_sub-lower.ensures ∙ ap (λ (m : ℕ). c.min-upper.result - m) many)

pub returns-clause-entries : goal.returns-clause-entries
returns-clause-entries c = λ entries at count.
    let n : ℤ = c.args.n in
    let many = size n c.unsigned_abs-many.result c.ranges.n c.unsigned_abs-many.ensures.value in
    counted_from c.args.grid.now c.requires.laid entries at c.args.stamp n c.offset_from.result c.min-lower.result c.min-upper-2.result (ap (λ (z : ℤ). int_lt z (pos 0)) (sym (to_z-of_z w64 n c.ranges.n)) ∙ c.if-n-lt0.false) c.offset_from.ensures
    (c.min-lower.ensures ∙ ap (min c.offset_from.result) (sym count)) (c.min-upper-2.ensures ∙ (λ j. min (sym count j) (c.min-lower.result + many j)))
