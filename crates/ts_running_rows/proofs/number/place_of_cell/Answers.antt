-- A value that isn't NULL is a small number.
use Rattle.std.proofs.Common.{◌∙◌, ap, sym, Some, arith}
use Rattle.std.specs.Prelude.{ℤ, unsigned_abs}
use Rattle.std.specs.Int.{w128}
use Rattle.std.proofs.lemmas.Int.{to_z-of_z}
use Rattle.ts_running_rows.proofs.NumberLemmas.{place_told, small_told, small_fits}
use Rattle.ts_running_rows.proofs.number.place_of_cell.Goals as goal

pub returns-then-unsigned_abs-ge-TOO_LONG-clause-value : goal.returns-then-unsigned_abs-ge-TOO_LONG-clause-value
returns-then-unsigned_abs-ge-TOO_LONG-clause-value c = λ value is.
    let z = c.in_ok-number.number in
    let small = small_told c.args.kind c.args.cell.now value z c.requires.kind is (sym c.in_ok-number.ensures) in
    let same = ap unsigned_abs (to_z-of_z w128 z (small_fits z small)) in
    absurd (omega (arith, small, same, c.if-unsigned_abs-ge-TOO_LONG.true, c.unsigned_abs.ensures.value))

pub returns-clause-value : goal.returns-clause-value
returns-clause-value c = λ value is.
    let z = c.in_ok-number.number in
    let small = small_told c.args.kind c.args.cell.now value z c.requires.kind is (sym c.in_ok-number.ensures) in
    ap (λ (x : ℤ). Some x) (to_z-of_z w128 z (small_fits z small)) ∙ c.in_ok-number.ensures
    ∙ place_told c.args.kind c.args.cell.now value c.requires.kind is
