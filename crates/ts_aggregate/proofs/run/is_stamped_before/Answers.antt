use Rattle.std.proofs.Common.{to_z, of_z, w64, ◌≡◌, ◌+◌, ◌*◌, ℕ, ℤ, ◌<ℤ◌, true, List, take, drop, sym, ap, subst, ◌∙◌, arith}
use Rattle.std.specs.Prelude.{int_lt, slice_index}
use Rattle.std.specs.Int.{cast_signed, from_be_bytes}
use Rattle.std.proofs.lemmas.Int.{ints, to_z-of_z}
use Rattle.ts_calendar.proofs.StampLemmas.{int_lt-true}
use Rattle.ts_aggregate.proofs.run.is_stamped_before.Goals as goal

pub returns-then-cell-eq1 : goal.returns-then-cell-eq1
returns-then-cell-eq1 c = λ yes_.
    let cell : List ℕ = c.split_at.result.1.now in
    let fits = c.units_at.type_inv in
    let units : to_z w64 (of_z w64 c.units_at.result) ≡ c.units_at.result = omega (arith, ints, fits) in
    let limit : to_z w64 (of_z w64 c.args.limit) ≡ c.args.limit = to_z-of_z w64 c.args.limit c.ranges.limit in
    let test : int_lt c.units_at.result c.args.limit ≡ true =
    ap (λ (z : ℤ). int_lt z c.args.limit) (sym units) ∙ ap (int_lt (to_z w64 (of_z w64 c.units_at.result))) (sym limit) ∙ yes_ in
    let less = int_lt-true c.units_at.result c.args.limit test in
    let one : c.args.cells.size * 0 + 1 ≡ 1 = omega arith in
    let read : c.units_at.result ≡ cast_signed w64 (from_be_bytes w64 (take 8 (drop 1 cell))) =
    c.units_at.ensures ∙ ap (λ (n : ℕ). cast_signed w64 (from_be_bytes w64 (take 8 (drop n cell)))) one in
    record {
      there = ap (λ (l : List ℕ). slice_index l 0) (sym c.split_at.ensures.back) ∙ c.if-cell-eq1.true;
      before = subst (λ (l : List ℕ). cast_signed w64 (from_be_bytes w64 (take 8 (drop 1 l))) <ℤ c.args.limit) c.split_at.ensures.back
          (subst (λ (z : ℤ). z <ℤ c.args.limit) read less);
    }
