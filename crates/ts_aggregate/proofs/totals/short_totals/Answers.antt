use Rattle.std.proofs.Common.{to_z, of_z, ◌≡◌, ◌+◌, ◌-◌, ◌<◌, ◌^◌, ℕ, ℤ, pos, negsuc, List, [], map, sym, ap, subst, ◌∙◌, arith}
use Rattle.std.specs.Int.{w64}
use Rattle.std.proofs.lemmas.Int.{ints}
use Rattle.ts_aggregate.specs.declared.totals.Gathered.{Gathered}
use Rattle.ts_aggregate.specs.Column.{found_in, bytes_of}
use Rattle.ts_aggregate.specs.Totals.{number_of_size, sized_numbers, gathered}
use Rattle.ts_aggregate.proofs.CellsLemmas.{none_found}
use Rattle.ts_aggregate.proofs.TotalsLemmas.{SoFar, none_gathered, all_gathered}
use Rattle.ts_aggregate.proofs.GatheredLemmas.{AreGathered, one_gathered, none_more}
use Rattle.ts_aggregate.proofs.totals.short_totals.Goals as goal

pub loop-left-init : goal.loop-left-init
loop-left-init c =
    let none : 0 ≡ c.args.cells.left - c.args.cells.left - 0 = omega arith in
    let all : List ℤ = sized_numbers c.args.size c.args.cells in
    record {
      missing = omega arith;
      gathered = record {
        whole = c.requires.whole;
        few = omega arith;
        room = omega arith;
        gathered = subst (λ (n : ℕ). SoFar (2 ^ 63 - 1) all c.args.sought (gathered n (pos 0) (pos (2 ^ 63 - 1)) (negsuc (2 ^ 63 - 1))) all) none
            (none_gathered (2 ^ 63 - 1) all c.args.sought);
      };
    }

pub with_short_number-so_far-requires-clause-room : goal.with_short_number-so_far-requires-clause-room
with_short_number-so_far-requires-clause-room c =
    let i = c.loop-left.invariant in
    omega (arith, i.gathered.room, i.gathered.few, c.loop-left-test.true, c.requires.few)

pub loop-left-preserved-then-has_value_at : goal.loop-left-preserved-then-has_value_at
loop-left-preserved-then-has_value_at c =
    let s = c.args.cells.position in
    let left : ℕ = c.loop-left.left in
    let missing : ℕ = c.loop-left.missing in
    let total : ℕ = c.args.cells.left in
    let i = c.loop-left.invariant in
    let z : ℤ = to_z w64 (of_z w64 c.short_number_of_size-number.result) in
    let fits = c.short_number_of_size-number.type_inv in
    let same : z ≡ c.short_number_of_size-number.result = omega (arith, ints, fits) in
    let is : z ≡ number_of_size c.args.size (bytes_of s c.split_at.result.0.now) =
    same ∙ c.short_number_of_size-number.ensures.value ∙ ap (number_of_size c.args.size) c.bytes_of.ensures.value in
    let e = c.with_short_number-so_far.ensures in
    let some : 0 < left = omega (arith, c.loop-left-test.true) in
    let more : total - left - missing + 1 ≡ total - (left - 1) - missing = omega (arith, i.missing, some) in
    record {
      missing = omega (arith, i.missing);
      gathered = subst (λ (n : ℕ). AreGathered c.args.size c.args.sought c.args.cells (left - 1) c.split_at.result.1.now n c.with_short_number-so_far.result) more
          (one_gathered c.args.size c.args.sought c.args.cells left c.loop-left.bytes.now c.split_at.result.0.now c.split_at.result.1.now some
          c.split_at.ensures.front c.split_at.ensures.back c.split_at.ensures.back_len (total - left - missing) c.loop-left.so_far i.gathered
          c.with_short_number-so_far.result z (sym c.has_value_at.ensures ∙ c.if-has_value_at.true) is
          (omega (arith, ints, same, c.short_number_of_size-number.ensures.short)) e.sum e.least e.greatest);
    }

pub loop-left-preserved : goal.loop-left-preserved
loop-left-preserved c =
    let left : ℕ = c.loop-left.left in
    let missing : ℕ = c.loop-left.missing in
    let total : ℕ = c.args.cells.left in
    let i = c.loop-left.invariant in
    let some : 0 < left = omega (arith, c.loop-left-test.true) in
    let same : total - left - missing ≡ total - (left - 1) - (missing + 1) = omega (arith, i.missing, some) in
    record {
      missing = omega (arith, i.missing, some);
      gathered = subst (λ (n : ℕ). AreGathered c.args.size c.args.sought c.args.cells (left - 1) c.split_at.result.1.now n c.loop-left.so_far) same
          (none_more c.args.size c.args.sought c.args.cells left c.loop-left.bytes.now c.split_at.result.0.now c.split_at.result.1.now some
          c.split_at.ensures.front c.split_at.ensures.back c.split_at.ensures.back_len (total - left - missing) c.loop-left.so_far i.gathered
          (sym c.has_value_at.ensures ∙ c.if-has_value_at.false));
    }

pub totals_gathered-requires : goal.totals_gathered-requires
totals_gathered-requires c = omega (arith, c.requires.few, ap (λ (g : Gathered). g.count) c.widened.ensures)

pub returns-clause-known : goal.returns-clause-known
returns-clause-known c =
    let s = c.args.cells.position in
    let left : ℕ = c.loop-left.left in
    let missing : ℕ = c.loop-left.missing in
    let total : ℕ = c.args.cells.left in
    let bytes : List ℕ = c.loop-left.bytes.now in
    let i = c.loop-left.invariant in
    let was = c.loop-left.so_far in
    let none : found_in s left bytes ≡ [] = none_found s left bytes (omega (arith, c.loop-left-test.false)) in
    let e = c.totals_gathered.ensures in
    let count : total - left - missing ≡ total - missing = omega (arith, c.loop-left-test.false) in
    let all : SoFar (2 ^ 63 - 1) (sized_numbers c.args.size c.args.cells) c.args.sought (gathered (total - missing) was.sum was.least was.greatest) [] =
    subst (λ (n : ℕ). SoFar (2 ^ 63 - 1) (sized_numbers c.args.size c.args.cells) c.args.sought (gathered n was.sum was.least was.greatest) []) count
    (subst (λ (l : List (List ℕ)). SoFar (2 ^ 63 - 1) (sized_numbers c.args.size c.args.cells) c.args.sought
    (gathered (total - left - missing) was.sum was.least was.greatest) (map (number_of_size c.args.size) l)) none i.gathered.gathered) in
    all_gathered (2 ^ 63 - 1) (sized_numbers c.args.size c.args.cells) c.args.sought c.widened.result c.totals_gathered.result
    (subst (λ (g : Gathered). SoFar (2 ^ 63 - 1) (sized_numbers c.args.size c.args.cells) c.args.sought g []) (sym c.widened.ensures) all) e.count e.digits e.sum e.least e.greatest
