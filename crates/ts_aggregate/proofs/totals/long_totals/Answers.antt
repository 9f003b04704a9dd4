use Rattle.std.proofs.Common.{to_z, of_z, ◌≡◌, ◌-◌, ◌<◌, ◌^◌, ℕ, ℤ, List, [], ◌∷◌, length, map, sym, ap, subst, ◌∙◌, arith}
use Rattle.std.specs.Int.{w128}
use Rattle.std.proofs.lemmas.Int.{ints}
use Rattle.std.proofs.lemmas.List.{length-map}
use Rattle.ts_aggregate.specs.Column.{found_in, bytes_of}
use Rattle.ts_aggregate.specs.Totals.{number_of_size, sized_numbers, gathered}
use Rattle.ts_aggregate.proofs.CellsLemmas.{one_less, one_fits, first_of, seen, unseen, found-le, none_found}
use Rattle.ts_aggregate.proofs.TotalsLemmas.{SoFar, none_gathered, more_gathered, all_gathered}
use Rattle.ts_aggregate.proofs.totals.long_totals.Goals as goal

pub loop-left-init : goal.loop-left-init
loop-left-init c = record {
  whole = c.requires.whole;
  gathered = none_gathered (2 ^ 127 - 1) (sized_numbers c.args.size c.args.cells) c.args.sought;
}

pub with_number-so_far-requires : goal.with_number-so_far-requires
with_number-so_far-requires c =
    let s = c.args.cells.position in
    let left : ℕ = c.loop-left.left in
    let bytes : List ℕ = c.loop-left.bytes.now in
    let cell : List ℕ = c.split_at.result.0.now in
    let rest : List ℕ = c.split_at.result.1.now in
    let i = c.loop-left.invariant in
    let split : found_in s left bytes ≡ bytes_of s cell ∷ found_in s (left - 1) rest =
    first_of s left bytes cell rest (omega (arith, c.loop-left-test.true)) c.split_at.ensures.front c.split_at.ensures.back
    ∙ seen s cell (found_in s (left - 1) rest) (sym c.has_value_at.ensures ∙ c.if-has_value_at.true) in
    omega (
      arith,
      i.gathered.count,
      ap length split,
      length-map (found_in s left bytes) (number_of_size c.args.size),
      length-map (found_in s c.args.cells.left c.args.cells.bytes.now) (number_of_size c.args.size),
      found-le s c.args.cells.left c.args.cells.bytes.now,
      c.requires.few,
    )

pub totals_gathered-requires : goal.totals_gathered-requires
totals_gathered-requires c =
    let s = c.args.cells.position in
    let i = c.loop-left.invariant in
    omega (
      arith,
      i.gathered.count,
      length-map (found_in s c.args.cells.left c.args.cells.bytes.now) (number_of_size c.args.size),
      found-le s c.args.cells.left c.args.cells.bytes.now,
      c.requires.few,
    )

pub loop-left-preserved-then-has_value_at : goal.loop-left-preserved-then-has_value_at
loop-left-preserved-then-has_value_at c =
    let s = c.args.cells.position in
    let left : ℕ = c.loop-left.left in
    let bytes : List ℕ = c.loop-left.bytes.now in
    let cell : List ℕ = c.split_at.result.0.now in
    let rest : List ℕ = c.split_at.result.1.now in
    let i = c.loop-left.invariant in
    let some : 0 < left = omega (arith, c.loop-left-test.true) in
    let split : found_in s left bytes ≡ bytes_of s cell ∷ found_in s (left - 1) rest =
    first_of s left bytes cell rest some c.split_at.ensures.front c.split_at.ensures.back
    ∙ seen s cell (found_in s (left - 1) rest) (sym c.has_value_at.ensures ∙ c.if-has_value_at.true) in
    let z : ℤ = to_z w128 (of_z w128 c.number_of_size-number.result) in
    let fits = c.number_of_size-number.type_inv in
    let same : z ≡ c.number_of_size-number.result = omega (arith, ints, fits) in
    let is : z ≡ number_of_size c.args.size (bytes_of s cell) = same ∙ c.number_of_size-number.ensures ∙ ap (number_of_size c.args.size) c.bytes_of.ensures.value in
    let e = c.with_number-so_far.ensures in
    let was = c.loop-left.so_far in
    let now = c.with_number-so_far.result in
    record {
      whole = record {
        front = i.whole.front;
        place = i.whole.place;
        whole = one_less left s.size (length bytes) (length rest) some i.whole.whole
            (omega (arith, c.split_at.ensures.back_len, one_fits left s.size (length bytes) some i.whole.whole));
      };
      gathered = more_gathered (2 ^ 127 - 1) (sized_numbers c.args.size c.args.cells) c.args.sought (gathered was.count was.sum was.least was.greatest)
          (gathered now.count now.sum now.least now.greatest) z (map (number_of_size c.args.size) (found_in s left bytes))
          (map (number_of_size c.args.size) (found_in s (left - 1) rest)) i.gathered
          (ap (map (number_of_size c.args.size)) split ∙ ap (λ (x : ℤ). x ∷ map (number_of_size c.args.size) (found_in s (left - 1) rest)) (sym is))
          (omega (arith, ints, same, fits)) (omega (arith, ints, same, fits)) e.count e.sum e.least e.greatest;
    }

pub loop-left-preserved : goal.loop-left-preserved
loop-left-preserved c =
    let s = c.args.cells.position in
    let left : ℕ = c.loop-left.left in
    let bytes : List ℕ = c.loop-left.bytes.now in
    let cell : List ℕ = c.split_at.result.0.now in
    let rest : List ℕ = c.split_at.result.1.now in
    let i = c.loop-left.invariant in
    let was = c.loop-left.so_far in
    let some : 0 < left = omega (arith, c.loop-left-test.true) in
    let same : found_in s left bytes ≡ found_in s (left - 1) rest =
    first_of s left bytes cell rest some c.split_at.ensures.front c.split_at.ensures.back
    ∙ unseen s cell (found_in s (left - 1) rest) (sym c.has_value_at.ensures ∙ c.if-has_value_at.false) in
    record {
      whole = record {
        front = i.whole.front;
        place = i.whole.place;
        whole = one_less left s.size (length bytes) (length rest) some i.whole.whole
            (omega (arith, c.split_at.ensures.back_len, one_fits left s.size (length bytes) some i.whole.whole));
      };
      gathered = subst (λ (l : List (List ℕ)). SoFar (2 ^ 127 - 1) (sized_numbers c.args.size c.args.cells) c.args.sought
          (gathered was.count was.sum was.least was.greatest) (map (number_of_size c.args.size) l)) same i.gathered;
    }

pub returns-clause-known : goal.returns-clause-known
returns-clause-known c =
    let s = c.args.cells.position in
    let left : ℕ = c.loop-left.left in
    let bytes : List ℕ = c.loop-left.bytes.now in
    let i = c.loop-left.invariant in
    let was = c.loop-left.so_far in
    let none : found_in s left bytes ≡ [] = none_found s left bytes (omega (arith, c.loop-left-test.false)) in
    let e = c.totals_gathered.ensures in
    let all : SoFar (2 ^ 127 - 1) (sized_numbers c.args.size c.args.cells) c.args.sought (gathered was.count was.sum was.least was.greatest) [] =
    subst (λ (l : List (List ℕ)). SoFar (2 ^ 127 - 1) (sized_numbers c.args.size c.args.cells) c.args.sought
    (gathered was.count was.sum was.least was.greatest) (map (number_of_size c.args.size) l)) none i.gathered in
    all_gathered (2 ^ 127 - 1) (sized_numbers c.args.size c.args.cells) c.args.sought was c.totals_gathered.result
    all e.count e.digits e.sum e.least e.greatest
