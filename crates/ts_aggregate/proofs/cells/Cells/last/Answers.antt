use Rattle.std.proofs.Common.{◌-◌, List, ℕ, [], ◌∷◌, ◌++◌, length, append-nil, sym, ap, ◌∙◌, arith}
use Rattle.ts_aggregate.specs.Column.{found_in}
use Rattle.ts_aggregate.proofs.CellsLemmas.{one_less, one_fits, last_of, seen, unseen}
use Rattle.ts_aggregate.proofs.cells.Cells.last.Goals as goal

pub returns-then-has_value : goal.returns-then-has_value
returns-then-has_value c =
    let s = c.args.self.position in
    let left : ℕ = c.loop-left.left in
    let bytes : List ℕ = c.loop-left.bytes.now in
    let rest : List ℕ = c.split_at.result.0.now in
    let cell : List ℕ = c.split_at.result.1.now in
    let i = c.loop-left.invariant in
    record {
      before = found_in s (left - 1) rest;
      last = i.same
          ∙ last_of s left bytes rest cell (omega (arith, c.loop-left-test.true))
          i.whole.whole c.split_at.ensures.front c.split_at.ensures.back
          ∙ ap (λ (l : List (List ℕ)). found_in s (left - 1) rest ++ l) (seen s cell [] (sym c.has_value.ensures ∙ c.if-has_value.true))
          ∙ ap (λ (l : List ℕ). found_in s (left - 1) rest ++ l ∷ []) (sym c.bytes_of.ensures.value);
      size = c.bytes_of.ensures.size;
    }

pub loop-left-preserved : goal.loop-left-preserved
loop-left-preserved c =
    let s = c.args.self.position in
    let left : ℕ = c.loop-left.left in
    let bytes : List ℕ = c.loop-left.bytes.now in
    let rest : List ℕ = c.split_at.result.0.now in
    let cell : List ℕ = c.split_at.result.1.now in
    let i = c.loop-left.invariant in
    record {
      same = i.same
          ∙ last_of s left bytes rest cell (omega (arith, c.loop-left-test.true))
          i.whole.whole c.split_at.ensures.front c.split_at.ensures.back
          ∙ ap (λ (l : List (List ℕ)). found_in s (left - 1) rest ++ l) (unseen s cell [] (sym c.has_value.ensures ∙ c.if-has_value.false))
          ∙ append-nil (found_in s (left - 1) rest);
      whole = record {
        front = c.requires.front;
        place = c.requires.place;
        whole = one_less left s.size (length bytes) (length rest) (omega (arith, c.loop-left-test.true)) i.whole.whole
            (omega (
              arith,
              c.split_at.ensures.front_len,
              one_fits left s.size (length bytes)
                  (omega (arith, c.loop-left-test.true)) i.whole.whole,
            ));
      };
      fewer = omega (arith, i.fewer, c.loop-left-test.true);
    }
