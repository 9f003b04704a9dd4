use Rattle.std.proofs.Common.{◌≡◌, ◌+◌, ◌-◌, ℕ, suc, ℤ, Some, List, drop, sym, ap, ◌∙◌, arith}
use Rattle.std.specs.Prelude.{slice_get}
use Rattle.ts_offset.specs.Grid.{stamp_of, starts_of}
use Rattle.ts_aggregate.proofs.PieceLemmas.{up_to_last, first_left, second_left}
use Rattle.ts_aggregate.proofs.run.usual_piece.Goals as goal

pub returns-then-not-is_before-clause-before : goal.returns-then-not-is_before-clause-before
returns-then-not-is_before-clause-before c = λ k s laid some low at.
    let n : ℕ = c.args.offset + (c.args.mostly - 1) in
    let starts : List ℤ = starts_of c.args.grid.now in
    let from : c.starts_from-starts.result ≡ drop n starts = c.starts_from-starts.ensures in
    let own : stamp_of c.args.grid.now n ≡ Some c.in_ok-last.last =
    sym (first_left starts n) ∙ ap (λ (l : List ℤ). slice_get l 0) (sym from) ∙ sym c.in_ok-last.ensures.start in
    up_to_last c.args.grid.now laid c.args.end n c.in_ok-last.last own (c.is_before.ensures.0 c.if-is_before.true) (c.args.offset + k) s
    (omega (arith, low)) at

pub returns-then-not-is_before-clause-next : goal.returns-then-not-is_before-clause-next
returns-then-not-is_before-clause-next c =
    let n : ℕ = c.args.offset + (c.args.mostly - 1) in
    let starts : List ℤ = starts_of c.args.grid.now in
    let from : c.starts_from-starts.result ≡ drop n starts = c.starts_from-starts.ensures in
    let left : c.next.new.self ≡ drop 1 (drop n starts) = c.in_ok-last.ensures.left ∙ ap (drop 1) from in
    let same : c.args.offset + c.args.mostly ≡ suc n = omega (arith, c.if-mostly-lt1.false) in
    ap (stamp_of c.args.grid.now) same ∙ sym (second_left starts n) ∙ ap (λ (l : List ℤ). slice_get l 0) (sym left)
    ∙ sym c.in_ok-next.ensures.start
