use Rattle.std.proofs.Common.{◌≡◌, ◌+◌, ℕ, ℤ, Some, List, drop, sym, ap, ◌∙◌, arith}
use Rattle.std.specs.Prelude.{slice_get}
use Rattle.std.proofs.lemmas.Int.{ints}
use Rattle.ts_offset.specs.Grid.{stamp_of, starts_of}
use Rattle.ts_sheets.proofs.StartLemmas.{stamps_rise}
use Rattle.ts_aggregate.proofs.PieceLemmas.{first_left}
use Rattle.ts_aggregate.proofs.run.whole_piece.Goals as goal

pub returns-then-units-clause-before : goal.returns-then-units-clause-before
returns-then-units-clause-before c = λ k s laid some low at.
    let n : ℕ = c.args.offset + c.args.mostly in
    let starts : List ℤ = starts_of c.args.grid.now in
    let from : c.starts_from-starts.result ≡ drop n starts = c.starts_from-starts.ensures in
    let own : stamp_of c.args.grid.now n ≡ Some c.in_ok-next.next =
    sym (first_left starts n) ∙ ap (λ (l : List ℤ). slice_get l 0) (sym from) ∙ sym c.in_ok-next.ensures.start in
    let up = stamps_rise c.args.grid.now laid (c.args.offset + k) n s c.in_ok-next.next (omega (arith, low)) at own in
    omega (arith, ints, up, c.if-units.true, c.units.ensures.value, c.units.ensures.within, c.units-2.ensures.value, c.units-2.ensures.within)

pub returns-then-units-clause-next : goal.returns-then-units-clause-next
returns-then-units-clause-next c =
    let n : ℕ = c.args.offset + c.args.mostly in
    let starts : List ℤ = starts_of c.args.grid.now in
    let from : c.starts_from-starts.result ≡ drop n starts = c.starts_from-starts.ensures in
    sym (first_left starts n) ∙ ap (λ (l : List ℤ). slice_get l 0) (sym from) ∙ sym c.in_ok-next.ensures.start
