use Rattle.std.proofs.Common.{◌≡◌, ◌+◌, ℕ, ℤ, List, drop, sym, ap, ◌∙◌}
use Rattle.std.specs.Prelude.{slice_get}
use Rattle.ts_offset.specs.Grid.{starts_of}
use Rattle.ts_aggregate.proofs.PieceLemmas.{first_left}
use Rattle.ts_aggregate.proofs.run.lone_piece.Goals as goal

pub returns-clause-next : goal.returns-clause-next
returns-clause-next c =
    let n : ℕ = c.args.offset + 1 in
    let starts : List ℤ = starts_of c.args.grid.now in
    let from : c.starts_from-starts.result ≡ drop n starts = c.starts_from-starts.ensures in
    sym (first_left starts n) ∙ ap (λ (l : List ℤ). slice_get l 0) (sym from) ∙ sym c.in_ok-next.ensures.start
