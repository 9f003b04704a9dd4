use Rattle.std.proofs.Common.{◌≡◌, ℕ, ◌+◌, ◌∷◌, List, length, ap, ◌∙◌, arith}
use Rattle.ts_row.proofs.RowBytesLemmas.{length-row_bytes}
use Rattle.ts_regular.proofs.BytesLemmas.{first_written}
use Rattle.ts_regular.proofs.cell.write_cell.Goals as goal

pub returns : goal.returns
returns c =
    let long : length c.encode.new.into + 1 ≡ length c.args.into.now = omega (arith, ap length c.encode.ensures, length-row_bytes c.args.kind.now.columns c.args.row.now c.requires.fits, c.requires.room) in
    first_written c.args.into.now c.encode.new.into 1 (omega (arith, c.requires.room)) long ∙ ap (λ (l : List ℕ). 1 ∷ l) c.encode.ensures
