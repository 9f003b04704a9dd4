use Rattle.std.proofs.Common.{◌∙◌, refl, arith}
use Rattle.ts_entry.proofs.CallerLemmas.{stamp_read, room_for_stamp}
use Rattle.ts_entry.proofs.stamps.stamp_in.Goals as goal

pub returns-then-cell-lt-FRONT : goal.returns-then-cell-lt-FRONT
returns-then-cell-lt-FRONT c = λ at is bytes.
    let room = room_for_stamp c.args.cell.now at bytes in
    absurd (omega (arith, room, c.if-cell-lt-FRONT.true))

pub returns : goal.returns
returns c = λ at is bytes. c.of.ensures ∙ stamp_read c.args.cell.now c.units_at.result at 1 refl is bytes c.units_at.ensures
