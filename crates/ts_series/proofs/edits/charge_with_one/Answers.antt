use Rattle.std.proofs.Common.{arith}
use Rattle.ts_irregular.proofs.BytesLemmas.{room_some}
use Rattle.ts_series.proofs.edits.charge_with_one.Goals as goal

pub charge_irregular-requires-clause-page : goal.charge_irregular-requires-clause-page
charge_irregular-requires-clause-page c =
    let room = room_some c.args.shelf.now.kind.now.columns (omega (arith, c.width-width.ensures.value, c.width-width.ensures.bound)) in
    omega (arith, room, c.page_room.ensures.value)
