use Rattle.std.proofs.Common.{arith}
use Rattle.ts_irregular.proofs.BytesLemmas.{room_some}
use Rattle.ts_elements.proofs.room.charge_now.Goals as goal

pub charge_of_places-requires-clause-room : goal.charge_of_places-requires-clause-room
charge_of_places-requires-clause-room c =
    let room = room_some c.args.shelf.now.kind.now.columns (omega (arith, c.width-width.ensures.value, c.width-width.ensures.bound)) in
    omega (arith, room, c.page_room.ensures.value)
