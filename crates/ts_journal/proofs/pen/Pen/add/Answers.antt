use Rattle.std.proofs.Common.{[], Ok, arith}
use Rattle.ts_journal.proofs.PenLemmas.{adds_failed, adds_then, held}
use Rattle.ts_journal.proofs.pen.Pen.add.Goals as goal

pub returns-in_err-make_room : goal.returns-in_err-make_room
returns-in_err-make_room g c =
    adds_failed g.V.Volume.tells [] c.args.piece.now c.in_err-make_room.field-0.0 c.from_residual.result c.args.self.now c.make_room.new.self c.make_room.new.self
    (g.V.Volume.device c.args.vol.now) (g.V.Volume.device c.make_room.new.vol) c.from_residual.ensures.0 c.in_err-make_room.ensures.written

pub returns : goal.returns
returns g c =
    let v = g.V.Volume.device c.args.vol.now in
    let w = g.V.Volume.device c.make_room.new.vol in
    adds_then g.V.Volume.tells [] c.args.piece.now (Ok tt) c.args.self.now c.make_room.new.self c.hold.new.self v w w (g.met.V.Volume.lawful c.args.vol.now) (omega (arith, c.requires.room))
    c.in_ok-make_room.ensures.written
    (held g.V.Volume.tells c.args.piece.now c.make_room.new.self c.hold.new.self w (g.met.V.Volume.lawful c.make_room.new.vol) c.hold.ensures.pending c.hold.ensures.place)
