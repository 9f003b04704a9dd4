use Rattle.std.proofs.Common.{Ok, Err, ◌+◌, ◌≤◌, ◌∷◌, length, ap, sym, subst, arith, List, ℕ}
use Rattle.std.specs.Int.{to_be_bytes, w32}
use Rattle.ts_journal.specs.declared.batch.Change.{Change}
use Rattle.ts_journal.specs.Journal.{entry_bytes}
use Rattle.ts_journal.specs.Pen.{pending, Adds}
use Rattle.ts_journal.proofs.PenLemmas.{adds_failed, adds_then, adds_size, adds_within}
use Rattle.ts_journal.proofs.record.add_entry.Goals as goal

pub returns-in_err-add-in-Image : goal.returns-in_err-add-in-Image
returns-in_err-add-in-Image g c =
    let v = g.V.Volume.device c.args.vol.now in
    let w = g.V.Volume.device c.add.new.vol in
    let front = 1 ∷ to_be_bytes w32 c.args.no in
    subst (λ (change : Change). Adds g.V.Volume.tells (entry_bytes (c.args.no, change)) c.from_residual.result c.args.pen.now c.add.new.self v w) (sym c.in-Image.is)
    (adds_failed g.V.Volume.tells front c.in-Image.page.bytes c.in_err-add-in-Image.field-0.0 c.from_residual.result c.args.pen.now c.add.new.self c.add.new.self v w c.from_residual.ensures.0
    (subst (λ (l : List ℕ). Adds g.V.Volume.tells l (Err c.in_err-add-in-Image.field-0.0) c.args.pen.now c.add.new.self v w) c.front.ensures c.in_err-add-in-Image.ensures))

pub add-requires-in-Image-clause-room : goal.add-requires-in-Image-clause-room
add-requires-in-Image-clause-room g c =
    let v = g.V.Volume.device c.args.vol.now in
    let w = g.V.Volume.device c.add.new.vol in
    let here = adds_size g.V.Volume.tells c.front.result c.args.pen.now c.add.new.self v w c.in_ok-add-in-Image.ensures in
    let size = adds_within g.V.Volume.tells c.front.result c.args.pen.now c.add.new.self v w c.in_ok-add-in-Image.ensures in
    omega (arith, here, size, ap length c.front.ensures, ap (λ (change : Change). length (entry_bytes (c.args.no, change))) c.in-Image.is, c.requires)

pub returns-in_ok-add-in-Image : goal.returns-in_ok-add-in-Image
returns-in_ok-add-in-Image g c =
    let v = g.V.Volume.device c.args.vol.now in
    let w = g.V.Volume.device c.add.new.vol in
    let x = g.V.Volume.device c.add-in-Image.new.vol in
    let front = 1 ∷ to_be_bytes w32 c.args.no in
    let tail = c.in-Image.page.bytes in
    let room : c.args.pen.now.at + length (pending c.args.pen.now) + length front + length tail ≤ v.size =
    omega (arith, ap (λ (change : Change). length (entry_bytes (c.args.no, change))) c.in-Image.is, c.requires) in
    subst (λ (change : Change). Adds g.V.Volume.tells (entry_bytes (c.args.no, change)) c.add-in-Image.result c.args.pen.now c.add-in-Image.new.self v x) (sym c.in-Image.is)
    (adds_then g.V.Volume.tells front tail c.add-in-Image.result c.args.pen.now c.add.new.self c.add-in-Image.new.self v w x (g.met.V.Volume.lawful c.args.vol.now) room
    (subst (λ (l : List ℕ). Adds g.V.Volume.tells l (Ok tt) c.args.pen.now c.add.new.self v w) c.front.ensures c.in_ok-add-in-Image.ensures)
    c.add-in-Image.ensures)

pub returns-in-Free : goal.returns-in-Free
returns-in-Free g c =
    let v = g.V.Volume.device c.args.vol.now in
    let w = g.V.Volume.device c.add-in-Free.new.vol in
    subst (λ (change : Change). Adds g.V.Volume.tells (entry_bytes (c.args.no, change)) c.add-in-Free.result c.args.pen.now c.add-in-Free.new.self v w) (sym c.in-Free.is)
    (subst (λ (l : List ℕ). Adds g.V.Volume.tells l c.add-in-Free.result c.args.pen.now c.add-in-Free.new.self v w) c.front-in-Free.ensures c.add-in-Free.ensures)
