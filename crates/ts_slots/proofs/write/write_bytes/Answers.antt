use Rattle.std.proofs.Common.{ap}
use Rattle.std.specs.Option.{option_copied}
use Rattle.ts_slots.proofs.WriteLemmas.{slot_cleared}
use Rattle.ts_slots.proofs.write.write_bytes.Goals as goal

pub returns-in-None : goal.returns-in-None
returns-in-None c = slot_cleared c.args.kind _ c.clear.new.slot _ (ap option_copied c.in-None.is) c.requires.room c.clear.ensures
