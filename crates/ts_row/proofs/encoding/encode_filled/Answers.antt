-- The bytes stand behind the first.
use Rattle.std.proofs.Common.{length, slice_set, length-set}
use Rattle.ts_row.proofs.EncodingLemmas.{put_behind_one}
use Rattle.ts_row.proofs.encoding.encode_filled.Goals as goal

pub returns : goal.returns
returns c =
    rw c.copy_from_slice.ensures.after
    (put_behind_one 1 (length (slice_set c.args.cell.now 0 1)) c.args.cell.now c.args.bytes.now c.requires (length-set c.args.cell.now 0 1))
