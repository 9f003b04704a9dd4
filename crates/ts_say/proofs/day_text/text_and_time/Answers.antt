-- The bytes of all, one by one.
use Rattle.std.proofs.Common.{◌++◌, arith}
use Rattle.ts_say.proofs.DayLemmas.{bytes_at-is}
use Rattle.ts_say.proofs.day_text.text_and_time.Goals as goal

pub returns : goal.returns
returns c =
    let day = bytes_at-is c.args.text.now 0 11 (omega arith) in
    let hour = bytes_at-is c.args.hour.now 0 2 (omega arith) in
    let colon = bytes_at-is c.args.text.now 13 1 (omega arith) in
    let minute = bytes_at-is c.args.minute.now 0 2 (omega arith) in
    let next = bytes_at-is c.args.text.now 16 1 (omega arith) in
    let second = bytes_at-is c.args.second.now 0 2 (omega arith) in
    let rest = bytes_at-is c.args.text.now 19 7 (omega arith) in
    λ j. day j ++ hour j ++ colon j ++ minute j ++ next j ++ second j ++ rest j
