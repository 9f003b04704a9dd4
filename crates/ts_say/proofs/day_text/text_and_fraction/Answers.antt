-- The bytes of both, one by one.
use Rattle.std.proofs.Common.{◌++◌, [], ◌∷◌, arith}
use Rattle.ts_say.proofs.DayLemmas.{bytes_at-is}
use Rattle.ts_say.proofs.day_text.text_and_fraction.Goals as goal

pub returns : goal.returns
returns c =
    let before = bytes_at-is c.args.text.now 0 19 (omega arith) in
    let fraction = bytes_at-is c.args.fraction.now 0 5 (omega arith) in
    λ j. before j ++ 46 ∷ fraction j ++ 32 ∷ []
