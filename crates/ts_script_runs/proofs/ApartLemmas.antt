-- The replies to a script and the memory line tell one another apart.
use Rattle.std.proofs.Common.{◌≡◌, ℕ, List, Bool, true, false, cond, Option, Some, None}
use Rattle.ts_replies.specs.Acknowledged.{memory_line, TellsApart}
use Rattle.ts_replies.proofs.Apart.{by_memory_line}
use Rattle.ts_answer.specs.Answer.{may_lack_memory}
use Rattle.ts_answer.proofs.ApartLemmas as engine
use Rattle.ts_script_runs.specs.Script.{script}

-- the line that may stand is this one, if any may
the_line : (line other : List ℕ) (may : Bool) → cond {A = Option (List ℕ)} may (Some line) None ≡ Some other → other ≡ line
the_line line other true is = cc
the_line line other false is = absurd (cc)

pub apart : TellsApart script
apart = by_memory_line script engine.apart (λ request line is. the_line memory_line line (may_lack_memory request) is)
