use Rattle.std.proofs.Common.{◌-◌, length}
use Rattle.ts_session_source.proofs.TextLemmas.{HasTaken}
use Rattle.ts_session_source.proofs.text.take_pieces.Given as goal

abbrev pub invariant-loop-text : goal.invariant-loop-text
invariant-loop-text g l = HasTaken g.R.Source.tells l.text (g.R.Source.input l.fn.source) (g.R.Source.input l.source)

abbrev pub decreases-loop-text : goal.decreases-loop-text
decreases-loop-text g l = 1048576 - length l.text
