use Rattle.std.proofs.Common.{length}
use Rattle.ts_session_scripts.proofs.PieceLemmas.{IsRead}
use Rattle.ts_session_scripts.proofs.piece.pieces_of.Given as goal

abbrev pub invariant-loop-rest : goal.invariant-loop-rest
invariant-loop-rest l = IsRead l.script l.rest l.reader.place l.pieces.items

abbrev pub decreases-loop-rest : goal.decreases-loop-rest
decreases-loop-rest l = length l.rest
