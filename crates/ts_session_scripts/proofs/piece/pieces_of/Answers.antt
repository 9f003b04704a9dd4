use Rattle.std.proofs.Common.{ℕ, List, sym, subst}
use Rattle.ts_items.proofs.RunLemmas.{rest_whole}
use Rattle.ts_session_scripts.proofs.PieceLemmas.{IsRead, read_more}
use Rattle.ts_session_scripts.proofs.piece.pieces_of.Goals as goal

pub loop-rest-preserved : goal.loop-rest-preserved
loop-rest-preserved c =
    let script = c.args.script.now in
    let rest : List ℕ = c.loop-rest.rest.now in
    let n = c.in_ok-taken.taken in
    let place = c.read_next.new.reader.place in
    let kept = c.read_next.new.pieces.items in
    subst (λ (l : List ℕ). IsRead script l place kept) (sym (rest_whole rest n))
    (read_more script rest c.loop-rest.reader.place place c.loop-rest.pieces.items kept n c.loop-rest.invariant c.in_ok-taken.ensures.items c.in_ok-taken.ensures.place)
