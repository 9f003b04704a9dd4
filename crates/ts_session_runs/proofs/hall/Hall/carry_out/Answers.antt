use Rattle.std.proofs.Common.{[], ◌∷◌, codes, Err, sym, subst}
use Rattle.ts_base.specs.declared.refusal.Refusal.TheVariants as refusals
use Rattle.ts_command.specs.Grammar.{request_of}
use Rattle.ts_session_scripts.specs.Piece.{item_of_piece}
use Rattle.ts_session_scripts.specs.declared.piece.Piece.{Piece}
use Rattle.ts_session_turns.specs.Hand.{hand}
use Rattle.ts_session_runs.specs.Carrier.{turn_of}
use Rattle.ts_session_runs.specs.Hall.{TurnsRan}
use Rattle.ts_session_runs.proofs.TurnLemmas.{refused_step, too_long_line, unended_line}
use Rattle.ts_session_runs.proofs.hall.Hall.carry_out.Goals as goal

pub returns-in-TooLong-clause-turn : goal.returns-in-TooLong-clause-turn
returns-in-TooLong-clause-turn g c =
    let v = g.S.Volume.device c.args.site.now in
    let w = g.S.Volume.device c.say_line.new.site in
    let h = hand c.args.engine.now c.args.self.now.views c.args.self.now.log in
    subst (λ (p : Piece). TurnsRan g.S.Volume.tells (turn_of c.args.who (request_of (item_of_piece p)) ∷ []) c.say_line.result h h v w) (sym c.in-TooLong.is)
    (c.say_line.ensures (Err refusals.TooLong) (refused_step c.args.who refusals.TooLong (codes "error 2 TooLong\n") too_long_line))

pub returns-in-Unended-clause-turn : goal.returns-in-Unended-clause-turn
returns-in-Unended-clause-turn g c =
    let v = g.S.Volume.device c.args.site.now in
    let w = g.S.Volume.device c.say_line-in-Unended.new.site in
    let h = hand c.args.engine.now c.args.self.now.views c.args.self.now.log in
    subst (λ (p : Piece). TurnsRan g.S.Volume.tells (turn_of c.args.who (request_of (item_of_piece p)) ∷ []) c.say_line-in-Unended.result h h v w) (sym c.in-Unended.is)
    (c.say_line-in-Unended.ensures (Err refusals.Unended) (refused_step c.args.who refusals.Unended (codes "error 3 Unended\n") unended_line))
