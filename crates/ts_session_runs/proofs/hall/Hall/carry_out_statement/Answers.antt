use Rattle.std.proofs.Common.{[], ◌∷◌, codes, inr, Err, refl, sym, ap, subst}
use Rattle.ts_base.specs.declared.refusal.Refusal.{Refusal}
use Rattle.ts_base.specs.declared.refusal.Refusal.TheVariants as refusals
use Rattle.ts_command.specs.Grammar.{command_of, Request, or_syntax}
use Rattle.ts_session_turns.specs.Hand.{hand}
use Rattle.ts_session_runs.specs.Carrier.{turn_of}
use Rattle.ts_session_runs.specs.Hall.{TurnsRan}
use Rattle.ts_session_runs.proofs.TurnLemmas.{refused_step, statement_stand_in, syntax_at, syntax_line}
use Rattle.ts_session_runs.proofs.hall.Hall.carry_out_statement.Goals as goal

pub returns-in-Ok-clause-turn : goal.returns-in-Ok-clause-turn
returns-in-Ok-clause-turn g c =
    let v = g.S.Volume.device c.args.site.now in
    let w = g.S.Volume.device c.carry_out_read.new.site in
    let h = hand c.args.engine.now c.args.self.now.views c.args.self.now.log in
    let k = hand c.carry_out_read.new.engine c.carry_out_read.new.self.views c.carry_out_read.new.self.log in
    subst (λ (r : Request). TurnsRan g.S.Volume.tells (turn_of c.args.who r ∷ []) c.carry_out_read.result h k v w) (sym (ap or_syntax c.in-Ok.ensures.ok)) c.carry_out_read.ensures.turn

pub returns-in-Err-Refused-clause-turn : goal.returns-in-Err-Refused-clause-turn
returns-in-Err-Refused-clause-turn g c =
    let v = g.S.Volume.device c.args.site.now in
    let w = g.S.Volume.device c.say_line.new.site in
    let h = hand c.args.engine.now c.args.self.now.views c.args.self.now.log in
    let found = syntax_at _ _ (command_of c.args.text.now) c.in-Err-Refused.field-0-is c.in-Err-Refused.ensures.cause in
    let refusal : Refusal = refusals.Syntax found.0 in
    subst (λ (r : Request). TurnsRan g.S.Volume.tells (turn_of c.args.who r ∷ []) c.say_line.result h h v w) (sym (ap or_syntax found.1))
    (c.say_line.ensures (Err refusal) (refused_step c.args.who refusal (codes "error 1 Syntax\n") (syntax_line found.0)))

pub returns-in-Err-Memory-clause-turn : goal.returns-in-Err-Memory-clause-turn
returns-in-Err-Memory-clause-turn g c =
    c.say_line-in-Err-Memory.ensures (or_syntax (command_of c.args.text.now)) (λ m. inr (statement_stand_in c.args.who (command_of c.args.text.now), refl))
