use Rattle.std.proofs.Common.{◌≡◌, Result, Ok, Err, ◌∙◌, ap, subst}
use Rattle.ts_session_turns.specs.Engine.{StepFault}
use Rattle.ts_session_turns.specs.Faults as faults
use Rattle.ts_session_turns.specs.Hand.{hand}
use Rattle.ts_session_turns.specs.Turned.{Turned}
use Rattle.ts_session_runs.proofs.TurnLemmas.{command_stand_in, turn_answered, turn_failed, turn_wanting}
use Rattle.ts_session_runs.proofs.hall.Hall.carry_out_command.Goals as goal

pub returns-in-Ok-clause-turn : goal.returns-in-Ok-clause-turn
returns-in-Ok-clause-turn g c =
    let v = g.S.Volume.device c.args.site.now in
    let x = g.S.Volume.device c.answer.new.vol in
    let w = g.S.Volume.device c.say_reply.new.site in
    let h = hand c.args.engine.now c.args.self.now.views c.args.self.now.log in
    let k = hand c.answer.new.engine c.answer.new.views c.answer.new.log in
    turn_answered g.S.Volume.tells c.args.who (Ok c.args.command.now) h k v x w c.say_reply.result c.answer.new.out c.as_slice.result.now c.as_slice.ensures c.in-Ok.ensures c.say_reply.ensures.says c.say_reply.ensures.output

pub returns-in-Err-Memory-clause-turn : goal.returns-in-Err-Memory-clause-turn
returns-in-Err-Memory-clause-turn g c =
    let v = g.S.Volume.device c.args.site.now in
    let x = g.S.Volume.device c.answer.new.vol in
    let w = g.S.Volume.device c.say_reply-in-Err-Memory.new.site in
    let h = hand c.args.engine.now c.args.self.now.views c.args.self.now.log in
    let k = hand c.answer.new.engine c.answer.new.views c.answer.new.log in
    let is : ◌≡◌ {A = Result Unit StepFault} c.answer.result (Err (faults.Memory _)) = c.in-Err-Memory.is ∙ ap Err c.in-Err-Memory.field-0-is in
    turn_wanting g.S.Volume.tells c.args.who (Ok c.args.command.now) h k v x w c.say_reply-in-Err-Memory.result _ c.answer.new.out (command_stand_in c.args.who c.args.command.now)
    (subst (λ (r : Result Unit StepFault). Turned g.S.Volume.tells c.args.who (Ok c.args.command.now) r c.answer.new.out h k v x) is c.answer.ensures) c.say_reply-in-Err-Memory.ensures.says c.say_reply-in-Err-Memory.ensures.output

pub returns-in-Err-Disk-clause-turn : goal.returns-in-Err-Disk-clause-turn
returns-in-Err-Disk-clause-turn g c =
    let v = g.S.Volume.device c.args.site.now in
    let x = g.S.Volume.device c.answer.new.vol in
    let h = hand c.args.engine.now c.args.self.now.views c.args.self.now.log in
    let k = hand c.answer.new.engine c.answer.new.views c.answer.new.log in
    let is : ◌≡◌ {A = Result Unit StepFault} c.answer.result (Err faults.Disk) = c.in-Err-Disk.is ∙ ap Err c.in-Err-Disk.field-0-is in
    turn_failed g.S.Volume.tells c.args.who (Ok c.args.command.now) h k v x c.answer.new.out (subst (λ (r : Result Unit StepFault). Turned g.S.Volume.tells c.args.who (Ok c.args.command.now) r c.answer.new.out h k v x) is c.answer.ensures)

pub returns-in-Err-Closed-clause-turn : goal.returns-in-Err-Closed-clause-turn
returns-in-Err-Closed-clause-turn g c =
    let is : ◌≡◌ {A = Result Unit StepFault} c.answer.result (Err (faults.Closed _)) = c.in-Err-Closed.is ∙ ap Err c.in-Err-Closed.field-0-is in
    absurd (c.answer.ensures.closed _ is)
