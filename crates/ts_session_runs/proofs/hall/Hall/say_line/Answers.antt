use Rattle.ts_session_turns.specs.Hand.{hand}
use Rattle.ts_session_runs.proofs.TurnLemmas.{turn_line}
use Rattle.ts_session_runs.proofs.hall.Hall.say_line.Goals as goal

pub returns : goal.returns
returns g c = λ request step.
    turn_line g.S.Volume.tells c.args.who request c.args.line.now (hand c.args.engine.now c.args.self.now.views c.args.self.now.log) (g.S.Volume.device c.args.site.now) (g.S.Volume.device c.say_reply.new.site) c.say_reply.result (g.met.S.Volume.lawful c.args.site.now) c.requires.ready step c.say_reply.ensures.says c.say_reply.ensures.output
