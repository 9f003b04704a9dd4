use Rattle.std.proofs.Common.{ℕ, ◌+◌, ◌++◌, List, Result, Ok, Err, subst}
use Rattle.ts_disk.specs.Device.{Says}
use Rattle.ts_sessions.specs.Steps.{session_line}
use Rattle.ts_carriers.specs.declared.fault.RunFault.{RunFault}
use Rattle.ts_carriers.specs.Run.{SaysReply}
use Rattle.ts_carriers.proofs.CallerLemmas.{reply_both, reply_front, reply_said}
use Rattle.ts_session_runs.proofs.TurnLemmas.{err_by}
use Rattle.ts_session_runs.proofs.hall.say_reply.Goals as goal

pub returns-in_err-say-clause-says : goal.returns-in_err-say-clause-says
returns-in_err-say-clause-says g c =
    let tells = g.S.Volume.tells in
    let v = g.S.Volume.device c.args.site.now in
    let x = g.S.Volume.device c.say.new.site in
    let line : List ℕ = session_line (c.args.who + 1) in
    let reply : List ℕ = c.args.reply.now in
    let fault = c.in_err-say.field-0.0 in
    err_by (λ (r : Result Unit RunFault). SaysReply tells (line ++ reply) r v x) c.from_residual.result fault c.from_residual.ensures.1
    (reply_front tells line reply fault v x (reply_said tells line v x (Err fault) (subst (λ (l : List ℕ). Says {E = RunFault} tells l (Err fault) v x) c.session_line.ensures c.in_err-say.ensures.says)))

pub returns-clause-says : goal.returns-clause-says
returns-clause-says g c =
    let tells = g.S.Volume.tells in
    let v = g.S.Volume.device c.args.site.now in
    let x = g.S.Volume.device c.say.new.site in
    let w = g.S.Volume.device c.say-2.new.site in
    let line : List ℕ = session_line (c.args.who + 1) in
    let reply : List ℕ = c.args.reply.now in
    reply_both tells line reply v x w
    (reply_said tells line v x (Ok (tt {0})) (subst (λ (l : List ℕ). Says {E = RunFault} tells l (Ok (tt {0})) v x) c.session_line.ensures c.in_ok-say.ensures.says))
    c.say-2.result (reply_said tells reply x w c.say-2.result c.say-2.ensures.says)
