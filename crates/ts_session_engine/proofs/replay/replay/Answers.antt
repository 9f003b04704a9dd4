use Rattle.std.proofs.Common.{◌≡◌, ◌<◌, ◌≤◌, ◌+◌, ◌∷◌, ◌++◌, [], ℕ, Bool, Option, None, List, Ok, Err, true, false, length, take, drop, refl, ap, sym, ◌∙◌, subst, arith, take-append-drop}
use Rattle.std.proofs.lemmas.List.{take_all, take_more, length-take}
use Rattle.ts_command.specs.declared.command.Command.{Command}
use Rattle.ts_command.specs.declared.boundary.Boundary.{Boundary}
use Rattle.ts_command.specs.Boundary.{boundary_of, is_writing}
use Rattle.ts_command.specs.Form.{HasForm}
use Rattle.ts_session_engine.specs.Replayed.{Replays}
use Rattle.ts_session_engine.proofs.AttemptLemmas.{few_open, open_is}
use Rattle.ts_session_engine.proofs.ReplayLemmas.{refused_more, replays_by, replays_none, replays_then, stopped_more}
use Rattle.ts_session_engine.proofs.replay.replay.Goals as goal

-- there is place for one more behind those that were carried out
few_taken : (i : ℕ) (cs : List Command) → i < length cs → length cs ≤ 32 → 0 + length (take i cs) < 32
few_taken i cs below few = omega (arith, length-take i cs)

pub loop-command-init : goal.loop-command-init
loop-command-init g c = replays_none g.V.Volume.tells 0 c.args.out.now c.args.engine.now (g.V.Volume.device c.args.vol.now) (g.met.V.Volume.lawful c.args.vol.now) c.requires.ready c.requires.opened

pub loop-command-preserved : goal.loop-command-preserved
loop-command-preserved g c =
    let tells = g.V.Volume.tells in
    let i = c.loop-command.command-index in
    let cs = c.args.commands.now in
    let command = c.command-item.result in
    let inv = c.loop-command.invariant in
    let r = c.replay_one in
    let within : i < length cs = omega arith in
    let one = subst (λ (b : Bool). Replays tells (0 + length (take i cs)) (command ∷ []) (Ok b) r.new.out c.loop-command.engine r.new.engine (g.V.Volume.device c.loop-command.vol) (g.V.Volume.device r.new.vol)) c.if-not-accepted.false (c.in_ok-accepted.ensures (0 + length (take i cs)) (inv.all refl)) in
    subst (λ (list : List Command). Replays tells 0 list (Ok true) r.new.out c.args.engine.now r.new.engine (g.V.Volume.device c.args.vol.now) (g.V.Volume.device r.new.vol))
    (sym (take_more cs i command within ∙ ap (λ (k : Command). take i cs ++ k ∷ []) (sym c.command-item.is)))
    (replays_then tells 0 (take i cs) (command ∷ []) (Ok true) c.loop-command.out r.new.out c.args.engine.now c.loop-command.engine r.new.engine (g.V.Volume.device c.args.vol.now) (g.V.Volume.device c.loop-command.vol) (g.V.Volume.device r.new.vol) inv one)

pub returns-then-not-accepted : goal.returns-then-not-accepted
returns-then-not-accepted g c =
    let tells = g.V.Volume.tells in
    let i = c.loop-command.command-index in
    let cs = c.args.commands.now in
    let command = c.command-item.result in
    let inv = c.loop-command.invariant in
    let r = c.replay_one in
    let within : i < length cs = omega arith in
    let one = subst (λ (b : Bool). Replays tells (0 + length (take i cs)) (command ∷ []) (Ok b) r.new.out c.loop-command.engine r.new.engine (g.V.Volume.device c.loop-command.vol) (g.V.Volume.device r.new.vol)) c.if-not-accepted.true (c.in_ok-accepted.ensures (0 + length (take i cs)) (inv.all refl)) in
    let first = take i cs ++ command ∷ [] in
    let is : first ≡ take (i + 1) cs = sym (take_more cs i command within ∙ ap (λ (k : Command). take i cs ++ k ∷ []) (sym c.command-item.is)) in
    subst (λ (list : List Command). Replays tells 0 list (Ok false) r.new.out c.args.engine.now r.new.engine (g.V.Volume.device c.args.vol.now) (g.V.Volume.device r.new.vol))
    (ap (λ (list : List Command). list ++ drop (i + 1) cs) is ∙ take-append-drop (i + 1) cs)
    (refused_more tells 0 first (drop (i + 1) cs) r.new.out c.args.engine.now r.new.engine (g.V.Volume.device c.args.vol.now) (g.V.Volume.device r.new.vol)
    (replays_then tells 0 (take i cs) (command ∷ []) (Ok false) c.loop-command.out r.new.out c.args.engine.now c.loop-command.engine r.new.engine (g.V.Volume.device c.args.vol.now) (g.V.Volume.device c.loop-command.vol) (g.V.Volume.device r.new.vol) inv one))

pub returns-in_err-accepted : goal.returns-in_err-accepted
returns-in_err-accepted g c =
    let tells = g.V.Volume.tells in
    let i = c.loop-command.command-index in
    let cs = c.args.commands.now in
    let command = c.command-item.result in
    let inv = c.loop-command.invariant in
    let r = c.replay_one in
    let fault = c.in_err-accepted.field-0.0 in
    let one = c.in_err-accepted.ensures (0 + length (take i cs)) (inv.all refl) in
    replays_by tells 0 cs c.from_residual.result fault r.new.out c.args.engine.now r.new.engine (g.V.Volume.device c.args.vol.now) (g.V.Volume.device r.new.vol) c.from_residual.ensures.1
    (stopped_more tells 0 (take i cs ++ command ∷ []) cs fault r.new.out c.args.engine.now r.new.engine (g.V.Volume.device c.args.vol.now) (g.V.Volume.device r.new.vol)
    (replays_then tells 0 (take i cs) (command ∷ []) (Err fault) c.loop-command.out r.new.out c.args.engine.now c.loop-command.engine r.new.engine (g.V.Volume.device c.args.vol.now) (g.V.Volume.device c.loop-command.vol) (g.V.Volume.device r.new.vol) inv one))

pub returns : goal.returns
returns g c =
    let cs = c.args.commands.now in
    let all : length cs ≤ c.loop-command.command-index = omega arith in
    subst (λ (list : List Command). Replays g.V.Volume.tells 0 list (Ok true) c.loop-command.out c.args.engine.now c.loop-command.engine (g.V.Volume.device c.args.vol.now) (g.V.Volume.device c.loop-command.vol))
    (take_all c.loop-command.command-index cs all) c.loop-command.invariant

pub replay_one-requires-clause-ready : goal.replay_one-requires-clause-ready
replay_one-requires-clause-ready g c κs _ = c.loop-command.invariant.ready

pub replay_one-requires-clause-opened : goal.replay_one-requires-clause-opened
replay_one-requires-clause-opened g c κs _ =
    let i = c.loop-command.command-index in
    open_is (0 + length (take i c.args.commands.now)) c.loop-command.engine (c.loop-command.invariant.all refl)

pub replay_one-requires-clause-room : goal.replay_one-requires-clause-room
replay_one-requires-clause-room g c κs _ =
    let i = c.loop-command.command-index in
    let cs = c.args.commands.now in
    let below : i < length cs = omega arith in
    few_open (0 + length (take i cs)) c.loop-command.engine (c.loop-command.invariant.all refl) (few_taken i cs below c.requires.commands.few)

pub replay_one-requires-clause-writing : goal.replay_one-requires-clause-writing
replay_one-requires-clause-writing g c κs _ =
    let i = c.loop-command.command-index in
    let command = c.command-item.result in
    let below : i < length c.args.commands.now = omega arith in
    subst (λ (k : Command). is_writing k ≡ true) (sym c.command-item.is) (c.requires.commands.writing i command below)

pub replay_one-requires-clause-between : goal.replay_one-requires-clause-between
replay_one-requires-clause-between g c κs _ =
    let i = c.loop-command.command-index in
    let command = c.command-item.result in
    let below : i < length c.args.commands.now = omega arith in
    subst (λ (k : Command). ◌≡◌ {A = Option Boundary} (boundary_of k) None) (sym c.command-item.is) (c.requires.commands.between i command below)

pub replay_one-requires-clause-form : goal.replay_one-requires-clause-form
replay_one-requires-clause-form g c κs _ =
    let i = c.loop-command.command-index in
    let command = c.command-item.result in
    let below : i < length c.args.commands.now = omega arith in
    subst HasForm (sym c.command-item.is) (c.requires.commands.form i command below)
