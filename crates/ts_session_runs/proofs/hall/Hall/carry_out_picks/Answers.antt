use Rattle.std.proofs.Common.{◌<◌, Some, None, Result, List, [], length, get_or, subst, arith}
use Rattle.ts_items.specs.Items.{Item}
use Rattle.ts_multi.specs.Schedule.{order}
use Rattle.ts_carriers.specs.declared.fault.RunFault.{RunFault}
use Rattle.ts_session_scripts.specs.Script.{requests_left}
use Rattle.ts_session_scripts.proofs.CallerLemmas.{some_item}
use Rattle.ts_session_turns.specs.Hand.{hand}
use Rattle.ts_session_runs.specs.Hall.{TurnsRan}
use Rattle.ts_session_runs.proofs.HallLemmas.{behind_all, behind_more, behind_none, behind_stopped, falls_on}
use Rattle.ts_session_runs.proofs.TurnLemmas.{err_by}
use Rattle.ts_session_runs.proofs.hall.Hall.carry_out_picks.Goals as goal

pub loop-pick-init : goal.loop-pick-init
loop-pick-init g c =
    behind_none g.S.Volume.tells c.args.self.now.scripts.items c.args.picks.now (hand c.args.engine.now c.args.self.now.views c.args.self.now.log) (g.S.Volume.device c.args.site.now) (g.met.S.Volume.lawful c.args.site.now) c.requires.ready

pub returns-in_default : goal.returns-in_default
returns-in_default g c =
    let picks = c.args.picks.now in
    let index = c.loop-pick.pick-index in
    let left : List (List Item) = c.loop-pick.self.scripts.items in
    let within : index < length picks = omega arith in
    behind_all g.S.Volume.tells c.args.self.now.scripts.items picks index left (hand c.args.engine.now c.args.self.now.views c.args.self.now.log) (hand c.loop-pick.engine c.loop-pick.self.views c.loop-pick.self.log) (g.S.Volume.device c.args.site.now) (g.S.Volume.device c.loop-pick.site) c.loop-pick.invariant within
    (falls_on (get_or picks index 0) c.deref.result.now left c.next_session.result None c.deref.ensures.value c.next_session.ensures.chosen c.in_default.is)

pub returns-in_err-carry_out_next : goal.returns-in_err-carry_out_next
returns-in_err-carry_out_next g c =
    let tells = g.S.Volume.tells in
    let scripts : List (List Item) = c.args.self.now.scripts.items in
    let picks = c.args.picks.now in
    let index = c.loop-pick.pick-index in
    let left : List (List Item) = c.loop-pick.self.scripts.items in
    let within : index < length picks = omega arith in
    let who = c.in-Some.who in
    let some = subst (λ (l : List (List Item)). 0 < length (get_or l who [])) c.deref.ensures.value c.in-Some.ensures.waits.1 in
    let found = some_item (get_or left who []) some in
    let h = hand c.args.engine.now c.args.self.now.views c.args.self.now.log in
    let k = hand c.loop-pick.engine c.loop-pick.self.views c.loop-pick.self.log in
    let n = hand c.carry_out_next.new.engine c.carry_out_next.new.self.views c.carry_out_next.new.self.log in
    let v = g.S.Volume.device c.args.site.now in
    let x = g.S.Volume.device c.loop-pick.site in
    let w = g.S.Volume.device c.carry_out_next.new.site in
    let fault = c.in_err-carry_out_next.field-0.0 in
    err_by (λ (r : Result Unit RunFault). TurnsRan tells (order (requests_left scripts) picks) r h n v w) c.from_residual.result fault c.from_residual.ensures.1
    (behind_stopped tells scripts picks index left h k v x c.loop-pick.invariant within who found.0 found.1
    (falls_on (get_or picks index 0) c.deref.result.now left c.next_session.result (Some who) c.deref.ensures.value c.next_session.ensures.chosen c.in-Some.is) found.2 n w fault (c.in_err-carry_out_next.ensures.turn found.0 found.1 found.2))

pub loop-pick-preserved : goal.loop-pick-preserved
loop-pick-preserved g c =
    let tells = g.S.Volume.tells in
    let scripts : List (List Item) = c.args.self.now.scripts.items in
    let picks = c.args.picks.now in
    let index = c.loop-pick.pick-index in
    let left : List (List Item) = c.loop-pick.self.scripts.items in
    let within : index < length picks = omega arith in
    let who = c.in-Some.who in
    let there = subst (λ (l : List (List Item)). who < length l) c.deref.ensures.value c.in-Some.ensures.waits.0 in
    let some = subst (λ (l : List (List Item)). 0 < length (get_or l who [])) c.deref.ensures.value c.in-Some.ensures.waits.1 in
    let found = some_item (get_or left who []) some in
    let h = hand c.args.engine.now c.args.self.now.views c.args.self.now.log in
    let k = hand c.loop-pick.engine c.loop-pick.self.views c.loop-pick.self.log in
    let n = hand c.carry_out_next.new.engine c.carry_out_next.new.self.views c.carry_out_next.new.self.log in
    let v = g.S.Volume.device c.args.site.now in
    let x = g.S.Volume.device c.loop-pick.site in
    let w = g.S.Volume.device c.carry_out_next.new.site in
    behind_more tells scripts picks index left h k v x c.loop-pick.invariant within who found.0 found.1
    (falls_on (get_or picks index 0) c.deref.result.now left c.next_session.result (Some who) c.deref.ensures.value c.next_session.ensures.chosen c.in-Some.is) found.2 n w there (c.in_ok-carry_out_next.ensures.turn found.0 found.1 found.2)
    c.carry_out_next.new.self.scripts.items (c.in_ok-carry_out_next.ensures.scripts found.0 found.1 found.2)
