use Rattle.std.proofs.Common.{◌≡◌, ℕ, ◌≤◌, List, length, sym, ◌∙◌, ap, subst, arith}
use Rattle.std.specs.List.{sum_by}
use Rattle.ts_items.specs.Items.{Item}
use Rattle.ts_command.specs.Grammar.{Request}
use Rattle.ts_multi.specs.Log.{Log}
use Rattle.ts_multi.specs.Schedule.{order, total}
use Rattle.ts_sessions.specs.Steps.{Turn}
use Rattle.ts_sessions.specs.Turns.{turns}
use Rattle.ts_session_scripts.specs.Script.{requests_left}
use Rattle.ts_session_scripts.proofs.CallerLemmas.{few_total}
use Rattle.ts_session_turns.specs.Hand.{Hand, hand}
use Rattle.ts_session_runs.specs.Hall.{TurnsRan}
use Rattle.ts_session_runs.specs.Ran.{SessionsOver}
use Rattle.ts_session_runs.proofs.RanLemmas.{asked_same, sessions_none, sessions_ran}
use Rattle.ts_session_runs.proofs.StartLemmas.{at_start}
use Rattle.ts_session_runs.proofs.run.run_sessions.Goals as goal

pub carry_out_picks-requires-clause-few : goal.carry_out_picks-requires-clause-few
carry_out_picks-requires-clause-few g c κs within =
    let sections : List (List ℕ) = c.args.sections.now in
    let none : length c.in-Ok.hall.log.commits ≡ 0 = ap (λ (l : Log). length l.commits) c.in-Ok.ensures.log in
    let all : total c.in-Ok.hall.scripts.items ≤ sum_by length sections =
    subst (λ (l : List (List Item)). total l ≤ sum_by length sections) (sym c.in-Ok.ensures.scripts) (few_total sections) in
    omega (arith, none, all, c.requires.short)

pub returns-in-Err : goal.returns-in-Err
returns-in-Err g c =
    sessions_none g.S.Volume.tells c.args.engine.now (length c.args.sections.now) (g.S.Volume.device c.args.site.now) (g.met.S.Volume.lawful c.args.site.now) (turns c.args.sections.now c.args.picks.now)

pub returns-in-Ok : goal.returns-in-Ok
returns-in-Ok g c =
    let tells = g.S.Volume.tells in
    let sections : List (List ℕ) = c.args.sections.now in
    let picks = c.args.picks.now in
    let e = c.args.engine.now in
    let v = g.S.Volume.device c.args.site.now in
    let w = g.S.Volume.device c.carry_out_picks.new.site in
    let k = hand c.carry_out_picks.new.engine c.carry_out_picks.new.self.views c.carry_out_picks.new.self.log in
    let begun : hand e c.in-Ok.hall.views c.in-Ok.hall.log ≡ at_start e (length sections) = λ i. hand e (c.in-Ok.ensures.views i) (c.in-Ok.ensures.log i) in
    let asked : order (requests_left c.in-Ok.hall.scripts.items) picks ≡ turns sections picks =
    ap (λ (l : List (List Item)). order (requests_left l) picks) c.in-Ok.ensures.scripts ∙ ap (λ (l : List (List Request)). order l picks) (asked_same sections) in
    subst (λ (s : ℕ). SessionsOver tells e s (length sections) (turns sections picks) v w) (sym c.status_at_end.ensures)
    (sessions_ran tells e (length sections) v (turns sections picks) c.carry_out_picks.result k w
    (subst (λ (l : List Turn). TurnsRan tells l c.carry_out_picks.result (at_start e (length sections)) k v w) asked
    (subst (λ (h : Hand). TurnsRan tells (order (requests_left c.in-Ok.hall.scripts.items) picks) c.carry_out_picks.result h k v w) begun c.carry_out_picks.ensures)))
