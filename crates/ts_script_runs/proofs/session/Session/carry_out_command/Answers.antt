use Rattle.std.proofs.Common.{◌≡◌, ℕ, List, Result, Ok, Err, sym, ◌∙◌, ap, subst}
use Rattle.ts_opening.specs.Engine.{StepFault}
use Rattle.ts_opening.specs.Faults as faults
use Rattle.ts_replies.specs.Acknowledged.{memory_line}
use Rattle.ts_carriers.proofs.CallerLemmas.{Steps, said_ran}
use Rattle.ts_script_runs.proofs.ItemLemmas.{steady, steps_done, steps_wanting, failed_ran, never_closed}
use Rattle.ts_script_runs.specs.Script.{script, by_engine}
use Rattle.ts_script_runs.proofs.session.Session.carry_out_command.Goals as goal

pub returns-in-Ok-clause-ran : goal.returns-in-Ok-clause-ran
returns-in-Ok-clause-ran g c =
    let tells = g.S.Volume.tells in
    let v = g.S.Volume.device c.args.site.now in
    let x = g.S.Volume.device c.step.new.vol in
    let w = g.S.Volume.device c.say.new.site in
    let e = c.args.self.now.engine in
    let f = c.step.new.self in
    let line : List ℕ = c.as_slice.result.now in
    let steps = steps_done tells c.args.command.now c.step.new.out e f v x (c.in-Ok.ensures.stepped c.requires.ready.unspent) in
    said_ran (by_engine tells) script (steady tells) (Ok c.args.command.now) line e f v x (subst (λ (l : List ℕ). Steps (by_engine tells) script (Ok c.args.command.now) l e f v x) (sym c.as_slice.ensures) steps) w c.say.result c.say.ensures.says c.say.ensures.output

pub returns-in-Err-Memory-clause-ran : goal.returns-in-Err-Memory-clause-ran
returns-in-Err-Memory-clause-ran g c =
    let tells = g.S.Volume.tells in
    let v = g.S.Volume.device c.args.site.now in
    let x = g.S.Volume.device c.step.new.vol in
    let w = g.S.Volume.device c.say-in-Err-Memory.new.site in
    let e = c.args.self.now.engine in
    let f = c.step.new.self in
    let is : ◌≡◌ {A = Result Unit StepFault} c.step.result (Err (faults.Memory _)) = c.in-Err-Memory.is ∙ ap Err c.in-Err-Memory.field-0-is in
    said_ran (by_engine tells) script (steady tells) (Ok c.args.command.now) memory_line e f v x (steps_wanting tells c.args.command.now c.step.result _ c.step.new.out e f v x is (c.step.ensures.stepped c.requires.ready.unspent)) w c.say-in-Err-Memory.result c.say-in-Err-Memory.ensures.says c.say-in-Err-Memory.ensures.output

pub returns-in-Err-Disk-clause-ran : goal.returns-in-Err-Disk-clause-ran
returns-in-Err-Disk-clause-ran g c =
    let is : ◌≡◌ {A = Result Unit StepFault} c.step.result (Err faults.Disk) = c.in-Err-Disk.is ∙ ap Err c.in-Err-Disk.field-0-is in
    failed_ran g.S.Volume.tells c.args.command.now c.step.result c.step.new.out c.args.self.now.engine c.step.new.self (g.S.Volume.device c.args.site.now) (g.S.Volume.device c.step.new.vol) is (c.step.ensures.stepped c.requires.ready.unspent)

pub returns-in-Err-Closed-clause-ran : goal.returns-in-Err-Closed-clause-ran
returns-in-Err-Closed-clause-ran g c =
    let is : ◌≡◌ {A = Result Unit StepFault} c.step.result (Err (faults.Closed _)) = c.in-Err-Closed.is ∙ ap Err c.in-Err-Closed.field-0-is in
    absurd (never_closed g.S.Volume.tells c.args.command.now c.step.result _ c.step.new.out c.args.self.now.engine c.step.new.self (g.S.Volume.device c.args.site.now) (g.S.Volume.device c.step.new.vol) is (c.step.ensures.stepped c.requires.ready.unspent))
