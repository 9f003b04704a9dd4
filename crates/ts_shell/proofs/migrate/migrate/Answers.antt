use Rattle.std.proofs.Common.{◌≡◌, ◌∙◌, ℕ, Result, Err, sym, subst, ap}
use Rattle.ts_opening.specs.Engine.{StepFault}
use Rattle.ts_opening.specs.Faults as step
use Rattle.ts_opening.specs.Engine.{Migrated}
use Rattle.ts_shell.specs.Migrating.{MigrateRan}
use Rattle.ts_shell.proofs.MigratingLemmas.{unmigrated, all_migrated, disk_failed, wanting}
use Rattle.ts_shell.proofs.migrate.migrate.Goals as goal

pub returns-in-Err : goal.returns-in-Err
returns-in-Err g c =
    let tells = g.S.Volume.tells in
    let v = g.S.Volume.device c.args.site.now in
    let y = g.S.Volume.device c.start.new.vol in
    record { ran = subst (λ (s : ℕ). MigrateRan tells s v y) (sym c.unopened.ensures) (unmigrated tells v y c.in-Err.fault c.in-Err.ensures) }

pub returns-in-Ok-migrate : goal.returns-in-Ok-migrate
returns-in-Ok-migrate g c =
    let v = g.S.Volume.device c.args.site.now in
    let y = g.S.Volume.device c.start.new.vol in
    let w = g.S.Volume.device c.migrate.new.vol in
    let started = c.in-Ok.ensures in
    record { ran = all_migrated g.S.Volume.tells c.in-Ok.engine v y w started c.migrate.new.self (c.in-Ok-migrate.ensures.migrated started.ready.unspent).moves }

pub returns-in-Err-Memory : goal.returns-in-Err-Memory
returns-in-Err-Memory g c =
    let tells = g.S.Volume.tells in
    let v = g.S.Volume.device c.args.site.now in
    let y = g.S.Volume.device c.start.new.vol in
    let w = g.S.Volume.device c.migrate.new.vol in
    let started = c.in-Ok.ensures in
    let is : ◌≡◌ {A = Result Unit StepFault} c.migrate.result (Err (step.Memory _)) = c.in-Err-Memory.is ∙ ap Err c.in-Err-Memory.field-0-is in
    let P : Result Unit StepFault → Type 0 = λ r. Migrated tells r c.in-Ok.engine c.migrate.new.self y w in
    let migrated : Migrated tells (Err (step.Memory _)) c.in-Ok.engine c.migrate.new.self y w = subst P is (c.migrate.ensures.migrated started.ready.unspent) in
    record { ran = wanting tells c.in-Ok.engine v y w started _ c.migrate.new.self migrated.moves }

pub returns-in-Err-Disk : goal.returns-in-Err-Disk
returns-in-Err-Disk g c =
    let tells = g.S.Volume.tells in
    let v = g.S.Volume.device c.args.site.now in
    let y = g.S.Volume.device c.start.new.vol in
    let w = g.S.Volume.device c.migrate.new.vol in
    let started = c.in-Ok.ensures in
    let is : ◌≡◌ {A = Result Unit StepFault} c.migrate.result (Err step.Disk) = c.in-Err-Disk.is ∙ ap Err c.in-Err-Disk.field-0-is in
    let P : Result Unit StepFault → Type 0 = λ r. Migrated tells r c.in-Ok.engine c.migrate.new.self y w in
    let migrated : Migrated tells (Err step.Disk) c.in-Ok.engine c.migrate.new.self y w = subst P is (c.migrate.ensures.migrated started.ready.unspent) in
    record { ran = disk_failed tells c.in-Ok.engine v y w started c.migrate.new.self migrated.moves }
