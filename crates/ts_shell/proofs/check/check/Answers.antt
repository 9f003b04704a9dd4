use Rattle.std.proofs.Common.{◌≡◌, ℕ, IsTrue, Result, Ok, Err, sym, ◌∙◌, subst, ap}
use Rattle.ts_base.specs.declared.fault.StoreFault.{StoreFault}
use Rattle.ts_base.specs.declared.fault.StoreFault.TheVariants as faults
use Rattle.ts_check.specs.declared.verdict.Verdict.{Verdict}
use Rattle.ts_check.specs.Report.{IsReport}
use Rattle.ts_shell.specs.Checking.{CheckRan}
use Rattle.ts_shell.proofs.CheckingLemmas.{check_failed, check_wanting, check_cut, check_said}
use Rattle.ts_shell.proofs.check.check.Goals as goal

memory_is_other : (error : _) → ◌≡◌ {A = Result Verdict StoreFault} (Err (faults.Memory error)) (Err faults.Failed) → ⊥
memory_is_other error same = cc

fine_is_other : (verdict : Verdict) → ◌≡◌ {A = Result Verdict StoreFault} (Ok verdict) (Err faults.Failed) → ⊥
fine_is_other verdict same = cc

pub returns-in-Err-Failed : goal.returns-in-Err-Failed
returns-in-Err-Failed g c =
    let v = g.S.Volume.device c.args.site.now in
    let y = g.S.Volume.device c.check_volume.new.vol in
    let is : ◌≡◌ {A = Result Verdict StoreFault} c.check_volume.result (Err faults.Failed) = c.in-Err-Failed.is ∙ ap Err c.in-Err-Failed.field-0-is in
    record { ran = check_failed g.S.Volume.tells v y c.check_volume.ensures.others (c.check_volume.ensures.cause is) }

pub returns-in-Err-Memory : goal.returns-in-Err-Memory
returns-in-Err-Memory g c =
    let v = g.S.Volume.device c.args.site.now in
    let y = g.S.Volume.device c.check_volume.new.vol in
    let is : ◌≡◌ {A = Result Verdict StoreFault} c.check_volume.result (Err (faults.Memory _)) = c.in-Err-Memory.is ∙ ap Err c.in-Err-Memory.field-0-is in
    record { ran = check_wanting g.S.Volume.tells v y c.check_volume.ensures.others (c.check_volume.ensures.no_fault (λ failed. memory_is_other _ (sym is ∙ failed))) }

pub returns-in-Ok-say : goal.returns-in-Ok-say
returns-in-Ok-say g c =
    let tells = g.S.Volume.tells in
    let v = g.S.Volume.device c.args.site.now in
    let y = g.S.Volume.device c.check_volume.new.vol in
    let w = g.S.Volume.device c.say.new.self in
    let quiet = c.check_volume.ensures.no_fault (λ failed. fine_is_other _ (sym c.in-Ok.is ∙ failed)) in
    let is : IsTrue tells → IsReport v.held c.in-Ok.verdict c.as_slice.result.now = λ told. subst (IsReport v.held c.in-Ok.verdict) (sym c.as_slice.ensures) (c.in-Ok.ensures.report told) in
    record {
      ran = subst (λ (s : ℕ). CheckRan tells s v w) (sym c.status_of.ensures)
          (check_said tells v y c.check_volume.ensures.others quiet c.in-Ok.verdict c.as_slice.result.now w is c.in-Ok-say.ensures);
    }

pub returns : goal.returns
returns g c =
    let tells = g.S.Volume.tells in
    let v = g.S.Volume.device c.args.site.now in
    let y = g.S.Volume.device c.check_volume.new.vol in
    let w = g.S.Volume.device c.say.new.self in
    let quiet = c.check_volume.ensures.no_fault (λ failed. fine_is_other _ (sym c.in-Ok.is ∙ failed)) in
    let is : IsTrue tells → IsReport v.held c.in-Ok.verdict c.as_slice.result.now = λ told. subst (IsReport v.held c.in-Ok.verdict) (sym c.as_slice.ensures) (c.in-Ok.ensures.report told) in
    record {
      ran = check_cut tells v y c.check_volume.ensures.others quiet c.in-Ok.verdict c.as_slice.result.now w is c.in-Err.field-0 c.in-Err.ensures;
    }
