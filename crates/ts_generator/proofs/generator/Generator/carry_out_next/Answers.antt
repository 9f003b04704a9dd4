use Rattle.std.proofs.Common.{Result, Ok, Err, OnOk, IfErr, inl, inr}
use Rattle.ts_generator.specs.Generated.{generated}
use Rattle.ts_generator.proofs.GeneratingLemmas.{next_step, unmade_now}
use Rattle.ts_generator.proofs.generator.Generator.carry_out_next.Goals as goal

-- what holds anyway holds of a value, and of an error
on_ok : {T E : Type 0} {P : Type 0} (r : Result T E) → P → OnOk r P
on_ok (Ok x) p = p
on_ok (Err e) p = tt

if_err : {T E : Type 0} (P : E → Type 0) (r : Result T E) → ((e : E) → P e) → IfErr r P
if_err P (Ok x) all = tt
if_err P (Err e) all = all e

pub returns-in-Ok-clause-next : goal.returns-in-Ok-clause-next
returns-in-Ok-clause-next g c =
    on_ok c.carry_out.result (λ seed is.
    next_step g.S.Volume.tells (generated c.args.count seed) c.args.number c.in-Ok.command c.carry_out.result c.args.self.now c.carry_out.new.self (g.S.Volume.device c.args.site.now) (g.S.Volume.device c.carry_out.new.site)
    (c.in-Ok.ensures.next seed is) c.carry_out.ensures.stepped c.carry_out.ensures.tally c.carry_out.ensures.total)

pub returns-in-Ok-clause-stopped : goal.returns-in-Ok-clause-stopped
returns-in-Ok-clause-stopped g c =
    if_err _ c.carry_out.result (λ fault seed is. inr (
    next_step g.S.Volume.tells (generated c.args.count seed) c.args.number c.in-Ok.command c.carry_out.result c.args.self.now c.carry_out.new.self (g.S.Volume.device c.args.site.now) (g.S.Volume.device c.carry_out.new.site)
    (c.in-Ok.ensures.next seed is) c.carry_out.ensures.stepped c.carry_out.ensures.tally c.carry_out.ensures.total))

pub returns-in-Err-clause-stopped : goal.returns-in-Err-clause-stopped
returns-in-Err-clause-stopped g c = λ seed is. inl (unmade_now g.S.Volume.tells _ (g.S.Volume.device c.args.site.now) (g.met.S.Volume.lawful c.args.site.now))
