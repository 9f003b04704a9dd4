use Rattle.std.proofs.Common.{◌<◌, length, sym, ◌∙◌, arith}
use Rattle.std.proofs.lemmas.Result.{IfOk-weaker}
use Rattle.ts_irregular.proofs.last.last_among.Goals as goal

pub returns-in-None-clause-last : goal.returns-in-None-clause-last
returns-in-None-clause-last c = λ es order count same. sym (c.in-None.ensures.last es order count same)

pub returns-in-Some-clause-last : goal.returns-in-Some-clause-last
returns-in-Some-clause-last c =
    IfOk-weaker c.element_of.result _ _
    (λ last found es order count same.
    let within : c.in-Some.index < length es = omega (arith, c.in-Some.ensures.within, count) in
    found es order.each within same ∙ sym (c.in-Some.ensures.last es order count same))
    c.element_of.ensures.found
