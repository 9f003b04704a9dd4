use Rattle.std.proofs.Common.{◌-◌, ◌+◌, [], ◌∷◌, ◌++◌, refl, arith}
use Rattle.ts_space.specs.declared.moved.Come.TheVariants.{Two}
use Rattle.ts_chain.proofs.TakeLemmas.{moved_middle}
use Rattle.ts_chain.proofs.split.moved.Goals as goal

pub returns : goal.returns
returns c = λ ahead gone after long number.
    moved_middle ahead gone (c.args.come.0 ∷ c.args.come.1 ∷ []) after
    (record { index = c.args.index - c.number-before.result; gone = c.number-before.result + 1 + c.number.result; come = Two c.args.come.0 c.args.come.1 }) (ahead ++ (gone ++ after)) refl (omega (arith, long, c.number-before.ensures.value)) (omega (arith, number, c.number-before.ensures.value, c.number.ensures.value)) refl
