use Rattle.std.proofs.Common.{◌≡◌, ℕ, ◌+◌, ◌-◌, ◌≤◌, ◌++◌, ◌∷◌, [], None, List, Option, length, replicate, append_assoc, ap, arith, ◌∙◌}
use Rattle.std.proofs.lemmas.List.{replicate_more}
use Rattle.ts_model.specs.declared.def.Def.{Def}
use Rattle.ts_model.proofs.table.extend.Goals as goal

pub loop-preserved : goal.loop-preserved
loop-preserved c =
    let old = c.args.slots.now.items in
    let none : Option Def = None in
    let n : ℕ = c.loop.counter - length old in
    let long : length old ≤ c.loop.counter = omega (arith, c.loop.auto.counter, c.len-counter.ensures, c.args.slots.now.ok.0) in
    let next : c.loop.counter - length old + 1 ≡ c.loop.counter + 1 - length old = omega (arith, long) in
    record {
      slots =
          c.in-Ok.ensures.items ∙ ap (λ (l : List (Option Def)). l ++ none ∷ []) c.loop.invariant.slots ∙ append_assoc old (replicate n none) (none ∷ [])
          ∙ ap (λ (l : List (Option Def)). old ++ l) (replicate_more n none) ∙ ap (λ (m : ℕ). old ++ replicate m none) next;
      last = omega (arith, c.loop-test.true);
      room = omega (arith, c.loop.invariant.room, c.push.ensures.capacity);
    }

pub returns-clause-empty : goal.returns-clause-empty
returns-clause-empty c =
    let old = c.args.slots.now.items in
    let none : Option Def = None in
    let n : c.loop.counter - length old ≡ c.args.slot + 1 - length old = omega (arith, c.len-counter.ensures, c.args.slots.now.ok.0, c.loop.auto.counter, c.loop.invariant.last, c.loop-test.false) in
    c.loop.invariant.slots ∙ ap (λ (m : ℕ). old ++ replicate m none) n
