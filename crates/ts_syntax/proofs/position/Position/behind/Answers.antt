use Rattle.std.proofs.Common.{◌≡◌, ◌++◌, ℕ, List, take, subst, arith, length-append}
use Rattle.std.proofs.lemmas.List.{take_all, length-take}
use Rattle.ts_syntax.specs.Places.{IsBehind}
use Rattle.ts_syntax.proofs.PlaceLemmas.{behind_next, behind_none}
use Rattle.ts_syntax.proofs.position.Position.behind.Goals as goal

pub loop-byte-init : goal.loop-byte-init
loop-byte-init c = λ before short here. behind_none before c.args.self here

pub loop-byte-preserved : goal.loop-byte-preserved
loop-byte-preserved c = λ before short here.
    let bytes : List ℕ = c.args.bytes.now in
    let i = c.loop-byte.byte-index in
    behind_next before bytes i c.behind_byte-position.result c.loop-byte-test.true
    (c.behind_byte-position.ensures (before ++ take i bytes) (omega (arith, short, c.loop-byte-test.true, length-append before (take i bytes), length-take i bytes)) (c.loop-byte.invariant before short here))

pub returns : goal.returns
returns c = λ before short here.
    let bytes : List ℕ = c.args.bytes.now in
    let all : take c.loop-byte.byte-index bytes ≡ bytes = take_all c.loop-byte.byte-index bytes (omega (arith, c.loop-byte-test.false)) in
    subst (λ (l : List ℕ). IsBehind (before ++ l) c.loop-byte.position) all (c.loop-byte.invariant before short here)
