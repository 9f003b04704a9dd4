use Rattle.std.proofs.Common.{refl}
use Rattle.ts_syntax.specs.Mistakes.{mistakes}
use Rattle.ts_syntax.proofs.ToldLemmas.{first_none}
use Rattle.ts_syntax.proofs.CheckLemmas.{wanting}
use Rattle.ts_syntax.proofs.check.check_syntax.Goals as goal

pub returns-in_default : goal.returns-in_default
returns-in_default g c =
    let v = g.O.Output.heard c.args.output.now in
    let i = g.R.Source.input c.args.source.now in
    wanting g.O.Output.tells g.R.Source.tells v v i i refl refl (λ yes told. first_none (mistakes i.left) v.said)

pub returns-in_default-vec : goal.returns-in_default-vec
returns-in_default-vec g c =
    let v = g.O.Output.heard c.args.output.now in
    let i = g.R.Source.input c.args.source.now in
    wanting g.O.Output.tells g.R.Source.tells v v i i refl refl (λ yes told. first_none (mistakes i.left) v.said)
