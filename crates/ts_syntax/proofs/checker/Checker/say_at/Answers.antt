use Rattle.std.proofs.Common.{◌∷◌, [], sym, subst}
use Rattle.ts_syntax.specs.Lines.{IsLine}
use Rattle.ts_syntax.proofs.ToldLemmas.{told_one, told_part, told_wanting}
use Rattle.ts_syntax.proofs.checker.Checker.say_at.Goals as goal

pub returns-in_default-clause-told : goal.returns-in_default-clause-told
returns-in_default-clause-told g c = λ start m short here before named. told_wanting g.O.Output.tells (m ∷ []) _ _ _

pub returns-in-Ok-say-clause-told : goal.returns-in-Ok-say-clause-told
returns-in-Ok-say-clause-told g c = λ start m short here before named.
    told_one g.O.Output.tells m c.as_slice.result.now c.in-Ok-say.field-0 c.args.self.now.found (g.O.Output.heard c.args.output.now) (g.O.Output.heard c.say.new.self)
    (subst (IsLine m) (sym c.as_slice.ensures) (c.in-Ok.ensures start m short here before named)) c.in-Ok-say.ensures

pub returns-clause-told : goal.returns-clause-told
returns-clause-told g c = λ start m short here before named.
    told_part g.O.Output.tells m c.as_slice.result.now c.in-Err.field-0 c.args.self.now.found c.args.self.now.found (g.O.Output.heard c.args.output.now) (g.O.Output.heard c.say.new.self)
    (subst (IsLine m) (sym c.as_slice.ensures) (c.in-Ok.ensures start m short here before named)) c.in-Err.ensures
