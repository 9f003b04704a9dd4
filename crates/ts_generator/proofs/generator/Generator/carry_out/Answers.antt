use Rattle.std.proofs.Common.{◌≡◌, ◌++◌, [], ◌∷◌, List, ℕ, Ok, sym, ◌∙◌, ap, subst}
use Rattle.ts_opening.specs.Engine.{Stepped}
use Rattle.ts_generator.specs.declared.generator.Generator.{Generator}
use Rattle.ts_generator.specs.Generating.{IsTally}
use Rattle.ts_generator.proofs.GeneratingLemmas.{tally_more}
use Rattle.ts_generator.proofs.generator.Generator.carry_out.Goals as goal

pub returns-in-Ok-clause-stepped : goal.returns-in-Ok-clause-stepped
returns-in-Ok-clause-stepped g c =
    subst (λ (s : Generator). Stepped g.S.Volume.tells c.args.command.now (Ok (tt {0})) s.reply c.args.self.now.engine s.engine (g.S.Volume.device c.args.site.now) (g.S.Volume.device c.step.new.vol))
    (sym c.count.ensures.others) (c.in-Ok.ensures.stepped c.requires.ready.unspent)

pub returns-in-Ok-clause-tally : goal.returns-in-Ok-clause-tally
returns-in-Ok-clause-tally g c = λ rs tally.
    let out : List ℕ = c.step.new.out in
    let before : c.count.new.self.before ≡ c.args.self.now.reply = ap (λ (s : Generator). s.before) c.count.ensures.others ∙ c.swap.ensures.x_after in
    let reply : c.count.new.self.reply ≡ out = ap (λ (s : Generator). s.reply) c.count.ensures.others in
    let counted = tally_more rs c.args.self.now.before c.args.self.now.reply out c.args.self.now.answered c.args.self.now.refused c.count.new.self.answered c.count.new.self.refused c.count.ensures.answered c.count.ensures.refused tally in
    subst (λ (r : List ℕ). IsTally (rs ++ r ∷ []) c.count.new.self.before r c.count.new.self.answered c.count.new.self.refused) (sym reply)
    (subst (λ (b : List ℕ). IsTally (rs ++ out ∷ []) b out c.count.new.self.answered c.count.new.self.refused) (sym before) counted)

pub returns-in-Err-clause-stepped : goal.returns-in-Err-clause-stepped
returns-in-Err-clause-stepped g c = c.in-Err.ensures.stepped c.requires.ready.unspent
