use Rattle.std.proofs.Common.{◌≡◌, ℕ, List, [], ◌∷◌, inr, codes, Ok, Err, refl, sym, ◌∙◌, ap}
use Rattle.ts_base.specs.declared.refusal.Refusal.{Refusal}
use Rattle.ts_base.specs.declared.refusal.Refusal.TheVariants as refusals
use Rattle.ts_command.specs.Grammar.{command_of, Request, or_syntax}
use Rattle.ts_replies.specs.Acknowledged.{memory_line}
use Rattle.ts_script_runs.proofs.ItemLemmas.{line_ran, refused_step, syntax_line, syntax_at, statement_stand_in}
use Rattle.ts_script_runs.proofs.FeedLemmas.{ran_of}
use Rattle.ts_script_runs.proofs.session.Session.carry_out_statement.Goals as goal

pub returns-in-Ok-clause-ran : goal.returns-in-Ok-clause-ran
returns-in-Ok-clause-ran g c =
    let same : or_syntax (command_of c.args.self.now.reader.text) ≡ Ok c.in-Ok.command = ap (λ (l : List ℕ). or_syntax (command_of l)) (sym c.text.ensures.text) ∙ ap or_syntax c.in-Ok.ensures.ok in
    ran_of g.S.Volume.tells (Ok c.in-Ok.command ∷ []) (or_syntax (command_of c.args.self.now.reader.text) ∷ []) c.carry_out_read.result c.args.self.now.engine c.carry_out_read.new.self.engine (g.S.Volume.device c.args.site.now) (g.S.Volume.device c.carry_out_read.new.site)
    (ap (λ (r : Request). r ∷ []) (sym same)) c.carry_out_read.ensures.ran

pub returns-in-Err-Refused-clause-ran : goal.returns-in-Err-Refused-clause-ran
returns-in-Err-Refused-clause-ran g c =
    let v = g.S.Volume.device c.args.site.now in
    let w = g.S.Volume.device c.say.new.site in
    let read = c.args.self.now.reader.text in
    let found = syntax_at _ _ (command_of c.text.result.now) c.in-Err-Refused.field-0-is c.in-Err-Refused.ensures.cause in
    let refusal : Refusal = refusals.Syntax found.0 in
    let same : or_syntax (command_of read) ≡ Err refusal = ap (λ (l : List ℕ). or_syntax (command_of l)) (sym c.text.ensures.text) ∙ ap or_syntax found.1 in
    ran_of g.S.Volume.tells (Err refusal ∷ []) (or_syntax (command_of read) ∷ []) c.say.result c.args.self.now.engine c.args.self.now.engine v w (ap (λ (r : Request). r ∷ []) (sym same))
    (line_ran g.S.Volume.tells (Err refusal) (codes "error 1 Syntax\n") c.args.self.now.engine v w c.say.result (g.met.S.Volume.lawful c.args.site.now) c.requires.ready (refused_step refusal (codes "error 1 Syntax\n") (syntax_line found.0)) c.say.ensures.says c.say.ensures.output)

pub returns-in-Err-Memory-clause-ran : goal.returns-in-Err-Memory-clause-ran
returns-in-Err-Memory-clause-ran g c =
    let v = g.S.Volume.device c.args.site.now in
    let w = g.S.Volume.device c.say-in-Err-Memory.new.site in
    let request = or_syntax (command_of c.args.self.now.reader.text) in
    line_ran g.S.Volume.tells request memory_line c.args.self.now.engine v w c.say-in-Err-Memory.result (g.met.S.Volume.lawful c.args.site.now) c.requires.ready (λ cat. inr (statement_stand_in (command_of c.args.self.now.reader.text), refl)) c.say-in-Err-Memory.ensures.says c.say-in-Err-Memory.ensures.output
