use Rattle.std.proofs.Common.{[], ◌∷◌, codes, Err, sym, ap}
use Rattle.ts_base.specs.declared.refusal.Refusal.TheVariants as refusals
use Rattle.ts_items.specs.Reader.{item_of}
use Rattle.ts_items.specs.declared.reader.Cut.{Cut}
use Rattle.ts_command.specs.Grammar.{command_of, request_of, or_syntax}
use Rattle.ts_script_runs.proofs.ItemLemmas.{line_ran, refused_step, too_long_line, unended_line}
use Rattle.ts_script_runs.proofs.FeedLemmas.{ran_of}
use Rattle.ts_script_runs.proofs.session.Session.carry_out.Goals as goal

pub returns-in-Statement-clause-ran : goal.returns-in-Statement-clause-ran
returns-in-Statement-clause-ran g c =
    let text = c.args.self.now.reader.text in
    ran_of g.S.Volume.tells (or_syntax (command_of text) ∷ []) (request_of (item_of c.args.cut text) ∷ []) c.carry_out_statement.result c.args.self.now.engine c.carry_out_statement.new.self.engine (g.S.Volume.device c.args.site.now) (g.S.Volume.device c.carry_out_statement.new.site)
    (ap (λ (cut : Cut). request_of (item_of cut text) ∷ []) (sym c.in-Statement.is)) c.carry_out_statement.ensures.ran

pub returns-in-TooLong-clause-ran : goal.returns-in-TooLong-clause-ran
returns-in-TooLong-clause-ran g c =
    let text = c.args.self.now.reader.text in
    let e = c.args.self.now.engine in
    let v = g.S.Volume.device c.args.site.now in
    let w = g.S.Volume.device c.say.new.site in
    ran_of g.S.Volume.tells (Err refusals.TooLong ∷ []) (request_of (item_of c.args.cut text) ∷ []) c.say.result e e v w (ap (λ (cut : Cut). request_of (item_of cut text) ∷ []) (sym c.in-TooLong.is))
    (line_ran g.S.Volume.tells (Err refusals.TooLong) (codes "error 2 TooLong\n") e v w c.say.result (g.met.S.Volume.lawful c.args.site.now) c.requires.ready
    (refused_step refusals.TooLong (codes "error 2 TooLong\n") too_long_line) c.say.ensures.says c.say.ensures.output)

pub returns-in-Unended-clause-ran : goal.returns-in-Unended-clause-ran
returns-in-Unended-clause-ran g c =
    let text = c.args.self.now.reader.text in
    let e = c.args.self.now.engine in
    let v = g.S.Volume.device c.args.site.now in
    let w = g.S.Volume.device c.say-in-Unended.new.site in
    ran_of g.S.Volume.tells (Err refusals.Unended ∷ []) (request_of (item_of c.args.cut text) ∷ []) c.say-in-Unended.result e e v w (ap (λ (cut : Cut). request_of (item_of cut text) ∷ []) (sym c.in-Unended.is))
    (line_ran g.S.Volume.tells (Err refusals.Unended) (codes "error 3 Unended\n") e v w c.say-in-Unended.result (g.met.S.Volume.lawful c.args.site.now) c.requires.ready
    (refused_step refusals.Unended (codes "error 3 Unended\n") unended_line) c.say-in-Unended.ensures.says c.say-in-Unended.ensures.output)
