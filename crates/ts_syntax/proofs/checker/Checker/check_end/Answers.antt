use Rattle.std.proofs.Common.{[], refl, sym, ◌∙◌, arith}
use Rattle.ts_items.specs.Items.{Unended}
use Rattle.ts_command.specs.Grammar.{request_of}
use Rattle.ts_syntax.specs.Mistakes.{mistakes_of, mistakes_at_end, text_at}
use Rattle.ts_syntax.specs.declared.checker.Checker.{Checker}
use Rattle.ts_syntax.proofs.ReadLemmas.{stands-le, stands_same, end_some, end_none}
use Rattle.ts_syntax.proofs.ToldLemmas.{told_none, told_of}
use Rattle.ts_syntax.proofs.checker.Checker.check_end.Goals as goal

pub tell-requires : goal.tell-requires
tell-requires g c =
    let reading = c.requires in
    let e : Checker = c.args.self.now in
    omega (arith, reading.1, stands-le reading.0 (text_at e.reader.place) e reading.2.stands)

pub returns-in-Some : goal.returns-in-Some
returns-in-Some g c = λ script short has.
    let e : Checker = c.args.self.now in
    let f : Checker = record { alloc = e.alloc; reader = c.finish.new.self; text = e.text; begin = e.begin; end = e.end; found = e.found } in
    let text = text_at e.reader.place in
    told_of g.O.Output.tells (mistakes_of script text (request_of Unended)) (mistakes_at_end script e.reader.place) c.tell.result e.found c.tell.new.self.found (g.O.Output.heard c.args.output.now) (g.O.Output.heard c.tell.new.output)
    (sym (end_some script e.reader.place _ (sym c.finish.ensures.unended ∙ c.in-Some.is)))
    (c.tell.ensures.told script text short (stands_same script text e f has.stands refl refl refl))

pub returns-in-None : goal.returns-in-None
returns-in-None g c = λ script short has.
    let e : Checker = c.args.self.now in
    told_of g.O.Output.tells [] (mistakes_at_end script e.reader.place) _ e.found e.found (g.O.Output.heard c.args.output.now) (g.O.Output.heard c.args.output.now)
    (sym (end_none script e.reader.place (sym c.finish.ensures.unended ∙ c.in-None.is))) (told_none g.O.Output.tells _ e.found (g.O.Output.heard c.args.output.now))
