use Rattle.std.proofs.Common.{◌≡◌, ◌∷◌, [], ◌++◌, ℕ, List, length, take, Some, None, refl, sym, ◌∙◌, ap, arith, length-append}
use Rattle.ts_command.specs.Grammar.{request_of}
use Rattle.ts_items.specs.Reader.{item_of}
use Rattle.ts_syntax.specs.Mistakes.{Mistake, mistakes_of}
use Rattle.ts_syntax.specs.Reading.{told_at}
use Rattle.ts_syntax.specs.declared.checker.Checker.{Checker}
use Rattle.ts_syntax.proofs.TellLemmas.{told_some, told_none_at}
use Rattle.ts_syntax.proofs.ToldLemmas.{told_none, told_of, told_wanting}
use Rattle.ts_syntax.proofs.checker.Checker.tell.Goals as goal

pub returns-in_default-clause-told : goal.returns-in_default-clause-told
returns-in_default-clause-told g c = λ front text short stands. told_wanting g.O.Output.tells (mistakes_of front text (request_of (item_of c.args.cut text))) _ _ _

pub returns-in-Some-clause-told : goal.returns-in-Some-clause-told
returns-in-Some-clause-told g c = λ front text short stands.
    let e : Checker = c.args.self.now in
    let cut = c.args.cut in
    let place = c.in-Some.place in
    let told : told_at cut (length e.text) c.in-Ok.refused ≡ Some place = ap (λ (l : List ℕ). told_at cut (length l) c.in-Ok.refused) (sym c.as_slice.ensures) ∙ sym c.told_at.ensures ∙ c.in-Some.is in
    let named = told_some front text stands.start e.text stands.kept stands.whole cut c.in-Ok.refused c.in-Ok.ensures place told in
    let m : Mistake = record { before = stands.start ++ take place e.text; refusal = named.refusal } in
    told_of g.O.Output.tells (m ∷ []) (mistakes_of front text (request_of (item_of cut text))) c.say_at.result e.found c.say_at.new.self.found (g.O.Output.heard c.args.output.now) (g.O.Output.heard c.say_at.new.output) (sym named.one)
    (c.say_at.ensures.told stands.start m (omega (arith, short, ap length stands.whole, length-append stands.start e.text)) stands.begin refl named.name)

pub returns-in-None-clause-told : goal.returns-in-None-clause-told
returns-in-None-clause-told g c = λ front text short stands.
    let e : Checker = c.args.self.now in
    let cut = c.args.cut in
    let told : told_at cut (length e.text) c.in-Ok.refused ≡ None = ap (λ (l : List ℕ). told_at cut (length l) c.in-Ok.refused) (sym c.as_slice.ensures) ∙ sym c.told_at.ensures ∙ c.in-None.is in
    told_of g.O.Output.tells [] (mistakes_of front text (request_of (item_of cut text))) _ e.found e.found (g.O.Output.heard c.args.output.now) (g.O.Output.heard c.args.output.now)
    (sym (told_none_at front text stands.start e.text stands.kept stands.whole cut c.in-Ok.refused c.in-Ok.ensures told)) (told_none g.O.Output.tells _ e.found (g.O.Output.heard c.args.output.now))
