use Rattle.std.proofs.Common.{◌≡◌, ℕ, Ok, Err, ◌++◌, refl, sym, ap, ◌∙◌, length, arith}
use Rattle.ts_command.specs.declared.command.Command.TheVariants.{RollingDrop}
use Rattle.ts_model.specs.declared.kind.Kind.TheVariants as kinds
use Rattle.ts_model.specs.Catalogue.{without, Catalogue}
use Rattle.ts_answer.specs.Answer.{Tried, Answered, outcome, carried_out}
use Rattle.ts_answer.specs.Reply.{count_line}
use Rattle.ts_answer.specs.Elements.{without_windows}
use Rattle.ts_answer.specs.View.{view}
use Rattle.ts_answer.proofs.CallerLemmas.{stopped_first, tried_stopped, said_line}
use Rattle.ts_rolling_edits.specs.Parts.{Never}
use Rattle.ts_rolling_edits.proofs.PartLemmas.{carried_whole, all_done_as, all_stopped_as}
use Rattle.ts_rolling_edits.proofs.rolling.rolling_drop.Goals as goal

pub returns-in_err-planned-clause-carried : goal.returns-in_err-planned-clause-carried
unfolding outcome carried_out
returns-in_err-planned-clause-carried g c =
    let x = view c.args.defs.now.definitions c.args.space.now (g.P.Pages.contents c.args.pages.now) in
    let command = RollingDrop c.args.set.now in
    stopped_first g.P.Pages.tells command c.args.out.now x c.from_residual.result _ c.from_residual.ensures.1
    (tried_stopped g.P.Pages.tells command c.args.out.now x c.in_err-planned.field-0.0 (λ l kept. c.in_err-planned.ensures.err l kept))

pub returns-clause-carried : goal.returns-clause-carried
unfolding outcome carried_out
returns-clause-carried g c =
    let tells = g.P.Pages.tells in
    let set = c.args.set.now in
    let planned = c.in_ok-planned.planned in
    let line = count_line (length planned.windows.items) in
    let x = view c.args.defs.now.definitions c.args.space.now (g.P.Pages.contents c.args.pages.now) in
    let w = g.P.Pages.contents c.drop_on_copies.new.pages in
    let out = c.say_count.new.out in
    let many : c.len.result ≡ length planned.windows.items = omega (arith, planned.windows.ok.0, c.len.ensures) in
    let said = said_line line c.args.out.now out c.requires.empty (c.in_ok-say_count.ensures.ok ∙ ap (λ (n : ℕ). c.args.out.now ++ count_line n) many) in
    let r = c.drop_on_copies.result in
    let tries : Catalogue → Tried Answered = λ cat. Ok (line, without kinds.Series planned.control (without_windows set planned.windows.items cat)) in
    carried_whole tells (RollingDrop set) out x w refl refl refl tries r (λ told l shows. c.in_ok-planned.ensures.ok l shows.kept)
    (all_done_as tells r x w (λ cat after. after ≡ without kinds.Series planned.control (without_windows set planned.windows.items cat))
    (λ cat after. tries cat ≡ Ok (out, after)) (λ a b is. λ i. Ok (sym said i, sym is i)) c.drop_on_copies.ensures.done)
    (all_stopped_as tells r x w Never (λ refusal cat. tries cat ≡ Err refusal) (λ refusal a never. absurd never) c.drop_on_copies.ensures.stopped) c.drop_on_copies.ensures.count
