use Rattle.std.proofs.Common.{◌≡◌, Ok, Err}
use Rattle.ts_command.specs.declared.command.Command.TheVariants.{PutElemNoDups}
use Rattle.ts_answer.specs.Answer.{put_no_dups}
use Rattle.ts_rolling_edits.specs.Parts.{seen_on}
use Rattle.ts_rolling_edits.proofs.PartLemmas.{part_by, part_not, part_unkept, can_charge}
use Rattle.ts_rolling_edits.proofs.RollingLemmas.{put_came, put_not}
use Rattle.ts_rolling_edits.proofs.parts.put_in_window.Goals as goal

pub take-requires-clause-can : goal.take-requires-clause-can
take-requires-clause-can g c = c.in_ok-effect.ensures.carried.applies

pub take-requires-clause-charge : goal.take-requires-clause-charge
take-requires-clause-charge g c =
    let copies = c.args.copies.now in
    let x = seen_on copies (g.P.Pages.contents c.args.pages.now) in
    can_charge g.P.Pages.tells (PutElemNoDups c.args.key.now c.args.stamp c.args.values.now) x copies.charges c.requires.seen.kept c.requires.charged c.in_ok-effect.effect c.edit_element.new.out
    (g.P.Pages.contents c.edit_element.new.pages) c.in_ok-effect.ensures.carried

-- it is stopped
pub returns-in_err-effect-clause-part : goal.returns-in_err-effect-clause-part
returns-in_err-effect-clause-part g c =
    let key = c.args.key.now in
    let stamp = c.args.stamp in
    let values = c.args.values.now in
    let copies = c.args.copies.now in
    let out = c.edit_element.new.out in
    let x = seen_on copies (g.P.Pages.contents c.args.pages.now) in
    let y = seen_on copies (g.P.Pages.contents c.edit_element.new.pages) in
    part_not g.P.Pages.tells (λ cat after. put_no_dups key stamp values cat ≡ Ok (out, after)) (λ refusal cat. put_no_dups key stamp values cat ≡ Err refusal) (PutElemNoDups key stamp values) out x copies.charges y
    c.from_residual.result _ c.from_residual.ensures.1 c.in_err-effect.ensures.carried (λ refusal a no. put_not key a stamp values refusal no)

-- its effect finds no memory
pub returns-in_err-take-clause-part : goal.returns-in_err-take-clause-part
returns-in_err-take-clause-part g c =
    let key = c.args.key.now in
    let stamp = c.args.stamp in
    let values = c.args.values.now in
    let copies = c.args.copies.now in
    let out = c.edit_element.new.out in
    let x = seen_on copies (g.P.Pages.contents c.args.pages.now) in
    let y = seen_on c.take.new.self (g.P.Pages.contents c.edit_element.new.pages) in
    part_unkept g.P.Pages.tells (λ cat after. put_no_dups key stamp values cat ≡ Ok (out, after)) (λ refusal cat. put_no_dups key stamp values cat ≡ Err refusal) (PutElemNoDups key stamp values) out x c.take.new.self.charges y
    c.in_ok-effect.effect c.from_residual-in_err-take.result _ c.from_residual-in_err-take.ensures.1 c.in_ok-effect.ensures.carried

-- it is put
pub returns-clause-part : goal.returns-clause-part
returns-clause-part g c =
    let key = c.args.key.now in
    let stamp = c.args.stamp in
    let values = c.args.values.now in
    let out = c.edit_element.new.out in
    let x = seen_on c.args.copies.now (g.P.Pages.contents c.args.pages.now) in
    let w = g.P.Pages.contents c.edit_element.new.pages in
    let took = c.in_ok-take.ensures in
    let now = c.take.new.self in
    part_by g.P.Pages.tells (λ cat after. put_no_dups key stamp values cat ≡ Ok (out, after)) (λ refusal cat. put_no_dups key stamp values cat ≡ Err refusal) (PutElemNoDups key stamp values) out x c.in_ok-effect.effect w
    now.defs.definitions now.space now.charges c.in_ok-effect.ensures.carried took.definitions took.lists took.charges (λ a b is. put_came key a stamp values out b is)

pub returns-clause-grows : goal.returns-clause-grows
returns-clause-grows g c = c.in_ok-effect.ensures.carried.grows
