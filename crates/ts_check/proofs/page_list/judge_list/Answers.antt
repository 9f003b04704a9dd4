use Rattle.std.proofs.Common.{sym, subst}
use Rattle.ts_container.specs.Elements.{IsContentOf}
use Rattle.ts_check.specs.declared.page_list.PageRead.{PageRead}
use Rattle.ts_check.specs.Judged.{AreAnswers}
use Rattle.ts_check.proofs.page_list.judge_list.Goals as goal

pub returns : goal.returns
returns g c =
    let d = c.args.defs.now.definitions in
    let each = c.in_ok-answers.ensures.ok in
    let all : AreAnswers d c.args.list.now c.in_ok-answers.answers.items = λ place read answer is_read is_answer.
    let call = each.each place read answer is_read is_answer in
    subst (λ (r : PageRead). IsContentOf d r.number r.page.bytes answer) call.shows call.says.met in
    c.add_all.ensures d (subst (AreAnswers d c.args.list.now) (sym c.as_slice.ensures.value) all)
