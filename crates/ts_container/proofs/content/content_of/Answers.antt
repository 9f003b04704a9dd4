use Rattle.std.proofs.Common.{Some, sym, ap, subst, ◌∙◌, refl}
use Rattle.ts_layout.specs.Meaning.{Free}
use Rattle.ts_container.specs.Elements.{IsContentOf}
use Rattle.ts_container.proofs.ContentLemmas.{no_head, free_told}
use Rattle.ts_container.proofs.content.content_of.Goals as goal

pub returns-in_err-head : goal.returns-in_err-head
returns-in_err-head c =
    let d = c.args.defs.now.definitions in
    let page = c.args.page.now.bytes in
    subst (IsContentOf d c.args.number page) (sym c.from_residual.ensures) (no_head d page (sym c.head.ensures ∙ c.in_err-head.was))

pub returns-in-Free : goal.returns-in-Free
returns-in-Free c = (Free, free_told c.args.page.now.bytes (sym c.head.ensures ∙ c.in_ok-head.was ∙ ap Some c.in-Free.is), refl)
