-- Where the head is no irregular one, the page isn't.
use Rattle.std.proofs.Common.{length, ◌∙◌}
use Rattle.ts_cells.proofs.HeadLemmas.{count_is}
use Rattle.ts_cells.proofs.extent.extent_of.Goals as goal

pub returns-in_default-clause-none : goal.returns-in_default-clause-none
returns-in_default-clause-none c = λ slot es is.
    let told = count_is slot c.args.kind.now.columns es c.args.page.now.bytes is in
    c.in_default.not-Some (length es) (c.count_of.ensures ∙ told)
