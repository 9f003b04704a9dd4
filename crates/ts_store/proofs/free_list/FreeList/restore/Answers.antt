use Rattle.std.proofs.Common.{ap, ◌∙◌}
use Rattle.ts_store.specs.FreeList.{FreePages}
use Rattle.ts_store.proofs.CutLemmas.{kept_again, all_again}
use Rattle.ts_store.proofs.free_list.FreeList.restore.Goals as goal

pub returns-clause-free : goal.returns-clause-free
returns-clause-free c =
    let l = c.self.inside in
    all_again l.low l.kept l.base l.freed l.saved l.numbers.items c.truncate.new.self.items c.self.invariant c.truncate.ensures.items ∙ ap (λ (p : FreePages). p.kept) c.self.view_is

pub returns-clause-kept : goal.returns-clause-kept
returns-clause-kept c =
    let l = c.self.inside in
    kept_again l.low l.kept l.base l.freed l.saved l.numbers.items c.truncate.new.self.items c.self.invariant c.truncate.ensures.items ∙ ap (λ (p : FreePages). p.kept) c.self.view_is
