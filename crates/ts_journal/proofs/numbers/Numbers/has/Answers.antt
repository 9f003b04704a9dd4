use Rattle.std.proofs.Common.{ℕ, Bool, cond, Some, None, List, nat_cmp, sym, ap, subst, ◌∙◌}
use Rattle.std.specs.List.Sorted.{IsBinarySearchResult}
use Rattle.ts_journal.specs.declared.batch.Change.TheVariants.{Free}
use Rattle.ts_journal.specs.Journal.{change_of}
use Rattle.ts_journal.specs.Stored.{Listed}
use Rattle.ts_journal.proofs.StoredLemmas.{has_number}
use Rattle.ts_journal.proofs.numbers.Numbers.has.Goals as goal

pub returns : goal.returns
returns c =
    let xs = c.self.inside.items.items in
    let position = subst (λ (l : List ℕ). IsBinarySearchResult (λ y. nat_cmp y c.args.no) l c.binary_search.result) c.deref.ensures.value c.binary_search.ensures.position in
    ap (λ (b : Listed). change_of c.args.no b.entries) (sym c.self.view_is) ∙ has_number xs c.args.no c.binary_search.result position c.self.invariant ∙ ap (λ (b : Bool). cond b (Some Free) None) (sym c.is_ok.ensures.value)
