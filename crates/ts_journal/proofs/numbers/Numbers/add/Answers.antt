use Rattle.std.proofs.Common.{◌^◌, ℕ, List, nat_cmp, map, sym, ap, subst, ◌∙◌, arith}
use Rattle.std.specs.List.Sorted.{IsBinarySearchResult}
use Rattle.ts_journal.specs.declared.batch.Change.TheVariants.{Free}
use Rattle.ts_journal.specs.Journal.{Entry, IsRising, change_of, put}
use Rattle.ts_journal.specs.Stored.{Listed, freed}
use Rattle.ts_journal.proofs.BatchLemmas.{put_rising, none_at}
use Rattle.ts_journal.proofs.StoredLemmas.{number_missing, number_new, number_same, number_there}
use Rattle.ts_journal.proofs.WriteLemmas.{on_err_const}
use Rattle.ts_journal.proofs.numbers.Numbers.add.Goals as goal

pub invariant_of-self : goal.invariant_of-self
invariant_of-self c =
    let xs = c.self.inside.items.items in
    let position = subst (λ (l : List ℕ). IsBinarySearchResult (λ y. nat_cmp y c.args.no) l c.binary_search.result) c.deref.ensures.value c.binary_search.ensures.position in
    let gap = number_missing xs c.args.no c.binary_search.result position c.self.invariant c.in-Err.place c.in-Err.is in
    let is = ap (map freed) c.in_ok-insert.ensures.items ∙ number_new xs c.args.no c.in-Err.place gap.0 gap.1 in
    subst (λ (l : List Entry). IsRising 0 (2 ^ 32) l) (sym is) (put_rising (map freed xs) 0 (2 ^ 32) c.args.no Free c.self.invariant (omega arith) (omega arith))

pub returns-in_err-insert-clause-missing : goal.returns-in_err-insert-clause-missing
returns-in_err-insert-clause-missing c =
    let xs = c.self.inside.items.items in
    let position = subst (λ (l : List ℕ). IsBinarySearchResult (λ y. nat_cmp y c.args.no) l c.binary_search.result) c.deref.ensures.value c.binary_search.ensures.position in
    let gap = number_missing xs c.args.no c.binary_search.result position c.self.invariant c.in-Err.place c.in-Err.is in
    on_err_const c.from_residual.result _ (ap (λ (b : Listed). change_of c.args.no b.entries) (sym c.self.view_is) ∙ none_at (map freed xs) 0 (2 ^ 32) c.args.no c.self.invariant gap.1)

pub returns-in_ok-insert-clause-ok : goal.returns-in_ok-insert-clause-ok
returns-in_ok-insert-clause-ok c =
    let xs = c.self.inside.items.items in
    let position = subst (λ (l : List ℕ). IsBinarySearchResult (λ y. nat_cmp y c.args.no) l c.binary_search.result) c.deref.ensures.value c.binary_search.ensures.position in
    let gap = number_missing xs c.args.no c.binary_search.result position c.self.invariant c.in-Err.place c.in-Err.is in
    ap (map freed) c.in_ok-insert.ensures.items ∙ number_new xs c.args.no c.in-Err.place gap.0 gap.1 ∙ ap (λ (b : Listed). put c.args.no Free b.entries) c.self.view_is

pub returns-in_default-clause-ok : goal.returns-in_default-clause-ok
returns-in_default-clause-ok c =
    let xs = c.self.inside.items.items in
    let position = subst (λ (l : List ℕ). IsBinarySearchResult (λ y. nat_cmp y c.args.no) l c.binary_search.result) c.deref.ensures.value c.binary_search.ensures.position in
    let there = number_there xs c.args.no c.binary_search.result position c.self.invariant c.in_default.field-0 c.in_default.is in
    ap (λ (b : Listed). b.entries) (sym c.self.view_is) ∙ number_same xs c.args.no there ∙ ap (λ (b : Listed). put c.args.no Free b.entries) c.self.view_is
