use Rattle.std.proofs.Common.{ℕ, List, length, refl, sym, subst}
use Rattle.std.specs.Prelude.{IsPermutation}
use Rattle.std.proofs.lemmas.List.Sorted.{All-permutation}
use Rattle.ts_space.specs.Place.{pages_of}
use Rattle.ts_sheets.specs.Places.{CanBeFreed}
use Rattle.ts_chain.proofs.FreeLemmas.{pairs_moved, freed_places, on_ok}
use Rattle.ts_chain.proofs.free.free_pages.Goals as goal

pub free_each-requires-clause-each : goal.free_each-requires-clause-each
free_each-requires-clause-each g c =
    All-permutation (CanBeFreed (g.P.Pages.contents c.args.pages.now)) (pages_of c.args.places.now) c.deref.result.now
    (subst (λ (l : List ℕ). IsPermutation l c.deref.result.now) c.in_ok-numbers.ensures (subst (IsPermutation c.in_ok-numbers.numbers.items) (sym c.deref.ensures.value) c.sort_unstable.ensures.permutation)) c.requires.each

pub free_each-requires-clause-different : goal.free_each-requires-clause-different
free_each-requires-clause-different g c =
    pairs_moved (pages_of c.args.places.now) c.deref.result.now
    (subst (λ (l : List ℕ). IsPermutation l c.deref.result.now) c.in_ok-numbers.ensures (subst (IsPermutation c.in_ok-numbers.numbers.items) (sym c.deref.ensures.value) c.sort_unstable.ensures.permutation)) c.requires.different

pub returns-clause-freed : goal.returns-clause-freed
returns-clause-freed g c =
    let moved : IsPermutation (pages_of c.args.places.now) c.deref.result.now =
    subst (λ (l : List ℕ). IsPermutation l c.deref.result.now) c.in_ok-numbers.ensures (subst (IsPermutation c.in_ok-numbers.numbers.items) (sym c.deref.ensures.value) c.sort_unstable.ensures.permutation) in
    on_ok c.free_each.result _ _
    (freed_places g.P.Pages.tells c.args.places.now c.deref.result.now (length c.deref.result.now) (g.P.Pages.contents c.args.pages.now) (g.P.Pages.contents c.free_each.new.pages) moved refl) c.free_each.ensures.freed
