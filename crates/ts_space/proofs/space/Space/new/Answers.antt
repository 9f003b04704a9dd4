use Rattle.std.proofs.Common.{◌≡◌, ℕ, List, [], map, ap, sym, ◌∙◌, arith, subst, refl, sum_by, length}
use Rattle.std.proofs.lemmas.List.Elements.{All-replicate}
use Rattle.ts_space.specs.Place.{IsRising}
use Rattle.ts_space.specs.Directory.{IsDirectory, padded}
use Rattle.ts_space.proofs.DirectoryLemmas.{Lists, items_of, used_padded}
use Rattle.ts_space.proofs.space.Space.new.Goals as goal

pub returns-clause-ok : goal.returns-clause-ok
returns-clause-ok c = ap (λ (vs : Lists). padded [] (map items_of vs)) c.in_ok-lists.ensures.items

pub returns-clause-used : goal.returns-clause-used
returns-clause-used c =
    used_padded c.in_ok-lists.lists.items ∙ ap (λ (vs : Lists). sum_by length (map items_of vs)) c.in_ok-lists.ensures.items

none : IsDirectory [] [] 0
none = record { slots = omega arith; rising = All-replicate IsRising 0 [] tt; counts_are = refl; used = refl }

pub invariant_of-result : goal.invariant_of-result
invariant_of-result c = record {
  directory = subst (λ (vs : Lists). IsDirectory (map items_of vs) c.in_ok-counts.counts.items 0) (sym c.in_ok-lists.ensures.items)
      (subst (λ (counts : List ℕ). IsDirectory [] counts 0) (sym c.in_ok-counts.ensures.items) none);
  lists_room = omega (arith, c.in_ok-lists.ensures.capacity);
  counts_room = omega (arith, c.in_ok-counts.ensures.capacity);
}
