-- What is seen stays what a layout has.
use Rattle.std.proofs.Common.{◌≡◌, ℕ, IsPermutation, List, [], slice_index_or, sym, ◌∙◌, subst}
use Rattle.ts_space.specs.declared.place.Place.{Place}
use Rattle.ts_space.specs.Directory.{Directory}
use Rattle.ts_model.specs.Definitions.{Definitions}
use Rattle.ts_layout.specs.Meaning.{Layout}
use Rattle.ts_layout.specs.Surveyed.{IsListOf, free_pages}
use Rattle.ts_answer.specs.View.{IsHeldOf}

-- with the same lists of places; memory that was taken plays no part
pub held_same : (d d' : Definitions) (s s' : Directory) (n n' : ℕ) (ns ns' : List ℕ) (l : Layout) → IsHeldOf d s n ns l → d' ≡ d → s'.lists ≡ s.lists → n' ≡ n → ns' ≡ ns → IsHeldOf d' s' n' ns' l
held_same d d' s s' n n' ns ns' l held definitions lists count free = record {
  definitions = definitions ∙ held.definitions;
  size = count ∙ held.size;
  places = λ slot within. subst (λ (ls : List (List Place)). IsListOf slot (slice_index_or ls slot []) l.element_pages) (sym lists) (held.places slot within);
  free = subst (λ (ks : List ℕ). IsPermutation ks (free_pages l)) (sym free) held.free;
  rules = held.rules;
  filled = held.filled;
}
