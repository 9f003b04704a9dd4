-- Reading goes on where it stopped.
use Rattle.std.proofs.Common.{◌≡◌, ℕ, List, [], ◌∷◌, ◌++◌, ◌∙◌, ap, Option, ◌+◌, ◌<◌, take, length, slice_index_or}
use Rattle.std.proofs.lemmas.List.{take_more, append-nil}
use Rattle.ts_items.proofs.ItemLaws.{items_from-append, place_from-append}
use Rattle.ts_items.specs.Items.{Item, after, items_from, place_from}

-- one byte more
pub items_more : (place : Option (List ℕ)) (xs : List ℕ) (i : ℕ) → i < length xs → items_from place (take (i + 1) xs) ≡ items_from place (take i xs) ++ (after (place_from place (take i xs)) (slice_index_or xs i 0)).0
items_more place xs i l =
    ap (items_from place) (take_more xs i 0 l) ∙ items_from-append place (take i xs) (slice_index_or xs i 0 ∷ [])
    ∙ ap (λ (ys : List Item). items_from place (take i xs) ++ ys) (append-nil (after (place_from place (take i xs)) (slice_index_or xs i 0)).0)

pub place_more : (place : Option (List ℕ)) (xs : List ℕ) (i : ℕ) → i < length xs → place_from place (take (i + 1) xs) ≡ (after (place_from place (take i xs)) (slice_index_or xs i 0)).1
place_more place xs i l = ap (place_from place) (take_more xs i 0 l) ∙ place_from-append place (take i xs) (slice_index_or xs i 0 ∷ [])
