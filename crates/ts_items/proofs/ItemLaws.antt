-- Reading goes on where it stopped.
use Rattle.std.proofs.Common.{◌≡◌, ℕ, List, [], ◌∷◌, ◌++◌, refl, sym, ◌∙◌, ap, append_assoc, Option, take, drop, take-append-drop}
use Rattle.ts_items.specs.Items.{Item, after, items_from, place_from}

pub items_from-append : (place : Option (List ℕ)) (front rest : List ℕ) → items_from place (front ++ rest) ≡ items_from place front ++ items_from (place_from place front) rest
items_from-append place [] rest = refl
items_from-append place (b ∷ front) rest =
    ap (λ (l : List Item). (after place b).0 ++ l) (items_from-append (after place b).1 front rest) ∙ sym (append_assoc (after place b).0 (items_from (after place b).1 front) (items_from (place_from (after place b).1 front) rest))

pub place_from-append : (place : Option (List ℕ)) (front rest : List ℕ) → place_from place (front ++ rest) ≡ place_from (place_from place front) rest
place_from-append place [] rest = refl
place_from-append place (b ∷ front) rest = place_from-append (after place b).1 front rest

pub items_from-split : (place : Option (List ℕ)) (n : ℕ) (bytes : List ℕ) → items_from place bytes ≡ items_from place (take n bytes) ++ items_from (place_from place (take n bytes)) (drop n bytes)
items_from-split place n bytes = ap (items_from place) (sym (take-append-drop n bytes)) ∙ items_from-append place (take n bytes) (drop n bytes)

pub place_from-split : (place : Option (List ℕ)) (n : ℕ) (bytes : List ℕ) → place_from place bytes ≡ place_from (place_from place (take n bytes)) (drop n bytes)
place_from-split place n bytes = ap (place_from place) (sym (take-append-drop n bytes)) ∙ place_from-append place (take n bytes) (drop n bytes)
