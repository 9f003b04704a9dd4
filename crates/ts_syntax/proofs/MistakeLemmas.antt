-- The mistakes of bytes, one part behind another.
use Rattle.std.proofs.Common.{◌≡◌, ℕ, List, [], ◌∷◌, ◌++◌, Option, refl, sym, ◌∙◌, ap, append_assoc}
use Rattle.std.specs.List.{flat_map}
use Rattle.std.proofs.lemmas.List.{append-nil}
use Rattle.ts_items.specs.Items.{Item, after, items_from, place_from}
use Rattle.ts_command.specs.Grammar.{request_of}
use Rattle.ts_syntax.specs.Mistakes.{Mistake, mistakes_of, mistakes_from, text_at}

-- one byte behind a part, and more
shift : (front bytes : List ℕ) (b : ℕ) → (front ++ b ∷ []) ++ bytes ≡ front ++ b ∷ bytes
shift front bytes b = append_assoc front (b ∷ []) bytes

pub mistakes_from-append : (front : List ℕ) (place : Option (List ℕ)) (bytes rest : List ℕ) → mistakes_from front place (bytes ++ rest) ≡ mistakes_from front place bytes ++ mistakes_from (front ++ bytes) (place_from place bytes) rest
mistakes_from-append front place [] rest = ap (λ (l : List ℕ). mistakes_from l place rest) (sym (append-nil front))
mistakes_from-append front place (b ∷ bytes) rest =
    let here = flat_map (λ (item : Item). mistakes_of (front ++ b ∷ []) (text_at place ++ b ∷ []) (request_of item)) (after place b).0 in
    let next = (after place b).1 in
    ap (λ (l : List Mistake). here ++ l) (mistakes_from-append (front ++ b ∷ []) next bytes rest)
    ∙ sym (append_assoc here (mistakes_from (front ++ b ∷ []) next bytes) (mistakes_from ((front ++ b ∷ []) ++ bytes) (place_from next bytes) rest))
    ∙ ap (λ (l : List ℕ). (here ++ mistakes_from (front ++ b ∷ []) next bytes) ++ mistakes_from l (place_from next bytes) rest) (shift front bytes b)

nothing_of : (xs ys : List Item) → xs ++ ys ≡ [] → (xs ≡ []) × (ys ≡ [])
nothing_of [] ys none = (refl, none)
nothing_of (x ∷ xs) ys none = absurd (cc)

-- where no item ends, there is no mistake
pub no_mistakes : (front : List ℕ) (place : Option (List ℕ)) (bytes : List ℕ) → items_from place bytes ≡ [] → mistakes_from front place bytes ≡ []
no_mistakes front place [] none = refl
no_mistakes front place (b ∷ bytes) none =
    let parts = nothing_of (after place b).0 (items_from (after place b).1 bytes) none in
    ap (λ (l : List Item). flat_map (λ (item : Item). mistakes_of (front ++ b ∷ []) (text_at place ++ b ∷ []) (request_of item)) l ++ mistakes_from (front ++ b ∷ []) (after place b).1 bytes) parts.0
    ∙ no_mistakes (front ++ b ∷ []) (after place b).1 bytes parts.1

-- those behind bytes, at the place where they come
pub mistakes_behind : (front : List ℕ) (place mid : Option (List ℕ)) (bytes rest : List ℕ) → mid ≡ place_from place bytes → mistakes_from front place bytes ++ mistakes_from (front ++ bytes) mid rest ≡ mistakes_from front place (bytes ++ rest)
mistakes_behind front place mid bytes rest is =
    ap (λ (p : Option (List ℕ)). mistakes_from front place bytes ++ mistakes_from (front ++ bytes) p rest) is ∙ sym (mistakes_from-append front place bytes rest)
