-- One turn of an order, and what follows it.
use Rattle.std.proofs.Common.{◌≡◌, ℕ, zero, suc, ◌+◌, ◌<◌, Option, Some, None, List, [], ◌∷◌, length, map, get_or, set, refl, ap, sym, ◌∙◌, arith}
use Rattle.std.specs.Prelude.{option_and_then, slice_index_or, slice_set}
use Rattle.std.proofs.lemmas.List.{length-map, map-set}
use Rattle.ts_items.specs.Items.{Item}
use Rattle.ts_command.specs.Grammar.{Request, request_of}
use Rattle.ts_multi.specs.Schedule.{first_of, next_session, order, total, turn}
use Rattle.ts_session_scripts.specs.Script.{requests_left}

-- a turn, and what follows it
order_none : {A : Type 0} (pick : ℕ) (left : List (List A)) (picks : List ℕ) → turn pick left ≡ None → order left (pick ∷ picks) ≡ []
order_none {A} pick left picks none =
    let step : Option ((ℕ × A) × List (List A)) → List (ℕ × A) = λ o. elim o [ None ↦ [] | Some now ↦ now.0 ∷ order now.1 picks ] in
    ap step none

order_some : {A : Type 0} (pick : ℕ) (left : List (List A)) (picks : List ℕ) (now : (ℕ × A) × List (List A)) → turn pick left ≡ Some now → order left (pick ∷ picks) ≡ now.0 ∷ order now.1 picks
order_some {A} pick left picks now some =
    let step : Option ((ℕ × A) × List (List A)) → List (ℕ × A) = λ o. elim o [ None ↦ [] | Some now ↦ now.0 ∷ order now.1 picks ] in
    ap step some

-- how many items are left is how many requests are
same_lengths : (left : List (List Item)) → map length (requests_left left) ≡ map length left
same_lengths [] = refl
same_lengths (items ∷ rest) = (λ i. length-map items request_of i ∷ same_lengths rest i)

index_left : (left : List (List Item)) (who : ℕ) → get_or (requests_left left) who [] ≡ map request_of (get_or left who [])
index_left [] zero = refl
index_left [] (suc who) = refl
index_left (items ∷ rest) zero = refl
index_left (items ∷ rest) (suc who) = index_left rest who

-- no session has an item left
pub turn_none : (pick : ℕ) (left : List (List Item)) (picks : List ℕ) → next_session pick (map length left) ≡ None → order (requests_left left) (pick ∷ picks) ≡ []
turn_none pick left picks none =
    order_none pick (requests_left left) picks
    (ap (option_and_then (λ number. first_of number (slice_index_or (requests_left left) number []) (requests_left left))) (ap (next_session pick) (same_lengths left) ∙ none))

-- it is the turn of a session, which takes its next item
pub turn_some : (pick : ℕ) (left : List (List Item)) (picks : List ℕ) (who : ℕ) (item : Item) (rest : List Item) → next_session pick (map length left) ≡ Some who → get_or left who [] ≡ item ∷ rest
    → order (requests_left left) (pick ∷ picks) ≡ (who + 1, request_of item) ∷ order (requests_left (set left who rest)) picks
turn_some pick left picks who item rest falls is =
    let there : get_or (requests_left left) who [] ≡ request_of item ∷ map request_of rest = index_left left who ∙ ap (map request_of) is in
    order_some pick (requests_left left) picks ((who + 1, request_of item), slice_set (requests_left left) who (map request_of rest))
    (ap (option_and_then (λ number. first_of number (slice_index_or (requests_left left) number []) (requests_left left))) (ap (next_session pick) (same_lengths left) ∙ falls)
    ∙ ap (λ (l : List Request). first_of who l (requests_left left)) there)
    ∙ ap (λ (l : List (List Request)). (who + 1, request_of item) ∷ order l picks) (sym (map-set (map request_of) left who rest))

-- one item fewer is left
pub one_fewer : {A : Type 0} (left : List (List A)) (number : ℕ) (item : A) (items : List A) → number < length left → get_or left number [] ≡ item ∷ items → total (slice_set left number items) + 1 ≡ total left
one_fewer [] number item items within is = absurd (omega arith)
one_fewer (first ∷ rest) zero item items within is = let size : length first ≡ length (item ∷ items) = ap length is in omega (arith, size)
one_fewer (first ∷ rest) (suc number) item items within is = let inner = one_fewer rest number item items (omega arith) is in omega (arith, inner)

-- a list that isn't empty
pub some_item : {A : Type 0} (items : List A) → 0 < length items → (item : A) × (rest : List A) × (items ≡ item ∷ rest)
some_item [] some = absurd (omega arith)
some_item (item ∷ rest) some = (item, rest, refl)
