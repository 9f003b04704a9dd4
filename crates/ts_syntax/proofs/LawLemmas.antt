-- The mistakes of a script are its refusals, and stand in their statements, in turn.
use Rattle.std.proofs.Common.{◌≡◌, ◌⊎◌, inl, inr, ℕ, ◌+◌, ◌≤◌, ◌==◌, Bool, true, false, cond, List, [], ◌∷◌, ◌++◌, length, map, Option, Some, None, Result, Ok, Err, refl, sym, ◌∙◌, ap, subst, arith, append_assoc, length-append}
use Rattle.std.specs.List.{flat_map}
use Rattle.std.proofs.lemmas.Bool.{cases_Bool}
use Rattle.std.proofs.lemmas.List.{append-nil, map-append}
use Rattle.std.proofs.lemmas.Grind.{flat_map-append}
use Rattle.ts_base.specs.declared.refusal.Refusal.{Refusal}
use Rattle.ts_items.specs.Items.{Item, Statement, TooLong, Unended, after, items_from, place_from, is_unended_at}
use Rattle.ts_items.proofs.ItemLaws.{place_from-append}
use Rattle.ts_command.specs.Grammar.{command_of, Request, request_of, requests, last_request}
use Rattle.ts_command.specs.declared.command.Command.{Command}
use Rattle.ts_syntax.specs.Mistakes.{Mistake, mistakes, mistakes_of, mistakes_from, mistakes_at_end, text_at, place_in}
use Rattle.ts_syntax.specs.Laws.{refusals_of, refusals, IsEnded, IsCutOff, StandsIn, StandInTurn}
use Rattle.ts_syntax.proofs.GrammarLemmas.{before_tail, place-le}
use Rattle.ts_syntax.proofs.ReadLemmas.{Outcome, GoesOn, Ends, Overflows, Restarts, outcome_of}

abbrev why : Mistake → Refusal
why m = m.refusal

of_request : (front text : List ℕ) (request : Request) → map why (mistakes_of front text request) ≡ refusals_of request
of_request front text (Ok command) = refl
of_request front text (Err refusal) = refl

of_items : (front text : List ℕ) (list : List Item) → map why (flat_map (λ item. mistakes_of front text (request_of item)) list) ≡ flat_map refusals_of (map request_of list)
of_items front text [] = refl
of_items front text (item ∷ list) =
    map-append why (mistakes_of front text (request_of item)) (flat_map (λ i. mistakes_of front text (request_of i)) list)
    ∙ ap (λ (l : List Refusal). l ++ map why (flat_map (λ i. mistakes_of front text (request_of i)) list)) (of_request front text (request_of item))
    ∙ ap (λ (l : List Refusal). refusals_of (request_of item) ++ l) (of_items front text list)

of_bytes : (front : List ℕ) (place : Option (List ℕ)) (bytes : List ℕ) → map why (mistakes_from front place bytes) ≡ flat_map refusals_of (map request_of (items_from place bytes))
of_bytes front place [] = refl
of_bytes front place (b ∷ bytes) =
    let now = (after place b).0 in
    let next = (after place b).1 in
    let here = flat_map (λ (item : Item). mistakes_of (front ++ b ∷ []) (text_at place ++ b ∷ []) (request_of item)) now in
    map-append why here (mistakes_from (front ++ b ∷ []) next bytes)
    ∙ ap (λ (l : List Refusal). l ++ map why (mistakes_from (front ++ b ∷ []) next bytes)) (of_items (front ++ b ∷ []) (text_at place ++ b ∷ []) now)
    ∙ ap (λ (l : List Refusal). flat_map refusals_of (map request_of now) ++ l) (of_bytes (front ++ b ∷ []) next bytes)
    ∙ sym (flat_map-append refusals_of (map request_of now) (map request_of (items_from next bytes)))
    ∙ ap (flat_map refusals_of) (sym (map-append request_of now (items_from next bytes)))

of_end : (script : List ℕ) (place : Option (List ℕ)) → map why (mistakes_at_end script place) ≡ flat_map refusals_of (map request_of (cond {A = List Item} (is_unended_at place) (Unended ∷ []) []))
of_end script place = go (is_unended_at place) where
  go : (b : Bool) → map why (cond {A = List Mistake} b (mistakes_of script (text_at place) (request_of Unended)) []) ≡ flat_map refusals_of (map request_of (cond {A = List Item} b (Unended ∷ []) []))
  go true = refl
  go false = refl

pub all_refusals : (script : List ℕ) → map why (mistakes script) ≡ refusals script
all_refusals script =
    let place = place_from (Some []) script in
    map-append why (mistakes_from [] (Some []) script) (mistakes_at_end script place)
    ∙ ap (λ (l : List Refusal). l ++ map why (mistakes_at_end script place)) (of_bytes [] (Some []) script)
    ∙ ap (λ (l : List Refusal). flat_map refusals_of (requests script) ++ l) (of_end script place)
    ∙ sym (flat_map-append refusals_of (requests script) (last_request script))

place_within : (text : List ℕ) (outcome : Result Command ℕ) → command_of text ≡ outcome → place_in text outcome ≤ length text
place_within text (Ok command) is = omega arith
place_within text (Err place) is = place-le text place is

-- an item of these bytes, and the mistakes behind it
item_stands : (script start text rest : List ℕ) (count : ℕ) (others : List Mistake) (item : Item) (request : Request) → request_of item ≡ request → count ≤ length start → script ≡ start ++ (text ++ rest) → (IsEnded start text item ⊎ IsCutOff start text rest item)
    → ((next : ℕ) → next ≤ length (start ++ text) → StandInTurn script next others) → StandInTurn script count (mistakes_of (start ++ text) text request ++ others)
item_stands script start text rest count others item (Ok command) same behind whole bytes next = next count (omega (arith, behind, length-append start text))
item_stands script start text rest count others item (Err refusal) same behind whole bytes next =
    let place = place_in text (command_of text) in (
      start,
      text,
      behind,
      record {
        rest = rest;
        whole = whole;
        item = item;
        bytes = bytes;
        refused = same;
        before = before_tail start text text place place refl (place_within text (command_of text) refl);
      },
      next (length start + length text) (omega (arith, length-append start text)),
    )

-- the statement that the end cuts off, if one is
cut_off : (script start : List ℕ) (place : Option (List ℕ)) (count : ℕ) → count ≤ length start → script ≡ start ++ text_at place → place_from (Some []) script ≡ place → StandInTurn script count (mistakes_at_end script place)
cut_off script start None count behind ends at = tt
cut_off script start (Some text) count behind ends at = go (is_unended_at (Some text)) refl where
  here : is_unended_at (Some text) ≡ true → StandInTurn script count (mistakes_of script text (request_of Unended))
  here shows =
      let cut : IsCutOff start text [] Unended = record { end = refl; so_far = ap (place_from (Some [])) (sym ends) ∙ at; unended = shows; made = refl } in
      subst (λ (l : List ℕ). StandInTurn script count (mistakes_of l text (request_of Unended))) (sym ends)
      (item_stands script start text [] count [] Unended (request_of Unended) refl behind (ends ∙ ap (λ (l : List ℕ). start ++ l) (sym (append-nil text))) (inr cut) (λ next most. tt))

  go : (b : Bool) → is_unended_at (Some text) ≡ b → StandInTurn script count (cond {A = List Mistake} b (mistakes_of script text (request_of Unended)) [])
  go true shows = here shows
  go false shows = tt

-- what comes behind one that was too long
past_of : (b : ℕ) → (next : Option (List ℕ)) × (after None b ≡ ([], next)) × (text_at next ≡ [])
unfolding after
past_of b = elim (cases_Bool (b == 59)) [
  | inl t ↦ (Some [], rw t refl, refl)
  | inr f ↦ (None, rw f refl, refl)
]

-- the mistakes of these bytes and of the end, with what a byte before them makes
abbrev Turn : List ℕ → List ℕ → List ℕ → List ℕ → ℕ → List Item × Option (List ℕ) → Type 0
Turn script front text bytes count made =
    StandInTurn script count ((flat_map (λ (item : Item). mistakes_of front text (request_of item)) made.0 ++ mistakes_from front made.1 bytes) ++ mistakes_at_end script (place_from made.1 bytes))

-- an item ends with this byte
item_ends : (script front start text bytes : List ℕ) (b count : ℕ) (item : Item) (next : Option (List ℕ)) → after (Some text) b ≡ (item ∷ [], next) → count ≤ length start → front ≡ start ++ text → place_from (Some []) front ≡ Some text → script ≡ (front ++ b ∷ []) ++ bytes
    → ((more : ℕ) → more ≤ length (front ++ b ∷ []) → StandInTurn script more (mistakes_from (front ++ b ∷ []) next bytes ++ mistakes_at_end script (place_from next bytes))) → Turn script (front ++ b ∷ []) (text ++ b ∷ []) bytes count (item ∷ [], next)
item_ends script front start text bytes b count item next makes behind ends at is turn =
    let more = text ++ b ∷ [] in
    let later = mistakes_from (front ++ b ∷ []) next bytes in
    let last = mistakes_at_end script (place_from next bytes) in
    let found = mistakes_of (front ++ b ∷ []) more (request_of item) in
    let here : front ++ b ∷ [] ≡ start ++ more = ap (λ (l : List ℕ). l ++ b ∷ []) ends ∙ append_assoc start text (b ∷ []) in
    let whole : script ≡ start ++ (more ++ bytes) = is ∙ ap (λ (l : List ℕ). l ++ bytes) here ∙ append_assoc start more bytes in
    let bytes_of : IsEnded start more item = record { front = text; last = b; bytes = refl; so_far = ap (place_from (Some [])) (sym ends) ∙ at; ends = ap (λ (x : List Item × Option (List ℕ)). x.0) makes } in
    let shape : ((found ++ []) ++ later) ++ last ≡ found ++ (later ++ last) = ap (λ (l : List Mistake). (l ++ later) ++ last) (append-nil found) ∙ append_assoc found later last in
    let stands : StandInTurn script count (mistakes_of (start ++ more) more (request_of item) ++ (later ++ last)) =
    item_stands script start more bytes count (later ++ last) item (request_of item) refl behind whole (inl bytes_of) (λ n most. turn n (subst (λ (l : List ℕ). n ≤ length l) (sym here) most)) in
    subst (StandInTurn script count) (sym shape) (subst (λ (l : List ℕ). StandInTurn script count (mistakes_of l more (request_of item) ++ (later ++ last))) (sym here) stands)

in_turn : (script front : List ℕ) (place : Option (List ℕ)) (start bytes : List ℕ) (count : ℕ) → count ≤ length start → front ≡ start ++ text_at place → place_from (Some []) front ≡ place → script ≡ front ++ bytes
    → StandInTurn script count (mistakes_from front place bytes ++ mistakes_at_end script (place_from place bytes))
in_turn script front place start [] count behind ends at is =
    let whole : script ≡ front = is ∙ append-nil front in
    cut_off script start place count behind (whole ∙ ends) (ap (place_from (Some [])) whole ∙ at)
in_turn script front None start (b ∷ bytes) count behind ends at is =
    let front' = front ++ b ∷ [] in
    let past = past_of b in
    let now : place_from (Some []) front' ≡ (after None b).1 = place_from-append (Some []) front (b ∷ []) ∙ ap (λ (p : Option (List ℕ)). place_from p (b ∷ [])) at in
    let behind' : count ≤ length front' = omega (arith, behind, ap length ends, length-append start [], length-append front (b ∷ [])) in
    subst (Turn script front' (b ∷ []) bytes count) (sym past.1)
    (in_turn script front' past.0 front' bytes count behind' (sym (append-nil front') ∙ ap (λ (l : List ℕ). front' ++ l) (sym past.2)) (now ∙ ap (λ (x : List Item × Option (List ℕ)). x.1) past.1) (is ∙ sym (append_assoc front (b ∷ []) bytes)))
in_turn script front (Some text) start (b ∷ bytes) count behind ends at is =
    let front' = front ++ b ∷ [] in
    let here : front' ≡ start ++ (text ++ b ∷ []) = ap (λ (l : List ℕ). l ++ b ∷ []) ends ∙ append_assoc start text (b ∷ []) in
    let whole : script ≡ front' ++ bytes = is ∙ sym (append_assoc front (b ∷ []) bytes) in
    let now : place_from (Some []) front' ≡ (after (Some text) b).1 = place_from-append (Some []) front (b ∷ []) ∙ ap (λ (p : Option (List ℕ)). place_from p (b ∷ [])) at in
    let fresh : front' ≡ front' ++ [] = sym (append-nil front') in
    let behind' : count ≤ length front' = omega (arith, behind, ap length here, length-append start (text ++ b ∷ [])) in
    elim (outcome_of text b) [
      | GoesOn e ↦ subst (Turn script front' (text ++ b ∷ []) bytes count) (sym e) (in_turn script front' (Some (text ++ b ∷ [])) start bytes count behind here (now ∙ ap (λ (x : List Item × Option (List ℕ)). x.1) e) whole)
      | Ends e k ↦ subst (Turn script front' (text ++ b ∷ []) bytes count) (sym e)
          (item_ends script front start text bytes b count (Statement (text ++ b ∷ [])) (Some []) e behind ends at whole (λ more most. in_turn script front' (Some []) front' bytes more most fresh (now ∙ ap (λ (x : List Item × Option (List ℕ)). x.1) e) whole))
      | Overflows e k ↦ subst (Turn script front' (text ++ b ∷ []) bytes count) (sym e)
          (item_ends script front start text bytes b count TooLong None e behind ends at whole (λ more most. in_turn script front' None front' bytes more most fresh (now ∙ ap (λ (x : List Item × Option (List ℕ)). x.1) e) whole))
      | Restarts e k ↦ subst (Turn script front' (text ++ b ∷ []) bytes count) (sym e) (in_turn script front' (Some []) front' bytes count behind' fresh (now ∙ ap (λ (x : List Item × Option (List ℕ)). x.1) e) whole)
    ]

pub all_in_turn : (script : List ℕ) → StandInTurn script 0 (mistakes script)
all_in_turn script = in_turn script [] (Some []) [] script 0 (omega arith) refl refl refl
