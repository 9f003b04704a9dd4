-- The items of a script, cut one behind the other.
use Rattle.std.proofs.Common.{◌≡◌, ◌==◌, ◌&&◌, ℕ, ◌+◌, ◌≤◌, Bool, true, false, cond, Option, Some, None, List, [], ◌∷◌, ◌++◌, length, map, take, drop, refl, ap, sym, ◌∙◌, append_assoc, take-append-drop, length-append, arith}
use Rattle.std.specs.List.{sum_by}
use Rattle.std.proofs.lemmas.List.Sums.{sum_by-cons}
use Rattle.ts_items.specs.Items.{Item, Statement, TooLong, Unended, after, all_blank, items, items_from, items_to_end, is_unended_at, last, place_from, quotes_match}
use Rattle.ts_items.proofs.ItemLaws.{items_from-append, place_from-append}
use Rattle.ts_multi.specs.Schedule.{total}
use Rattle.ts_session_scripts.specs.declared.piece.Piece.{Piece}
use Rattle.ts_session_scripts.specs.Piece.{item_of_piece}

-- how far a script was read: a front of it, whose items are kept, and what is left
pub record IsRead (script rest : List ℕ) (at : Option (List ℕ)) (kept : List Piece) : Type 0 where
  pub front : List ℕ
  pub whole : script ≡ front ++ rest
  pub place : at ≡ place_from (Some []) front
  pub items : map item_of_piece kept ≡ items_from (Some []) front

-- so many bytes more were read
pub read_more : (script rest : List ℕ) (place next : Option (List ℕ)) (kept more : List Piece) (n : ℕ) → IsRead script rest place kept → map item_of_piece more ≡ map item_of_piece kept ++ items_from place (take n rest) → next ≡ place_from place (take n rest)
    → IsRead script (drop n rest) next more
read_more script rest place next kept more n read items on = record {
  front = read.front ++ take n rest;
  whole = read.whole ∙ ap (λ (l : List ℕ). read.front ++ l) (sym (take-append-drop n rest)) ∙ sym (append_assoc read.front (take n rest) (drop n rest));
  place = on ∙ ap (λ (p : Option (List ℕ)). place_from p (take n rest)) read.place ∙ sym (place_from-append (Some []) read.front (take n rest));
  items = items ∙ ap (λ (l : List Item). l ++ items_from place (take n rest)) read.items ∙ ap (λ (p : Option (List ℕ)). items_from (Some []) read.front ++ items_from p (take n rest)) read.place
      ∙ sym (items_from-append (Some []) read.front (take n rest));
}

-- There are no more items than bytes: one that the end makes counts at its place.
abbrev weight : Option (List ℕ) → ℕ
weight place = cond (is_unended_at place) 1 0

light : (b : Bool) → cond b 1 0 ≤ 1
light true = omega arith
light false = omega arith

abbrev Counts : ℕ → List Item × Option (List ℕ) → Type 0
Counts before now = length now.0 + weight now.1 ≤ before + 1

past_counts : (ends : Bool) → Counts 0 ([], cond ends (Some []) None)
past_counts true = omega arith
past_counts false = omega arith

within_counts : (ends blank long all : Bool) (before : ℕ) (more : List ℕ) → Counts before (cond ends (cond blank [] (Statement more ∷ []), Some []) (cond long (cond all ([], Some []) (TooLong ∷ [], None)) ([], Some more)))
within_counts true true long all before more = omega arith
within_counts true false long all before more = omega arith
within_counts false blank true true before more = omega arith
within_counts false blank true false before more = omega arith
within_counts false blank false all before more = omega (arith, light (is_unended_at (Some more)))

one_counts : (place : Option (List ℕ)) (b : ℕ) → Counts (weight place) (after place b)
unfolding after
one_counts None b = past_counts (b == 59)
one_counts (Some text) b =
    within_counts (b == 59 && quotes_match text) (all_blank text) (length (text ++ b ∷ []) == 65536) (all_blank (text ++ b ∷ [])) (weight (Some text)) (text ++ b ∷ [])

few_from : (place : Option (List ℕ)) (bytes : List ℕ) → length (items_from place bytes) + weight (place_from place bytes) ≤ weight place + length bytes
few_from place [] = omega arith
few_from place (b ∷ bytes) =
    omega (arith, one_counts place b, few_from (after place b).1 bytes, length-append (after place b).0 (items_from (after place b).1 bytes))

last_counts : (b : Bool) → length (cond b (Unended ∷ []) []) ≡ cond b 1 0
last_counts true = refl
last_counts false = refl

pub few_items : (bytes : List ℕ) → length (items_to_end bytes) ≤ length bytes
few_items bytes = omega (arith, few_from (Some []) bytes, last_counts (is_unended_at (place_from (Some []) bytes)), length-append (items bytes) (last bytes))

pub few_total : (sections : List (List ℕ)) → total (map items_to_end sections) ≤ sum_by length sections
few_total [] = omega arith
few_total (section ∷ sections) = omega (arith, few_items section, few_total sections, sum_by-cons length section sections)
