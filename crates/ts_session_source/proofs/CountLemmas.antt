-- How many bytes the sections of a text have, and how many turns they come to.
use Rattle.std.proofs.Common.{◌≡◌, ℕ, zero, suc, ◌+◌, ◌≤◌, ◌/◌, Bool, true, nat_le, cond, List, [], ◌∷◌, ◌++◌, length, map, refl, sym, ◌∙◌, ap, add-one, arith, inl, inr, length-append}
use Rattle.std.proofs.lemmas.Bool.{cases_Bool}
use Rattle.std.proofs.lemmas.Bool.Decides.{nat_tests}
use Rattle.std.proofs.lemmas.List.{length-map}
use Rattle.std.proofs.lemmas.List.Sums.{sum_by-cons}
use Rattle.std.specs.List.{concat, sum_by}
use Rattle.ts_items.specs.Items.{items_to_end}
use Rattle.ts_command.specs.Grammar.{request_of}
use Rattle.ts_multi.specs.Sections.{onto, lines, is_mark, sections_of, sections}
use Rattle.ts_multi.specs.Picks.{drawn, picks_of}
use Rattle.ts_multi.specs.Schedule.{total}
use Rattle.ts_multi.proofs.PickLemmas.{picks_of-more, picks_of-none}
use Rattle.ts_multi.proofs.ScheduleLemmas.{order-length}
use Rattle.ts_multi.proofs.SectionLemmas.{concat-lines}
use Rattle.ts_sessions.specs.Turns.{requests_of}
use Rattle.ts_session_scripts.proofs.CallerLemmas.{few_total}
use Rattle.ts_session_source.specs.Sessions.{turns_of, asked_of}

-- a front of some texts counts at most once
onto_sum : (front : List ℕ) (texts : List (List ℕ)) → sum_by length (onto front texts) ≡ length front + sum_by length texts
onto_sum front [] = sum_by-cons length front []
onto_sum front (text ∷ texts) = omega (arith, sum_by-cons length (front ++ text) texts, sum_by-cons length text texts, length-append front text)

sum_lines : (ls : List (List ℕ)) → sum_by length (sections_of ls) ≤ length (concat ls)
sum_lines [] = omega arith
sum_lines (line ∷ ls) = elim (cases_Bool (is_mark line)) [
  | inl t ↦ rw t (omega (arith, sum_by-cons length [] (sections_of ls), sum_lines ls, length-append line (concat ls)))
  | inr f ↦ rw f (omega (arith, onto_sum line (sections_of ls), sum_lines ls, length-append line (concat ls)))
]

-- the sections of a text have no more bytes than the text
pub sum_text : (text : List ℕ) → sum_by length (sections text) ≤ length text
sum_text text = omega (arith, sum_lines (lines text), ap length (concat-lines text))

picks_count : (seed count : ℕ) → length (picks_of seed count) ≡ count
picks_count seed zero = ap length (picks_of-none seed)
picks_count seed (suc count) =
    ap (λ (n : ℕ). length (picks_of seed n)) (sym (add-one count)) ∙ ap length (picks_of-more seed count)
    ∙ length-append (picks_of seed count) ((drawn seed (count + 1) / 1000) ∷ []) ∙ (let before = picks_count seed count in omega (arith, before))

same_total : (ss : List (List ℕ)) → total (map requests_of ss) ≡ total (map items_to_end ss)
same_total [] = refl
same_total (section ∷ ss) = omega (arith, length-map (items_to_end section) request_of, same_total ss)

-- each item has its turn
pub each_turn : (seed : ℕ) (text : List ℕ) → length (turns_of seed text) ≡ total (map requests_of (sections text))
each_turn seed text =
    order-length (map requests_of (sections text)) (picks_of seed (length text))
    (omega (arith, same_total (sections text), few_total (sections text), sum_text text, picks_count seed (length text)))

-- at most 16 sections are carried out
pub asked_all : (seed : ℕ) (text : List ℕ) → length (sections text) ≤ 16 → turns_of seed text ≡ asked_of seed true text
asked_all seed text few =
    let least : nat_le (length (sections text)) 16 ≡ true = grind (arith, nat_tests) in
    sym (ap (λ (b : Bool). cond b (turns_of seed text) []) least)
