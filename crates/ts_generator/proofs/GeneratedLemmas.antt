-- The commands that a count and a seed give, each behind those before it.
use Rattle.std.proofs.Common.{◌≡◌, ⊎_elim, ℕ, zero, suc, ◌+◌, ◌*◌, ◌%◌, ◌<◌, List, [], ◌∷◌, ◌++◌, length, take, refl, sym, ◌∙◌, ap, subst, arith, append_assoc, length-append, codes}
use Rattle.std.proofs.lemmas.List.{take-append-le}
use Rattle.std.proofs.Math.Seq.{take-append-add}
use Rattle.ts_base.specs.Moment.{civil_of, civil_in_years, civil_in_year, stamp_text}
use Rattle.ts_command.specs.declared.command.Command.{Command}
use Rattle.ts_multi.specs.Picks.{drawn}
use Rattle.ts_generator.specs.Generated.{beginning, ending, opening, edit, edits, closing, generated, IsNext}

-- a command of a front of a list is the same of the list
next_left : (n : ℕ) (xs ys : List Command) (c : Command) → n < length xs → IsNext xs n c → IsNext (xs ++ ys) n c
next_left n xs ys c less next =
    take-append-le (n + 1) xs ys (omega (arith, less)) ∙ next ∙ ap (λ (l : List Command). l ++ c ∷ []) (sym (take-append-le n xs ys (omega (arith, less))))

-- a command behind a list
next_right : (m n : ℕ) (xs ys : List Command) (c : Command) → m ≡ length xs + n → IsNext ys n c → IsNext (xs ++ ys) m c
next_right m n xs ys c is next =
    let more : m + 1 ≡ length xs + (n + 1) = omega (arith, is) in
    ap (λ (k : ℕ). take k (xs ++ ys)) more ∙ take-append-add xs ys (n + 1) ∙ ap (λ (l : List Command). xs ++ l) next ∙ sym (append_assoc xs (take n ys) (c ∷ []))
    ∙ ap (λ (l : List Command). l ++ c ∷ []) (sym (ap (λ (k : ℕ). take k (xs ++ ys)) is ∙ take-append-add xs ys n))

length-opening : length opening ≡ 6
unfolding opening
length-opening = refl

length-edits : (seed n : ℕ) → length (edits seed n) ≡ n
unfolding edits
length-edits seed zero = refl
length-edits seed (suc n) = length-append (edits seed n) (edit (suc n) (drawn seed (suc n)) ∷ []) ∙ omega (arith, length-edits seed n)

length-closing : length closing ≡ 2
unfolding closing
length-closing = refl

-- how many commands stand before the last two
length-begun : (count seed : ℕ) → length (opening ++ edits seed count) ≡ 6 + count
length-begun count seed = length-append opening (edits seed count) ∙ omega (arith, length-opening, length-edits seed count)

pub length-generated : (count seed : ℕ) → length (generated count seed) ≡ count + 8
unfolding generated
length-generated count seed = length-append (opening ++ edits seed count) closing ∙ omega (arith, length-begun count seed, length-closing)

-- an edit behind those before it
next_edit : (seed count k : ℕ) → k < count → IsNext (edits seed count) k (edit (k + 1) (drawn seed (k + 1)))
unfolding edits
next_edit seed zero k less = absurd (omega (arith, less))
next_edit seed (suc n) k less = ⊎_elim
    (λ (before : k < n). next_left k (edits seed n) (edit (suc n) (drawn seed (suc n)) ∷ []) (edit (k + 1) (drawn seed (k + 1))) (omega (arith, before, length-edits seed n)) (next_edit seed n k before))
    (λ (here : k ≡ n).
    let last : IsNext (edit (suc n) (drawn seed (suc n)) ∷ []) 0 (edit (suc n) (drawn seed (suc n))) = refl in
    let same : suc n ≡ k + 1 = omega (arith, here) in
    subst (λ (m : ℕ). IsNext (edits seed n ++ edit (suc n) (drawn seed (suc n)) ∷ []) k (edit m (drawn seed m))) same
    (next_right k 0 (edits seed n) (edit (suc n) (drawn seed (suc n)) ∷ []) (edit (suc n) (drawn seed (suc n))) (omega (arith, here, length-edits seed n)) last))
    (grind (arith, less))

pub next_of_opening : (count seed n : ℕ) (c : Command) → n < 6 → IsNext opening n c → IsNext (generated count seed) n c
unfolding generated
next_of_opening count seed n c less next =
    next_left n (opening ++ edits seed count) closing c (omega (arith, less, length-begun count seed))
    (next_left n opening (edits seed count) c (omega (arith, less, length-opening)) next)

pub next_of_edits : (count seed n k : ℕ) → n ≡ 6 + k → k < count → IsNext (generated count seed) n (edit (k + 1) (drawn seed (k + 1)))
unfolding generated
next_of_edits count seed n k is less =
    next_left n (opening ++ edits seed count) closing (edit (k + 1) (drawn seed (k + 1))) (omega (arith, is, less, length-begun count seed))
    (next_right n k opening (edits seed count) (edit (k + 1) (drawn seed (k + 1))) (omega (arith, is, length-opening)) (next_edit seed count k less))

pub next_of_closing : (count seed n k : ℕ) (c : Command) → n ≡ 6 + count + k → IsNext closing k c → IsNext (generated count seed) n c
unfolding generated
next_of_closing count seed n k c is next = next_right n k (opening ++ edits seed count) closing c (omega (arith, is, length-begun count seed)) next

-- one number more is drawn for an edit
pub drawn_more : (seed i j : ℕ) → j ≡ suc i → drawn seed j ≡ (1_103_515_245 * drawn seed i + 12_345) % 2_147_483_648
unfolding drawn
drawn_more seed i j is = ap (λ (k : ℕ). drawn seed k) is

-- the two stamps, as they are printed
beginning_text : stamp_text beginning ≡ codes "2011-01-03 00:00:00.00000"
unfolding stamp_text civil_of civil_in_years civil_in_year
beginning_text = refl

ending_text : stamp_text ending ≡ codes "2012-01-01 00:00:00.00000"
unfolding stamp_text civil_of civil_in_years civil_in_year
ending_text = refl
