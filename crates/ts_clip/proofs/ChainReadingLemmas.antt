-- The reading of an irregular series: what is taken of its elements is taken of its entries.
use Rattle.std.proofs.Common.{◌≡◌, ℕ, zero, suc, ◌+◌, ◌-◌, ◌<◌, ◌≤◌, ◌⊎◌, inl, inr, ℤ, pos, Bool, true, false, cond, not, Ok, Err, List, [], ◌∷◌, ◌++◌, length, map, take, drop, refl, sym, ap, subst, ◌∙◌, arith, append-nil, length-append, length-drop, lt-ltb, le-ltb}
use Rattle.std.specs.Prelude.{int_lt, filter, unsigned_abs, nat_lt, ◌&&◌}
use Rattle.std.proofs.lemmas.List.{take_all, take-map, drop-map, length-map}
use Rattle.std.proofs.Math.Seq.{drop-append-add}
use Rattle.ts_base.specs.declared.refusal.Refusal.TheVariants.{TooLarge}
use Rattle.ts_row.specs.declared.kind.Column.{Column}
use Rattle.ts_row.specs.Row.{Element, seen}
use Rattle.ts_cells.specs.IrregularPage.{AreElements}
use Rattle.ts_irregular.proofs.EditLemmas.{int_lt_no}
use Rattle.ts_sheets.specs.Stamped.{is_within, within_range}
use Rattle.ts_entry.specs.Entry.{Entry, filled, elements_of, AreTaken, clipped, counted, entry_number, last_ones}
use Rattle.ts_base.specs.Answer.{most_rows, within_rows}
use Rattle.ts_clip.specs.Call.{IsRead}
use Rattle.ts_clip.specs.declared.chain_cells.Wanted.{Wanted}
use Rattle.ts_clip.specs.Chain.{wanted_of, ArePassed, first_moment, last_moment}
use Rattle.ts_clip.proofs.ChainRangeLemmas.{cut_none}

-- two filters, in either order
module _ {A : Type 0} (p q : A → Bool) where
  step : (x : A) (xs ys : List A) (a b : Bool) → p x ≡ a → q x ≡ b → filter p ys ≡ filter q xs → filter p (cond b (x ∷ ys) ys) ≡ filter q (cond a (x ∷ xs) xs)
  step x xs ys true true first second rest = ap (λ c. cond c (x ∷ filter p ys) (filter p ys)) first ∙ ap (λ (l : List A). x ∷ l) rest ∙ sym (ap (λ c. cond c (x ∷ filter q xs) (filter q xs)) second)
  step x xs ys true false first second rest = rest ∙ sym (ap (λ c. cond c (x ∷ filter q xs) (filter q xs)) second)
  step x xs ys false true first second rest = ap (λ c. cond c (x ∷ filter p ys) (filter p ys)) first ∙ rest
  step x xs ys false false first second rest = rest

  pub filter_swap : (xs : List A) → filter p (filter q xs) ≡ filter q (filter p xs)
  filter_swap [] = refl
  filter_swap (x ∷ xs) = step x (filter p xs) (filter q xs) (p x) (q x) refl refl (filter_swap xs)

pub seen_within : (from to : ℤ) (es : List Element) → seen (within_range from to es) ≡ within_range from to (seen es)
seen_within from to es = filter_swap (λ (e : Element). not e.1.hidden) (is_within from to) es

-- a test of stamps, of elements or of their entries
filter_filled : (test : ℤ → Bool) (es : List Element) → filter (λ (e : Entry). test e.0) (map filled es) ≡ map filled (filter (λ (e : Element). test e.0) es)
filter_filled test [] = refl
filter_filled test (e ∷ es) = one (test e.0) (filter (λ (f : Entry). test f.0) (map filled es)) (filter (λ (f : Element). test f.0) es) (filter_filled test es)
  where
    one : (b : Bool) (xs : List Entry) (ys : List Element) → xs ≡ map filled ys → cond b (filled e ∷ xs) xs ≡ map filled (cond b (e ∷ ys) ys)
    one true xs ys rest = ap (λ (l : List Entry). filled e ∷ l) rest
    one false xs ys rest = rest

pub clipped_filled : (from to : ℤ) (es : List Element) → clipped from to (map filled es) ≡ map filled (within_range from to es)
clipped_filled from to es = filter_filled (λ z. not (int_lt z from) && not (int_lt to z)) es

-- no stamp is before the least or behind the greatest
up_to_all : (columns : List Column) (to : ℤ) (es : List Element) → AreElements columns es → filter (λ (e : Element). not (int_lt to e.0)) es ≡ within_range first_moment to es
up_to_all columns to [] are = refl
up_to_all columns to (e ∷ es) are =
    let rest = up_to_all columns to es are.1 in
    (λ j. cond (not (int_lt to e.0)) (e ∷ rest j) (rest j))
    ∙ sym (ap (λ b. cond (not b && not (int_lt to e.0)) (e ∷ within_range first_moment to es) (within_range first_moment to es)) (int_lt_no e.0 first_moment are.0.stamp.0))

both_true : (b : Bool) → b ≡ (b && not false)
both_true true = refl
both_true false = refl

from_all : (columns : List Column) (from : ℤ) (es : List Element) → AreElements columns es → filter (λ (e : Element). not (int_lt e.0 from)) es ≡ within_range from last_moment es
from_all columns from [] are = refl
from_all columns from (e ∷ es) are =
    let rest = from_all columns from es are.1 in
    let test : not (int_lt e.0 from) ≡ is_within from last_moment e = both_true (not (int_lt e.0 from)) ∙ sym (ap (λ b. not (int_lt e.0 from) && not b) (int_lt_no last_moment e.0 are.0.stamp.1)) in
    λ j. cond (test j) (e ∷ rest j) (rest j)

pub within_all : (columns : List Column) (es : List Element) → AreElements columns es → within_range first_moment last_moment es ≡ es
within_all columns [] are = refl
within_all columns (e ∷ es) are =
    (λ j. cond (not (int_lt_no e.0 first_moment are.0.stamp.0 j) && not (int_lt_no last_moment e.0 are.0.stamp.1 j)) (e ∷ within_range first_moment last_moment es) (within_range first_moment last_moment es))
    ∙ ap (λ (l : List Element). e ∷ l) (within_all columns es are.1)

-- the first entries from a stamp on, and the last up to it
pub counted_first : (columns : List Column) (stamp n : ℤ) (es : List Element) → int_lt n (pos 0) ≡ false → AreElements columns es → counted stamp n (map filled es) ≡ map filled (take (unsigned_abs n) (within_range stamp last_moment es))
counted_first columns stamp n es more are =
    let entries : List Entry = map filled es in
    ap (λ b. cond b (last_ones (unsigned_abs n) (filter (λ (e : Entry). not (int_lt stamp e.0)) entries)) (take (unsigned_abs n) (filter (λ (e : Entry). not (int_lt e.0 stamp)) entries))) more
    ∙ ap (take (unsigned_abs n)) (filter_filled (λ z. not (int_lt z stamp)) es ∙ ap (map filled) (from_all columns stamp es are)) ∙ take-map filled (unsigned_abs n) (within_range stamp last_moment es)

pub counted_last : (columns : List Column) (stamp n : ℤ) (es : List Element) → int_lt n (pos 0) ≡ true → AreElements columns es → counted stamp n (map filled es) ≡ map filled (last_ones (unsigned_abs n) (within_range first_moment stamp es))
counted_last columns stamp n es less are =
    let entries : List Entry = map filled es in
    let some : List Element = within_range first_moment stamp es in
    ap (λ b. cond b (last_ones (unsigned_abs n) (filter (λ (e : Entry). not (int_lt stamp e.0)) entries)) (take (unsigned_abs n) (filter (λ (e : Entry). not (int_lt e.0 stamp)) entries))) less
    ∙ ap (last_ones (unsigned_abs n)) (filter_filled (λ z. not (int_lt stamp z)) es ∙ ap (map filled) (up_to_all columns stamp es are))
    ∙ ap (λ (k : ℕ). drop (k - unsigned_abs n) (map filled some)) (length-map some filled) ∙ drop-map filled (length some - unsigned_abs n) some

-- the elements of entries that all have one
pub elements_filled : (es : List Element) → elements_of (map filled es) ≡ es
elements_filled [] = refl
elements_filled (e ∷ es) = ap (λ (l : List Element). e ∷ l) (elements_filled es)

-- the entry of a number
pub number_filled : (n : ℕ) (es : List Element) → entry_number n (map filled es) ≡ map filled (take 1 (drop n es))
number_filled zero [] = refl
number_filled zero (e ∷ es) = refl
number_filled (suc n) [] = refl
number_filled (suc n) (e ∷ es) = number_filled n es

-- those that were wanted were taken
none_wanted : (b : Wanted) → wanted_of b [] ≡ []
none_wanted b = ap (map filled) (cut_none b.most b.skip)

pub taken_of : (took : List Entry → Type 0) (a b : Wanted) (es : List Element) → ArePassed took a b es → AreTaken took (wanted_of a es) (a.most - b.most)
taken_of took a b es p =
    let all : p.entries ≡ wanted_of a es =
    sym (append-nil p.entries) ∙ ap (λ (l : List Entry). p.entries ++ l) (sym (none_wanted b)) ∙ sym (p.are []) ∙ ap (wanted_of a) (append-nil es) in
    record { taken = subst took all p.taken; number = omega (arith, p.number, ap length all) }

-- the last of two lists are those of the second, where it has as many or the first has none
pub last_behind : (n : ℕ) (xs ys : List Element) → (n ≤ length ys) ⊎ (xs ≡ []) → last_ones n (xs ++ ys) ≡ last_ones n ys
last_behind n xs ys (inl enough) =
    ap (λ (k : ℕ). drop k (xs ++ ys)) (let sum : length (xs ++ ys) - n ≡ length xs + (length ys - n) = omega (arith, length-append xs ys, enough) in sum) ∙ drop-append-add xs ys (length ys - n)
last_behind n xs ys (inr none) = ap (λ (l : List Element). last_ones n (l ++ ys)) none

-- so many of the last so many are all of them
pub last_taken : (n : ℕ) (ys : List Element) → take n (last_ones n ys) ≡ last_ones n ys
last_taken n ys = take_all n (last_ones n ys) (omega (arith, length-drop (length ys - n) ys))

-- rows that are too many for a reply, and others
pub read_over : (took : List Entry → Type 0) (entries : List Entry) (rows : ℕ) → took [] → rows ≡ length entries → most_rows < rows → IsRead took (within_rows entries) (Err (TooLarge rows))
read_over took entries rows none is over =
    let test : nat_lt most_rows (length entries) ≡ true = lt-ltb most_rows (length entries) (omega (arith, is, over)) in
    subst (λ (b : Bool). IsRead took (cond b (Err (TooLarge (length entries))) (Ok entries)) (Err (TooLarge rows))) (sym test) (ap TooLarge is, none)

pub read_all : (took : List Entry → Type 0) (entries : List Entry) (count : ℕ) → AreTaken took entries count → length entries ≤ most_rows → IsRead took (within_rows entries) (Ok count)
read_all took entries count taken few =
    let test : nat_lt most_rows (length entries) ≡ false = le-ltb most_rows (length entries) few in
    subst (λ (b : Bool). IsRead took (cond b (Err (TooLarge (length entries))) (Ok entries)) (Ok count)) (sym test) taken
