-- Which sessions are waiting, one behind the other.
use Rattle.std.proofs.Common.{◌≡◌, inl, inr, ℕ, zero, suc, ◌+◌, ◌%◌, ◌<◌, ◌≤◌, ◌==◌, Bool, true, false, not, cond, Some, None, List, [], ◌∷◌, ◌++◌, length, map, get_or, take, drop, take-append-drop, refl, ap, sym, ◌∙◌, subst, length-append, length-take, arith}
use Rattle.std.specs.Prelude.{count_by, slice_get}
use Rattle.std.specs.List.{sum_by}
use Rattle.std.proofs.lemmas.List.Sums.{sum_by-cons}
use Rattle.std.proofs.lemmas.Bool.{cases_Bool}
use Rattle.std.proofs.lemmas.Bool.Decides.{nat_tests}
use Rattle.std.proofs.lemmas.List.{append-nil, length-map, map-append, take_all, take_more}
use Rattle.std.proofs.Math.Seq.{drop-cons}
use Rattle.ts_items.specs.Items.{Item}
use Rattle.ts_multi.specs.Schedule.{chosen, waiting}

-- those of two lists, the second behind the first
pub waiting_append : (n : ℕ) (xs ys : List ℕ) → waiting n (xs ++ ys) ≡ waiting n xs ++ waiting (n + length xs) ys
waiting_append n [] ys = let same : n ≡ n + 0 = omega arith in ap (λ (k : ℕ). waiting k ys) same
waiting_append n (x ∷ xs) ys = elim (cases_Bool (x == 0)) [
  | inl t ↦ let rest = waiting_append (n + 1) xs ys in let place : n + 1 + length xs ≡ n + length (x ∷ xs) = omega arith in rw t (rest ∙ ap (λ (k : ℕ). waiting (n + 1) xs ++ waiting k ys) place)
  | inr f ↦ let rest = waiting_append (n + 1) xs ys in let place : n + 1 + length xs ≡ n + length (x ∷ xs) = omega arith in rw f (ap (λ (l : List ℕ). n ∷ l) (rest ∙ ap (λ (k : ℕ). waiting (n + 1) xs ++ waiting k ys) place))
]

-- whether a session has an item left
abbrev pub has_left : List Item → Bool
has_left items = not (length items == 0)

-- so many are waiting as have one
abbrev left_one : List Item → ℕ
left_one items = cond (has_left items) 1 0

counts_more : (n : ℕ) (items : List Item) (rest : List (List Item)) → sum_by left_one rest ≡ length (waiting (n + 1) (map length rest)) → (b : Bool) → (length items == 0) ≡ b
    → sum_by left_one (items ∷ rest) ≡ length (waiting n (map length (items ∷ rest)))
counts_more n items rest more true t =
    let total : 0 + sum_by left_one rest ≡ length (waiting (n + 1) (map length rest)) = omega (arith, more) in
    sum_by-cons left_one items rest ∙ ap (λ (b : Bool). cond (not b) 1 0 + sum_by left_one rest) t ∙ total
    ∙ sym (ap (λ (b : Bool). length (cond b (waiting (n + 1) (map length rest)) (n ∷ waiting (n + 1) (map length rest)))) t)
counts_more n items rest more false f =
    let total : 1 + sum_by left_one rest ≡ length (n ∷ waiting (n + 1) (map length rest)) = omega (arith, more) in
    sum_by-cons left_one items rest ∙ ap (λ (b : Bool). cond (not b) 1 0 + sum_by left_one rest) f ∙ total
    ∙ sym (ap (λ (b : Bool). length (cond b (waiting (n + 1) (map length rest)) (n ∷ waiting (n + 1) (map length rest)))) f)

pub counts_waiting : (n : ℕ) (left : List (List Item)) → count_by has_left left ≡ length (waiting n (map length left))
counts_waiting n [] = refl
counts_waiting n (items ∷ rest) = counts_more n items rest (counts_waiting (n + 1) rest) (length items == 0) refl

-- the first of what stands behind a list
get_behind : (front : List ℕ) (n : ℕ) (rest : List ℕ) → slice_get (front ++ n ∷ rest) (length front) ≡ Some n
get_behind [] n rest = refl
get_behind (x ∷ front) n rest = get_behind front n rest

get_past : (list : List ℕ) (place : ℕ) → length list ≤ place → slice_get list place ≡ None
get_past [] place past = refl
get_past (x ∷ list) zero past = absurd (omega (arith, past))
get_past (x ∷ list) (suc place) past = get_past list place (omega (arith, past))

-- how many are waiting among the first so many
abbrev pub waiting_in : ℕ → List (List Item) → List ℕ
waiting_in index left = waiting 0 (map length (take index left))

module _ (left : List (List Item)) (index : ℕ) (within : index < length left) where
  abbrev here : List Item
  here = get_or left index []

  next_is : waiting_in (index + 1) left ≡ waiting_in index left ++ waiting index (length here ∷ [])
  next_is =
      let size : 0 + length (map length (take index left)) ≡ index = omega (arith, length-map (take index left) length, length-take index left, within) in
      ap (λ (l : List (List Item)). waiting 0 (map length l)) (take_more left index [] within) ∙ ap (waiting 0) (map-append length (take index left) (here ∷ []))
      ∙ waiting_append 0 (map length (take index left)) (length here ∷ []) ∙ ap (λ (k : ℕ). waiting_in index left ++ waiting k (length here ∷ [])) size

  pub passed_none : (length here == 0) ≡ true → length (waiting_in (index + 1) left) ≡ length (waiting_in index left)
  passed_none none = ap (λ (l : List ℕ). length l) (next_is ∙ ap (λ (b : Bool). waiting_in index left ++ cond b [] (index ∷ [])) none ∙ append-nil (waiting_in index left))

  pub passed_one : (length here == 0) ≡ false → length (waiting_in (index + 1) left) ≡ length (waiting_in index left) + 1
  passed_one some =
      ap (λ (l : List ℕ). length l) (next_is ∙ ap (λ (b : Bool). waiting_in index left ++ cond b [] (index ∷ [])) some) ∙ length-append (waiting_in index left) (index ∷ []) ∙ omega arith

  -- the session at this place is waiting
  pub found_here : (length here == 0) ≡ false → slice_get (waiting 0 (map length left)) (length (waiting_in index left)) ≡ Some index
  found_here some =
      let size : 0 + length (map length (take index left)) ≡ index = omega (arith, length-map (take index left) length, length-take index left, within) in
      let whole : left ≡ take index left ++ here ∷ drop (suc index) left = sym (take-append-drop index left) ∙ ap (λ (l : List (List Item)). take index left ++ l) (drop-cons left index [] within) in
      let all : waiting 0 (map length left) ≡ waiting_in index left ++ index ∷ waiting (index + 1) (map length (drop (suc index) left)) =
      ap (λ (l : List (List Item)). waiting 0 (map length l)) whole ∙ ap (waiting 0) (map-append length (take index left) (here ∷ drop (suc index) left))
      ∙ waiting_append 0 (map length (take index left)) (length here ∷ map length (drop (suc index) left))
      ∙ ap (λ (k : ℕ). waiting_in index left ++ waiting k (length here ∷ map length (drop (suc index) left))) size
      ∙ ap (λ (b : Bool). waiting_in index left ++ cond b (waiting (index + 1) (map length (drop (suc index) left))) (index ∷ waiting (index + 1) (map length (drop (suc index) left)))) some in
      ap (λ (l : List ℕ). slice_get l (length (waiting_in index left))) all ∙ get_behind (waiting_in index left) index (waiting (index + 1) (map length (drop (suc index) left)))

-- all were passed
pub found_none : (left : List (List Item)) (index place : ℕ) → length left ≤ index → length (waiting_in index left) ≤ place → slice_get (waiting 0 (map length left)) place ≡ None
found_none left index place all past =
    get_past (waiting 0 (map length left)) place (subst (λ (l : List (List Item)). length (waiting 0 (map length l)) ≤ place) (take_all index left all) past)

-- so the session on which a pick falls is found
pub chosen_none : (pick : ℕ) (ns : List ℕ) → (length ns == 0) ≡ true → chosen pick ns ≡ None
chosen_none pick [] none = refl
chosen_none pick (n ∷ ns) none = absurd (let zero : suc (length ns) ≡ 0 = grind (arith, nat_tests) in omega (arith, zero))

pub chosen_some : (pick : ℕ) (ns : List ℕ) → (length ns == 0) ≡ false → chosen pick ns ≡ slice_get ns (pick % length ns)
chosen_some pick [] some = absurd (cc)
chosen_some pick (n ∷ ns) some = refl

-- an item of a list, whatever stands in for one past its end
pub same_here : (left : List (List Item)) (index : ℕ) (x : List Item) → x ≡ get_or left index x → index < length left → get_or left index [] ≡ x
same_here [] index x is within = absurd (omega (arith, within))
same_here (items ∷ rest) zero x is within = sym is
same_here (items ∷ rest) (suc index) x is within = same_here rest index x is (omega (arith, within))

pub is_none : (n m : ℕ) → n ≡ m → n ≡ 0 → (m == 0) ≡ true
is_none n m same none = let zero : m ≡ 0 = omega (arith, same, none) in grind (arith, nat_tests)

pub is_some_of : (n m : ℕ) → n ≡ m → (n ≡ 0 → ⊥) → (m == 0) ≡ false
is_some_of n m same some = let positive : 0 < m = omega (arith, same, some) in grind (arith, nat_tests)
