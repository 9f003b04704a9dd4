-- The pages of places, and those that can be taken: what a window of places leaves of them.
use Rattle.std.proofs.Common.{◌≡◌, ◌≢◌, ℕ, List, [], ◌∷◌, ◌++◌, sym, ap, subst, ◌∙◌, arith, append_assoc}
use Rattle.std.specs.Prelude.{Contains, IsPermutation}
use Rattle.std.proofs.lemmas.List.Sorted.{IsPermutation-refl, IsPermutation-sym, IsPermutation-middle, IsPermutation-to_front}
use Rattle.ts_page.specs.Pages.{EqualPages, with_page}
use Rattle.ts_chain.proofs.PagesLemmas.{changed_page, other_page}

-- of two pages that were put
module _ (a b : ℕ) (one two : List ℕ) (v w : ℕ → List ℕ) (put : EqualPages (with_page b two (with_page a one v)) w) where
  pub second_put : w b ≡ two
  second_put = put b ∙ changed_page b two (with_page a one v)

  pub first_put : a ≢ b → w a ≡ one
  first_put other = put a ∙ other_page b a two (with_page a one v) other ∙ changed_page a one v

  pub none_put : (n : ℕ) → n ≢ a → n ≢ b → w n ≡ v n
  none_put n first second = put n ∙ other_page b n two (with_page a one v) second ∙ other_page a n one v first

-- the pages that can be taken, and those of the places
pub one_taken : (free : List ℕ) (n p : ℕ) → IsPermutation ((n ∷ free) ++ p ∷ []) (free ++ p ∷ n ∷ [])
one_taken free n p =
    let whole : (free ++ p ∷ []) ++ n ∷ [] ≡ free ++ p ∷ n ∷ [] = append_assoc free (p ∷ []) (n ∷ []) in
    IsPermutation-sym _ _ (subst (λ (l : List ℕ). IsPermutation l ((n ∷ free) ++ p ∷ [])) whole (IsPermutation-to_front (free ++ p ∷ []) n))

pub one_freed : (free before : List ℕ) (n : ℕ) (behind : List ℕ) → IsPermutation (free ++ (before ++ n ∷ behind)) ((n ∷ free) ++ (before ++ behind))
one_freed free before n behind =
    let one : (free ++ before) ++ n ∷ behind ≡ free ++ (before ++ n ∷ behind) = append_assoc free before (n ∷ behind) in
    let two : n ∷ ((free ++ before) ++ behind) ≡ (n ∷ free) ++ (before ++ behind) = ap (λ (l : List ℕ). n ∷ l) (append_assoc free before behind) in
    subst (λ (l : List ℕ). IsPermutation l ((n ∷ free) ++ (before ++ behind))) one
    (subst (λ (l : List ℕ). IsPermutation ((free ++ before) ++ n ∷ behind) l) two (IsPermutation-middle (free ++ before) n behind))

pub none_moved : (v w pages : List ℕ) → w ≡ v → IsPermutation (v ++ pages) (w ++ pages)
none_moved v w pages same = subst (λ (l : List ℕ). IsPermutation (v ++ pages) (l ++ pages)) (sym same) (IsPermutation-refl (v ++ pages))

-- a number that isn't among some is none of them
pub not_first : (xs : List ℕ) (x n : ℕ) → ¬ Contains (x ∷ xs) n → n ≢ x
not_first xs x n not same = not (0, omega arith, sym same)
