-- The list of the free pages.
use Rattle.std.specs.Prelude.{AllPairs}
use Rattle.std.proofs.Common.{◌≡◌, ◌≢◌, ℕ, zero, suc, ◌+◌, ◌<◌, List, [], ◌∷◌, length, get_or, refl, arith}
use Rattle.std.proofs.lemmas.List.Kept.{AllPairs-cons}
use Rattle.ts_layout.specs.Meaning.{ElementPage, Free, Cells, element_page}
use Rattle.ts_layout.specs.Surveyed.{free_from}

-- each free page, by its number
pub free_at : (first : ℕ) (es : List ElementPage) (k d : ℕ) → k < length (free_from first es) → (i : ℕ) × (i < length es) × (get_or (free_from first es) k d ≡ first + i) × (element_page i es ≡ Free)
free_at first [] k d within = absurd (omega (arith, within))
free_at first (Free ∷ es) zero d within = (0, omega arith, omega arith, refl)
free_at first (Free ∷ es) (suc k) d within =
    let found = free_at (suc first) es k d (omega (arith, within)) in (suc found.0, omega (arith, found.1), omega (arith, found.2), found.3)
free_at first (Cells slot sheet ∷ es) k d within =
    let found = free_at (suc first) es k d within in (suc found.0, omega (arith, found.1), omega (arith, found.2), found.3)

-- no page stands twice among the free ones
pub free_different : (first : ℕ) (es : List ElementPage) → AllPairs (λ a b. a ≢ b) (free_from first es)
free_different first [] = λ i j d before within. absurd (omega (arith, within))
free_different first (Free ∷ es) =
    AllPairs-cons (λ a b. a ≢ b) first (free_from (suc first) es) (λ k d within same. let found = free_at (suc first) es k d within in absurd (omega (arith, same, found.2))) (free_different (suc first) es)
free_different first (Cells slot sheet ∷ es) = free_different (suc first) es
