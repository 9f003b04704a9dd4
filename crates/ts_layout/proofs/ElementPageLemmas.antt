-- Lists of element pages, and lists with one page more.
use Rattle.std.proofs.Common.{◌≡◌, ℕ, ◌<◌, List, length, sym, ◌∙◌, inl, inr, ◌+◌, [], ◌∷◌, ◌++◌, arith, suc, ap}
use Rattle.std.proofs.lemmas.Bool.{cases_lt}
use Rattle.std.proofs.lemmas.List.{get_or_past, get_or_append_left, get_or_at}
use Rattle.ts_layout.specs.Sheets.{Sheet}
use Rattle.ts_layout.specs.Meaning.{ElementPage, Free, Cells, element_page}
use Rattle.ts_layout.specs.Surveyed.{free_from}

-- a page that has elements is one of the list
pub within_list : (es : List ElementPage) (i slot : ℕ) (sheet : Sheet) → element_page i es ≡ Cells slot sheet → i < length es
within_list es i slot sheet is =
    elim (cases_lt i (length es)) [ inl below ↦ below | inr past ↦ absurd (free_cells slot sheet (sym (get_or_past es i Free past) ∙ is)) ] where
      free_cells : (slot : ℕ) (sheet : Sheet) → Free ≡ Cells slot sheet → ⊥
      free_cells slot sheet same = cc

-- the pages of a list with one page more
pub before : (es : List ElementPage) (e : ElementPage) (i : ℕ) → i < length es → element_page i (es ++ e ∷ []) ≡ element_page i es
before es e i within = get_or_append_left es (e ∷ []) Free i within

pub at_end : (es : List ElementPage) (e : ElementPage) (i : ℕ) → i ≡ length es → element_page i (es ++ e ∷ []) ≡ e
at_end es e i is = get_or_at es e [] Free i (sym is)

-- the free pages with one page more
pub free_from-append : (first : ℕ) (es : List ElementPage) (e : ElementPage) → free_from first (es ++ e ∷ []) ≡ free_from first es ++ free_from (first + length es) (e ∷ [])
free_from-append first [] e = ap (λ (n : ℕ). free_from n (e ∷ [])) (let z : first ≡ first + 0 = omega arith in z)
free_from-append first (Free ∷ es) e = ap (λ (l : List ℕ). first ∷ l) (free_from-append (suc first) es e) ∙ ap (λ (n : ℕ). first ∷ (free_from (suc first) es ++ free_from n (e ∷ []))) (let z : suc first + length es ≡ first + suc (length es) = omega arith in z)
free_from-append first (Cells slot sheet ∷ es) e = free_from-append (suc first) es e ∙ ap (λ (n : ℕ). free_from (suc first) es ++ free_from n (e ∷ [])) (let z : suc first + length es ≡ first + suc (length es) = omega arith in z)
