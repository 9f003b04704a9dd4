-- Edits by the index that a search gives.
use Rattle.std.proofs.Common.{◌≡◌, ℕ, ◌+◌, ◌-◌, ◌<◌, ℤ, Result, Ok, Err, List, ◌∷◌, ◌++◌, length, take, drop, sym, ap, ◌∙◌, arith}
use Rattle.ts_row.specs.Row.{Row}
use Rattle.ts_cells.specs.IrregularPage.{Element, AreRising}
use Rattle.ts_irregular.specs.Edit.{with_element, without_element, search_of}
use Rattle.ts_irregular.proofs.EditLemmas.{put_new, put_there, take_none, take_there}
use Rattle.ts_irregular.proofs.SearchLemmas.{search_ok, search_err}
use Rattle.ts_irregular.proofs.BytesLemmas.{length-removed}

-- a row before the one of an index, and in place of it
pub put_before : (stamp : ℤ) (row : Row) (es : List Element) (i : ℕ) → ◌≡◌ {A = Result ℕ ℕ} (Err i) (search_of stamp es) → with_element stamp row es ≡ take i es ++ (stamp, row) ∷ drop i es
put_before stamp row es i missing =
    let s = search_err stamp es i missing in put_new stamp row es s.0 ∙ ap (λ (n : ℕ). take n es ++ (stamp, row) ∷ drop n es) (sym s.1)

pub put_instead : (stamp : ℤ) (row : Row) (es : List Element) (i : ℕ) → AreRising es → ◌≡◌ {A = Result ℕ ℕ} (Ok i) (search_of stamp es) → with_element stamp row es ≡ take i es ++ (stamp, row) ∷ drop (i + 1) es
put_instead stamp row es i rise found =
    let s = search_ok stamp es i found in put_there stamp row es rise s.0 ∙ ap (λ (n : ℕ). take n es ++ (stamp, row) ∷ drop (n + 1) es) (sym s.1)

-- an element is taken away
pub take_out_of : (stamp : ℤ) (es : List Element) (i : ℕ) → AreRising es → ◌≡◌ {A = Result ℕ ℕ} (Ok i) (search_of stamp es) → without_element stamp es ≡ take i es ++ drop (i + 1) es
take_out_of stamp es i rise found =
    let s = search_ok stamp es i found in
    take_there stamp es rise s.0 ∙ ap (λ (n : ℕ). take n es ++ drop (n + 1) es) (sym s.1)

pub count_out_of : (stamp : ℤ) (es : List Element) (i : ℕ) → AreRising es → ◌≡◌ {A = Result ℕ ℕ} (Ok i) (search_of stamp es) → i < length es → length (without_element stamp es) ≡ length es - 1
count_out_of stamp es i rise found within =
    ap length (take_out_of stamp es i rise found) ∙ (let fewer = length-removed i es within in omega (arith, fewer))

pub take_none_of : (stamp : ℤ) (es : List Element) (i : ℕ) → ◌≡◌ {A = Result ℕ ℕ} (Err i) (search_of stamp es) → without_element stamp es ≡ es
take_none_of stamp es i missing = take_none stamp es (search_err stamp es i missing).0
