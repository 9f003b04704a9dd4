-- The rank of a stamp, by the element at one index.
use Rattle.std.proofs.Common.{◌≡◌, ◌≢◌, ℕ, ◌+◌, ◌<◌, ◌≤◌, true, cond, ℤ, ◌<ℤ◌, ◌≤ℤ◌, Option, Some, None, is_some, Result, Ok, Err, List, length, take, inl, inr, refl, sym, ap, subst, ◌∙◌, arith, to_z, of_z, w64}
use Rattle.std.specs.List.{slice_get}
use Rattle.std.specs.Option.{option_map}
use Rattle.std.proofs.lemmas.Bool.{cases_lt}
use Rattle.std.proofs.lemmas.Int.{by_lt_z, to_z-of_z, ints}
use Rattle.ts_base.specs.Moment.{IsStamp}
use Rattle.ts_row.specs.declared.kind.Column.{Column}
use Rattle.ts_row.specs.Row.{Row}
use Rattle.ts_cells.specs.IrregularPage.{Element, AreRising, AreInOrder, behind_head}
use Rattle.ts_irregular.specs.Edit.{element_at, rank_of, search_of}
use Rattle.ts_irregular.proofs.EditLemmas.{found_at, not_found_at, not_found_past, rank_above, rank_below, rank_within}
use Rattle.ts_irregular.proofs.BytesLemmas.{Part, part}
use Rattle.ts_irregular.proofs.CellLemmas.{element_is}

module _ (columns : List Column) (stamp : ℤ) (i : ℕ) (es : List Element) (behind : List ℕ) where
  -- where it is earlier, it is counted; else it isn't
  pub rank_more : (p : Part columns i es behind) → AreRising es → p.element.0 <ℤ stamp → i + 1 ≤ rank_of stamp es
  rank_more p rise low =
      let above = rank_above stamp (take i es) p.element p.after (subst AreRising p.whole rise) low in
      omega (arith, above, p.count, ap (rank_of stamp) p.whole)

  pub rank_less : (p : Part columns i es behind) → stamp ≤ℤ p.element.0 → rank_of stamp es ≤ i
  rank_less p high =
      let below = rank_below stamp (take i es) p.element p.after high in
      omega (arith, below, p.count, ap (rank_of stamp) p.whole)

  -- the element at the rank is at the stamp
  pub found : (p : Part columns i es behind) → AreRising es → p.element.0 ≡ stamp → element_at stamp es ≡ Some p.element.1
  found p rise same = ap (element_at stamp) p.whole ∙ found_at stamp (take i es) p.element p.after (subst AreRising p.whole rise) same

  pub search_there : (p : Part columns i es behind) → AreRising es → p.element.0 ≡ stamp → i ≡ rank_of stamp es → ◌≡◌ {A = Result ℕ ℕ} (Ok i) (search_of stamp es)
  search_there p rise same rank =
      ap Ok rank ∙ sym (ap (λ (o : Option Row). cond (is_some o) (Ok (rank_of stamp es)) (Err (rank_of stamp es))) (found p rise same))

  -- or none is
  missing : AreInOrder columns es → behind ≡ behind_head columns es → i ≡ rank_of stamp es → ((p : Part columns i es behind) → i < length es → p.element.0 ≢ stamp) → element_at stamp es ≡ None
  missing order same rank other = elim (cases_lt i (length es)) [
    | inl within ↦
        let p = part columns i es behind order.each within same in
        ap (element_at stamp) p.whole
        ∙ not_found_at stamp (take i es) p.element p.after (subst AreRising p.whole order.rising) (sym (ap (rank_of stamp) p.whole) ∙ sym rank ∙ sym p.count) (other p within)
    | inr past ↦ not_found_past stamp es (omega (arith, past, rank, rank_within stamp es))
  ]

  pub search_none : AreInOrder columns es → behind ≡ behind_head columns es → i ≡ rank_of stamp es → ((p : Part columns i es behind) → i < length es → p.element.0 ≢ stamp) → ◌≡◌ {A = Result ℕ ℕ} (Err i) (search_of stamp es)
  search_none order same rank other =
      ap Err rank ∙ sym (ap (λ (o : Option Row). cond (is_some o) (Ok (rank_of stamp es)) (Err (rank_of stamp es))) (missing order same rank other))

-- the element at the rank is at the stamp, where one is
pub at_rank : (columns : List Column) (stamp : ℤ) (i : ℕ) (es : List Element) (behind : List ℕ) (p : Part columns i es behind) → AreRising es → i ≡ rank_of stamp es → is_some (element_at stamp es) ≡ true → p.element.0 ≡ stamp
at_rank columns stamp i es behind p rise rank there = by_lt_z p.element.0 stamp
    (λ low. let more = rank_more columns stamp i es behind p rise low in absurd (omega (arith, more, rank)))
    (λ high. by_lt_z stamp p.element.0
    (λ above. absurd (
    let none : element_at stamp es ≡ None = ap (element_at stamp) p.whole
    ∙ not_found_at stamp (take i es) p.element p.after (subst AreRising p.whole rise) (sym (ap (rank_of stamp) p.whole) ∙ sym rank ∙ sym p.count) (λ same. omega (arith, ints, same, above)) in
    cc))
    (λ below. omega (arith, ints, high, below)))

-- two stamps with the same bits are one
pub stamp_one : (a b : ℤ) → IsStamp a → IsStamp b → of_z w64 a ≡ of_z w64 b → a ≡ b
stamp_one a b first second same =
    sym (to_z-of_z w64 a (omega (arith, ints, first.0, first.1))) ∙ ap (to_z w64) same ∙ to_z-of_z w64 b (omega (arith, ints, second.0, second.1))

-- what a search says
cases_ok : (o : Option Row) (r i : ℕ) → ◌≡◌ {A = Result ℕ ℕ} (Ok i) (cond (is_some o) (Ok r) (Err r)) → (is_some o ≡ true) × (i ≡ r)
cases_ok (Some x) r i same = (refl, cc)
cases_ok None r i same = absurd (cc)

cases_err : (o : Option Row) (r i : ℕ) → ◌≡◌ {A = Result ℕ ℕ} (Err i) (cond (is_some o) (Ok r) (Err r)) → (o ≡ None) × (i ≡ r)
cases_err (Some x) r i same = absurd (cc)
cases_err None r i same = (refl, cc)

pub search_ok : (stamp : ℤ) (es : List Element) (i : ℕ) → ◌≡◌ {A = Result ℕ ℕ} (Ok i) (search_of stamp es) → (is_some (element_at stamp es) ≡ true) × (i ≡ rank_of stamp es)
search_ok stamp es i same = cases_ok (element_at stamp es) (rank_of stamp es) i same

pub search_err : (stamp : ℤ) (es : List Element) (i : ℕ) → ◌≡◌ {A = Result ℕ ℕ} (Err i) (search_of stamp es) → (element_at stamp es ≡ None) × (i ≡ rank_of stamp es)
search_err stamp es i same = cases_err (element_at stamp es) (rank_of stamp es) i same

-- the row that is read of the cell that a search found
pub row_found : (columns : List Column) (stamp : ℤ) (i : ℕ) (es : List Element) (behind : List ℕ) (row : Option Row) → AreInOrder columns es → behind ≡ behind_head columns es → i < length es → ◌≡◌ {A = Result ℕ ℕ} (Ok i) (search_of stamp es)
    → row ≡ option_map (λ (e : Element). e.1) (slice_get es i) → row ≡ element_at stamp es
row_found columns stamp i es behind row order same within told read =
    let p = part columns i es behind order.each within same in
    let s = search_ok stamp es i told in
    let here : p.element.0 ≡ stamp = at_rank columns stamp i es behind p order.rising s.1 s.0 in
    read ∙ ap (option_map (λ (e : Element). e.1)) (element_is columns i es behind p) ∙ sym (found columns stamp i es behind p order.rising here)
