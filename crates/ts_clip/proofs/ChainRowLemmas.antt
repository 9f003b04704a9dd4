-- The elements of a range on the pages of a chain, hidden ones too.
use Rattle.std.proofs.Common.{◌≡◌, ℕ, suc, ◌+◌, ℤ, List, [], ◌∷◌, ◌++◌, take, sym, ap, ◌∙◌, arith, append-nil}
use Rattle.std.proofs.lemmas.List.Elements.{filter-append}
use Rattle.ts_space.specs.declared.place.Place.{Place}
use Rattle.ts_row.specs.declared.kind.Column.{Column}
use Rattle.ts_row.specs.Row.{Element}
use Rattle.ts_sheets.specs.Stamped.{all_in, is_within, within_range}
use Rattle.ts_sheets.proofs.OrderLemmas.{all_in-append}
use Rattle.ts_clip.proofs.ChainPageLemmas.{PageIn}

range_both : (from to : ℤ) (xs ys : List Element) → within_range from to (xs ++ ys) ≡ within_range from to xs ++ within_range from to ys
range_both from to xs ys = filter-append (is_within from to) xs ys

-- on one page more
pub range_next : (from to : ℤ) (slot : ℕ) (columns : List Column) (pages : ℕ → List ℕ) (place : Place) (i : ℕ) (chain : List (List Element)) (p : PageIn slot columns pages place i chain)
    → within_range from to (all_in (take i chain)) ++ within_range from to p.elements ≡ within_range from to (all_in (take (i + 1) chain))
range_next from to slot columns pages place i chain p =
    let one : suc i ≡ i + 1 = omega arith in
    sym (range_both from to (all_in (take i chain)) p.elements)
    ∙ ap (λ (l : List Element). within_range from to (all_in (take i chain) ++ l)) (sym (append-nil p.elements))
    ∙ ap (within_range from to) (sym (all_in-append (take i chain) (p.elements ∷ [])) ∙ ap all_in (sym p.front) ∙ ap (λ (n : ℕ). all_in (take n chain)) one)
