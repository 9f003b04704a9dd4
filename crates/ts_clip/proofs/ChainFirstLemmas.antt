-- The first element that isn't hidden, by the pages up to an index.
use Rattle.std.proofs.Common.{◌≡◌, ℕ, suc, ◌+◌, Some, None, List, [], ◌∷◌, ◌++◌, take, drop, refl, sym, ap, ◌∙◌, arith, append-nil}
use Rattle.std.specs.Prelude.{slice_get}
use Rattle.std.proofs.lemmas.List.{take-append-drop}
use Rattle.ts_space.specs.declared.place.Place.{Place}
use Rattle.ts_row.specs.declared.kind.Column.{Column}
use Rattle.ts_row.specs.Row.{Element, seen}
use Rattle.ts_sheets.specs.Stamped.{all_in}
use Rattle.ts_sheets.proofs.OrderLemmas.{all_in-append}
use Rattle.ts_entry.specs.Entry.{first_seen}
use Rattle.ts_clip.proofs.ChainCellLemmas.{seen_both}
use Rattle.ts_clip.proofs.ChainPageLemmas.{PageIn}

none_seen : (es : List Element) → None ≡ slice_get es 0 → es ≡ []
none_seen [] none = refl
none_seen (e ∷ es) none = absurd (cc)

first_both : (e : Element) (es fs : List Element) → Some e ≡ slice_get es 0 → Some e ≡ slice_get (es ++ fs) 0
first_both e [] fs first = absurd (cc)
first_both e (x ∷ es) fs first = first

-- what the page of an index tells, where the pages before it have hidden elements alone
module _ (slot : ℕ) (columns : List Column) (pages : ℕ → List ℕ) (place : Place) (i : ℕ) (chain : List (List Element)) (p : PageIn slot columns pages place i chain) (hidden : seen (all_in (take i chain)) ≡ []) where
  pub page_hidden : None ≡ first_seen p.elements → seen (all_in (take (i + 1) chain)) ≡ []
  page_hidden none =
      let one : suc i ≡ i + 1 = omega arith in
      let all : all_in (take (i + 1) chain) ≡ all_in (take i chain) ++ p.elements =
      ap (λ (n : ℕ). all_in (take n chain)) (sym one) ∙ ap all_in p.front ∙ all_in-append (take i chain) (p.elements ∷ []) ∙ ap (λ (l : List Element). all_in (take i chain) ++ l) (append-nil p.elements) in
      ap seen all ∙ seen_both (all_in (take i chain)) p.elements ∙ (λ j. hidden j ++ none_seen (seen p.elements) none j)

  pub page_first : (e : Element) → Some e ≡ first_seen p.elements → Some e ≡ first_seen (all_in chain)
  page_first e first =
      let rest : List Element = all_in (drop (suc i) chain) in
      let all : all_in chain ≡ all_in (take i chain) ++ (p.elements ++ rest) =
      ap all_in (sym (take-append-drop i chain)) ∙ all_in-append (take i chain) (drop i chain) ∙ ap (λ (l : List (List Element)). all_in (take i chain) ++ all_in l) p.back in
      first_both e (seen p.elements) (seen rest) first
      ∙ sym (ap first_seen all ∙ ap (λ (l : List Element). slice_get l 0) (seen_both (all_in (take i chain)) (p.elements ++ rest) ∙ (λ j. hidden j ++ seen_both p.elements rest j)))
