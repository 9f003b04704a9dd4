-- What was said of the pages of a range is so of the elements of the series.
use Rattle.std.proofs.Common.{◌≡◌, ℕ, ◌-◌, ◌<◌, ◌≤◌, ◌^◌, ◌⊎◌, inl, inr, ℤ, min, Bool, IsTrue, Result, not, List, [], length, map, take, drop, refl, sym, ap, subst, ◌∙◌, arith}
use Rattle.std.specs.Prelude.{filter}
use Rattle.std.proofs.lemmas.List.Filters.{length-filter_both}
use Rattle.ts_base.specs.declared.fault.StoreFault.{StoreFault}
use Rattle.ts_space.specs.declared.place.Place.{Place}
use Rattle.ts_space.specs.Place.{count_of}
use Rattle.ts_page.specs.Pages.{Contents}
use Rattle.ts_row.specs.declared.kind.Column.{Column}
use Rattle.ts_row.specs.Row.{Element, seen}
use Rattle.ts_cells.specs.IrregularPage.{AreInOrder}
use Rattle.ts_irregular.specs.Call.{Reads}
use Rattle.ts_sheets.specs.Stamped.{all_in, is_within, within_range}
use Rattle.ts_sheets.specs.Places.{AreChained}
use Rattle.ts_sheets.proofs.OrderLemmas.{pages_in_order}
use Rattle.ts_series.proofs.ChainLemmas.{counted}
use Rattle.ts_series.proofs.KeepLemmas.{chained_since}
use Rattle.ts_series.proofs.RangeLemmas.{filter_in_order}
use Rattle.ts_series.proofs.WrittenLemmas.{few_elements}
use Rattle.ts_entry.specs.Entry.{Entry, filled, AreTaken, last_ones}
use Rattle.ts_clip.specs.declared.chain_cells.Wanted.{Wanted}
use Rattle.ts_clip.specs.Series.{HaveChain}
use Rattle.ts_clip.specs.Chain.{HaveRange, ArePassed}
use Rattle.ts_clip.proofs.ChainPageLemmas.{within_parts}
use Rattle.ts_clip.proofs.ChainRangeLemmas.{chained_part}
use Rattle.ts_clip.proofs.ChainReadingLemmas.{seen_within, taken_of, last_behind, last_taken}

-- a filter keeps no more than there are
few_kept : (test : Element → Bool) (es : List Element) → length (filter test es) ≤ length es
few_kept test es = omega (arith, length-filter_both test (λ (e : Element). not (test e)) (λ e. refl) es)

-- elements that a series has, in order, and no more than a counter has numbers
pub order_told : (slot : ℕ) (columns : List Column) (pages : ℕ → List ℕ) (places : List Place) (es : List Element) → HaveChain slot columns pages places es → AreInOrder columns (seen es)
order_told slot columns pages places es have =
    filter_in_order (λ (e : Element). not e.1.hidden) columns es (subst (AreInOrder columns) have.all (pages_in_order columns have.chain have.is.pages))

pub few_told : (slot : ℕ) (columns : List Column) (pages : ℕ → List ℕ) (places : List Place) (from to : ℤ) (es : List Element) → HaveChain slot columns pages places es → length (within_range from to (seen es)) < 2 ^ 64
few_told slot columns pages places from to es have = few_elements columns (within_range from to (seen es)) (filter_in_order (is_within from to) columns (seen es) (order_told slot columns pages places es have))

-- of the pages of a range
module _ (slot : ℕ) (columns : List Column) (pages : ℕ → List ℕ) (listed places : List Place) (first stop : ℕ) (from to : ℤ) (es : List Element) (same : places ≡ listed) (range : HaveRange from to places first stop)
    (have : HaveChain slot columns pages listed es) where
  on : AreChained slot columns pages places have.chain
  on = subst (λ (ps : List Place). AreChained slot columns pages ps have.chain) (sym same) have.on

  pub range_told : (P : List Element → Type 0) → ((chain : List (List Element)) → AreChained slot columns pages (take (stop - first) (drop first places)) chain → P (seen (within_range from to (all_in chain))))
      → P (within_range from to (seen es))
  range_told P all =
      let part : List (List Element) = take (stop - first) (drop first have.chain) in
      let eq : seen (within_range from to (all_in part)) ≡ within_range from to (seen es) =
      ap seen (sym (range slot columns pages have.chain on have.is.pages)) ∙ seen_within from to (all_in have.chain) ∙ ap (λ (l : List Element). within_range from to (seen l)) have.all in
      subst P eq (all part (chained_part slot columns pages (stop - first) first places have.chain on))

  -- how many they are
  pub count_told : (n : ℕ) → ((chain : List (List Element)) → AreChained slot columns pages (take (stop - first) (drop first places)) chain → n ≡ min (length (seen (within_range from to (all_in chain)))) (2 ^ 64 - 1))
      → n ≡ length (within_range from to (seen es))
  count_told n all =
      let is = range_told (λ (l : List Element). n ≡ min (length l) (2 ^ 64 - 1)) all in
      omega (arith, is, few_told slot columns pages listed from to es have)

  -- and that they are no more than their places tell of
  pub few_counted : length (within_range from to (seen es)) ≤ count_of (take (stop - first) (drop first places))
  few_counted =
      range_told (λ (l : List Element). length l ≤ count_of (take (stop - first) (drop first places)))
      (λ chain part. omega (
        arith,
        counted slot columns pages (take (stop - first) (drop first places)) chain part,
        few_kept (is_within from to) (all_in chain),
        few_kept (λ (e : Element). not e.1.hidden) (within_range from to (all_in chain)),
      ))

-- what the pages have that were read since
pub have_since : {T : Type 0} (tells : Bool) (result : Result T StoreFault) (slot : ℕ) (columns : List Column) (v w : Contents) (places : List Place) (es : List Element) → Reads tells result v w → IsTrue tells
    → HaveChain slot columns v.page places es → HaveChain slot columns w.page places es
have_since tells result slot columns v w places es reads told have = record {
  chain = have.chain;
  is = have.is;
  on = chained_since slot columns v.page w.page places have.chain (reads.pages told) have.on;
  all = have.all;
}

-- the last so many of the pages from an index on are the last of all, where they have as many or these are all pages
pub last_part : (took : List Entry → Type 0) (most skip count index : ℕ) (left : Wanted) (from to : ℤ) (part : List (List Element)) → skip ≡ count - most → count ≡ length (seen (within_range from to (all_in (drop index part))))
    → (most ≤ count) ⊎ (index ≡ 0) → ArePassed took (record { skip = skip; most = most }) left (seen (within_range from to (all_in (drop index part))))
    → AreTaken took (map filled (last_ones most (seen (within_range from to (all_in part))))) (most - left.most)
last_part took most skip count index left from to part skip_is count_is reached passed =
    let front : List Element = seen (within_range from to (all_in (take index part))) in
    let back : List Element = seen (within_range from to (all_in (drop index part))) in
    let taken = taken_of took (record { skip = skip; most = most }) left back passed in
    let own : take most (drop skip back) ≡ last_ones most back =
    ap (λ (k : ℕ). take most (drop k back)) (skip_is ∙ ap (λ (k : ℕ). k - most) count_is) ∙ last_taken most back in
    let all : last_ones most back ≡ last_ones most (seen (within_range from to (all_in part))) =
    sym (last_behind most front back (elim reached [ inl enough ↦ inl (omega (arith, enough, count_is)) | inr first ↦ inr (none first) ])) ∙ ap (last_ones most) (within_parts from to index part) in
    subst (λ (l : List Element). AreTaken took (map filled l) (most - left.most)) (own ∙ all) taken
  where
    none : index ≡ 0 → seen (within_range from to (all_in (take index part))) ≡ []
    none first = ap (λ (n : ℕ). seen (within_range from to (all_in (take n part)))) first
