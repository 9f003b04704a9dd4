-- One page of a chain that is read, and its place among the others.
use Rattle.std.proofs.Common.{◌≡◌, ℕ, zero, suc, ◌+◌, ◌<◌, ◌≤◌, ℤ, Bool, IsTrue, Ok, List, [], ◌∷◌, ◌++◌, length, take, drop, get_or, refl, sym, ap, subst, ◌∙◌, arith, append-nil}
use borrow.Rule.Slice.PartMut.{mid_of}
use Rattle.std.proofs.lemmas.List.{take_all, take-append-drop}
use Rattle.std.proofs.lemmas.List.Elements.{filter-append}
use Rattle.ts_space.specs.declared.place.Place.{Place}
use Rattle.ts_page.specs.Pages.{Contents, Got, IsElementPage}
use Rattle.ts_row.specs.declared.kind.Column.{Column}
use Rattle.ts_row.specs.Row.{Element, seen}
use Rattle.ts_cells.specs.IrregularPage.{AreInOrder, behind_head}
use Rattle.ts_irregular.specs.OnePage.{IsOn}
use Rattle.ts_irregular.specs.Call.{Reads}
use Rattle.ts_irregular.proofs.SeeLemmas.{behind_told}
use Rattle.ts_irregular.proofs.FindLemmas.{read_on}
use Rattle.ts_irregular.proofs.HeadLemmas.{part_behind, length-page}
use Rattle.ts_sheets.specs.Stamped.{all_in, is_within, within_range}
use Rattle.ts_sheets.specs.Places.{AreChained, CanBeRead}
use Rattle.ts_sheets.proofs.OrderLemmas.{all_in-append}
use Rattle.ts_chain.proofs.LastLemmas.{chained_count}
use Rattle.ts_clip.proofs.ChainCellLemmas.{seen_both}

-- the cells of told elements stand behind the head of their page
pub record HasCells (columns : List Column) (count : ℕ) (bytes : List ℕ) (es : List Element) : Type 0 where
  pub order : AreInOrder columns es
  pub number : length es ≡ count
  pub behind : mid_of 32 4064 bytes ≡ behind_head columns es

pub cells_told : (slot count : ℕ) (columns : List Column) (place : Place) (bytes : List ℕ) → ((es : List Element) → IsOn slot columns bytes place es → length es ≡ count) → (es : List Element) → IsOn slot columns bytes place es → HasCells columns count bytes es
cells_told slot count columns place bytes number es on =
    let order = on.bytes.fill.elements in
    let behind = behind_told slot columns es bytes on.bytes in
    record { order = order; number = number es on; behind = part_behind 4064 bytes (length-page columns es bytes order.each on.bytes.fill.room behind) ∙ behind }

pub page_read : (tells : Bool) (slot count : ℕ) (columns : List Column) (place : Place) (bytes : List ℕ) (v w : Contents) → IsElementPage place.page → Got tells place.page bytes (Ok tt) v w
    → ((es : List Element) → IsOn slot columns bytes place es → length es ≡ count) → IsTrue tells → (es : List Element) → IsOn slot columns (v.page place.page) place es → HasCells columns count bytes es
page_read tells slot count columns place bytes v w element got number told es on = cells_told slot count columns place bytes number es (read_on tells slot columns (place ∷ []) place bytes v w refl element got told es on)

-- the place of a page that was readable stays so
pub readable_since : (tells : Bool) (u v : Contents) (place : Place) → Reads tells (Ok (tt {0})) u v → CanBeRead u place → CanBeRead v place
readable_since tells u v place reads can = record { element = can.element; below = omega (arith, can.below, reads.call.count) }

-- the page of an index, behind those before it and in front of the others
pub record PageIn (slot : ℕ) (columns : List Column) (pages : ℕ → List ℕ) (place : Place) (i : ℕ) (chain : List (List Element)) : Type 0 where
  pub elements : List Element
  pub front : take (suc i) chain ≡ take i chain ++ elements ∷ []
  pub back : drop i chain ≡ elements ∷ drop (suc i) chain
  pub on : IsOn slot columns (pages place.page) place elements

pub page_in : (slot : ℕ) (columns : List Column) (pages : ℕ → List ℕ) (places : List Place) (i : ℕ) (d : Place) (chain : List (List Element)) → AreChained slot columns pages places chain → i < length places → PageIn slot columns pages (get_or places i d) i chain
page_in slot columns pages [] i d chain on within = absurd (omega (arith, within))
page_in slot columns pages (p ∷ places) i d [] on within = absurd on
page_in slot columns pages (p ∷ places) zero d (es ∷ chain) on within = record { elements = es; front = refl; back = refl; on = on.0 }
page_in slot columns pages (p ∷ places) (suc i) d (es ∷ chain) on within =
    let rest = page_in slot columns pages places i d chain on.1 (omega (arith, within)) in
    record { elements = rest.elements; front = ap (λ (l : List (List Element)). es ∷ l) rest.front; back = rest.back; on = rest.on }

-- what is seen of a range on two parts of the elements
pub within_both : (from to : ℤ) (xs ys : List Element) → seen (within_range from to (xs ++ ys)) ≡ seen (within_range from to xs) ++ seen (within_range from to ys)
within_both from to xs ys = ap seen (filter-append (is_within from to) xs ys) ∙ seen_both (within_range from to xs) (within_range from to ys)

-- on one page more, behind the others or in front of them
module _ (from to : ℤ) (slot : ℕ) (columns : List Column) (pages : ℕ → List ℕ) (place : Place) (i : ℕ) (chain : List (List Element)) (p : PageIn slot columns pages place i chain) where
  pub within_next : seen (within_range from to (all_in (take i chain))) ++ seen (within_range from to p.elements) ≡ seen (within_range from to (all_in (take (i + 1) chain)))
  within_next =
      let one : suc i ≡ i + 1 = omega arith in
      sym (within_both from to (all_in (take i chain)) p.elements)
      ∙ ap (λ (l : List Element). seen (within_range from to (all_in (take i chain) ++ l))) (sym (append-nil p.elements))
      ∙ ap (λ (l : List Element). seen (within_range from to l)) (sym (all_in-append (take i chain) (p.elements ∷ [])) ∙ ap all_in (sym p.front) ∙ ap (λ (n : ℕ). all_in (take n chain)) one)

  pub within_before : seen (within_range from to (all_in (drop i chain))) ≡ seen (within_range from to p.elements) ++ seen (within_range from to (all_in (drop (suc i) chain)))
  within_before = ap (λ (l : List (List Element)). seen (within_range from to (all_in l))) p.back ∙ within_both from to p.elements (all_in (drop (suc i) chain))

-- the pages before an index, and those from there on
pub within_parts : (from to : ℤ) (i : ℕ) (chain : List (List Element)) → seen (within_range from to (all_in (take i chain))) ++ seen (within_range from to (all_in (drop i chain))) ≡ seen (within_range from to (all_in chain))
within_parts from to i chain =
    sym (within_both from to (all_in (take i chain)) (all_in (drop i chain)))
    ∙ ap (λ (l : List Element). seen (within_range from to l)) (sym (all_in-append (take i chain) (drop i chain)) ∙ ap all_in (take-append-drop i chain))

-- all of them
pub pages_all : (slot : ℕ) (columns : List Column) (pages : ℕ → List ℕ) (i : ℕ) (places : List Place) (chain : List (List Element)) → AreChained slot columns pages places chain → length places ≤ i
    → take i chain ≡ chain
pages_all slot columns pages i places chain on past = take_all i chain (omega (arith, past, chained_count slot columns pages places chain on))

-- what the pages tell that were read since
pub on_since : (tells : Bool) (slot : ℕ) (columns : List Column) (u v : Contents) (place : Place) (es : List Element) → Reads tells (Ok (tt {0})) u v → IsTrue tells → IsOn slot columns (u.page place.page) place es → IsOn slot columns (v.page place.page) place es
on_since tells slot columns u v place es reads told on = subst (λ (b : List ℕ). IsOn slot columns b place es) (sym (reads.pages told place.page)) on
