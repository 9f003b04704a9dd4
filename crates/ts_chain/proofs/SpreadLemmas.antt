-- A full page and its neighbours, after one more element.
use Rattle.std.proofs.Common.{◌≡◌, ℕ, ◌+◌, ◌<◌, ◌≤◌, ◌^◌, ℤ, Some, List, [], ◌∷◌, ◌++◌, length, take, drop, sym, ap, subst, ◌∙◌, arith, append_assoc, append-nil, length-append}
use Rattle.std.proofs.lemmas.List.{take-append-drop}
use Rattle.ts_space.specs.declared.place.Place.{Place}
use Rattle.ts_row.specs.declared.kind.Column.{Column}
use Rattle.ts_row.specs.Row.{Row, Element}
use Rattle.ts_cells.specs.IrregularPage.{IsElement, page_room, AreInOrder, irregular_page, first_stamp}
use Rattle.ts_irregular.specs.Edit.{with_element}
use Rattle.ts_irregular.proofs.EditLemmas.{with_in_order}
use Rattle.ts_sheets.specs.Stamped.{all_in, ArePages, AreSized, IsAround}
use Rattle.ts_sheets.specs.Places.{AreChained, IsCounted}
use Rattle.ts_chain.specs.Window.{half_of, AreHalves, HavePart}
use Rattle.ts_sheets.proofs.OrderLemmas.{pages_in_order, pages_made}
use Rattle.ts_chain.proofs.EditLemmas.{with_around}
use Rattle.ts_chain.proofs.PlaceLemmas.{Cut}

-- the edited elements, by those before the page, its own and those behind it
pub edited_all : (stamp : ℤ) (row : Row) (before : List (List Element)) (es : List Element) (behind : List (List Element)) → IsAround stamp before behind
    → with_element stamp row (all_in (before ++ es ∷ behind)) ≡ all_in before ++ (with_element stamp row es ++ all_in behind)
edited_all stamp row before es behind around =
    with_around stamp before (es ∷ []) behind around row ∙ ap (λ (l : List Element). all_in before ++ (with_element stamp row l ++ all_in behind)) (append-nil es)

pub first_both : (xs ys : List Element) (at : ℤ) → first_stamp xs ≡ Some at → first_stamp (xs ++ ys) ≡ Some at
first_both [] ys at first = absurd (cc)
first_both (x ∷ xs) ys at first = first

-- two pages of which each has the elements that a place tells of
pub two_pages : (slot : ℕ) (columns : List Column) (one two : List Element) (a b : Place) (pages : ℕ → List ℕ) → slot < 2 ^ 16 → ArePages columns (one ∷ two ∷ [])
    → pages a.page ≡ irregular_page slot columns one → pages b.page ≡ irregular_page slot columns two → length one ≡ a.count → length two ≡ b.count → first_stamp one ≡ Some a.at → first_stamp two ≡ Some b.at
    → AreChained slot columns pages (a ∷ b ∷ []) (one ∷ two ∷ [])
two_pages slot columns one two a b pages number are page1 page2 count1 count2 first1 first2 = (
  record { bytes = record { number = number; fill = are.0; bytes = page1 }; count = count1; first = first1 },
  (record { bytes = record { number = number; fill = are.2.0; bytes = page2 }; count = count2; first = first2 }, tt),
)

module _ (slot : ℕ) (columns : List Column) (stamp : ℤ) (row : Row) (is : IsElement columns (stamp, row)) (pages : ℕ → List ℕ) (front : List Place) (place : Place) (back : List Place) (old : List (List Element))
    (are : ArePages columns old) (c : Cut slot columns pages front place back old) (around : IsAround stamp c.before c.behind)
    (first second : Place) (page others : List ℕ) (h : AreHalves slot columns (with_element stamp row c.elements) first second page others) (full : place.count ≡ page_room columns)
    (longer : length (with_element stamp row c.elements) ≡ length c.elements + 1) where
  edited : with_element stamp row (all_in old) ≡ all_in c.before ++ (with_element stamp row c.elements ++ all_in c.behind)
  edited = ap (λ (l : List (List Element)). with_element stamp row (all_in l)) c.parts ∙ edited_all stamp row c.before c.elements c.behind around

  -- the first half goes behind what stands before it, and the second before what stands behind it
  pub spread_told : (left right : ℕ) (a b : Place) (after : ℕ → List ℕ) → IsCounted columns a → IsCounted columns b
      → a.count ≡ length (all_in c.before) + first.count → b.count ≡ second.count + length (all_in c.behind)
      → first_stamp (all_in c.before ++ take (half_of columns) (with_element stamp row c.elements)) ≡ Some a.at → second.at ≡ b.at
      → after a.page ≡ irregular_page slot columns (all_in c.before ++ take (half_of columns) (with_element stamp row c.elements))
      → after b.page ≡ irregular_page slot columns (drop (half_of columns) (with_element stamp row c.elements) ++ all_in c.behind)
      → left ≤ a.count → right ≤ b.count
      → HavePart slot columns (with_element stamp row (all_in old)) left right (a ∷ b ∷ []) after
  spread_told left right a b after counted1 counted2 count1 count2 at1 at2 page1 page2 starts ends =
      let es : List Element = with_element stamp row c.elements in
      let one : List Element = all_in c.before ++ take (half_of columns) es in
      let two : List Element = drop (half_of columns) es ++ all_in c.behind in
      let size1 : length one ≡ a.count = omega (arith, length-append (all_in c.before) (take (half_of columns) es), h.first_count, count1) in
      let size2 : length two ≡ b.count = omega (arith, length-append (drop (half_of columns) es) (all_in c.behind), h.second_count, count2) in
      let all : all_in (one ∷ two ∷ []) ≡ with_element stamp row (all_in old) =
      ap (λ (l : List Element). one ++ l) (append-nil two)
      ∙ append_assoc (all_in c.before) (take (half_of columns) es) (drop (half_of columns) es ++ all_in c.behind)
      ∙ ap (λ (l : List Element). all_in c.before ++ l) (sym (append_assoc (take (half_of columns) es) (drop (half_of columns) es) (all_in c.behind)) ∙ ap (λ (l : List Element). l ++ all_in c.behind) (take-append-drop (half_of columns) es))
      ∙ sym edited in
      let order : AreInOrder columns (all_in (one ∷ two ∷ [])) =
      (let P : List Element → Type 0 = AreInOrder columns in subst P (sym all) (with_in_order columns stamp row (all_in old) (pages_in_order columns old are) is)) in
      let some1 = counted1.some in
      let some2 = counted2.some in
      let room1 = counted1.room in
      let room2 = counted2.room in
      let sized : AreSized (page_room columns) (one ∷ two ∷ []) = (omega (arith, size1, some1), omega (arith, size1, room1), (omega (arith, size2, some2), omega (arith, size2, room2), tt)) in
      let made : ArePages columns (one ∷ two ∷ []) = pages_made columns (one ∷ two ∷ []) sized order in
      let whole : length (take (half_of columns) es) + length (drop (half_of columns) es) ≡ length es = sym (length-append (take (half_of columns) es) (drop (half_of columns) es)) ∙ ap length (take-append-drop (half_of columns) es) in
      record {
        chain = one ∷ two ∷ [];
        are = made;
        all = all;
        on = two_pages slot columns one two a b after c.on.bytes.number made page1 page2 size1 size2 at1 (first_both (drop (half_of columns) es) (all_in c.behind) b.at (h.second_at ∙ ap Some at2));
        dense = (omega (arith, size1, size2, count1, count2, h.first_count, h.second_count, whole, longer, c.on.count, full), tt);
        starts = omega (arith, size1, starts);
        ends = omega (arith, size2, ends);
      }
