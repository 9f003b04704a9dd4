-- Pages side by side that become others.
use Rattle.std.proofs.Common.{◌≡◌, ℤ, List, [], ◌∷◌, ◌++◌, sym, ap, subst, ◌∙◌, append-nil}
use Rattle.ts_row.specs.declared.kind.Column.{Column}
use Rattle.ts_row.specs.Row.{Row, Element}
use Rattle.ts_cells.specs.IrregularPage.{IsElement, page_room, AreInOrder}
use Rattle.ts_irregular.specs.Edit.{element_at, with_element, without_element}
use Rattle.ts_irregular.proofs.EditLemmas.{with_in_order, without_in_order}
use Rattle.ts_sheets.specs.Stamped.{all_in, AreSized, IsDense, IsChain, IsAround}
use Rattle.ts_sheets.proofs.OrderLemmas.{pages_in_order, sized_pages, sized_front, sized_back, sized_both, pages_made}
use Rattle.ts_chain.proofs.EditLemmas.{all_between, at_around, with_around, without_around}

-- one page alone
pub at_page : (stamp : ℤ) (front : List (List Element)) (es : List Element) (back : List (List Element)) → IsAround stamp front back → element_at stamp (all_in (front ++ es ∷ back)) ≡ element_at stamp es
at_page stamp front es back around = at_around stamp front (es ∷ []) back around ∙ ap (element_at stamp) (append-nil es)

pub with_page : (stamp : ℤ) (row : Row) (front : List (List Element)) (es : List Element) (back : List (List Element)) → IsAround stamp front back → with_element stamp row (all_in (front ++ es ∷ back)) ≡ all_in (front ++ with_element stamp row es ∷ back)
with_page stamp row front es back around =
    with_around stamp front (es ∷ []) back around row
    ∙ ap (λ (l : List Element). all_in front ++ (with_element stamp row l ++ all_in back)) (append-nil es)
    ∙ ap (λ (l : List Element). all_in front ++ (l ++ all_in back)) (sym (append-nil (with_element stamp row es)))
    ∙ sym (all_between front (with_element stamp row es ∷ []) back)

pub without_page : (stamp : ℤ) (front : List (List Element)) (es : List Element) (back : List (List Element)) → IsAround stamp front back → without_element stamp (all_in (front ++ es ∷ back)) ≡ all_in (front ++ without_element stamp es ∷ back)
without_page stamp front es back around =
    without_around stamp front (es ∷ []) back around
    ∙ ap (λ (l : List Element). all_in front ++ (without_element stamp l ++ all_in back)) (append-nil es)
    ∙ ap (λ (l : List Element). all_in front ++ (l ++ all_in back)) (sym (append-nil (without_element stamp es)))
    ∙ sym (all_between front (without_element stamp es ∷ []) back)

module _ (columns : List Column) (stamp : ℤ) (front old new back : List (List Element)) (is : IsChain columns (front ++ (old ++ back))) (around : IsAround stamp front back)
    (sized : AreSized (page_room columns) new) (dense : IsDense (page_room columns) (front ++ (new ++ back))) where
  sizes : AreSized (page_room columns) (front ++ (new ++ back))
  sizes =
      let all = sized_pages columns (front ++ (old ++ back)) is.pages in
      sized_both (page_room columns) front (new ++ back) (sized_front (page_room columns) front (old ++ back) all)
      (sized_both (page_room columns) new back sized (sized_back (page_room columns) old back (sized_back (page_room columns) front (old ++ back) all)))

  -- they have other elements in order
  made : (es : List Element) → all_in (front ++ (new ++ back)) ≡ es → AreInOrder columns es → IsChain columns (front ++ (new ++ back)) × (all_in (front ++ (new ++ back)) ≡ es)
  made es all order =
      (record { pages = pages_made columns (front ++ (new ++ back)) sizes (let P : List Element → Type 0 = AreInOrder columns in subst P (sym all) order); dense = dense }, all)

  pub with_window : (row : Row) → IsElement columns (stamp, row) → all_in new ≡ with_element stamp row (all_in old)
      → IsChain columns (front ++ (new ++ back)) × (all_in (front ++ (new ++ back)) ≡ with_element stamp row (all_in (front ++ (old ++ back))))
  with_window row element own =
      made (with_element stamp row (all_in (front ++ (old ++ back))))
      (all_between front new back ∙ ap (λ (l : List Element). all_in front ++ (l ++ all_in back)) own ∙ sym (with_around stamp front old back around row))
      (with_in_order columns stamp row (all_in (front ++ (old ++ back))) (pages_in_order columns (front ++ (old ++ back)) is.pages) element)

  pub without_window : all_in new ≡ without_element stamp (all_in old)
      → IsChain columns (front ++ (new ++ back)) × (all_in (front ++ (new ++ back)) ≡ without_element stamp (all_in (front ++ (old ++ back))))
  without_window own =
      made (without_element stamp (all_in (front ++ (old ++ back))))
      (all_between front new back ∙ ap (λ (l : List Element). all_in front ++ (l ++ all_in back)) own ∙ sym (without_around stamp front old back around))
      (without_in_order columns stamp (all_in (front ++ (old ++ back))) (pages_in_order columns (front ++ (old ++ back)) is.pages))
