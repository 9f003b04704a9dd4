-- What a fold of the elements on a stack's pages makes, and the rows of many stacks.
use Rattle.std.proofs.Common.{◌≡◌, ℕ, ◌≤◌, ℤ, List, [], ◌∷◌, length, map, Result, Ok, sym, ap, ◌∙◌, arith}
use Rattle.std.specs.Prelude.{IfOk}
use Rattle.std.specs.List.{AllZip}
use Rattle.std.proofs.lemmas.List.{length-map}
use Rattle.ts_space.specs.declared.place.Place.{Place}
use Rattle.ts_space.specs.Place.{count_of}
use Rattle.ts_row.specs.declared.kind.Column.{Column}
use Rattle.ts_row.specs.Row.{Row, Element}
use Rattle.ts_sheets.specs.Stamped.{is_within, within_range}
use Rattle.ts_regular.specs.Places as regular
use Rattle.ts_regular.proofs.CutsLemmas.{told_count}
use Rattle.ts_series.proofs.ChainLemmas.{counted}
use Rattle.ts_offset.specs.declared.shape.Shape.{Shape}
use Rattle.ts_page.specs.declared.page.Page.{Page}
use Rattle.ts_offset.specs.declared.shape.Shape.TheVariants.{Irregular, Regular}
use Rattle.ts_clip.specs.Series.{HaveOnPlaces, ArePagesOf}
use Rattle.ts_offset.specs.Shape.{IsLaidOut}
use Rattle.ts_expr.specs.Aggregates.{Binding, folded_row}
use Rattle.ts_aggregate.specs.declared.series_pages.Stack.{Stack}
use Rattle.ts_aggregate.specs.Fold.{Fold, HasTaken, most_folded, Takes}
use Rattle.ts_aggregate.specs.Stacks.{IsFoldOf, pages_of}
use Rattle.ts_aggregate.proofs.ToldLemmas.{count_stamped, few_kept}

-- as many elements as the places tell of
pub count_on_places : (shape : Shape) (slot : ℕ) (columns : List Column) (pages : ℕ → List ℕ) (places : List Place) (es : List Element)
    → HaveOnPlaces shape slot columns pages places es → length es ≡ count_of places
count_on_places Irregular slot columns pages places es have = sym (ap length have.2) ∙ counted slot columns pages places have.0 have.1
count_on_places (Regular grid) slot columns pages places es have =
    sym (ap length have.3) ∙ count_stamped grid (regular.all_in have.0) have.2 ∙ told_count slot columns pages places have.0 have.1

-- a fold that had taken nothing takes what the stack's pages hand on, and makes this row of it
module _ (b : Binding) (from to : ℤ) (read_list : List Page) (stack : Stack) (v w : Fold) (binding : v.binding ≡ b) (empty : HasTaken v []) where
  pub is_fold_of :
      (took : IsLaidOut stack.shape → (pages : ℕ → List ℕ) (es : List Element) → ArePagesOf pages stack.places.now (pages_of read_list stack)
      → HaveOnPlaces stack.shape stack.shelf.series stack.shelf.kind.now.columns pages stack.places.now es
      → Takes stack.shelf.kind.now.columns v (map (λ e. e.1) (within_range from to es)) w)
      → (row : Row) (made : (rows : List Row) → HasTaken w rows → length rows ≤ most_folded → row ≡ folded_row w.binding.items rows)
      → IsFoldOf b from to read_list stack row
  is_fold_of took row made laid countable own pages es read have =
      let rows : List Row = map (λ (e : Element). e.1) (within_range from to es) in
      let takes = took laid pages es read have in
      let same : length rows ≡ length (within_range from to es) = length-map (within_range from to es) (λ (e : Element). e.1) in
      let all = count_on_places stack.shape _ _ _ _ es have in
      let few : length rows ≤ most_folded = omega (arith, same, few_kept (is_within from to) es, all, countable) in
      made rows (takes.taken (own ∙ ap (λ (x : Binding). x.columns) (sym binding)) [] (omega (arith, few)) empty) few
      ∙ ap (λ (x : Binding). folded_row x.items rows) (takes.same ∙ binding)

-- what holds of each answer that is Ok holds of its row
module _ {A B : Type 0} (E : Type 0) (R : A → B → Type 0) where
  -- it holds of an answer's row
  abbrev pub OfRow : A → Result B E → Type 0
  OfRow x answer = IfOk answer (R x)

  pub rows_AllZip : (xs : List A) (ys : List B) → AllZip OfRow xs (map (λ y. Ok y) ys) → AllZip R xs ys
  rows_AllZip [] [] each = tt
  rows_AllZip [] (y ∷ ys) each = absurd each
  rows_AllZip (x ∷ xs) [] each = absurd each
  rows_AllZip (x ∷ xs) (y ∷ ys) each = (each.0, rows_AllZip xs ys each.1)
