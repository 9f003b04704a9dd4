-- What pages have of a series that is combined: elements in order where the series can have them, whose rows fit its columns; and so are those
-- of them that pass a test.
use Rattle.std.proofs.Common.{◌≡◌, ℕ, ◌+◌, ℤ, Bool, true, false, cond, IsTrue, IsSome, Some, None, All, List, [], ◌∷◌, filter, sym, subst, ◌∙◌, arith}
use Rattle.std.proofs.lemmas.Int.{by_lt_z, ints}
use Rattle.std.proofs.lemmas.List.Elements.{All-append, All-cons, All-filter, All-head, All-tail}
use Rattle.ts_row.specs.declared.kind.Column.{Column}
use Rattle.ts_row.specs.Row.{Row, fits, Element}
use Rattle.ts_space.specs.declared.place.Place.{Place}
use Rattle.ts_cells.specs.IrregularPage.{AreElements, AreRising}
use Rattle.ts_irregular.specs.Edit.{element_at}
use Rattle.ts_irregular.proofs.EditLemmas.{element_at-lower, element_at-higher}
use Rattle.ts_sheets.specs.Stamped.{ArePages, all_in, AreLater, stamped, HaveStarts}
use Rattle.ts_sheets.proofs.OrderLemmas.{later_of, rising_of, rising_tail}
use Rattle.ts_series.proofs.RangeLemmas.{filter_later}
use Rattle.ts_regular.specs.RegularPage.{Cell, AreCells, OffsetElement, elements_from}
use Rattle.ts_regular.specs.Places.{OffsetPage, AreOn, all_in as all_at}
use Rattle.ts_offset.specs.Grid.{GridPlan, stamp_of}
use Rattle.ts_offset.specs.declared.shape.Shape.{Shape}
use Rattle.ts_offset.specs.declared.shape.Shape.TheVariants.{Irregular, Regular}
use Rattle.ts_clip.specs.Series.{HaveElements}
use Rattle.ts_combine.specs.Series.{IsStartOf, AreOnStarts}
use Rattle.ts_shelf.proofs.StartLemmas.{start_of, stamped_cons}
use Rattle.ts_combined_rows.specs.Combining.{AllFit, AreOfSeries}

none_fit : {A : Type 0} (P : A → Type 0) → All P []
none_fit P k d below = absurd (omega (arith, below))

-- the rows on the pages of an irregular series
elements_fit : (columns : List Column) (es : List Element) → AreElements columns es → AllFit columns es
elements_fit columns [] are = none_fit (λ e. IsTrue (fits columns e.1))
elements_fit columns (e ∷ es) are = All-cons (λ (x : Element). IsTrue (fits columns x.1)) e es are.0.row (elements_fit columns es are.1)

chain_fits : (columns : List Column) (chain : List (List Element)) → ArePages columns chain → AllFit columns (all_in chain)
chain_fits columns [] are = none_fit (λ e. IsTrue (fits columns e.1))
chain_fits columns (es ∷ chain) are =
    All-append (λ (x : Element). IsTrue (fits columns x.1)) es (all_in chain) (elements_fit columns es are.0.elements.each) (chain_fits columns chain are.2)

-- and on those of a regular one
abbrev AllFitAt : List Column → List OffsetElement → Type 0
AllFitAt columns os = All (λ o. IsTrue (fits columns o.1)) os

cells_fit : (columns : List Column) (offset : ℕ) (cells : List Cell) → AreCells columns cells → AllFitAt columns (elements_from offset cells)
cells_fit columns offset [] are = none_fit (λ o. IsTrue (fits columns o.1))
cells_fit columns offset (None ∷ cells) are = cells_fit columns (offset + 1) cells are.1
cells_fit columns offset (Some row ∷ cells) are =
    All-cons (λ (o : OffsetElement). IsTrue (fits columns o.1)) (offset, row) (elements_from (offset + 1) cells) are.0 (cells_fit columns (offset + 1) cells are.1)

pages_fit : (slot : ℕ) (columns : List Column) (pages : ℕ → List ℕ) (places : List Place) (ps : List OffsetPage) → AreOn slot columns pages places ps → AllFitAt columns (all_at ps)
pages_fit slot columns pages [] [] on = none_fit (λ o. IsTrue (fits columns o.1))
pages_fit slot columns pages [] (p ∷ ps) on = absurd on
pages_fit slot columns pages (place ∷ places) [] on = absurd on
pages_fit slot columns pages (place ∷ places) (p ∷ ps) on =
    All-append (λ (o : OffsetElement). IsTrue (fits columns o.1)) (elements_from p.0 p.1) (all_at ps) (cells_fit columns p.0 p.1 on.0.bytes.fill.each) (pages_fit slot columns pages places ps on.1)

-- at their stamps
stamped_all : (grid : GridPlan) (P : OffsetElement → Type 0) (Q : Element → Type 0) → ((o : OffsetElement) (t : ℤ) → stamp_of grid o.0 ≡ Some t → P o → Q (t, o.1)) → (os : List OffsetElement) → HaveStarts grid os → All P os → All Q (stamped grid os)
stamped_all grid P Q each [] starts all = none_fit Q
stamped_all grid P Q each (o ∷ os) starts all =
    let t = start_of (stamp_of grid o.0) (All-head (λ (e : OffsetElement). IsSome (stamp_of grid e.0)) o os starts) in
    subst (All Q) (sym (stamped_cons grid o os t.0 t.1))
    (All-cons Q (t.0, o.1) (stamped grid os) (each o t.0 t.1 (All-head P o os all)) (stamped_all grid P Q each os (All-tail (λ (e : OffsetElement). IsSome (stamp_of grid e.0)) o os starts) (All-tail P o os all)))

-- on a grid each stands at a start
abbrev AllStart : Shape → List Element → Type 0
AllStart Irregular es = Unit {0}
AllStart (Regular grid) es = All (λ e. IsStartOf grid e.0) es

found_starts : (grid : GridPlan) (es : List Element) → All (λ e. IsStartOf grid e.0) es → (stamp : ℤ) (row : Row) → element_at stamp es ≡ Some row → IsStartOf grid stamp
found_starts grid [] all stamp row found = absurd (cc)
found_starts grid (e ∷ es) all stamp row found =
    let tail = All-tail (λ (x : Element). IsStartOf grid x.0) e es all in
    by_lt_z e.0 stamp (λ low. found_starts grid es tail stamp row (sym (element_at-lower stamp e es low) ∙ found))
    (λ high. by_lt_z stamp e.0 (λ above. found_starts grid es tail stamp row (sym (element_at-higher stamp e es above) ∙ found))
    (λ below.
    let at : e.0 ≡ stamp = omega (arith, ints, high, below) in
    subst (IsStartOf grid) at (All-head (λ (x : Element). IsStartOf grid x.0) e es all)))

pub record HasSide (shape : Shape) (columns : List Column) (es : List Element) : Type 0 where
  pub rising : AreRising es
  pub starts : AllStart shape es
  pub fit : AllFit columns es

on_starts : (shape : Shape) (es : List Element) → AllStart shape es → AreOnStarts shape es
on_starts Irregular es starts = tt
on_starts (Regular grid) es starts = found_starts grid es starts

pub of_series : (shape : Shape) (columns : List Column) (es : List Element) → HasSide shape columns es → AreOfSeries shape columns es
of_series shape columns es has = record { series = record { rising = has.rising; on_starts = on_starts shape es has.starts }; fit = has.fit }

-- those that pass a test
rising_test : (e : Element) (fs : List Element) (b : Bool) → AreLater e.0 fs → AreRising fs → AreRising (cond b (e ∷ fs) fs)
rising_test e fs true later rising = rising_of e fs later rising
rising_test e fs false later rising = rising

starts_tested : (test : Element → Bool) (shape : Shape) (es : List Element) → AllStart shape es → AllStart shape (filter test es)
starts_tested test Irregular es starts = tt
starts_tested test (Regular grid) es starts = All-filter test (λ e. IsStartOf grid e.0) es starts

rising_tested : (test : Element → Bool) (es : List Element) → AreRising es → AreRising (filter test es)
rising_tested test [] rising = tt
rising_tested test (e ∷ es) rising = rising_test e (filter test es) (test e) (filter_later test e.0 es (later_of e es rising)) (rising_tested test es (rising_tail e es rising))

pub tested : (test : Element → Bool) (shape : Shape) (columns : List Column) (es : List Element) → HasSide shape columns es → HasSide shape columns (filter test es)
tested test shape columns es has = record {
  rising = rising_tested test es has.rising;
  starts = starts_tested test shape es has.starts;
  fit = All-filter test (λ e. IsTrue (fits columns e.1)) es has.fit;
}

-- those on pages
pub on_pages : (shape : Shape) (slot : ℕ) (columns : List Column) (pages : ℕ → List ℕ) (places : List Place) (es : List Element) → AreRising es → HaveElements shape slot columns pages places es → HasSide shape columns es
on_pages Irregular slot columns pages places es rising have = record {
  rising = rising;
  starts = tt;
  fit = subst (AllFit columns) have.all (chain_fits columns have.chain have.is.pages);
}
on_pages (Regular grid) slot columns pages places es rising have =
    let fit = pages_fit slot columns pages places have.cells have.on in
    record {
      rising = rising;
      starts = subst (AllStart (Regular grid)) have.all (stamped_all grid (λ o. IsTrue (fits columns o.1)) (λ e. IsStartOf grid e.0) (λ o t is fits. (o.0, is)) (all_at have.cells) have.starts fit);
      fit = subst (AllFit columns) have.all (stamped_all grid (λ o. IsTrue (fits columns o.1)) (λ e. IsTrue (fits columns e.1)) (λ o t is fits. fits) (all_at have.cells) have.starts fit);
    }
