-- What the calls leave, put together from what their parts leave.
use Rattle.std.proofs.Common.{◌≡◌, ◌≢◌, All, AllPairs, suc, ℕ, ◌<◌, ◌≤◌, ◌==◌, if◌then◌else◌, Bool, IsTrue, ℤ, Option, Some, List, [], ◌∷◌, length, refl, sym, ap, subst, ◌∙◌, arith}
use Rattle.std.specs.Prelude.{Contains}
use Rattle.ts_space.specs.declared.place.Place.{Place}
use Rattle.ts_page.specs.Pages.{zero_page, Contents, EqualPages, with_page, Taken, IsLawful, IsListed, first_element_page}
use Rattle.ts_row.specs.declared.kind.Column.{Column}
use Rattle.ts_cells.specs.IrregularPage.{Element, irregular_page}
use Rattle.ts_irregular.specs.OnePage.{place_of}
use Rattle.ts_irregular.specs.Call.{IsPagePut, AreKept}

-- pages of which one has other bytes, after others that are the same
pub put_after : (number : ℕ) (bytes wanted : List ℕ) (v u w : ℕ → List ℕ) → bytes ≡ wanted → EqualPages v u → EqualPages (with_page number bytes u) w → EqualPages (with_page number wanted v) w
put_after number bytes wanted v u w same before put n = put n ∙ (λ j. if number == n then same j else before n j)

-- the page of a series with one element at least
pub kept_put : (tells : Bool) (slot : ℕ) (columns : List Column) (place : Place) (es : List Element) (now : List Place) (v w : Contents) → 1 ≤ length es → w.free ≡ v.free → IsPagePut tells slot columns place.page es now v w
    → AreKept tells slot columns (place ∷ []) es now v w
kept_put tells slot columns place [] now v w some free put = absurd (omega arith)
kept_put tells slot columns place (e ∷ es) now v w some free put = (free, put)

-- what is kept of a page that was only read before
pub kept_after : (tells : Bool) (slot : ℕ) (columns : List Column) (place : Place) (es : List Element) (now : List Place) (v u w : Contents) → (IsTrue tells → EqualPages v.page u.page) → u.free ≡ v.free
    → AreKept tells slot columns (place ∷ []) es now u w → AreKept tells slot columns (place ∷ []) es now v w
kept_after tells slot columns place [] now v u w same free kept = record {
  places = kept.places;
  free = kept.free ∙ ap (λ (l : List ℕ). place.page ∷ l) free;
  pages = λ told. put_after place.page zero_page _ v.page u.page w.page refl (same told) (kept.pages told);
}
kept_after tells slot columns place (e ∷ es) now v u w same free kept =
    (kept.0 ∙ free, record { places = kept.1.places; pages = λ told. put_after place.page (irregular_page slot columns (e ∷ es)) _ v.page u.page w.page refl (same told) (kept.1.pages told) })

-- the place that a page with one element at least has
pub place_is : (place : Place) (e : Element) (es : List Element) → length (e ∷ es) ≡ place.count → e.0 ≡ place.at → place ∷ [] ≡ place_of place.page (e ∷ es)
place_is place e es count first = λ j. record { at = sym first j; page = place.page; count = sym count j } ∷ []

pub some_same : {a b : ℤ} → ◌≡◌ {A = Option ℤ} (Some a) (Some b) → a ≡ b
some_same e = cc

-- a page that is taken can be put
pub taken_element : (tells : Bool) (number : ℕ) (v w : Contents) → IsLawful tells v → Taken tells number v w → (first_element_page ≤ number) × (number < w.count) × (Contains w.free number → ⊥)
taken_element tells number v w lawful taken =
    let listed = subst (λ (l : List ℕ). All (IsListed tells v) l) taken.listed lawful.listed in
    let different = subst (λ (l : List ℕ). AllPairs (λ a b. a ≢ b) l) taken.listed lawful.different in
    let first = listed 0 0 (omega arith) in
    (first.element, omega (arith, first.below, taken.count), λ has. different 0 (suc has.0) number (omega arith) (omega (arith, has.1)) (sym has.2))
