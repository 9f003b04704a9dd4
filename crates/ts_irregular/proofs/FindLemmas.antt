-- A page that was judged before is read by its head.
use Rattle.std.proofs.Common.{◌≡◌, ℕ, ℤ, Bool, IsTrue, Option, Some, None, Ok, List, [], ◌∷◌, length, drop, inr, sym, ap, subst, ◌∙◌, arith}
use Rattle.ts_space.specs.declared.place.Place.{Place}
use Rattle.ts_page.specs.Pages.{head_of, Contents, IsElementPage, Got}
use Rattle.ts_row.specs.declared.kind.Column.{Column}
use Rattle.ts_row.specs.Row.{Row}
use Rattle.ts_cells.specs.IrregularPage.{Element, AreInOrder, behind_head}
use Rattle.ts_irregular.specs.Edit.{element_at}
use Rattle.ts_irregular.specs.OnePage.{told_in, IsOn, AreOn}
use Rattle.ts_irregular.specs.Call.{IsRowThere}
use Rattle.ts_irregular.proofs.SeeLemmas.{some_one, head_told, behind_told}

same_pair : (a b m n : ℕ) → ◌≡◌ {A = Option (ℕ × ℕ)} (Some (a, m)) (Some (b, n)) → (a ≡ b) × (m ≡ n)
same_pair a b m n same =
    let pair : ◌≡◌ {A = ℕ × ℕ} (a, m) (b, n) = some_one same in
    (ap (λ (p : ℕ × ℕ). p.0) pair, ap (λ (p : ℕ × ℕ). p.1) pair)

-- what the head of a page tells whose elements are those of its place
pub told_on : (slot series count : ℕ) (columns : List Column) (page : List ℕ) (place : Place) (es : List Element) → Some (series, count) ≡ told_in (head_of page) → IsOn slot columns page place es → (series ≡ slot) × (count ≡ length es)
told_on slot series count columns page place es told on = same_pair series slot count (length es) (told ∙ ap told_in (head_told slot columns es page on.bytes))

pub untold_on : (slot : ℕ) (columns : List Column) (page : List ℕ) (place : Place) (es : List Element) → None ≡ told_in (head_of page) → IsOn slot columns page place es → ⊥
untold_on slot columns page place es none on =
    let clash : ◌≡◌ {A = Option (ℕ × ℕ)} None (Some (slot, length es)) = none ∙ ap told_in (head_told slot columns es page on.bytes) in
    cc

-- what was read has the elements that the pages have where its places tell of them
pub read_on : (tells : Bool) (slot : ℕ) (columns : List Column) (places : List Place) (place : Place) (bytes : List ℕ) (v w : Contents) → places ≡ place ∷ [] → IsElementPage place.page → Got tells place.page bytes (Ok tt) v w
    → IsTrue tells → (es : List Element) → AreOn slot columns v.page places es → IsOn slot columns bytes place es
read_on tells slot columns places place bytes v w one element got t es on =
    let here : IsOn slot columns (v.page place.page) place es = subst (λ (l : List Place). AreOn slot columns v.page l es) one on in
    let page : bytes ≡ v.page place.page = got.read t (inr (omega (arith, element))) in
    subst (λ (b : List ℕ). IsOn slot columns b place es) (sym page) here

-- the row that is found by the head is the one among those elements
pub row_there : (tells : Bool) (slot count : ℕ) (columns : List Column) (stamp : ℤ) (places : List Place) (place : Place) (bytes : List ℕ) (row : Option Row) (v w : Contents) → places ≡ place ∷ [] → IsElementPage place.page → Got tells place.page bytes (Ok tt) v w
    → ((es : List Element) → IsOn slot columns bytes place es → length es ≡ count)
    → ((es : List Element) → AreInOrder columns es → length es ≡ count → drop 32 bytes ≡ behind_head columns es → row ≡ element_at stamp es)
    → IsRowThere tells slot columns stamp places v row
row_there tells slot count columns stamp places place bytes row v w one element got told found = λ t es on.
    let read = read_on tells slot columns places place bytes v w one element got t es on in
    found es read.bytes.fill.elements (told es read) (behind_told slot columns es bytes read.bytes)
