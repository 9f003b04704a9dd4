-- A page that was read beside its place.
use Rattle.std.proofs.Common.{◌≡◌, ℕ, Bool, IsTrue, Ok, List, length, drop, ◌==◌, if◌then◌else◌, inr, sym, ap, subst, ◌∙◌, arith}
use Rattle.ts_space.specs.declared.place.Place.{Place}
use Rattle.ts_page.specs.Pages.{Contents, Got, IsElementPage, EqualPages, with_page}
use Rattle.ts_row.specs.declared.kind.Column.{Column}
use Rattle.ts_row.specs.Row.{Element}
use Rattle.ts_cells.specs.IrregularPage.{AreElements, behind_head}
use Rattle.ts_irregular.specs.OnePage.{IsOn}
use Rattle.ts_irregular.proofs.SeeLemmas.{behind_told}

-- its elements, as many as its head tells, behind its head
pub record AreBehind (columns : List Column) (place : Place) (es : List Element) (n : ℕ) (bytes : List ℕ) : Type 0 where
  pub each : AreElements columns es
  pub count : length es ≡ n
  pub told : n ≡ place.count
  pub behind : drop 32 bytes ≡ behind_head columns es

pub are_behind : (tells : Bool) (slot : ℕ) (columns : List Column) (place : Place) (v w : Contents) (read bytes : List ℕ) (n : ℕ) → IsElementPage place.page → Got tells place.page read (Ok tt) v w
    → ((es : List Element) → IsOn slot columns read place es → (length es ≡ n) × (bytes ≡ read)) → IsTrue tells → (es : List Element) → IsOn slot columns (v.page place.page) place es → AreBehind columns place es n bytes
are_behind tells slot columns place v w read bytes n element got taken told es on =
    let same : read ≡ v.page place.page = got.read told (inr (omega (arith, element))) in
    let here : IsOn slot columns read place es = subst (λ (b : List ℕ). IsOn slot columns b place es) (sym same) on in
    let own = taken es here in record {
      each = on.bytes.fill.elements.each;
      count = own.0;
      told = sym own.0 ∙ on.count;
      behind = ap (drop 32) own.1 ∙ behind_told slot columns es read here.bytes;
    }

-- a page put after another
pub put_again : (first second : ℕ) (one two : List ℕ) (v u w : ℕ → List ℕ) → EqualPages (with_page first one v) u → EqualPages (with_page second two u) w → EqualPages (with_page second two (with_page first one v)) w
put_again first second one two v u w before after n = after n ∙ (λ j. if second == n then two else before n j)
