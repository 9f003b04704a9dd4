-- What is left of a page, by what was read and written of it.
use Rattle.std.proofs.Common.{◌≡◌, ℕ, Bool, IsTrue, List, sym, subst, ◌∙◌}
use Rattle.ts_space.specs.declared.place.Place.{Place}
use Rattle.ts_page.specs.Pages.{Contents, EqualPages}
use Rattle.ts_row.specs.declared.kind.Column.{Column}
use Rattle.ts_regular.specs.RegularPage.{Cell, IsRegularPage, filled_count}
use Rattle.ts_regular.specs.Places.{IsOn}
use Rattle.ts_regular.specs.OnePage.{IsToldOn}
use Rattle.ts_regular.specs.Cut.{cells_outside, recounted}
use Rattle.ts_regular.proofs.RangeLemmas.{outside_whole}

-- all of it, and it stays
pub whole_on : (tells : Bool) (slot : ℕ) (columns : List Column) (from to left : ℕ) (place : Place) (v w : Contents) → (IsTrue tells → EqualPages v.page w.page) → left ≡ place.count
    → IsToldOn tells slot columns place v (λ p. filled_count (cells_outside from to p.0 p.1) ≡ left)
    → IsToldOn tells slot columns place v (λ p. IsOn slot columns (w.page place.page) (recounted place left) (p.0, cells_outside from to p.0 p.1))
whole_on tells slot columns from to left place v w same all told t p on =
    let number = told t p on in
    let cells : cells_outside from to p.0 p.1 ≡ p.1 = outside_whole from to p.0 p.1 (number ∙ all ∙ sym on.count) in
    record {
      bytes = subst (λ (l : List Cell). IsRegularPage slot columns p.0 l (w.page place.page)) (sym cells) (subst (λ (b : List ℕ). IsRegularPage slot columns p.0 p.1 b) (sym (same t place.page)) on.bytes);
      count = number;
      at = on.at;
    }
