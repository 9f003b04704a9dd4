-- The heads of element pages.
use Rattle.std.proofs.Common.{◌≡◌, ℕ, ◌<◌, ◌^◌, Some, List, length, ap, ◌∙◌, arith, ◌==◌, true, get_or, refl}
use Rattle.std.proofs.lemmas.Bool.Decides.{nat_tests}
use Rattle.ts_row.specs.declared.kind.Column.{Column}
use Rattle.ts_page.specs.Pages.{head_of, IsFreePage}
use Rattle.ts_page.specs.declared.page.Head.TheVariants as heads
use Rattle.ts_cells.specs.IrregularPage.{Element, IsIrregularPage}
use Rattle.ts_cells.proofs.HeadLemmas.{irregular_head, few_fit}

-- the head of an irregular page
pub head_is : (slot : ℕ) (columns : List Column) (es : List Element) (page : List ℕ) → IsIrregularPage slot columns es page → head_of page ≡ Some (heads.Irregular slot (length es))
head_is slot columns es page is =
    let few : length es < 2 ^ 16 = omega (arith, is.fill.room, few_fit columns) in
    ap head_of is.bytes ∙ irregular_head slot columns es is.number few

-- the head of a free page
pub head_free : (page : List ℕ) → IsFreePage page → head_of page ≡ Some heads.Free
head_free page free = let t : (get_or page 0 0 == 0) ≡ true = grind (arith, nat_tests, free) in rw t refl
