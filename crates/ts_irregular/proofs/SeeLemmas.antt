-- A page judged against its place.
use Rattle.std.proofs.Common.{◌≡◌, ℕ, ◌-◌, ◌*◌, Option, Some, List, [], length, drop, replicate, ap, ◌∙◌, arith}
use Rattle.std.proofs.lemmas.List.{drop-replicate}
use Rattle.ts_page.specs.Pages.{head_of, zero_page}
use Rattle.ts_page.specs.declared.page.Head.TheVariants.{Irregular}
use Rattle.ts_row.specs.declared.kind.Column.{Column}
use Rattle.ts_cells.specs.IrregularPage.{Element, cell_size, IsIrregularPage, behind_head}
use Rattle.ts_cells.proofs.HeadLemmas.{irregular_head, irregular_behind, few_fit}

-- what two options that are one hold
pub some_one : {A : Type 0} {a b : A} → ◌≡◌ {A = Option A} (Some a) (Some b) → a ≡ b
some_one e = cc

-- the head of a page of elements
pub head_told : (slot : ℕ) (columns : List Column) (es : List Element) (page : List ℕ) → IsIrregularPage slot columns es page → head_of page ≡ Some (Irregular slot (length es))
head_told slot columns es page is =
    ap head_of is.bytes ∙ irregular_head slot columns es is.number (omega (arith, few_fit columns, is.fill.room))

-- what stands behind it
pub behind_told : (slot : ℕ) (columns : List Column) (es : List Element) (page : List ℕ) → IsIrregularPage slot columns es page → drop 32 page ≡ behind_head columns es
behind_told slot columns es page is = ap (drop 32) is.bytes ∙ irregular_behind slot columns es

-- a page of zeros has none
pub behind_zeros : (columns : List Column) → drop 32 zero_page ≡ behind_head columns []
unfolding zero_page
behind_zeros columns =
    drop-replicate 32 4096 0 ∙ ap (λ (n : ℕ). replicate n 0) (let e : 4096 - 32 ≡ 4064 - cell_size columns * 0 = omega arith in e)
