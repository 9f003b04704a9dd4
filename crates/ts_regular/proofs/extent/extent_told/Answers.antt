-- A head that tells of a regular page, and what stands behind it.
use Rattle.std.proofs.Common.{◌≡◌, ℕ, ◌%◌, Option, Some, List, sym, ap, ◌∙◌, arith}
use Rattle.std.proofs.Math.Facts.{Fits-lt-pow}
use Rattle.ts_page.specs.declared.page.Head.{Head}
use Rattle.ts_page.specs.declared.page.Head.TheVariants.{Regular}
use Rattle.ts_row.specs.declared.kind.Column.{Column}
use Rattle.ts_regular.specs.RegularPage.{regular_room, told_in}
use Rattle.ts_regular.proofs.HeadLemmas.{all_behind, behind_told, head_told, page_again}
use Rattle.ts_regular.proofs.JudgeLemmas.{if_some_weaker, if_none_weaker, some_one}
use Rattle.ts_regular.proofs.extent.extent_told.Goals as goal

-- what two heads that are one tell
same_head : (s t m n a b : ℕ) → ◌≡◌ {A = Option Head} (Some (Regular s m a)) (Some (Regular t n b)) → (m ≡ n) × (a ≡ b)
same_head s t m n a b same =
    let pair : ◌≡◌ {A = ℕ × ℕ × ℕ} (s, m, a) (t, n, b) = some_one (ap told_in same) in
    (ap (λ (p : ℕ × ℕ × ℕ). p.1) pair, ap (λ (p : ℕ × ℕ × ℕ). p.2) pair)

pub returns-then-base-regular_room-ne0-clause-none : goal.returns-then-base-regular_room-ne0-clause-none
returns-then-base-regular_room-ne0-clause-none c = λ slot first cells is.
    let same = same_head _ slot c.args.count _ c.args.base first (sym c.requires.told.2 ∙ head_told slot c.args.kind.now.columns first cells c.args.page.now is) in
    c.if-base-regular_room-ne0.true ((λ j. same.1 j % c.regular_room.ensures.value j) ∙ is.whole)

pub returns-clause-found : goal.returns-clause-found
returns-clause-found c =
    let columns : List Column = c.args.kind.now.columns in
    let page : List ℕ = c.args.page.now in
    let whole : c.args.base % regular_room columns ≡ 0 = ap (λ (n : ℕ). c.args.base % n) (sym c.regular_room.ensures.value) ∙ c.if-base-regular_room-ne0.false in
    if_some_weaker c.extent_in.result _ _
    (λ extent found. (
      c.requires.told.0,
      c.args.base,
      found.0,
      page_again c.requires.told.0 columns c.args.base c.args.count found.0 page c.requires.told.1 (omega arith) whole found.1 found.3 c.requires.size (λ i. Fits-lt-pow (c.type_inv.page i))
          c.requires.told.2 (sym (all_behind page) ∙ found.4),
      found.2,
    )) c.extent_in.ensures.found

pub returns-clause-none : goal.returns-clause-none
returns-clause-none c =
    if_none_weaker c.extent_in.result _ _
    (λ none slot first cells is.
    let page : List ℕ = c.args.page.now in
    let same = same_head _ slot c.args.count _ c.args.base first (sym c.requires.told.2 ∙ head_told slot c.args.kind.now.columns first cells page is) in
    none cells is.fill (sym same.0) (all_behind page ∙ behind_told slot c.args.kind.now.columns first cells page is)) c.extent_in.ensures.none
