-- A head that tells a number of elements, and what stands behind it.
use Rattle.std.proofs.Common.{◌≡◌, ◌≤◌, ℕ, Option, Some, List, length, take, drop, sym, ap, subst, ◌∙◌, arith, ◌-◌, length-drop}
use Rattle.std.proofs.Math.Seq.{take-length}
use Rattle.std.proofs.Math.Facts.{Fits-lt-pow}
use Rattle.ts_row.specs.declared.kind.Column.{Column}
use Rattle.ts_cells.specs.IrregularPage.{page_room}
use Rattle.ts_cells.proofs.CellLemmas.{if_some_weaker, if_none_weaker}
use Rattle.ts_cells.proofs.HeadLemmas.{count_is, head_one, page_again, irregular_behind}
use Rattle.ts_cells.proofs.extent.extent_told.Goals as goal

-- what two options that are one hold
some_one : {a b : ℕ} → ◌≡◌ {A = Option ℕ} (Some a) (Some b) → a ≡ b
some_one e = cc

pub returns-then-not-has_room-clause-none : goal.returns-then-not-has_room-clause-none
returns-then-not-has_room-clause-none c = λ slot es is.
    let told = count_is slot c.args.kind.now.columns es c.args.page.now is in
    let same : c.args.count ≡ length es = some_one (sym c.requires.told ∙ told) in
    let room : c.args.count ≤ c.page_room.result = omega (arith, is.fill.room) in
    let yes = c.has_room.ensures.1 (omega arith, room) in
    absurd (cc)

-- all that stands behind the head
all_behind : (page : List ℕ) → take (length page - 32) (drop 32 page) ≡ drop 32 page
all_behind page = ap (λ (n : ℕ). take n (drop 32 page)) (sym (length-drop 32 page)) ∙ take-length (drop 32 page)

pub returns-clause-found : goal.returns-clause-found
returns-clause-found c =
    let columns : List Column = c.args.kind.now.columns in
    let page : List ℕ = c.args.page.now in
    let begins = head_one page c.args.count c.requires.size (λ i. Fits-lt-pow (c.type_inv.page i)) c.requires.told in
    let fit = c.has_room.ensures.0 c.if-not-has_room.false in
    let room : c.args.count ≤ page_room columns = subst (λ (n : ℕ). c.args.count ≤ n) c.page_room.ensures.value fit.1 in
    if_some_weaker c.extent_in.result _ _
    (λ extent found. (begins.0, found.0, page_again begins.0 columns found.0 c.args.count page begins.1 fit.0 room found.1 found.3 begins.2 (sym (all_behind page) ∙ found.4), found.2)) c.extent_in.ensures.found

pub returns-clause-none : goal.returns-clause-none
returns-clause-none c =
    if_none_weaker c.extent_in.result _ _
    (λ none slot es is.
    let told = count_is slot c.args.kind.now.columns es c.args.page.now is in
    let same : length es ≡ c.args.count = some_one (sym told ∙ c.requires.told) in
    none es is.fill.elements same (all_behind c.args.page.now ∙ ap (drop 32) is.bytes ∙ irregular_behind slot c.args.kind.now.columns es)) c.extent_in.ensures.none
