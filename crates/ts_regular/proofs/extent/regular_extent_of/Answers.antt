-- The head of a regular page, if the page has one.
use Rattle.std.proofs.Common.{◌≡◌, None, sym, arith}
use Rattle.ts_regular.proofs.HeadLemmas.{told_is, told_page}
use Rattle.ts_regular.proofs.JudgeLemmas.{if_none_any}
use Rattle.ts_regular.proofs.extent.regular_extent_of.Goals as goal

pub returns-in_err-_series-clause-none : goal.returns-in_err-_series-clause-none
returns-in_err-_series-clause-none c =
    if_none_any c.from_residual.result _ (λ slot base cells is.
    let told = told_page slot c.args.kind.now.columns base cells c.args.page.now.bytes c.told.result c.told.ensures is in
    let none : c.told.result ≡ None = c.in_err-_series.was in
    absurd (cc))

pub extent_told-requires-clause-told : goal.extent_told-requires-clause-told
extent_told-requires-clause-told c =
    (c.in_ok-_series._series, omega arith, told_is _ c.in_ok-_series._series c.in_ok-_series.count c.in_ok-_series.base (sym c.in_ok-_series.ensures))
