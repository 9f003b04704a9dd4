-- What was read is what the bytes mean.
use Rattle.std.proofs.Common.{◌≡◌, ap, subst, ◌∙◌, arith}
use Rattle.std.proofs.lemmas.Bool.Decides.{nat_tests}
use Rattle.std.proofs.lemmas.Result.{IfOk-weaker}
use Rattle.std.proofs.Math.Facts.{Fits-lt-pow}
use Rattle.ts_row.specs.Row.{Heading}
use Rattle.ts_row.specs.Decoding.{row_in}
use Rattle.ts_row.proofs.RowBytesLemmas.{valid, meaning, meaning_fits}
use Rattle.ts_row.proofs.row_type.RowType.decode.Goals as goal

pub returns-clause-meaning : goal.returns-clause-meaning
returns-clause-meaning c =
    let same : c.self.inside.columns.items ≡ c.args.self.now.columns = ap (λ (h : Heading). h.columns) c.self.view_is in
    let read : c.as_slice.result.now ≡ c.args.self.now.columns = c.as_slice.ensures.value ∙ same in
    let kinds : valid c.self.inside.columns.items = grind (arith, nat_tests, c.self.invariant.0) in
    IfOk-weaker c.decode.result _ _
    (λ found is. meaning c.args.self.now.columns c.args.from.now found (subst valid same kinds) (λ i. Fits-lt-pow (c.type_inv.from i))
    (is ∙ ap (λ columns. row_in columns c.args.from.now) read)) c.decode.ensures

pub returns-clause-fits : goal.returns-clause-fits
returns-clause-fits c = IfOk-weaker c.decode.result _ _ (λ found means. meaning_fits c.args.self.now.columns c.args.from.now found means) (returns-clause-meaning c)
