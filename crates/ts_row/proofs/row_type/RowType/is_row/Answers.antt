-- What would be read as a row is a row's bytes.
use Rattle.std.proofs.Common.{◌≡◌, ◌↔◌, IsTrue, Bool, is_some, ap, subst, sym, ◌∙◌, arith}
use Rattle.std.proofs.lemmas.Bool.Decides.{nat_tests}
use Rattle.std.proofs.Math.Facts.{Fits-lt-pow}
use Rattle.ts_row.specs.Row.{Heading}
use Rattle.ts_row.specs.Encoding.{AreRowBytes}
use Rattle.ts_row.specs.Decoding.{row_in}
use Rattle.ts_row.proofs.RowBytesLemmas.{valid, row_bytes_if_some}
use Rattle.ts_row.proofs.row_type.RowType.is_row.Goals as goal

pub returns : goal.returns
returns c =
    let same : c.self.inside.columns.items ≡ c.args.self.now.columns = ap (λ (h : Heading). h.columns) c.self.view_is in
    let read : c.as_slice.result.now ≡ c.args.self.now.columns = c.as_slice.ensures.value ∙ same in
    let kinds : valid c.self.inside.columns.items = grind (arith, nat_tests, c.self.invariant.0) in
    let told : c.is_row.result ≡ is_some (row_in c.args.self.now.columns c.args.from.now) = c.is_row.ensures ∙ ap (λ columns. is_some (row_in columns c.args.from.now)) read in
    let P : Bool → Type 0 = λ b. IsTrue b ↔ AreRowBytes c.args.self.now.columns c.args.from.now in
    subst P (sym told) (row_bytes_if_some c.args.self.now.columns c.args.from.now (subst valid same kinds) (λ i. Fits-lt-pow (c.type_inv.from i)))
