-- The bytes of the values, and the mark of a hidden row.
use Rattle.std.proofs.Common.{◌≡◌, Bool, List, true, false, sym, ap, subst, ◌∙◌}
use Rattle.ts_row.specs.declared.kind.Column.{Column}
use Rattle.ts_row.specs.Row.{Heading}
use Rattle.ts_row.specs.Encoding.{values_bytes, with_mark, Marks}
use Rattle.ts_row.proofs.RowBytesLemmas.{with_mark-none, row_bytes-marked}
use Rattle.ts_row.proofs.row_type.RowType.encode.Goals as goal

pub returns-then-hidden : goal.returns-then-hidden
returns-then-hidden c =
    let columns : List Column = c.args.self.now.columns in
    let hides : true ≡ c.args.row.now.hidden = sym c.if-hidden.true ∙ c.hidden.ensures in
    let written : c.encode_values.new.into ≡ values_bytes columns c.args.row.now.values =
    c.encode_values.ensures ∙ (λ j. values_bytes ((c.as_slice.ensures.value ∙ ap (λ (h : Heading). h.columns) c.self.view_is) j) (c.values.ensures j)) in
    row_bytes-marked columns c.args.row.now c.encode_values.new.into c.mark.new.bytes c.requires.fits written
    (subst (λ (b : Bool). Marks columns b c.encode_values.new.into c.mark.new.bytes) hides c.mark.ensures.marked)

pub returns-else-hidden : goal.returns-else-hidden
returns-else-hidden c =
    let columns : List Column = c.args.self.now.columns in
    let shows : false ≡ c.args.row.now.hidden = sym c.if-hidden.false ∙ c.hidden.ensures in
    let written : c.encode_values.new.into ≡ values_bytes columns c.args.row.now.values =
    c.encode_values.ensures ∙ (λ j. values_bytes ((c.as_slice.ensures.value ∙ ap (λ (h : Heading). h.columns) c.self.view_is) j) (c.values.ensures j)) in
    written ∙ sym (with_mark-none (values_bytes columns c.args.row.now.values)) ∙ ap (λ (b : Bool). with_mark b (values_bytes columns c.args.row.now.values)) shows
