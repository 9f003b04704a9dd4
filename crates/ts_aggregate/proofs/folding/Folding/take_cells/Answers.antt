use Rattle.std.proofs.Common.{◌≡◌, sym, ap, ◌∙◌, arith}
use Rattle.ts_row.specs.Row.{width_of}
use Rattle.ts_aggregate.proofs.folding.Folding.take_cells.Goals as goal

pub take_items-requires-clause-whole : goal.take_items-requires-clause-whole
take_items-requires-clause-whole c =
    let columns : width_of c.columns.result.now ≡ width_of c.kind.result.now.columns = ap width_of
    (c.columns.ensures.value ∙ c.kind-2.ensures ∙ sym c.kind.ensures) in
    record {
      some = c.requires.some;
      size = omega (arith, columns, c.requires.size, c.if-width.false, c.width.ensures.value, c.width-2.ensures.value);
      whole = c.requires.whole;
      narrow = omega (arith, columns, c.width-2.ensures.value, c.width-2.ensures.bound);
      small = c.requires.small;
      few = c.requires.few;
    }
