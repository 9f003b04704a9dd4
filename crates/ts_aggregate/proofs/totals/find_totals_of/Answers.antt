use Rattle.std.proofs.Common.{ℤ, List, map, sym, ap, subst, ◌∙◌}
use Rattle.ts_aggregate.specs.declared.numbers.NumberSize.{NumberSize}
use Rattle.ts_aggregate.specs.Column.{found}
use Rattle.ts_aggregate.specs.Totals.{bytes_in, number_of_size, AreKnown}
use Rattle.ts_aggregate.proofs.TotalsLemmas.{all_sized, width_sized}
use Rattle.ts_aggregate.proofs.totals.find_totals_of.Goals as goal

pub find_sized_totals-requires-clause-width : goal.find_sized_totals-requires-clause-width
find_sized_totals-requires-clause-width c =
    width_sized c.args.kind c.requires.numbers c.args.cells.position.width c.requires.width ∙ ap bytes_in (sym c.size_of.ensures)

pub returns-clause-known : goal.returns-clause-known
returns-clause-known c =
    subst (λ (l : List ℤ). AreKnown l c.find_sized_totals.new.totals)
    (ap (λ (s : NumberSize). map (number_of_size s) (found c.args.cells)) c.size_of.ensures ∙ all_sized c.args.kind c.requires.numbers (found c.args.cells))
    c.find_sized_totals.ensures.known
