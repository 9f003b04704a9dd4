use Rattle.std.proofs.Common.{◌+◌, ◌<◌, length, refl, sym, ap, ◌∙◌, arith}
use Rattle.std.specs.List.{slice_get}
use Rattle.ts_regular.specs.OnePage.{cell_at}
use Rattle.ts_regular.proofs.LastLemmas.{none_seen, seen_some}
use Rattle.ts_clip.proofs.GridFirstLemmas.{first_found}
use Rattle.ts_clip.proofs.grid_first.first_among.Goals as goal

pub returns-in_default-clause-first : goal.returns-in_default-clause-first
returns-in_default-clause-first c = λ cells are room same.
    sym (ap (λ l. slice_get l 0) (none_seen c.args.base cells (c.in_default.ensures.first cells are room same)))

pub returns-in-Some-2-clause-first : goal.returns-in-Some-2-clause-first
returns-in-Some-2-clause-first c = λ cells are room same.
    let i = c.in-Some.index in
    let within : i < length cells = omega (arith, c.in-Some.ensures.within, room) in
    let first = c.in-Some.ensures.first cells are room same in
    let cell = sym (sym c.in-Some-2.is ∙ c.in_ok-row.ensures.found cells are within same) in
    sym (first_found c.args.base i (c.args.base + i) cells c.in-Some-2.row refl within cell (seen_some (cell_at cells i) c.in-Some-2.row first.0 cell) first.1)
