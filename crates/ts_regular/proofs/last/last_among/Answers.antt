use Rattle.std.proofs.Common.{◌<◌, length, sym, ap, ◌∙◌, arith}
use Rattle.ts_regular.specs.RegularPage.{last_of}
use Rattle.ts_regular.proofs.LastLemmas.{none_seen, last_found}
use Rattle.ts_regular.proofs.last.last_among.Goals as goal

pub returns-in_default-clause-last : goal.returns-in_default-clause-last
returns-in_default-clause-last c = λ cells are room same.
    sym (ap last_of (none_seen c.args.base cells (c.in_default.ensures.last cells are room same)))

pub returns-in-Some-2-clause-last : goal.returns-in-Some-2-clause-last
returns-in-Some-2-clause-last c = λ cells are room same.
    let within : c.in-Some.index < length cells = omega (arith, c.in-Some.ensures.within, room) in
    last_found c.args.base cells c.in-Some.index c.in-Some-2.row within (c.in-Some.ensures.last cells are room same) (sym c.in-Some-2.is ∙ c.in_ok-row.ensures.found cells are within same)
