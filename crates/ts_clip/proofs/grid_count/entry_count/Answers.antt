use Rattle.std.proofs.Common.{List, sym, subst}
use Rattle.ts_row.specs.Row.{Element}
use Rattle.ts_regular.specs.Places.{all_in}
use Rattle.ts_clip.proofs.GridReadingLemmas.{IsReading, reading_long, told_reading}
use Rattle.ts_clip.proofs.grid_count.entry_count.Goals as goal

pub returns-clause-count : goal.returns-clause-count
returns-clause-count g c = λ t es have.
    let grid = c.args.grid.now in
    let is = told_reading grid c.requires.laid (all_in have.cells) c.in_ok-last.last c.count_to.result have.starts (c.in_ok-last.ensures.last t have.cells have.on) c.count_to.ensures.some c.count_to.ensures.none in
    sym (reading_long grid es c.count_to.result (subst (λ (l : List Element). IsReading grid l c.count_to.result) have.all is))
