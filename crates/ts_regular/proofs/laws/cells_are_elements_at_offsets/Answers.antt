use Rattle.std.proofs.Common.{refl}
use Rattle.ts_regular.proofs.CellsLemmas.{found_in, put_in, taken_in, count_in}
use Rattle.ts_regular.proofs.laws.cells_are_elements_at_offsets.Goals as goal

pub returns-clause-found : goal.returns-clause-found
returns-clause-found c = λ base index cells within. found_in base index _ cells refl within

pub returns-clause-put : goal.returns-clause-put
returns-clause-put c = λ base index row cells within. put_in base index _ row cells refl within

pub returns-clause-taken : goal.returns-clause-taken
returns-clause-taken c = λ base index cells within. taken_in base index _ cells refl within

pub returns-clause-count : goal.returns-clause-count
returns-clause-count c = λ base cells. count_in base cells
