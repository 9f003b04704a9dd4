use Rattle.ts_sheets.proofs.StartLemmas.{stamps_rise}
use Rattle.ts_regular_edits.proofs.StampLemmas.{found_stamped, put_stamped, taken_stamped}
use Rattle.ts_regular_edits.proofs.laws.edits_at_offsets_are_edits_at_stamps.Goals as goal

pub returns-clause-rising : goal.returns-clause-rising
returns-clause-rising c = stamps_rise

pub returns-clause-found : goal.returns-clause-found
returns-clause-found c = λ grid laid n s es starts is. found_stamped grid laid n s is es starts

pub returns-clause-put : goal.returns-clause-put
returns-clause-put c = λ grid laid n s row es starts is. put_stamped grid laid n s is row es starts

pub returns-clause-taken : goal.returns-clause-taken
returns-clause-taken c = λ grid laid n s es starts is. taken_stamped grid laid n s is es starts
