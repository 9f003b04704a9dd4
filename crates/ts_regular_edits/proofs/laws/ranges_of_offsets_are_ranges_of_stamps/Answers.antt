use Rattle.ts_regular.specs.Range.{is_between}
use Rattle.std.proofs.Common.{not}
use Rattle.ts_regular_edits.proofs.RangeLemmas.{kept_starts, outside_stamped, within_number, within_stamped}
use Rattle.ts_regular_edits.proofs.laws.ranges_of_offsets_are_ranges_of_stamps.Goals as goal

pub returns-clause-within : goal.returns-clause-within
returns-clause-within c = within_stamped

pub returns-clause-number : goal.returns-clause-number
returns-clause-number c = within_number

pub returns-clause-outside : goal.returns-clause-outside
returns-clause-outside c = outside_stamped

pub returns-clause-starts : goal.returns-clause-starts
returns-clause-starts c = λ grid lower upper es starts. kept_starts grid (λ e. not (is_between lower upper e.0)) es starts
