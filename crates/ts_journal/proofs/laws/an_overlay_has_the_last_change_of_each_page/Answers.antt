use Rattle.std.proofs.Common.{◌^◌}
use Rattle.ts_journal.proofs.OverLemmas.{over_all}
use Rattle.ts_journal.proofs.LastLemmas.{last_there, one_each}
use Rattle.ts_journal.proofs.laws.an_overlay_has_the_last_change_of_each_page.Goals as goal

pub returns-clause-last : goal.returns-clause-last
returns-clause-last c = last_there

pub returns-clause-one : goal.returns-clause-one
returns-clause-one c = one_each

pub returns-clause-over : goal.returns-clause-over
returns-clause-over c old es pages number rising = over_all old es 0 (2 ^ 32) pages number rising
