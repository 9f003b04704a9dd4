use Rattle.std.proofs.Common.{inl}
use Rattle.ts_container.proofs.EarlyLemmas.{first_broken}
use Rattle.ts_container.proofs.surveyed.first_wrong.Goals as goal

pub returns-in-Some : goal.returns-in-Some
returns-in-Some c = inl (first_broken c.args.broken.now c.in-Some.first.now c.page_of_slot.result c.in-Some.ensures.value c.requires.listed.rising c.page_of_slot.ensures)
