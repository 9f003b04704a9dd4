use Rattle.ts_calendar.proofs.LawLemmas.{steps-lead, steps-found, steps-apart, apart-none, first-is, first-found, late-all, all-late}
use Rattle.ts_calendar.proofs.laws.steps_lead_there.Goals as goal

pub returns-clause-between : goal.returns-clause-between
returns-clause-between c = λ u from to k stamp early. (steps-lead u from to k, steps-found u from to k stamp early)

pub returns-clause-apart : goal.returns-clause-apart
returns-clause-apart c = λ u from to stamp early. (apart-none u from to stamp early, steps-apart u from to)

pub returns-clause-first : goal.returns-clause-first
returns-clause-first c = λ u from s k stamp early. (first-is u from s k stamp early, first-found u from s k stamp early)

pub returns-clause-late : goal.returns-clause-late
returns-clause-late c = λ u from s stamp early. (late-all u from s stamp early, all-late u from s)
