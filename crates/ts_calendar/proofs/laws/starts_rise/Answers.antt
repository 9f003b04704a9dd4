use Rattle.ts_calendar.proofs.LawLemmas.{starts-rise, starts-whole}
use Rattle.ts_calendar.proofs.laws.starts_rise.Goals as goal

pub returns-clause-rising : goal.returns-clause-rising
returns-clause-rising c = λ p laid i j s t. starts-rise p i j s t laid

pub returns-clause-whole : goal.returns-clause-whole
returns-clause-whole c = λ p laid i j k. starts-whole p i j k laid
