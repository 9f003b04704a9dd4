use Rattle.ts_answer_laws.proofs.ContainerLemmas.{containers_listed}
use Rattle.ts_answer_laws.proofs.aggregate_laws.each_series_has_its_range.Goals as goal

pub returns : goal.returns
returns c = containers_listed
