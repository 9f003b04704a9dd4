-- What stands behind a reply is a catalogue.
use Rattle.std.proofs.Common.{Ok, Err}
use Rattle.ts_answer_laws.specs.SeriesLaws.{OriginsAreOnStarts}
use Rattle.ts_catalogue_laws.specs.Laws.{AnswersKeepCatalogues}
use Rattle.ts_catalogue_laws.proofs.CommandLemmas.{command_keeps, refusal_keeps}

pub answers_keep : OriginsAreOnStarts → AnswersKeepCatalogues
answers_keep origins cat (Ok command) good formed = command_keeps cat good origins command formed.0 formed.1
answers_keep origins cat (Err refusal) good formed = refusal_keeps cat good refusal
