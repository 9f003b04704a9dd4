use Rattle.ts_catalogue_laws.proofs.OfCatalogueLemmas.{joins_of}
use Rattle.ts_catalogue_laws.proofs.of_catalogues.a_join_of_calendars_of_a_catalogue_is_valid.Goals as goal

pub returns : goal.returns
returns c = joins_of c.a_made_calendar_is_valid.ensures
