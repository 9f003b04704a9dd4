use Rattle.ts_calendar.proofs.PlaceLemmas.{in_its_place}
use Rattle.ts_calendar.proofs.text.calendars_are_refused_in_place.Goals as goal

pub returns : goal.returns
returns c = in_its_place
