use Rattle.ts_space.proofs.PlaceLaws.{put_replaces, put_between, drop_takes_out}
use Rattle.ts_space.proofs.laws.places_are_edited_where_they_stand.Goals as goal

pub returns-clause-replaced : goal.returns-clause-replaced
returns-clause-replaced c = put_replaces

pub returns-clause-between : goal.returns-clause-between
returns-clause-between c = put_between

pub returns-clause-dropped : goal.returns-clause-dropped
returns-clause-dropped c = drop_takes_out
