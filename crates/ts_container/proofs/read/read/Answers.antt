use Rattle.ts_container.proofs.SurveyLemmas.{got_read}
use Rattle.ts_container.proofs.read.read.Goals as goal

pub returns-clause-got : goal.returns-clause-got
returns-clause-got g c = got_read g.P.Pages.tells c.args.number c.get.new.into.bytes (g.P.Pages.contents c.args.pages.now) (g.P.Pages.contents c.get.new.self) c.requires.outside c.in_ok-get.ensures.got
