use Rattle.ts_slots.proofs.WriteLemmas.{first_not_free}
use Rattle.ts_slots.proofs.write.put_header.Goals as goal

pub put-requires-clause-used : goal.put-requires-clause-used
put-requires-clause-used g c = first_not_free g.P.Pages.tells (g.P.Pages.contents c.args.pages.now) (g.met.P.Pages.lawful c.args.pages.now)
