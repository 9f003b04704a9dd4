use Rattle.ts_irregular.proofs.HeadLemmas.{place_listed}
use Rattle.ts_irregular.proofs.page.place_in.Goals as goal

pub returns-clause-listed : goal.returns-clause-listed
returns-clause-listed c = λ es are count same.
    place_listed c.args.shelf.now.series c.args.shelf.now.kind.now.columns es c.args.page.now.bytes c.args.number c.args.count c.units_in.result are count c.requires.some same c.units_in.ensures
