use Rattle.std.proofs.Common.{refl, arith}
use Rattle.std.proofs.lemmas.Bool.{le-leb, leb-true}
use Rattle.ts_chain.proofs.LessLemmas.{before_room, room_before}
use Rattle.ts_chain.proofs.join.fits_before.Goals as goal

pub returns-clause-yes : goal.returns-clause-yes
returns-clause-yes c = λ hit front back parts same. room_before c.args.places.now front back c.args.index c.args.room c.args.count _ parts same c.if-index-eq0.false (leb-true _ _ hit)

pub returns-clause-no : goal.returns-clause-no
returns-clause-no c = λ front back parts same fit. le-leb _ _ (before_room c.args.places.now front back c.args.index c.args.room c.args.room c.args.count _ parts same (omega (arith, c.if-index-eq0.false)) refl fit)
