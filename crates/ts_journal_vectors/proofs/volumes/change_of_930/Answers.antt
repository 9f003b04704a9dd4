use Rattle.std.proofs.Common.{◌≡◌, List, [], ◌∷◌, inr, sym, ap, ◌∙◌, subst, lit<, lit≤}
use Rattle.ts_journal.specs.declared.batch.Change.{Change}
use Rattle.ts_journal.specs.declared.batch.Change.TheVariants.{Image, Free}
use Rattle.ts_journal.specs.Journal.{Entry, IsAllowed, AreAllowed, put}
use Rattle.ts_journal_vectors.proofs.volumes.change_of_930.Goals as goal

page_allowed : (change : Change) → IsAllowed 931 (930, change)
page_allowed (Image page) = record { below = lit< tt; outside = inr (lit< tt); freeable = tt }
page_allowed Free = record { below = lit< tt; outside = inr (lit< tt); freeable = lit≤ tt }

alone : (es base : List Entry) (change : Change) → es ≡ put 930 change base → base ≡ [] → es ≡ (930, change) ∷ []
alone es base change is none = is ∙ ap (put 930 change) none

some : (es base : List Entry) (change : Change) → es ≡ put 930 change base → base ≡ [] → es ≡ [] → ⊥
some es base change is none empty = let one = alone es base change is none in cc (one, empty)

pub returns-clause-changes : goal.returns-clause-changes
returns-clause-changes c none = some c.set.new.self.entries c.new-batch.result.entries c.args.change c.in_ok-set.ensures.ok c.new-batch.ensures none

pub returns-clause-allowed : goal.returns-clause-allowed
returns-clause-allowed c =
    subst (AreAllowed 931) (sym (alone c.set.new.self.entries c.new-batch.result.entries c.args.change c.in_ok-set.ensures.ok c.new-batch.ensures))
    (page_allowed c.args.change, tt)
