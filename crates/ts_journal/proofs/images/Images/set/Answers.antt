use Rattle.std.proofs.Common.{Option, Some, Global, sym, subst}
use Rattle.std.specs.declared.boxed.Box.{Box}
use Rattle.ts_journal.specs.declared.batch.Change.{Change}
use Rattle.ts_journal.specs.Stored.{image_in, Sets}
use Rattle.ts_journal.proofs.StoredLemmas.{put_sets}
use Rattle.ts_journal.proofs.WriteLemmas.{on_ok_map}
use Rattle.ts_journal.proofs.images.Images.set.Goals as goal

pub returns-in-Some-clause-ok : goal.returns-in-Some-clause-ok
returns-in-Some-clause-ok c =
    let old = c.args.self.now.entries in
    let image = c.in-Some.image.value in
    on_ok_map c.put.result _ _ (λ is.
    subst (λ (o : Option (Box Change Global)). Sets c.args.no (image_in o) old c.put.new.self.entries) (sym c.in-Some.is)
    (subst (Sets c.args.no (Some image) old) (sym is) (put_sets old c.args.no image))) c.put.ensures.ok
