use Rattle.std.proofs.Common.{◌≡◌, None, sym, subst}
use Rattle.ts_store.specs.OpenBatch.{State, change_read}
use Rattle.ts_store.proofs.CacheLemmas.{sound_kept}
use Rattle.ts_store.proofs.store.Store.keep_read.Goals as goal

pub invariant_of-self : goal.invariant_of-self
invariant_of-self c =
    sound_kept c.put.result c.self.inside.replayed.pages c.args.no c.args.page.now.bytes c.self.inside.replayed.overlay.entries c.self.inside.transaction.entries c.self.inside.batch.entries c.self.inside.cache c.put.new.self c.put.ensures.ok c.put.ensures.err
    (subst (λ (s : State). change_read c.args.no s ≡ None) (sym c.self.view_is) c.requires) c.self.invariant
