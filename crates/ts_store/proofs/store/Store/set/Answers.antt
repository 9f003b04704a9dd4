use Rattle.std.proofs.Common.{sym, ap, subst, ℕ}
use Rattle.ts_journal.specs.Journal.{IsAllowed}
use Rattle.ts_store.specs.OpenBatch.{State}
use Rattle.ts_store.proofs.CacheLemmas.{sound_set, sound_same}
use Rattle.ts_store.proofs.store.Store.set.Goals as goal

pub invariant_of-self : goal.invariant_of-self
invariant_of-self c =
    sound_same c.self.inside.replayed.pages c.self.inside.replayed.overlay.entries c.self.inside.transaction.entries c.self.inside.batch.entries c.set.new.self.entries c.self.inside.cache c.in_err-set.ensures.err c.self.invariant

pub invariant_of-self-2 : goal.invariant_of-self-2
invariant_of-self-2 c =
    sound_set c.self.inside.replayed.pages c.args.no c.self.inside.replayed.overlay.entries c.self.inside.transaction.entries c.self.inside.batch.entries c.set.new.self.entries c.self.inside.cache c.forget.new.self c.args.change
    c.in_ok-set.ensures.ok c.forget.ensures.ok c.self.invariant
    (subst (λ (n : ℕ). IsAllowed n (c.args.no, c.args.change)) (sym (ap (λ (s : State). s.pages) c.self.view_is)) c.requires) c.ranges.no.fits
