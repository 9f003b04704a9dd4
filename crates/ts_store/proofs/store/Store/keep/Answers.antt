use Rattle.std.proofs.Common.{refl, ap, ◌∙◌}
use Rattle.ts_journal.specs.Journal.{over}
use Rattle.ts_store.specs.OpenBatch.{State, committed_pages, read_pages}
use Rattle.ts_store.specs.contracts.store.Store.{the_view}
use Rattle.ts_store.proofs.ReadLemmas.{read_joined}
use Rattle.ts_store.proofs.CacheLemmas.{sound_joined}
use Rattle.ts_store.proofs.store.Store.keep.Goals as goal

pub join-requires-clause-rising : goal.join-requires-clause-rising
join-requires-clause-rising c = c.self.invariant.batch_sound.rising

pub returns-clause-read : goal.returns-clause-read
returns-clause-read c held number =
    let s = the_view c.self.inside in
    (λ i. over (c.join.ensures.emptied i) (over (c.join.ensures.joined i) (committed_pages s held)) number)
    ∙ read_joined s (committed_pages s held) number c.self.invariant.batch_sound.rising ∙ ap (λ (x : State). read_pages x held number) c.self.view_is

pub invariant_of-self : goal.invariant_of-self
invariant_of-self c =
    let s = the_view c.self.inside in
    sound_joined s.pages s.pages s.overlay s.overlay s.transaction s.batch c.join.new.transaction.entries c.join.new.batch.entries s.cache c.self.invariant refl (λ k none. none) c.join.ensures.joined c.join.ensures.emptied
