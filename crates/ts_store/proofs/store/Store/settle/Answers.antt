use Rattle.std.proofs.Common.{IsErr, sym, ap, subst, refl, ◌∙◌}
use Rattle.ts_journal.specs.Journal.{ReadsButFreed, pages}
use Rattle.ts_journal.specs.Moment.{SamePages, IsJournalOf, MakesLast}
use Rattle.ts_store.specs.OpenBatch.{State, IsOver, to_commit}
use Rattle.ts_store.specs.contracts.store.Store.{the_view}
use Rattle.ts_store.proofs.JoinLemmas.{none_joined}
use Rattle.ts_store.proofs.CommitLemmas.{over_settled, journal_of}
use Rattle.ts_store.proofs.store.Store.settle.Goals as goal

pub settle-requires : goal.settle-requires
settle-requires g c =
    let v = g.V.Volume.device c.args.vol.now in
    record {
      over = subst (λ (s : State). IsJournalOf g.V.Volume.tells s.journal s.overlay v) (sym c.self.view_is) (journal_of g.V.Volume.tells c.args.self.now v c.requires.over);
    }

pub returns-clause-lasts : goal.returns-clause-lasts
returns-clause-lasts g c =
    let v = g.V.Volume.device c.args.vol.now in
    subst (λ (s : State). MakesLast g.V.Volume.tells (ReadsButFreed v.size s.overlay (pages v.held)) (SamePages v s.overlay) (IsErr c.settle.result) c.settle.result v (g.V.Volume.device c.settle.new.vol))
    c.self.view_is c.settle.ensures.lasts

pub returns-clause-over : goal.returns-clause-over
returns-clause-over g c =
    let v = g.V.Volume.device c.args.vol.now in
    let s = the_view c.self.inside in
    let none = none_joined s.transaction s.batch (ap to_commit c.self.view_is ∙ c.requires.closed) in
    over_settled g.V.Volume.tells s _ v (g.V.Volume.device c.settle.new.vol)
    (subst (λ (s : State). IsOver g.V.Volume.tells s v) (sym c.self.view_is) c.requires.over) none.0 none.1 c.self.invariant refl
    c.settle.result _ _ c.settle.ensures.pages refl refl refl refl c.settle.ensures.emptied c.settle.ensures.lasts c.settle.ensures.stands
