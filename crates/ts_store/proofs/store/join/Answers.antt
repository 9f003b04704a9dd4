use Rattle.std.proofs.Common.{◌≡◌, [], sym, ap, ◌∙◌, length}
use Rattle.ts_journal.specs.Journal.{Entries, put_all}
use Rattle.ts_store.proofs.JoinLemmas.{joined_alone}
use Rattle.ts_store.proofs.CommitLemmas.{no_entries}
use Rattle.ts_store.proofs.store.join.Goals as goal

pub take_all-requires-clause-room : goal.take_all-requires-clause-room
take_all-requires-clause-room c = c.requires.room (λ none. c.if-len-eq0.false (c.len.ensures ∙ ap length none))

pub take_all-requires-clause-images : goal.take_all-requires-clause-images
take_all-requires-clause-images c = c.requires.images (λ none. c.if-len-eq0.false (c.len.ensures ∙ ap length none))

pub returns-then-len-eq0-clause-joined : goal.returns-then-len-eq0-clause-joined
returns-then-len-eq0-clause-joined c =
    let none : c.args.transaction.now.entries ≡ [] = no_entries c.args.transaction.now.entries (sym c.len.ensures ∙ c.if-len-eq0.true) in
    ap (λ (b : Entries). b.entries) c.swap.ensures.x_after ∙ sym (joined_alone c.args.batch.now.entries c.requires.rising)
    ∙ (λ i. put_all (sym none i) c.args.batch.now.entries)
