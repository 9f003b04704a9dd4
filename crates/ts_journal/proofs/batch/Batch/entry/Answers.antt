use Rattle.std.proofs.Common.{◌<◌, length, get_or, ap, ◌∙◌, sym, subst, arith}
use Rattle.std.specs.Option.{unwrap_or}
use Rattle.ts_journal.specs.declared.batch.Change.{Change}
use Rattle.ts_journal.specs.Journal.{Entry, Entries, IsBatch, change_of}
use Rattle.ts_journal.proofs.BatchLemmas.{no_entry}
use Rattle.ts_journal.proofs.JoinedLemmas.{joined_batch, joined_at, joined_length}
use Rattle.ts_journal.proofs.batch.Batch.entry.Goals as goal

pub returns-clause-is : goal.returns-clause-is
returns-clause-is c = λ other.
    let images = c.self.inside.images.entries in
    let numbers = c.self.inside.numbers.entries in
    let within : c.args.place < length numbers = omega (arith, c.requires, ap (λ (b : Entries). length b.entries) c.self.view_is, joined_length images numbers) in
    ap (λ (change : Change). (c.at-no.result, change)) c.change.ensures.is ∙ ap (λ (e : Entry). (e.0, unwrap_or (change_of e.0 images) e.1)) (c.at-no.ensures.is no_entry)
    ∙ sym (joined_at images numbers c.args.place no_entry other within) ∙ ap (λ (b : Entries). get_or b.entries c.args.place other) c.self.view_is

pub returns-clause-batch : goal.returns-clause-batch
returns-clause-batch c =
    subst (λ (b : Entries). IsBatch b.entries) c.self.view_is (joined_batch c.self.inside.images.entries c.self.inside.numbers.entries c.change.ensures.batch c.at-no.ensures.batch)
