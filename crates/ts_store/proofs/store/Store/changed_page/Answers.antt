use Rattle.std.proofs.Common.{◌≡◌, ◌++◌, ◌-◌, ℕ, length, slice_index_or, sym, ap, ◌∙◌, subst, arith, length-append}
use Rattle.std.proofs.lemmas.List.{get_or-append_right}
use Rattle.ts_page.specs.Pages.{IsOutsideJournal}
use Rattle.ts_journal.specs.declared.batch.Change.TheVariants.{Free}
use Rattle.ts_journal.specs.Journal.{Entry}
use Rattle.ts_journal.proofs.HomeLemmas.{allowed_at}
use Rattle.ts_store.specs.OpenBatch.{State}
use Rattle.ts_store.proofs.store.Store.changed_page.Goals as goal

pub returns-then-place-first-clause-within : goal.returns-then-place-first-clause-within
returns-then-place-first-clause-within c =
    let d : Entry = (0, Free) in
    let at = allowed_at c.self.inside.replayed.pages c.self.inside.transaction.entries c.args.place d c.self.invariant.transaction_sound.allowed (omega (arith, c.if-place-first.true, c.len-first.ensures)) in
    omega (arith, at.below, ap (λ (e : Entry). e.0) (c.entry.ensures.is d), ap (λ (s : State). s.pages) c.self.view_is)

pub returns-then-place-first-clause-outside : goal.returns-then-place-first-clause-outside
returns-then-place-first-clause-outside c =
    let d : Entry = (0, Free) in
    let at = allowed_at c.self.inside.replayed.pages c.self.inside.transaction.entries c.args.place d c.self.invariant.transaction_sound.allowed (omega (arith, c.if-place-first.true, c.len-first.ensures)) in
    subst IsOutsideJournal (sym (ap (λ (e : Entry). e.0) (c.entry.ensures.is d))) at.outside

pub returns-else-place-first-clause-page : goal.returns-else-place-first-clause-page
returns-else-place-first-clause-page c other =
    let t = c.self.inside.transaction.entries in
    let b = c.self.inside.batch.entries in
    let first : length t ≡ c.len-first.result = sym c.len-first.ensures in
    ap (λ (e : Entry). e.0) (c.entry-else-place-first.ensures.is other)
    ∙ ap (λ (e : Entry). e.0) (sym (get_or-append_right t b c.len-first.result c.args.place other first (omega (arith, c.if-place-first.false))))
    ∙ (λ i. (slice_index_or ((c.self.view_is i).transaction ++ (c.self.view_is i).batch) c.args.place other).0)

pub returns-else-place-first-clause-within : goal.returns-else-place-first-clause-within
returns-else-place-first-clause-within c =
    let d : Entry = (0, Free) in
    let b = c.self.inside.batch.entries in
    let all : length (c.self.inside.transaction.entries ++ b) ≡ length (c.args.self.now.transaction ++ c.args.self.now.batch) = ap (λ (s : State). length (s.transaction ++ s.batch)) c.self.view_is in
    let at = allowed_at c.self.inside.replayed.pages b (c.args.place - c.len-first.result) d c.self.invariant.batch_sound.allowed
    (omega (arith, c.if-place-first.false, c.len-first.ensures, c.requires, all, length-append c.self.inside.transaction.entries b)) in
    omega (arith, at.below, ap (λ (e : Entry). e.0) (c.entry-else-place-first.ensures.is d), ap (λ (s : State). s.pages) c.self.view_is)

pub returns-else-place-first-clause-outside : goal.returns-else-place-first-clause-outside
returns-else-place-first-clause-outside c =
    let d : Entry = (0, Free) in
    let b = c.self.inside.batch.entries in
    let all : length (c.self.inside.transaction.entries ++ b) ≡ length (c.args.self.now.transaction ++ c.args.self.now.batch) = ap (λ (s : State). length (s.transaction ++ s.batch)) c.self.view_is in
    let at = allowed_at c.self.inside.replayed.pages b (c.args.place - c.len-first.result) d c.self.invariant.batch_sound.allowed
    (omega (arith, c.if-place-first.false, c.len-first.ensures, c.requires, all, length-append c.self.inside.transaction.entries b)) in
    subst IsOutsideJournal (sym (ap (λ (e : Entry). e.0) (c.entry-else-place-first.ensures.is d))) at.outside
