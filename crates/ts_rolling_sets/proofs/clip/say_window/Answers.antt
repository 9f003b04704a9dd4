use Rattle.std.proofs.Common.{◌≡◌, ℕ, ◌≤◌, IsTrue, Ok, List, map, length, subst}
use Rattle.ts_row.specs.declared.kind.Column.{Column}
use Rattle.ts_entry.specs.Entry.{Entry, filled}
use Rattle.ts_layout.specs.Meaning.{Layout, heading_at}
use Rattle.ts_answer.specs.View.{view, Shows}
use Rattle.ts_rolling_sets.specs.Windows.{seen_at, HasColumns}
use Rattle.ts_rolling_sets.proofs.ClipLemmas.{window_said, window_beyond, has_same, some_more}
use Rattle.ts_rolling_sets.proofs.clip.say_window.Goals as goal

pub shelf_at-shape-requires-clause-named : goal.shelf_at-shape-requires-clause-named
shelf_at-shape-requires-clause-named g c = (c.requires.window.key, c.requires.window.named)

pub returns-clause-taken : goal.returns-clause-taken
returns-clause-taken g c =
    let tells = g.P.Pages.tells in
    let x = view c.args.defs.now.definitions c.args.space.now (g.P.Pages.contents c.args.pages.now) in
    let found = c.shelf_at-shape in
    let h = found.result.0.kind.now in
    let slot = c.args.slot in
    let done = c.in_ok-done.done in
    some_more c.within.result (λ (n : ℕ). (done ≡ Ok n) × (n ≤ c.args.room)) (λ (count : ℕ). IsTrue tells → (columns : List Column) (l : Layout) → HasColumns columns (heading_at c.args.defs.now.definitions slot) → Shows tells x l
    → g.V.EntryVisitor.took columns c.args.visitor.now (map filled (seen_at l c.args.from c.args.to slot)) c.clip.new.visitor) c.within.ensures.some
    (λ count is told columns l has shows.
    subst (λ (cs : List Column). g.V.EntryVisitor.took cs c.args.visitor.now (map filled (seen_at l c.args.from c.args.to slot)) c.clip.new.visitor) (has_same columns (heading_at c.args.defs.now.definitions slot) h found.ensures.columns has)
    (window_said tells x slot c.requires.window h found.result.1 found.result.0.series found.ensures.columns found.ensures.lies found.ensures.slot
    (λ (es : List Entry). g.V.EntryVisitor.took h.columns c.args.visitor.now es c.clip.new.visitor) c.args.from c.args.to done count is.0 c.in_ok-done.ensures.read told l shows).0)

pub returns-clause-counted : goal.returns-clause-counted
returns-clause-counted g c =
    let tells = g.P.Pages.tells in
    let x = view c.args.defs.now.definitions c.args.space.now (g.P.Pages.contents c.args.pages.now) in
    let found = c.shelf_at-shape in
    let h = found.result.0.kind.now in
    let slot = c.args.slot in
    let done = c.in_ok-done.done in
    some_more c.within.result (λ (n : ℕ). (done ≡ Ok n) × (n ≤ c.args.room)) (λ (count : ℕ). IsTrue tells → (l : Layout) → Shows tells x l → count ≡ length (seen_at l c.args.from c.args.to slot)) c.within.ensures.some
    (λ count is told l shows.
    (window_said tells x slot c.requires.window h found.result.1 found.result.0.series found.ensures.columns found.ensures.lies found.ensures.slot
    (λ (es : List Entry). g.V.EntryVisitor.took h.columns c.args.visitor.now es c.clip.new.visitor) c.args.from c.args.to done count is.0 c.in_ok-done.ensures.read told l shows).1)

pub returns-clause-few : goal.returns-clause-few
returns-clause-few g c = some_more c.within.result (λ (n : ℕ). (c.in_ok-done.done ≡ Ok n) × (n ≤ c.args.room)) (λ (count : ℕ). count ≤ c.args.room) c.within.ensures.some (λ count is. is.1)

pub returns-clause-many : goal.returns-clause-many
returns-clause-many g c = λ none told l shows.
    let x = view c.args.defs.now.definitions c.args.space.now (g.P.Pages.contents c.args.pages.now) in
    let found = c.shelf_at-shape in
    let h = found.result.0.kind.now in
    window_beyond g.P.Pages.tells x c.args.slot c.requires.window h found.result.1 found.result.0.series found.ensures.columns found.ensures.lies found.ensures.slot
    (λ (es : List Entry). g.V.EntryVisitor.took h.columns c.args.visitor.now es c.clip.new.visitor) c.args.from c.args.to c.in_ok-done.done c.args.room c.requires.room (c.within.ensures.none none) c.in_ok-done.ensures.read told l shows
