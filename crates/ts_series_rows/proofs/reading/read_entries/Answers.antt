use Rattle.std.proofs.Common.{refl}
use Rattle.ts_base.specs.declared.fault.Trouble.TheVariants.{Refused}
use Rattle.ts_answer.specs.View.{view}
use Rattle.ts_answer.proofs.CallerLemmas.{read_stopped_first, tried_stopped}
use Rattle.ts_shelf.proofs.ReadingLemmas.{failed_out, trouble_out, said_out}
use Rattle.ts_series_rows.specs.Readings.{reading_of}
use Rattle.ts_series_rows.proofs.EntryLemmas.{entries_unknown, entries_refused, entries_said, entries_come}
use Rattle.ts_series_rows.proofs.reading.read_entries.Goals as goal

pub returns-in_err-shelf-clause-read : goal.returns-in_err-shelf-clause-read
returns-in_err-shelf-clause-read g c =
    let x = view c.args.defs.now.definitions c.args.space.now (g.P.Pages.contents c.args.pages.now) in
    let command = reading_of c.args.choice c.args.key.now in
    let trouble = c.in_err-shelf.field-0.0 in
    read_stopped_first g.P.Pages.tells command c.args.out.now x c.from_residual.result _ c.from_residual.ensures.1
    (tried_stopped g.P.Pages.tells command c.args.out.now x trouble (λ l kept. entries_unknown c.args.choice c.args.key.now _ trouble (c.in_err-shelf.ensures.tried l kept).err))

pub returns-in_err-done-clause-read : goal.returns-in_err-done-clause-read
returns-in_err-done-clause-read g c =
    let x = view c.args.defs.now.definitions c.args.space.now (g.P.Pages.contents c.args.pages.now) in
    failed_out g.P.Pages.tells (reading_of c.args.choice c.args.key.now) _ x _ _ c.in_err-done.field-0.0 c.from_residual-in_err-done.ensures.1 c.in_err-done.ensures.call

pub returns-in-Err-clause-read : goal.returns-in-Err-clause-read
returns-in-Err-clause-read g c =
    let tells = g.P.Pages.tells in
    let x = view c.args.defs.now.definitions c.args.space.now (g.P.Pages.contents c.args.pages.now) in
    let shelf = c.in_ok-shelf.shelf in
    let found = c.in_ok-shelf.ensures.found in
    trouble_out tells (reading_of c.args.choice c.args.key.now) _ x _ _ c.in_ok-done.done (Refused c.in-Err.refusal) refl c.in_ok-done.ensures.call (λ told l shows.
    entries_refused tells x l c.in_ok-shelf.shape c.in_ok-shelf.ensures.laid shelf.series shelf.kind.now c.args.key.now told shows found c.args.shown c.requires.shown _ c.args.choice c.in-Err.refusal (rw c.in-Err.is at c.in_ok-done.ensures.read))

pub returns-clause-read : goal.returns-clause-read
returns-clause-read g c =
    let tells = g.P.Pages.tells in
    let x = view c.args.defs.now.definitions c.args.space.now (g.P.Pages.contents c.args.pages.now) in
    let shelf = c.in_ok-shelf.shelf in
    let found = c.in_ok-shelf.ensures.found in
    said_out tells (reading_of c.args.choice c.args.key.now) c.say_count.new.out x _ c.in_ok-done.done c.in_ok-done.ensures.call (λ told l shows.
    entries_come tells x l c.in_ok-shelf.shape c.in_ok-shelf.ensures.laid shelf.series shelf.kind.now c.args.key.now told shows found c.args.shown c.requires.shown _ c.args.choice c.in-Ok.count c.say_count.new.out (rw c.in-Ok.is at c.in_ok-done.ensures.read) (λ entries taken.
    entries_said shelf.kind.now.columns entries c.args.out.now c.behind-lines.result.out.now c.entries_in.new.visitor.out.now _ c.say_count.new.out c.in-Ok.count _ _ _ c.requires.empty c.behind-lines.ensures.none c.behind-lines.ensures.same
    taken.taken taken.number c.in_ok-say_count-in-Ok.ensures.ok assumption))
