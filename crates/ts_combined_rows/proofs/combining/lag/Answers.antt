use Rattle.std.proofs.Common.{◌≡◌, refl, to_z, of_z, w64}
use Rattle.std.proofs.lemmas.Int.{to_z-of_z}
use Rattle.ts_base.specs.declared.fault.Trouble.TheVariants.{Refused}
use Rattle.ts_command.specs.declared.command.Command.TheVariants.{Lag}
use Rattle.ts_answer.specs.Answer.{outcome, carried_out, lag_series}
use Rattle.ts_answer.specs.View.{view}
use Rattle.ts_answer.proofs.CallerLemmas.{read_stopped_first, tried_stopped, refused_as}
use Rattle.ts_shelf.proofs.MemoryLemmas.{few_elements}
use Rattle.ts_shelf.proofs.ReadingLemmas.{failed_out, trouble_out, said_out}
use Rattle.ts_combined_rows.proofs.LagLemmas.{lag_refused, lag_said}
use Rattle.ts_combined_rows.proofs.SaidRowsLemmas.{entries_said}
use Rattle.ts_combined_rows.proofs.combining.lag.Goals as goal

pub moved_rows-requires-clause-countable : goal.moved_rows-requires-clause-countable
moved_rows-requires-clause-countable g c =
    few_elements (view c.args.defs.now.definitions c.args.space.now (g.P.Pages.contents c.args.pages.now)) c.requires.seen.kept c.in_ok-shelf.shelf.series c.in_ok-shelf.ensures.found.named.within

pub returns-in_err-shelf-clause-read : goal.returns-in_err-shelf-clause-read
unfolding outcome carried_out lag_series
returns-in_err-shelf-clause-read g c =
    let x = view c.args.defs.now.definitions c.args.space.now (g.P.Pages.contents c.args.pages.now) in
    let command = Lag c.args.key.now c.args.by in
    let trouble = c.in_err-shelf.field-0.0 in
    read_stopped_first g.P.Pages.tells command c.args.out.now x c.from_residual.result _ c.from_residual.ensures.1
    (tried_stopped g.P.Pages.tells command c.args.out.now x trouble (λ l kept. refused_as trouble _ _ (c.in_err-shelf.ensures.tried l kept).err))

pub returns-in_err-done-clause-read : goal.returns-in_err-done-clause-read
returns-in_err-done-clause-read g c =
    let x = view c.args.defs.now.definitions c.args.space.now (g.P.Pages.contents c.args.pages.now) in
    failed_out g.P.Pages.tells (Lag c.args.key.now c.args.by) _ x _ _ c.in_err-done.field-0.0 c.from_residual-in_err-done.ensures.1 c.in_err-done.ensures.call

pub returns-in-Err-clause-read : goal.returns-in-Err-clause-read
returns-in-Err-clause-read g c =
    let tells = g.P.Pages.tells in
    let by : to_z w64 (of_z w64 c.args.by) ≡ c.args.by = to_z-of_z w64 c.args.by c.ranges.by in
    let x = view c.args.defs.now.definitions c.args.space.now (g.P.Pages.contents c.args.pages.now) in
    let shelf = c.in_ok-shelf.shelf in
    trouble_out tells (Lag c.args.key.now c.args.by) _ x _ _ c.in_ok-done.done (Refused c.in-Err.refusal) refl c.in_ok-done.ensures.call (λ told l shows.
    lag_refused tells x l told shows c.in_ok-shelf.shape c.in_ok-shelf.ensures.laid shelf.series shelf.kind.now c.args.key.now c.in_ok-shelf.ensures.found _ c.args.by c.in-Err.refusal (rw (c.in-Err.is, by) at c.in_ok-done.ensures.read))

pub returns-clause-read : goal.returns-clause-read
returns-clause-read g c =
    let tells = g.P.Pages.tells in
    let by : to_z w64 (of_z w64 c.args.by) ≡ c.args.by = to_z-of_z w64 c.args.by c.ranges.by in
    let x = view c.args.defs.now.definitions c.args.space.now (g.P.Pages.contents c.args.pages.now) in
    let shelf = c.in_ok-shelf.shelf in
    said_out tells (Lag c.args.key.now c.args.by) c.say_count.new.out x _ c.in_ok-done.done c.in_ok-done.ensures.call (λ told l shows.
    lag_said tells x l told shows c.in_ok-shelf.shape c.in_ok-shelf.ensures.laid shelf.series shelf.kind.now c.args.key.now c.in_ok-shelf.ensures.found _ c.args.by c.in-Ok.count c.say_count.new.out (rw (c.in-Ok.is, by) at c.in_ok-done.ensures.read) (λ rows taken number.
    entries_said shelf.kind.now.columns rows c.args.out.now c.behind-lines.result.out.now c.moved_rows.new.visitor.out.now _ c.say_count.new.out c.in-Ok.count _ _ _ c.requires.empty c.behind-lines.ensures.none c.behind-lines.ensures.same
    taken number c.in_ok-say_count-in-Ok.ensures.ok assumption))
