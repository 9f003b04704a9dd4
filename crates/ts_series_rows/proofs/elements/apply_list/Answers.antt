use Rattle.std.proofs.Common.{[], ◌∷◌, List, ℕ, sym, ap, refl, ◌∙◌}
use Rattle.ts_base.specs.declared.fault.Trouble.TheVariants.{Refused, Memory}
use Rattle.ts_command.specs.declared.command.Command.TheVariants.{Apply}
use Rattle.ts_layout.specs.Meaning.{catalogue_of}
use Rattle.ts_running.specs.Rows.{scales_of}
use Rattle.ts_answer.specs.View.{view}
use Rattle.ts_answer.proofs.CallerLemmas.{read_stopped_first, tried_stopped}
use Rattle.ts_shelf.proofs.MemoryLemmas.{few_elements}
use Rattle.ts_shelf.proofs.ReadingLemmas.{failed_out, trouble_out, said_out}
use Rattle.ts_series_rows.proofs.AggregateLemmas.{rows_said}
use Rattle.ts_series_rows.proofs.ElementLemmas.{scales_are, exprs_read, exprs_unread, exprs_unbound, apply_unread, apply_unknown, apply_unbound, apply_refused, apply_said}
use Rattle.ts_series_rows.proofs.elements.apply_list.Goals as goal

pub applied_rows-requires-clause-countable : goal.applied_rows-requires-clause-countable
applied_rows-requires-clause-countable g c =
    few_elements (view c.args.defs.now.definitions c.args.space.now (g.P.Pages.contents c.args.pages.now)) c.requires.seen.kept c.in_ok-shelf.shelf.series c.in_ok-shelf.ensures.found.named.within

pub returns-in_err-list-clause-read : goal.returns-in_err-list-clause-read
returns-in_err-list-clause-read g c =
    let x = view c.args.defs.now.definitions c.args.space.now (g.P.Pages.contents c.args.pages.now) in
    let command = Apply c.args.text.now c.args.key.now c.args.from c.args.to in
    let trouble = c.in_err-list.field-0.0 in
    read_stopped_first g.P.Pages.tells command c.args.out.now x c.from_residual.result _ c.from_residual.ensures.1
    (tried_stopped g.P.Pages.tells command c.args.out.now x trouble (λ l kept.
    apply_unread c.args.text.now c.args.key.now c.args.from c.args.to (catalogue_of l) trouble (exprs_unread c.as_slice.result.now c.args.text.now trouble c.as_slice.ensures c.in_err-list.ensures)))

pub returns-in_err-shelf-clause-read : goal.returns-in_err-shelf-clause-read
returns-in_err-shelf-clause-read g c =
    let x = view c.args.defs.now.definitions c.args.space.now (g.P.Pages.contents c.args.pages.now) in
    let command = Apply c.args.text.now c.args.key.now c.args.from c.args.to in
    let trouble = c.in_err-shelf.field-0.0 in
    let exprs = c.in_ok-list.list in
    let read = exprs_read c.as_slice.result.now c.args.text.now exprs c.as_slice.ensures c.in_ok-list.ensures in
    read_stopped_first g.P.Pages.tells command c.args.out.now x c.from_residual-in_err-shelf.result _ c.from_residual-in_err-shelf.ensures.1
    (tried_stopped g.P.Pages.tells command c.args.out.now x trouble (λ l kept.
    apply_unknown c.args.text.now c.args.key.now c.args.from c.args.to (catalogue_of l) exprs read trouble (c.in_err-shelf.ensures.tried l kept).err))

pub returns-in_err-exprs-clause-read : goal.returns-in_err-exprs-clause-read
returns-in_err-exprs-clause-read g c =
    let x = view c.args.defs.now.definitions c.args.space.now (g.P.Pages.contents c.args.pages.now) in
    let command = Apply c.args.text.now c.args.key.now c.args.from c.args.to in
    let trouble = c.in_err-exprs.field-0.0 in
    let exprs = c.in_ok-list.list in
    let read = exprs_read c.as_slice.result.now c.args.text.now exprs c.as_slice.ensures c.in_ok-list.ensures in
    read_stopped_first g.P.Pages.tells command c.args.out.now x c.from_residual-in_err-exprs.result _ c.from_residual-in_err-exprs.ensures.1
    (tried_stopped g.P.Pages.tells command c.args.out.now x trouble (λ l kept.
    let series = (c.in_ok-shelf.ensures.tried l kept).ok in
    apply_unbound c.args.text.now c.args.key.now c.args.from c.args.to (catalogue_of l) exprs read series.0 series.1 trouble
    (exprs_unbound c.in_ok-shelf.shelf.kind.now.columns _ exprs trouble series.2.columns c.in_err-exprs.ensures)))

pub returns-in_err-done-clause-read : goal.returns-in_err-done-clause-read
returns-in_err-done-clause-read g c =
    let x = view c.args.defs.now.definitions c.args.space.now (g.P.Pages.contents c.args.pages.now) in
    failed_out g.P.Pages.tells (Apply c.args.text.now c.args.key.now c.args.from c.args.to) _ x _ _ c.in_err-done.field-0.0 c.from_residual-in_err-done.ensures.1 c.in_err-done.ensures.call

pub returns-in_err-say_count-in-Ok-clause-read : goal.returns-in_err-say_count-in-Ok-clause-read
returns-in_err-say_count-in-Ok-clause-read g c =
    let x = view c.args.defs.now.definitions c.args.space.now (g.P.Pages.contents c.args.pages.now) in
    trouble_out g.P.Pages.tells (Apply c.args.text.now c.args.key.now c.args.from c.args.to) _ x _ _ c.in_ok-done.done (Memory c.in_err-say_count-in-Ok.field-0.0)
    c.from_residual-in_err-say_count-in-Ok.ensures.1 c.in_ok-done.ensures.call (λ told l shows. tt)

pub returns-in-Err-clause-read : goal.returns-in-Err-clause-read
returns-in-Err-clause-read g c =
    let tells = g.P.Pages.tells in
    let x = view c.args.defs.now.definitions c.args.space.now (g.P.Pages.contents c.args.pages.now) in
    let shelf = c.in_ok-shelf.shelf in
    let exprs = c.in_ok-list.list in
    let read = exprs_read c.as_slice.result.now c.args.text.now exprs c.as_slice.ensures c.in_ok-list.ensures in
    trouble_out tells (Apply c.args.text.now c.args.key.now c.args.from c.args.to) _ x _ _ c.in_ok-done.done (Refused c.in-Err.refusal) refl c.in_ok-done.ensures.call (λ told l shows.
    apply_refused tells x l c.in_ok-shelf.shape c.in_ok-shelf.ensures.laid shelf.series shelf.kind.now c.args.key.now told shows c.in_ok-shelf.ensures.found _ c.args.text.now exprs read c.in_ok-exprs.exprs c.in_ok-exprs.ensures
    c.args.from c.args.to c.in-Err.refusal (rw c.in-Err.is at c.in_ok-done.ensures.read))

pub returns-clause-read : goal.returns-clause-read
returns-clause-read g c =
    let tells = g.P.Pages.tells in
    let x = view c.args.defs.now.definitions c.args.space.now (g.P.Pages.contents c.args.pages.now) in
    let shelf = c.in_ok-shelf.shelf in
    let exprs = c.in_ok-list.list in
    let b = c.in_ok-exprs.exprs in
    let read = exprs_read c.as_slice.result.now c.args.text.now exprs c.as_slice.ensures c.in_ok-list.ensures in
    said_out tells (Apply c.args.text.now c.args.key.now c.args.from c.args.to) c.say_count.new.out x _ c.in_ok-done.done c.in_ok-done.ensures.call (λ told l shows.
    apply_said tells x l c.in_ok-shelf.shape c.in_ok-shelf.ensures.laid shelf.series shelf.kind.now c.args.key.now told shows c.in_ok-shelf.ensures.found _ c.args.text.now exprs read b c.in_ok-exprs.ensures
    c.args.from c.args.to c.in-Ok.count c.say_count.new.out (rw c.in-Ok.is at c.in_ok-done.ensures.read)
    (λ rows taken number.
    rows_said c.scales.result.now (scales_of b) rows c.args.out.now c.behind-lines.result.out.now c.applied_rows.new.visitor.out.now _ c.say_count.new.out c.behind-lines.result.scales.now c.in-Ok.count _ _ _ c.requires.empty c.behind-lines.ensures.none c.behind-lines.ensures.same
    c.behind-lines.ensures.scales (scales_are b c.scales.result.now c.scales.ensures.value) (taken.0, taken.2) number c.in_ok-say_count-in-Ok.ensures.ok assumption))
