use Rattle.std.proofs.Common.{Ok, sym, ap, refl, ◌∙◌}
use Rattle.ts_base.specs.declared.fault.Trouble.TheVariants.{Refused, Memory}
use Rattle.ts_command.specs.declared.command.Command.TheVariants.{AggregateBy}
use Rattle.ts_layout.specs.Meaning.{catalogue_of}
use Rattle.ts_answer.specs.Answer.{scales_of}
use Rattle.ts_answer.specs.View.{view}
use Rattle.ts_answer.proofs.CallerLemmas.{defined_by, read_stopped_first, tried_stopped}
use Rattle.ts_shelf.proofs.MemoryLemmas.{few_elements}
use Rattle.ts_shelf.proofs.ReadingLemmas.{failed_out, trouble_out, said_out}
use Rattle.ts_shelf.proofs.FoldLemmas.{list_read, list_unread, list_unbound}
use Rattle.ts_series_rows.proofs.AggregateLemmas.{by_unread, by_no_calendar, by_unknown, by_unbound, by_refused, by_said, rows_said}
use Rattle.ts_series_rows.proofs.aggregates.aggregate_by.Goals as goal

pub aggregate_by-requires-clause-countable : goal.aggregate_by-requires-clause-countable
aggregate_by-requires-clause-countable g c =
    few_elements (view c.args.defs.now.definitions c.args.space.now (g.P.Pages.contents c.args.pages.now)) c.requires.seen.kept c.in_ok-shelf.shelf.series c.in_ok-shelf.ensures.found.named.within

pub returns-in_err-list-clause-read : goal.returns-in_err-list-clause-read
returns-in_err-list-clause-read g c =
    let x = view c.args.defs.now.definitions c.args.space.now (g.P.Pages.contents c.args.pages.now) in
    let command = AggregateBy c.args.text.now c.args.calendar.now c.args.key.now c.args.from c.args.to in
    let trouble = c.in_err-list.field-0.0 in
    read_stopped_first g.P.Pages.tells command c.args.out.now x c.from_residual.result _ c.from_residual.ensures.1
    (tried_stopped g.P.Pages.tells command c.args.out.now x trouble (λ l kept.
    by_unread c.args.text.now c.args.calendar.now c.args.key.now c.args.from c.args.to (catalogue_of l) trouble (list_unread c.as_slice.result.now c.args.text.now trouble c.as_slice.ensures c.in_err-list.ensures)))

pub returns-in_err-plan-clause-read : goal.returns-in_err-plan-clause-read
returns-in_err-plan-clause-read g c =
    let x = view c.args.defs.now.definitions c.args.space.now (g.P.Pages.contents c.args.pages.now) in
    let command = AggregateBy c.args.text.now c.args.calendar.now c.args.key.now c.args.from c.args.to in
    let trouble = c.in_err-plan.field-0.0 in
    let items = c.in_ok-list.list in
    let read = list_read c.as_slice.result.now c.args.text.now items c.as_slice.ensures c.in_ok-list.ensures in
    read_stopped_first g.P.Pages.tells command c.args.out.now x c.from_residual-in_err-plan.result _ c.from_residual-in_err-plan.ensures.1
    (tried_stopped g.P.Pages.tells command c.args.out.now x trouble (λ l kept.
    by_no_calendar c.args.text.now c.args.calendar.now c.args.key.now c.args.from c.args.to (catalogue_of l) items read trouble (c.in_err-plan.ensures _ l (defined_by kept)).err))

pub returns-in_err-shelf-clause-read : goal.returns-in_err-shelf-clause-read
returns-in_err-shelf-clause-read g c =
    let x = view c.args.defs.now.definitions c.args.space.now (g.P.Pages.contents c.args.pages.now) in
    let command = AggregateBy c.args.text.now c.args.calendar.now c.args.key.now c.args.from c.args.to in
    let trouble = c.in_err-shelf.field-0.0 in
    let items = c.in_ok-list.list in
    let read = list_read c.as_slice.result.now c.args.text.now items c.as_slice.ensures c.in_ok-list.ensures in
    read_stopped_first g.P.Pages.tells command c.args.out.now x c.from_residual-in_err-shelf.result _ c.from_residual-in_err-shelf.ensures.1
    (tried_stopped g.P.Pages.tells command c.args.out.now x trouble (λ l kept.
    let plan = (c.in_ok-plan.ensures _ l (defined_by kept)).ok in
    by_unknown c.args.text.now c.args.calendar.now c.args.key.now c.args.from c.args.to (catalogue_of l) items read plan.0 plan.1 trouble (c.in_err-shelf.ensures.tried l kept).err))

pub returns-in_err-bound-clause-read : goal.returns-in_err-bound-clause-read
returns-in_err-bound-clause-read g c =
    let x = view c.args.defs.now.definitions c.args.space.now (g.P.Pages.contents c.args.pages.now) in
    let command = AggregateBy c.args.text.now c.args.calendar.now c.args.key.now c.args.from c.args.to in
    let trouble = c.in_err-bound.field-0.0 in
    let items = c.in_ok-list.list in
    let read = list_read c.as_slice.result.now c.args.text.now items c.as_slice.ensures c.in_ok-list.ensures in
    read_stopped_first g.P.Pages.tells command c.args.out.now x c.from_residual-in_err-bound.result _ c.from_residual-in_err-bound.ensures.1
    (tried_stopped g.P.Pages.tells command c.args.out.now x trouble (λ l kept.
    let series = (c.in_ok-shelf.ensures.tried l kept).ok in
    let plan = (c.in_ok-plan.ensures _ l (defined_by kept)).ok in
    by_unbound c.args.text.now c.args.calendar.now c.args.key.now c.args.from c.args.to (catalogue_of l) items read plan.0 plan.1 series.0 series.1 trouble
    (list_unbound c.in_ok-shelf.shelf.kind.now.columns _ items trouble series.2.columns c.in_err-bound.ensures.value)))

pub returns-in_err-folding-clause-read : goal.returns-in_err-folding-clause-read
returns-in_err-folding-clause-read g c =
    let x = view c.args.defs.now.definitions c.args.space.now (g.P.Pages.contents c.args.pages.now) in
    let command = AggregateBy c.args.text.now c.args.calendar.now c.args.key.now c.args.from c.args.to in
    read_stopped_first g.P.Pages.tells command c.args.out.now x c.from_residual-in_err-folding.result _ c.from_residual-in_err-folding.ensures.1
    (tried_stopped g.P.Pages.tells command c.args.out.now x (Memory c.in_err-folding.field-0.0) (λ l kept. tt))

pub returns-in_err-done-clause-read : goal.returns-in_err-done-clause-read
returns-in_err-done-clause-read g c =
    let x = view c.args.defs.now.definitions c.args.space.now (g.P.Pages.contents c.args.pages.now) in
    failed_out g.P.Pages.tells (AggregateBy c.args.text.now c.args.calendar.now c.args.key.now c.args.from c.args.to) _ x _ _ c.in_err-done.field-0.0 c.from_residual-in_err-done.ensures.1 c.in_err-done.ensures.call

pub returns-in_err-say_count-in-Ok-clause-read : goal.returns-in_err-say_count-in-Ok-clause-read
returns-in_err-say_count-in-Ok-clause-read g c =
    let x = view c.args.defs.now.definitions c.args.space.now (g.P.Pages.contents c.args.pages.now) in
    trouble_out g.P.Pages.tells (AggregateBy c.args.text.now c.args.calendar.now c.args.key.now c.args.from c.args.to) _ x _ _ c.in_ok-done.done (Memory c.in_err-say_count-in-Ok.field-0.0)
    c.from_residual-in_err-say_count-in-Ok.ensures.1 c.in_ok-done.ensures.call (λ told l shows. tt)

pub returns-in-Err-clause-read : goal.returns-in-Err-clause-read
returns-in-Err-clause-read g c =
    let tells = g.P.Pages.tells in
    let x = view c.args.defs.now.definitions c.args.space.now (g.P.Pages.contents c.args.pages.now) in
    let shelf = c.in_ok-shelf.shelf in
    let items = c.in_ok-list.list in
    let read = list_read c.as_slice.result.now c.args.text.now items c.as_slice.ensures c.in_ok-list.ensures in
    trouble_out tells (AggregateBy c.args.text.now c.args.calendar.now c.args.key.now c.args.from c.args.to) _ x _ _ c.in_ok-done.done (Refused c.in-Err.refusal) refl c.in_ok-done.ensures.call (λ told l shows.
    let plan = (c.in_ok-plan.ensures _ l (defined_by shows.kept)).ok in
    by_refused tells x l c.in_ok-shelf.shape c.in_ok-shelf.ensures.laid shelf.series shelf.kind.now c.args.key.now told shows c.in_ok-shelf.ensures.found c.args.text.now items read c.in_ok-bound.bound c.in_ok-bound.ensures.value c.in_ok-bound.ensures.columns
    c.in_ok-folding.folding (c.in_ok-folding.ensures.binding, c.in_ok-folding.ensures.none) c.args.from c.args.to c.args.calendar.now c.in_ok-plan.plan.now (plan.1 ∙ ap Ok (sym plan.2)) _ c.in-Err.refusal (rw c.in-Err.is at c.in_ok-done.ensures.read))

pub returns-clause-read : goal.returns-clause-read
returns-clause-read g c =
    let tells = g.P.Pages.tells in
    let x = view c.args.defs.now.definitions c.args.space.now (g.P.Pages.contents c.args.pages.now) in
    let shelf = c.in_ok-shelf.shelf in
    let items = c.in_ok-list.list in
    let b = c.in_ok-bound.bound in
    let read = list_read c.as_slice.result.now c.args.text.now items c.as_slice.ensures c.in_ok-list.ensures in
    said_out tells (AggregateBy c.args.text.now c.args.calendar.now c.args.key.now c.args.from c.args.to) c.say_count.new.out x _ c.in_ok-done.done c.in_ok-done.ensures.call (λ told l shows.
    let plan = (c.in_ok-plan.ensures _ l (defined_by shows.kept)).ok in
    by_said tells x l c.in_ok-shelf.shape c.in_ok-shelf.ensures.laid shelf.series shelf.kind.now c.args.key.now told shows c.in_ok-shelf.ensures.found c.args.text.now items read b c.in_ok-bound.ensures.value c.in_ok-bound.ensures.columns
    c.in_ok-folding.folding (c.in_ok-folding.ensures.binding, c.in_ok-folding.ensures.none) c.args.from c.args.to c.args.calendar.now c.in_ok-plan.plan.now (plan.1 ∙ ap Ok (sym plan.2)) _ c.in-Ok.count c.say_count.new.out (rw c.in-Ok.is at c.in_ok-done.ensures.read)
    (λ rows taken number.
    rows_said c.scales.result.now (scales_of b) rows c.args.out.now c.behind-lines.result.out.now c.aggregate_by.new.visitor.out.now _ c.say_count.new.out c.behind-lines.result.scales.now c.in-Ok.count _ _ _ c.requires.empty c.behind-lines.ensures.none c.behind-lines.ensures.same
    c.behind-lines.ensures.scales c.scales.ensures.value (taken.0, taken.2) number c.in_ok-say_count-in-Ok.ensures.ok assumption))
