use Rattle.std.proofs.Common.{[], ◌∷◌, List, ℕ, ap, ◌∙◌}
use Rattle.ts_base.specs.declared.fault.Trouble.TheVariants.{Memory}
use Rattle.ts_command.specs.declared.command.Command.TheVariants.{AggregateRange}
use Rattle.ts_layout.specs.Meaning.{catalogue_of}
use Rattle.ts_answer.specs.Reply.{folded_text}
use Rattle.ts_answer.specs.View.{view}
use Rattle.ts_answer.proofs.CallerLemmas.{read_stopped_first, tried_stopped, said_line}
use Rattle.ts_shelf.proofs.MemoryLemmas.{few_elements}
use Rattle.ts_shelf.proofs.ReadingLemmas.{failed_out, trouble_out}
use Rattle.ts_shelf.proofs.SeenLemmas.{read_out}
use Rattle.ts_shelf.proofs.FoldLemmas.{list_read, list_unread, list_unbound}
use Rattle.ts_series_rows.proofs.AggregateLemmas.{range_unread, range_unknown, range_unbound, range_said}
use Rattle.ts_series_rows.proofs.aggregates.aggregate_range.Goals as goal

pub aggregate_range-requires-clause-countable : goal.aggregate_range-requires-clause-countable
aggregate_range-requires-clause-countable g c =
    few_elements (view c.args.defs.now.definitions c.args.space.now (g.P.Pages.contents c.args.pages.now)) c.requires.seen.kept c.in_ok-shelf.shelf.series c.in_ok-shelf.ensures.found.named.within

pub returns-in_err-list-clause-read : goal.returns-in_err-list-clause-read
returns-in_err-list-clause-read g c =
    let x = view c.args.defs.now.definitions c.args.space.now (g.P.Pages.contents c.args.pages.now) in
    let command = AggregateRange c.args.text.now c.args.key.now c.args.from c.args.to in
    let trouble = c.in_err-list.field-0.0 in
    read_stopped_first g.P.Pages.tells command c.args.out.now x c.from_residual.result _ c.from_residual.ensures.1
    (tried_stopped g.P.Pages.tells command c.args.out.now x trouble (λ l kept.
    range_unread c.args.text.now c.args.key.now c.args.from c.args.to (catalogue_of l) trouble (list_unread c.as_slice.result.now c.args.text.now trouble c.as_slice.ensures c.in_err-list.ensures)))

pub returns-in_err-shelf-clause-read : goal.returns-in_err-shelf-clause-read
returns-in_err-shelf-clause-read g c =
    let x = view c.args.defs.now.definitions c.args.space.now (g.P.Pages.contents c.args.pages.now) in
    let command = AggregateRange c.args.text.now c.args.key.now c.args.from c.args.to in
    let trouble = c.in_err-shelf.field-0.0 in
    let items = c.in_ok-list.list in
    let read = list_read c.as_slice.result.now c.args.text.now items c.as_slice.ensures c.in_ok-list.ensures in
    read_stopped_first g.P.Pages.tells command c.args.out.now x c.from_residual-in_err-shelf.result _ c.from_residual-in_err-shelf.ensures.1
    (tried_stopped g.P.Pages.tells command c.args.out.now x trouble (λ l kept.
    range_unknown c.args.text.now c.args.key.now c.args.from c.args.to (catalogue_of l) items read trouble (c.in_err-shelf.ensures.tried l kept).err))

pub returns-in_err-bound-clause-read : goal.returns-in_err-bound-clause-read
returns-in_err-bound-clause-read g c =
    let x = view c.args.defs.now.definitions c.args.space.now (g.P.Pages.contents c.args.pages.now) in
    let command = AggregateRange c.args.text.now c.args.key.now c.args.from c.args.to in
    let trouble = c.in_err-bound.field-0.0 in
    let items = c.in_ok-list.list in
    let read = list_read c.as_slice.result.now c.args.text.now items c.as_slice.ensures c.in_ok-list.ensures in
    read_stopped_first g.P.Pages.tells command c.args.out.now x c.from_residual-in_err-bound.result _ c.from_residual-in_err-bound.ensures.1
    (tried_stopped g.P.Pages.tells command c.args.out.now x trouble (λ l kept.
    let series = (c.in_ok-shelf.ensures.tried l kept).ok in
    range_unbound c.args.text.now c.args.key.now c.args.from c.args.to (catalogue_of l) items read series.0 series.1 trouble
    (list_unbound c.in_ok-shelf.shelf.kind.now.columns _ items trouble series.2.columns c.in_err-bound.ensures.value)))

pub returns-in_err-folding-clause-read : goal.returns-in_err-folding-clause-read
returns-in_err-folding-clause-read g c =
    let x = view c.args.defs.now.definitions c.args.space.now (g.P.Pages.contents c.args.pages.now) in
    let command = AggregateRange c.args.text.now c.args.key.now c.args.from c.args.to in
    read_stopped_first g.P.Pages.tells command c.args.out.now x c.from_residual-in_err-folding.result _ c.from_residual-in_err-folding.ensures.1
    (tried_stopped g.P.Pages.tells command c.args.out.now x (Memory c.in_err-folding.field-0.0) (λ l kept. tt))

pub returns-in_err-row-clause-read : goal.returns-in_err-row-clause-read
returns-in_err-row-clause-read g c =
    let x = view c.args.defs.now.definitions c.args.space.now (g.P.Pages.contents c.args.pages.now) in
    failed_out g.P.Pages.tells (AggregateRange c.args.text.now c.args.key.now c.args.from c.args.to) c.args.out.now x _ _ c.in_err-row.field-0.0 c.from_residual-in_err-row.ensures.1 c.in_err-row.ensures.call

pub returns-in_err-say_folded-clause-read : goal.returns-in_err-say_folded-clause-read
returns-in_err-say_folded-clause-read g c =
    let x = view c.args.defs.now.definitions c.args.space.now (g.P.Pages.contents c.args.pages.now) in
    trouble_out g.P.Pages.tells (AggregateRange c.args.text.now c.args.key.now c.args.from c.args.to) _ x _ _ c.in_ok-row.row (Memory c.in_err-say_folded.field-0.0) c.from_residual-in_err-say_folded.ensures.1
    c.in_ok-row.ensures.call (λ told l shows. tt)

pub returns-clause-read : goal.returns-clause-read
returns-clause-read g c =
    let tells = g.P.Pages.tells in
    let x = view c.args.defs.now.definitions c.args.space.now (g.P.Pages.contents c.args.pages.now) in
    let shelf = c.in_ok-shelf.shelf in
    let items = c.in_ok-list.list in
    let b = c.in_ok-bound.bound in
    let row = c.in_ok-row.row in
    let read = list_read c.as_slice.result.now c.args.text.now items c.as_slice.ensures c.in_ok-list.ensures in
    read_out tells (AggregateRange c.args.text.now c.args.key.now c.args.from c.args.to) x (g.P.Pages.contents c.aggregate_range.new.pages) row _ c.say_folded.new.out
    (said_line _ c.args.out.now c.say_folded.new.out c.requires.empty c.in_ok-say_folded.ensures.ok ∙ ap (λ (scales : List ℕ). folded_text scales ((c.args.from, row) ∷ [])) c.scales.ensures.value)
    c.in_ok-row.ensures.call (λ told l shows.
    range_said tells x l c.in_ok-shelf.shape c.in_ok-shelf.ensures.laid shelf.series shelf.kind.now c.args.key.now told shows c.in_ok-shelf.ensures.found c.args.text.now items read b c.in_ok-bound.ensures.value c.in_ok-bound.ensures.columns
    c.in_ok-folding.folding (c.in_ok-folding.ensures.binding, c.in_ok-folding.ensures.none) c.args.from c.args.to row c.aggregate_range.new.folding c.in_ok-row.ensures.folds)
