use Rattle.std.proofs.Common.{Ok, List, ℕ, ap, sym, ◌∙◌}
use Rattle.ts_command.specs.declared.command.Command.TheVariants.{AggregateAll}
use Rattle.ts_model.specs.Definitions.{Definitions}
use Rattle.ts_layout.specs.Meaning.{heading_in, catalogue_of}
use Rattle.ts_answer.specs.Answer.{Answered}
use Rattle.ts_answer.specs.View.{view}
use Rattle.ts_answer.proofs.CallerLemmas.{defined_by, read_stopped_first, tried_stopped}
use Rattle.ts_expr.specs.Aggregates.{binding}
use Rattle.ts_row.specs.declared.kind.Column.{Column}
use Rattle.ts_shelf.proofs.ReadingLemmas.{said_out}
use Rattle.ts_shelf.proofs.SeenLemmas.{not_some}
use Rattle.ts_shelf.proofs.FoldLemmas.{list_read, list_unread, list_unbound}
use Rattle.ts_combined_rows.proofs.EachSeriesLemmas.{all_unread, all_unknown, all_unbound, all_come, container_columns, columns_kept, all_said}
use Rattle.ts_combined_rows.proofs.each_series.aggregate_all.Goals as goal

pub returns-in_err-list-clause-read : goal.returns-in_err-list-clause-read
returns-in_err-list-clause-read g c =
    let x = view c.args.defs.now.definitions c.args.space.now (g.P.Pages.contents c.args.pages.now) in
    let command = AggregateAll c.args.text.now c.args.container.now c.args.from c.args.to in
    let trouble = c.in_err-list.field-0.0 in
    read_stopped_first g.P.Pages.tells command c.args.out.now x c.from_residual.result _ c.from_residual.ensures.1
    (tried_stopped g.P.Pages.tells command c.args.out.now x trouble (λ l kept.
    all_unread c.args.text.now c.args.container.now c.args.from c.args.to (catalogue_of l) trouble (list_unread c.as_slice.result.now c.args.text.now trouble c.as_slice.ensures c.in_err-list.ensures)))

pub returns-in_err-slot-clause-read : goal.returns-in_err-slot-clause-read
returns-in_err-slot-clause-read g c =
    let x = view c.args.defs.now.definitions c.args.space.now (g.P.Pages.contents c.args.pages.now) in
    let command = AggregateAll c.args.text.now c.args.container.now c.args.from c.args.to in
    let trouble = c.in_err-slot.field-0.0 in
    let items = c.in_ok-list.list in
    let read = list_read c.as_slice.result.now c.args.text.now items c.as_slice.ensures c.in_ok-list.ensures in
    read_stopped_first g.P.Pages.tells command c.args.out.now x c.from_residual-in_err-slot.result _ c.from_residual-in_err-slot.ensures.1
    (tried_stopped g.P.Pages.tells command c.args.out.now x trouble (λ l kept.
    all_unknown c.args.text.now c.args.container.now c.args.from c.args.to (catalogue_of l) items read trouble (c.in_err-slot.ensures.tried _ l (defined_by kept)).err))

pub unreachable-requires : goal.unreachable-requires
unreachable-requires g c =
    let x = view c.args.defs.now.definitions c.args.space.now (g.P.Pages.contents c.args.pages.now) in
    not_some _ c.in_default.ensures (columns_kept x c.requires.seen.kept c.in_ok-slot.slot c.args.container.now c.in_ok-slot.ensures.found)

pub returns-in_err-bound-clause-read : goal.returns-in_err-bound-clause-read
returns-in_err-bound-clause-read g c =
    let x = view c.args.defs.now.definitions c.args.space.now (g.P.Pages.contents c.args.pages.now) in
    let command = AggregateAll c.args.text.now c.args.container.now c.args.from c.args.to in
    let trouble = c.in_err-bound.field-0.0 in
    let items = c.in_ok-list.list in
    let read = list_read c.as_slice.result.now c.args.text.now items c.as_slice.ensures c.in_ok-list.ensures in
    let slot = c.in_ok-slot.slot in
    let h = c.in-Some.kind.now in
    read_stopped_first g.P.Pages.tells command c.args.out.now x c.from_residual-in_err-bound.result _ c.from_residual-in_err-bound.ensures.1
    (tried_stopped g.P.Pages.tells command c.args.out.now x trouble (λ l kept.
    let there = (c.in_ok-slot.ensures.tried _ l (defined_by kept)).ok in
    let is = ap (λ (d : Definitions). heading_in d slot) (sym kept.definitions) ∙ sym c.in-Some.ensures in
    all_unbound c.args.text.now c.args.container.now c.args.from c.args.to (catalogue_of l) items read there.0 there.1 trouble
    (list_unbound h.columns _ items trouble (container_columns l c.args.container.now slot there.0 h kept.rules there.2 is) c.in_err-bound.ensures.value)))

pub returns-clause-read : goal.returns-clause-read
returns-clause-read g c =
    let tells = g.P.Pages.tells in
    let x = view c.args.defs.now.definitions c.args.space.now (g.P.Pages.contents c.args.pages.now) in
    let command = AggregateAll c.args.text.now c.args.container.now c.args.from c.args.to in
    let items = c.in_ok-list.list in
    let read = list_read c.as_slice.result.now c.args.text.now items c.as_slice.ensures c.in_ok-list.ensures in
    let slot = c.in_ok-slot.slot in
    let h = c.in-Some.kind.now in
    let b = c.in_ok-bound.bound in
    let count = c.in_ok-count.count in
    said_out tells command c.say_count.new.out x _ count c.in_ok-count.ensures.call (λ told l shows.
    let kept = shows.kept in
    let there = (c.in_ok-slot.ensures.tried _ l (defined_by kept)).ok in
    let is = ap (λ (d : Definitions). heading_in d slot) (sym kept.definitions) ∙ sym c.in-Some.ensures in
    let columns = container_columns l c.args.container.now slot there.0 h kept.rules there.2 is in
    all_come c.args.text.now c.args.container.now c.args.from c.args.to (catalogue_of l) items read there.0 there.1 b (ap (λ (cs : List Column). binding cs items) columns ∙ c.in_ok-bound.ensures.value)
    ∙ ap (λ (t : List ℕ). let a : Answered = (t, catalogue_of l) in Ok a)
    (sym (all_said l c.args.container.now slot kept.rules there.0 there.2 b c.args.from c.args.to c.args.out.now c.say_all.new.out c.say_count.new.out count c.requires.empty (c.in_ok-count.ensures.said told l shows) c.in_ok-say_count.ensures.ok)))
