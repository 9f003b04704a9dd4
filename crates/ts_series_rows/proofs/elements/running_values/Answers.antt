use Rattle.std.proofs.Common.{[], ◌∷◌, ℕ, sym, ap, refl, subst, ◌∙◌}
use Rattle.std.specs.Int.{w64}
use Rattle.std.specs.Prelude.{unsigned_abs}
use Rattle.std.proofs.lemmas.Int.{to_z-of_z}
use Rattle.ts_base.specs.declared.fault.Trouble.TheVariants.{Refused, Memory}
use Rattle.ts_expr.specs.Aggregates.{item, bound}
use Rattle.ts_running.specs.Rows.{Window}
use Rattle.ts_layout.specs.Meaning.{catalogue_of}
use Rattle.ts_answer.specs.Answer.{running_values}
use Rattle.ts_answer.specs.Tried.{IsRefusedAs}
use Rattle.ts_answer.specs.View.{view}
use Rattle.ts_answer.proofs.CallerLemmas.{read_stopped_first, tried_stopped}
use Rattle.ts_shelf.proofs.MemoryLemmas.{few_elements}
use Rattle.ts_shelf.proofs.ReadingLemmas.{failed_out, trouble_out, said_out}
use Rattle.ts_series_rows.specs.Running.{running_of}
use Rattle.ts_series_rows.proofs.AggregateLemmas.{rows_said}
use Rattle.ts_series_rows.proofs.ElementLemmas.{running_is, begins_with, column_read, column_unread, column_unbound, run_unread, run_unknown, run_unbound, run_refused, run_said}
use Rattle.ts_series_rows.proofs.elements.running_values.Goals as goal

pub running_rows-requires-clause-countable : goal.running_rows-requires-clause-countable
running_rows-requires-clause-countable g c =
    few_elements (view c.args.defs.now.definitions c.args.space.now (g.P.Pages.contents c.args.pages.now)) c.requires.seen.kept c.in_ok-shelf.shelf.series c.in_ok-shelf.ensures.found.named.within

pub running_rows-requires-clause-begins : goal.running_rows-requires-clause-begins
running_rows-requires-clause-begins g c =
    begins_with c.args.function c.requires.running c.in_ok-shelf.shelf.kind.now.columns c.as_slice-2.result.now c.in_ok-item.item
    c.in_ok-window.window _ c.in_ok-item.ensures.value c.in_ok-window.ensures.ok

pub returns-in_err-column-clause-read : goal.returns-in_err-column-clause-read
returns-in_err-column-clause-read g c =
    let x = view c.args.defs.now.definitions c.args.space.now (g.P.Pages.contents c.args.pages.now) in
    let command = running_of c.args.function c.args.text.now c.args.key.now c.args.span c.args.from c.args.to in
    let trouble = c.in_err-column.field-0.0 in
    read_stopped_first g.P.Pages.tells command c.args.out.now x c.from_residual.result _ c.from_residual.ensures.1
    (tried_stopped g.P.Pages.tells command c.args.out.now x trouble (λ l kept.
    subst (IsRefusedAs trouble) (sym (running_is c.args.function c.requires.running c.args.text.now c.args.key.now c.args.span c.args.from c.args.to (catalogue_of l)))
    (run_unread c.args.function c.args.text.now c.args.key.now (unsigned_abs c.args.span) c.args.from c.args.to (catalogue_of l) trouble (column_unread c.as_slice.result.now c.args.text.now trouble c.as_slice.ensures c.in_err-column.ensures))))

pub returns-in_err-shelf-clause-read : goal.returns-in_err-shelf-clause-read
returns-in_err-shelf-clause-read g c =
    let x = view c.args.defs.now.definitions c.args.space.now (g.P.Pages.contents c.args.pages.now) in
    let command = running_of c.args.function c.args.text.now c.args.key.now c.args.span c.args.from c.args.to in
    let trouble = c.in_err-shelf.field-0.0 in
    let column = c.in_ok-column.column in
    let read = column_read c.as_slice.result.now c.args.text.now column c.as_slice.ensures c.in_ok-column.ensures in
    read_stopped_first g.P.Pages.tells command c.args.out.now x c.from_residual-in_err-shelf.result _ c.from_residual-in_err-shelf.ensures.1
    (tried_stopped g.P.Pages.tells command c.args.out.now x trouble (λ l kept.
    subst (IsRefusedAs trouble) (sym (running_is c.args.function c.requires.running c.args.text.now c.args.key.now c.args.span c.args.from c.args.to (catalogue_of l)))
    (run_unknown c.args.function c.args.text.now c.args.key.now (unsigned_abs c.args.span) c.args.from c.args.to (catalogue_of l) column read trouble (c.in_err-shelf.ensures.tried l kept).err)))

pub returns-in_err-item-clause-read : goal.returns-in_err-item-clause-read
returns-in_err-item-clause-read g c =
    let x = view c.args.defs.now.definitions c.args.space.now (g.P.Pages.contents c.args.pages.now) in
    let command = running_of c.args.function c.args.text.now c.args.key.now c.args.span c.args.from c.args.to in
    let trouble = c.in_err-item.field-0.0 in
    let column = c.in_ok-column.column in
    let read = column_read c.as_slice.result.now c.args.text.now column c.as_slice.ensures c.in_ok-column.ensures in
    read_stopped_first g.P.Pages.tells command c.args.out.now x c.from_residual-in_err-item.result _ c.from_residual-in_err-item.ensures.1
    (tried_stopped g.P.Pages.tells command c.args.out.now x trouble (λ l kept.
    let series = (c.in_ok-shelf.ensures.tried l kept).ok in
    subst (IsRefusedAs trouble) (sym (running_is c.args.function c.requires.running c.args.text.now c.args.key.now c.args.span c.args.from c.args.to (catalogue_of l)))
    (run_unbound c.args.function c.args.text.now c.args.key.now (unsigned_abs c.args.span) c.args.from c.args.to (catalogue_of l) column read series.0 series.1 trouble
    (column_unbound c.args.function c.in_ok-shelf.shelf.kind.now.columns _ c.as_slice-2.result.now column trouble series.2.columns c.as_slice-2.ensures.value c.in_err-item.ensures.value))))

pub returns-in_err-window-clause-read : goal.returns-in_err-window-clause-read
returns-in_err-window-clause-read g c =
    let x = view c.args.defs.now.definitions c.args.space.now (g.P.Pages.contents c.args.pages.now) in
    let command = running_of c.args.function c.args.text.now c.args.key.now c.args.span c.args.from c.args.to in
    read_stopped_first g.P.Pages.tells command c.args.out.now x c.from_residual-in_err-window.result _ c.from_residual-in_err-window.ensures.1
    (tried_stopped g.P.Pages.tells command c.args.out.now x (Memory c.in_err-window.field-0.0) (λ l kept. tt))

pub returns-in_err-done-clause-read : goal.returns-in_err-done-clause-read
returns-in_err-done-clause-read g c =
    let x = view c.args.defs.now.definitions c.args.space.now (g.P.Pages.contents c.args.pages.now) in
    failed_out g.P.Pages.tells (running_of c.args.function c.args.text.now c.args.key.now c.args.span c.args.from c.args.to) _ x _ _ c.in_err-done.field-0.0 c.from_residual-in_err-done.ensures.1 c.in_err-done.ensures.call

pub returns-in_err-say_count-in-Ok-clause-read : goal.returns-in_err-say_count-in-Ok-clause-read
returns-in_err-say_count-in-Ok-clause-read g c =
    let x = view c.args.defs.now.definitions c.args.space.now (g.P.Pages.contents c.args.pages.now) in
    trouble_out g.P.Pages.tells (running_of c.args.function c.args.text.now c.args.key.now c.args.span c.args.from c.args.to) _ x _ _ c.in_ok-done.done (Memory c.in_err-say_count-in-Ok.field-0.0)
    c.from_residual-in_err-say_count-in-Ok.ensures.1 c.in_ok-done.ensures.call (λ told l shows. tt)

pub returns-in-Err-clause-read : goal.returns-in-Err-clause-read
returns-in-Err-clause-read g c =
    let tells = g.P.Pages.tells in
    let x = view c.args.defs.now.definitions c.args.space.now (g.P.Pages.contents c.args.pages.now) in
    let shelf = c.in_ok-shelf.shelf in
    let column = c.in_ok-column.column in
    let read = column_read c.as_slice.result.now c.args.text.now column c.as_slice.ensures c.in_ok-column.ensures in
    trouble_out tells (running_of c.args.function c.args.text.now c.args.key.now c.args.span c.args.from c.args.to) _ x _ _ c.in_ok-done.done (Refused c.in-Err.refusal) refl c.in_ok-done.ensures.call (λ told l shows.
    running_is c.args.function c.requires.running c.args.text.now c.args.key.now c.args.span c.args.from c.args.to (catalogue_of l)
    ∙ ap (λ (n : ℕ). running_values c.args.function c.args.text.now c.args.key.now n c.args.from c.args.to (catalogue_of l)) (sym (ap (λ (w : Window). w.size) c.in_ok-window.ensures.ok ∙ c.unsigned_abs-places.ensures.value ∙ ap unsigned_abs (to_z-of_z w64 c.args.span c.ranges.span)))
    ∙ run_refused tells x l c.in_ok-shelf.shape c.in_ok-shelf.ensures.laid shelf.series shelf.kind.now c.args.key.now told shows c.in_ok-shelf.ensures.found _ c.args.function c.args.text.now column read c.in_ok-item.item
    (ap (λ name. bound shelf.kind.now.columns (item c.args.function name)) (sym c.as_slice-2.ensures.value) ∙ c.in_ok-item.ensures.value) c.in_ok-window.window.size c.args.from c.args.to c.in-Err.refusal (rw c.in-Err.is at c.in_ok-done.ensures.read))

pub returns-clause-read : goal.returns-clause-read
returns-clause-read g c =
    let tells = g.P.Pages.tells in
    let x = view c.args.defs.now.definitions c.args.space.now (g.P.Pages.contents c.args.pages.now) in
    let shelf = c.in_ok-shelf.shelf in
    let column = c.in_ok-column.column in
    let b = c.in_ok-item.item in
    let read = column_read c.as_slice.result.now c.args.text.now column c.as_slice.ensures c.in_ok-column.ensures in
    said_out tells (running_of c.args.function c.args.text.now c.args.key.now c.args.span c.args.from c.args.to) c.say_count.new.out x _ c.in_ok-done.done c.in_ok-done.ensures.call (λ told l shows.
    running_is c.args.function c.requires.running c.args.text.now c.args.key.now c.args.span c.args.from c.args.to (catalogue_of l)
    ∙ ap (λ (n : ℕ). running_values c.args.function c.args.text.now c.args.key.now n c.args.from c.args.to (catalogue_of l)) (sym (ap (λ (w : Window). w.size) c.in_ok-window.ensures.ok ∙ c.unsigned_abs-places.ensures.value ∙ ap unsigned_abs (to_z-of_z w64 c.args.span c.ranges.span)))
    ∙ run_said tells x l c.in_ok-shelf.shape c.in_ok-shelf.ensures.laid shelf.series shelf.kind.now c.args.key.now told shows c.in_ok-shelf.ensures.found _ c.args.function c.args.text.now column read b
    (ap (λ name. bound shelf.kind.now.columns (item c.args.function name)) (sym c.as_slice-2.ensures.value) ∙ c.in_ok-item.ensures.value)
    c.in_ok-window.window.size c.args.from c.args.to c.in-Ok.count c.say_count.new.out (rw c.in-Ok.is at c.in_ok-done.ensures.read)
    (λ rows taken number.
    rows_said (b.scale ∷ []) (b.scale ∷ []) rows c.args.out.now c.behind-lines.result.out.now c.running_rows.new.visitor.out.now _ c.say_count.new.out c.behind-lines.result.scales.now c.in-Ok.count _ _ _ c.requires.empty c.behind-lines.ensures.none c.behind-lines.ensures.same
    c.behind-lines.ensures.scales refl (taken.0, taken.2) number c.in_ok-say_count-in-Ok.ensures.ok assumption))
