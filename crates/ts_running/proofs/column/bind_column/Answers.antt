use Rattle.std.proofs.Common.{List, sym, ap, ◌∙◌, arith}
use Rattle.ts_row.specs.declared.kind.Column.{Column}
use Rattle.ts_running.specs.Binding.{source_named}
use Rattle.ts_running.proofs.SourceLemmas.{small_scale, other_sourced}
use Rattle.ts_running.proofs.column.bind_column.Goals as goal

pub overflow_add-scale : goal.overflow_add-scale
overflow_add-scale c =
    let few = small_scale c.args.kind.now.stamp c.args.kind.now.columns c.args.name.now c.in_ok-column.field-0 c.columns.ensures.rules
    (ap (λ (l : List Column). source_named l c.args.name.now) (sym c.columns.ensures.value) ∙ c.in_ok-column.ensures) in
    omega (arith, few)

pub returns-in-Avg-clause-scale : goal.returns-in-Avg-clause-scale
returns-in-Avg-clause-scale c =
    let few = small_scale c.args.kind.now.stamp c.args.kind.now.columns c.args.name.now c.in_ok-column.field-0 c.columns.ensures.rules
    (ap (λ (l : List Column). source_named l c.args.name.now) (sym c.columns.ensures.value) ∙ c.in_ok-column.ensures) in
    omega (arith, few)

pub returns-in_default : goal.returns-in_default
returns-in_default c =
    let few = small_scale c.args.kind.now.stamp c.args.kind.now.columns c.args.name.now c.in_ok-column.field-0 c.columns.ensures.rules
    (ap (λ (l : List Column). source_named l c.args.name.now) (sym c.columns.ensures.value) ∙ c.in_ok-column.ensures) in
    record {
      value = other_sourced c.args.function c.requires.running c.in_default.not-Avg c.args.kind.now.columns c.args.name.now c.in_ok-column.field-0
          (ap (λ (l : List Column). source_named l c.args.name.now) (sym c.columns.ensures.value) ∙ c.in_ok-column.ensures);
      scale = omega (arith, few);
    }
