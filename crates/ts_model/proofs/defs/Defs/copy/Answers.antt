use Rattle.std.proofs.Common.{◌≡◌, sym, subst, ◌∙◌}
use Rattle.ts_model.specs.declared.kind.Kind.TheVariants as kinds
use Rattle.ts_model.specs.Parts.{tables_of, IsPart}
use Rattle.ts_model.proofs.defs.Defs.copy.Goals as goal

pub invariant_of-result : goal.invariant_of-result
invariant_of-result c = record {
  format = c.self.invariant.format;
  of_row_types = subst (IsPart kinds.RowType) (sym c.in_ok-row_types.ensures) c.self.invariant.of_row_types;
  of_patterns = subst (IsPart kinds.Pattern) (sym c.in_ok-patterns.ensures) c.self.invariant.of_patterns;
  of_calendars = subst (IsPart kinds.Calendar) (sym c.in_ok-calendars.ensures) c.self.invariant.of_calendars;
  of_containers = subst (IsPart kinds.Container) (sym c.in_ok-containers.ensures) c.self.invariant.of_containers;
  of_series = subst (IsPart kinds.Series) (sym c.in_ok-series.ensures) c.self.invariant.of_series;
}

pub returns : goal.returns
returns c =
    (λ i. tables_of c.self.inside.format (c.in_ok-row_types.ensures i) (c.in_ok-patterns.ensures i) (c.in_ok-calendars.ensures i)
    (c.in_ok-containers.ensures i) (c.in_ok-series.ensures i))
    ∙ c.self.view_is
